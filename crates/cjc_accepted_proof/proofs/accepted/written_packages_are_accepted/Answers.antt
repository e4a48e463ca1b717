use Rattle.cjc_accepted_proof.proofs.AcceptedLaws.{accepted}
use Rattle.cjc_accepted_proof.proofs.accepted.written_packages_are_accepted.Goals as goal

pub returns : goal.returns
returns c codes p image has typed near card named headers abstracts code = accepted p
    (c.infos_are_of_their_classes.ensures.tables p has) (c.infos_are_of_their_classes.ensures.heads p has)
    (c.arrays_are_of_their_fields.ensures p codes image)
    (c.descriptor_says_what_the_package_says.ensures p typed near card named) headers abstracts code
