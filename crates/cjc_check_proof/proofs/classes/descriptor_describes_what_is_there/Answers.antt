use Rattle.cjc_token_proof.proofs.ComponentsLaws.Tests.{none_in_both}
use Rattle.cjc_check_proof.proofs.classes.descriptor_describes_what_is_there.Goals as goal

pub returns : goal.returns
returns c p own methods typed near =
    none_in_both (none_in_both (none_in_both (none_in_both
    (c.descriptor_classes_are_in_order.ensures p own)
    (c.methods_are_described_in_order.ensures p own methods))
    (c.members_have_types.ensures p typed))
    (c.pool_entries_have_types.ensures.count p))
    (c.pool_entries_have_types.ensures.each p near)
