use Rattle.cjc_components.specs.Package.{world}
use Rattle.cjc_vtable.proofs.Numbers.{named-number}
use Rattle.cjc_check_proof.proofs.TokensLaws.Maps.{all_maps}
use Rattle.cjc_check_proof.proofs.tokens.map_indices_are_tokens.Goals as goal

pub returns : goal.returns
returns c = λ list p sound keeps access tokens.
    let w = world p in
    let laws = c.lookup_laws.ensures in
    all_maps list p sound (laws.are_supertypes w keeps.rules.acyclic) (laws.one_supertypes w) keeps.rules tokens
    (c.maps_are_long_enough.ensures list p sound (c.imported_interfaces_are_whole.ensures list p sound))
    (c.tokens_mean_methods.ensures.public w keeps.rules (named-number p.files)) (c.asked_methods_have_tokens.ensures w
    keeps.rules keeps.interfaces access)
