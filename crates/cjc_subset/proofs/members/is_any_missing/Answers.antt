use Rattle.std.proofs.Common.{rules, tests, ◌∷◌, ◌++◌, []}
use Rattle.std.proofs.lemmas.Iterator.Consumers.{YieldsList-from_first}
use Rattle.std.proofs.lemmas.Iterator.Search.{any_from_yields_List}
use Rattle.cjc_bytes.specs.Spots.{part_by}
use Rattle.cjc_world.specs.Classes.{all_classes}
use Rattle.cjc_world.specs.Rules.{is_type_missing}
use Rattle.cjc_subset.proofs.members.is_any_missing.Goals as goal

pub returns : goal.returns
returns c =
    let d = c.args.desc.now in
    let all = YieldsList-from_first (λ one. part_by one.0 one.1.now) (λ rest. rest) (d.params ++ d.result ∷ [])
    c.types.ensures in
    any_from_yields_List (λ p. is_type_missing (all_classes c.args.world.now) p.class) _ _ c.any.result
    c.any.ensures.ran
    all (λ x b q k. search (rules, tests))
