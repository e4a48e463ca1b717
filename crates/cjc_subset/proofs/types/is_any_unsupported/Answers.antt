use Rattle.std.proofs.Common.{rules, tests, ◌∷◌, ◌++◌, []}
use Rattle.std.proofs.lemmas.Iterator.Consumers.{YieldsList-from_first}
use Rattle.std.proofs.lemmas.Iterator.Search.{any_from_yields_List}
use Rattle.cjc_bytes.specs.Spots.{part_by}
use Rattle.cjc_subset.specs.Types.{is_unsupported_part}
use Rattle.cjc_subset.proofs.types.is_any_unsupported.Goals as goal

pub returns : goal.returns
returns c =
    let d = c.args.desc.now in
    let all = YieldsList-from_first (λ one. part_by one.0 one.1.now) (λ rest. rest) (d.params ++ d.result ∷ [])
    c.types.ensures in
    any_from_yields_List (λ p. is_unsupported_part p) _ _ c.any.result c.any.ensures.ran
    all (λ x b q k. search (rules, tests))
