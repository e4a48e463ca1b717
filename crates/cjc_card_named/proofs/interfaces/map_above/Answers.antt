use Rattle.std.proofs.Common.{◌≡◌, ◌+◌, ℕ, suc, ap, ◌∙◌, arith, Some}
use Rattle.cjc_card.specs.Classes.{depth}
use Rattle.cjc_card.specs.Dispatch.{map_of, tower_from}
use Rattle.cjc_card_heap.specs.Objects.{class_of}
use Rattle.cjc_card_lookups.specs.Tables.{loaded_of}
use Rattle.cjc_card_named.proofs.interfaces.map_above.Goals as goal

pub returns : goal.returns
returns c =
    let l = loaded_of c.args.tables.now in
    let d = c.depth.ensures.depth in
    let deep : c.depth.result + 1 ≡ suc (depth l) = omega (arith, d) in
    c.map_of.ensures ∙ ap (λ (n : ℕ). map_of l (tower_from l n (Some (class_of c.args.class))) (class_of c.args.interface)) deep
