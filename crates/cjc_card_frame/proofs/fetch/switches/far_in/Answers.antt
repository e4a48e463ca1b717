use Rattle.std.proofs.Common.{◌<◌, ◌+◌, ◌*◌, rules, ap, sym, ◌∙◌, refl, length, arith, Some, ℤ}
use Rattle.std.specs.Prelude.{FitsSigned}
use Rattle.std.specs.Int.{w32}
use Rattle.std.proofs.lemmas.Int.{to_z-of_z}
use Rattle.cjc_card_frame.proofs.FetchLaws.Ranges.{number_in, none_in}
use Rattle.cjc_card_frame.proofs.fetch.switches.far_in.Goals as goal

pub returns-then-place-table : goal.returns-then-place-table
returns-then-place-table c =
    let bs = c.args.table.now in
    let n = c.args.place in
    let x = c.operand.result in
    let fits : FitsSigned w32 x = search rules in
    sym (number_in bs n (2 * n) x _ refl c.operand.ensures ∙ ap (λ (y : ℤ). Some y) (sym (to_z-of_z w32 x fits)))

pub returns-else-place-table : goal.returns-else-place-table
returns-else-place-table c =
    let bs = c.args.table.now in
    let n = c.args.place in
    let few : length bs < 2 * n + 2 = omega (arith, c.if-place-table.false) in
    sym (none_in bs n few)
