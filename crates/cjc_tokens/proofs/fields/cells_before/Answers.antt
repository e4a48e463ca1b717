use Rattle.std.proofs.Common.{arith, nat_lt, zero-add}
use Rattle.cjc_tokens.specs.Fields.{group}
use Rattle.cjc_tokens.proofs.Sums.{some_cells}
use Rattle.cjc_tokens.proofs.fields.cells_before.Goals as goal

pub loop-field-init : goal.loop-field-init
loop-field-init c = let h = some_cells (λ g. nat_lt (group g) c.args.place) c.args.fields.now in let r = c.requires
    in record { rest = zero-add _; few = omega arith }
