use Rattle.std.proofs.Common.{List, ℕ}
use Rattle.std.proofs.lemmas.Result.{err_from_is_err_and}
use Rattle.cjc_cmd_check.specs.LowerShelf.Command.Plan.{read}
use Rattle.cjc_cmd_check.proofs.ShelfGathering.{gathers_then, gathers_end}
use Rattle.cjc_cmd_compat.specs.Compat.{Compares, plan_of_new}
use Rattle.cjc_cmd_compat.proofs.comparing.gather_compat.Goals as goal

pub returns-in_err-bytes : goal.returns-in_err-bytes
returns-in_err-bytes g c =
    let p = err_from_is_err_and c.from_residual.result c.from_residual.ensures.1 in
    rw (p.1, p.2) (gathers_end (read c.args.old.now) (λ (bytes : List ℕ). plan_of_new c.args.new.now bytes)
    (Compares c.args.old.now c.args.new.now) _ _ _ c.in_err-bytes.ensures.gathers)

pub returns : goal.returns
returns g c = gathers_then (read c.args.old.now) (λ (bytes : List ℕ). plan_of_new c.args.new.now bytes)
    (Compares c.args.old.now c.args.new.now) _ _ _ _ _ c.in_ok-bytes.ensures.gathers
    (rw c.items.ensures at c.gather_new.ensures)
