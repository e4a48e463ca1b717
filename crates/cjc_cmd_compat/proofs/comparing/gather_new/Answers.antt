use Rattle.std.proofs.Common.{List, ℕ}
use Rattle.std.proofs.lemmas.Result.{err_from_is_err_and}
use Rattle.cjc_cmd_check.specs.LowerShelf.Command.Plan.{has, read}
use Rattle.cjc_cmd_check.proofs.ShelfGathering.{gathers_then, gathers_end}
use Rattle.cjc_cmd_check.proofs.ShelfJudging.{gathers_judged}
use Rattle.cjc_cmd_compat.specs.Compat.{Compares}
use Rattle.cjc_cmd_compat.proofs.comparing.gather_new.Goals as goal

pub returns-in_err-more : goal.returns-in_err-more
returns-in_err-more g c =
    let p = err_from_is_err_and c.from_residual.result c.from_residual.ensures.1 in
    rw (p.1, p.2) (gathers_end (read c.args.new.now) (λ (more : List ℕ). has (c.args.bytes.now, more))
    (Compares c.args.old.now c.args.new.now) _ _ _ c.in_err-more.ensures.gathers)

pub returns : goal.returns
returns g c = gathers_then (read c.args.new.now) (λ (more : List ℕ). has (c.args.bytes.now, more))
    (Compares c.args.old.now c.args.new.now) _ _ _ _ _ c.in_ok-more.ensures.gathers
    (gathers_judged _ (Compares c.args.old.now c.args.new.now) _ _ (rw c.items.ensures at c.judge.ensures))
