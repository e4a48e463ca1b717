use Rattle.std.proofs.Common.{◌≡◌, ◌-◌, suc, arith}
use Rattle.std.proofs.lemmas.Result.{err_from_is_err_and}
use Rattle.cjc_export.specs.Members.{method}
use Rattle.cjc_export.proofs.Grown.{grown_fails}
use Rattle.cjc_export.proofs.members.read_methods.Goals as goal

pub returns-in_err-read_method : goal.returns-in_err-read_method
returns-in_err-read_method c =
    let p = err_from_is_err_and c.from_residual.result c.from_residual.ensures.1 in
    let left = c.loop-behind._behind in
    let more : left ≡ suc (left - 1) = omega arith in
    rw (p.1, p.2) (grown_fails (method c.args.pool.now c.args.of_interface c.args.count) c.args.count left (left - 1)
    c.args.cursor.now c.loop-behind.cursor c.read_method.new.cursor c.loop-behind.methods
    c.in_err-read_method.field-0.0 more c.in_err-read_method.ensures c.loop-behind.invariant)
