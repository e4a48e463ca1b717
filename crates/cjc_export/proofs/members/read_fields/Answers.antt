use Rattle.std.proofs.Common.{◌≡◌, ◌-◌, suc, arith}
use Rattle.std.proofs.lemmas.Result.{err_from_is_err_and}
use Rattle.cjc_export.specs.Members.{field}
use Rattle.cjc_export.proofs.Grown.{grown_fails}
use Rattle.cjc_export.proofs.members.read_fields.Goals as goal

pub returns-in_err-read_field : goal.returns-in_err-read_field
returns-in_err-read_field c =
    let p = err_from_is_err_and c.from_residual.result c.from_residual.ensures.1 in
    let left = c.loop-behind._behind in
    let more : left ≡ suc (left - 1) = omega arith in
    rw (p.1, p.2) (grown_fails (field c.args.pool.now) c.args.count left (left - 1) c.args.cursor.now
    c.loop-behind.cursor c.read_field.new.cursor c.loop-behind.fields c.in_err-read_field.field-0.0 more
    c.in_err-read_field.ensures c.loop-behind.invariant)
