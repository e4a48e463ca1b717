use Rattle.std.proofs.Common.{◌≡◌, ◌-◌, suc, arith}
use Rattle.std.proofs.lemmas.Result.{err_from_is_err_and}
use Rattle.cjc_export.specs.ExportFile.{class_tree}
use Rattle.cjc_export.proofs.Grown.{grown_fails}
use Rattle.cjc_export.proofs.file.read_class_trees.Goals as goal

pub returns-in_err-read_class_tree : goal.returns-in_err-read_class_tree
returns-in_err-read_class_tree c =
    let p = err_from_is_err_and c.from_residual.result c.from_residual.ensures.1 in
    let left = c.loop-behind._behind in
    let more : left ≡ suc (left - 1) = omega arith in
    rw (p.1, p.2) (grown_fails (class_tree c.args.pool.now) c.args.count left (left - 1) c.args.cursor.now
    c.loop-behind.cursor c.read_class_tree.new.cursor c.loop-behind.classes c.in_err-read_class_tree.field-0.0 more
    c.in_err-read_class_tree.ensures c.loop-behind.invariant)
