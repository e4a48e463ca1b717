use Rattle.std.proofs.lemmas.Result.{on_ok_weaker}
use Rattle.cjc_export.proofs.BytesFirsts.{at_same}
use Rattle.cjc_compat.proofs.Keeping.{references_kept}
use Rattle.cjc_compat.proofs.versions.compat.Goals as goal

pub returns-clause-unbroken : goal.returns-clause-unbroken
returns-clause-unbroken c = c.answer.ensures.ok _ (c.first.ensures _ _ (at_same 741 _ c.is_other_package.ensures
    c.of_class.ensures c.broken-package.ensures) c.in_ok-classes.ensures)

pub returns-clause-refused : goal.returns-clause-refused
returns-clause-refused c = c.answer.ensures.refused _ (c.first.ensures _ _ (at_same 741 _ c.is_other_package.ensures
    c.of_class.ensures c.broken-package.ensures) c.in_ok-classes.ensures)

pub returns-clause-keeps : goal.returns-clause-keeps
returns-clause-keeps c = on_ok_weaker _ (λ e. references_kept c.args.file.now c.args.old.now c.args.new.now e)
    (c.answer.ensures.ok _ (c.first.ensures _ _ (at_same 741 _ c.is_other_package.ensures c.of_class.ensures
    c.broken-package.ensures) c.in_ok-classes.ensures))
