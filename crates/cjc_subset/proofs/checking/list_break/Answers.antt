use Rattle.std.proofs.Common.{ℕ, List, length, ap, ◌∙◌}
use Rattle.std.specs.Prelude.{nat_lt}
use Rattle.cjc_bytes.specs.declared.settings.AppletLine.{AppletLine}
use Rattle.cjc_code.specs.ClassFile.declared.tree.ClassTree.{ClassTree}
use Rattle.cjc_world.specs.Classes.{all_classes}
use Rattle.cjc_subset.specs.Applets.{has_unfit_applets}
use Rattle.cjc_subset.specs.Checks.{list_breaks}
use Rattle.cjc_bytes.proofs.Firsts.{at_same}
use Rattle.cjc_subset.proofs.checking.list_break.Goals as goal

pub returns : goal.returns
unfolding list_breaks
returns c =
    let here = c.of_list-spot.ensures in
    let w = all_classes c.args.world.now in
    let applets = c.items-applets.ensures in
    c.first-4.ensures _ _
    (c.first-3.ensures _ _
    (c.first-2.ensures _ _
    (c.first-front.ensures _ _
    (c.first.ensures _ _
    (c.first-exports.ensures _ _ c.exports_break.ensures
    (at_same 309 _ (c.has_unfit_applets.ensures ∙ ap (λ (xs : List AppletLine). has_unfit_applets w xs) applets) here
    c.broken-unfit.ensures))
    (at_same 401 _ c.has_many_exported.ensures here c.broken-exported.ensures))
    (at_same 402 _ (ap (λ (xs : List ClassTree). nat_lt 255 (length xs)) (c.items.ensures ∙ c.classes.ensures)) here
    c.broken-classes.ensures))
    (at_same 407 _ c.has_many_handlers.ensures here c.broken-handlers.ensures))
    (at_same 408 _ (ap (λ (xs : List ℕ). nat_lt 255 (length xs)) c.package.ensures) here c.broken-package.ensures))
    (at_same 409 _ (ap (λ (xs : List AppletLine). nat_lt 255 (length xs)) applets) here c.broken-lines.ensures)
