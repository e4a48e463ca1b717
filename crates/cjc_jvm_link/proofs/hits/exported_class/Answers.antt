use Rattle.std.proofs.Common.{◌≡◌, ◌<◌, ◌≤◌, ◌+◌, ◌-◌, ◌∙◌, ap, sym, subst, length, get_or, drop}
use Rattle.std.specs.Prelude.{Some, slice_get}
use Rattle.std.specs.List.{flat_map}
use Rattle.std.proofs.lemmas.Option.{slice_get-get_or}
use Rattle.cjc_world.specs.ExportFile.declared.tree.ExportTree.{ExportTree}
use Rattle.cjc_jvm_link.proofs.Owners.{found_here, found_behind}
use Rattle.cjc_jvm_link.proofs.hits.exported_class.Goals as goal

pub returns-then-left-classes : goal.returns-then-left-classes
returns-then-left-classes c =
    let own = c.export-item.result.classes in
    let x = c.index-classes-left.result in
    let left = c.loop-export.left in
    let is : x ≡ get_or own left x = c.index-classes-left.is ∙ ap (λ ys. get_or ys left x) c.items-classes.ensures in
    let inside : left < length own = subst (λ ys. left < length ys) c.items-classes.ensures c.if-left-classes.true in
    ap (λ y. Some y) is
    ∙ sym (slice_get-get_or own left x inside)
    ∙ sym (found_here (λ (t : ExportTree). t.classes) c.args.exports.now c.loop-export.export-index c.export-item.result
    left c.loop-export-test.true c.export-item.is inside)
    ∙ c.loop-export.invariant

pub loop-export-preserved : goal.loop-export-preserved
loop-export-preserved c =
    let own = c.export-item.result.classes in
    let left = c.loop-export.left in
    let past : length own ≤ left = subst (λ ys. length ys ≤ left) c.items-classes.ensures c.if-left-classes.false in
    ap (λ ys. slice_get (flat_map (λ (t : ExportTree). t.classes) (drop (c.loop-export.export-index + 1)
    c.args.exports.now)) (left - length ys)) c.items-classes.ensures
    ∙ sym (found_behind (λ (t : ExportTree). t.classes) c.args.exports.now c.loop-export.export-index
    c.export-item.result left c.loop-export-test.true c.export-item.is past)
    ∙ c.loop-export.invariant
