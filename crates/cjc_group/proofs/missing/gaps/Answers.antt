use Rattle.std.proofs.Common.{◌<◌, ◌≤◌, ◌∙◌, ◌++◌, List, [], length, get_or, take, ap, subst}
use Rattle.std.specs.List.{flat_map}
use Rattle.std.proofs.lemmas.List.{take_all}
use Rattle.cjc_world.specs.ExportFile.declared.tree.ExportClass.{ExportClass}
use Rattle.cjc_world.specs.ExportFile.declared.tree.ExportTree.{ExportTree}
use Rattle.cjc_world.specs.Files.{Files}
use Rattle.cjc_group.specs.Missing.{missing_above}
use Rattle.cjc_group.proofs.Missed.{flat_next}
use Rattle.cjc_group.proofs.missing.gaps.Goals as goal

pub loop-tree-preserved : goal.loop-tree-preserved
loop-tree-preserved c =
    let group = c.args.group.now in
    let p = c.args.member.now in
    let i = c.loop-tree.tree-index in
    let t = c.tree-item.result in
    let all = c.items-trees.ensures ∙ c.exports.ensures ∙ ap (λ (f : Files). f.exports) c.world.ensures in
    let within = subst (λ (ts : List ExportTree). i < length ts) all c.loop-tree-test.true in
    let is = c.tree-item.is ∙ ap (λ (ts : List ExportTree). get_or ts i t) all in
    flat_next (λ (t : ExportTree). missing_above group p t.classes) p.files.exports i t [] _ _ within is
    c.loop-tree.invariant
    (c.in_ok-put_missing.ensures ∙ ap (λ (es : List ExportClass). c.loop-tree.names ++ missing_above group p es)
    c.items.ensures)

pub returns : goal.returns
returns c =
    let group = c.args.group.now in
    let p = c.args.member.now in
    let all = c.items-trees.ensures ∙ c.exports.ensures ∙ ap (λ (f : Files). f.exports) c.world.ensures in
    let past = subst (λ (ts : List ExportTree). length ts ≤ c.loop-tree.tree-index) all c.loop-tree-test.false in
    c.loop-tree.invariant ∙ ap (λ ts. flat_map (λ (t : ExportTree). missing_above group p t.classes) ts)
    (take_all c.loop-tree.tree-index p.files.exports past)
