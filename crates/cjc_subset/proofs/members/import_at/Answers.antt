use Rattle.std.proofs.Common.{◌-◌, ◌<◌, ◌+◌, drop, length, sym, ap, ◌∙◌, subst, refl, ◌≤◌}
use Rattle.std.specs.Prelude.{slice_get}
use Rattle.std.proofs.lemmas.Option.{slice_get_read}
use Rattle.cjc_subset.specs.Members.{imports}
use Rattle.cjc_subset.proofs.Files.{import_here, import_on}
use Rattle.cjc_subset.proofs.members.import_at.Goals as goal

pub returns-then-left-classes : goal.returns-then-left-classes
returns-then-left-classes c =
    let within = subst (λ cs. c.loop-tree.left < length cs) c.items-classes.ensures c.if-left-classes.true in
    sym (slice_get_read c.items-classes.result.now (length c.items-classes.result.now) c.loop-tree.left
    c.index-classes-left.result refl c.if-left-classes.true c.index-classes-left.is)
    ∙ ap (λ cs. slice_get cs c.loop-tree.left) c.items-classes.ensures
    ∙ sym (import_here c.args.exports.now c.loop-tree.tree-index c.tree-item.result c.loop-tree-test.true c.tree-item.is
    c.loop-tree.left within)
    ∙ c.loop-tree.invariant

pub loop-tree-preserved : goal.loop-tree-preserved
loop-tree-preserved c =
    let past = subst (λ cs. length cs ≤ c.loop-tree.left) c.items-classes.ensures c.if-left-classes.false in
    ap (λ cs. slice_get (imports (drop (c.loop-tree.tree-index + 1) c.args.exports.now)) (c.loop-tree.left - length cs))
    c.items-classes.ensures
    ∙ sym (import_on c.args.exports.now c.loop-tree.tree-index c.tree-item.result c.loop-tree-test.true c.tree-item.is
    c.loop-tree.left past)
    ∙ c.loop-tree.invariant
