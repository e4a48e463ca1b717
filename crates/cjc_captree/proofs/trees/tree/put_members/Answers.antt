use Rattle.std.proofs.Common.{◌∙◌, ap, sym, subst}
use Rattle.std.specs.Prelude.{Some}
use Rattle.cjc_exported.specs.Components.Statics.{static_field}
use Rattle.cjc_classes.specs.ClassInfo.Entries.{AreOffsets}
use Rattle.cjc_captree.proofs.trees.tree.put_members.Goals as goal

pub returns : goal.returns
returns c = λ p g n.
    let pool = ap (λ x. Some x) (c.in_ok-pool.ensures p g n) in
    let class = ap (λ x. Some x) (c.in_ok-class.ensures p g.by_files n.refs (subst (AreOffsets p) (sym (c.items.ensures
    ∙ n.offsets)) (c.offsets_are_of_the_package.ensures.all p c.args.given.now.order.now g.by_order g.in_order))) in
    let statics = ap (λ x. Some x) (c.in_ok-statics.ensures ∙ ap static_field (sym g.by_image)) in
    let descriptor = ap (λ x. Some x) (c.in_ok-descriptor.ensures p g n) in
    (λ i. record c.args.tree.now { pool = pool i; class = class i; statics = statics i; descriptor = descriptor i })
