use Rattle.std.proofs.Common.{◌∙◌, ap, sym, subst}
use Rattle.std.specs.Prelude.{Some}
use Rattle.cjc_classes.specs.ClassInfo.Entries.{AreOffsets}
use Rattle.cjc_captree.proofs.trees.tree.put_package.Goals as goal

pub returns : goal.returns
returns c = λ p g n.
    let export = c.in_ok-export.ensures p g n in
    let header = c.in_ok-header.ensures p g export in
    let applet = c.in_ok-applet.ensures p g.by_list g.by_files (subst (AreOffsets p) (sym (c.items.ensures ∙ n.offsets))
    (c.offsets_are_of_the_package.ensures.all p c.args.given.now.order.now g.by_order g.in_order)) in
    let import = ap (λ x. Some x) (c.in_ok-import.ensures p g.by_files) in
    (λ i. record c.args.tree.now { export = export i; header = header i; applet = applet i; import = import i })
