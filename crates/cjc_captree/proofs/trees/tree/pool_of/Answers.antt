use Rattle.std.proofs.Common.{◌∙◌, ap, sym, subst, map, length}
use Rattle.std.specs.Prelude.{nat_lt}
use Rattle.cjc_classes.specs.List.Listed.{ListTree}
use Rattle.cjc_exported.specs.World.Files.{Files}
use Rattle.cjc_methods.specs.Tokens.Tokens.{assigned}
use Rattle.cjc_exported.specs.Components.Package.{pool}
use Rattle.cjc_exported.specs.Components.Statics.{cell_offset}
use Rattle.cjc_classes.specs.ClassInfo.Entries.{AreOffsets}
use Rattle.cjc_classes.specs.Descriptor.Keys.{key_cell}
use Rattle.cjc_captree.proofs.TreesLaws.Trees.{cells_by_key}
use Rattle.cjc_captree.proofs.trees.tree.pool_of.Goals as goal

pub returns : goal.returns
returns c = λ p g n.
    let offsets = subst (AreOffsets p) (sym (c.items.ensures ∙ n.offsets)) (c.offsets_are_of_the_package.ensures.all p
    c.args.given.now.order.now g.by_order g.in_order) in
    let cells = c.items-2.ensures ∙ c.in_ok-cells.ensures
    ∙ ap (λ im. map (key_cell (cell_offset im)) c.args.given.now.keys.now) (sym g.by_image)
    ∙ ap (map (key_cell (cell_offset p.image))) g.by_keys ∙ cells_by_key p (pool p) in
    let tokens = g.by_tokens ∙ ap (λ (l : ListTree). assigned (nat_lt 0 (length l.applets)) c.args.given.now.world.now)
    (sym g.by_list) ∙ ap (λ (fs : Files). assigned (nat_lt 0 (length p.list.applets)) fs) (sym g.by_files) in
    ap (λ es. record { entries = es }) (c.in_ok-entries.ensures p g.by_files n.refs offsets tokens g.by_keys
    g.by_key_tokens cells)
