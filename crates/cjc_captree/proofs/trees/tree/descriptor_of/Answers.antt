use Rattle.std.proofs.Common.{◌≡◌, ◌∙◌, ap, sym, map, length}
use Rattle.std.specs.Prelude.{nat_lt, Some}
use Rattle.cjc_classes.specs.List.Listed.{ListTree}
use Rattle.cjc_exported.specs.World.Files.{Files}
use Rattle.cjc_exported.specs.World.Order.{class_order}
use Rattle.cjc_methods.specs.Tokens.Tokens.{assigned}
use Rattle.cjc_exported.specs.Components.Package.{world}
use Rattle.cjc_classes.specs.ClassInfo.Refs.{ref_of}
use Rattle.cjc_classes.specs.TypeInfo.TypeTable.{AreOf, class_at}
use Rattle.cjc_captree.proofs.trees.tree.descriptor_of.Goals as goal

pub returns : goal.returns
returns c = λ p g n.
    let tokens = g.by_tokens ∙ ap (λ (l : ListTree). assigned (nat_lt 0 (length l.applets)) c.args.given.now.world.now)
    (sym g.by_list) ∙ ap (λ (fs : Files). assigned (nat_lt 0 (length p.list.applets)) fs) (sym g.by_files) in
    let order : map Some (class_order (world p)) ≡ map (class_at c.args.given.now.world.now.classes)
    c.items-order.result.now =
    n.order ∙ ap (λ (fs : Files). map (class_at fs.classes) c.args.names.now.order) g.by_files
    ∙ ap (map (class_at c.args.given.now.world.now.classes)) (sym c.items-order.ensures) in
    let of : AreOf p c.args.given.now.world.now c.items-order.result.now c.args.given.now.keys.now
    (ref_of c.args.names.now.refs) = record {
      by_files = g.by_files;
      in_order = order;
      by_keys = g.by_keys;
      by_refs = (λ i name. n.refs name i);
    } in
    c.descriptor-made.ensures p (record {
      of = of;
      by_tokens = tokens;
      by_cells = c.items.ensures ∙ n.cells;
      by_extents = g.by_extents;
      by_types = c.in_ok-types.ensures p of;
    })
