use Rattle.std.proofs.Common.{◌∙◌, List, ap, false, map, sym}
use Rattle.cjc_components.specs.LowerVTable.declared.table.ClassTable.{ClassTable}
use Rattle.cjc_components.specs.LowerClassOrder.Classes.Numbers.{declared_at}
use Rattle.cjc_classes.specs.ClassInfo.Refs.{ref_of}
use Rattle.cjc_classes.specs.ClassInfo.Entries.{entries_by, offset_in}
use Rattle.cjc_classes.proofs.ClassInfo.Trees.{info-is}
use Rattle.cjc_classes.proofs.class_info.tree.class_info.Goals as goal

pub returns : goal.returns
returns c = λ p e refs are.
    let files = c.args.world.now in
    info-is p files e c.args.refs.now c.args.offsets.now refs are c.items.result.now c.args.tables.now.rows
    (record {
      interfaces = c.in_ok-order.ensures.order ∙ ap (map (declared_at files.classes)) (sym c.items.ensures);
      classes = c.order_laws.ensures files false;
      tables = c.requires;
    })
    c.in_ok-interfaces.interfaces c.in_ok-classes.classes c.in_ok-interfaces.ensures
    (c.in_ok-classes.ensures ∙ ap (λ (ts : List ClassTable). entries_by (ref_of c.args.refs.now)
    (offset_in c.args.offsets.now) files ts) c.items-2.ensures)
