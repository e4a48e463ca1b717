use Rattle.std.proofs.Common.{◌∙◌, ℕ, List, false, sym, ap, map}
use Rattle.std.specs.Prelude.{option_map}
use Rattle.cjc_world.specs.ClassFile.declared.tree.ClassTree.{ClassTree}
use Rattle.cjc_world.specs.ExportFile.declared.tree.ExportTree.{ExportTree}
use Rattle.cjc_components.specs.LowerCapRead.declared.tree.ClassRef.TheVariants.{Inside}
use Rattle.cjc_components.specs.LowerCardSemantics.Machine.Classes.{external_from, or_else}
use Rattle.cjc_components.specs.LowerVTable.declared.table.ClassTable.{ClassTable}
use Rattle.cjc_components.specs.Names.{ref_to}
use Rattle.cjc_world.specs.Classes.{all_classes}
use Rattle.cjc_components.specs.LowerClassOrder.Classes.Numbers.{declared_at}
use Rattle.cjc_classes.specs.ClassInfo.Refs.{ref_in}
use Rattle.cjc_classes.specs.ClassInfo.Infos.{bytes_at, end_of, spot_in, table_bytes, table_named}
use Rattle.cjc_classes.proofs.ClassInfo.Spotted.{refs-are}
use Rattle.cjc_classes.proofs.class_info.infos.class_refs.Goals as goal

pub returns : goal.returns
returns c = λ p e.
    let files = c.args.world.now in
    let ns = c.items.result.now in
    let trees = c.items-2.ensures ∙ c.classes.ensures in
    let tables = c.items-3.ensures in
    let exports = c.items-4.ensures ∙ c.exports.ensures in
    refs-are p files e ns c.args.tables.now.rows (ref_in c.new-refs.result) (ref_in c.note_interfaces.new.refs)
    (ref_in c.note_classes.new.refs) c.note_files.new.refs
    (record {
      interfaces = c.in_ok-order.ensures.order ∙ ap (map (declared_at files.classes)) (sym c.items.ensures);
      classes = c.order_laws.ensures files false;
      tables = c.requires;
      none = c.new-refs.ensures;
      first = c.in_ok-first.ensures.noted;
      second = λ x. c.in_ok-note_classes.ensures x
          ∙ ap (λ (ts : List ClassTree). or_else (ref_in c.note_interfaces.new.refs x)
          (option_map Inside (spot_in (table_named ts) table_bytes c.in_ok-first.first c.items-3.result.now x)))
          trees
          ∙ ap (λ (n : ℕ). or_else (ref_in c.note_interfaces.new.refs x)
          (option_map Inside (spot_in (table_named files.classes) table_bytes n c.items-3.result.now x)))
          c.in_ok-first.ensures.end
          ∙ ap (λ (rows : List ClassTable). or_else (ref_in c.note_interfaces.new.refs x)
          (option_map Inside (spot_in (table_named files.classes) table_bytes
          (end_of (bytes_at (all_classes files) files.classes) 2 ns) rows x))) tables;
      third = λ x. c.in_ok-note_files.ensures x
          ∙ ap (λ (ts : List ExportTree). or_else (ref_in c.note_classes.new.refs x)
          (option_map ref_to (external_from 0 ts x))) exports;
    })
