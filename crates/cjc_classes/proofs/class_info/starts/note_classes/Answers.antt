use Rattle.std.proofs.Common.{◌∙◌, ◌+◌, ℕ, sym, ap, drop}
use Rattle.std.specs.Prelude.{option_map}
use Rattle.cjc_components.specs.LowerCapRead.declared.tree.ClassRef.TheVariants.{Inside}
use Rattle.cjc_components.specs.LowerCardSemantics.Machine.Classes.{or_else}
use Rattle.cjc_classes.specs.ClassInfo.Refs.{ref_in}
use Rattle.cjc_classes.specs.ClassInfo.Infos.{spot_in, table_bytes, table_named}
use Rattle.cjc_classes.proofs.ClassInfo.Noting.{spot_done, spot_more}
use Rattle.cjc_classes.proofs.class_info.starts.note_classes.Goals as goal

pub loop-table-preserved : goal.loop-table-preserved
loop-table-preserved c = λ x.
    let classes = c.args.classes.now in
    let tables = c.args.tables.now in
    let k = c.loop-table.table-index in
    let next = c.in_ok-at.ensures ∙ ap (λ (n : ℕ). c.loop-table.at + n) c.in_ok-table_bytes.ensures in
    ap (λ (n : ℕ). or_else (ref_in c.note_class.new.refs x) (option_map Inside (spot_in (table_named classes)
    table_bytes n (drop (k + 1) tables) x))) next
    ∙ spot_more (table_named classes) table_bytes (ref_in c.loop-table.refs) (ref_in c.note_class.new.refs)
    c.loop-table.at tables k c.table-item.result c.loop-table-test.true c.table-item.is c.in_ok-note_class.ensures x
    ∙ c.loop-table.invariant x

pub returns : goal.returns
returns c = λ x.
    sym (spot_done (table_named c.args.classes.now) table_bytes (ref_in c.loop-table.refs) c.loop-table.at
    c.args.tables.now c.loop-table.table-index c.loop-table-test.false x)
    ∙ c.loop-table.invariant x
