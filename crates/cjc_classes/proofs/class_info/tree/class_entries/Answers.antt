use Rattle.std.proofs.Common.{refl}
use Rattle.cjc_classes.specs.ClassInfo.Refs.{ref_of}
use Rattle.cjc_classes.specs.ClassInfo.Entries.{entries_by, entries_of_table, offset_in}
use Rattle.cjc_classes.proofs.ClassInfo.Places.{pieces-end, pieces-next}
use Rattle.cjc_classes.proofs.class_info.tree.class_entries.Goals as goal

pub loop-table-preserved : goal.loop-table-preserved
loop-table-preserved c =
    let files = c.args.world.now in
    let ref = ref_of c.args.refs.now in
    let offset = offset_in c.args.offsets.now in
    pieces-next (entries_by ref offset files) (entries_of_table ref offset files) refl (λ t ts. refl) c.args.tables.now
    c.loop-table.table-index c.table-item.result c.loop-table.entries c.put_class.new.entries (entries_by ref offset
    files c.args.tables.now) c.loop-table-test.true c.table-item.is c.in_ok-put_class.ensures c.loop-table.invariant

pub returns : goal.returns
returns c =
    let files = c.args.world.now in
    let ref = ref_of c.args.refs.now in
    let offset = offset_in c.args.offsets.now in
    pieces-end (entries_by ref offset files) (entries_of_table ref offset files) refl (λ t ts. refl) c.args.tables.now
    c.loop-table.table-index c.loop-table.entries (entries_by ref offset files c.args.tables.now)
    c.loop-table-test.false c.loop-table.invariant
