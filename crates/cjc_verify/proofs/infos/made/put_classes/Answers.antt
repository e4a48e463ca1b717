use Rattle.std.proofs.Common.{◌++◌, refl}
use Rattle.cjc_classes.specs.ClassInfo.Refs.{ref_of}
use Rattle.cjc_classes.proofs.ClassInfo.Places.{pieces-end, pieces-next}
use Rattle.cjc_verify.specs.Offsets.{offset_among}
use Rattle.cjc_verify.specs.WantedBy.{class_by, classes_by}
use Rattle.cjc_verify.proofs.infos.made.put_classes.Goals as goal

pub loop-table-preserved : goal.loop-table-preserved
loop-table-preserved c =
    let files = c.args.world.now in
    let ref = ref_of c.args.refs.now in
    let offset = offset_among c.args.methods.now in
    pieces-next (classes_by ref offset files) (class_by ref offset files) refl (λ t ts. refl) c.args.tables.now
    c.loop-table.table-index c.table-item.result c.loop-table.row c.put_class.new.row (c.args.row.now
    ++ classes_by ref offset files c.args.tables.now) c.loop-table-test.true c.table-item.is c.in_ok-put_class.ensures
    c.loop-table.invariant

pub returns : goal.returns
returns c =
    let files = c.args.world.now in
    let ref = ref_of c.args.refs.now in
    let offset = offset_among c.args.methods.now in
    pieces-end (classes_by ref offset files) (class_by ref offset files) refl (λ t ts. refl) c.args.tables.now
    c.loop-table.table-index c.loop-table.row (c.args.row.now ++ classes_by ref offset files c.args.tables.now)
    c.loop-table-test.false c.loop-table.invariant
