use Rattle.std.proofs.Common.{◌≡◌, ◌++◌, drop}
use Rattle.cjc_classes.specs.ClassInfo.Refs.{ref_of}
use Rattle.cjc_verify.specs.Offsets.{offset_among}
use Rattle.cjc_verify.specs.WantedBy.{classes_by}
use Rattle.cjc_verify.proofs.infos.made.put_classes.Given as goal

abbrev pub invariant-loop-table : goal.invariant-loop-table
invariant-loop-table l = l.row ++ classes_by (ref_of l.refs) (offset_among l.methods) l.world
    (drop l.table-index l.tables) ≡ l.fn.row ++ classes_by (ref_of l.refs) (offset_among l.methods) l.world l.tables
