use Rattle.std.proofs.Common.{◌≡◌, ◌++◌, drop}
use Rattle.cjc_classes.specs.ClassInfo.Refs.{ref_of}
use Rattle.cjc_classes.specs.ClassInfo.Entries.{entries_by, offset_in}
use Rattle.cjc_classes.proofs.class_info.tree.class_entries.Given as goal

abbrev pub invariant-loop-table : goal.invariant-loop-table
invariant-loop-table l = l.entries ++ entries_by (ref_of l.refs) (offset_in l.offsets) l.world
    (drop l.table-index l.tables) ≡ entries_by (ref_of l.refs) (offset_in l.offsets) l.world l.tables
