use Rattle.std.proofs.Common.{◌≡◌, ◌++◌, drop}
use Rattle.cjc_classes.specs.ClassInfo.Refs.{ref_of}
use Rattle.cjc_classes.specs.ClassInfo.Entries.{interface_entries}
use Rattle.cjc_classes.proofs.class_info.tree.interface_entries.Given as goal

abbrev pub invariant-loop-number : goal.invariant-loop-number
invariant-loop-number l = l.entries ++ interface_entries (ref_of l.refs) l.world (drop l.number-index l.order)
    ≡ interface_entries (ref_of l.refs) l.world l.order
