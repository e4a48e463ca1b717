use Rattle.std.proofs.Common.{◌≡◌, ◌++◌, drop}
use Rattle.cjc_class_info.specs.Refs.{ref_of}
use Rattle.cjc_class_info.specs.Entries.{interface_entries}
use Rattle.cjc_class_info.proofs.tree.interface_entries.Given as goal

abbrev pub invariant-loop-number : goal.invariant-loop-number
invariant-loop-number l = l.entries ++ interface_entries (ref_of l.refs) l.world (drop l.number-index l.order) ≡ interface_entries (ref_of l.refs) l.world l.order
