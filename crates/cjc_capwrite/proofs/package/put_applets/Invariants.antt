use Rattle.std.proofs.Common.{◌≡◌, ◌++◌, take}
use Rattle.std.specs.List.{flat_map}
use Rattle.cjc_capwrite.specs.Package.{applet_entry_bytes}
use Rattle.cjc_capwrite.proofs.package.put_applets.Given as goal

abbrev pub invariant-loop-entry : goal.invariant-loop-entry
invariant-loop-entry l = l.out ≡ l.fn.out ++ flat_map applet_entry_bytes (take l.entry-index l.applets)
