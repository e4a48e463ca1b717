use Rattle.std.proofs.Common.{◌≡◌, ◌++◌, take}
use Rattle.std.specs.List.{flat_map}
use Rattle.cjc_capwrite.specs.Class.{interface_bytes}
use Rattle.cjc_capwrite.proofs.class.put_interfaces.Given as goal

abbrev pub invariant-loop-interface : goal.invariant-loop-interface
invariant-loop-interface l = l.out ≡ l.fn.out ++ flat_map interface_bytes (take l.interface-index l.interfaces)
