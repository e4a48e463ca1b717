use Rattle.std.proofs.Common.{◌≡◌, ◌++◌, take}
use Rattle.std.specs.List.{flat_map}
use Rattle.cjc_capwrite.specs.Class.{implemented_bytes}
use Rattle.cjc_capwrite.proofs.class.put_implemented_interfaces.Given as goal

abbrev pub invariant-loop-implemented : goal.invariant-loop-implemented
invariant-loop-implemented l = l.out ≡ l.fn.out ++ flat_map implemented_bytes (take l.implemented-index l.interfaces)
