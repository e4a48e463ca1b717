use Rattle.std.proofs.Common.{◌≡◌, ◌++◌, map, take}
use Rattle.cjc_ncode.specs.IntCode.IntCode.{dropped}
use Rattle.cjc_int_narrow.proofs.stack.put_dropped.Given as goal

abbrev pub invariant-loop-is_reference : goal.invariant-loop-is_reference
invariant-loop-is_reference l = l.out ≡ l.fn.out ++ map dropped (take l.is_reference-index l.cells)
