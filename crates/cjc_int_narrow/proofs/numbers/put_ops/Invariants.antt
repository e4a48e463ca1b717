use Rattle.std.proofs.Common.{◌≡◌, ◌++◌, map, take}
use Rattle.cjc_ncode.specs.declared.narrow.NInsn.TheVariants.{Op}
use Rattle.cjc_int_narrow.proofs.numbers.put_ops.Given as goal

abbrev pub invariant-loop-op : goal.invariant-loop-op
invariant-loop-op l = l.out ≡ l.fn.out ++ map Op (take l.op-index l.ops)
