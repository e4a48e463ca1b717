use Rattle.std.proofs.Common.{◌≡◌, ◌++◌, drop}
use Rattle.cjc_methods.proofs.component.bytes.put_all.Given as goal

abbrev pub invariant-loop-byte : goal.invariant-loop-byte
invariant-loop-byte l = l.out ++ drop l.byte-index l.bytes ≡ l.initial.out ++ l.bytes
