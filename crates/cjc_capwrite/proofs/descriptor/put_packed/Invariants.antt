use Rattle.std.proofs.Common.{◌≡◌, ◌++◌, None, drop}
use Rattle.cjc_capwrite.specs.Descriptor.{packed}
use Rattle.cjc_capwrite.proofs.descriptor.put_packed.Given as goal

abbrev pub invariant-loop-nibble : goal.invariant-loop-nibble
invariant-loop-nibble l = l.out ++ packed l.waiting (drop l.nibble-index l.nibbles) ≡ l.fn.out ++ packed None l.nibbles
