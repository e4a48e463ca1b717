use Rattle.std.proofs.Common.{◌≡◌, drop}
use Rattle.cjc_bytes.specs.Found.{each}
use Rattle.cjc_bytes.proofs.Loops.{after}
use Rattle.cjc_code.specs.Named.{named}
use Rattle.cjc_code.proofs.named.all_named.Given as goal

abbrev pub invariant-loop-insn : goal.invariant-loop-insn
invariant-loop-insn l = after l.all (each (named l.pool) (drop l.insn-index l.insns)) ≡ each (named l.pool) l.insns
