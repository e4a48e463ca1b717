use Rattle.std.proofs.Common.{ℕ, take}
use Rattle.std.specs.Prelude.{None}
use Rattle.cjc_bytes.specs.Breaks.{IsFirstOf, each}
use Rattle.cjc_bytes.specs.Order.{FilePlace}
use Rattle.cjc_subset.specs.Names.{insn_breaks}
use Rattle.cjc_subset.proofs.naming.are_clean.Given as goal

abbrev pub invariant-loop-insn : goal.invariant-loop-insn
invariant-loop-insn l = (f : FilePlace) (place : ℕ)
    → IsFirstOf (each (λ _ x. insn_breaks l.world f l.class place l.method x) (take l.insn-index l.insns)) None
