use Rattle.std.proofs.Common.{ℕ, take}
use Rattle.std.specs.Prelude.{None}
use Rattle.cjc_bytes.specs.Breaks.{IsFirstOf, each}
use Rattle.cjc_bytes.specs.Order.{FilePlace}
use Rattle.cjc_code.specs.ClassFile.declared.tree.ClassTree.{ClassTree}
use Rattle.cjc_code.specs.ClassFile.declared.tree.MethodTree.{MethodTree}
use Rattle.cjc_subset.specs.Checks.{insn_breaks}
use Rattle.cjc_subset.proofs.checking.are_clean.Given as goal

abbrev pub invariant-loop-insn : goal.invariant-loop-insn
invariant-loop-insn l = (f : FilePlace) (c : ClassTree) (place : ℕ) (m : MethodTree)
    → IsFirstOf (each (λ _ x. insn_breaks l.world l.settings f c place m x) (take l.insn-index l.insns)) None
