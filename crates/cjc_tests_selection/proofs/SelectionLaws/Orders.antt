-- Loops over the instructions of a method.
use Rattle.std.proofs.Common.{◌≡◌, ◌⊎◌, ℕ, zero, suc, ◌+◌, ◌-◌, ◌<◌, ◌≤◌, refl, sym, ap, subst, ◌∙◌, inl, inr, arith}
use Rattle.std.proofs.Common.{List, length, get_or, slice_get, Some}
use Rattle.std.proofs.lemmas.Bool.{cases_lt}
use Rattle.std.proofs.lemmas.Option.{get_or_from_slice_get, slice_get_within}
use Rattle.cjc_examples.specs.Bytecode.declared.insn.JInsn.{JInsn}
use Rattle.cjc_examples.specs.Script.Sorts.{Signature, signature_of}
use Rattle.cjc_examples.specs.LowerNarrow.Rows.Resolved.{argument_words, parameter_words}
use Rattle.cjc_examples.specs.NCode.Written.{words_by}
use Rattle.cjc_examples.specs.LowerNarrow.Written.Operands.{CanBeSaid, IsAscending}

-- what is said of the instructions below a place
abbrev pub AreSaid : List JInsn → (n : ℕ) → Type 0
AreSaid insns n = (k : ℕ) (i : JInsn) → k < n → slice_get insns k ≡ Some i → CanBeSaid i.op

abbrev pub Ascend : List JInsn → (n : ℕ) → Type 0
Ascend insns n = (j k : ℕ) (x y : JInsn) → slice_get insns j ≡ Some x → slice_get insns k ≡ Some y → j < k → k < n
    → x.at < y.at
