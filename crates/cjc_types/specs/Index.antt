-- That instructions stand in the order of their offsets, so that one is found by its offset by halving.
use Rattle.std.specs.Prelude.{◌≡◌, ℕ, ◌<◌, List, slice_get, Some}
use Rattle.cjc_code.specs.declared.insn.JInsn.{JInsn}

-- The offsets ascend.
abbrev pub AreInOrder : List JInsn → Type 0
AreInOrder insns = (j k : ℕ) (x y : JInsn) → slice_get insns j ≡ Some x → slice_get insns k ≡ Some y → j < k
    → x.at < y.at
