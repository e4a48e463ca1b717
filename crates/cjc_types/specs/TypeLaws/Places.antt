-- What the instructions of a method name: the places to which they lead, and locals.
use Rattle.std.specs.Prelude.{◌≡◌, ℕ, List, slice_get, Option, Some, None}
use Rattle.cjc_code.specs.declared.insn.JInsn.{JInsn}
use Rattle.cjc_code.specs.declared.insn.JOp.{JOp}
use Rattle.cjc_code.specs.declared.insn.JOp.TheVariants as jop
use Rattle.cjc_types.specs.Flow.{place_at}

-- An instruction stands at the offset, and this is its place.
pub record IsPlaceOf (insns : List JInsn) (offset place : ℕ) : Type 0 where
  pub insn : JInsn
  pub is_insn : slice_get insns place ≡ Some insn
  pub stands : insn.at ≡ offset
  pub found : place_at insns offset ≡ Some place

-- an instruction stands at the offset
abbrev pub HasPlace : List JInsn → (offset : ℕ) → Type 0
HasPlace insns offset = (place : ℕ) × IsPlaceOf insns offset place

-- the local that an instruction loads, stores or changes
abbrev pub local_of : JOp → Option ℕ
local_of (jop.Load refs k) = Some k
local_of (jop.Store refs k) = Some k
local_of (jop.Inc k by) = Some k
local_of _ = None
