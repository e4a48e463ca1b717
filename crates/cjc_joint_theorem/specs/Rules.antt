-- Two worlds of classes, where what is a subtype in the first is one in the second.
use Rattle.std.specs.Prelude.{◌≡◌, ℕ, true, false, List, slice_get, Option, Some}
use Rattle.cjc_bytes.specs.declared.fault.MemberId.{MemberId}
use Rattle.cjc_code.specs.declared.insn.JInsn.{JInsn}
use Rattle.cjc_code.specs.declared.insn.JOp.TheVariants as jop
use Rattle.cjc_code.specs.Jvm as jvm
use Rattle.cjc_jvm_semantics.specs.OnePackage.{is_constructor}
use Rattle.cjc_types.specs.Fixpoint.Tables.{HasRow}
use Rattle.cjc_world.specs.Classes.{Class}
use Rattle.cjc_world.specs.Subtype.{is_subtype}
use Rattle.cjc_types.specs.declared.state.State.{State}
use Rattle.cjc_types.specs.Flow.{Body}
use Rattle.cjc_types.specs.Rules.{names_private, receiver_class}

-- a subtype stays one
abbrev pub SupersStay : List Class → List Class → Type 0
SupersStay v w = (x y : List ℕ) → is_subtype v x y ≡ true → is_subtype w x y ≡ true

-- What a reached call takes as its receiver by the first is of the class that it takes by the second.
abbrev pub CallsStay : List Class → List Class → Body → List (Option State) → Type 0
CallsStay v w b rows = (place : ℕ) (i : JInsn) (opcode : ℕ) (id : MemberId) (x : State) → slice_get b.insns place ≡
    Some i
    → HasRow rows place x → i.op ≡ jop.Call opcode id
    → is_subtype w (receiver_class v b opcode id) (receiver_class w b opcode id) ≡ true

-- the same of invokespecial of what is no constructor
abbrev pub SpecialsStay : List Class → List Class → Body → List (Option State) → Type 0
SpecialsStay v w b rows = (place : ℕ) (i : JInsn) (id : MemberId) (x : State) → slice_get b.insns place ≡ Some i
    → HasRow rows place x → i.op ≡ jop.Call jvm.invokespecial id → is_constructor id.name ≡ false
    → is_subtype w (receiver_class v b jvm.invokespecial id) (receiver_class w b jvm.invokespecial id) ≡ true

-- 206 of a reached invokespecial of what is no constructor: a private method is of the class that holds the code, so
-- the class that is named is that class or one below it; else the class that holds the code is below the one that is
-- named.
pub record SpecialFits (v : List Class) (b : Body) (id : MemberId) : Type 0 where
  pub private_one : names_private v id ≡ true → is_subtype v id.class b.class ≡ true
  pub above_holder : names_private v id ≡ false → is_subtype v b.class id.class ≡ true

-- each is such
abbrev pub SpecialsFit : List Class → Body → List (Option State) → Type 0
SpecialsFit v b rows = (place : ℕ) (i : JInsn) (id : MemberId) (x : State) → slice_get b.insns place ≡ Some i
    → HasRow rows place x → i.op ≡ jop.Call jvm.invokespecial id → is_constructor id.name ≡ false → SpecialFits v b id
