-- That narrow code names what the machine by name finds: fields, constants, and words of arguments.
use Rattle.std.specs.Prelude.{◌≡◌, ℕ, ◌+◌, List, Some, None, ℤ}
use Rattle.cjc_types.specs.Bytes.declared.fault.MemberId.{MemberId}
use Rattle.cjc_jvm_semantics.specs.LowerScript.Sorts.{signature_of}
use Rattle.cjc_types.specs.World.declared.image.StaticImage.{StaticImage}
use Rattle.cjc_types.specs.World.Files.{Files}
use Rattle.cjc_ncode.specs.Written.{Resolution, nargs_of}
use Rattle.cjc_jvm_semantics.specs.Linked.{Constant, Static, Instance, Linked}
use Rattle.cjc_jvm_semantics.specs.ByName.{linked}
use Rattle.cjc_narrow.specs.Rows.Resolved.{resolution, parameter_words}

-- A field that code of a class names: what the machine by name finds is what is written.
pub record FieldsAgree (by : Linked) (r : Resolution) (holder : List ℕ) (id : MemberId) : Type 0 where
  pub constant : (z : ℤ) → by.field holder id ≡ Some (Constant z) → r.constant id ≡ Some z
  pub static : (f : MemberId) → by.field holder id ≡ Some (Static f) → (r.constant id ≡ None) × (r.field id ≡ f)
  pub instance : (f : MemberId) → by.field holder id ≡ Some (Instance f) → r.field id ≡ f

-- in each package
abbrev pub FieldsAgreeIn : Files → StaticImage → (near : List MemberId) → Type 0
FieldsAgreeIn files image near = (holder : List ℕ) (id : MemberId)
    → FieldsAgree (linked files image) (resolution files near holder) holder id

-- the words that are written for a call of an interface's method
abbrev pub IsCounted : MemberId → Type 0
IsCounted m = nargs_of m ≡ 1 + parameter_words (signature_of m.desc)
