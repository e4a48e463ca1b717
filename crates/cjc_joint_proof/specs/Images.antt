-- What the static fields of several packages hold at first: each as in its own package, where the arrays of the
-- packages before stand in front.
use Rattle.std.specs.Prelude.{◌≡◌, ℕ, zero, suc, ◌+◌, List, [], ◌∷◌, length, Some, slice_get}
use Rattle.cjc_card_semantics.specs.Bytes.declared.fault.MemberId.{MemberId}
use Rattle.cjc_card_semantics.specs.Script.declared.report.FieldValue.{FieldValue}
use Rattle.cjc_card_semantics.specs.Script.declared.value.Value.{Value}
use Rattle.cjc_card_semantics.specs.Script.declared.value.Value.TheVariants.{Num, Null, Obj}
use Rattle.cjc_card_semantics.specs.Machine.Loaded.{Part}
use Rattle.cjc_exported.specs.World.Files.{Files}
use Rattle.cjc_exported.specs.World.declared.image.ArrayCell.{ArrayCell}
use Rattle.cjc_exported.specs.World.declared.image.StaticImage.{StaticImage}
use Rattle.cjc_exported.specs.World.declared.image.ValueCell.{ValueCell}
use Rattle.cjc_link_semantics.specs.JvmSemantics.Group.{package_of}

-- how many arrays stand before those of the package at a place
abbrev pub arrays_before : (images : List StaticImage) → (place : ℕ) → ℕ
arrays_before [] q = 0
arrays_before (i ∷ images) zero = 0
arrays_before (i ∷ images) (suc q) = length i.arrays + arrays_before images q

-- the same by the components
abbrev pub inits_before : (parts : List Part) → (place : ℕ) → ℕ
inits_before [] q = 0
inits_before (part ∷ parts) zero = 0
inits_before (part ∷ parts) (suc q) = (let s = part.statics in length s.array_inits) + inits_before parts q

-- a value, where so many objects stand before those of its package
abbrev pub value_behind : (before : ℕ) → Value → Value
value_behind n (Num z) = Num z
value_behind n Null = Null
value_behind n (Obj k) = Obj (n + k)

-- what a static field holds there
abbrev pub cell_behind : (before : ℕ) → FieldValue → FieldValue
cell_behind n c = record c { value = value_behind n c.value }

-- the field is of a class of the package at this place
pub record IsFieldOf (group : List Files) (q : ℕ) (f : MemberId) : Type 0 where
  pub files : Files
  pub member : slice_get group q ≡ Some files
  pub home : package_of f.class ≡ files.package_name

-- The fields that an image tells are those of classes of its package.
pub record TellOwnFields (group : List Files) (images : List StaticImage) : Type 0 where
  pub arrays : (q k : ℕ) (i : StaticImage) (a : ArrayCell) → slice_get images q ≡ Some i
      → slice_get i.arrays k ≡ Some a → IsFieldOf group q a.field
  pub others : (q k : ℕ) (i : StaticImage) (v : ValueCell) → slice_get images q ≡ Some i
      → slice_get i.others k ≡ Some v → IsFieldOf group q v.field
