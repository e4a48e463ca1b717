-- What the static cells of the machine by name hold after initialisers, by what was put into each field.
use Rattle.std.specs.Prelude.{◌≡◌, ℕ, List, slice_get, Some, None, true}
use Rattle.cjc_bytes.specs.declared.fault.MemberId.{MemberId}
use Rattle.cjc_world.specs.ClassFile.declared.tree.ClassTree.{ClassTree}
use Rattle.cjc_world.specs.ClassFile.declared.tree.FieldTree.{FieldTree}
use Rattle.cjc_clinit.specs.Bytecode.declared.method_code.MethodCode.{MethodCode}
use Rattle.cjc_jvm_semantics.specs.LowerScript.declared.value.Value.{Value}
use Rattle.cjc_jvm_semantics.specs.LowerScript.declared.value.Value.TheVariants.{Num, Null}
use Rattle.cjc_jvm_semantics.specs.LowerScript.declared.report.FieldValue.{FieldValue}
use Rattle.cjc_world.specs.declared.image.ArrayCell.{ArrayCell}
use Rattle.cjc_world.specs.Files.{Files}
use Rattle.cjc_clinit.specs.declared.stage.Held.{Held}
use Rattle.cjc_clinit.specs.declared.stage.Held.TheVariants as held
use Rattle.cjc_clinit.specs.Fields.{is_cell}
use Rattle.cjc_clinit.specs.Image.{field_id, initialised}
use Rattle.cjc_jvm_semantics.specs.Effects.{value_in}
use Rattle.cjc_jvm_semantics.specs.OnePackage.{array_place}
use Rattle.cjc_world_proof.specs.Initialisers.Packages.{first_value}

-- The value of a field by what was put into it: what its file says where nothing was, the number, null, or the field's
-- array
-- among these; no array is another field's.
abbrev pub IsValue : List ArrayCell → MemberId → FieldTree → Held → Value → Type 0
IsValue arrays id f held.Nothing v = (v ≡ first_value f) × (array_place 0 arrays id ≡ None)
IsValue arrays id f (held.Number z) v = (v ≡ Num z) × (array_place 0 arrays id ≡ None)
IsValue arrays id f held.Null v = (v ≡ Null) × (array_place 0 arrays id ≡ None)
IsValue arrays id f held.Array v = array_place 0 arrays id ≡ Some v

-- each static field of the class with a cell holds what was put into it
abbrev pub HoldWhatIsPut : ClassTree → List Held → List ArrayCell → List FieldValue → Type 0
HoldWhatIsPut c fields arrays statics = (k : ℕ) (f : FieldTree) (h : Held) → slice_get c.fields k ≡ Some f
    → is_cell f ≡ true → slice_get fields k ≡ Some h → (v : Value) × (value_in statics (field_id c.name f) ≡ Some v)
    × IsValue arrays (field_id c.name f) f h v

-- each class's static fields do
abbrev pub AllHold : Files → List (List Held) → List ArrayCell → List FieldValue → Type 0
AllHold files puts arrays statics = (n : ℕ) (c : ClassTree) (fields : List Held) → slice_get files.classes n ≡ Some c
    → slice_get puts n ≡ Some fields → HoldWhatIsPut c fields arrays statics

-- No two classes have one name, and no two fields of a class one name and descriptor.
pub record AreApart (files : Files) : Type 0 where
  pub classes : (n k : ℕ) (c d : ClassTree) → slice_get files.classes n ≡ Some c → slice_get files.classes k ≡ Some d
      → c.name ≡ d.name → n ≡ k
  pub fields : (n j k : ℕ) (c : ClassTree) (f g : FieldTree) → slice_get files.classes n ≡ Some c → slice_get c.fields j
      ≡ Some f → slice_get c.fields k ≡ Some g → field_id c.name f ≡ field_id c.name g → j ≡ k

-- each class's initialiser stands once among these codes
abbrev pub StandOnce : Files → List MethodCode → Type 0
StandOnce files codes = (i j : ℕ) (a b : MethodCode) (c d : ClassTree) → slice_get codes i ≡ Some a
    → slice_get codes j ≡ Some b → initialised files a ≡ Some c → initialised files b ≡ Some d → a.class ≡ b.class
    → i ≡ j
