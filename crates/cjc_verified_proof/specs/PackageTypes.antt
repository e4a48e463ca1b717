-- The types of the fields of a package, by the descriptors of its class files.
use Rattle.std.specs.Prelude.{◌≡◌, ℕ, ◌==◌, ◌++◌, true, false, List, map, slice_get, Option, Some, None}
use Rattle.std.specs.Prelude.{option_and_then, option_map}
use Rattle.std.specs.Prelude.{codes}
use Rattle.std.specs.Prelude.{if◌then◌else◌}
use Rattle.cjc_bytes.specs.AccessFlags.{is_interface}
use Rattle.cjc_card_semantics.specs.Machine.Loaded.{Loaded, Part}
use Rattle.cjc_card_semantics.specs.Machine.Classes.{Class, Own, External, number_named}
use Rattle.cjc_world.specs.ClassFile.declared.tree.ClassTree.{ClassTree}
use Rattle.cjc_world.specs.ClassFile.declared.tree.FieldTree.{FieldTree}
use Rattle.cjc_world.specs.Files.{Files}
use Rattle.cjc_bytes.specs.declared.fault.MemberId.{MemberId}
use Rattle.cjc_world.specs.declared.image.ArrayCell.{ArrayCell}
use Rattle.cjc_world.specs.declared.image.ValueCell.{ValueCell}
use Rattle.cjc_world.specs.declared.image.StaticImage.{StaticImage}
use Rattle.cjc_tokens.specs.Fields.{is_instance, is_reference}
use Rattle.cjc_components.specs.Statics.{cell_order}
use Rattle.cjc_token_proof.specs.Tables.Sound.{IsTyped, IsFieldDesc}
use Rattle.cjc_card_acts.specs.CardTypes.{ValueType, type_by, types_in}
use Rattle.cjc_verify.specs.Pairs.{Pair, class_at, nibbles_of}
use Rattle.cjc_verify.specs.Named.{cell_desc, own_field_desc}
use Rattle.cjc_verify_proof.specs.Memories.{FieldTypes}

-- the type that nibbles say of a field
abbrev pub type_said : List ℕ → ValueType
type_said nibbles = let t = type_by (types_in nibbles) in t.result

-- the type that a descriptor of a class file says of a field
abbrev pub type_of_desc : Pair → (desc : List ℕ) → Option ValueType
type_of_desc p desc = option_map type_said (nibbles_of p desc)

-- the descriptor of the instance field of a token of the class whose info stands at an offset
abbrev pub instance_desc : Pair → (offset token : ℕ) → Option (List ℕ)
instance_desc p offset token = option_and_then (own_field_desc p token) (class_at p offset)

-- the type of the instance field of a token that a class declares
abbrev pub instance_type : Pair → Class → (token : ℕ) → Option ValueType
instance_type p (Own part offset) token = if part == 0 then option_and_then (type_of_desc p) (instance_desc p offset
    token) else None
instance_type p (External tree class) token = None

-- the type of the static field whose cell stands at an offset
abbrev pub cell_type : Pair → (part offset : ℕ) → Option ValueType
cell_type p part offset = if part == 0 then option_and_then (type_of_desc p) (cell_desc p offset) else None

-- The types of all fields of the package; those of imported classes have none.
abbrev pub field_types : Pair → FieldTypes
field_types p = record {
  field = λ f. instance_type p f.class f.token;
  cell = λ c. cell_type p c.part c.offset;
}

-- no interface of the class files has a field that is not static
abbrev pub StaticInInterfaces : Files → Type 0
StaticInInterfaces files = (n k : ℕ) (c : ClassTree) (f : FieldTree) → slice_get files.classes n ≡ Some c
    → slice_get c.fields k ≡ Some f → is_interface c.flags ≡ true → is_instance f ≡ false

-- The static cells of an image are of fields of types that values have, with those of references first.
pub record HasSorts (image : StaticImage) : Type 0 where
  pub references : (k : ℕ) (f : MemberId) → slice_get (map (λ (a : ArrayCell). a.field) image.arrays ++ image.nulls) k
      ≡ Some f → is_reference f.desc ≡ true
  pub numbers : (k : ℕ) (f : MemberId) → slice_get (image.zeros ++ map (λ (v : ValueCell). v.field) image.others) k
      ≡ Some f → is_reference f.desc ≡ false
  pub typed : (k : ℕ) (f : MemberId) → slice_get (cell_order image) k ≡ Some f → IsTyped f.desc
  pub described : (k : ℕ) (f : MemberId) → slice_get (cell_order image) k ≡ Some f → IsFieldDesc f.desc

-- no class of the packages is java/lang/Object
abbrev pub HasNoObject : Loaded → Type 0
HasNoObject l = (k : ℕ) (part : Part) → slice_get l.parts k ≡ Some part
    → number_named part.classes (codes "java/lang/Object") ≡ None
