-- The fields of objects by name, and the slots that hold them by token (Java Card Virtual Machine Specification 2.2.2,
-- sections 4.3.7.5 and 6.8).
use Rattle.std.specs.Prelude.{◌≡◌, ℕ, suc, ◌<◌, ◌≤◌, List, [], ◌∷◌, ◌++◌, map, Option, Some, None, Bool, true, false}
use Rattle.std.specs.Prelude.{if◌then◌else◌}
use Rattle.cjc_bytes.specs.declared.fault.MemberId.{MemberId}
use Rattle.cjc_card_semantics.specs.CapRead.declared.tree.ClassEntry.{ClassEntry}
use Rattle.cjc_script.specs.declared.value.Value.{Value}
use Rattle.cjc_script.specs.Sorts.{Sort, Reference, field_sort}
use Rattle.cjc_card_semantics.specs.Bytecode.Effects.{Slot, slot_of, slots_with}
use Rattle.cjc_card_semantics.specs.Bytecode.Renaming.{keys}
use Rattle.cjc_card_semantics.specs.Machine.ByToken.{shown_fields, value_or}
use Rattle.cjc_card_semantics.specs.Machine.Classes.{Class, Own, External, Field, same_field, IsClass, info_of}
use Rattle.cjc_card_semantics.specs.Machine.Classes.{names_of, superclass, is_interface, is_reference_token}
use Rattle.cjc_card_semantics.specs.Machine.Classes.{slots_upwards, depth, fresh}
use Rattle.cjc_card_semantics.specs.Machine.Loaded.{FieldName, ClassNames}
use Rattle.cjc_ncode.specs.ByLabel.{shown_slot, slot_for}
use Rattle.cjc_ncode.specs.PoolOrder.{same_member}
use Rattle.cjc_ncode.specs.Lowering.Naming.{Naming, field}
use Rattle.cjc_token_proof.specs.ByToken.Cells.{is_one_of, are_apart}

-- a field of a class or array
abbrev pub is_reference : Sort → Bool
is_reference (Reference shape) = true
is_reference other = false

-- ---- what class infos say of fields

-- the class stands before this offset of the package, or in a package before, or is none of the group
pub data StandsBefore (part offset : ℕ) : Option Class → Type 0 where
  no_class : StandsBefore part offset None
  imported : {tree token : ℕ} → StandsBefore part offset (Some (External tree token))
  own : {before : ℕ} → before < offset → StandsBefore part offset (Some (Own part before))
  earlier : {lower before : ℕ} → lower < part → StandsBefore part offset (Some (Own lower before))

-- an instance field by its token
abbrev pub field_name : Naming → MemberId → FieldName
field_name n f = record { token = n.field_token f; name = f.name; desc = f.desc }

-- The class at an offset declares these instance fields of all that code may name: its info has a slot for the token of
-- each, null in the
-- span of references and else 0, and its names have them in the order of the class file.
pub record HasFields (n : Naming) (may_name : MemberId → Bool) (part offset : ℕ) (entry : ClassEntry)
    (names : ClassNames) (own : List MemberId) : Type 0 where
  pub order : names.fields ≡ map (field_name n) own
  pub class : (f : MemberId) → is_one_of f own ≡ true → f.class ≡ names.name
  pub on_card : (f : MemberId) → is_one_of f own ≡ true → n.class f.class ≡ Own part offset
  pub all : (f : MemberId) → may_name f ≡ true → n.class f.class ≡ Own part offset → is_one_of f own ≡ true
  pub named : (f : MemberId) → is_one_of f own ≡ true → may_name f ≡ true
  pub sized : (f : MemberId) → is_one_of f own ≡ true → n.field_token f < entry.declared_instance_size
  pub references : (f : MemberId) → is_one_of f own ≡ true → is_reference_token entry (n.field_token f)
      ≡ is_reference (field_sort f.desc)
  pub once : (f g : MemberId) → is_one_of f own ≡ true → is_one_of g own ≡ true → n.field_token f ≡ n.field_token g
      → f ≡ g
  pub empty : own ≡ [] → entry.declared_instance_size ≡ 0

-- A class and its superclasses in the group, so many, declare these fields: a superclass's stand before its own. A
-- superclass's info stands before the class's.
pub data Declares (n : Naming) (may_name : MemberId → Bool) : (height : ℕ) → Option Class → List MemberId → Type 0 where
  no_class : Declares n may_name 0 None []
  imported : {tree token : ℕ} → Declares n may_name 0 (Some (External tree token)) []
  declares : {height part offset : ℕ} {entry : ClassEntry} {names : ClassNames} {above own : List MemberId}
      → info_of n.loaded part offset ≡ Some (IsClass entry) → names_of n.loaded part offset ≡ Some names
      → HasFields n may_name part offset entry names own
      → StandsBefore part offset (superclass n.loaded part offset)
      → Declares n may_name height (superclass n.loaded part offset) above
      → Declares n may_name (suc height) (Some (Own part offset)) (above ++ own)

-- An object of the class has these fields.
pub record HasObjects (n : Naming) (may_name : MemberId → Bool) (c : List ℕ) (fields : List MemberId) : Type 0 where
  pub height : ℕ
  pub low : height ≤ depth n.loaded
  pub declared : Declares n may_name height (Some (n.class c)) fields
  pub once : are_apart fields ≡ true

-- ---- slots

-- the value of the field that is held by name under this class and token
abbrev pub value_under : Naming → List (Slot MemberId) → Field → Option Value
value_under n [] key = None
value_under n (s ∷ held) key = if same_field (field n s.key) key then Some s.value else value_under n held key

-- slots with what the fields hold by name
abbrev pub filled : Naming → List (Slot MemberId) → List (Slot Field) → List (Slot Field)
filled n held [] = []
filled n held (s ∷ slots) = record s { value = value_or s.value (value_under n held s.key) } ∷ filled n held slots

-- What an object of a class holds by token, where its fields hold this by name.
abbrev pub slots_of : Naming → (c : List ℕ) → List (Slot MemberId) → List (Slot Field)
slots_of n c held = let l = n.loaded in filled n held (slots_upwards l (depth l) (Some (n.class c)))

-- What instructions and reports ask of objects is the same by name and by token.
pub record ObjectsAgree (n : Naming) (may_name : MemberId → Bool) (c : List ℕ) (fields : List MemberId) : Type 0 where
  pub get : (held : List (Slot MemberId)) (f : MemberId) → keys held ≡ fields → may_name f ≡ true
      → slot_of same_field (slots_of n c held) (field n f) ≡ slot_of same_member held f
  pub put : (held : List (Slot MemberId)) (f : MemberId) (old new : Value) → keys held ≡ fields → may_name f ≡ true
      → slot_of same_member held f ≡ Some old
      → slots_with same_field (slots_of n c held) (field n f) new ≡ slots_of n c (slots_with same_member held f new)
  pub fresh : is_interface n.loaded (n.class c) ≡ false → fresh n.loaded (n.class c)
      ≡ Some (slots_of n c (map slot_for fields))
  pub bare : fields ≡ [] → slots_of n c [] ≡ []
  pub shown : (held : List (Slot MemberId)) → keys held ≡ fields → shown_fields n.loaded (n.class c) (slots_of n c held)
      ≡ map shown_slot held
