-- Descriptors of fields and methods (Java Virtual Machine Specification, sections 4.3.2 and 4.3.3).
use Rattle.std.specs.Prelude.{◌≡◌, ◌<◌, ◌≤◌, ℕ, Bool, true, false, ◌==◌, if◌then◌else◌, List, [], ◌∷◌, ◌++◌, length}
use Rattle.std.specs.Prelude.{take, get_or, Option, Some, None}
use Rattle.cjc_bytes.specs.declared.descriptor.Kind.{Kind}
use Rattle.cjc_bytes.specs.declared.descriptor.Kind.TheVariants as kinds

-- a type of a descriptor: its kind, and the name of a class or the whole descriptor of an array type
pub record Part : Type 0 where
  pub kind : Kind
  pub class : List ℕ

-- what a descriptor says; of a field its type is the result
pub record Parts : Type 0 where
  pub is_method : Bool
  pub params : List Part
  pub result : Part

-- a type without a class
abbrev pub plain : Kind → Part
plain kind = record { kind = kind; class = [] }

-- the type at this place, the result behind the parameters
abbrev pub part_at : Parts → ℕ → Part
part_at d i = get_or (d.params ++ d.result ∷ []) i d.result

-- BaseType: B, C, D, F, I, J, S or Z
abbrev pub base_kind : ℕ → Option Kind
base_kind b =
    if b == 66 then Some kinds.Byte
    else if b == 67 then Some kinds.Other
    else if b == 68 then Some kinds.Other
    else if b == 70 then Some kinds.Other
    else if b == 73 then Some kinds.Int
    else if b == 74 then Some kinds.Other
    else if b == 83 then Some kinds.Short
    else if b == 90 then Some kinds.Bool
    else None

-- a byte of a name (section 4.2.2): not . ; [ or /
abbrev pub is_name_byte : ℕ → Bool
is_name_byte b = if b == 46 then false else if b == 59 then false else if b == 91 then false else if b == 47 then false
    else true

-- a name: one byte or more
pub data IsName : List ℕ → Type 0 where
  last : {b : ℕ} → is_name_byte b ≡ true → IsName (b ∷ [])
  more : {b : ℕ} {name : List ℕ} → is_name_byte b ≡ true → IsName name → IsName (b ∷ name)

-- the name of a class: names joined by /
pub data IsClassName : List ℕ → Type 0 where
  simple : {name : List ℕ} → IsName name → IsClassName name
  inside : {front back : List ℕ} → IsName front → IsClassName back → IsClassName (front ++ 47 ∷ back)

-- FieldType: a base type, L and a class name and ;, or [ and the type of the elements
pub data IsType : Part → List ℕ → Type 0 where
  base : {b : ℕ} {kind : Kind} → base_kind b ≡ Some kind → IsType (plain kind) (b ∷ [])
  object : {name : List ℕ} → IsClassName name → IsType (record { kind = kinds.Ref; class = name }) (76 ∷ name
      ++ 59 ∷ [])
  array : {element : Part} {bytes : List ℕ} → IsType element bytes
      → IsType (record { kind = kinds.Ref; class = 91 ∷ bytes }) (91 ∷ bytes)

-- types one after the other
pub data AreTypes : List Part → List ℕ → Type 0 where
  none : AreTypes [] []
  next : {p : Part} {ps : List Part} {front back : List ℕ} → IsType p front → AreTypes ps back
      → AreTypes (p ∷ ps) (front ++ back)

-- ReturnDescriptor: a type or V
pub data IsResult : Part → List ℕ → Type 0 where
  value : {p : Part} {bytes : List ℕ} → IsType p bytes → IsResult p bytes
  nothing : IsResult (plain kinds.Void) (86 ∷ [])

-- FieldDescriptor, or MethodDescriptor: ( and the types of the parameters and ) and the result
pub data IsDescriptor : Parts → List ℕ → Type 0 where
  field : {p : Part} {bytes : List ℕ} → IsType p bytes → IsDescriptor (record {
    is_method = false;
    params = [];
    result = p;
  }) bytes
  method : {ps : List Part} {r : Part} {front back : List ℕ} → AreTypes ps front → IsResult r back
      → IsDescriptor (record { is_method = true; params = ps; result = r }) (40 ∷ front ++ 41 ∷ back)

-- Some descriptor begins with the first so many bytes, and none with more of them.
pub record IsLongestStart (bytes : List ℕ) (at : ℕ) : Type 0 where
  pub within : at ≤ length bytes
  pub some : (d : Parts) × (rest : List ℕ) × IsDescriptor d (take at bytes ++ rest)
  pub none_longer : (n : ℕ) (d : Parts) (rest : List ℕ) → at < n → n ≤ length bytes → IsDescriptor d (take n bytes
      ++ rest) → ⊥
