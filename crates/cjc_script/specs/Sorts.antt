-- The types of values as descriptors say them (Java Virtual Machine Specification, section 4.3), and which values fit
-- them.
use Rattle.std.specs.Prelude.{ℕ, List, [], ◌∷◌, ◌++◌, map, codes, Option, Some, None, option_and_then, Bool, true}
use Rattle.std.specs.Prelude.{false, ◌==◌, ◌&&◌, if◌then◌else◌, ℤ, pos, negsuc}
use Rattle.std.specs.Int.RustNames.{int_le}
use Rattle.cjc_bytes.specs.declared.descriptor.Kind.{Kind}
use Rattle.cjc_bytes.specs.declared.descriptor.Kind.TheVariants as kinds
use Rattle.cjc_bytes.specs.Descriptor.{Part, Parts}
use Rattle.cjc_bytes.specs.Spots.{part_of, desc_of}
use Rattle.cjc_script.specs.declared.value.Value.{Value}
use Rattle.cjc_script.specs.declared.value.Value.TheVariants.{Num, Null, Obj}

-- ---- types

-- the elements of an array of numbers
pub data Element : Type 0 where
  Booleans : Element
  Bytes : Element
  Shorts : Element
  Ints : Element

-- the type of an object, or of an array of numbers or references; what stands for a class is the reader's own
pub data Shape (C : Type 0) : Type 0 where
  OfClass : (class : C) → Shape C
  OfNumbers : (element : Element) → Shape C
  OfReferences : (class : C) → Shape C

-- the type of a value; none has a char, long, float or double, an array of these, or an array of arrays
pub data Sort : Type 0 where
  Boolean : Sort
  Byte : Sort
  Short : Sort
  Int : Sort
  Reference : (shape : Shape (List ℕ)) → Sort
  NoValue : Sort

-- the types of a method's parameters and of its result
pub record Signature : Type 0 where
  pub params : List Sort
  pub result : Option Sort

-- ---- by descriptor

-- an array by the type of its elements
abbrev pub array_of : Kind → (class : List ℕ) → Option (Shape (List ℕ))
array_of kinds.Bool class = Some (OfNumbers Booleans)
array_of kinds.Byte class = Some (OfNumbers Bytes)
array_of kinds.Short class = Some (OfNumbers Shorts)
array_of kinds.Int class = Some (OfNumbers Ints)
array_of kinds.Other class = None
array_of kinds.Ref [] = None
array_of kinds.Ref (b ∷ bs) = if b == 91 then None else Some (OfReferences (b ∷ bs))
array_of kinds.Void class = None

-- an array by a part of a descriptor
abbrev pub array_by : Part → Option (Shape (List ℕ))
array_by element = array_of element.kind element.class

-- what the name of a class or the descriptor of an array stands for
abbrev pub shape_named : List ℕ → Option (Shape (List ℕ))
shape_named [] = None
shape_named (b ∷ bs) = if b == 91 then option_and_then (λ d. array_by (part_of bs)) (desc_of (b ∷ bs))
    else Some (OfClass (b ∷ bs))

-- the name of a class, the descriptor of an array
abbrev pub array_name : Element → List ℕ
array_name Booleans = codes "[Z"
array_name Bytes = codes "[B"
array_name Shorts = codes "[S"
array_name Ints = codes "[I"

-- the name of a class, or the descriptor of an array
abbrev pub shape_name : Shape (List ℕ) → List ℕ
shape_name (OfClass class) = class
shape_name (OfNumbers element) = array_name element
shape_name (OfReferences class) = codes "[L" ++ class ++ codes ";"

-- a reference, where values of the type are
abbrev pub reference_to : Option (Shape (List ℕ)) → Sort
reference_to None = NoValue
reference_to (Some shape) = Reference shape

-- a type by its kind
abbrev pub sort_by : Kind → (class : List ℕ) → Sort
sort_by kinds.Bool class = Boolean
sort_by kinds.Byte class = Byte
sort_by kinds.Short class = Short
sort_by kinds.Int class = Int
sort_by kinds.Other class = NoValue
sort_by kinds.Ref class = reference_to (shape_named class)
sort_by kinds.Void class = NoValue

-- the type that a part of a descriptor says
abbrev pub sort_of : Part → Sort
sort_of part = sort_by part.kind part.class

-- nothing for void
abbrev pub result_by : Kind → Part → Option Sort
result_by kinds.Void part = None
result_by kind part = Some (sort_of part)

-- the types of a descriptor, where it is a method's
abbrev pub signature_by : Parts → Option Signature
signature_by d =
    if d.is_method then Some (record {
      params = map sort_of d.params;
      result = (let r = d.result in result_by r.kind r);
    }) else None

-- the types of a method's descriptor, where it is one
abbrev pub signature_of : List ℕ → Option Signature
signature_of desc = option_and_then signature_by (desc_of desc)

-- the type of a field
abbrev pub sort_or_none : Option Parts → Sort
sort_or_none None = NoValue
sort_or_none (Some d) = sort_of d.result

-- the type of a field's descriptor
abbrev pub field_sort : List ℕ → Sort
field_sort desc = sort_or_none (desc_of desc)

-- what a field or cell of a type holds at first
abbrev pub zero_of : Sort → Value
zero_of (Reference shape) = Null
zero_of _ = Num (pos 0)

-- ---- fitting

-- from the low number to the high one
abbrev pub lies_in : ℤ → ℤ → ℤ → Bool
lies_in low high z = int_le low z && int_le z high

-- A value of the type: a number in its range, null, or an object of the type, as `is_of` says of its number.
abbrev pub fits : (is_of : ℕ → Shape (List ℕ) → Bool) → Sort → Value → Bool
fits is_of Boolean (Num z) = lies_in (pos 0) (pos 1) z
fits is_of Byte (Num z) = lies_in (negsuc 127) (pos 127) z
fits is_of Short (Num z) = lies_in (negsuc 32767) (pos 32767) z
fits is_of Int (Num z) = lies_in (negsuc 2147483647) (pos 2147483647) z
fits is_of (Reference shape) Null = true
fits is_of (Reference shape) (Obj k) = is_of k shape
fits is_of _ value = false

-- as many values as types, each of its own
abbrev pub all_fit : (is_of : ℕ → Shape (List ℕ) → Bool) → List Sort → List Value → Bool
all_fit is_of [] [] = true
all_fit is_of (sort ∷ sorts) (value ∷ values) = fits is_of sort value && all_fit is_of sorts values
all_fit is_of sorts values = false

-- a value where the type has one, and none otherwise
abbrev pub result_fits : (is_of : ℕ → Shape (List ℕ) → Bool) → Option Sort → Option Value → Bool
result_fits is_of None None = true
result_fits is_of (Some sort) (Some value) = fits is_of sort value
result_fits is_of sort value = false

-- the type of an array's elements
abbrev pub element_sort : Element → Sort
element_sort Booleans = Boolean
element_sort Bytes = Byte
element_sort Shorts = Short
element_sort Ints = Int
