-- Scratch copies.
use Rattle.std.specs.Prelude.{◌≡◌, ℕ, ◌+◌, ◌*◌, ◌/◌, ◌%◌, ◌==◌, ◌&&◌, ◌||◌, nat_le, Bool, true, false, List, [], ◌∷◌, ◌++◌, Option}
use Rattle.std.specs.Prelude.{Some, None, option_map, option_and_then, if◌then◌else◌, flat_map, map, position, slice_get, unwrap_or, filter}
use Rattle.std.specs.List.{AllZip, list_all}
use Rattle.std.specs.Str.{bytes_eq}
use Rattle.cjc_capread.specs.Parts.{class_of}
use Rattle.cjc_capread.specs.declared.tree.ClassRef.{ClassRef}
use Rattle.cjc_capread.specs.declared.tree.ClassRef.TheVariants.{Inside, Outside}
use Rattle.cjc_capread.specs.declared.tree.ClassInfo.{ClassInfo}
use Rattle.cjc_capwrite.specs.Parts.{class_bytes}
use Rattle.cjc_card_semantics.specs.Bytecode.Effects.{Letter}
use Rattle.cjc_card_semantics.specs.Bytecode.Effects
use Rattle.cjc_card_semantics.specs.Bytecode.Machine.{shape_of}
use Rattle.cjc_card_semantics.specs.Machine.ByToken.{by_token}
use Rattle.cjc_card_semantics.specs.Machine.Loaded.{ClassNames, CellName, Import, OfFile, Loaded, Part}
use Rattle.cjc_card_semantics.specs.Machine.Classes.{Class, Own, External, external_from, or_else, Info, IsInterface, IsClass}
use Rattle.cjc_card_semantics.specs.Machine.Classes
use Rattle.cjc_card_semantics.specs.Script.Sorts.{Shape, OfClass, OfNumbers, OfReferences, Booleans, Bytes, Shorts, Ints, Element}
use Rattle.cjc_card_semantics.specs.Script.Sorts.{Sort, Signature, field_sort, signature_of, NoValue}
use Rattle.cjc_card_semantics.specs.Script.Sorts as sorts
use Rattle.cjc_check_rules.specs.Complete.{Complete}
use Rattle.cjc_check_rules.specs.Described.{all_starts}
use Rattle.cjc_capread.specs.declared.tree.Export.{Export}
use Rattle.cjc_capread.specs.declared.tree.ExportedClass.{ExportedClass}
use Rattle.cjc_check_rules.specs.ExportFile.declared.tree.ExportTree.{ExportTree}
use Rattle.cjc_world.specs.Classes as world_of
use Rattle.cjc_world.specs.Files.{Files}
use Rattle.cjc_world.specs.Order.{class_order}
abbrev pub class_nibble : ℕ
class_nibble = 0x6
abbrev pub references_nibble : ℕ
references_nibble = 0xE
pub data Cell : Type 0 where
  Number : Cell
  Refs : (types : List (List ℕ)) → Cell
pub data Given : Type 0 where
  ANumber : Given
  AnObject : (type : List ℕ) → Given
abbrev pub given : (locals stack : List Cell) → Given → Cell
given locals stack ANumber = Number
given locals stack (AnObject type) = Refs (type ∷ [])

-- the type of a value, of a reference by its nibbles
pub data ValueType : Type 0 where
  Void : ValueType
  Boolean : ValueType
  Byte : ValueType
  Short : ValueType
  Int : ValueType
  Reference : (type : List ℕ) → ValueType

-- the types of a method's parameters and of its result; of a field its type is the result
pub record MemberType : Type 0 where
  pub params : List ValueType
  pub result : ValueType

-- ---- type descriptors

-- the type that one nibble says
abbrev pub by_nibble : ℕ → Option ValueType
by_nibble n =
    if n == 1 then Some Void
    else if n == 2 then Some Boolean
    else if n == 3 then Some Byte
    else if n == 4 then Some Short
    else if n == 5 then Some Int
    else if nat_le 0xA n && nat_le n 0xD then Some (Reference (n ∷ []))
    else None

-- a class, or an array of references: a class_ref follows
abbrev pub has_class : ℕ → Bool
has_class n = n == class_nibble || n == references_nibble

-- one type and those behind it
abbrev pub onto : Option ValueType → Option (List ValueType) → Option (List ValueType)
onto (Some t) (Some types) = Some (t ∷ types)
onto t types = None

-- the types that nibbles say; None where a nibble says none, or a class_ref is cut
unfoldable pub types_in : List ℕ → Option (List ValueType)
types_in [] = Some []
types_in (n ∷ a ∷ b ∷ c ∷ d ∷ nibbles) =
    if has_class n then onto (Some (Reference (n ∷ a ∷ b ∷ c ∷ d ∷ []))) (types_in nibbles)
    else onto (by_nibble n) (types_in (a ∷ b ∷ c ∷ d ∷ nibbles))
types_in (n ∷ nibbles) = onto (by_nibble n) (types_in nibbles)

-- what has no type has no parameters and no result
abbrev pub untyped : MemberType
untyped = record { params = []; result = Void }

-- a parameter in front
abbrev pub with_param : ValueType → MemberType → MemberType
with_param t m = record m { params = t ∷ m.params }

-- parameters, and the result behind them
abbrev pub member_type : List ValueType → MemberType
member_type [] = untyped
member_type (t ∷ []) = record { params = []; result = t }
member_type (t ∷ u ∷ types) = with_param t (member_type (u ∷ types))

-- the same of what says types
abbrev pub type_by : Option (List ValueType) → MemberType
type_by None = untyped
type_by (Some types) = member_type types

-- ---- words

-- how many words a value has
abbrev pub width : ValueType → ℕ
width Void = 0
width Boolean = 1
width Byte = 1
width Short = 1
width Int = 2
width (Reference type) = 1

-- how many words several have
abbrev pub widths : List ValueType → ℕ
widths [] = 0
widths (t ∷ types) = width t + widths types

-- ---- subtypes

-- the class of a class_ref's nibbles
abbrev pub class_by : Loaded → List ℕ → Option Class
class_by l (a ∷ b ∷ c ∷ d ∷ []) = Classes.class_of l 0 (class_of (4096 * a + 256 * b + 16 * c + d))
class_by l nibbles = None

-- what a reference type means
abbrev pub shape_by : Loaded → List ℕ → Option (Shape Class)
shape_by l [] = None
shape_by l (n ∷ nibbles) =
    if n == class_nibble then option_map OfClass (class_by l nibbles)
    else if n == references_nibble then option_map OfReferences (class_by l nibbles)
    else if n == 0xA then Some (OfNumbers Booleans)
    else if n == 0xB then Some (OfNumbers Bytes)
    else if n == 0xC then Some (OfNumbers Shorts)
    else if n == 0xD then Some (OfNumbers Ints)
    else None

-- one type is of another, where both mean something
abbrev pub both_of : Loaded → Option (Shape Class) → Option (Shape Class) → Bool
both_of l (Some sub) (Some sup) = Classes.is_of l sub sup
both_of l sub sup = false

-- A reference type is of another, as Class and the export files list supers.
abbrev pub is_type_of : Loaded → (sub sup : List ℕ) → Bool
is_type_of l sub sup = both_of l (shape_by l sub) (shape_by l sup)

abbrev pub words : ValueType → List Given
words Void = []
words Boolean = ANumber ∷ []
words Byte = ANumber ∷ []
words Short = ANumber ∷ []
words Int = ANumber ∷ ANumber ∷ []
words (Reference type) = AnObject type ∷ []
abbrev pub cells_of : ValueType → List Cell
cells_of t = map (given [] []) (words t)
-- the four nibbles of a class_ref
abbrev pub ref_nibbles : ClassRef → List ℕ
ref_nibbles ref = flat_map (λ b. b / 16 ∷ b % 16 ∷ []) (class_bytes ref)

-- an array of boolean, byte, short or int
abbrev pub array_nibble : Element → ℕ
array_nibble Booleans = 0xA
array_nibble Bytes = 0xB
array_nibble Shorts = 0xC
array_nibble Ints = 0xD

-- an object's type: 6 and a class, E and the class of an array's elements, or an array of numbers
abbrev pub shape_nibbles : (ref : List ℕ → ClassRef) → Shape (List ℕ) → List ℕ
shape_nibbles ref (OfClass c) = 6 ∷ ref_nibbles (ref c)
shape_nibbles ref (OfReferences c) = 0xE ∷ ref_nibbles (ref c)
shape_nibbles ref (OfNumbers element) = array_nibble element ∷ []

-- a type: boolean 2, byte 3, short 4, int 5
abbrev pub sort_nibbles : (ref : List ℕ → ClassRef) → Sort → List ℕ
sort_nibbles ref sorts.Boolean = 2 ∷ []
sort_nibbles ref sorts.Byte = 3 ∷ []
sort_nibbles ref sorts.Short = 4 ∷ []
sort_nibbles ref sorts.Int = 5 ∷ []
sort_nibbles ref (sorts.Reference shape) = shape_nibbles ref shape
sort_nibbles ref NoValue = []

-- a result: void is 1
abbrev pub result_nibbles : (ref : List ℕ → ClassRef) → Option Sort → List ℕ
result_nibbles ref None = 1 ∷ []
result_nibbles ref (Some sort) = sort_nibbles ref sort

-- a method is its parameters, then its result; a field is its type
abbrev pub nibbles_by : (ref : List ℕ → ClassRef) → (desc : List ℕ) → Option Signature → List ℕ
nibbles_by ref desc None = sort_nibbles ref (field_sort desc)
nibbles_by ref desc (Some types) = flat_map (sort_nibbles ref) types.params ++ result_nibbles ref types.result

-- values of the type are on the card
abbrev pub is_card_sort : Sort → Bool
is_card_sort sorts.Boolean = true
is_card_sort sorts.Byte = true
is_card_sort sorts.Short = true
is_card_sort sorts.Int = true
is_card_sort (sorts.Reference shape) = true
is_card_sort NoValue = false

-- the same of a result
abbrev pub is_card_result : Option Sort → Bool
is_card_result None = true
is_card_result (Some sort) = is_card_sort sort

-- the same of a field's type, or of all types of a method
abbrev pub is_card_type : (desc : List ℕ) → Option Signature → Bool
is_card_type desc None = is_card_sort (field_sort desc)
is_card_type desc (Some types) = list_all is_card_sort types.params && is_card_result types.result

-- a type of a class file or export file and one of components have the same values
abbrev pub IsSort : Loaded → Sort → ValueType → Type 0
IsSort l sorts.Boolean Boolean = Unit {0}
IsSort l sorts.Byte Byte = Unit {0}
IsSort l sorts.Short Short = Unit {0}
IsSort l sorts.Int Int = Unit {0}
IsSort l (sorts.Reference shape) (Reference type) = shape_of (by_token l) shape ≡ shape_by l type
IsSort l other type = ⊥

-- the same of several
abbrev pub AreSorts : Loaded → List Sort → List ValueType → Type 0
AreSorts l sorts params = AllZip (IsSort l) sorts params

-- the same of a result
abbrev pub IsResult : Loaded → Option Sort → ValueType → Type 0
IsResult l None Void = Unit {0}
IsResult l (Some sort) type = IsSort l sort type
IsResult l None type = ⊥
