-- The types of values as Descriptor writes them (Java Card Virtual Machine Specification 2.2.2, section 6.13.4). A
-- reference type is named by its nibbles: 6 and a class_ref, A to D for an array of boolean, byte, short or int, E and
-- the class_ref of the elements of an array of references.
use Rattle.std.specs.Prelude.{ℕ, ◌+◌, ◌*◌, ◌==◌, ◌&&◌, ◌||◌, nat_le, Bool, true, false, List, [], ◌∷◌, ◌++◌, Option}
use Rattle.std.specs.Prelude.{Some, None, option_map, if◌then◌else◌}
use Rattle.cjc_frames.specs.Types.{class_nibble, references_nibble}
use Rattle.cjc_frames.specs.declared.acts.Need.{Need}
use Rattle.cjc_frames.specs.declared.acts.Need.TheVariants.{NumberWord, OfType}
use Rattle.cjc_frames.specs.declared.acts.Given.{Given}
use Rattle.cjc_frames.specs.declared.acts.Given.TheVariants.{ANumber, AnObject}
use Rattle.cjc_check_rules.specs.CapRead.declared.tree.Descriptor.{Descriptor}
use Rattle.cjc_check_rules.specs.CapRead.declared.tree.TypeDescriptor.{TypeDescriptor}
use Rattle.cjc_check_rules.specs.CapRead.Parts.{class_of}
use Rattle.cjc_card_frame.specs.LowerCardSemantics.Bytecode.Effects.{Letter}
use Rattle.cjc_card_frame.specs.LowerCardSemantics.Bytecode.Effects
use Rattle.cjc_card_frame.specs.LowerCardSemantics.Machine.Loaded.{Loaded}
use Rattle.cjc_card_frame.specs.LowerCardSemantics.Machine.Classes.{Class}
use Rattle.cjc_card_frame.specs.LowerCardSemantics.Machine.Classes
use Rattle.cjc_card_frame.specs.LowerScript.Sorts.{Shape, OfClass, OfNumbers, OfReferences, Booleans, Bytes, Shorts}
use Rattle.cjc_card_frame.specs.LowerScript.Sorts.{Ints}
use Rattle.cjc_check_rules.specs.Spots.{item_at}
use Rattle.cjc_check_rules.specs.Described.{types_at}

-- the type of a value, of a reference by its nibbles
pub data ValueType : Type 0 where
  Void : ValueType
  Boolean : ValueType
  Byte : ValueType
  Short : ValueType
  Int : ValueType
  Reference : (type : List ℕ) → ValueType

-- the types of a method's parameters and of its result; of a field its type is the result
pub record MemberType : Type 0 where
  pub params : List ValueType
  pub result : ValueType

-- ---- type descriptors

-- the type that one nibble says
abbrev pub by_nibble : ℕ → Option ValueType
by_nibble n =
    if n == 1 then Some Void
    else if n == 2 then Some Boolean
    else if n == 3 then Some Byte
    else if n == 4 then Some Short
    else if n == 5 then Some Int
    else if nat_le 0xA n && nat_le n 0xD then Some (Reference (n ∷ []))
    else None

-- a class, or an array of references: a class_ref follows
abbrev pub has_class : ℕ → Bool
has_class n = n == class_nibble || n == references_nibble

-- one type and those behind it
abbrev pub onto : Option ValueType → Option (List ValueType) → Option (List ValueType)
onto (Some t) (Some types) = Some (t ∷ types)
onto t types = None

-- the types that nibbles say; None where a nibble says none, or a class_ref is cut
unfoldable pub types_in : List ℕ → Option (List ValueType)
types_in [] = Some []
types_in (n ∷ a ∷ b ∷ c ∷ d ∷ nibbles) =
    if has_class n then onto (Some (Reference (n ∷ a ∷ b ∷ c ∷ d ∷ []))) (types_in nibbles)
    else onto (by_nibble n) (types_in (a ∷ b ∷ c ∷ d ∷ nibbles))
types_in (n ∷ nibbles) = onto (by_nibble n) (types_in nibbles)

-- what has no type has no parameters and no result
abbrev pub untyped : MemberType
untyped = record { params = []; result = Void }

-- a parameter in front
abbrev pub with_param : ValueType → MemberType → MemberType
with_param t m = record m { params = t ∷ m.params }

-- parameters, and the result behind them
abbrev pub member_type : List ValueType → MemberType
member_type [] = untyped
member_type (t ∷ []) = record { params = []; result = t }
member_type (t ∷ u ∷ types) = with_param t (member_type (u ∷ types))

-- the same of what says types
abbrev pub type_by : Option (List ValueType) → MemberType
type_by None = untyped
type_by (Some types) = member_type types

-- what a type descriptor says; nibbles that say no types say no parameters and no result
abbrev pub type_of : Option TypeDescriptor → MemberType
type_of None = untyped
type_of (Some t) = type_by (types_in t.nibbles)

-- The type at an offset, which counts from Descriptor's number of pool entries on.
abbrev pub type_at : Descriptor → (offset : ℕ) → MemberType
type_at d offset = type_of (item_at (types_at d) offset)

-- ---- words

-- how many words a value has
abbrev pub width : ValueType → ℕ
width Void = 0
width Boolean = 1
width Byte = 1
width Short = 1
width Int = 2
width (Reference type) = 1

-- how many words several have
abbrev pub widths : List ValueType → ℕ
widths [] = 0
widths (t ∷ types) = width t + widths types

-- what is known of the words of a value
abbrev pub words : ValueType → List Given
words Void = []
words Boolean = ANumber ∷ []
words Byte = ANumber ∷ []
words Short = ANumber ∷ []
words Int = ANumber ∷ ANumber ∷ []
words (Reference type) = AnObject type ∷ []

-- what the words of a value are to be
abbrev pub needs_of : ValueType → List Need
needs_of Void = []
needs_of Boolean = NumberWord ∷ []
needs_of Byte = NumberWord ∷ []
needs_of Short = NumberWord ∷ []
needs_of Int = NumberWord ∷ NumberWord ∷ []
needs_of (Reference type) = OfType type ∷ []

-- the same of arguments on the stack: the last one lies on top
abbrev pub needs_of_all : List ValueType → List Need
needs_of_all [] = []
needs_of_all (t ∷ types) = needs_of_all types ++ needs_of t

-- the letter by which a value of a type is moved
abbrev pub is_moved_by : Letter → ValueType → Bool
is_moved_by Effects.Byte Boolean = true
is_moved_by Effects.Byte Byte = true
is_moved_by Effects.Short Short = true
is_moved_by Effects.Int Int = true
is_moved_by Effects.Reference (Reference type) = true
is_moved_by letter t = false

-- areturn returns a reference, sreturn a boolean, byte or short, ireturn an int, and return nothing
abbrev pub is_returned_by : Option Letter → ValueType → Bool
is_returned_by None Void = true
is_returned_by (Some Effects.Reference) (Reference type) = true
is_returned_by (Some Effects.Short) Boolean = true
is_returned_by (Some Effects.Short) Byte = true
is_returned_by (Some Effects.Short) Short = true
is_returned_by (Some Effects.Int) Int = true
is_returned_by letter t = false

-- ---- reference types

-- the type of arrays of numbers by newarray's type number: boolean 10, byte 11, short 12, int 13
abbrev pub numbers_type : (number : ℕ) → Option (List ℕ)
numbers_type number = if nat_le 10 number && nat_le number 13 then Some (number ∷ []) else None

-- the nibbles of arrays of a letter's elements; baload and bastore serve boolean and byte
abbrev pub arrays_of : Letter → List ℕ
arrays_of Effects.Byte = 0xA ∷ 0xB ∷ []
arrays_of Effects.Short = 0xC ∷ []
arrays_of Effects.Int = 0xD ∷ []
arrays_of Effects.Reference = references_nibble ∷ []

-- the nibbles of all arrays
abbrev pub all_arrays : List ℕ
all_arrays = 0xA ∷ 0xB ∷ 0xC ∷ 0xD ∷ references_nibble ∷ []

-- ---- subtypes

-- the class of a class_ref's nibbles
abbrev pub class_by : Loaded → List ℕ → Option Class
class_by l (a ∷ b ∷ c ∷ d ∷ []) = Classes.class_of l 0 (class_of (4096 * a + 256 * b + 16 * c + d))
class_by l nibbles = None

-- what a reference type means
abbrev pub shape_by : Loaded → List ℕ → Option (Shape Class)
shape_by l [] = None
shape_by l (n ∷ nibbles) =
    if n == class_nibble then option_map OfClass (class_by l nibbles)
    else if n == references_nibble then option_map OfReferences (class_by l nibbles)
    else if n == 0xA then Some (OfNumbers Booleans)
    else if n == 0xB then Some (OfNumbers Bytes)
    else if n == 0xC then Some (OfNumbers Shorts)
    else if n == 0xD then Some (OfNumbers Ints)
    else None

-- one type is of another, where both mean something
abbrev pub both_of : Loaded → Option (Shape Class) → Option (Shape Class) → Bool
both_of l (Some sub) (Some sup) = Classes.is_of l sub sup
both_of l sub sup = false

-- A reference type is of another, as Class and the export files list supers.
abbrev pub is_type_of : Loaded → (sub sup : List ℕ) → Bool
is_type_of l sub sup = both_of l (shape_by l sub) (shape_by l sup)
