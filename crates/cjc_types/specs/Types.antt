-- Types by name, and the cells of their values.
use Rattle.std.specs.Prelude.{ℕ, ◌^◌, Bool, true, false, ◌==◌, nat_lt, if◌then◌else◌, List, [], ◌∷◌, ◌++◌, length}
use Rattle.std.specs.Prelude.{Option, Some, None}
use Rattle.cjc_bytes.specs.Descriptor.{Part, Parts, plain}
use Rattle.cjc_bytes.specs.Spots.{desc_of}
use Rattle.cjc_bytes.specs.declared.descriptor.Kind.{Kind}
use Rattle.cjc_bytes.specs.declared.descriptor.Kind.TheVariants as kinds
use Rattle.cjc_world.specs.Subtype.{starts, inner}
use Rattle.cjc_code.specs.Jvm as jvm
use Rattle.cjc_types.specs.declared.cell.Cell.{Cell}
use Rattle.cjc_types.specs.declared.cell.Cell.TheVariants.{Number, Refs, Unusable}
use Rattle.cjc_types.specs.Names.{insert}
use Rattle.cjc_types.specs.Cells.{refs}

-- ---- descriptors

-- what stands for the parts of bytes that are no descriptor: no parameters, and a void result
abbrev pub no_parts : Parts
no_parts = record { is_method = false; params = []; result = plain kinds.Void }

-- the parts of a descriptor, or else no parameters and a void result
abbrev pub parts_or_none : Option Parts → Parts
parts_or_none (Some d) = d
parts_or_none None = no_parts

-- The parts of a descriptor. Bytes that are none have no parts, and neither have those that 32 bits don't count: no
-- class file has any.
unfoldable pub parts : List ℕ → Parts
parts desc = if nat_lt (length desc) (2 ^ 32) then parts_or_none (desc_of desc) else no_parts

-- what a value of a type is: of char, long, float and double unusable
abbrev pub cell_of : Kind → (class : List ℕ) → Cell
cell_of kinds.Bool class = Number
cell_of kinds.Byte class = Number
cell_of kinds.Short class = Number
cell_of kinds.Int class = Number
cell_of kinds.Other class = Unusable
cell_of kinds.Ref class = Refs (class ∷ [])
cell_of kinds.Void class = Unusable

-- what a value of the type of a field, a parameter or a result is
abbrev pub value_of : Part → Cell
value_of p = cell_of p.kind p.class

-- whether there is no value at all, as of a method without a result
abbrev pub is_void : Kind → Bool
is_void kinds.Bool = false
is_void kinds.Byte = false
is_void kinds.Short = false
is_void kinds.Int = false
is_void kinds.Other = false
is_void kinds.Ref = false
is_void kinds.Void = true

-- what a result of a type puts on the stack
abbrev pub result_of : Part → List Cell
result_of p = if is_void p.kind then [] else value_of p ∷ []

-- ---- arrays; 91 is [, 76 is L, 59 is ;

-- the array type of elements of the class or array type of this name
abbrev pub array_of : List ℕ → List ℕ
array_of name = if starts 91 name then 91 ∷ name else 91 ∷ 76 ∷ name ++ 59 ∷ []

-- the letter of a newarray's type number (Java Virtual Machine Specification, section 6.5, newarray)
abbrev pub letter : ℕ → ℕ
letter number =
    if number == 4 then 90
    else if number == 5 then 67
    else if number == 6 then 70
    else if number == 7 then 68
    else if number == 8 then 66
    else if number == 9 then 83
    else if number == 10 then 73
    else 74

-- the class or array type that a descriptor of elements names; that of a number names none
abbrev pub held_by : (element : List ℕ) → Option (List ℕ)
held_by element = if starts 91 element then Some element else if starts 76 element then Some (inner element) else None

-- the type that an array of references holds
abbrev pub held : List ℕ → Option (List ℕ)
held [] = None
held (b ∷ bs) = if b == 91 then held_by bs else None

-- these and the type, if there is one
abbrev pub with_held : Option (List ℕ) → List (List ℕ) → List (List ℕ)
with_held None names = names
with_held (Some name) names = insert name names

-- these, and the types that the arrays of references hold
abbrev pub elements : List (List ℕ) → List (List ℕ) → List (List ℕ)
elements [] names = names
elements (x ∷ xs) names = elements xs (with_held (held x) names)

-- what an array load by this opcode gives: from a set aaload the types that its arrays of references hold, the
-- others a number
abbrev pub element_of : (opcode : ℕ) → Cell → Cell
element_of opcode Number = Unusable
element_of opcode (Refs names) = if opcode == jvm.aaload then refs (elements names []) else Number
element_of opcode Unusable = Unusable

-- a reference, or else unusable
abbrev pub as_reference : Cell → Cell
as_reference Number = Unusable
as_reference (Refs names) = Refs names
as_reference Unusable = Unusable
