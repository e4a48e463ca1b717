-- The intervals of values that no instruction computes: those of a type, of what an array holds, and of a length.
use Rattle.std.specs.Prelude.{ℕ, Bool, ◌==◌, if◌then◌else◌, List, [], ◌∷◌, ℤ, pos}
use Rattle.std.specs.List.{list_all}
use Rattle.cjc_bytes.specs.Descriptor.{Part}
use Rattle.cjc_bytes.specs.declared.descriptor.Kind.{Kind}
use Rattle.cjc_bytes.specs.declared.descriptor.Kind.TheVariants as kinds
use Rattle.cjc_range.specs.Span.{Span, span, byte_range, short_range, full}
use Rattle.cjc_range.specs.Rows.{clip}
use Rattle.cjc_types.specs.declared.cell.Cell.{Cell}
use Rattle.cjc_types.specs.declared.cell.Cell.TheVariants.{Number, Refs, Unusable}
use Rattle.cjc_types.specs.Types.{is_void}
use Rattle.cjc_types.specs.Rules.{is_array_by}
use Rattle.cjc_types.specs.Bytecode.Jvm as jvm

-- the numbers of a boolean
abbrev pub boolean_range : Span
boolean_range = span (pos 0) (pos 1)

-- as many elements as an array may have
abbrev pub length_range : Span
length_range = span (pos 0) (pos 32767)

-- one number
abbrev pub exactly : ℤ → Span
exactly z = clip full (span z z)

-- the numbers of a type; what is no number is full
abbrev pub range_of_kind : Kind → Span
range_of_kind kinds.Bool = boolean_range
range_of_kind kinds.Byte = byte_range
range_of_kind kinds.Short = short_range
range_of_kind kinds.Int = full
range_of_kind kinds.Other = full
range_of_kind kinds.Ref = full
range_of_kind kinds.Void = full

-- the numbers of the type of a field, a parameter or a result; what is no number is full
abbrev pub range_of : Part → Span
range_of p = range_of_kind p.kind

-- what a result of a type puts on the stack
abbrev pub result_ranges : Part → List Span
result_ranges p = if is_void p.kind then [] else range_of p ∷ []

-- an array of booleans
abbrev pub is_boolean_array : (name : List ℕ) → Bool
is_boolean_array name = is_array_by 90 name

-- baload gives a boolean where no type of the array is other than an array of booleans
abbrev pub byte_element_range : Cell → Span
byte_element_range Number = full
byte_element_range (Refs names) = if list_all is_boolean_array names then boolean_range else byte_range
byte_element_range Unusable = full

-- what an array load by this opcode gives, from an array of these types: baload, saload; of the others full
abbrev pub element_range : (opcode : ℕ) → (types : Cell) → Span
element_range opcode types =
    if opcode == jvm.baload then byte_element_range types
    else if opcode == jvm.saload then short_range
    else full
