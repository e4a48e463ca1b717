-- Reference types as type descriptors write them (Java Card Virtual Machine Specification 2.2.2, section 6.13.4), by
-- their nibbles: 6 and a class_ref for a class, A to D for an array of boolean, byte, short or int, E and the class_ref
-- of the elements for an array of references.
use Rattle.std.specs.Prelude.{ℕ, ◌==◌, nat_le, Bool, true, false, List, [], ◌∷◌, Option, Some, None, if◌then◌else◌}
use Rattle.std.specs.List.{list_any}
use Rattle.cjc_types.specs.declared.cell.Cell.{Cell}
use Rattle.cjc_types.specs.declared.cell.Cell.TheVariants.{Number, Refs, Unusable}
use Rattle.cjc_types.specs.Names.{insert}
use Rattle.cjc_types.specs.Cells.{refs}

-- ---- first nibbles

-- a class
abbrev pub class_nibble : ℕ
class_nibble = 0x6

-- an array of references
abbrev pub references_nibble : ℕ
references_nibble = 0xE

-- the type begins with one of these nibbles
abbrev pub begins_with : (nibbles : List ℕ) → (type : List ℕ) → Bool
begins_with nibbles [] = false
begins_with nibbles (n ∷ type) = list_any (λ k. k == n) nibbles

-- ---- elements

-- the type that an array of references holds
abbrev pub held : List ℕ → Option (List ℕ)
held [] = None
held (n ∷ class) = if n == references_nibble then Some (class_nibble ∷ class) else None

-- these and the type, if there is one
abbrev pub with_held : Option (List ℕ) → List (List ℕ) → List (List ℕ)
with_held None types = types
with_held (Some type) types = insert type types

-- these, and the types that the arrays of references hold
abbrev pub elements : List (List ℕ) → List (List ℕ) → List (List ℕ)
elements [] types = types
elements (x ∷ xs) types = elements xs (with_held (held x) types)

-- what aaload gives: the types that the arrays of references hold
abbrev pub element_of : Cell → Cell
element_of Number = Unusable
element_of (Refs types) = refs (elements types [])
element_of Unusable = Unusable

-- what another array load gives: a number, where there is an array
abbrev pub item_of : Cell → Cell
item_of Number = Unusable
item_of (Refs types) = Number
item_of Unusable = Unusable
