-- Where the classes and members of a tree stand.
use Rattle.std.specs.Prelude.{ℕ, ◌+◌, ◌==◌, ◌&&◌, nat_lt, if◌then◌else◌, List, length, position, Option, Some, None}
use Rattle.std.specs.Prelude.{option_and_then, option_map, slice_get}
use Rattle.std.specs.Str.{bytes_eq}
use Rattle.cjc_export.specs.declared.tree.ExportField.{ExportField}
use Rattle.cjc_export.specs.declared.tree.ExportMethod.{ExportMethod}
use Rattle.cjc_export.specs.declared.tree.ExportClass.{ExportClass}

-- a place, where 32 bits hold it
unfoldable pub in_32_bits : Option ℕ → Option ℕ
in_32_bits (Some i) = if nat_lt i 0x1_0000_0000 then Some i else None
in_32_bits None = None

-- the first class of a name, or of a token
abbrev pub name_place : List ExportClass → List ℕ → Option ℕ
name_place classes name = position (λ c. bytes_eq c.name name) classes

-- the first class of a token
abbrev pub token_place : List ExportClass → ℕ → Option ℕ
token_place classes token = position (λ c. c.token == token) classes

-- the first field of this name and descriptor
abbrev pub field_place : List ExportField → List ℕ → List ℕ → Option ℕ
field_place fields name desc = position (λ f. bytes_eq f.name name && bytes_eq f.desc desc) fields

-- the first method of this name and descriptor
abbrev pub method_place : List ExportMethod → List ℕ → List ℕ → Option ℕ
method_place methods name desc = position (λ m. bytes_eq m.name name && bytes_eq m.desc desc) methods

-- the first place, or the second where there is no first
abbrev pub or_else : Option ℕ → Option ℕ → Option ℕ
or_else (Some i) second = Some i
or_else None second = second

-- the place of a member: the fields are counted first, then the methods
unfoldable pub member_place : ExportClass → List ℕ → List ℕ → Option ℕ
member_place c name desc = or_else (field_place c.fields name desc) (option_map (λ i. length c.fields + i)
    (method_place c.methods name desc))

-- in the class at a place, if there is one
abbrev pub place_of_member : List ExportClass → ℕ → List ℕ → List ℕ → Option ℕ
place_of_member classes class name desc = option_and_then (λ c. member_place c name desc) (slice_get classes class)
