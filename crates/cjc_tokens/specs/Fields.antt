-- Tokens of fields (Java Card Virtual Machine Specification 2.2.2, sections 4.3.7.4 and 4.3.7.5).
use Rattle.std.specs.Prelude.{ℕ, ◌+◌, ◌==◌, List, [], ◌∷◌, take, Bool, false, not, ◌&&◌, ◌||◌, nat_lt, sum_by, count_by}
use Rattle.std.specs.Prelude.{is_some, if◌then◌else◌, Option, Some, None, codes}
use Rattle.std.specs.Str.{bytes_eq}
use Rattle.cjc_world.specs.ClassFile.declared.tree.FieldTree.{FieldTree}
use Rattle.cjc_world.specs.ExportFile.Members.{may_be_constant}
use Rattle.cjc_bytes.specs.AccessFlags.{is_static}
use Rattle.cjc_tokens.specs.Members.{is_exposed}

-- A static final boolean, byte, short or int with a number as ConstantValue has no cell and no token.
abbrev pub is_constant : FieldTree → Bool
is_constant f = may_be_constant f.flags f.desc && is_some f.constant

-- ---- static fields

-- public or protected, and no constant
abbrev pub is_open_static : FieldTree → Bool
is_open_static f = is_static f.flags && is_exposed f.flags && not (is_constant f)

-- ---- instance fields

-- a field that is not static
abbrev pub is_instance : FieldTree → Bool
is_instance f = not (is_static f.flags)

-- of a class or array
abbrev pub is_reference : List ℕ → Bool
is_reference [] = false
is_reference (b ∷ bs) = (b == 76) || (b == 91)

-- public and protected primitives, public and protected references, other references, other primitives
abbrev pub group : FieldTree → ℕ
group f = if is_exposed f.flags then (if is_reference f.desc then 1 else 0) else (if is_reference f.desc then 2 else 3)

-- an int takes two cells
abbrev pub cells : FieldTree → ℕ
cells f = if bytes_eq f.desc (codes "I") then 2 else 1

-- how many cells the fields take that pass the test
abbrev pub cells_of : (FieldTree → Bool) → List FieldTree → ℕ
cells_of test fs = sum_by (λ f. if test f then cells f else 0) fs

-- all of a class
abbrev pub instance_cells : List FieldTree → ℕ
instance_cells fs = cells_of is_instance fs

-- The cells of the groups before it, and those before it in its own group.
unfoldable pub instance_token : List FieldTree → (place : ℕ) → FieldTree → ℕ
instance_token fs i f =
    cells_of (λ g. is_instance g && nat_lt (group g) (group f)) fs + cells_of (λ g. is_instance g
    && (group g == group f)) (take i fs)

-- the token of the field at a place of a class
unfoldable pub field_token : (exported : Bool) → List FieldTree → (place : ℕ) → FieldTree → Option ℕ
field_token exported fs i f =
    if is_instance f then Some (instance_token fs i f)
    else if exported && is_open_static f then Some (count_by is_open_static (take i fs)) else None

-- those of the fields from a place on
unfoldable pub field_tokens : (exported : Bool) → List FieldTree → (place : ℕ) → List FieldTree → List (Option ℕ)
field_tokens exported fs i [] = []
field_tokens exported fs i (f ∷ rest) = field_token exported fs i f ∷ field_tokens exported fs (i + 1) rest

-- of the instance fields alone
abbrev pub instance_field_token : List FieldTree → (place : ℕ) → FieldTree → Option ℕ
instance_field_token fs i f = if is_instance f then Some (instance_token fs i f) else None

-- those of the fields from a place on, where static fields have none
unfoldable pub instance_tokens : List FieldTree → (place : ℕ) → List FieldTree → List (Option ℕ)
instance_tokens fs i [] = []
instance_tokens fs i (f ∷ rest) = instance_field_token fs i f ∷ instance_tokens fs (i + 1) rest
