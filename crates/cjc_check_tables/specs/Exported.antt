-- Where an offset of Export is broken, of one class; and what Descriptor has by token.
use Rattle.std.specs.Prelude.{ℕ, ◌+◌, List, [], ◌∷◌, Bool, ◌==◌, ◌&&◌, ◌||◌, if◌then◌else◌, Option, Some, None}
use Rattle.std.specs.Prelude.{slice_get}
use Rattle.std.specs.List.{list_any}
use Rattle.cjc_capread.specs.Bytes.AccessFlags.{is_static}
use Rattle.cjc_capread.specs.ClassRefs.{is_inside}
use Rattle.cjc_capread.specs.declared.tree.ClassDescriptor.{ClassDescriptor}
use Rattle.cjc_capread.specs.declared.tree.ExportedClass.{ExportedClass}
use Rattle.cjc_capread.specs.declared.tree.FieldDescriptor.{FieldDescriptor}
use Rattle.cjc_capread.specs.declared.tree.MethodDescriptor.{MethodDescriptor}
use Rattle.cjc_check_rules.specs.declared.spot.ComponentPlace.{ComponentPlace}
use Rattle.cjc_check_rules.specs.Complete.{Complete}
use Rattle.cjc_check_rules.specs.Exports.{class_for, in_exported}
use Rattle.cjc_check_rules.specs.Members.{is_cell_at, is_constructor}

-- where the offsets of an exported class are broken, beside the class of Descriptor with its token and start
abbrev pub exported_spot : Complete → (token at : ℕ) → ExportedClass → List ComponentPlace
exported_spot c token at e = in_exported c at e (class_for c token e.class_offset)

-- a static field of a class with this token has this cell
abbrev pub has_cell : List FieldDescriptor → (token offset : ℕ) → Bool
has_cell fields token offset = list_any (λ f. f.token == token && is_cell_at f.place offset) fields

-- a static method or a constructor of a class with this token begins at this offset
abbrev pub has_start : List MethodDescriptor → (token offset : ℕ) → Bool
has_start methods token offset = list_any (λ m. m.token == token && (is_static m.flags || is_constructor m.flags)
    && m.offset == offset) methods

-- a place, or another where there is none and it is this one
abbrev pub or_if : Option ℕ → Bool → ℕ → Option ℕ
or_if (Some place) is at = Some place
or_if None is at = if is then Some at else None

-- the place of the first class with this token and this start, where the first of these has this place
abbrev pub place_from : (at : ℕ) → List ClassDescriptor → (token offset : ℕ) → Option ℕ
place_from at [] token offset = None
place_from at (d ∷ classes) token offset = if d.token == token && is_inside d.this_class offset then Some at
    else place_from (at + 1) classes token offset

-- the place of the first class of Descriptor with this token and this start
abbrev pub first_place : List ClassDescriptor → (token offset : ℕ) → Option ℕ
first_place classes token offset = place_from 0 classes token offset

-- the class at a place, if there is one
abbrev pub class_in : List ClassDescriptor → Option ℕ → Option ClassDescriptor
class_in classes None = None
class_in classes (Some place) = slice_get classes place
