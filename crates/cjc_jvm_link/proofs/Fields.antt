-- Static cells and fields of objects, one field more.
use Rattle.std.proofs.Common.{◌≡◌, refl, ap, Bool, true, false, List, [], ◌∷◌, ◌++◌, map, ℕ}
use Rattle.std.specs.Prelude.{if◌then◌else◌}
use Rattle.cjc_world.specs.Bytes.declared.fault.MemberId.{MemberId}
use Rattle.cjc_world.specs.Bytes.AccessFlags.{is_static}
use Rattle.cjc_world.specs.ClassFile.declared.tree.FieldTree.{FieldTree}
use Rattle.cjc_jvm_step.specs.Script.declared.report.FieldValue.{FieldValue}
use Rattle.cjc_world.specs.declared.image.StaticImage.{StaticImage}
use Rattle.cjc_world.specs.Classes.{field_of_class}
use Rattle.cjc_jvm_semantics.specs.Effects.{fresh_field}
use Rattle.cjc_jvm_semantics.specs.OnePackage.{cell_of, cells_in, is_cell, instance_fields}

-- the field of a class
abbrev pub named : List ℕ → FieldTree → MemberId
named class f = record { class = class; name = f.name; desc = f.desc }

pub more_cells : (image : StaticImage) (class : List ℕ) (fs : List FieldTree) (f : FieldTree)
    → cells_in image class (fs ++ f ∷ []) ≡ cells_in image class fs ++ (if is_cell f then cell_of image (named class f)
    ∷ [] else [])
more_cells image class [] f = refl
more_cells image class (g ∷ fs) f = by (is_cell g) (more_cells image class fs f)
  where
    one : List FieldValue
    one = if is_cell f then cell_of image (named class f) ∷ [] else []

    by : (t : Bool) → cells_in image class (fs ++ f ∷ []) ≡ cells_in image class fs ++ one
        → (if t then cell_of image (named class g) ∷ cells_in image class (fs ++ f ∷ []) else cells_in image class (fs
        ++ f ∷ []))
        ≡ (if t then cell_of image (named class g) ∷ cells_in image class fs else cells_in image class fs) ++ one
    by true e = ap (λ xs. cell_of image (named class g) ∷ xs) e
    by false e = e

-- the fields of objects among these
abbrev pub fresh_of : List ℕ → List FieldTree → List FieldValue
fresh_of class fs = map fresh_field (instance_fields class (map field_of_class fs))

pub more_fresh : (class : List ℕ) (fs : List FieldTree) (f : FieldTree) → fresh_of class (fs ++ f ∷ [])
    ≡ fresh_of class fs ++ (if is_static f.flags then [] else fresh_field (named class f) ∷ [])
more_fresh class [] f = by (is_static f.flags)
  where
    by : (t : Bool) → map fresh_field (if t then [] else named class f ∷ []) ≡ (if t then []
        else fresh_field (named class f) ∷ [])
    by true = refl
    by false = refl
more_fresh class (g ∷ fs) f = by (is_static g.flags) (more_fresh class fs f)
  where
    one : List FieldValue
    one = if is_static f.flags then [] else fresh_field (named class f) ∷ []

    by : (t : Bool) → fresh_of class (fs ++ f ∷ []) ≡ fresh_of class fs ++ one
        → map fresh_field (if t then instance_fields class (map field_of_class (fs ++ f ∷ [])) else named class g
        ∷ instance_fields class (map field_of_class (fs ++ f ∷ [])))
        ≡ map fresh_field (if t then instance_fields class (map field_of_class fs) else named class g
        ∷ instance_fields class (map field_of_class fs)) ++ one
    by true e = e
    by false e = ap (λ xs. fresh_field (named class g) ∷ xs) e
