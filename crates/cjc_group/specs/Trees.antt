-- When two export files say the same, as a test of their trees.
use Rattle.std.specs.Prelude.{ℕ, ℤ, ◌==◌, ◌&&◌, not, Bool, true, false, List, [], ◌∷◌, Option, Some, None}
use Rattle.std.specs.Ordering.{int_eq}
use Rattle.std.specs.Str.{bytes_eq}
use Rattle.cjc_world.specs.ExportFile.declared.tree.ExportClass.{ExportClass}
use Rattle.cjc_world.specs.ExportFile.declared.tree.ExportField.{ExportField}
use Rattle.cjc_world.specs.ExportFile.declared.tree.ExportMethod.{ExportMethod}
use Rattle.cjc_world.specs.ExportFile.declared.tree.ExportTree.{ExportTree}

-- whether both are so, or neither is
abbrev pub same : Bool → Bool → Bool
same true b = b
same false b = not b

-- as many, and each like the one in its place
abbrev pub are_alike : {A : Type 0} → (A → A → Bool) → List A → List A → Bool
are_alike alike [] [] = true
are_alike alike (x ∷ xs) (y ∷ ys) = alike x y && are_alike alike xs ys
are_alike alike xs ys = false

-- the same value, or none
abbrev pub same_constant : Option ℤ → Option ℤ → Bool
same_constant None None = true
same_constant (Some x) (Some y) = int_eq x y
same_constant x y = false

-- the same names in the same order
abbrev pub same_names : List (List ℕ) → List (List ℕ) → Bool
same_names left right = are_alike bytes_eq left right

-- a field
abbrev pub same_field : ExportField → ExportField → Bool
same_field f g =
    (f.token == g.token) && (f.flags == g.flags) && bytes_eq f.name g.name && bytes_eq f.desc g.desc
    && same_constant f.constant g.constant

-- a method
abbrev pub same_method : ExportMethod → ExportMethod → Bool
same_method m n = (m.token == n.token) && (m.flags == n.flags) && bytes_eq m.name n.name && bytes_eq m.desc n.desc

-- a class
abbrev pub same_class : ExportClass → ExportClass → Bool
same_class c d =
    (c.token == d.token) && (c.flags == d.flags) && bytes_eq c.name d.name && same_names c.listed d.listed
    && same_names c.supers d.supers && same_names c.interfaces d.interfaces && are_alike same_field c.fields d.fields
    && are_alike same_method c.methods d.methods

-- An export file as a whole.
abbrev pub same_tree : ExportTree → ExportTree → Bool
same_tree t u =
    bytes_eq t.name u.name && bytes_eq t.aid u.aid && (t.major == u.major) && (t.minor == u.minor)
    && same t.library u.library && are_alike same_class t.classes u.classes
