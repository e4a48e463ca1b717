-- The classes of a package by their numbers.
use Rattle.std.specs.Prelude.{◌≡◌, ◌<◌, ℕ, ◌+◌, count_by, List, [], ◌∷◌, ◌++◌, slice_get, Bool, true, not, ◌&&◌}
use Rattle.std.specs.Prelude.{if◌then◌else◌, Option, None, Some, option_map}
use Rattle.cjc_world.specs.Bytes.declared.settings.FileLine.{FileLine}
use Rattle.cjc_world.specs.ClassFile.declared.tree.ClassTree.{ClassTree}
use Rattle.cjc_world.specs.Files.{Files}
use Rattle.cjc_world.specs.Classes.{Class, declared, class_named}
use Rattle.cjc_world.specs.Order.{is_of_kind}

-- the classes of class files, numbered from here on
abbrev pub numbered_from : ℕ → List ClassTree → List Class
numbered_from n [] = []
numbered_from n (c ∷ cs) = declared n c ∷ numbered_from (n + 1) cs

-- How many lines name class files. Lower numbers alone are of a class of the package.
abbrev pub class_count : List FileLine → ℕ
class_count lines = count_by (λ (line : FileLine). line.class_file) lines

-- the class of the package of this number
abbrev pub declared_at : List ClassTree → ℕ → Option Class
declared_at trees n = option_map (declared n) (slice_get trees n)

-- the number of a class of this kind of the package
abbrev pub own_number : (interfaces : Bool) → Option Class → List ℕ
own_number i None = []
own_number i (Some c) = if not c.is_imported && is_of_kind i c then c.number ∷ [] else []

-- the numbers of such classes among those of these names
abbrev pub own_numbers : (interfaces : Bool) → List Class → List (List ℕ) → List ℕ
own_numbers i w [] = []
own_numbers i w (x ∷ xs) = own_number i (class_named w x) ++ own_numbers i w xs

-- the numbers of such classes among those that a class lists
abbrev pub listed_numbers : (interfaces : Bool) → List Class → ClassTree → List ℕ
listed_numbers i w t = own_numbers i w (t.superclass ∷ t.interfaces)

-- a class of this kind that the list names has the number
abbrev pub IsOfKind : Files → (interfaces : Bool) → ℕ → Type 0
IsOfKind files i n = (n < class_count files.lines) × (t : ClassTree) × (slice_get files.classes n ≡ Some t)
    × (is_of_kind i (declared n t) ≡ true)
