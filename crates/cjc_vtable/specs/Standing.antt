-- What the code holds of the order of the classes of a package.
use Rattle.std.specs.Prelude.{◌≡◌, ℕ, zero, suc, ◌+◌, List, [], ◌∷◌, ◌++◌, map, slice_get, false, if◌then◌else◌, Option, Some, option_map}
use Rattle.cjc_bytes.specs.declared.settings.FileLine.{FileLine}
use Rattle.cjc_classfile.specs.declared.tree.ClassTree.{ClassTree}
use Rattle.cjc_world.specs.Classes.{Class, declared, is_interface}
use Rattle.cjc_world.specs.Order.{next, lined_up}

-- the classes of class files, numbered from here on
abbrev pub numbered_from : ℕ → List ClassTree → List Class
numbered_from n [] = []
numbered_from n (c ∷ cs) = declared n c ∷ numbered_from (n + 1) cs

-- how many lines name class files
abbrev pub class_lines : List FileLine → ℕ
class_lines [] = zero
class_lines (line ∷ lines) = if line.class_file then suc (class_lines lines) else class_lines lines

-- the class of the package of this number
abbrev pub declared_at : List ClassTree → ℕ → Option Class
declared_at trees n = option_map (declared n) (slice_get trees n)

-- the class of this number is the next
abbrev pub IsNext : List Class → (placed : List ℕ) → List ClassTree → ℕ → Type 0
IsNext w placed trees n = (t : ClassTree) × (slice_get trees n ≡ Some t) × (next w false placed w ≡ Some (declared n t))

-- the class of this number is no interface
abbrev pub IsClass : List ClassTree → ℕ → Type 0
IsClass trees n = (t : ClassTree) × (slice_get trees n ≡ Some t) × (is_interface t.flags ≡ false)

-- The classes of these numbers stand first, and those that follow are lined up by so many steps.
abbrev pub IsBegun : List Class → List ClassTree → List ℕ → (steps : ℕ) → List Class → Type 0
IsBegun w trees placed steps all = map Some all ≡ map (declared_at trees) placed ++ map Some (lined_up w false steps placed)
