-- What stands above a class by the supers that export files list, direct or not, and java/lang/Object, and the virtual
-- methods that a class lists or inherits (Java Card Virtual Machine Specification 2.2.2, sections 5.7 and 5.9).
use Rattle.std.specs.Prelude.{◌≡◌, ℕ, zero, suc, ◌+◌, ◌==◌, ◌&&◌, ◌||◌, not, Bool, true, false, if◌then◌else◌, List, []}
use Rattle.std.specs.Prelude.{◌∷◌, ◌++◌, length, Option, Some, None, codes}
use Rattle.std.specs.List.{list_any, flat_map, find}
use Rattle.std.specs.Str.{bytes_eq}
use Rattle.cjc_bytes.specs.AccessFlags.{is_static, is_private}
use Rattle.cjc_export.specs.declared.tree.ExportMethod.{ExportMethod}
use Rattle.cjc_export.specs.declared.tree.ExportClass.{ExportClass}
use Rattle.cjc_export.specs.declared.tree.ExportTree.{ExportTree}

-- the classes of export files, file by file
abbrev pub classes_of : List ExportTree → List ExportClass
classes_of trees = flat_map (λ t. t.classes) trees

-- the first class of this name
abbrev pub class_named : List ExportClass → (name : List ℕ) → Option ExportClass
class_named [] name = None
class_named (c ∷ classes) name = if bytes_eq c.name name then Some c else class_named classes name

-- whether the name is one of these
abbrev pub is_one_of : (names : List (List ℕ)) → (name : List ℕ) → Bool
is_one_of [] name = false
is_one_of (x ∷ names) name = bytes_eq x name || is_one_of names name

-- no name stands twice
abbrev pub are_apart : List (List ℕ) → Bool
are_apart [] = true
are_apart (x ∷ names) = not (is_one_of names x) && are_apart names

-- A name is one of these, or a super of a class whose name is so.
pub data IsAtOrAbove (classes : List ExportClass) (names : List (List ℕ)) : (name : List ℕ) → Type 0 where
  at : {x : List ℕ} → is_one_of names x ≡ true → IsAtOrAbove classes names x
  above : {x y : List ℕ} (c : ExportClass) → IsAtOrAbove classes names x → class_named classes x ≡ Some c
      → is_one_of c.supers y ≡ true → IsAtOrAbove classes names y

-- a class, and onwards from its supers before the other names
abbrev pub with_class : Option ExportClass → (names : List (List ℕ)) → (onwards : List (List ℕ) → List ExportClass)
    → List ExportClass
with_class None names onwards = onwards names
with_class (Some c) names onwards = c ∷ onwards (c.supers ++ names)

-- The classes of these names and what stands above them, in so many names at most. Those that were passed are left out.
unfoldable pub upwards_from : List ExportClass → ℕ → (passed names : List (List ℕ)) → List ExportClass
upwards_from classes zero passed names = []
upwards_from classes (suc n) passed [] = []
upwards_from classes (suc n) passed (x ∷ names) =
    if is_one_of passed x then upwards_from classes n passed names
    else with_class (class_named classes x) names (λ more. upwards_from classes n (x ∷ passed) more)

-- how many supers these classes list in all
abbrev pub super_count : List ExportClass → ℕ
super_count [] = 0
super_count (c ∷ classes) = length c.supers + super_count classes

-- The classes of these names and all that stand above them, each once; each listed super is looked at once.
abbrev pub upwards : List ExportClass → (names : List (List ℕ)) → List ExportClass
upwards classes names = upwards_from classes (length names + super_count classes) [] names

-- ---- virtual methods

-- neither static nor private, and no constructor
abbrev pub is_virtual : ExportMethod → Bool
is_virtual m = not (is_static m.flags || is_private m.flags || bytes_eq m.name (codes "<init>"))

-- the virtual method of a class with this token
abbrev pub virtual_method : (token : ℕ) → ExportClass → Option ExportMethod
virtual_method token c = find (λ m. is_virtual m && (m.token == token)) c.methods

-- it lists a virtual method with this token
abbrev pub lists_virtual : (token : ℕ) → ExportClass → Bool
lists_virtual token c = list_any (λ m. is_virtual m && (m.token == token)) c.methods

-- a class that stands above it lists one
abbrev pub inherits_virtual : List ExportClass → (token : ℕ) → ExportClass → Bool
inherits_virtual classes token c = list_any (lists_virtual token) (upwards classes c.supers)

-- it lists or inherits one
abbrev pub has_virtual : List ExportClass → (token : ℕ) → ExportClass → Bool
has_virtual classes token c = lists_virtual token c || inherits_virtual classes token c
