-- Rules 401 to 409: limits of a package.
use Rattle.std.specs.Prelude.{ℕ, List, [], ◌∷◌, ◌++◌, length, sum_by, count_by, Bool, false, not, ◌&&◌, nat_lt}
use Rattle.std.specs.Prelude.{if◌then◌else◌, Option, Some, None, codes}
use Rattle.std.specs.List.{flat_map, list_any}
use Rattle.std.specs.Str.{bytes_eq}
use Rattle.cjc_bytes.specs.declared.settings.Settings.{Settings}
use Rattle.cjc_code.specs.ClassFile.declared.tree.ClassTree.{ClassTree}
use Rattle.cjc_code.specs.ClassFile.declared.tree.FieldTree.{FieldTree}
use Rattle.cjc_code.specs.ClassFile.declared.tree.MethodTree.{MethodTree}
use Rattle.cjc_code.specs.ClassFile.Code.{CodeTree}
use Rattle.cjc_world.specs.ExportFile.declared.tree.ExportClass.{ExportClass}
use Rattle.cjc_world.specs.Classes.{Class, all_classes, declared, imported}
use Rattle.cjc_bytes.specs.AccessFlags.{is_interface, is_static}
use Rattle.cjc_world.specs.Exported.{is_exported}
use Rattle.cjc_world.specs.Files.{Files}
use Rattle.cjc_world.specs.Subtype.{is_subclass}
use Rattle.cjc_subset.specs.Names.{catches_of}

-- ---- 401: more than 255 exported classes

-- more than 255 classes of the package are exported
unfoldable pub has_many_exported : Files → Settings → Bool
has_many_exported files settings =
    nat_lt 255 (count_by (λ c. is_exported (all_classes files) (nat_lt 0 (length settings.applets)) (declared 0 c))
    files.classes)

-- ---- 403: a class has more than 15 interfaces, or an interface more than 14, inherited ones counted and those that
-- ---- are in no file

-- another class or interface that stands above, over steps
abbrev pub is_above : List Class → ClassTree → Class → Bool
is_above w c d = is_subclass w c.name d.name && not (bytes_eq c.name d.name)

-- the interfaces that a class lists, where it stands above another
abbrev pub listed_above : List Class → ClassTree → Class → List (List ℕ)
listed_above w c d = if is_above w c d then d.interfaces else []

-- the interfaces that those of these classes of the package list which stand above another
abbrev pub listed_by_declared : List Class → ClassTree → List ClassTree → List (List ℕ)
listed_by_declared w c ds = flat_map (λ d. listed_above w c (declared 0 d)) ds

-- the interfaces that those of these imported classes list which stand above another
abbrev pub listed_by_imported : List Class → ClassTree → List ExportClass → List (List ℕ)
listed_by_imported w c ds = flat_map (λ d. listed_above w c (imported 0 d)) ds

-- what the class and all that stand above it list
unfoldable pub listed_names : Files → ClassTree → List (List ℕ)
listed_names files c =
    c.interfaces
    ++ listed_by_declared (all_classes files) c files.classes
    ++ flat_map (λ t. listed_by_imported (all_classes files) c t.classes) files.exports

-- these, and each other name once
unfoldable pub noted : List (List ℕ) → List (List ℕ) → List (List ℕ)
noted known [] = known
noted known (x ∷ xs) = noted (if list_any (λ y. bytes_eq y x) known then known else known ++ x ∷ []) xs

-- how many interfaces a class may have, or an interface
abbrev pub most_interfaces : ClassTree → ℕ
most_interfaces c = if is_interface c.flags then 14 else 15

-- the class and all that stand above it list more interfaces, each counted once, than it may have
unfoldable pub has_many_interfaces : Files → ClassTree → Bool
has_many_interfaces files c = nat_lt (most_interfaces c) (length (noted [] (listed_names files c)))

-- ---- 404 and 405

-- the code of a method has more than 255 local variables
abbrev pub has_many_locals : Option CodeTree → Bool
has_many_locals None = false
has_many_locals (Some code) = nat_lt 255 code.max_locals

-- the code of a method has an operand stack of more than 255 words
abbrev pub has_deep_stack : Option CodeTree → Bool
has_deep_stack None = false
has_deep_stack (Some code) = nat_lt 255 code.max_stack

-- ---- 406: a class declares more than 255 cells of instance fields

-- an int takes two cells
abbrev pub cells : FieldTree → ℕ
cells m = if is_static m.flags then 0 else if bytes_eq m.desc (codes "I") then 2 else 1

-- the instance fields that the class itself declares take more than 255 cells
unfoldable pub has_many_cells : ClassTree → Bool
has_many_cells c = nat_lt 255 (sum_by cells c.fields)

-- ---- 407: more than 255 entries in all exception tables together

-- how many entries a method's exception table has, 0 without code
abbrev pub handlers : MethodTree → ℕ
handlers m = length (catches_of m.code)

-- how many entries the exception tables of the methods of a class have together
abbrev pub handlers_of_class : ClassTree → ℕ
handlers_of_class c = sum_by handlers c.methods

-- the exception tables of the whole package have more than 255 entries together
unfoldable pub has_many_handlers : Files → Bool
has_many_handlers files = nat_lt 255 (sum_by handlers_of_class files.classes)
