-- The infos that a package wants of Class, as code puts them together: by functions that give class_refs and offsets.
use Rattle.std.specs.Prelude.{ℕ, List, [], ◌∷◌, ◌++◌, map, slice_get, Option, Some, None}
use Rattle.cjc_capread.specs.declared.tree.ClassRef.{ClassRef}
use Rattle.cjc_world.specs.ClassFile.declared.tree.ClassTree.{ClassTree}
use Rattle.cjc_world.specs.declared.found.Found.{Found}
use Rattle.cjc_world.specs.Files.{Files}
use Rattle.cjc_world.specs.Classes.{Class, all_classes}
use Rattle.cjc_classes.specs.VTable.declared.table.ClassTable.{ClassTable}
use Rattle.cjc_classes.specs.LowerComponents.Class.{interface_entry}
use Rattle.cjc_classes.specs.ClassInfo.Entries.{entry_by, with_numbers}
use Rattle.cjc_verify.specs.declared.infos.wanted.Wanted.{Wanted}
use Rattle.cjc_verify.specs.declared.infos.wanted.Wanted.TheVariants as wanted

-- of an interface
abbrev pub interface_by : (ref : List ℕ → ClassRef) → List Class → Class → Wanted
interface_by ref w i = wanted.Interface (interface_entry ref w i)

-- of the interfaces of these numbers
abbrev pub interfaces_by : (ref : List ℕ → ClassRef) → Files → List ℕ → List Wanted
interfaces_by ref files ns = map (interface_by ref (all_classes files)) (with_numbers files.classes ns)

-- of the class of a table, if there is such a class
abbrev pub class_where : (ref : List ℕ → ClassRef) → (offset : Found → ℕ) → List Class → ClassTable
    → Option ClassTree → List Wanted
class_where ref offset w t None = []
class_where ref offset w t (Some c) = wanted.Class (entry_by ref offset w t c) ∷ []

-- of the class that a table is of
abbrev pub class_by : (ref : List ℕ → ClassRef) → (offset : Found → ℕ) → Files → ClassTable → List Wanted
class_by ref offset files t = class_where ref offset (all_classes files) t (slice_get files.classes t.class)

-- of the classes of these tables
abbrev pub classes_by : (ref : List ℕ → ClassRef) → (offset : Found → ℕ) → Files → List ClassTable → List Wanted
classes_by ref offset files [] = []
classes_by ref offset files (t ∷ ts) = class_by ref offset files t ++ classes_by ref offset files ts
