-- The classes and interfaces that a class_ref can name (Java Card Virtual Machine Specification 2.2.2, 6.1, 6.8 and
-- chapter 5).
use Rattle.std.specs.Prelude.{ℕ, ◌+◌, List, sum_by, Bool, false, ◌==◌, ◌||◌, not, Option, Some, None, is_some}
use Rattle.std.specs.Prelude.{option_and_then, slice_get}
use Rattle.std.specs.List.{find}
use Rattle.cjc_capread.specs.declared.tree.ClassRef.{ClassRef}
use Rattle.cjc_capread.specs.declared.tree.ClassRef.TheVariants.{Inside, Outside}
use Rattle.cjc_capread.specs.declared.tree.InterfaceEntry.{InterfaceEntry}
use Rattle.cjc_capread.specs.declared.tree.ClassEntry.{ClassEntry}
use Rattle.cjc_capread.specs.declared.tree.ClassInfo.{ClassInfo}
use Rattle.cjc_export.specs.declared.tree.ExportClass.{ExportClass}
use Rattle.cjc_export.specs.declared.tree.ExportTree.{ExportTree}
use Rattle.cjc_export.specs.Bytes.AccessFlags.{is_interface}
use Rattle.cjc_check_rules.specs.Spots.{Placed, placed, begins}
use Rattle.cjc_check_rules.specs.Complete.{interface_size, class_size}

-- ---- of the package: interfaces stand behind the two bytes of the signature pool, classes behind them

-- where the first interface begins in the info of Class
abbrev pub first_interface : ℕ
first_interface = 2

-- where the first class begins, behind all interfaces
abbrev pub first_class : ClassInfo → ℕ
first_class info = first_interface + sum_by interface_size info.interfaces

-- the interfaces of Class, each with its offset
abbrev pub interfaces_at : ClassInfo → List (Placed InterfaceEntry)
interfaces_at info = placed interface_size first_interface info.interfaces

-- the classes of Class that are no interfaces, each with its offset
abbrev pub classes_at : ClassInfo → List (Placed ClassEntry)
classes_at info = placed class_size (first_class info) info.classes

-- ---- of imported packages, by package token and class token

-- the class or interface of an export file with this token
abbrev pub class_with : (token : ℕ) → ExportTree → Option ExportClass
class_with token t = find (λ c. c.token == token) t.classes

-- the class or interface with this class token in the export file of this package token
abbrev pub imported : List ExportTree → (import class : ℕ) → Option ExportClass
imported exports import class = option_and_then (class_with class) (slice_get exports import)

-- ---- what a class_ref names

-- a class or an interface
abbrev pub is_start : ClassInfo → (offset : ℕ) → Bool
is_start info offset = begins (interfaces_at info) offset || begins (classes_at info) offset

-- what a class_ref names is there: in Class, or in the export file of its package
abbrev pub is_there : ClassInfo → List ExportTree → ClassRef → Bool
is_there info exports (Inside offset) = is_start info offset
is_there info exports (Outside import class) = is_some (imported exports import class)

-- an interface
abbrev pub is_exported_interface : Option ExportClass → Bool
is_exported_interface None = false
is_exported_interface (Some c) = is_interface c.flags

-- a class_ref names an interface, of the package or of an export file
abbrev pub names_interface : ClassInfo → List ExportTree → ClassRef → Bool
names_interface info exports (Inside offset) = begins (interfaces_at info) offset
names_interface info exports (Outside import class) = is_exported_interface (imported exports import class)

-- a class that is no interface
abbrev pub is_exported_class : Option ExportClass → Bool
is_exported_class None = false
is_exported_class (Some c) = not (is_interface c.flags)

-- a class_ref names a class that is no interface, of the package or of an export file
abbrev pub names_class : ClassInfo → List ExportTree → ClassRef → Bool
names_class info exports (Inside offset) = begins (classes_at info) offset
names_class info exports (Outside import class) = is_exported_class (imported exports import class)

-- a class of the package that is no interface
abbrev pub is_own_class : ClassInfo → ClassRef → Bool
is_own_class info (Inside offset) = begins (classes_at info) offset
is_own_class info (Outside import class) = false
