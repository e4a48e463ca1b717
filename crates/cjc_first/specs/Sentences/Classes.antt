-- The classes and interfaces that a class_ref can name (Java Card Virtual Machine Specification 2.2.2, 6.1, 6.8 and chapter 5).
use Rattle.std.specs.Prelude.{ℕ, ◌+◌, List, length, sum_by, flat_map, Bool, false, ◌==◌, not, Option, Some, None, option_and_then, slice_get}
use Rattle.std.specs.List.{find}
use Rattle.std.specs.Str.{bytes_eq}
use Rattle.cjc_capread.specs.declared.tree.ClassRef.{ClassRef}
use Rattle.cjc_capread.specs.declared.tree.ClassRef.TheVariants.{Inside, Outside}
use Rattle.cjc_capread.specs.declared.tree.InterfaceEntry.{InterfaceEntry}
use Rattle.cjc_capread.specs.declared.tree.ClassEntry.{ClassEntry}
use Rattle.cjc_capread.specs.declared.tree.ClassInfo.{ClassInfo}
use Rattle.cjc_capwrite.specs.Class.{interface_bytes, class_entry_bytes}
use Rattle.cjc_export.specs.declared.tree.ExportClass.{ExportClass}
use Rattle.cjc_export.specs.declared.tree.ExportTree.{ExportTree}
use Rattle.cjc_bytes.specs.AccessFlags.{is_interface}
use Rattle.cjc_first.specs.Sentences.Placed.{Placed, placed, begins}

-- ---- of the package: interfaces stand behind the two bytes of the signature pool, classes behind them

abbrev pub interface_size : InterfaceEntry → ℕ
interface_size x = length (interface_bytes x)

abbrev pub class_size : ClassEntry → ℕ
class_size x = length (class_entry_bytes x)

abbrev pub interfaces_at : ClassInfo → List (Placed InterfaceEntry)
interfaces_at info = placed interface_size 2 info.interfaces

abbrev pub classes_at : ClassInfo → List (Placed ClassEntry)
classes_at info = placed class_size (2 + sum_by interface_size info.interfaces) info.classes

-- ---- of imported packages, by package token and class token

abbrev pub class_with : (token : ℕ) → ExportTree → Option ExportClass
class_with token t = find (λ c. c.token == token) t.classes

abbrev pub imported : List ExportTree → (import class : ℕ) → Option ExportClass
imported exports import class = option_and_then (class_with class) (slice_get exports import)

abbrev pub imported_named : List ExportTree → List ℕ → Option ExportClass
imported_named exports name = find (λ c. bytes_eq c.name name) (flat_map (λ t. t.classes) exports)

-- ---- what a class_ref names

-- an interface
abbrev pub is_exported_interface : Option ExportClass → Bool
is_exported_interface None = false
is_exported_interface (Some c) = is_interface c.flags

abbrev pub names_interface : ClassInfo → List ExportTree → ClassRef → Bool
names_interface info exports (Inside offset) = begins (interfaces_at info) offset
names_interface info exports (Outside import class) = is_exported_interface (imported exports import class)

-- a class that is no interface
abbrev pub is_exported_class : Option ExportClass → Bool
is_exported_class None = false
is_exported_class (Some c) = not (is_interface c.flags)

abbrev pub names_class : ClassInfo → List ExportTree → ClassRef → Bool
names_class info exports (Inside offset) = begins (classes_at info) offset
names_class info exports (Outside import class) = is_exported_class (imported exports import class)

-- a class of the package that is no interface
abbrev pub is_own_class : ClassInfo → ClassRef → Bool
is_own_class info (Inside offset) = begins (classes_at info) offset
is_own_class info (Outside import class) = false
