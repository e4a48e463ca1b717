-- Rules 301 and 304 of the classes that export files list: a name that no class has, and methods that no class lists so
-- (Java Card Virtual Machine Specification 2.2.2, sections 5.6.2 and 5.9).
use Rattle.std.specs.Prelude.{ℕ, zero, suc, ◌+◌, List, [], ◌∷◌, ◌++◌, length, Bool, not, ◌&&◌, ◌||◌, ◌==◌}
use Rattle.std.specs.Prelude.{if◌then◌else◌}
use Rattle.std.specs.List.{list_all, slice_split}
use Rattle.std.specs.Str.{bytes_eq}
use Rattle.cjc_bytes.specs.AccessFlags.{is_abstract, is_interface, is_private, is_static}
use Rattle.cjc_bytes.specs.Breaks.{Break, at, class_spot, each, member_spot}
use Rattle.cjc_bytes.specs.Descriptor.{is_name_byte}
use Rattle.cjc_bytes.specs.Order.{FilePlace}
use Rattle.cjc_bytes.specs.Refused.{method_text}
use Rattle.cjc_bytes.specs.Text.{is_filled}
use Rattle.cjc_bytes.specs.declared.order.FileKey.TheVariants as keys
use Rattle.cjc_bytes.specs.declared.settings.FileLine.{FileLine}
use Rattle.cjc_world.specs.ExportFile.declared.tree.ExportClass.{ExportClass}
use Rattle.cjc_world.specs.ExportFile.declared.tree.ExportMethod.{ExportMethod}
use Rattle.cjc_world.specs.ExportFile.declared.tree.ExportTree.{ExportTree}
use Rattle.cjc_world.specs.Files.{Files}
use Rattle.cjc_world.specs.Lookup.{object}
use Rattle.cjc_subset.specs.Members.{is_constructor, is_initialiser}
use Rattle.cjc_subset.specs.Overriding.{is_open}

-- ---- 301: a name that no class has

-- one byte or more of a name
abbrev pub is_name : List ℕ → Bool
is_name part = is_filled part && list_all is_name_byte part

-- the name of a class: names joined by / (47)
unfoldable pub is_class_name : List ℕ → Bool
is_class_name name = list_all is_name (slice_split (λ b. b == 47) name)

-- ---- 304: a method that no class lists so

-- a method of this name is called on objects of other classes: it is one of an interface, or one of java/lang/Object
-- that is no initialiser
abbrev pub is_of_objects : ExportClass → (name : List ℕ) → Bool
is_of_objects c name = is_interface c.flags || (bytes_eq c.name object && not (is_initialiser name))

-- private beside public or protected, or an initialiser that is not static, or private or static where it is called on
-- objects of other classes, or abstract beside static or private, or abstract on a constructor or an initialiser
abbrev pub is_unfit_listed : (of_objects : Bool) → (flags : ℕ) → (name : List ℕ) → Bool
is_unfit_listed of_objects flags name =
    (is_private flags && is_open flags)
    || (is_initialiser name && not (is_static flags))
    || (of_objects && (is_private flags || is_static flags))
    || (is_abstract flags && (is_static flags || is_private flags || is_constructor name || is_initialiser name))

-- ---- what is broken, and where

-- The file of the export file of this number among those of these lines, where so many lines stand before them. Where
-- there is none it stands behind all files of the list, and has no name.
abbrev pub export_file_from : (before : ℕ) → List FileLine → (number : ℕ) → FilePlace
export_file_from n [] k = record { key = keys.Line n; name = [] }
export_file_from n (line ∷ lines) zero = if line.class_file then export_file_from (n + 1) lines zero
    else record { key = keys.Line n; name = line.name }
export_file_from n (line ∷ lines) (suc k) = if line.class_file then export_file_from (n + 1) lines (suc k)
    else export_file_from (n + 1) lines k

-- the export file of this number
abbrev pub export_file_of : List FileLine → ℕ → FilePlace
export_file_of lines number = export_file_from 0 lines number

-- at the method at this place of the class of this number in its file
abbrev pub listed_method_breaks : FilePlace → (class : ℕ) → ExportClass → (place : ℕ) → ExportMethod → List Break
listed_method_breaks f n c i m =
    at (is_unfit_listed (is_of_objects c m.name) m.flags m.name) (member_spot f n c.name (length c.fields + i + 1)
    (method_text m.name m.desc) 0) 304

-- at the class of this number in its file, and its methods
unfoldable pub listed_class_breaks : FilePlace → (class : ℕ) → ExportClass → List Break
listed_class_breaks f n c =
    at (not (is_class_name c.name)) (class_spot f n c.name) 301
    ++ each (λ i m. listed_method_breaks f n c i m) c.methods

-- at the classes of an export file
abbrev pub listed_breaks : FilePlace → ExportTree → List Break
listed_breaks f t = each (λ i c. listed_class_breaks f (i + 1) c) t.classes

-- at the classes of all export files
unfoldable pub export_breaks : Files → List Break
export_breaks files = each (λ e t. listed_breaks (export_file_of files.lines e) t) files.exports
