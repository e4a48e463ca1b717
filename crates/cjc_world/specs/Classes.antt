-- The classes of a package and of its export files, seen alike, in the order of the list.
use Rattle.std.specs.Prelude.{ℕ, ◌+◌, List, [], ◌∷◌, ◌++◌, map, length, slice_get, Bool, true, false, not, ◌&&◌, ◌==◌}
use Rattle.std.specs.Prelude.{if◌then◌else◌, Option, Some, None}
use Rattle.std.specs.Str.{bytes_eq}
use Rattle.cjc_bytes.specs.declared.settings.FileLine.{FileLine}
use Rattle.cjc_classfile.specs.declared.tree.ClassTree.{ClassTree}
use Rattle.cjc_classfile.specs.declared.tree.FieldTree.{FieldTree}
use Rattle.cjc_classfile.specs.declared.tree.MethodTree.{MethodTree}
use Rattle.cjc_export.specs.declared.tree.ExportClass.{ExportClass}
use Rattle.cjc_export.specs.declared.tree.ExportField.{ExportField}
use Rattle.cjc_export.specs.declared.tree.ExportMethod.{ExportMethod}
use Rattle.cjc_export.specs.declared.tree.ExportTree.{ExportTree}
use Rattle.cjc_world.specs.Files.{Files}

-- a field or a method
pub record Member : Type 0 where
  pub flags : ℕ
  pub name : List ℕ
  pub desc : List ℕ
  -- in an export file
  pub token : ℕ

-- A class or interface of a class file or of an export file.
pub record Class : Type 0 where
  -- of an export file
  pub is_imported : Bool
  -- the place among the package's classes, or among the classes of all export files
  pub number : ℕ
  pub flags : ℕ
  pub name : List ℕ
  -- of a class file its superclass alone, of an export file the supers that it lists, and last java/lang/Object where
  -- it does not list that
  pub supers : List (List ℕ)
  pub interfaces : List (List ℕ)
  pub fields : List Member
  pub methods : List Member

-- ---- the view of a class of either kind of file

-- a field of a class file, where no field has a token
abbrev pub field_of_class : FieldTree → Member
field_of_class f = record { flags = f.flags; name = f.name; desc = f.desc; token = 0 }

-- a method of a class file, where no method has a token
abbrev pub method_of_class : MethodTree → Member
method_of_class m = record { flags = m.flags; name = m.name; desc = m.desc; token = 0 }

-- the class of a class file, with its number among the package's classes
abbrev pub declared : ℕ → ClassTree → Class
declared number c = record {
  is_imported = false;
  number = number;
  flags = c.flags;
  name = c.name;
  supers = c.superclass ∷ [];
  interfaces = c.interfaces;
  fields = map field_of_class c.fields;
  methods = map method_of_class c.methods;
}

-- a field of an export file, with the token that stands there
abbrev pub field_of_export : ExportField → Member
field_of_export f = record { flags = f.flags; name = f.name; desc = f.desc; token = f.token }

-- a method of an export file, with the token that stands there
abbrev pub method_of_export : ExportMethod → Member
method_of_export m = record { flags = m.flags; name = m.name; desc = m.desc; token = m.token }

-- a class of an export file, with its number among the classes of all export files
abbrev pub imported : ℕ → ExportClass → Class
imported number c = record {
  is_imported = true;
  number = number;
  flags = c.flags;
  name = c.name;
  supers = c.supers;
  interfaces = c.interfaces;
  fields = map field_of_export c.fields;
  methods = map method_of_export c.methods;
}

-- ---- all of them, in the order of the list's lines; those of an export file as they stand in it

-- the class of a class file; none where there is no file
abbrev pub of_class_file : ℕ → Option ClassTree → List Class
of_class_file number None = []
of_class_file number (Some c) = declared number c ∷ []

-- classes of an export file, the first with this number and the others with those that follow
abbrev pub numbered : ℕ → List ExportClass → List Class
numbered number [] = []
numbered number (c ∷ cs) = imported number c ∷ numbered (number + 1) cs

-- the classes of an export file, the first with this number; none where there is no file
abbrev pub of_export_file : ℕ → Option ExportTree → List Class
of_export_file number None = []
of_export_file number (Some t) = numbered number t.classes

-- how many classes an export file has, 0 where there is no file
abbrev pub size : Option ExportTree → ℕ
size None = 0
size (Some t) = length t.classes

-- the classes of these lines, where so many class files, export files and classes of export files stand before
unfoldable pub classes_from : List ClassTree → List ExportTree → (class_files export_files imports : ℕ) → List FileLine
    → List Class
classes_from classes exports c e i [] = []
classes_from classes exports c e i (line ∷ lines) =
    if line.class_file
    then of_class_file c (slice_get classes c) ++ classes_from classes exports (c + 1) e i lines
    else of_export_file i (slice_get exports e) ++ classes_from classes exports c (e + 1)
    (i + size (slice_get exports e)) lines

-- the classes of all files, in the order of the lines of the list
unfoldable pub all_classes : Files → List Class
all_classes files = classes_from files.classes files.exports 0 0 0 files.lines

-- the first class of a name
unfoldable pub class_named : List Class → List ℕ → Option Class
class_named [] name = None
class_named (c ∷ cs) name = if bytes_eq c.name name then Some c else class_named cs name

-- ---- by the numbers that a look-up answers

-- whether the class is of this kind and has this number
abbrev pub is_at : (imported : Bool) → (number : ℕ) → Class → Bool
is_at imported number c = (if c.is_imported then imported else not imported) && (c.number == number)

-- the class of this kind and number
unfoldable pub class_at : List Class → (imported : Bool) → (number : ℕ) → Option Class
class_at [] imported number = None
class_at (c ∷ cs) imported number = if is_at imported number c then Some c else class_at cs imported number
