-- The components of one package as the machine by token is given them: with the export files, and with names from the
-- class files. The order of
-- classes and of methods is that of components (Java Card Virtual Machine Specification 2.2.2, sections 6.8 to 6.10 and
-- 6.13).
use Rattle.std.specs.Prelude.{ℕ, ◌+◌, List, [], ◌∷◌, ◌++◌, length, map, flat_map, filter, unwrap_or, Bool}
use Rattle.std.specs.Prelude.{if◌then◌else◌, Option, Some, None}
use Rattle.cjc_list.specs.Bytes.AccessFlags.{is_interface}
use Rattle.cjc_capwrite.specs.CapRead.declared.tree.Export.{Export}
use Rattle.cjc_capwrite.specs.CapRead.declared.tree.ExportedClass.{ExportedClass}
use Rattle.cjc_emit.specs.CardSemantics.Machine.Loaded.{MethodName, FieldName, ClassNames, CellName, Import, OfFile}
use Rattle.cjc_emit.specs.CardSemantics.Machine.Loaded.{Part}
use Rattle.cjc_emit.specs.CardSemantics.Machine.Loaded.{Loaded}
use Rattle.cjc_clinit.specs.ClassFile.declared.tree.ClassTree.{ClassTree}
use Rattle.cjc_clinit.specs.ClassFile.declared.tree.FieldTree.{FieldTree}
use Rattle.cjc_clinit.specs.Fields.{is_cell}
use Rattle.cjc_clinit.specs.Image.{field_id}
use Rattle.cjc_components.specs.Class.{fields_of}
use Rattle.cjc_components.specs.Descriptor.{method_in}
use Rattle.cjc_components.specs.Statics.{cell_offset}
use Rattle.cjc_check_rules.specs.ExportFile.declared.tree.ExportTree.{ExportTree}
use Rattle.cjc_check_rules.specs.Complete.{Complete}
use Rattle.cjc_vtable.specs.LowerTokens.Fields.{is_instance}
use Rattle.cjc_vtable.specs.LowerTokens.Members.{Signature}
use Rattle.cjc_vtable.specs.LowerTokens.Methods.{interface_methods}
use Rattle.cjc_vtable.specs.LowerTokens.Tokens.{Assigned, assigned, token_of_member}
use Rattle.cjc_clinit.specs.World.declared.image.StaticImage.{StaticImage}
use Rattle.cjc_clinit.specs.World.Classes.{Member, Class, all_classes}
use Rattle.cjc_clinit.specs.World.Files.{Files}
use Rattle.cjc_clinit.specs.World.Lookup.{member_at}
use Rattle.cjc_clinit.specs.World.Order.{class_order, written}

-- ---- one class

-- a method by its name and descriptor
abbrev pub method_name : Member → MethodName
method_name m = record { name = m.name; desc = m.desc }

-- a signature as the name of a method
abbrev pub signature_name : Signature → MethodName
signature_name s = record { name = s.name; desc = s.desc }

-- the methods that a class declares, as Descriptor lists them; those that it got stand behind them and have no name,
-- since no look-up finds them
abbrev pub method_names : List Class → Class → List MethodName
method_names w c = map (λ f. method_name (method_in w c f.member)) (written c (length c.fields) c.methods)

-- the field at a place of a class, by its token
abbrev pub field_name : Assigned → Class → (place : ℕ) → FieldTree → FieldName
field_name a c i f = record { token = unwrap_or (token_of_member a (member_at c i)) 0xFF; name = f.name; desc = f.desc }

-- the instance fields among those from a place on
abbrev pub fields_from : Assigned → Class → (place : ℕ) → List FieldTree → List FieldName
fields_from a c i [] = []
fields_from a c i (f ∷ fields) = (if is_instance f then field_name a c i f ∷ [] else [])
    ++ fields_from a c (i + 1) fields

-- an interface's methods by token
abbrev pub interface_names : List Class → Class → List MethodName
interface_names w c = if is_interface c.flags then map signature_name (interface_methods w c) else []

-- a class or interface of the package
abbrev pub class_names : Files → Assigned → Class → ClassNames
class_names files a c = record {
  name = c.name;
  methods = method_names (all_classes files) c;
  fields = fields_from a c 0 (fields_of files c);
  interface_methods = interface_names (all_classes files) c;
}

-- ---- static cells

-- the cell of a field by its offset in the image
abbrev pub cell_name : StaticImage → ClassTree → FieldTree → CellName
cell_name image c f = record { offset = cell_offset image (field_id c.name f); id = field_id c.name f }

-- those of a class, in the order of its file
abbrev pub cells_in : StaticImage → ClassTree → List CellName
cells_in image c = map (cell_name image c) (filter is_cell c.fields)

-- ---- what is loaded

-- the export files by their numbers, from one on
abbrev pub files_from : (number : ℕ) → List ExportTree → List Import
files_from k [] = []
files_from k (t ∷ trees) = OfFile k ∷ files_from (k + 1) trees

-- the classes that Export lists; none where it is absent
abbrev pub exported_in : Option Export → List ExportedClass
exported_in None = []
exported_in (Some e) = e.classes

-- The components with names: of class infos in the order of Class, and of static cells, class by class as the list
-- names them.
abbrev pub part_of : (applets : Bool) → Files → StaticImage → Complete → Part
part_of applets files image c =
    let pool = c.pool in
    let descriptor = c.descriptor in
    record {
      method = c.method;
      pool = pool.entries;
      class = c.class;
      descriptor = descriptor.classes;
      exports = exported_in c.export;
      statics = c.statics;
      imports = files_from 0 files.exports;
      classes = map (class_names files (assigned applets files)) (class_order (all_classes files));
      cells = flat_map (cells_in image) files.classes;
    }

-- One package by itself, with the export files that it imports, which stand in the order of Import.
abbrev pub loaded_of : (applets : Bool) → Files → StaticImage → Complete → Loaded
loaded_of applets files image c = record { parts = part_of applets files image c ∷ []; trees = files.exports }
