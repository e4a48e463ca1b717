-- Export: what other packages can use, by token (Java Card Virtual Machine Specification 2.2.2, section 6.12).
use Rattle.std.specs.Prelude.{ℕ, ◌+◌, List, [], ◌∷◌, ◌++◌, map, filter, length, unwrap_or, not, ◌&&◌, if◌then◌else◌}
use Rattle.std.specs.Prelude.{Option, Some, None}
use Rattle.cjc_capwrite.specs.CapRead.declared.tree.Export.{Export}
use Rattle.cjc_capwrite.specs.CapRead.declared.tree.ExportedClass.{ExportedClass}
use Rattle.cjc_clinit.specs.World.declared.found.Found.{Found}
use Rattle.cjc_clinit.specs.World.Classes.{Member, Class}
use Rattle.cjc_clinit.specs.World.Exported.{is_exported}
use Rattle.cjc_clinit.specs.World.Lookup.{member_at}
use Rattle.cjc_vtable.specs.LowerTokens.Fields.{is_open_static}
use Rattle.cjc_vtable.specs.LowerTokens.Methods.{is_open_bound}
use Rattle.cjc_clinit.specs.Image.{field_id}
use Rattle.cjc_components.specs.Package.{Package, world, has_applets}
use Rattle.cjc_components.specs.Methods.{method_offset}
use Rattle.cjc_components.specs.Class.{fields_of}
use Rattle.cjc_components.specs.Statics.{cell_offset}
use Rattle.cjc_components.specs.Names.{class_offset}

-- the classes of the package that others may name, by token
abbrev pub exported_classes : Package → List Class
exported_classes p = filter (λ c. not c.is_imported && is_exported (world p) (has_applets p) c) (world p)

-- the public and protected static methods and constructors among those from a place on, which have their tokens in this
-- order
abbrev pub open_methods : Class → (place : ℕ) → List Member → List Found
open_methods c i [] = []
open_methods c i (m ∷ methods) = (if is_open_bound m then member_at c i ∷ [] else []) ++ open_methods c (i + 1) methods

-- a class: its offset, and by token those of its static fields and of its static methods and constructors
abbrev pub exported_class : Package → Class → ExportedClass
exported_class p c = record {
  class_offset = unwrap_or (class_offset p c.name) 0;
  fields = map (λ f. cell_offset p.image (field_id c.name f)) (filter is_open_static (fields_of p.files c));
  methods = map (method_offset p) (open_methods c (length c.fields) c.methods);
}

-- there where some class is exported
abbrev pub export_with : Package → List Class → Option Export
export_with p [] = None
export_with p (c ∷ classes) = Some (record { classes = map (exported_class p) (c ∷ classes) })

-- Export, where some class is exported.
abbrev pub export : Package → Option Export
export p = export_with p (exported_classes p)
