-- The component Export as bytes (Java Card Virtual Machine Specification 2.2.2, section 6.12): what the writer
-- is proved to write.
use Rattle.std.specs.Prelude.{ℕ, List, ◌++◌, length}
use Rattle.std.specs.List.{flat_map}
use Rattle.cjc_capread.specs.declared.tree.Export.{Export}
use Rattle.cjc_capread.specs.declared.tree.ExportedClass.{ExportedClass}
use Rattle.cjc_capwrite.specs.Parts.{one, two}

-- an exported class: its offset, and those of its static fields and methods by token (section 6.12)
unfoldable pub exported_class_bytes : ExportedClass → List ℕ
exported_class_bytes x = two x.class_offset ++ (one (length x.fields) ++ (one (length x.methods)
    ++ (flat_map two x.fields ++ flat_map two x.methods)))

-- the info of Export: the classes by token (section 6.12)
unfoldable pub export_bytes : Export → List ℕ
export_bytes x = one (length x.classes) ++ flat_map exported_class_bytes x.classes
