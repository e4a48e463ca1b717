-- What other packages can use (section 6.12).
use Rattle.cjc_bytes.specs.Format.{Format, gives, ◌>>=◌, repeated, u1, u2}
use Rattle.cjc_capread.specs.declared.tree.Export.{Export}
use Rattle.cjc_capread.specs.declared.tree.ExportedClass.{ExportedClass}

-- an exported class: its offset, and those of its static fields and methods by token
unfoldable pub exported_class : Format ExportedClass
exported_class = do
  class_offset ← u2
  field_count ← u1
  method_count ← u1
  fields ← repeated field_count u2
  methods ← repeated method_count u2
  gives (record { class_offset = class_offset; fields = fields; methods = methods })

-- the exported classes, behind their number
unfoldable pub export : Format Export
export = do
  count ← u1
  classes ← repeated count exported_class
  gives (record { classes = classes })
