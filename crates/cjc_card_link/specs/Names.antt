-- Names beside components: what the code's rows of names are as the names that the machine by token knows.
use Rattle.std.specs.Prelude.{map}
use Rattle.cjc_card_semantics.specs.Machine.Loaded.{MethodName, FieldName, ClassNames}
use Rattle.cjc_card_link.specs.declared.names.MethodName.{MethodName as MethodNameData}
use Rattle.cjc_card_link.specs.declared.names.FieldName.{FieldName as FieldNameData}
use Rattle.cjc_card_link.specs.declared.names.ClassNames.{ClassNames as ClassNamesData}

-- a method by its name and descriptor
abbrev pub method_name_of : MethodNameData → MethodName
method_name_of m = record { name = m.name; desc = m.desc }

-- an instance field by its token
abbrev pub field_name_of : FieldNameData → FieldName
field_name_of f = record { token = f.token; name = f.name; desc = f.desc }

-- the names of a class
abbrev pub class_names_of : ClassNamesData → ClassNames
class_names_of c = record {
  name = c.name;
  methods = map method_name_of c.methods;
  fields = map field_name_of c.fields;
  interface_methods = map method_name_of c.interface_methods;
}
