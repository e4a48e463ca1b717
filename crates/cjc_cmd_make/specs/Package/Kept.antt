-- An entry of the constant pool as the code keeps it.
use Rattle.std.specs.Prelude.{ℕ, List}
use Rattle.cjc_cmd_make.specs.declared.package.class_file.Entry.{Entry}
use Rattle.cjc_cmd_make.specs.declared.package.class_file.Entry.TheVariants as entries
use Rattle.cjc_cmd_make.specs.Package.ClassFile.{Constant, utf8, class, methodref, name_and_type, constant_bytes}

-- the entry that the code's is
abbrev pub constant_of : Entry → Constant
constant_of (entries.Utf8 text) = utf8 text.now
constant_of (entries.Class name) = class name
constant_of (entries.Methodref owner member) = methodref owner member
constant_of (entries.NameAndType name desc) = name_and_type name desc

-- its bytes
abbrev pub entry_bytes : Entry → List ℕ
entry_bytes e = constant_bytes (constant_of e)
