-- Entries of the constant pool as the code keeps them, and the entries of the definitions that these are.
use Rattle.cjc_classfile.specs.declared.pool.EntryKind.{EntryKind}
use Rattle.cjc_classfile.specs.declared.pool.EntryKind.TheVariants as kinds
use Rattle.cjc_classfile.specs.Entry.{Entry, text, integer, float, wide, class, string, field, method, interface_method}
use Rattle.cjc_classfile.specs.Entry.{name_and_type, other}

-- the entry of the constant pool that the code's kind is
abbrev pub entry_of : EntryKind → Entry
entry_of (kinds.Utf8 bytes desc) = text bytes.now desc
entry_of (kinds.Integer n) = integer n
entry_of kinds.Float = float
entry_of kinds.Wide = wide
entry_of (kinds.Class name) = class name
entry_of (kinds.String value) = string value
entry_of (kinds.Field c m) = field c m
entry_of (kinds.Method c m) = method c m
entry_of (kinds.InterfaceMethod c m) = interface_method c m
entry_of (kinds.NameAndType n d) = name_and_type n d
entry_of kinds.Other = other
