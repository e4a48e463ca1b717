-- An item of the constant pool as the code keeps it.
use Rattle.cjc_bytes.specs.declared.fault.MemberId.{MemberId}
use Rattle.cjc_classfile.specs.declared.tree.MemberText.{MemberText}
use Rattle.cjc_classfile.specs.declared.tree.ItemKind.{ItemKind}
use Rattle.cjc_classfile.specs.declared.tree.ItemKind.TheVariants as kinds
use Rattle.cjc_classfile.specs.PoolItem.{PoolItem, Int, Class, Field, Method, InterfaceMethod, Other}

-- the member that the code's texts name
abbrev pub id_of : MemberText → MemberId
id_of m = record { class = m.class.now; name = m.name.now; desc = m.desc.now }

-- the item that the code's kind is
abbrev pub item_of : ItemKind → PoolItem
item_of (kinds.Int n) = Int n
item_of (kinds.Class name) = Class name.now
item_of (kinds.Field m) = Field (id_of m)
item_of (kinds.Method m) = Method (id_of m)
item_of (kinds.InterfaceMethod m) = InterfaceMethod (id_of m)
item_of kinds.Other = Other
