-- Which entries of the constant pool an instruction may use.
use Rattle.std.specs.Prelude.{Bool, true, false, Option, Some, []}
use Rattle.std.specs.Prelude.{◌∷◌}
use Rattle.cjc_card_semantics.specs.CapRead.Opcodes.{Operand, Index1, Index2, Form, Fields}
use Rattle.cjc_card_semantics.specs.CapRead.declared.tree.PoolEntry.{PoolEntry}
use Rattle.cjc_card_semantics.specs.CapRead.declared.tree.PoolEntry.TheVariants.{Classref, InstanceFieldref}
use Rattle.cjc_card_semantics.specs.CapRead.declared.tree.PoolEntry.TheVariants.{VirtualMethodref, SuperMethodref}
use Rattle.cjc_card_semantics.specs.CapRead.declared.tree.PoolEntry.TheVariants.{StaticFieldref, StaticMethodref}
use Rattle.cjc_card_semantics.specs.Bytecode.Meanings.{Use, Gets, Puts, GetsStatic, PutsStatic, Calls, Makes}
use Rattle.cjc_card_semantics.specs.Bytecode.Meanings.{MakesReferences, Virtual, Special, Static}

-- new and anewarray
abbrev pub uses_class : Use → Bool
uses_class Makes = true
uses_class MakesReferences = true
uses_class how = false

-- getfield and putfield
abbrev pub uses_field : Use → Bool
uses_field (Gets this letter) = true
uses_field (Puts this letter) = true
uses_field how = false

-- getstatic and putstatic
abbrev pub uses_cell : Use → Bool
uses_cell (GetsStatic letter) = true
uses_cell (PutsStatic letter) = true
uses_cell how = false

-- invokevirtual
abbrev pub uses_virtual : Use → Bool
uses_virtual (Calls Virtual) = true
uses_virtual how = false

-- invokespecial of a superclass's method
abbrev pub uses_super : Use → Bool
uses_super (Calls Special) = true
uses_super how = false

-- invokestatic, and invokespecial of a constructor or a private method
abbrev pub uses_method : Use → Bool
uses_method (Calls Special) = true
uses_method (Calls Static) = true
uses_method how = false

-- the entry is of a kind that is used so
abbrev pub is_used_by : Use → PoolEntry → Bool
is_used_by how (Classref class) = uses_class how
is_used_by how (InstanceFieldref class token) = uses_field how
is_used_by how (VirtualMethodref class token) = uses_virtual how
is_used_by how (SuperMethodref class token) = uses_super how
is_used_by how (StaticFieldref member) = uses_cell how
is_used_by how (StaticMethodref member) = uses_method how

-- an index into the constant pool, of one byte or two
abbrev pub is_index : Operand → Bool
is_index Index1 = true
is_index Index2 = true
is_index kind = false

-- an index is all that follows
abbrev pub is_index_form : Option Form → Bool
is_index_form (Some (Fields (kind ∷ []))) = is_index kind
is_index_form form = false
