-- The constant pool names what is there (Java Card Virtual Machine Specification 2.2.2, 6.7).
use Rattle.std.specs.Prelude.{List, Bool, true}
use Rattle.cjc_capread.specs.declared.tree.StaticRef.{StaticRef}
use Rattle.cjc_capread.specs.declared.tree.StaticRef.TheVariants.{Inside, Outside}
use Rattle.cjc_capread.specs.declared.tree.PoolEntry.{PoolEntry}
use Rattle.cjc_capread.specs.declared.tree.PoolEntry.TheVariants.{Classref, InstanceFieldref, VirtualMethodref}
use Rattle.cjc_capread.specs.declared.tree.PoolEntry.TheVariants.{SuperMethodref, StaticFieldref, StaticMethodref}
use Rattle.cjc_export.specs.declared.tree.ExportTree.{ExportTree}
use Rattle.cjc_check_rules.specs.Spots.{ComponentPlace, in_info, unless, along}
use Rattle.cjc_check_rules.specs.Complete.{Complete}
use Rattle.cjc_check_rules.specs.Classes.{imported}
use Rattle.cjc_check_rules.specs.Members.{is_method_start, is_cell, has_field, has_static_method, has_static_field}
use Rattle.cjc_check_rules.specs.Members.{has_virtual, has_above}

-- a static field is there: the cell of one, or one of an imported class that is no constant
abbrev pub is_field : Complete → List ExportTree → StaticRef → Bool
is_field c exports (Inside offset) = is_cell c offset
is_field c exports (Outside import class token) = has_static_field (imported exports import class) token

-- a static method or constructor is there: the start of a method, or one of an imported class
abbrev pub is_method : Complete → List ExportTree → StaticRef → Bool
is_method c exports (Inside offset) = is_method_start c offset
is_method c exports (Outside import class token) = has_static_method (imported exports import class) token

-- the member that an entry names is there; of a Classref nothing is asked here
abbrev pub names_member : Complete → List ExportTree → PoolEntry → Bool
names_member c exports (Classref class) = true
names_member c exports (InstanceFieldref class token) = has_field c exports class token
names_member c exports (VirtualMethodref class token) = has_virtual c exports class token
names_member c exports (SuperMethodref class token) = has_above c exports class token
names_member c exports (StaticFieldref member) = is_field c exports member
names_member c exports (StaticMethodref member) = is_method c exports member

-- 708. The entries of the constant pool, of four bytes each, name fields, methods, tokens and cells that are there.
-- Broken is the
-- entry's tag.
abbrev pub pool_spots : Complete → List ExportTree → List ComponentPlace
pool_spots c exports = along (λ x. 4) (λ at x. unless (names_member c exports x) (in_info 5 at)) 2 c.pool.entries
