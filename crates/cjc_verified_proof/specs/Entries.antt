-- Entries of the constant pool as instructions on fields use them.
use Rattle.std.specs.Prelude.{◌≡◌, ◌<◌, ◌≤◌, ◌^◌, ℕ, Bool, length, slice_get, Some}
use Rattle.cjc_capread.specs.declared.tree.ClassRef.{ClassRef}
use Rattle.cjc_capread.specs.declared.tree.ClassRef.TheVariants.{Inside, Outside}
use Rattle.cjc_capread.specs.declared.tree.ClassDescriptor.{ClassDescriptor}
use Rattle.cjc_capread.specs.declared.tree.StaticRef.{StaticRef}
use Rattle.cjc_capread.specs.declared.tree.StaticRef.TheVariants as statics
use Rattle.cjc_capread.specs.declared.tree.PoolEntry.{PoolEntry}
use Rattle.cjc_capread.specs.declared.tree.PoolEntry.TheVariants.{Classref, InstanceFieldref, VirtualMethodref}
use Rattle.cjc_capread.specs.declared.tree.PoolEntry.TheVariants.{SuperMethodref, StaticFieldref, StaticMethodref}
use Rattle.cjc_world.specs.ExportFile.declared.tree.ExportClass.{ExportClass}
use Rattle.cjc_world.specs.ExportFile.declared.tree.ExportTree.{ExportTree}
use Rattle.cjc_check_rules.specs.Complete.{Complete}
use Rattle.cjc_world.specs.Files.{Files}
use Rattle.cjc_card_semantics.specs.Bytecode.Effects.{Letter}
use Rattle.cjc_card_semantics.specs.Bytecode.Meanings.{Use, Gets, Puts, GetsStatic, PutsStatic}

-- a class_ref that two bytes spell
abbrev pub IsRef : ClassRef → Type 0
IsRef (Inside offset) = offset < 2 ^ 15
IsRef (Outside import class) = (import < 2 ^ 7) × (class < 2 ^ 8)

-- an instruction on fields uses an entry of its kind
pub data UsesField : Use → PoolEntry → Type 0 where
  gets : (this : Bool) (letter : Letter) (class : ClassRef) (token : ℕ) → IsRef class
      → UsesField (Gets this letter) (InstanceFieldref class token)
  puts : (this : Bool) (letter : Letter) (class : ClassRef) (token : ℕ) → IsRef class
      → UsesField (Puts this letter) (InstanceFieldref class token)
  gets_static : (letter : Letter) (field : StaticRef) → UsesField (GetsStatic letter) (StaticFieldref field)
  puts_static : (letter : Letter) (field : StaticRef) → UsesField (PutsStatic letter) (StaticFieldref field)

-- a reference to a static member that three bytes spell
abbrev pub IsStaticRef : StaticRef → Type 0
IsStaticRef (statics.Inside offset) = Unit {0}
IsStaticRef (statics.Outside import class token) = (import < 2 ^ 7) × (class < 2 ^ 8)

-- what an entry names is spelt so
abbrev pub HasRefs : PoolEntry → Type 0
HasRefs (Classref class) = IsRef class
HasRefs (InstanceFieldref class token) = IsRef class
HasRefs (VirtualMethodref class token) = IsRef class
HasRefs (SuperMethodref class token) = IsRef class
HasRefs (StaticFieldref field) = IsStaticRef field
HasRefs (StaticMethodref method) = IsStaticRef method

-- Entries of the constant pool and the classes of Descriptor name what bytes spell.
pub record AreRefs (c : Complete) : Type 0 where
  pub entries : (k : ℕ) (item : PoolEntry) → (let p = c.pool in slice_get p.entries k ≡ Some item) → HasRefs item
  pub holders : (k : ℕ) (d : ClassDescriptor) → (let x = c.descriptor in slice_get x.classes k ≡ Some d)
      → IsRef d.this_class

-- Package tokens count the export files, and each class token of one has one byte.
pub record AreCounted (files : Files) : Type 0 where
  pub few : length files.exports ≤ 2 ^ 7
  pub tokens : (k : ℕ) (t : ExportTree) → slice_get files.exports k ≡ Some t → (j : ℕ) (x : ExportClass)
      → slice_get t.classes j ≡ Some x → x.token < 2 ^ 8
