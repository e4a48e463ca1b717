-- How a package's components name what its narrow code names: entries of the constant pool, references, tokens and
-- offsets, and what each stands for on the card (Java Card Virtual Machine Specification 2.2.2, sections 4.3 and 6.7).
use Rattle.std.specs.Prelude.{◌≡◌, ℕ, List, Some, Bool, true, false, slice_get}
use Rattle.cjc_code.specs.Bytes.declared.fault.MemberId.{MemberId}
use Rattle.cjc_card_semantics.specs.CapRead.declared.tree.ClassRef.{ClassRef}
use Rattle.cjc_card_semantics.specs.CapRead.declared.tree.StaticRef.{StaticRef}
use Rattle.cjc_card_semantics.specs.CapRead.declared.tree.PoolEntry.{PoolEntry}
use Rattle.cjc_card_semantics.specs.CapRead.declared.tree.PoolEntry.TheVariants as entries
use Rattle.cjc_ncode.specs.declared.narrow.PoolKey.{PoolKey}
use Rattle.cjc_ncode.specs.declared.narrow.PoolKey.TheVariants as keys
use Rattle.cjc_ncode.specs.ByLabel
use Rattle.cjc_card_semantics.specs.Bytecode.Effects.{Letter, Operation}
use Rattle.cjc_card_semantics.specs.Bytecode.Meanings.{Use, Gets, Puts, GetsStatic, PutsStatic, Calls, Makes}
use Rattle.cjc_card_semantics.specs.Bytecode.Meanings.{MakesReferences, Virtual, Special, Static}
use Rattle.cjc_card_semantics.specs.Bytecode.Renaming.{operation_as}
use Rattle.cjc_card_semantics.specs.Machine.Loaded.{Loaded}
use Rattle.cjc_card_semantics.specs.Machine.Classes.{Class, Field, class_of}
use Rattle.cjc_card_semantics.specs.Machine.Statics.{StaticCell}
use Rattle.cjc_card_semantics.specs.Machine.Dispatch.{Token}
use Rattle.cjc_card_semantics.specs.Machine.Operations.{Callee, OnObject, OnSuper, OnInterface, token_of, static_method}
use Rattle.cjc_card_semantics.specs.Machine.Operations.{static_cell}

-- A package among what is loaded: what its pool holds for each key, and what classes and members are on the card.
pub record Naming : Type 0 where
  pub loaded : Loaded
  pub part : ℕ
  -- the constant pool, and the index of a key
  pub pool : List PoolEntry
  pub index : PoolKey → ℕ
  -- the references and tokens that entries and operands hold
  pub class_ref : List ℕ → ClassRef
  pub field_token : MemberId → ℕ
  pub field_ref : MemberId → StaticRef
  pub virtual_token : MemberId → ℕ
  pub interface_token : MemberId → ℕ
  pub method_ref : MemberId → StaticRef
  -- what they stand for
  pub class : List ℕ → Class
  pub cell : MemberId → StaticCell
  pub dispatch_token : MemberId → Token
  pub fixed : (on_object : Bool) → MemberId → Callee

-- the entry of a key
abbrev pub entry_of : Naming → PoolKey → PoolEntry
entry_of n (keys.Class c) = entries.Classref (n.class_ref c)
entry_of n (keys.Field f) = entries.InstanceFieldref (n.class_ref f.class) (n.field_token f)
entry_of n (keys.Virtual m) = entries.VirtualMethodref (n.class_ref m.class) (n.virtual_token m)
entry_of n (keys.Super m) = entries.SuperMethodref (n.class_ref m.class) (n.virtual_token m)
entry_of n (keys.StaticField f) = entries.StaticFieldref (n.field_ref f)
entry_of n (keys.StaticMethod m) = entries.StaticMethodref (n.method_ref m)

-- an instance field on the card
abbrev pub field : Naming → MemberId → Field
field n f = record { class = n.class f.class; token = n.field_token f }

-- what a call names on the card
abbrev pub callee : Naming → ByLabel.Callee → Callee
callee n (ByLabel.Fixed on m) = n.fixed on m
callee n (ByLabel.OnObject m) = OnObject (n.class m.class) (n.dispatch_token m)
callee n (ByLabel.OnSuper m) = OnSuper (n.class m.class) (n.dispatch_token m)
callee n (ByLabel.OnInterface words m) = OnInterface words (n.class m.class) (n.interface_token m)

-- an operation on the card, its places moved
abbrev pub on_card : Naming → (to : ℕ → ℕ) → ByLabel.Resolved → Operation Class Field StaticCell Callee
on_card n to operation = operation_as n.class (field n) n.cell (callee n) to operation

-- ---- what names promise

module _ (n : Naming) where
  -- the pool holds a key's entry at its index
  pub record Holds (key : PoolKey) : Type 0 where
    pub there : slice_get n.pool (n.index key) ≡ Some (entry_of n key)

  -- a class_ref means the class
  abbrev pub IsClass : List ℕ → Type 0
  IsClass c = class_of n.loaded n.part (n.class_ref c) ≡ Some (n.class c)

  -- a reference means the static cell
  abbrev pub IsCell : MemberId → Type 0
  IsCell f = static_cell n.loaded n.part (n.field_ref f) ≡ Some (n.cell f)

  -- a number means the token of a virtual method
  abbrev pub IsToken : MemberId → Type 0
  IsToken m = token_of (n.class m.class) (n.virtual_token m) ≡ Some (n.dispatch_token m)

  -- a reference means the static method, constructor or private method
  abbrev pub IsFixed : (on_object : Bool) → MemberId → Type 0
  IsFixed on m = static_method n.loaded n.part on (n.method_ref m) ≡ Some (n.fixed on m)

  -- A key is of the kind that an opcode uses, and its entry means what the key names.
  pub data Fit : Use → PoolKey → Type 0 where
    gets : {this : Bool} {letter : Letter} {f : MemberId} → IsClass f.class → Fit (Gets this letter) (keys.Field f)
    puts : {this : Bool} {letter : Letter} {f : MemberId} → IsClass f.class → Fit (Puts this letter) (keys.Field f)
    gets_static : {letter : Letter} {f : MemberId} → IsCell f → Fit (GetsStatic letter) (keys.StaticField f)
    puts_static : {letter : Letter} {f : MemberId} → IsCell f → Fit (PutsStatic letter) (keys.StaticField f)
    calls_virtual : {m : MemberId} → IsClass m.class → IsToken m → Fit (Calls Virtual) (keys.Virtual m)
    calls_super : {m : MemberId} → IsClass m.class → IsToken m → Fit (Calls Special) (keys.Super m)
    calls_special : {m : MemberId} → IsFixed true m → Fit (Calls Special) (keys.StaticMethod m)
    calls_static : {m : MemberId} → IsFixed false m → Fit (Calls Static) (keys.StaticMethod m)
    makes : {c : List ℕ} → IsClass c → Fit Makes (keys.Class c)
    makes_references : {c : List ℕ} → IsClass c → Fit MakesReferences (keys.Class c)
