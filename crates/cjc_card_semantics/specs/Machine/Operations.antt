-- Instructions with their operands resolved by the constant pool of their package (Java Card Virtual Machine
-- Specification 2.2.2, section 6.7 and chapter 7).
use Rattle.std.specs.Prelude.{ℕ, suc, ◌+◌, ◌-◌, List, [], ◌∷◌, Option, Some, None, option_and_then, option_map, Bool}
use Rattle.std.specs.Prelude.{true, false, nat_lt, ◌==◌, ◌&&◌, if◌then◌else◌, slice_get, ℤ, pos, negsuc, ◌+ℤ◌}
use Rattle.cjc_export.specs.Bytes.declared.fault.MemberId.{MemberId}
use Rattle.cjc_capread.specs.declared.tree.StaticRef.{StaticRef}
use Rattle.cjc_capread.specs.declared.tree.StaticRef.TheVariants.{Inside, Outside}
use Rattle.cjc_capread.specs.declared.tree.PoolEntry.{PoolEntry}
use Rattle.cjc_capread.specs.declared.tree.PoolEntry.TheVariants.{Classref, InstanceFieldref, VirtualMethodref}
use Rattle.cjc_capread.specs.declared.tree.PoolEntry.TheVariants.{SuperMethodref, StaticFieldref, StaticMethodref}
use Rattle.cjc_export.specs.declared.tree.ExportMethod.{ExportMethod}
use Rattle.cjc_export.specs.Members.{is_unbound}
use Rattle.cjc_script.specs.Sorts.{Element, Booleans, Bytes, Shorts, Ints, Shape, OfClass, OfNumbers, OfReferences}
use Rattle.cjc_card_semantics.specs.Bytecode.Effects.{Arm, Operation, Do, Branch, Pick, Touch, Get, Put, GetStatic}
use Rattle.cjc_card_semantics.specs.Bytecode.Effects.{PutStatic, Call, New, NewNumbers, NewReferences, Cast, Ask}
use Rattle.cjc_card_semantics.specs.Bytecode.Effects.{Undone}
use Rattle.cjc_card_semantics.specs.Bytecode.Meanings.{Meaning, Plain, Branches, Ranged, Paired, Touches, Uses}
use Rattle.cjc_card_semantics.specs.Bytecode.Meanings.{CallsInterface, MakesNumbers, Casts, Asks, Use, Gets, Puts}
use Rattle.cjc_card_semantics.specs.Bytecode.Meanings.{GetsStatic, PutsStatic, Calls, Makes, MakesReferences, Mode}
use Rattle.cjc_card_semantics.specs.Bytecode.Meanings.{Virtual, Special, Static}
use Rattle.cjc_card_semantics.specs.Machine.Loaded.{Import, OfGroup, OfFile, Loaded}
use Rattle.cjc_card_semantics.specs.Machine.Classes.{Class, Own, External, Field, external, import_of, class_of}
use Rattle.cjc_card_semantics.specs.Machine.Statics.{StaticCell}
use Rattle.cjc_card_semantics.specs.Machine.Dispatch.{Token, Open, Hidden}

-- what a call names
pub data Callee : Type 0 where
  -- a static method, a constructor or a private method: by its offset, or an imported one by its name
  Fixed : (on_object : Bool) (part offset : ℕ) → Callee
  Outer : (on_object : Bool) (method : MemberId) → Callee
  -- a virtual method of a class, selected on the receiver, or from the superclass of that class
  OnObject : (class : Class) (token : Token) → Callee
  OnSuper : (class : Class) (token : Token) → Callee
  -- a method of an interface, and the words of its arguments with the receiver
  OnInterface : (words : ℕ) (interface : Class) (token : ℕ) → Callee

-- an operation of the machine by token
abbrev pub Resolved : Type 0
Resolved = Operation Class Field StaticCell Callee

-- ---- places

-- so far from an offset
abbrev pub moved : (at : ℕ) → ℤ → ℕ
moved at (pos n) = at + n
moved at (negsuc n) = at - suc n

-- the cases of a switch: the numbers from a low one on, or matches
abbrev pub ranged : (at : ℕ) → ℤ → List ℤ → List Arm
ranged at low [] = []
ranged at low (far ∷ offsets) = record { value = low; to = moved at far } ∷ ranged at (low +ℤ pos 1) offsets

-- matches with their offsets
abbrev pub paired : (at : ℕ) → List ℤ → List Arm
paired at (value ∷ far ∷ numbers) = record { value = value; to = moved at far } ∷ paired at numbers
paired at numbers = []

-- ---- members

-- the token of a virtual method as a pool entry writes it: the high bit marks a package-visible one, which no imported
-- class has
abbrev pub token_of : Class → (token : ℕ) → Option Token
token_of (Own p offset) token = Some (if nat_lt token 0x80 then Open token else Hidden p (token - 0x80))
token_of (External tree number) token = if nat_lt token 0x80 then Some (Open token) else None

-- a static method or constructor that an export file lists
abbrev pub unbound_of : List ExportMethod → (token : ℕ) → Option ExportMethod
unbound_of [] token = None
unbound_of (m ∷ methods) token = if is_unbound m.flags m.name && (m.token == token) then Some m
    else unbound_of methods token

-- an imported method
abbrev pub outer : (on_object : Bool) (class : List ℕ) → ExportMethod → Callee
outer on_object class m = Outer on_object (record { class = class; name = m.name; desc = m.desc })

-- a static method through an import
abbrev pub method_through : Loaded → (on_object : Bool) (class token : ℕ) → Import → Option Callee
method_through l on_object class token (OfFile tree) =
    option_and_then (λ c. option_map (outer on_object c.name) (unbound_of c.methods token)) (external l tree class)
method_through l on_object class token (OfGroup q) =
    option_and_then (λ part. option_and_then (λ e. option_map (Fixed on_object q) (slice_get e.methods token))
    (slice_get part.exports class)) (slice_get l.parts q)

-- the method of a static reference
abbrev pub static_method : Loaded → (part : ℕ) (on_object : Bool) → StaticRef → Option Callee
static_method l p on_object (Inside offset) = Some (Fixed on_object p offset)
static_method l p on_object (Outside «package» class token) = option_and_then (method_through l on_object class token)
    (import_of l p «package»)

-- a static field outside the group has no cell
abbrev pub cell_through : Loaded → (class token : ℕ) → Import → Option StaticCell
cell_through l class token (OfFile tree) = None
cell_through l class token (OfGroup q) =
    option_and_then (λ part. option_and_then (λ e. option_map (λ offset. record { part = q; offset = offset })
    (slice_get e.fields token)) (slice_get part.exports class)) (slice_get l.parts q)

-- the cell of a static reference
abbrev pub static_cell : Loaded → (part : ℕ) → StaticRef → Option StaticCell
static_cell l p (Inside offset) = Some (record { part = p; offset = offset })
static_cell l p (Outside «package» class token) = option_and_then (cell_through l class token) (import_of l p «package»)

-- ---- entries of the pool

-- the method that an entry of the pool names, by how it is called
abbrev pub calling : Loaded → (part : ℕ) → Mode → PoolEntry → Option Callee
calling l p Virtual (VirtualMethodref c t) = option_and_then (λ class. option_map (OnObject class) (token_of class t))
    (class_of l p c)
calling l p Special (SuperMethodref c t) = option_and_then (λ class. option_map (OnSuper class) (token_of class t))
    (class_of l p c)
calling l p Special (StaticMethodref m) = static_method l p true m
calling l p Static (StaticMethodref m) = static_method l p false m
calling l p mode item = None

-- what is done with an entry of the pool; nothing with one of another kind
abbrev pub using : Loaded → (part : ℕ) → Use → PoolEntry → Option Resolved
using l p (Gets this letter) (InstanceFieldref c t) = option_map (λ class. Get this letter (record {
  class = class;
  token = t;
})) (class_of l p c)
using l p (Puts this letter) (InstanceFieldref c t) = option_map (λ class. Put this letter (record {
  class = class;
  token = t;
})) (class_of l p c)
using l p (GetsStatic letter) (StaticFieldref f) = option_map (GetStatic letter) (static_cell l p f)
using l p (PutsStatic letter) (StaticFieldref f) = option_map (PutStatic letter) (static_cell l p f)
using l p (Calls mode) item = option_map Call (calling l p mode item)
using l p Makes (Classref c) = option_map New (class_of l p c)
using l p MakesReferences (Classref c) = option_map NewReferences (class_of l p c)
using l p how item = None

-- the entry of an index
abbrev pub entry : List PoolEntry → ℤ → Option PoolEntry
entry pool (pos k) = slice_get pool k
entry pool (negsuc k) = None

-- the class that an entry names
abbrev pub class_by : Loaded → (part : ℕ) → PoolEntry → Option Class
class_by l p (Classref c) = class_of l p c
class_by l p item = None

-- the same, where there is an entry
abbrev pub class_at : Loaded → (part : ℕ) → Option PoolEntry → Option Class
class_at l p item = option_and_then (class_by l p) item

-- ---- types

-- newarray: boolean 10, byte 11, short 12, int 13
abbrev pub element_type : ℕ → Option Element
element_type n =
    if n == 10 then Some Booleans else (if n == 11 then Some Bytes else (if n == 12 then Some Shorts
    else (if n == 13 then Some Ints else None)))

-- checkcast and instanceof: the same, 14 for an array of references, 0 for a class
abbrev pub type_by : ℕ → Option Class → Option (Shape Class)
type_by n class =
    if n == 0 then option_map OfClass class else (if n == 14 then option_map OfReferences class
    else option_map OfNumbers (element_type n))

-- ---- an instruction

-- stuck where a name means nothing
abbrev pub or_undone : Option Resolved → Resolved
or_undone None = Undone
or_undone (Some operation) = operation

-- What an instruction of a package does, by its meaning, its offset, its operands and its table; nothing where an index
-- or token names nothing.
abbrev pub operation : Loaded → (part : ℕ) → List PoolEntry → (at : ℕ) → Meaning → (operands table : List ℤ) → Resolved
operation l p pool at (Plain calculation) operands table = Do (calculation operands)
operation l p pool at (Branches test) (far ∷ []) table = Branch test (moved at far)
operation l p pool at (Ranged is_int) (other ∷ low ∷ high ∷ []) offsets =
    Pick is_int (moved at other) (ranged at low offsets)
operation l p pool at (Paired is_int) (other ∷ count ∷ []) pairs = Pick is_int (moved at other) (paired at pairs)
operation l p pool at (Touches access) operands table = Touch access
operation l p pool at (Uses how) (k ∷ []) table = or_undone (option_and_then (using l p how) (entry pool k))
operation l p pool at CallsInterface (pos words ∷ k ∷ pos token ∷ []) table =
    or_undone (option_map (λ c. Call (OnInterface words c token)) (class_at l p (entry pool k)))
operation l p pool at MakesNumbers (pos type ∷ []) table = or_undone (option_map NewNumbers (element_type type))
operation l p pool at Casts (pos type ∷ k ∷ []) table =
    or_undone (option_map Cast (type_by type (class_at l p (entry pool k))))
operation l p pool at Asks (pos type ∷ k ∷ []) table =
    or_undone (option_map Ask (type_by type (class_at l p (entry pool k))))
operation l p pool at m operands table = Undone
