-- The grammar of initialisers: which instructions one is made of. Each statement puts a number, null or an array of
-- numbers
-- into a static field of the class, whose value is then part of the static image (Java Card Virtual Machine
-- Specification 2.2.2, section 6.10).
use Rattle.std.specs.Prelude.{◌≡◌, ◌<◌, ◌≤◌, ℕ, List, [], ◌∷◌, ◌++◌, map, length, replicate, slice_get, slice_set, Bool}
use Rattle.std.specs.Prelude.{true, false, not, ◌&&◌, ◌==◌, if◌then◌else◌, Option, Some, None, option_and_then, ℤ, pos}
use Rattle.std.specs.Prelude.{codes}
use Rattle.std.specs.Str.{bytes_eq}
use Rattle.cjc_bytes.specs.declared.fault.MemberId.{MemberId}
use Rattle.cjc_bytes.specs.declared.descriptor.Kind.{Kind}
use Rattle.cjc_bytes.specs.declared.descriptor.Kind.TheVariants as kinds
use Rattle.cjc_subset.specs.LowerClassFile.declared.tree.ClassTree.{ClassTree}
use Rattle.cjc_subset.specs.LowerClassFile.declared.tree.FieldTree.{FieldTree}
use Rattle.cjc_subset.specs.LowerClassFile.declared.tree.MethodTree.{MethodTree}
use Rattle.cjc_subset.specs.LowerBytecode.declared.insn.JInsn.{JInsn}
use Rattle.cjc_subset.specs.LowerBytecode.declared.insn.JOp.{JOp}
use Rattle.cjc_subset.specs.LowerBytecode.declared.insn.JOp.TheVariants as jop
use Rattle.cjc_subset.specs.LowerBytecode.Jvm as jvm
use Rattle.cjc_subset.specs.LowerWorld.declared.found.Found.{Found}
use Rattle.cjc_subset.specs.LowerWorld.Files.{Files}
use Rattle.cjc_subset.specs.LowerWorld.Classes.{all_classes}
use Rattle.cjc_subset.specs.LowerWorld.Lookup.{find_field}
use Rattle.cjc_clinit.specs.declared.stage.Held.{Held}
use Rattle.cjc_clinit.specs.declared.stage.Held.TheVariants as held
use Rattle.cjc_clinit.specs.Fields.{Contents, ANumber, ANull, AnArray, is_cell, fits, takes, held_by}

-- <clinit>()V; a method of this name with another descriptor is no initialiser (Java Virtual Machine Specification,
-- 2.9)
abbrev pub is_initialiser : MethodTree → Bool
is_initialiser m = bytes_eq m.name (codes "<clinit>") && bytes_eq m.desc (codes "()V")

-- ---- the instructions

-- newarray's numbers of types: boolean 4, byte 8, short 9, int 10
abbrev pub element_kind : ℕ → Option Kind
element_kind number =
    if number == 4 then Some kinds.Bool else if number == 8 then Some kinds.Byte
    else if number == 9 then Some kinds.Short else if number == 10 then Some kinds.Int else None

-- an array's own store: bastore, sastore, iastore
abbrev pub store : Kind → ℕ
store kinds.Short = jvm.sastore
store kinds.Int = jvm.iastore
store _ = jvm.bastore

-- the most items of an array
abbrev pub most_items : ℕ
most_items = 32767

-- ---- the fields

-- the place among the class's own fields of one that a look-up found
abbrev pub own_place : (class : ℕ) → Option Found → Option ℕ
own_place class None = None
own_place class (Some f) = if not f.imported && (f.class == class) then Some f.member else None

-- a field with a cell, into which nothing was put
abbrev pub is_open : Option FieldTree → Option Held → Bool
is_open (Some f) (Some held.Nothing) = is_cell f
is_open f h = false

-- the place where it is so, else none
abbrev pub only_if : Bool → ℕ → Option ℕ
only_if true k = Some k
only_if false k = None

-- the place, where the field there is open
abbrev pub open_in : ClassTree → List Held → ℕ → Option ℕ
open_in c fields k = only_if (is_open (slice_get c.fields k) (slice_get fields k)) k

-- The place of the field that an instruction of the class of this number names: a field of the class itself that is no
-- constant, into which nothing was put.
unfoldable pub open_place : Files → (number : ℕ) → ClassTree → List Held → MemberId → Option ℕ
open_place files number c fields id = option_and_then (open_in c fields)
    (own_place number (find_field (all_classes files) id.class id.name id.desc))

-- the same, where the field takes what is put
abbrev pub place_for : Files → (number : ℕ) → ClassTree → List Held → Contents → MemberId → Option ℕ
place_for files number c fields contents id = if takes contents id.desc then open_place files number c fields id
    else None

-- ---- the grammar

-- Stores into an array that is on the stack, each of a value of its kind at an index inside it, and the items before
-- and
-- after them.
pub data Stores (kind : Kind) : (before : List ℤ) → List JOp → (after : List ℤ) → Type 0 where
  none : {items : List ℤ} → Stores kind items [] items
  one : {items : List ℤ} {i : ℕ} {z : ℤ} {ops : List JOp} {after : List ℤ} → i < length items → fits kind z ≡ true
      → Stores kind (slice_set items i z) ops after
      → Stores kind items (jop.Stack jvm.dup ∷ jop.Number (pos i) ∷ jop.Number z ∷ jop.ArrayStore (store kind) ∷ ops)
      after

-- instructions that leave this on the stack
pub data Makes : List JOp → Contents → Type 0 where
  of_number : {z : ℤ} → Makes (jop.Number z ∷ []) (ANumber z)
  of_null : Makes (jop.Null ∷ []) ANull
  of_array : {count number : ℕ} {kind : Kind} {ops : List JOp} {items : List ℤ} → count ≤ most_items
      → element_kind number ≡ Some kind → Stores kind (replicate count (pos 0)) ops items
      → Makes (jop.Number (pos count) ∷ jop.NewArray number ∷ ops) (AnArray kind items)

-- what is put, into the field of this place and name
pub record Put : Type 0 where
  pub place : ℕ
  pub field : MemberId
  pub contents : Contents

-- An initialiser of the class of this number: its statements, and what the fields hold before and after them.
pub data Initialises (files : Files) (number : ℕ) (c : ClassTree) : (before : List Held) → List JOp → List Put
    → (after : List Held) → Type 0 where
  ends : {fields : List Held} → Initialises files number c fields (jop.Return jvm.return ∷ []) [] fields
  puts : {fields after : List Held} {made ops : List JOp} {contents : Contents} {id : MemberId} {k : ℕ}
      {rest : List Put} → Makes made contents → place_for files number c fields contents id ≡ Some k
      → Initialises files number c (slice_set fields k (held_by contents)) ops rest after
      → Initialises files number c fields (made ++ (jop.Static true id ∷ ops)) (record {
        place = k;
        field = id;
        contents = contents;
      } ∷ rest) after

-- ---- how one begins

-- The beginning of an initialiser, or all of it: statements, and behind them the return, or the beginning of what a
-- further
-- statement puts, which may be no instruction or all of them.
pub data IsBeginning (files : Files) (number : ℕ) (c : ClassTree) : (before : List Held) → List JOp → Type 0 where
  begins : {fields : List Held} {ops : List JOp} (more : List JOp) (contents : Contents) → Makes (ops ++ more) contents
      → IsBeginning files number c fields ops
  ends : {fields : List Held} → IsBeginning files number c fields (jop.Return jvm.return ∷ [])
  puts : {fields : List Held} {made ops : List JOp} (contents : Contents) (id : MemberId) (k : ℕ) → Makes made contents
      → place_for files number c fields contents id ≡ Some k
      → IsBeginning files number c (slice_set fields k (held_by contents)) ops → IsBeginning files number c fields (made
      ++ (jop.Static true id ∷ ops))

-- ---- the code of one

-- what the instructions are, without their offsets
abbrev pub op_of : JInsn → JOp
op_of i = i.op

-- the same of all instructions, in their order
abbrev pub ops_of : List JInsn → List JOp
ops_of insns = map op_of insns

-- nothing is put into any field
abbrev pub nothing_in : ClassTree → List Held
nothing_in c = replicate (length c.fields) held.Nothing

-- an initialiser, from the first statement on
abbrev pub IsInitialiser : Files → (number : ℕ) → ClassTree → List JInsn → Type 0
IsInitialiser files number c insns = (puts : List Put) × (after : List Held) × Initialises files number c (nothing_in c)
    (ops_of insns) puts after

-- Code that is no initialiser is wrong at the first instruction with which it is no longer the beginning of one.
pub data IsWrongAt (files : Files) (number : ℕ) (c : ClassTree) (insns : List JInsn) (offset : ℕ) : Type 0 where
  wrong : (front rest : List JInsn) (i : JInsn) → insns ≡ front ++ i ∷ rest → offset ≡ i.at
      → IsBeginning files number c (nothing_in c) (ops_of front)
      → (IsBeginning files number c (nothing_in c) (ops_of (front ++ i ∷ [])) → ⊥)
      → IsWrongAt files number c insns offset
  -- Code without its return, which no decoded code is, is wrong at its start.
  unended : offset ≡ 0 → IsBeginning files number c (nothing_in c) (ops_of insns) → (IsInitialiser files number c insns
      → ⊥) → IsWrongAt files number c insns offset
