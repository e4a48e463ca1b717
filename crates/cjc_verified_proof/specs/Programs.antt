-- The program of components that the type checker passes.
use Rattle.std.specs.Prelude.{◌≡◌, ℕ, ◌+◌, ◌==◌, ◌&&◌, not, Bool, true, false, List, [], ◌∷◌, slice_get, Some}
use Rattle.std.specs.Prelude.{Contains, ℤ}
use Rattle.cjc_capread.specs.Opcodes.{Byte, Index2}
use Rattle.cjc_capread.specs.declared.tree.PoolEntry.{PoolEntry}
use Rattle.cjc_bytes.specs.declared.fault.MemberId.{MemberId}
use Rattle.cjc_card_semantics.specs.Script.Sorts.{Shape}
use Rattle.cjc_card_semantics.specs.Bytecode.Machine.{Start}
use Rattle.cjc_card_semantics.specs.Bytecode.Meanings.{Calls, CallsInterface, Mode}
use Rattle.cjc_card_semantics.specs.Machine.Calls.{sent}
use Rattle.cjc_card_semantics.specs.Machine.Classes.{Class, Own, External, is_interface}
use Rattle.cjc_card_semantics.specs.Machine.Methods.{Code}
use Rattle.cjc_card_semantics.specs.Machine.Operations.{operation, or_undone}
use Rattle.cjc_card_semantics.specs.Machine.Operations as machine
use Rattle.cjc_card_acts.specs.CardTypes.{ValueType}
use Rattle.cjc_verify.specs.Frames.Tables.{IsLeastTable}
use Rattle.cjc_verify.specs.Bodies.{Body, bodies, frames_of, type_of_body}
use Rattle.cjc_verify.specs.Instructions.{by_interface, throwable, using}
use Rattle.cjc_verify.specs.Named.{entry_of, entry_type, is_unmade_class}
use Rattle.cjc_verify.specs.Pairs.{Pair, class_at}
use Rattle.cjc_verify_proof.specs.Beside.{AreRead}
use Rattle.cjc_verify_proof.specs.Frames.{Typing, Program}
use Rattle.cjc_verify_proof.specs.Instructions.{Suits}
use Rattle.cjc_verify_proof.specs.Runs.{IsEntry}
use Rattle.cjc_verify_proof.specs.Turns.{IsMade}
use Rattle.cjc_verify_proof.specs.Uses.{is_used_by}
use Rattle.cjc_verified_proof.specs.PackageTypes.{field_types}
use Rattle.cjc_verified_proof.specs.Selecting.{DispatchFits}
use Rattle.cjc_verified_proof.specs.Suited.{IsRight}

-- the code of a method, behind its header
abbrev pub code_of : Body → Code
code_of b = let h = b.header in let m = b.method in record {
  part = 0;
  room = h.max_stack;
  first = m.offset + h.size;
  end = m.offset + h.size + m.bytecode_count;
}

-- a method of Method with its least table
pub record IsTypingOf (p : Pair) (b : Body) (t : Typing) : Type 0 where
  pub code : t.code ≡ code_of b
  pub body : t.body ≡ frames_of p b
  pub least : IsLeastTable (frames_of p b) t.rows
  pub result : t.result ≡ (let x = type_of_body p.components b in x.result)

-- objects are made of imported classes that are no interfaces, and of classes of the package that are neither abstract
-- nor interfaces
abbrev pub is_made : Pair → Class → Bool
is_made p (Own part offset) = (part == 0) && not (is_unmade_class (class_at p offset))
is_made p (External tree token) = not (is_interface p.loaded (External tree token))

-- a method that is not abstract
abbrev pub is_concrete : Body → Bool
is_concrete b = let h = b.header in not h.is_abstract

-- The methods with code, each with its least table, the type of all exceptions, the types of fields and the classes of
-- which objects are made.
pub record IsProgramOf (p : Pair) (program : Program) : Type 0 where
  pub each : (t : Typing) → Contains program.methods t → (k : ℕ) × (b : Body)
      × (slice_get (bodies p.components) k ≡ Some b) × (is_concrete b ≡ true) × IsTypingOf p b t
  pub all : (k : ℕ) (b : Body) → slice_get (bodies p.components) k ≡ Some b → is_concrete b ≡ true
      → (t : Typing) × Contains program.methods t × IsTypingOf p b t
  pub exceptions : throwable p ≡ Some program.exceptions
  pub fields : program.fields ≡ field_types p
  pub made : program.made ≡ is_made p

-- Calls of a program are what their acts say: by the entry that they name, and calls of interfaces by their operands.
pub record CallsSuit (p : Pair) (program : Program) : Type 0 where
  pub calls : (result : ValueType) (mode : Mode) (k : ℕ) (item : PoolEntry) → entry_of p k ≡ Some item
      → is_used_by (Calls mode) item ≡ true → IsRight (using p (Calls mode) (entry_type p k) item)
      → Suits p.loaded program result (using p (Calls mode) (entry_type p k) item)
      (or_undone (machine.using p.loaded 0 (Calls mode) item))
  pub interface : (result : ValueType) (at : ℕ) (operands table : List ℤ) → AreRead (Byte ∷ Index2 ∷ Byte ∷ []) operands
      → IsRight (by_interface p operands) → Suits p.loaded program result (by_interface p operands)
      (operation p.loaded 0
      (let c = p.components in let q = c.pool in q.entries) at CallsInterface operands table)

-- Calls by dispatch and entries on receivers reach methods of the program.
pub record CallsReach (p : Pair) (program : Program) : Type 0 where
  pub fits : DispatchFits p program
  pub sends : (kind : Shape Class) → IsMade program kind → (id : MemberId) (m : Start Code)
      → sent p.loaded kind id ≡ Some m → IsEntry p.loaded program (Some kind) id.desc m
