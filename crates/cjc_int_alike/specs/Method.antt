-- What is found of a method in int mode: its tables, closed and without a broken rule of those that bind int mode, and
-- the body by which whole runs go.
use Rattle.std.specs.Prelude.{◌≡◌, ℕ, Bool, true, List, slice_get, Option, Some, None, codes, ℤ}
use Rattle.std.specs.List.{Contains}
use Rattle.cjc_bytes.specs.declared.fault.MemberId.{MemberId}
use Rattle.cjc_code.specs.ClassFile.Code.{CodeTree}
use Rattle.cjc_code.specs.ClassFile.declared.tree.Catch.{Catch}
use Rattle.cjc_code.specs.ClassFile.declared.tree.ClassTree.{ClassTree}
use Rattle.cjc_code.specs.ClassFile.declared.tree.MethodTree.{MethodTree}
use Rattle.cjc_code.specs.declared.insn.JInsn.{JInsn}
use Rattle.cjc_code.specs.declared.insn.JOp.{JOp}
use Rattle.cjc_script.specs.Sorts.{Shape, OfClass, shape_name, shape_named}
use Rattle.cjc_world.specs.Classes.{Class}
use Rattle.cjc_types.specs.Flow.{body_of}
use Rattle.cjc_types.specs.Tables as typed
use Rattle.cjc_types.specs.TypeLaws.Closed.{IsClosedTable}
use Rattle.cjc_types.specs.declared.state.State.{State}
use Rattle.cjc_types.specs.Search.{cells_of}
use Rattle.cjc_intervals.specs.Frames.{RangeState, spans_of}
use Rattle.cjc_intervals.specs.Tables.{IsClosedRanges}
use Rattle.cjc_flow.specs.Tests.Breaches.{NoBreach}
use Rattle.cjc_ncode.specs.declared.narrow.NMethod.{NMethod}
use Rattle.cjc_ncode.specs.ByLabel.{Named}
use Rattle.cjc_ncode.specs.Written.{Resolution}
use Rattle.cjc_ncode.specs.IntCode.IntCode.{Reached, place_in, scratch_pairs}
use Rattle.cjc_jvm_semantics.specs.Linked.{Method, Linked}
use Rattle.cjc_narrow_proof.specs.Tables.Analysis.{Found, IsDecoded}
use Rattle.cjc_narrow_proof.specs.Tables.Kinds.{kinds}
use Rattle.cjc_int_mode.specs.declared.modes.Mode.TheVariants as modes
use Rattle.cjc_int_mode.specs.Modes.{binds}
use Rattle.cjc_int_mode.specs.Room.{IsRoom}
use Rattle.cjc_int_mode.specs.Written.{before, int_frame, reached_from}
use Rattle.cjc_int_runs.specs.IntFrames.{IntBody, IntPoint}

-- what is found of a method of a class, with its code and the instructions decoded from it, and its tables
abbrev pub found_of : ClassTree → MethodTree → CodeTree → List JInsn → List (Option State) → List (Option RangeState)
    → Found
found_of class method tree insns types ranges = record {
  body = body_of class method tree insns;
  types = types;
  ranges = ranges;
}

-- ---- the body

-- what both tables say before an instruction
abbrev pub int_point : Named → JOp → State → RangeState → IntPoint
int_point l op t x = record {
  stack = kinds l (cells_of t.stack) (spans_of x.stack);
  locals = kinds l t.locals x.locals;
  before = before op t (Some x);
}

-- the same where there is an instruction and both tables have a state for it
abbrev pub int_point_where : Named → Option JInsn → Option (Option State) → Option (Option RangeState) → Option IntPoint
int_point_where l (Some i) (Some (Some t)) (Some (Some x)) = Some (int_point l i.op t x)
int_point_where l i t x = None

-- before the instruction at a place, where both tables reach it
abbrev pub int_point_at : Named → Found → (at : ℕ) → Option IntPoint
int_point_at l f at = let b = f.body in int_point_where l (slice_get b.insns at) (slice_get f.types at)
    (slice_get f.ranges at)

-- the instructions that the types reach, with what the tables say before them
abbrev pub int_reached : Found → List Reached
int_reached f = let b = f.body in reached_from f.ranges 0 b.insns f.types

-- what whole runs go by in a method in int mode, of which this is found and for which this code is written
abbrev pub int_body : Named → Resolution → Found → NMethod → IntBody
int_body l r f code = record {
  frame = int_frame f.body;
  pairs = scratch_pairs (int_reached f);
  resolution = r;
  code = code;
  place_of = place_in (int_frame f.body) r (int_reached f);
  point = int_point_at l f;
}

-- ---- one method

-- Its type table and its range table are closed, no instruction breaks a rule of types, no operand one of the rules
-- that bind methods in int mode, and there is room for what is written.
pub record IsIntSound (w : List Class) (constant : MemberId → Option ℤ) (f : Found) : Type 0 where
  pub types : IsClosedTable f.body f.types
  pub unbroken : (place rule : ℕ) → typed.Breach w f.body f.types place rule → ⊥
  pub ranges : IsClosedRanges f.body constant f.types f.ranges
  pub passes : NoBreach (binds modes.Int) f.body f.types f.ranges
  pub room : IsRoom f.body f.types modes.Int true

-- A method of the machine by name is the one that was read.
pub record IsIntRead (f : Found) (m : Method) : Type 0 where
  pub insns : m.insns ≡ (let b = f.body in b.insns)
  pub catches : m.catches ≡ (let b = f.body in b.catches)
  pub max_stack : m.max_stack ≡ (let b = f.body in b.max_stack)
  pub max_locals : m.max_locals ≡ (let b = f.body in b.max_locals)
  pub class : (let id = m.id in id.class) ≡ (let b = f.body in b.class)

-- Types are asked alike in its code: what may be thrown is a java/lang/Throwable, and handlers name classes.
pub record IntCatchesAreTold (by : Linked) (l : Named) (may_throw : Shape (List ℕ) → Bool) (m : Method) : Type 0 where
  pub tells : (kind : Shape (List ℕ)) (class : List ℕ) → by.subtype (Some (let id = m.id in id.class)) (shape_name kind)
      class ≡ l.is_of kind (OfClass class)
  pub throwable : (kind : Shape (List ℕ)) → may_throw kind ≡ true
      → l.is_of kind (OfClass (codes "java/lang/Throwable")) ≡ true
  pub named : (c : Catch) (class : List ℕ) → Contains m.catches c → c.class ≡ Some class
      → shape_named class ≡ Some (OfClass class)

-- A method in int mode: what is read of it and its tables go together.
pub record IsIntWhole (by : Linked) (l : Named) (may_throw : Shape (List ℕ) → Bool) (w : List Class) (r : Resolution)
    (f : Found) (m : Method) : Type 0 where
  pub read : IsIntRead f m
  pub decoded : IsDecoded f.body
  pub sound : IsIntSound w r.constant f
  pub told : IntCatchesAreTold by l may_throw m
