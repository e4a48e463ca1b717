-- What is found of the methods of a package: the tables of each, closed and without a broken rule, and the table of all
-- that whole runs go by.
use Rattle.std.specs.Prelude.{◌≡◌, ◌<◌, ◌≤◌, ℕ, ◌+◌, Bool, true, List, length, slice_get, codes, Option, Some}
use Rattle.std.specs.Prelude.{option_map, ℤ}
use Rattle.std.specs.List.{Contains}
use Rattle.cjc_bytes.specs.declared.fault.MemberId.{MemberId}
use Rattle.cjc_code.specs.ClassFile.declared.tree.Catch.{Catch}
use Rattle.cjc_code.specs.declared.insn.JInsn.{JInsn}
use Rattle.cjc_script.specs.Sorts.{Shape, OfClass, shape_name, shape_named, result_by}
use Rattle.cjc_world.specs.Classes.{Class}
use Rattle.cjc_world.specs.Subtype.{is_subtype}
use Rattle.cjc_types.specs.declared.state.State.{State}
use Rattle.cjc_types.specs.Steps.{goes_on, targets}
use Rattle.cjc_types.specs.Types.{parts}
use Rattle.cjc_types.specs.Flow.{Body, arguments}
use Rattle.cjc_types.specs.Tables as typed
use Rattle.cjc_types.specs.TypeLaws.Closed.{IsClosedTable}
use Rattle.cjc_types.specs.TypeLaws.Places.{HasPlace, local_of}
use Rattle.cjc_intervals.specs.Frames.{RangeState}
use Rattle.cjc_intervals.specs.Flow.{argument_ranges}
use Rattle.cjc_intervals.specs.Tables.{IsClosedRanges, Passes}
use Rattle.cjc_card_semantics.specs.Bytecode.Machine.{Start}
use Rattle.cjc_ncode.specs.declared.narrow.NMethod.{NMethod}
use Rattle.cjc_ncode.specs.Written.{Resolution, reached, place_in, narrow_code, catches_at}
use Rattle.cjc_ncode.specs.ByLabel.{Named}
use Rattle.cjc_jvm_semantics.specs.Linked.{Method, Linked}
use Rattle.cjc_narrow_proof.specs.Selection.Relation.{Kind}
use Rattle.cjc_narrow_proof.specs.Selection.Replies.{result_kinds}
use Rattle.cjc_narrow_proof.specs.Selection.Tables.{Table, class_of_code}
use Rattle.cjc_narrow_proof.specs.Tables.Kinds.{kinds, point_at}
use Rattle.cjc_narrow_proof.specs.Tables.Pairs.{AreInPairs, StandsAlone, with_open}
use Rattle.cjc_narrow.specs.Pairs.Open.{Open}
use Rattle.cjc_types.specs.Fixpoint.Tables.{HasRow}

-- what is read of a method, and its tables
pub record Found : Type 0 where
  pub body : Body
  pub types : List (Option State)
  pub ranges : List (Option RangeState)

-- of each method: what is found, what is written for it and how names are resolved there, which pair is open before
-- each instruction, and what its callers are given; of each type
-- whether it may be thrown
pub record Analysis : Type 0 where
  pub found : Method → Found
  pub narrowed : Method → Start NMethod
  pub resolution : Method → Resolution
  pub opened : Method → (at : ℕ) → Open
  pub results : Method → List Kind
  pub may_throw : Shape (List ℕ) → Bool

-- the instructions that a method's least type table reaches
abbrev pub reached_in : Found → List JInsn
reached_in f = reached (let b = f.body in b.insns) f.types

-- the table that whole runs go by
abbrev pub table_of : Named → Analysis → Table
table_of l a = record {
  narrowed = a.narrowed;
  resolution = a.resolution;
  reached = λ m. reached_in (a.found m);
  point = λ m at. (let f = a.found m in option_map (with_open (a.opened m at)) (point_at l f.types f.ranges at));
  results = a.results;
  may_throw = a.may_throw;
}

-- ---- one method

-- Instructions stand in ascending order of their offsets.
abbrev pub Ascend : List JInsn → Type 0
Ascend insns = (j k : ℕ) (x y : JInsn) → slice_get insns j ≡ Some x → slice_get insns k ≡ Some y → j < k → x.at < y.at

-- The body of a method is one that was decoded: an instruction stands wherever one leads.
pub record IsDecoded (b : Body) : Type 0 where
  pub few : length b.insns ≤ 65535
  pub ascend : Ascend b.insns
  pub next : (at : ℕ) (i : JInsn) → slice_get b.insns at ≡ Some i → goes_on i.op ≡ true → at + 1 < length b.insns
  pub targets : (at : ℕ) (i : JInsn) (offset : ℕ) → slice_get b.insns at ≡ Some i → Contains (targets i.op) offset
      → HasPlace b.insns offset
  pub handlers : (c : Catch) → Contains b.catches c → HasPlace b.insns c.target
  pub locals : (at : ℕ) (i : JInsn) (k : ℕ) → slice_get b.insns at ≡ Some i → local_of i.op ≡ Some k → k < b.max_locals

-- Its type table and its range table are closed, and no instruction breaks a rule of either.
pub record IsSound (w : List Class) (constant : MemberId → Option ℤ) (f : Found) : Type 0 where
  pub types : IsClosedTable f.body f.types
  pub unbroken : (place rule : ℕ) → typed.Breach w f.body f.types place rule → ⊥
  pub ranges : IsClosedRanges f.body constant f.types f.ranges
  pub passes : Passes f.body f.types f.ranges

-- A method of the machine by name is the one that was read, and narrow code has what is written for its reached
-- instructions.
pub record IsRead (a : Analysis) (m : Method) : Type 0 where
  pub insns : m.insns ≡ (let f = a.found m in let b = f.body in b.insns)
  pub catches : m.catches ≡ (let f = a.found m in let b = f.body in b.catches)
  pub max_stack : m.max_stack ≡ (let f = a.found m in let b = f.body in b.max_stack)
  pub max_locals : m.max_locals ≡ (let f = a.found m in let b = f.body in b.max_locals)
  pub class : class_of_code m ≡ (let f = a.found m in let b = f.body in b.class)
  pub begins : (let s = a.narrowed m in s.at) ≡ 0
  pub code : (let s = a.narrowed m in let n = s.code in n.insns) ≡ narrow_code (a.resolution m) (reached_in (a.found m))
  pub handlers : (let s = a.narrowed m in let n = s.code in n.catches)
      ≡ catches_at (place_in (a.resolution m) (reached_in (a.found m))) m.catches
  pub pairs : (let f = a.found m in AreInPairs (a.resolution m) f.body f.types (a.opened m))
  pub narrow_max_stack : (let s = a.narrowed m in let n = s.code in n.max_stack) ≡ m.max_stack

-- The instruction at a place stands alone, and its range table has this row there.
pub record IsAlone (a : Analysis) (m : Method) (at : ℕ) (x : RangeState) : Type 0 where
  pub row : HasRow (let f = a.found m in f.ranges) at x
  pub stands : StandsAlone (a.resolution m) (let f = a.found m in let b = f.body in b.insns) (a.opened m) at

-- Types are asked alike in the code of a method: what may be thrown is a java/lang/Throwable, and handlers name
-- classes.
pub record CatchesAreTold (by : Linked) (l : Named) (a : Analysis) (m : Method) : Type 0 where
  pub tells : (kind : Shape (List ℕ)) (class : List ℕ) → by.subtype (Some (class_of_code m)) (shape_name kind) class
      ≡ l.is_of kind (OfClass class)
  pub throwable : (kind : Shape (List ℕ)) → a.may_throw kind ≡ true
      → l.is_of kind (OfClass (codes "java/lang/Throwable")) ≡ true
  pub named : (c : Catch) (class : List ℕ) → Contains m.catches c → c.class ≡ Some class
      → shape_named class ≡ Some (OfClass class)

-- What is of a type is told alike by the machine's look-ups and by subtypes of names; a name is below itself, and what
-- is below a subtype is
-- below its supertype.
pub record TypesAreTold (w : List Class) (l : Named) : Type 0 where
  pub tells : (name : List ℕ) (shape : Shape (List ℕ)) → shape_named name ≡ Some shape → (kind : Shape (List ℕ))
      → l.is_of kind shape ≡ is_subtype w (shape_name kind) name
  pub itself : (x : List ℕ) → is_subtype w x x ≡ true
  pub through : (x y z : List ℕ) → is_subtype w x y ≡ true → is_subtype w y z ≡ true → is_subtype w x z ≡ true

-- The callers of a method are given what its descriptor says.
abbrev pub IsGiven : Named → Analysis → Method → Type 0
IsGiven l a m = a.results m ≡ result_kinds l (let f = a.found m in let b = f.body in let p = (parts b.desc).result
    in result_by p.kind p)

-- what a method begins with: its receiver, where it has one, and its parameters, as its descriptor says
abbrev pub declared_kinds : Named → Body → List Kind
declared_kinds l b = kinds l (arguments b) (argument_ranges b)

-- It has an instruction, and its locals have room for what it begins with.
pub record HasRoomToBegin (b : Body) : Type 0 where
  pub some : 0 < length b.insns
  pub room : length (arguments b) ≤ b.max_locals

-- An exception may be thrown where it is a java/lang/Throwable.
abbrev pub ThrowablesMay : Named → Analysis → Type 0
ThrowablesMay l a = (kind : Shape (List ℕ)) → l.is_of kind (OfClass (codes "java/lang/Throwable")) ≡ true
    → a.may_throw kind ≡ true
