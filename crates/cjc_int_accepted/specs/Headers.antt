-- Headers of methods in int mode: the words of the arguments, of the locals and of the operand stack, and what is read
-- of a method beside that of the class file.
use Rattle.std.specs.Prelude.{◌≡◌, ℕ, ◌≤◌, true, false, List, length, slice_get, Option, Some}
use Rattle.std.specs.List.{AllByRecursion}
use Rattle.cjc_check_proof.specs.NCode.Lowering.Laid.{class_index}
use Rattle.cjc_check_proof.specs.NCode.declared.narrow.NCatch.{NCatch}
use Rattle.cjc_accepted_proof.specs.Frames.{IsCaughtAs}
use Rattle.cjc_verify.specs.Components.Names.{names}
use Rattle.cjc_types.specs.Bytecode.declared.insn.JInsn.{JInsn}
use Rattle.cjc_types.specs.Fixpoint.Tables.{HasRow}
use Rattle.cjc_types.specs.declared.cell.Cell.{Cell}
use Rattle.cjc_types.specs.declared.state.Stack.TheVariants.{Cells}
use Rattle.cjc_frames.specs.declared.acts.Step.{Step}
use Rattle.cjc_ncode.specs.declared.narrow.NInsn.{NInsn}
use Rattle.cjc_verify.specs.Components.Package.{LaidMethod, Package}
use Rattle.cjc_accepted_proof.specs.Coded.{card_type, is_of}
use Rattle.cjc_accepted_proof.specs.Written.{written_pair}
use Rattle.cjc_int_accepted.specs.Methods.{StretchStands}
use Rattle.cjc_int_accepted.specs.Selection.{label_in, room_of, selected}
use Rattle.cjc_types.specs.Bytes.AccessFlags.{is_static}
use Rattle.cjc_types.specs.ClassFile.Code.{CodeTree}
use Rattle.cjc_types.specs.Flow.{Body as BodyByName, arguments as arguments_by_name, caught_type as type_by_name}
use Rattle.cjc_types.specs.Types.{parts}
use Rattle.cjc_types.specs.declared.state.State.{State}
use Rattle.cjc_check_proof.specs.NarrowProof.Tables.Names.{IsDesc}
use Rattle.cjc_ncode.specs.Written.{Resolution}
use Rattle.cjc_ncode.specs.declared.narrow.NMethod.{NMethod}
use Rattle.cjc_int_mode.specs.Intervals.Frames.{RangeState}
use Rattle.cjc_int_mode.specs.Room.{LacksRoom}
use Rattle.cjc_int_mode.specs.Written.{written_in_int_mode}
use Rattle.cjc_int_mode.specs.declared.modes.Mode.TheVariants as modes
use Rattle.cjc_verify.specs.Bodies.{Body, caught_type, frames_of, type_of_body}
use Rattle.cjc_verify.specs.ClassTypes.{class_type}
use Rattle.cjc_verify.specs.Pairs.{Pair}
use Rattle.cjc_int_accepted.specs.Entered.{AreTypedAs}

-- A header says the words of this narrow method, which has code.
pub record SaysWords (n : NMethod) (v : Body) : Type 0 where
  pub max_stack : (let h = v.header in h.max_stack) ≡ n.max_stack
  pub nargs : (let h = v.header in h.nargs) ≡ n.nargs
  pub max_locals : (let h = v.header in h.max_locals) ≡ n.max_locals
  pub has_code : (let h = v.header in h.is_abstract) ≡ false

-- What the type checker reads of a method in int mode is what is written for that of a class file: its header, and the
-- types of its descriptor; it has room, and its arguments have locals.
pub record IsReadInIntMode (card_type : List ℕ → Option (List ℕ)) (q : Pair) (r : Resolution) (code : CodeTree)
    (b : BodyByName) (types : List (Option State)) (ranges : List (Option RangeState)) (v : Body) : Type 0 where
  pub stack : code.max_stack ≡ b.max_stack
  pub header : SaysWords (written_in_int_mode r code b types ranges) v
  pub static : (let m = v.method in is_static m.flags) ≡ is_static b.flags
  pub is_desc : IsDesc b.desc
  pub is_method : (let d = parts b.desc in d.is_method) ≡ true
  pub typed : AreTypedAs card_type (let d = parts b.desc in d.params) (let t = type_of_body q.components v in t.params)
  pub holds : is_static b.flags ≡ false → card_type b.class ≡ Some (class_type v.holder)
  pub few : length (arguments_by_name b) ≤ b.max_locals
  pub room : LacksRoom b types modes.Int → ⊥

-- What is written for the reached instructions of a method in int mode stands, and each
-- handler of the method catches by its index the card's type of its class.
pub record InsnsStand (p : Package) (r : Resolution) (b : BodyByName) (types : List (Option State))
    (ranges : List (Option RangeState)) (step : (label : ℕ) → NInsn → Step) (to : ℕ → ℕ) (laid : LaidMethod) (v
    : Body) :
    Type 0 where
  pub stand : (at : ℕ) (i : JInsn) (x : State) → slice_get b.insns at ≡ Some i → HasRow types at x → StretchStands
      (card_type p) (is_of p) (room_of b types ranges) (selected r b types ranges step) b types (label_in r b types
      ranges) to (let c = frames_of (written_pair p) v in c.local_count) at (label_in r b types ranges i.at) i x
  pub short : (at : ℕ) (x : State) → HasRow types at x → (s : List Cell) → x.stack ≡ Cells s → length s ≤ b.max_stack
  pub caught : AllByRecursion (λ (c : NCatch). IsCaughtAs (card_type p) (caught_type (written_pair p) (class_index
      (names p) c.class)) (type_by_name c.class)) (let l = laid.code in l.catches)
