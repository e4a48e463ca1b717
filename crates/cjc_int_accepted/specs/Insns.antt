-- A method of a class file in int mode whose instructions and handlers name what the card has.
use Rattle.std.specs.Prelude.{◌≡◌, ℕ, List, length, slice_get, Option, Some}
use Rattle.std.specs.List.{AllByRecursion}
use Rattle.cjc_types.specs.Bytecode.declared.insn.JInsn.{JInsn}
use Rattle.cjc_types.specs.Fixpoint.Tables.{HasRow, IsClosed}
use Rattle.cjc_types.specs.Flow.{Body, caught_type as type_by_name, type_flow}
use Rattle.cjc_types.specs.Tables.{Breach}
use Rattle.cjc_types.specs.declared.state.State.{State}
use Rattle.cjc_check_proof.specs.NCode.Lowering.Laid.{class_index}
use Rattle.cjc_check_proof.specs.NCode.Written.{Resolution}
use Rattle.cjc_check_proof.specs.NCode.declared.narrow.NCatch.{NCatch}
use Rattle.cjc_check_proof.specs.NarrowProof.Tables.Analysis.{IsDecoded}
use Rattle.cjc_verify.specs.Bodies.{caught_type}
use Rattle.cjc_verify.specs.CardActs.CardTypes.{ValueType}
use Rattle.cjc_verify.specs.Components.Names.{names}
use Rattle.cjc_verify.specs.Components.Package.{LaidMethod, Package, world}
use Rattle.cjc_accepted_proof.specs.Coded.{card_type, is_of}
use Rattle.cjc_accepted_proof.specs.Frames.{IsCaughtAs}
use Rattle.cjc_accepted_proof.specs.Written.{written_pair}
use Rattle.cjc_int_accepted.specs.Served.{IsServed, IsServedIn}

-- Its code was decoded, its type table is closed and breaks no rule, what its reached instructions name is served, and
-- each handler that is laid catches by its index the card's type of the class that the class file's names.
pub record IsServedMethod (p : Package) (r : Resolution) (b : Body) (types : List (Option State)) (result : ValueType)
    (laid : LaidMethod) : Type 0 where
  pub decoded : IsDecoded b
  pub closed : IsClosed (type_flow b) (length b.insns) types
  pub unbroken : (place rule : ℕ) → Breach (world p) b types place rule → ⊥
  pub in_code : IsServedIn (card_type p) (is_of p) (world p) (written_pair p) (names p) r b result
  pub each : (at : ℕ) (i : JInsn) (x : State) → slice_get b.insns at ≡ Some i → HasRow types at x
      → IsServed (card_type p) (is_of p) (world p) (written_pair p) (names p) r b i.op
  pub caught : AllByRecursion (λ (c : NCatch). IsCaughtAs (card_type p) (caught_type (written_pair p) (class_index
      (names p) c.class)) (type_by_name c.class)) (let l = laid.code in l.catches)
