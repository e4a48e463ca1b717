-- What is asked of a method of Method beside the method of a class file that it is written for, so that the type
-- checker accepts its code.
use Rattle.std.specs.Prelude.{◌≡◌, ◌+◌, ◌≤◌, ℕ, List, [], length, map, slice_get, Some}
use Rattle.std.specs.List.{AllZip, Contains}
use Rattle.cjc_types.specs.Bytecode.declared.insn.JInsn.{JInsn}
use Rattle.cjc_types.specs.Cells.{IsCellBelow}
use Rattle.cjc_check_proof.specs.NCode.declared.narrow.NCatch.{NCatch}
use Rattle.cjc_types.specs.Fixpoint.Tables.{HasRow}
use Rattle.cjc_types.specs.Flow.{arguments as arguments_by_name, caught_type as type_by_name}
use Rattle.cjc_types.specs.declared.state.State.{State}
use Rattle.cjc_check_proof.specs.Code.Codes.{code_at}
use Rattle.cjc_check_proof.specs.Code.Written.{AllWritable}
use Rattle.cjc_check_proof.specs.NCode.Lowering.Laid.{class_index}
use Rattle.cjc_check_proof.specs.NCode.Lowering.Placed.{HandlersStand}
use Rattle.cjc_check_proof.specs.TokenProof.Tables.Loading.{components, part}
use Rattle.cjc_frames.specs.Acts.{given}
use Rattle.cjc_verify.specs.Bodies.{Body, arguments, caught_type, type_of_body}
use Rattle.cjc_verify.specs.Components.Methods.{placed_at}
use Rattle.cjc_verify.specs.Components.Names.{names}
use Rattle.cjc_verify.specs.Components.Package.{Package, world}
use Rattle.cjc_accepted_proof.specs.Beside.{Beside, body_by_name, names_in}
use Rattle.cjc_accepted_proof.specs.Coded.{card_type, is_of}
use Rattle.cjc_accepted_proof.specs.Frames.{IsCaughtAs, card_cells}
use Rattle.cjc_accepted_proof.specs.Served.{IsServed, IsServedIn}
use Rattle.cjc_accepted_proof.specs.Written.{written_pair}

module _ (p : Package) (m : Beside) where
  -- Each handler that is laid catches by its index the card's type of the class that its class file's names.
  abbrev pub CatchesAreNamed : Type 0
  CatchesAreNamed = (c : NCatch) → (let laid = m.laid in let code = laid.code in Contains code.catches c)
      → IsCaughtAs (card_type p) (caught_type (written_pair p) (class_index (names p) c.class)) (type_by_name c.class)

  -- What its reached instructions name is served.
  pub record IsServedAll : Type 0 where
    pub in_code : IsServedIn (card_type p) (is_of p) (world p) (written_pair p) (names p) (names_in p m)
        (body_by_name m)
        m.result
    pub each : (at : ℕ) (i : JInsn) (x : State) → (let code = m.code in slice_get code.insns at ≡ Some i)
        → HasRow m.rows at x → IsServed (card_type p) (is_of p) (world p) (written_pair p) (names p) (names_in p m)
        (body_by_name m) i.op

  -- What the type checker reads of it is what is laid and what its class file says: its instructions, the words of its
  -- stack and of its locals, its result and its arguments.
  pub record IsReadAs (v : Body) : Type 0 where
    pub instructions : v.instructions ≡ (let c = code_at (names p) m.offset m.laid in c.instructions)
    pub max_stack : (let h = v.header in h.max_stack) ≡ (let tree = m.tree in tree.max_stack)
    pub locals : (let h = v.header in h.nargs + h.max_locals) ≡ (let tree = m.tree in tree.max_locals)
    pub result : (let t = type_of_body (components p) v in t.result) ≡ m.result
    pub arguments : AllZip IsCellBelow (map (given [] []) (arguments (components p) v)) (card_cells (card_type p)
        (arguments_by_name (body_by_name m)))
    pub room : (let tree = m.tree in length (arguments_by_name (body_by_name m)) ≤ tree.max_locals)

  -- All of that, where its handlers stand in the table of Method.
  pub record IsChecked (v : Body) : Type 0 where
    pub read : IsReadAs v
    pub served : IsServedAll
    pub writable : AllWritable (names p) p.methods
    pub handlers : HandlersStand (names p) (placed_at m.offset m.laid) (part p)
    pub catches : CatchesAreNamed
