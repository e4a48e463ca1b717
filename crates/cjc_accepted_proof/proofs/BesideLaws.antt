-- Methods of Method beside those of class files: their tables of frames are closed and break no rule.
use Rattle.std.proofs.Common.{◌≡◌, ℕ, zero, suc, ◌+◌, ◌<◌, ◌≤◌, refl, sym, ap, subst, ◌∙◌, arith, Bool, true, false}
use Rattle.std.proofs.Common.{List, [], ◌∷◌, ◌++◌, length, map, slice_get, Option, Some}
use Rattle.std.specs.Prelude.{is_some, if◌then◌else◌}
use Rattle.cjc_types.proofs.BytesGets.{get_inside}
use Rattle.cjc_types.specs.Bytes.AccessFlags.{is_static}
use Rattle.cjc_types.specs.Bytecode.declared.insn.JInsn.{JInsn}
use Rattle.cjc_types.specs.Bytecode.declared.method_code.MethodCode.{MethodCode}
use Rattle.cjc_types.specs.Cells.{IsCellBelow}
use Rattle.cjc_types.specs.Fixpoint.Tables.{HasRow}
use Rattle.cjc_types.specs.Flow.{Body as BodyByName, arguments as arguments_by_name}
use Rattle.cjc_types.specs.Types.{parts, value_of}
use Rattle.cjc_types.specs.Working.FlowLaws.{type_laws}
use Rattle.cjc_types.specs.declared.cell.Cell.{Cell}
use Rattle.cjc_types.specs.declared.cell.Cell.TheVariants.{Refs}
use Rattle.cjc_types.specs.declared.state.State.{State}
use Rattle.cjc_check_proof.specs.Code.Codes.{code_at}
use Rattle.cjc_check_proof.specs.NCode.Written.{Resolution, narrow_code}
use Rattle.cjc_check_proof.specs.NCode.declared.narrow.NInsn.{NInsn}
use Rattle.cjc_check_proof.specs.NarrowProof.Tables.Analysis.{IsDecoded}
use Rattle.cjc_check_proof.specs.NarrowProof.Tables.Pairs.{AreInPairs}
use Rattle.cjc_check_proof.specs.TokenProof.Tables.Loading.{components}
use Rattle.cjc_check_proof.proofs.CodeLaws.Places.{label_ascends}
use Rattle.cjc_narrow_proof.proofs.RunsLaws.Pairs.{are_in_pairs}
use Rattle.cjc_narrow_proof.proofs.RunsLaws.Whole.{is_decoded}
use Rattle.cjc_verify.specs.Bodies.{Body, frames_of, step, type_of_body}
use Rattle.cjc_verify.specs.CardActs.CardTypes.{ValueType}
use Rattle.cjc_verify.specs.Components.Names.{names}
use Rattle.cjc_verify.specs.Components.Package.{Package, world}
use Rattle.cjc_verify.specs.Narrow.Pairs.Open.{Open, closed}
use Rattle.cjc_verify.specs.Narrow.Pairs.Roles.{keeps_this}
use Rattle.cjc_frames.specs.Flow.{Body as Frames}
use Rattle.cjc_frames.specs.declared.acts.Step.{Step}
use Rattle.cjc_accepted_proof.specs.Accepted.{HasTable}
use Rattle.cjc_accepted_proof.specs.Beside.{Beside, ConstantsAreNumbers, IsBeside, RowsStandAlone, body_by_name}
use Rattle.cjc_accepted_proof.specs.Beside.{label_in}
use Rattle.cjc_accepted_proof.specs.Beside.{names_in, offset_in, opened_in, plain_names, reached_in, step_in}
use Rattle.cjc_accepted_proof.specs.Blocks.{AreBlocks, Block, frames_of as frames_of_blocks}
use Rattle.cjc_accepted_proof.specs.Checked.{IsChecked, IsServedAll}
use Rattle.cjc_accepted_proof.specs.Coded.{card_type, is_of, is_wide}
use Rattle.cjc_accepted_proof.specs.Methods.{IsWrittenFor, RowStands, blocks_from, steps_from}
use Rattle.cjc_accepted_proof.specs.Served.{IsServed}
use Rattle.cjc_accepted_proof.specs.Written.{written_pair}
use Rattle.cjc_accepted_proof.proofs.BlocksLaws.{breaks_none, closed_table}
use Rattle.cjc_accepted_proof.proofs.CatchesLaws.{handler_for}
use Rattle.cjc_accepted_proof.proofs.EntryLaws.{entry_below}
use Rattle.cjc_accepted_proof.proofs.InstructionsLaws.Within.{number_of, row_within}
use Rattle.cjc_accepted_proof.proofs.KeepsLaws.{kept_object, kept_this, never_open}
use Rattle.cjc_accepted_proof.proofs.MethodsLaws.{are_blocks}
use Rattle.cjc_accepted_proof.proofs.StepsLaws.{steps_are_laid}
use Rattle.cjc_accepted_proof.proofs.ThisLaws.{each_holds, this_below}

module _ (p : Package) (m : Beside) (codes : List MethodCode) (is : IsBeside p m codes) where
  abbrev b : BodyByName
  b = body_by_name m

  -- its code was decoded
  pub beside_decoded : IsDecoded (body_by_name m)
  beside_decoded = is_decoded p.files p.image m.near (record { types = λ x. []; ranges = λ x. [] }) m.code m.class
      m.method m.tree is.is_method

  -- its instructions stand in pairs
  pub beside_pairs : AreInPairs (names_in p m) (body_by_name m) m.rows (opened_in p m)
  beside_pairs = are_in_pairs (plain_names p m) b m.rows beside_decoded.ascend is.least.closed.sized

  -- ---- rows in pairs

  module _ (served : IsServedAll p m) (room : (let tree = m.tree in length (arguments_by_name (body_by_name m))
      ≤ tree.max_locals)) (alone : RowsStandAlone p m) where
    numbers : ConstantsAreNumbers (names_in p m) b m.rows
    numbers at i x f z there row op known = number_of (card_type p) (is_of p) (world p) (written_pair p) (names p)
        (names_in p m) b f z known (subst (λ o. IsServed (card_type p) (is_of p)
        (world p) (written_pair p) (names p) (names_in p m) b o) op (served.each at i x there row))

    -- there is a local where there is a receiver
    some_local : is_static b.flags ≡ false → 0 < b.max_locals
    some_local object =
        let long : 0 < length ((if is_static b.flags then [] else Refs (b.class ∷ []) ∷ []) ++ map value_of
        (let d = parts b.desc in d.params)) = subst (λ v. 0 < length ((if v then [] else Refs (b.class ∷ []) ∷ [])
        ++ map value_of (let d = parts b.desc in d.params))) (sym object) (omega arith) in
        omega (arith, long, room)

    pub rows_stand : (at : ℕ) (i : JInsn) (x : State) → (let code = m.code in slice_get code.insns at ≡ Some i)
        → HasRow m.rows at x
        → (let tree = m.tree in RowStands (card_type p) (is_of p) (names_in p m) (body_by_name m) m.rows (opened_in p m)
        (step_in p m) tree.max_locals tree.max_stack (offset_in p m) at (label_in p m i.at) i x)
    rows_stand at i x there row = by (keeps_this b (map is_some m.rows)) refl
      where
        by : (v : Bool) → keeps_this b (map is_some m.rows) ≡ v
            → (let tree = m.tree in RowStands (card_type p) (is_of p) (names_in p m) (body_by_name m) m.rows
            (opened_in p m) (step_in p m) tree.max_locals tree.max_stack (offset_in p m) at (label_in p m i.at) i x)
        by false e = alone at i x there row (never_open (plain_names p m) b (map is_some m.rows) e at) (never_open
            (plain_names p m) b (map is_some m.rows) e (suc at))
        by true e =
            let object = kept_object b (map is_some m.rows) e in
            let keeps = kept_this b m.rows e in
            let r = names_in p m in
            let opened = opened_in p m in
            let tree = m.tree in
            row_within (card_type p) (is_of p) (world p) b (written_pair p) m.result (names p) r m.rows opened
            (offset_in p m) (is_wide p m.laid) tree.max_locals served.in_code is.unbroken served.each
            (λ k z known. (each_holds (world p) r b m.rows opened is.unbroken beside_pairs keeps numbers is.least object
            k z known).1)
            (λ k z known. (
            let own = is.least.closed.own k z known in
            let locals = own.1 in
            let long = locals.sized in
            let lt = some_local object in
            let c = get_inside z.locals 0 (omega (arith, long, lt)) in (
              c.0,
              c.1,
              this_below (world p) r b m.rows opened is.unbroken beside_pairs keeps numbers is.least object
                  (type_laws b) k z c.0 known c.1,
            )
            ))
            beside_pairs at (label_in p m i.at) i x there row (alone at i x there row)

  -- ---- its table

  module _ (v : Body) (checked : IsChecked p m v) (alone : RowsStandAlone p m) where
    abbrev frames : Frames
    frames = frames_of (written_pair p) v

    abbrev count : ℕ
    count = length (let laid = m.laid in let code = laid.code in code.insns)

    steps_long : (k : ℕ) (xs : List NInsn) → length (steps_from (step_in p m) k xs) ≡ length xs
    steps_long k [] = refl
    steps_long k (x ∷ xs) = ap suc (steps_long (k + 1) xs)

    steps_same : frames.steps ≡ steps_from (step_in p m) 0 (let laid = m.laid in let code = laid.code in code.insns)
    steps_same =
        let laid = m.laid in
        ap (map (step (written_pair p) (let t = type_of_body (components p) v in t.result))) checked.read.instructions
        ∙ ap (λ (t : ValueType). map (step (written_pair p) t) (let c = code_at (names p) m.offset m.laid in
        c.instructions)) checked.read.result
        ∙ steps_are_laid p m.result m.offset m.laid (checked.writable is.number m.laid is.is_laid).count

    pub written_for : IsWrittenFor (card_type p) (is_of p) (names_in p m) (body_by_name m) m.rows (opened_in p m)
        (step_in p m) (frames_of (written_pair p) v) (offset_in p m)
    written_for = record {
      few = checked.served.in_code.few;
      steps = steps_same ∙ ap (steps_from (step_in p m) 0) is.insns;
      at = λ k insn. refl;
      ascends = λ j k lt le. (
          let long = ap length steps_same in
          let same = steps_long 0 (let laid = m.laid in let code = laid.code in code.insns) in
          label_ascends (names p) m.offset m.laid (checked.writable is.number m.laid is.is_laid) j k lt (omega
          (arith, le, long, same))
          );
      locals = checked.read.locals;
      begins = entry_below (card_type p) frames b checked.read.locals checked.read.arguments;
      stand = λ at i x there row. subst (λ n. RowStands (card_type p) (is_of p) (names_in p m) b m.rows (opened_in p m)
          (step_in p m) n frames.max_stack (offset_in p m) at (label_in p m i.at) i x) (sym checked.read.locals)
          (subst (λ n. RowStands (card_type p) (is_of p) (names_in p m) b m.rows (opened_in p m) (step_in p m)
          b.max_locals n (offset_in p m) at (label_in p m i.at) i x) (sym checked.read.max_stack)
          (rows_stand checked.served checked.read.room alone at i x there row));
      handlers = λ at i x there row s within c on cover. handler_for p m codes is checked.writable checked.handlers
          checked.catches at i x there row s within c on cover;
    }

    abbrev blocks : List Block
    blocks = blocks_from (card_type p) (is_of p) (names_in p m) b m.rows (opened_in p m) (step_in p m) 0 0 b.insns
        m.rows

    are : AreBlocks (is_of p) frames blocks
    are = are_blocks (card_type p) (is_of p) (names_in p m) b m.rows (opened_in p m) (step_in p m) frames
        (offset_in p m) written_for beside_decoded beside_pairs is.least.closed

    pub has_table : HasTable p v
    has_table = record {
      rows = map Some (frames_of_blocks blocks);
      closed = closed_table (is_of p) frames blocks are;
      unbroken = breaks_none (is_of p) frames blocks are;
    }

-- ---- a method without code

-- no instruction leaves nothing to show
pub bare_table : (p : Package) (v : Body) → v.instructions ≡ [] → HasTable p v
bare_table p v none =
    let few : length (let f = frames_of (written_pair p) v in f.steps) ≡ 0 = ap (λ is. length (map (step
    (written_pair p)
    (let t = type_of_body (components p) v in t.result)) is)) none in
    record {
      rows = [];
      closed = record {
        sized = sym few;
        own = λ at x row. absurd (nothing at x row);
        entry = λ lt. absurd (omega (arith, lt, few));
        steps = λ at x row e on. absurd (nothing at x row);
      };
      unbroken = λ place rule breach. nothing place breach.state breach.reached;
    }
  where
    nothing : (at : ℕ) (x : State) → HasRow [] at x → ⊥
    nothing at x row = cc
