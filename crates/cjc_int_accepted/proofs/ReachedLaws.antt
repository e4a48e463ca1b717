-- A reached instruction of a method with room for int mode, by a table without a broken rule.
use Rattle.std.proofs.Common.{◌≡◌, ℕ, zero, suc, ◌+◌, ◌<◌, ◌≤◌, refl, sym, ap, subst, ◌∙◌, arith, Bool, true, false}
use Rattle.std.proofs.Common.{List, [], ◌∷◌, length, slice_get, Option, Some}
use Rattle.std.specs.Prelude.{◌||◌, nat_le, nat_lt, if◌then◌else◌}
use Rattle.std.specs.List.{AllZip}
use Rattle.std.proofs.lemmas.Bool.{false_from_ne_true, ltb-false}
use Rattle.std.proofs.lemmas.Bool.Decides.{nat_tests}
use Rattle.cjc_types.proofs.BytesGets.{get_below, get_inside}
use Rattle.cjc_types.specs.Bytecode.declared.insn.JInsn.{JInsn}
use Rattle.cjc_types.specs.Cells.{IsCellBelow}
use Rattle.cjc_types.specs.Fixpoint.Tables.{Covers, HasRow, IsClosed}
use Rattle.cjc_types.specs.Flow.{Body, type_flow}
use Rattle.cjc_types.specs.Rules.{clash, has_wrong, has_wrong_local, is_off, is_wrong, is_wrong_return, off, wrong}
use Rattle.cjc_types.specs.States.{IsStackBelow, most_cells, stack_of}
use Rattle.cjc_types.specs.Steps.{after, goes_on, stack_behind, takes}
use Rattle.cjc_types.specs.Tables.{Breach}
use Rattle.cjc_types.specs.World.Classes.{Class}
use Rattle.cjc_types.specs.declared.cell.Cell.{Cell}
use Rattle.cjc_types.specs.declared.cell.Cell.TheVariants.{Number, Refs, Unusable}
use Rattle.cjc_types.specs.declared.state.Stack.{Stack}
use Rattle.cjc_types.specs.declared.state.Stack.TheVariants.{Cells, Clash}
use Rattle.cjc_types.specs.declared.state.State.{State}
use Rattle.cjc_check_proof.specs.NarrowProof.Tables.Analysis.{IsDecoded}
use Rattle.cjc_accepted_proof.proofs.EdgesLaws.{falls_to}
use Rattle.cjc_int_mode.specs.Room.{IsRoom}
use Rattle.cjc_int_mode.specs.Written.{written_in_int_mode}
use Rattle.cjc_int_mode.specs.declared.modes.Mode.TheVariants as modes
use Rattle.cjc_int_accepted.specs.Reached.{IsRight}
use Rattle.cjc_int_accepted.specs.Runs.{most_words}
use Rattle.cjc_int_accepted.specs.Selection.{IsLaid, RowsStand, front_of, label_in, room_of, selected}
use Rattle.cjc_int_accepted.specs.Methods.{IsWrittenInIntMode}
use Rattle.cjc_int_accepted.proofs.SelectionLaws.{are_labelled, code_is, placed_at, room_low, room_usable}
use Rattle.cjc_frames.specs.Acts.{Subtype}
use Rattle.cjc_frames.specs.Flow.{Body as CardBody}
use Rattle.cjc_frames.specs.declared.acts.Step.{Step}
use Rattle.cjc_check_proof.specs.NarrowProof.Tables.Analysis.{Ascend}
use Rattle.cjc_accepted_proof.specs.Frames.{AreFew}
use Rattle.cjc_ncode.specs.Written.{Resolution}
use Rattle.cjc_ncode.specs.declared.narrow.NInsn.{NInsn}
use Rattle.cjc_intervals.specs.Frames.{RangeState}
use Rattle.cjc_types.specs.ClassFile.Code.{CodeTree}

-- above an unusable cell is none but an unusable one
above_unusable : (y : Cell) → IsCellBelow Unusable y → y ≡ Unusable
above_unusable Number h = absurd h
above_unusable (Refs names) h = absurd h
above_unusable Unusable h = refl

unusable_above : (xs ys : List Cell) → AllZip IsCellBelow xs ys → (k : ℕ) → slice_get xs k ≡ Some Unusable → slice_get
    ys k ≡ Some Unusable
unusable_above [] ys h k e = absurd cc
unusable_above (x ∷ xs) [] h k e = absurd h
unusable_above (x ∷ xs) (y ∷ ys) h zero e =
    let same : x ≡ Unusable = cc in
    ap (λ z. Some z) (above_unusable y (subst (λ z. IsCellBelow z y) same h.0))
unusable_above (x ∷ xs) (y ∷ ys) h (suc k) e = unusable_above xs ys h.1 k e

three : (a b c : Bool) → (a || b || c) ≡ false → (a ≡ false) × ((b ≡ false) × (c ≡ false))
three true b c e = absurd cc
three false true c e = absurd cc
three false false c e = (refl, (refl, e))

module _ (w : List Class) (b : Body) (rows : List (Option State)) (decoded : IsDecoded b)
    (table : IsClosed (type_flow b) (length b.insns) rows)
    (clean : (place rule : ℕ) → Breach w b rows place rule → ⊥) (room : IsRoom b rows modes.Int true) where
  -- before a reached instruction is a stack of cells
  has_cells : (at : ℕ) (i : JInsn) (x : State) → slice_get b.insns at ≡ Some i → HasRow rows at x → (s : List Cell)
      × (x.stack ≡ Cells s)
  has_cells at i x there row = by x.stack refl row
    where
      by : (t : Stack) → x.stack ≡ t → HasRow rows at (record { stack = t; locals = x.locals }) → (s : List Cell)
          × (x.stack ≡ Cells s)
      by (Cells s) e h = (s, e)
      by Clash e h = absurd (clean at 501 (record {
        insn = i;
        is_insn = there;
        state = record { stack = Clash; locals = x.locals };
        reached = h;
        breaks = clash x.locals;
      }))

  -- the next one knows of the frame behind it
  falls : (at : ℕ) (i : JInsn) (x : State) → slice_get b.insns at ≡ Some i → HasRow rows at x → goes_on i.op ≡ true
      → Covers (type_flow b) rows (at + 1) (after i.op x)
  falls at i x there row goes =
      let same : suc at ≡ at + 1 = omega arith in
      subst (λ n. Covers (type_flow b) rows n (after i.op x)) same (falls_to b rows decoded table at i x there row goes)

  -- no cell behind it is unusable where another may follow
  behind_usable : (at : ℕ) (i : JInsn) (x : State) → slice_get b.insns at ≡ Some i → HasRow rows at x → (s : List Cell)
      → x.stack ≡ Cells s → length (stack_behind i.op x.locals s) ≤ b.max_stack → goes_on i.op ≡ true → (k : ℕ)
      → slice_get (stack_behind i.op x.locals s) k ≡ Some Unusable → ⊥
  behind_usable at i x there row s is few goes k e =
      let covered = falls at i x there row goes in
      let y = covered.row in
      let next = get_inside b.insns (at + 1) (decoded.next at i there goes) in
      let cells = has_cells (at + 1) next.0 y next.1 covered.is_row in
      let low = room_low b rows room in
      let high : nat_le (length (stack_behind i.op x.locals s)) most_cells ≡ true = (let most = most_cells in
      let le : most_words b.max_stack ≤ most = low in grind (arith, nat_tests, le, few)) in
      let known : stack_of (stack_behind i.op x.locals s) ≡ Cells (stack_behind i.op x.locals s) = ap (λ (g : Bool). if
      g then Cells (stack_behind i.op x.locals s) else Clash) high in
      let after_is : (let z = after i.op x in z.stack) ≡ Cells (stack_behind i.op x.locals s) = ap (λ (t : Stack).
      (let z = after i.op (record { stack = t; locals = x.locals }) in z.stack)) is ∙ known in
      let under : IsStackBelow (Cells (stack_behind i.op x.locals s)) (Cells cells.0) = subst (λ (t : Stack).
      IsStackBelow t (Cells cells.0)) after_is (subst (λ (t : Stack). IsStackBelow (let z = after i.op x in z.stack) t)
      cells.1 covered.above.0) in
      room_usable b rows room (at + 1) y covered.is_row cells.0 cells.1 k (unusable_above (stack_behind i.op x.locals s)
      cells.0 under k e)

  pub is_right : (at : ℕ) (i : JInsn) (x : State) → slice_get b.insns at ≡ Some i → HasRow rows at x → IsRight w b i.op
      x
  is_right at i x there row = by (has_cells at i x there row)
    where
      by : (s : List Cell) × (x.stack ≡ Cells s) → IsRight w b i.op x
      by (s, e) =
          let known : HasRow rows at (record { stack = Cells s; locals = x.locals }) = subst (λ (t : Stack). HasRow rows
          at (record { stack = t; locals = x.locals })) e row in
          let not_wrong : is_wrong w b i.op x.locals s ≡ false = false_from_ne_true (is_wrong w b i.op x.locals s)
          (λ h. clean at 502 (record {
            insn = i;
            is_insn = there;
            state = record { stack = Cells s; locals = x.locals };
            reached = known;
            breaks = wrong s x.locals h;
          })) in
          let not_off : is_off b i.op x.locals s ≡ false = false_from_ne_true (is_off b i.op x.locals s) (λ h. clean at
          503 (record {
            insn = i;
            is_insn = there;
            state = record { stack = Cells s; locals = x.locals };
            reached = known;
            breaks = off s x.locals h;
          })) in
          let right = three (has_wrong w b i.op (takes i.op) 0 s) (has_wrong_local i.op x.locals) (is_wrong_return b
          i.op) not_wrong in
          let heights = three (nat_lt (length s) (takes i.op)) (nat_lt b.max_stack (length s)) (nat_lt b.max_stack
          (length (stack_behind i.op x.locals s))) not_off in
          let few : length (stack_behind i.op x.locals s) ≤ b.max_stack = ltb-false b.max_stack (length (stack_behind
          i.op x.locals s)) heights.1.1 in
          record {
            stack = s;
            is = e;
            on = record {
              enough = ltb-false (length s) (takes i.op) heights.0;
              before = ltb-false b.max_stack (length s) heights.1.0;
              behind = few;
              usable = behind_usable at i x there row s e few;
            };
            operands = right.0;
            local = right.1.0;
            result = right.1.1;
          }

  -- nor is a stack too high
  pub is_short : (at : ℕ) (x : State) → HasRow rows at x → (s : List Cell) → x.stack ≡ Cells s → length s ≤ b.max_stack
  is_short at x row s is =
      let lt = get_below rows at (Some x) row in
      let sized = table.sized in
      let insn = get_inside b.insns at (omega (arith, lt, sized)) in
      let right = is_right at insn.0 x insn.1 row in
      let both = sym right.is ∙ is in
      let same : right.stack ≡ s = cc in
      let on = right.on in
      subst (λ (z : List Cell). length z ≤ b.max_stack) same on.before

-- ---- a method of the card

module _ (card_type : List ℕ → Option (List ℕ)) (is_of : Subtype) (r : Resolution) (b : Body)
    (types : List (Option State)) (ranges : List (Option RangeState)) (step : (label : ℕ) → NInsn → Step) (to : ℕ → ℕ)
    (c : CardBody) (code : CodeTree) where
  -- that reads the narrow code of one of a class file, where its rows stand and no stack is too high
  pub is_written_low : AreFew card_type → 0 < length b.insns → Ascend b.insns → IsRoom b types modes.Int true
      → code.max_stack ≡ b.max_stack → IsLaid r b types ranges step to c code → ((at : ℕ) (x : State) → HasRow types at x
      → (s : List Cell) → x.stack ≡ Cells s → length s ≤ b.max_stack) → RowsStand r b types ranges step to c card_type
      is_of → IsWrittenInIntMode card_type is_of (room_of b types ranges) (selected r b types ranges step) b types
      (label_in r b types ranges) to c (front_of r b types ranges step)
  is_written_low few some up has_room stack laid short rows =
      let room = room_of b types ranges in
      let locals = laid.locals in
      record {
        few = few;
        low = room_low b types has_room;
        some = some;
        steps = laid.steps ∙ code_is card_type room r b types ranges step code;
        labels = are_labelled card_type room r b types ranges step up;
        at = λ k s e. placed_at step to (let w = written_in_int_mode r code b types ranges in w.insns) laid.at k s (ap
            (λ (ss : List Step). slice_get ss k) (sym laid.steps) ∙ e);
        ascends = laid.ascends;
        locals = omega (arith, locals);
        max_stack = laid.max_stack ∙ ap most_words stack;
        begins = rows.begins;
        usable = room_usable b types has_room;
        stand = rows.stand;
        short = short;
        handlers = rows.handlers;
      }

  -- none is, where the table breaks no rule
  pub is_written : AreFew card_type → 0 < length b.insns → (w : List Class) → IsDecoded b → IsClosed (type_flow b)
      (length b.insns) types → ((place rule : ℕ) → Breach w b types place rule → ⊥) → IsRoom b types modes.Int true
      → code.max_stack ≡ b.max_stack → IsLaid r b types ranges step to c code → RowsStand r b types ranges step to c
      card_type is_of → IsWrittenInIntMode card_type is_of (room_of b types ranges) (selected r b types ranges step) b
      types (label_in r b types ranges) to c (front_of r b types ranges step)
  is_written few some w decoded table clean has_room stack laid rows = is_written_low few some decoded.ascend has_room
      stack laid (is_short w b types decoded table clean has_room) rows
