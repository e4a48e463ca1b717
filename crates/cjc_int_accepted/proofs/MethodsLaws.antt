-- The frames of a method of the card that is written in int mode: its stretches lead to each other.
use Rattle.std.proofs.Common.{◌≡◌, ℕ, zero, suc, ◌+◌, ◌*◌, ◌<◌, ◌≤◌, refl, sym, ap, subst, ◌∙◌, arith}
use Rattle.std.proofs.Common.{Bool, true, false, List, [], ◌∷◌, length, length-append, slice_get}
use Rattle.std.proofs.Common.{Option, Some, None, Contains}
use Rattle.std.specs.Prelude.{◌==◌, nat_le, nat_lt, if◌then◌else◌}
use Rattle.std.specs.List.{AllZip}
use Rattle.std.proofs.lemmas.Bool.{eqb-true}
use Rattle.std.proofs.lemmas.Bool.Decides.{nat_tests}
use Rattle.cjc_types.proofs.BytesGets.{contained, get_below, get_inside, position_there}
use Rattle.cjc_types.specs.Bytecode.declared.insn.JInsn.{JInsn}
use Rattle.cjc_types.specs.Bytecode.declared.insn.JOp.{JOp}
use Rattle.cjc_types.specs.Cells.{IsCellBelow}
use Rattle.cjc_types.specs.Fixpoint.Tables.{Covers, HasRow, IsClosed}
use Rattle.cjc_types.specs.Flow.{Body as BodyByName, caught as caught_by_name, entry as entry_by_name, type_flow}
use Rattle.cjc_types.specs.States.{most_cells, states}
use Rattle.cjc_types.specs.Steps.{after as after_by_name, locals_after, stack_after}
use Rattle.cjc_types.specs.Steps.{stack_behind as behind_by_name}
use Rattle.cjc_types.specs.States.{IsStackBelow, stack_of}
use Rattle.cjc_types.specs.declared.cell.Cell.{Cell}
use Rattle.cjc_verify.specs.Narrow.Pairs.Open.{closed}
use Rattle.cjc_types.specs.declared.state.Stack.{Stack}
use Rattle.cjc_types.specs.declared.state.Stack.TheVariants.{Cells, Clash}
use Rattle.cjc_types.specs.declared.state.State.{State}
use Rattle.cjc_check_proof.specs.NarrowProof.Tables.Analysis.{IsDecoded}
use Rattle.cjc_frames.specs.Acts.{Breaks, Subtype, after}
use Rattle.cjc_frames.specs.Flow.{Body, caught, covers, entry, place_at}
use Rattle.cjc_frames.specs.Working.FlowLaws.{own_entry}
use Rattle.cjc_frames.specs.declared.acts.Catch.{Catch}
use Rattle.cjc_frames.specs.declared.acts.Step.{Step}
use Rattle.cjc_accepted_proof.specs.Blocks.{goes_on}
use Rattle.cjc_accepted_proof.proofs.BlocksLaws.{below_itself, below_through}
use Rattle.cjc_accepted_proof.proofs.EdgesLaws.{falls_to, handled_to, jumps_to}
use Rattle.cjc_accepted_proof.proofs.KindsLaws.{handler_below}
use Rattle.cjc_int_accepted.specs.Frames.{Room, frame_words, int_stack, int_state, stack_words}
use Rattle.cjc_int_accepted.specs.Methods.{AreLabelled, IsWrittenInIntMode, Leads, Selection}
use Rattle.cjc_int_accepted.specs.Methods.{StretchStands, acts_of, out as out_of, stretch_of, stretches_from}
use Rattle.cjc_int_accepted.specs.Methods.{within as within_it}
use Rattle.cjc_int_accepted.specs.Runs.{Runs, most_words, locals_through, stack_through}
use Rattle.cjc_int_accepted.specs.Stretches.{AreStretches, IsAlong, JumpsTo, LeadsTo, Stretch, frame_through}
use Rattle.cjc_int_accepted.specs.Stretches.{frames_along, label_in, out, steps_in, within}
use Rattle.cjc_int_accepted.proofs.FramesLaws.{state_below, state_own}
use Rattle.cjc_int_accepted.proofs.RunsLaws.{IsSoundAt, frame_of, nothing_breaks, sound_along, through_is}
use Rattle.cjc_int_accepted.proofs.StretchesLaws.{label_step, last_along}

module _ (card_type : List ℕ → Option (List ℕ)) (m : Room) (new : Selection) (label : ℕ → ℕ) where
  abbrev made : (place here : ℕ) → List JInsn → List (Option State) → List Stretch
  made place here insns rows = stretches_from card_type m new place here insns rows

  abbrev one : (place here : ℕ) → JInsn → State → Stretch
  one place here i x = stretch_of card_type m new place here i x

  abbrev Labelled : (place here : ℕ) → List JInsn → List (Option State) → Type 0
  Labelled place here insns rows = AreLabelled card_type m new label place here insns rows

  -- the instruction of a stretch, and the stretch of the next one
  pub record IsMade (place here : ℕ) (insns : List JInsn) (rows : List (Option State)) (q : ℕ) (t : Stretch) :
      Type 0 where
    pub index : ℕ
    pub insn : JInsn
    pub is_insn : slice_get insns index ≡ Some insn
    pub state : State
    pub is_row : slice_get rows index ≡ Some (Some state)
    pub is : t ≡ one (place + index) (label insn.at) insn state
    pub stands : here + label_in (made place here insns rows) q ≡ label insn.at
    pub next : (i : JInsn) (x : State) → slice_get insns (suc index) ≡ Some i → slice_get rows (suc index) ≡ Some (Some
        x) → slice_get (made place here insns rows) (suc q) ≡ Some (one (place + suc index) (label i.at) i x)

  first_made : (place here : ℕ) (insns : List JInsn) (rows : List (Option State)) → Labelled place here insns rows
      → (i : JInsn) (x : State) → slice_get insns 0 ≡ Some i → slice_get rows 0 ≡ Some (Some x) → slice_get (made place
      here insns rows) 0 ≡ Some (one place (label i.at) i x)
  first_made place here [] rows labels i x e f = absurd cc
  first_made place here (j ∷ insns) [] labels i x e f = absurd cc
  first_made place here (j ∷ insns) (None ∷ rows) labels i x e f = absurd cc
  first_made place here (j ∷ insns) (Some y ∷ rows) labels i x e f =
      let same : j ≡ i = cc in
      let row : y ≡ x = cc in
      ap (λ n. Some (one place n j y)) labels.0 ∙ ap (λ (v : JInsn). Some (one place (label v.at) v y)) same
      ∙ ap (λ (v : State). Some (one place (label i.at) i v)) row

  is_made : (place here : ℕ) (insns : List JInsn) (rows : List (Option State)) → Labelled place here insns rows → (q :
      ℕ)
      (t : Stretch) → slice_get (made place here insns rows) q ≡ Some t → IsMade place here insns rows q t
  is_made place here [] rows labels q t e = absurd cc
  is_made place here (i ∷ insns) [] labels q t e = absurd cc
  is_made place here (i ∷ insns) (None ∷ rows) labels q t e =
      let r = is_made (suc place) here insns rows labels q t e in
      let j = r.insn in
      let up : suc place + r.index ≡ place + suc r.index = omega arith in
      record {
        index = suc r.index;
        insn = r.insn;
        is_insn = r.is_insn;
        state = r.state;
        is_row = r.is_row;
        is = r.is ∙ ap (λ n. one n (label j.at) j r.state) up;
        stands = r.stands;
        next = λ k x f g. (
            let over : suc place + suc r.index ≡ place + suc (suc r.index) = omega arith in
            r.next k x f g ∙ ap (λ n. Some (one n (label k.at) k x)) over
            );
      }
  is_made place here (i ∷ insns) (Some x ∷ rows) labels zero t e =
      let same : one place here i x ≡ t = cc in
      let none : place ≡ place + 0 = omega arith in
      let stands : here + 0 ≡ label i.at = (let l = labels.0 in omega (arith, l)) in
      record {
        index = 0;
        insn = i;
        is_insn = refl;
        state = x;
        is_row = refl;
        is = sym same ∙ ap (λ n. one place n i x) labels.0 ∙ ap (λ n. one n (label i.at) i x) none;
        stands = stands;
        next = λ k y f g. (
            let up : suc place ≡ place + 1 = omega arith in
            first_made (suc place) (here + length (new place here i x)) insns rows labels.1 k y f g ∙ ap (λ n. Some (one
            n (label k.at) k y)) up
            );
      }
  is_made place here (i ∷ insns) (Some x ∷ rows) labels (suc q) t e =
      let r = is_made (suc place) (here + length (new place here i x)) insns rows labels.1 q t e in
      let j = r.insn in
      let stands = r.stands in
      let up : suc place + r.index ≡ place + suc r.index = omega arith in
      record {
        index = suc r.index;
        insn = r.insn;
        is_insn = r.is_insn;
        state = r.state;
        is_row = r.is_row;
        is = r.is ∙ ap (λ n. one n (label j.at) j r.state) up;
        stands = omega (arith, stands);
        next = λ k y f g. (
            let over : suc place + suc r.index ≡ place + suc (suc r.index) = omega arith in
            r.next k y f g ∙ ap (λ n. Some (one n (label k.at) k y)) over
            );
      }

  -- the stretch of a reached instruction stands at the label of its offset
  pub record IsStretchOf (place here : ℕ) (insns : List JInsn) (rows : List (Option State)) (index : ℕ) (i : JInsn)
      (x : State) : Type 0 where
    pub q : ℕ
    pub there : slice_get (made place here insns rows) q ≡ Some (one (place + index) (label i.at) i x)
    pub stands : here + label_in (made place here insns rows) q ≡ label i.at

  stretch_there : (place here : ℕ) (insns : List JInsn) (rows : List (Option State)) → Labelled place here insns rows
      → (index : ℕ) (i : JInsn) (x : State) → slice_get insns index ≡ Some i → slice_get rows index ≡ Some (Some x)
      → IsStretchOf place here insns rows index i x
  stretch_there place here [] rows labels index i x e f = absurd cc
  stretch_there place here (j ∷ insns) [] labels index i x e f = absurd cc
  stretch_there place here (j ∷ insns) (None ∷ rows) labels zero i x e f = absurd cc
  stretch_there place here (j ∷ insns) (None ∷ rows) labels (suc index) i x e f =
      let r = stretch_there (suc place) here insns rows labels index i x e f in
      let up : suc place + index ≡ place + suc index = omega arith in
      record { q = r.q; there = r.there ∙ ap (λ n. Some (one n (label i.at) i x)) up; stands = r.stands }
  stretch_there place here (j ∷ insns) (Some y ∷ rows) labels zero i x e f =
      let same : j ≡ i = cc in
      let none : place ≡ place + 0 = omega arith in
      let l = labels.0 in
      let at = ap (λ (v : JInsn). label v.at) same in
      record {
        q = 0;
        there = first_made place here (j ∷ insns) (Some y ∷ rows) labels i x e f ∙ ap (λ n. Some (one n (label i.at) i
            x))
            none;
        stands = omega (arith, l, at);
      }
  stretch_there place here (j ∷ insns) (Some y ∷ rows) labels (suc index) i x e f =
      let r = stretch_there (suc place) (here + length (new place here j y)) insns rows labels.1 index i x e f in
      let up : suc place + index ≡ place + suc index = omega arith in
      let stands = r.stands in
      record {
        q = suc r.q;
        there = r.there ∙ ap (λ n. Some (one n (label i.at) i x)) up;
        stands = omega (arith, stands);
      }

-- ---- a row

-- a stack that is cut where it is too high is above
stack_cut : (card_type : List ℕ → Option (List ℕ)) (xs ys : List Cell) → AllZip IsCellBelow xs (stack_words card_type
    ys)
    → IsStackBelow (Cells xs) (int_stack card_type (stack_of ys))
stack_cut card_type xs ys h = by (nat_le (length ys) most_cells)
  where
    by : (b : Bool) → IsStackBelow (Cells xs) (int_stack card_type (if b then Cells ys else Clash))
    by true = h
    by false = tt

module _ (card_type : List ℕ → Option (List ℕ)) (is_of : Subtype) (m : Room) (max_stack count : ℕ)
    (low : most_words max_stack ≤ most_cells) (op : JOp) (steps : List Step) (x : State) (s : List Cell)
    (stack : x.stack ≡ Cells s) (runs : Runs card_type is_of m max_stack op (acts_of steps) x.locals s) where
  abbrev ls : List Cell
  ls = x.locals

  abbrev words : State
  words = frame_of (frame_words card_type m x.locals) (stack_words card_type s)

  mode_is : int_state card_type m x ≡ words
  mode_is = ap (λ (t : Stack). record {
    stack = int_stack card_type t;
    locals = frame_words card_type m x.locals;
  }) stack

  after_is_by_name : after_by_name op x ≡ record {
    stack = stack_of (behind_by_name op x.locals s);
    locals = locals_after op x.locals (Cells s);
  }
  after_is_by_name = ap (λ (t : Stack). record {
    stack = stack_after op x.locals t;
    locals = locals_after op x.locals t;
  }) stack

  -- the frame behind all lies below the one behind the instruction
  pub row_arrives : (let l = states count in l.Below (frame_through steps (int_state card_type m x)) (int_state
      card_type m
      (after_by_name op x)))
  row_arrives =
      let through : frame_through steps (int_state card_type m x) ≡ frame_of (locals_through (acts_of steps)
      (frame_words
      card_type m x.locals) (stack_words card_type s)) (stack_through (acts_of steps) (frame_words card_type m x.locals)
      (stack_words card_type s)) = ap (frame_through steps) mode_is ∙ through_is is_of (most_words max_stack) low
      (frame_words card_type m x.locals) steps (frame_words card_type m x.locals) (stack_words card_type s) runs.sound
      in
      subst (λ (y : State). let l = states count in l.Below y (int_state card_type m (after_by_name op x))) (sym
      through)
      (subst (λ (z : State). let l = states count in l.Below (frame_of (locals_through (acts_of steps) (frame_words
      card_type m x.locals) (stack_words card_type s)) (stack_through (acts_of steps) (frame_words card_type m x.locals)
      (stack_words card_type s))) (int_state card_type m z)) (sym after_is_by_name) (
        stack_cut card_type (stack_through (acts_of steps) (frame_words card_type m x.locals) (stack_words card_type s))
            (behind_by_name op x.locals s) runs.stack_below,
        runs.locals_below,
      ))

  -- what holds before each of them
  pub row_along : (index : ℕ) (t : Step) (y : State) → IsAlong (record {
    steps = steps;
    before = int_state card_type m x;
  }) index t y → IsSoundAt is_of (most_words max_stack) low (frame_words card_type m x.locals) t y
  row_along index t y along = sound_along is_of (most_words max_stack) low (frame_words card_type m x.locals) steps
      (frame_words card_type m x.locals) (stack_words card_type s) runs.sound index t y along.step (subst (λ (z :
      State).
      slice_get (frames_along steps z) index ≡ Some y) mode_is along.frame)

-- ---- a method

label_few : (ts : List Stretch) (q : ℕ) → label_in ts q ≤ length (steps_in ts)
label_few [] zero = omega arith
label_few (t ∷ ts) zero = omega arith
label_few [] (suc q) = omega arith
label_few (t ∷ ts) (suc q) = let rest = label_few ts q in let long = length-append t.steps (steps_in ts) in omega (
  arith,
  rest,
  long,
)

module _ (card_type : List ℕ → Option (List ℕ)) (is_of : Subtype) (m : Room) (new : Selection) (b : BodyByName)
    (rows : List (Option State)) (label to : ℕ → ℕ) (c : Body) (front : List Step) (is : IsWrittenInIntMode card_type
    is_of m new b rows label to c front) (decoded : IsDecoded b) (table : IsClosed (type_flow b) (length b.insns) rows)
  where
    abbrev count : ℕ
    count = c.local_count

    abbrev Under : State → State → Type 0
    Under x y = let s = states count in s.Below x y

    abbrev Owned : State → Type 0
    Owned x = let s = states count in s.Own x

    abbrev mode : State → State
    mode x = int_state card_type m x

    abbrev beginning : Stretch
    beginning = record { steps = front; before = entry c }

    abbrev later : List Stretch
    later = stretches_from card_type m new 0 (length front) b.insns rows

    abbrev pub all_stretches : List Stretch
    all_stretches = beginning ∷ later

    abbrev stretch : (at : ℕ) → JInsn → State → Stretch
    stretch at i x = stretch_of card_type m new at (label i.at) i x

    -- ---- the reached instruction of a stretch

    pub record IsOf (q : ℕ) (t : Stretch) : Type 0 where
      pub at : ℕ
      pub insn : JInsn
      pub is_insn : slice_get b.insns at ≡ Some insn
      pub state : State
      pub is_row : HasRow rows at state
      pub is_stretch : t ≡ stretch at insn state
      pub stands : label_in all_stretches (suc q) ≡ label insn.at
      pub next : (i : JInsn) (x : State) → slice_get b.insns (suc at) ≡ Some i → HasRow rows (suc at) x → slice_get
          later
          (suc q) ≡ Some (stretch (suc at) i x)

    of_stretch : (q : ℕ) (t : Stretch) → slice_get later q ≡ Some t → IsOf q t
    of_stretch q t e =
        let r = is_made card_type m new label 0 (length front) b.insns rows is.labels q t e in
        let i = r.insn in
        let none : 0 + r.index ≡ r.index = omega arith in
        let stands = r.stands in
        record {
          at = r.index;
          insn = i;
          is_insn = r.is_insn;
          state = r.state;
          is_row = r.is_row;
          is_stretch = r.is ∙ ap (λ n. stretch n i r.state) none;
          stands = stands;
          next = λ j x f g. (
              let up : 0 + suc r.index ≡ suc r.index = omega arith in
              r.next j x f g ∙ ap (λ n. Some (stretch n j x)) up
              );
        }

    -- a frame leads to the label of a place where the table knows no more
    lead : (place : ℕ) (i : JInsn) (y z : State) → Covers (type_flow b) rows place y → slice_get b.insns place ≡ Some i
        → Under z (mode y) → LeadsTo count all_stretches (label i.at) z
    lead place i y z covered there below =
        let x = covered.row in
        let t = stretch_there card_type m new label 0 (length front) b.insns rows is.labels place i x there
        covered.is_row
        in
        let stands = t.stands in
        let same : 0 + place ≡ place = omega arith in
        record {
          place = suc t.q;
          stretch = stretch (0 + place) i x;
          there = t.there;
          is = stands;
          below = below_through count z (mode y) (mode x) below (state_below card_type m count y x covered.above
              (is.usable
              place x covered.is_row));
        }

    -- ---- labels

    steps_are : c.steps ≡ steps_in all_stretches
    steps_are = is.steps

    -- labels with one offset are one
    same_place : (j k : ℕ) → j ≤ length c.steps → k ≤ length c.steps → to j ≡ to k → j ≡ k
    same_place j k jl kl e = by (nat_lt j k) refl (nat_lt k j) refl
      where
        by : (u : Bool) → nat_lt j k ≡ u → (v : Bool) → nat_lt k j ≡ v → j ≡ k
        by true f v g = let lt : j < k = grind (arith, nat_tests, f) in let up = is.ascends j k lt kl in absurd (omega (
          arith,
          up,
          e,
        ))
        by false f true g = let lt : k < j = grind (arith, nat_tests, g) in let up = is.ascends k j lt jl in absurd
            (omega (
              arith,
              up,
              e,
            ))
        by false f false g = grind (arith, nat_tests, f, g)

    -- a label that is found for an offset is the offset's
    found_at : (offset lab k : ℕ) → k ≤ length c.steps → offset ≡ to k → place_at c.steps offset ≡ Some lab → k ≡ lab
    found_at offset lab k le is_offset found =
        let p = position_there (λ (s : Step). s.at == offset) c.steps lab found in
        let lt = get_below c.steps lab p.0 p.1 in
        let at_lab : (let q = p.0 in q.at) ≡ to lab = is.at lab p.0 p.1 in
        let at_offset : (let q = p.0 in q.at) ≡ offset = eqb-true (let q = p.0 in q.at) offset p.2 in
        same_place k lab le (omega (arith, lt)) (sym is_offset ∙ sym at_offset ∙ at_lab)

    -- the label of a reached instruction is one of the code
    label_inside : (place : ℕ) (i : JInsn) (x : State) → slice_get b.insns place ≡ Some i → HasRow rows place x → label
        i.at
        ≤ length c.steps
    label_inside place i x there row =
        let t = stretch_there card_type m new label 0 (length front) b.insns rows is.labels place i x there row in
        let stands = t.stands in
        let few = label_few later t.q in
        let long = length-append front (steps_in later) in
        let all = ap length steps_are in
        omega (arith, stands, few, long, all)

    -- ---- the stretches

    module _ (q : ℕ) (t : Stretch) (e : slice_get later q ≡ Some t) where
      abbrev o : IsOf q t
      o = of_stretch q t e

      stands_here : StretchStands card_type is_of m new b rows label to count (let v = o in v.at) (let v = o in let i =
          v.insn in label i.at) (let v = o in v.insn) (let v = o in v.state)
      stands_here = let v = o in is.stand v.at v.insn v.state v.is_insn v.is_row

      -- the frame behind
      arrives : (let v = o in let i = v.insn in Under (frame_through t.steps t.before) (mode (after_by_name i.op
          v.state)))
      arrives =
          let v = o in
          let i = v.insn in
          let x = v.state in
          let s = stands_here in
          subst (λ (u : Stretch). Under (frame_through u.steps u.before) (mode (after_by_name i.op x))) (sym
          v.is_stretch)
          (row_arrives card_type is_of m b.max_stack count is.low i.op (new v.at (label i.at) i x) x s.stack s.is
          s.runs)

      -- what holds before an instruction
      sound_at : (index : ℕ) (s : Step) (y : State) → IsAlong t index s y → (let v = o in let x = v.state in IsSoundAt
          is_of
          (most_words b.max_stack) is.low (frame_words card_type m x.locals) s y)
      sound_at index s y along =
          let v = o in
          let i = v.insn in
          let x = v.state in
          let k = stands_here in
          row_along card_type is_of m b.max_stack count is.low i.op (new v.at (label i.at) i x) x k.stack k.is k.runs
          index s
          y (subst (λ (u : Stretch). IsAlong u index s y) v.is_stretch along)

      unbroken_in : (index : ℕ) (s : Step) (y : State) → IsAlong t index s y → (rule : ℕ) → Breaks is_of c.max_stack
          s.act y
          rule → ⊥
      unbroken_in index s y along rule breaks =
          let r = sound_at index s y along in
          nothing_breaks is_of (most_words b.max_stack) is.low s.act r.locals r.stack r.sound y r.is rule (subst (λ n.
          Breaks
          is_of n s.act y rule) is.max_stack breaks)

      own_in : Owned t.before
      own_in =
          let v = o in
          let x = v.state in
          let own = state_own card_type m is.few b.max_locals (2 * b.max_stack) x (table.own v.at x v.is_row) (λ s f. (
          let le = is.short v.at x v.is_row s f in
          omega (arith, le)
          )) (let low = is.low in omega (arith, low)) in
          subst (λ (u : Stretch). Owned u.before) (sym v.is_stretch) (subst (λ n. let l = states n in l.Own (mode x))
          (sym
          is.locals) own)

      next_of : goes_on t.steps ≡ true → (n : Stretch) × (slice_get all_stretches (suc (suc q)) ≡ Some n) × Under
          (frame_through t.steps t.before) n.before
      next_of goes =
          let v = o in
          let i = v.insn in
          let x = v.state in
          let s = stands_here in
          let on = s.falls (ap (λ (u : Stretch). goes_on u.steps) (sym v.is_stretch) ∙ goes) in
          let d = falls_to b rows decoded table v.at i x v.is_insn v.is_row on in
          let y = d.row in
          let lt = decoded.next v.at i v.is_insn on in
          let j = get_inside b.insns (suc v.at) (omega (arith, lt)) in (
            stretch (suc v.at) j.0 y,
            v.next j.0 y j.1 d.is_row,
            below_through count (frame_through t.steps t.before) (mode (after_by_name i.op x)) (mode y) arrives
                (state_below
                card_type m count (after_by_name i.op x) y d.above (is.usable (suc v.at) y d.is_row)),
          )

      among : (index : ℕ) (s : Step) (y : State) → IsAlong t index s y → (let v = o in let i = v.insn in Contains (new
          v.at
          (label i.at) i v.state) s)
      among index s y along =
          let v = o in
          let i = v.insn in
          subst (λ (u : Stretch). Contains u.steps s) v.is_stretch (contained t.steps index s along.step)

      handled_in : (index : ℕ) (s : Step) (y : State) → IsAlong t index s y → (h : Catch) → Contains c.catches h →
          covers h
          s.at ≡ true → (lab : ℕ) → place_at c.steps h.target ≡ Some lab → LeadsTo count all_stretches lab (caught h y)
      handled_in index s y along h on cover lab found =
          let v = o in
          let i = v.insn in
          let x = v.state in
          let f = is.handlers v.at i x v.is_insn v.is_row s (among index s y along) h on cover in
          let d = f.catch in
          let p = decoded.handlers d f.listed in
          let r = p.1 in
          let n = r.insn in
          let g = handled_to b rows decoded table v.at i x v.is_insn v.is_row d f.listed f.covers p.0 r.found in
          let k = sound_at index s y along in
          let target : h.target ≡ to (label n.at) = f.target ∙ ap (λ z. to (label z)) (sym r.stands) in
          let same = found_at h.target lab (label n.at) (label_inside p.0 n g.row r.is_insn g.is_row) target found in
          let below = handler_below card_type closed count h d f.caught x in
          let locals : AllZip IsCellBelow y.locals (frame_words card_type m x.locals) = subst (λ (z : State). AllZip
          IsCellBelow z.locals (frame_words card_type m x.locals)) (sym k.is) k.below in
          subst (λ l. LeadsTo count all_stretches l (caught h y)) same (lead p.0 n (caught_by_name d x) (caught h y) g
          r.is_insn (below.0, locals))

      jumps_in : (index : ℕ) (s : Step) (y : State) → IsAlong t index s y → (offset lab : ℕ) → Contains (let a = s.act
          in
          a.targets) offset → place_at c.steps offset ≡ Some lab → JumpsTo count all_stretches (suc q) t lab (after
          s.act y)
      jumps_in index s y along offset lab on found =
          let v = o in
          let i = v.insn in
          let x = v.state in
          let k = stands_here in
          by (k.jumps index s y (subst (λ (u : Stretch). IsAlong u index s y) v.is_stretch along) offset on)
        where
          -- behind the last instruction is the frame behind all
          last_is : suc index ≡ length t.steps → after s.act y ≡ frame_through t.steps t.before
          last_is last = let r = last_along t.steps t.before index s y along.step along.frame last in r.0

          by : (let v = o in let i = v.insn in let x = v.state in Leads label to count (label i.at) (stretch v.at i x) i
              index s y offset) → JumpsTo count all_stretches (suc q) t lab (after s.act y)
          by (out_of last target among_targets is_offset) =
              let v = o in
              let i = v.insn in
              let x = v.state in
              let p = decoded.targets v.at i target v.is_insn among_targets in
              let r = p.1 in
              let n = r.insn in
              let g = jumps_to b rows decoded table v.at i x v.is_insn v.is_row target p.0 among_targets r.found in
              let at : offset ≡ to (label n.at) = is_offset ∙ ap (λ z. to (label z)) (sym r.stands) in
              let same = found_at offset lab (label n.at) (label_inside p.0 n g.row r.is_insn g.is_row) at found in
              let all : suc index ≡ length t.steps = last ∙ ap (λ (u : Stretch). length u.steps) (sym v.is_stretch) in
              out (subst (λ l. LeadsTo count all_stretches l (after s.act y)) same (lead p.0 n (after_by_name i.op x)
              (after
              s.act y) g r.is_insn (subst (λ (z : State). Under z (mode (after_by_name i.op x))) (sym (last_is all))
              arrives)))
          by (within_it other u z is_there is_offset below) =
              let v = o in
              let i = v.insn in
              let x = v.state in
              let there = subst (λ (d : Stretch). IsAlong d other u z) (sym v.is_stretch) is_there in
              let stands = v.stands in
              let lt = get_below t.steps other u there.step in
              let few = label_few all_stretches (suc (suc q)) in
              let up = label_step all_stretches (suc q) t e in
              let all = ap length steps_are in
              let inside : label i.at + other ≤ length c.steps = omega (arith, stands, lt, few, up, all) in
              let same = found_at offset lab (label i.at + other) inside is_offset found in
              within other u z there (sym same ∙ ap (λ n. n + other) (sym stands)) below

    -- ---- what stands before the first

    begins_own : Owned (entry c)
    begins_own = own_entry c

    first_lead : LeadsTo count all_stretches 0 (entry c)
    first_lead = record {
      place = 0;
      stretch = beginning;
      there = refl;
      is = refl;
      below = below_itself count (entry c);
    }

    first_next : (n : Stretch) × (slice_get all_stretches 1 ≡ Some n) × Under (frame_through front (entry c)) n.before
    first_next =
        let i = get_inside b.insns 0 is.some in
        let d = table.entry is.some in
        let y = d.row in
        let begins = is.begins in (
          stretch 0 i.0 y,
          first_made card_type m new label 0 (length front) b.insns rows is.labels i.0 y i.1 d.is_row,
          below_through count (frame_through front (entry c)) (mode (entry_by_name b)) (mode y) begins.arrives
              (state_below
              card_type m count (entry_by_name b) y d.above (is.usable 0 y d.is_row)),
        )

    -- ---- all

    owned : (place : ℕ) (t : Stretch) → slice_get all_stretches place ≡ Some t → Owned t.before
    owned zero t e = let same : beginning ≡ t = cc in subst (λ (u : Stretch). Owned u.before) same begins_own
    owned (suc q) t e = own_in q t e

    unbroken : (place : ℕ) (t : Stretch) → slice_get all_stretches place ≡ Some t → (index : ℕ) (s : Step) (x : State)
        → IsAlong t index s x → (rule : ℕ) → Breaks is_of c.max_stack s.act x rule → ⊥
    unbroken zero t e index s x along rule breaks =
        let same : beginning ≡ t = cc in
        let begins = is.begins in
        begins.unbroken index s x (subst (λ (u : Stretch). IsAlong u index s x) (sym same) along) rule breaks
    unbroken (suc q) t e index s x along rule breaks = unbroken_in q t e index s x along rule breaks

    next : (place : ℕ) (t : Stretch) → slice_get all_stretches place ≡ Some t → goes_on t.steps ≡ true → (n : Stretch)
        × (slice_get all_stretches (suc place) ≡ Some n) × Under (frame_through t.steps t.before) n.before
    next zero t e goes =
        let same : beginning ≡ t = cc in
        let n = first_next in (
          n.0,
          n.1,
          subst (λ (u : Stretch). Under (frame_through u.steps u.before) (let v = n.0 in
              v.before)) same n.2,
        )
    next (suc q) t e goes = next_of q t e goes

    jumps : (place : ℕ) (t : Stretch) → slice_get all_stretches place ≡ Some t → (index : ℕ) (s : Step) (x : State)
        → IsAlong t index s x → (offset lab : ℕ) → Contains (let a = s.act in a.targets) offset → place_at c.steps
        offset
        ≡ Some lab → JumpsTo count all_stretches place t lab (after s.act x)
    jumps zero t e index s x along offset lab on found =
        let same : beginning ≡ t = cc in
        let begins = is.begins in
        let here = subst (λ (u : Stretch). IsAlong u index s x) (sym same) along in
        absurd (begins.stays s (contained front index s here.step) offset on)
    jumps (suc q) t e index s x along offset lab on found = jumps_in q t e index s x along offset lab on found

    handlers : (place : ℕ) (t : Stretch) → slice_get all_stretches place ≡ Some t → (index : ℕ) (s : Step) (x : State)
        → IsAlong t index s x → (h : Catch) → Contains c.catches h → covers h s.at ≡ true → (lab : ℕ) → place_at c.steps
        h.target ≡ Some lab → LeadsTo count all_stretches lab (caught h x)
    handlers zero t e index s x along h on cover lab found =
        let same : beginning ≡ t = cc in
        let begins = is.begins in
        let here = subst (λ (u : Stretch). IsAlong u index s x) (sym same) along in
        absurd (begins.uncovered s (contained front index s here.step) h on cover)
    handlers (suc q) t e index s x along h on cover lab found = handled_in q t e index s x along h on cover lab found

    pub are_stretches : AreStretches is_of c all_stretches
    are_stretches = record {
      steps = steps_are;
      own = owned;
      unbroken = unbroken;
      first = λ lt. first_lead;
      next = next;
      jumps = jumps;
      handlers = handlers;
    }
