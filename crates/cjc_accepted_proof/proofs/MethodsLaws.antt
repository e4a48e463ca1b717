-- The frames of a method of the card that is written for one of a class file: their blocks lead to each other.
use Rattle.std.proofs.Common.{◌≡◌, ℕ, zero, suc, ◌+◌, ◌<◌, ◌≤◌, refl, sym, ap, subst, ◌∙◌, arith}
use Rattle.std.proofs.Common.{Bool, true, false, List, [], ◌∷◌, ◌++◌, length, length-append}
use Rattle.std.proofs.Common.{flat_map, slice_get, Option, Some, None, Contains}
use Rattle.std.specs.Prelude.{◌==◌, nat_lt, if◌then◌else◌}
use Rattle.std.proofs.lemmas.Bool.{eqb-true}
use Rattle.std.proofs.lemmas.Bool.Decides.{nat_tests}
use Rattle.cjc_types.proofs.BytesGets.{get_below, get_inside, position_there}
use Rattle.cjc_types.specs.Bytecode.declared.insn.JInsn.{JInsn}
use Rattle.cjc_types.specs.Bytecode.declared.insn.JOp.{JOp}
use Rattle.cjc_types.specs.Fixpoint.Tables.{Covers, HasRow, IsClosed}
use Rattle.cjc_types.specs.Flow.{Body as BodyByName, caught as caught_by_name, entry as entry_by_name, type_flow}
use Rattle.cjc_types.specs.States.{states}
use Rattle.cjc_types.specs.Steps.{after as after_by_name, targets}
use Rattle.cjc_types.specs.declared.state.State.{State}
use Rattle.cjc_check_proof.specs.NCode.Written.{Resolution, narrow_code, place_in, reached, written_for}
use Rattle.cjc_check_proof.specs.NCode.declared.narrow.NInsn.{NInsn}
use Rattle.cjc_check_proof.specs.NCode.declared.narrow.PairRole.{PairRole}
use Rattle.cjc_verify.specs.Narrow.Pairs.Open.{Open, closed}
use Rattle.cjc_check_proof.specs.NarrowProof.Tables.Analysis.{Ascend, IsDecoded}
use Rattle.cjc_check_proof.specs.NarrowProof.Tables.Pairs.{AreInPairs, IsInPair, a_constant}
use Rattle.cjc_check_proof.specs.NarrowProof.Tables.Pairs.{a_local, a_narrow}
use Rattle.cjc_check_proof.specs.NarrowProof.Tables.Pairs.{a_nop, a_null, a_number, gets, goes_on as pair_goes_on}
use Rattle.cjc_check_proof.specs.NarrowProof.Tables.Pairs.{opens, pushes}
use Rattle.cjc_check_proof.specs.NarrowProof.Tables.Pairs.{puts, stands_alone}
use Rattle.cjc_check_proof.proofs.NarrowProofPlaced.{ascend_tail, first_place, size, size_fixed}
use Rattle.cjc_frames.specs.Acts.{Subtype}
use Rattle.cjc_frames.specs.Flow.{Body, caught, covers, entry, place_at}
use Rattle.cjc_frames.specs.declared.acts.Catch.{Catch}
use Rattle.cjc_frames.specs.declared.acts.Step.{Step}
use Rattle.cjc_accepted_proof.specs.Blocks.{AllStand, AreBlocks, Block, LeadsTo, goes_on, label_of, steps_of}
use Rattle.cjc_accepted_proof.specs.Frames.{card_state}
use Rattle.cjc_accepted_proof.specs.Methods.{IsWrittenFor, block_of, blocks_from}
use Rattle.cjc_accepted_proof.specs.Methods.{steps_from}
use Rattle.cjc_accepted_proof.proofs.BlocksLaws.{below_itself, below_through}
use Rattle.cjc_accepted_proof.proofs.EdgesLaws.{falls_to, handled_to, jumps_to}
use Rattle.cjc_accepted_proof.proofs.FramesLaws.{between_own, state_below, state_own}
use Rattle.cjc_accepted_proof.proofs.KindsLaws.{handler_below}

-- ---- instructions as steps

pub steps_both : (step : (label : ℕ) → NInsn → Step) (k : ℕ) (xs ys : List NInsn) → steps_from step k (xs ++ ys)
    ≡ steps_from step k xs ++ steps_from step (k + length xs) ys
steps_both step k [] ys = let same : k ≡ k + 0 = omega arith in ap (λ n. steps_from step n ys) same
steps_both step k (x ∷ xs) ys =
    let same : k + 1 + length xs ≡ k + suc (length xs) = omega arith in
    ap (λ ss. step k x ∷ ss) (steps_both step (k + 1) xs ys ∙ ap (λ n. steps_from step (k + 1) xs ++ steps_from step n
    ys) same)

pub steps_long : (step : (label : ℕ) → NInsn → Step) (k : ℕ) (xs : List NInsn) → length (steps_from step k xs)
    ≡ length xs
steps_long step k [] = refl
steps_long step k (x ∷ xs) = ap suc (steps_long step (k + 1) xs)

pub step_there : (step : (label : ℕ) → NInsn → Step) (k : ℕ) (xs : List NInsn) (j : ℕ) (s : Step) → slice_get
    (steps_from step k xs) j ≡ Some s → (x : NInsn) × (s ≡ step (k + j) x)
step_there step k [] j s e = absurd cc
step_there step k (x ∷ xs) zero s e =
    let same : step k x ≡ s = cc in
    let none : k ≡ k + 0 = omega arith in
    (x, sym same ∙ ap (λ n. step n x) none)
step_there step k (x ∷ xs) (suc j) s e =
    let r = step_there step (k + 1) xs j s e in
    let same : k + 1 + j ≡ k + suc j = omega arith in
    (r.0, r.1 ∙ ap (λ n. step n r.0) same)

-- ---- blocks

first_before : (j : JInsn) (insns : List JInsn) → Ascend (j ∷ insns) → (k : ℕ) (y : JInsn) → slice_get insns k ≡ Some y
    → j.at < y.at
first_before j insns up k y e = up 0 (suc k) j y refl e (omega arith)

module _ (card_type : List ℕ → Option (List ℕ)) (is_of : Subtype) (r : Resolution) (b : BodyByName)
    (rows : List (Option State)) (opened : ℕ → Open) (step : (label : ℕ) → NInsn → Step) where
  abbrev label : ℕ → ℕ
  label offset = place_in r (reached b.insns rows) offset

  abbrev made : (at from : ℕ) → List JInsn → List (Option State) → List Block
  made at from insns rs = blocks_from card_type is_of r b rows opened step at from insns rs

  abbrev block : (at from : ℕ) → JInsn → State → Block
  block at from i x = block_of card_type is_of r b rows opened step at from i x

  made_steps : (at from : ℕ) (insns : List JInsn) (rs : List (Option State)) → steps_of (made at from insns rs)
      ≡ steps_from step from (flat_map (written_for r label) (reached insns rs))
  made_steps at from [] rs = refl
  made_steps at from (i ∷ insns) [] = refl
  made_steps at from (i ∷ insns) (None ∷ rs) = made_steps (suc at) from insns rs
  made_steps at from (i ∷ insns) (Some x ∷ rs) =
      let here = written_for r label i in
      ap (λ ss. steps_from step from (written_for r label i) ++ ss) (made_steps (suc at) (from + length (written_for r
      label i)) insns rs) ∙ sym (steps_both step from (written_for r label i) (flat_map (written_for r label) (reached
      insns rs)))

  -- what is written for an instruction stands behind what is written for those before it
  place_behind : (j : JInsn) (insns : List JInsn) (y : State) (rs : List (Option State)) → Ascend (j ∷ insns)
      → (index : ℕ) (i : JInsn) → slice_get insns index ≡ Some i → place_in r (reached (j ∷ insns) (Some y ∷ rs)) i.at
      ≡ length (written_for r label j) + place_in r (reached insns rs) i.at
  place_behind j insns y rs up index i e =
      let behind : nat_lt j.at i.at ≡ true = (let lt = first_before j insns up index i e in grind (
        arith,
        nat_tests,
        lt,
      )) in
      let fixed = size_fixed r label (λ o. 0) j in
      ap (λ (t : Bool). (if t then size r j else 0) + place_in r (reached insns rs) i.at) behind
      ∙ ap (λ n. n + place_in r (reached insns rs) i.at) (sym fixed)

  -- the instruction of a block, and the block of the next one
  pub record IsMade (at from : ℕ) (insns : List JInsn) (rs : List (Option State)) (q : ℕ) (k : Block) : Type 0 where
    pub index : ℕ
    pub place : ℕ
    pub is_place : place ≡ at + index
    pub insn : JInsn
    pub is_insn : slice_get insns index ≡ Some insn
    pub state : State
    pub is_row : slice_get rs index ≡ Some (Some state)
    pub from_label : ℕ
    pub is_label : from_label ≡ from + label_of (made at from insns rs) q
    pub is_offset : from_label ≡ from + place_in r (reached insns rs) insn.at
    pub is : k ≡ block place from_label insn state
    pub next : (i : JInsn) (x : State) → slice_get insns (suc index) ≡ Some i → slice_get rs (suc index) ≡ Some (Some x)
        → (l : ℕ) × (slice_get (made at from insns rs) (suc q) ≡ Some (block (suc place) l i x))

  first_made : (at from : ℕ) (insns : List JInsn) (rs : List (Option State)) (i : JInsn) (x : State) → slice_get insns 0
      ≡ Some i → slice_get rs 0 ≡ Some (Some x) → slice_get (made at from insns rs) 0 ≡ Some (block at from i x)
  first_made at from [] rs i x e f = absurd cc
  first_made at from (j ∷ insns) [] i x e f = absurd cc
  first_made at from (j ∷ insns) (None ∷ rs) i x e f = absurd cc
  first_made at from (j ∷ insns) (Some y ∷ rs) i x e f =
      let same : j ≡ i = cc in
      let row : y ≡ x = cc in
      ap (λ (v : JInsn). Some (block at from v y)) same ∙ ap (λ (v : State). Some (block at from i v)) row

  is_made : (at from : ℕ) (insns : List JInsn) (rs : List (Option State)) → Ascend insns → (q : ℕ) (k : Block)
      → slice_get (made at from insns rs) q ≡ Some k → IsMade at from insns rs q k
  is_made at from [] rs up q k e = absurd cc
  is_made at from (i ∷ insns) [] up q k e = absurd cc
  is_made at from (i ∷ insns) (None ∷ rs) up q k e =
      let m = is_made (suc at) from insns rs (ascend_tail i insns up) q k e in
      let at_place = m.is_place in
      record {
        index = suc m.index;
        place = m.place;
        is_place = omega (arith, at_place);
        insn = m.insn;
        is_insn = m.is_insn;
        state = m.state;
        is_row = m.is_row;
        from_label = m.from_label;
        is_label = m.is_label;
        is_offset = m.is_offset;
        is = m.is;
        next = m.next;
      }
  is_made at from (i ∷ insns) (Some x ∷ rs) up zero k e =
      let same : block at from i x ≡ k = cc in
      let first = first_place r (i ∷ insns) (Some x ∷ rs) up i refl in
      record {
        index = 0;
        place = at;
        is_place = omega arith;
        insn = i;
        is_insn = refl;
        state = x;
        is_row = refl;
        from_label = from;
        is_label = omega arith;
        is_offset = omega (arith, first);
        is = sym same;
        next = λ j y f g. (
          from + length (written_for r label i),
          first_made (suc at) (from + length (written_for r
              label i)) insns rs j y f g,
        );
      }
  is_made at from (i ∷ insns) (Some x ∷ rs) up (suc q) k e =
      let n = length (written_for r label i) in
      let m = is_made (suc at) (from + n) insns rs (ascend_tail i insns up) q k e in
      let offset = m.is_offset in
      let behind = place_behind i insns x rs up m.index m.insn m.is_insn in
      let at_place = m.is_place in
      let at_label = m.is_label in
      let long = steps_long step from (written_for r label i) in
      record {
        index = suc m.index;
        place = m.place;
        is_place = omega (arith, at_place);
        insn = m.insn;
        is_insn = m.is_insn;
        state = m.state;
        is_row = m.is_row;
        from_label = m.from_label;
        is_label = omega (arith, at_label, long);
        is_offset = omega (arith, offset, behind);
        is = m.is;
        next = m.next;
      }

  -- the block of a reached instruction stands at the label of its offset
  pub record IsBlockOf (at from : ℕ) (insns : List JInsn) (rs : List (Option State)) (index : ℕ) (i : JInsn)
      (x : State) : Type 0 where
    pub place : ℕ
    pub from_label : ℕ
    pub there : slice_get (made at from insns rs) place ≡ Some (block (at + index) from_label i x)
    pub is_label : from_label ≡ from + label_of (made at from insns rs) place
    pub is_place : from_label ≡ from + place_in r (reached insns rs) i.at

  block_there : (at from : ℕ) (insns : List JInsn) (rs : List (Option State)) → Ascend insns → (index : ℕ) (i : JInsn)
      (x : State) → slice_get insns index ≡ Some i → slice_get rs index ≡ Some (Some x) → IsBlockOf at from insns rs
      index i x
  block_there at from [] rs up index i x e f = absurd cc
  block_there at from (j ∷ insns) [] up index i x e f = absurd cc
  block_there at from (j ∷ insns) (None ∷ rs) up zero i x e f = absurd cc
  block_there at from (j ∷ insns) (Some y ∷ rs) up zero i x e f =
      let none : at + 0 ≡ at = omega arith in
      let first = first_place r (j ∷ insns) (Some y ∷ rs) up i e in
      record {
        place = 0;
        from_label = from;
        there = first_made at from (j ∷ insns) (Some y ∷ rs) i x e f ∙ ap (λ n. Some (block n from i x)) (sym none);
        is_label = omega arith;
        is_place = omega (arith, first);
      }
  block_there at from (j ∷ insns) (None ∷ rs) up (suc index) i x e f =
      let m = block_there (suc at) from insns rs (ascend_tail j insns up) index i x e f in
      let same : suc at + index ≡ at + suc index = omega arith in
      record {
        place = m.place;
        from_label = m.from_label;
        there = m.there ∙ ap (λ n. Some (block n m.from_label i x)) same;
        is_label = m.is_label;
        is_place = m.is_place;
      }
  block_there at from (j ∷ insns) (Some y ∷ rs) up (suc index) i x e f =
      let n = length (written_for r label j) in
      let m = block_there (suc at) (from + n) insns rs (ascend_tail j insns up) index i x e f in
      let same : suc at + index ≡ at + suc index = omega arith in
      let at_label = m.is_label in
      let at_place = m.is_place in
      let long = steps_long step from (written_for r label j) in
      let behind = place_behind j insns y rs up index i e in
      record {
        place = suc m.place;
        from_label = m.from_label;
        there = m.there ∙ ap (λ n. Some (block n m.from_label i x)) same;
        is_label = omega (arith, at_label, long);
        is_place = omega (arith, at_place, behind);
      }

  label_few : (blocks : List Block) (q : ℕ) → label_of blocks q ≤ length (steps_of blocks)
  label_few [] zero = omega arith
  label_few (k ∷ blocks) zero = omega arith
  label_few [] (suc q) = omega arith
  label_few (k ∷ blocks) (suc q) = let rest = label_few blocks q in let long = length-append k.steps (steps_of blocks)
      in omega (arith, rest, long)

  -- ---- a method

  module _ (m : Body) (to : ℕ → ℕ) (is : IsWrittenFor card_type is_of r b rows opened step m to)
      (decoded : IsDecoded b) (pairs : AreInPairs r b rows opened)
      (table : IsClosed (type_flow b) (length b.insns) rows) where
    abbrev count : ℕ
    count = m.local_count

    abbrev Under : State → State → Type 0
    Under x y = let s = states count in s.Below x y

    abbrev blocks : List Block
    blocks = made 0 0 b.insns rows

    steps_are : m.steps ≡ steps_of blocks
    steps_are = is.steps ∙ sym (made_steps 0 0 b.insns rows)

    -- the reached instruction of a block
    pub record IsOf (q : ℕ) (k : Block) : Type 0 where
      pub at : ℕ
      pub insn : JInsn
      pub is_insn : slice_get b.insns at ≡ Some insn
      pub state : State
      pub is_row : HasRow rows at state
      pub is_made_of : k ≡ block at (label insn.at) insn state
      pub next : (i : JInsn) (x : State) → slice_get b.insns (suc at) ≡ Some i → HasRow rows (suc at) x → (l : ℕ)
          × (slice_get blocks (suc q) ≡ Some (block (suc at) l i x))

    of_block : (q : ℕ) (k : Block) → slice_get blocks q ≡ Some k → IsOf q k
    of_block q k e =
        let o = is_made 0 0 b.insns rows decoded.ascend q k e in
        let i = o.insn in
        let at_place = o.is_place in
        let offset = o.is_offset in
        let same : o.place ≡ o.index = omega (arith, at_place) in
        let here : o.from_label ≡ label i.at = omega (arith, offset) in
        record {
          at = o.index;
          insn = o.insn;
          is_insn = o.is_insn;
          state = o.state;
          is_row = o.is_row;
          is_made_of = o.is ∙ ap (λ n. block n o.from_label o.insn o.state) same
              ∙ ap (λ n. block o.index n o.insn o.state) here;
          next = λ j x f g. (
              let n = o.next j x f g in
              (n.0, n.1 ∙ ap (λ p. Some (block (suc p) n.0 j x)) same)
              );
        }

    -- a frame leads to the label of a place where the table knows no more
    lead : (place : ℕ) (i : JInsn) (y z : State) (o : Open) → Covers (type_flow b) rows place y → slice_get b.insns
        place ≡ Some i → opened place ≡ o → Under z (card_state card_type o y) → LeadsTo count blocks (label i.at) z
    lead place i y z o covered there is_open below =
        let x = covered.row in
        let t = block_there 0 0 b.insns rows decoded.ascend place i x there covered.is_row in
        let at_label = t.is_label in
        let at_place = t.is_place in
        let same : 0 + place ≡ place = omega arith in
        record {
          place = t.place;
          block = block (0 + place) t.from_label i x;
          there = t.there;
          is = omega (arith, at_label, at_place);
          below = below_through count z (card_state card_type o y) (card_state card_type (opened (0 + place)) x) below
              (subst (λ (p : Open). Under (card_state card_type o y) (card_state card_type p x)) (sym (ap opened same
              ∙ is_open)) (state_below card_type count o y x covered.above));
        }

    -- the label that is found for a target is the target's
    same_label : (t place offset lab : ℕ) (n : JInsn) (y : State) → slice_get b.insns place ≡ Some n → n.at ≡ t
        → HasRow rows place y → offset ≡ to (label t) → place_at m.steps offset ≡ Some lab → label n.at ≡ lab
    same_label t place offset lab n y there stands row is_offset found =
        let p = position_there (λ (s : Step). s.at == offset) m.steps lab found in
        let lt = get_below m.steps lab p.0 p.1 in
        let s = step_there step 0 (narrow_code r (reached b.insns rows)) lab p.0 (ap (λ (ss : List Step). slice_get ss
        lab) (sym is.steps) ∙ p.1) in
        let none : 0 + lab ≡ lab = omega arith in
        let found_at : (let q = p.0 in q.at) ≡ to lab = ap (λ (q : Step). q.at) s.1 ∙ is.at (0 + lab) s.0
        ∙ ap to none in
        let at_offset : (let q = p.0 in q.at) ≡ offset = eqb-true (let q = p.0 in q.at) offset p.2 in
        let target : to (label t) ≡ to (label n.at) = ap (λ o. to (label o)) (sym stands) in
        let same : to lab ≡ to (label n.at) = sym found_at ∙ at_offset ∙ is_offset ∙ target in
        let bt = block_there 0 0 b.insns rows decoded.ascend place n y there row in
        let few = label_few blocks bt.place in
        let at_label = bt.is_label in
        let at_place = bt.is_place in
        let long = ap length steps_are in
        let within : label n.at ≤ length m.steps = omega (arith, few, at_label, at_place, long) in
        by (nat_lt lab (label n.at)) refl (nat_lt (label n.at) lab) refl lt within same
      where
        by : (u : Bool) → nat_lt lab (label n.at) ≡ u → (v : Bool) → nat_lt (label n.at) lab ≡ v
            → lab < length m.steps → label n.at ≤ length m.steps → to lab ≡ to (label n.at) → label n.at ≡ lab
        by true e v f lt within same =
            let less : lab < label n.at = grind (arith, nat_tests, e) in
            let up = is.ascends lab (label n.at) less within in
            absurd (omega (arith, up, same))
        by false e true f lt within same =
            let less : label n.at < lab = grind (arith, nat_tests, f) in
            let up = is.ascends (label n.at) lab less (omega (arith, lt)) in
            absurd (omega (arith, up, same))
        by false e false f lt within same = grind (arith, nat_tests, e, f)

    -- behind an instruction that jumps no pair is open
    closed_behind : {o p : Open} {op : JOp} {role : PairRole} (t : ℕ) → IsInPair r o op role p → Contains (targets op) t
        → p ≡ closed
    closed_behind t stands_alone on = refl
    closed_behind t opens (j, lt, e) = absurd (omega (arith, lt))
    closed_behind t (pair_goes_on is_open a_nop) (j, lt, e) = absurd (omega (arith, lt))
    closed_behind t (pair_goes_on is_open (a_narrow f)) (j, lt, e) = absurd (omega (arith, lt))
    closed_behind t (pushes a_null) (j, lt, e) = absurd (omega (arith, lt))
    closed_behind t (pushes a_number) (j, lt, e) = absurd (omega (arith, lt))
    closed_behind t (pushes a_local) (j, lt, e) = absurd (omega (arith, lt))
    closed_behind t (pushes (a_constant f)) (j, lt, e) = absurd (omega (arith, lt))
    closed_behind t gets on = refl
    closed_behind t puts on = refl

    -- ---- the blocks

    own_frames : (q : ℕ) (k : Block) → slice_get blocks q ≡ Some k → (let s = states count in s.Own k.before × s.Own
        k.middle)
    own_frames q k e =
        let o = of_block q k e in
        let x = o.state in
        let own : (let s = states count in s.Own x) = subst (λ n. let s = states n in s.Own x) (sym is.locals)
        (table.own o.at x o.is_row) in
        subst (λ (v : Block). let s = states count in s.Own v.before × s.Own v.middle) (sym o.is_made_of) (
          state_own card_type is.few count (opened o.at) x own,
          between_own card_type is.few count x own,
        )

    all_stand : (q : ℕ) (k : Block) → slice_get blocks q ≡ Some k → AllStand is_of count m.max_stack k.before k.middle
        k.behind k.steps
    all_stand q k e =
        let o = of_block q k e in
        let row = is.stand o.at o.insn o.state o.is_insn o.is_row in
        subst (λ (v : Block). AllStand is_of count m.max_stack v.before v.middle v.behind v.steps)
        (sym o.is_made_of) row.stands

    some_insns : (insns : List JInsn) (rs : List (Option State)) → 0 < length (steps_of (made 0 0 insns rs)) → 0
        < length insns
    some_insns [] rs lt = absurd (omega (arith, lt))
    some_insns (i ∷ insns) rs lt = omega arith

    begins : 0 < length m.steps → LeadsTo count blocks 0 (entry m)
    begins lt =
        let long = ap length steps_are in
        let some = some_insns b.insns rows (omega (arith, lt, long)) in
        let i = get_inside b.insns 0 some in
        let first = first_place r b.insns rows decoded.ascend i.0 i.1 in
        subst (λ n. LeadsTo count blocks n (entry m)) first (lead 0 i.0 (entry_by_name b) (entry m) closed (table.entry
        some) i.1 pairs.first is.begins)

    goes_to_next : (q : ℕ) (k : Block) → slice_get blocks q ≡ Some k → goes_on k.steps ≡ true → (n : Block)
        × (slice_get blocks (suc q) ≡ Some n) × Under k.behind n.before
    goes_to_next q k e goes =
        let o = of_block q k e in
        let i = o.insn in
        let x = o.state in
        let row = is.stand o.at i x o.is_insn o.is_row in
        let on = row.falls (subst (λ (v : Block). goes_on v.steps ≡ true) o.is_made_of goes) in
        let c = falls_to b rows decoded table o.at i x o.is_insn o.is_row on in
        let y = c.row in
        let lt = decoded.next o.at i o.is_insn on in
        let j = get_inside b.insns (suc o.at) (omega (arith, lt)) in
        let n = o.next j.0 y j.1 c.is_row in (
          block (suc o.at) n.0 j.0 y,
          n.1,
          subst (λ (v : Block). Under v.behind (card_state card_type (opened (suc o.at)) y)) (sym o.is_made_of)
              (state_below
              card_type count (opened (suc o.at)) (after_by_name i.op x) y c.above),
        )

    jumps_lead : (q : ℕ) (k : Block) → slice_get blocks q ≡ Some k → (s : Step) → Contains k.steps s
        → (offset lab : ℕ) → Contains (let a = s.act in a.targets) offset → place_at m.steps offset ≡ Some lab
        → LeadsTo count blocks lab k.behind
    jumps_lead q k e s within offset lab on found =
        let o = of_block q k e in
        let i = o.insn in
        let x = o.state in
        let row = is.stand o.at i x o.is_insn o.is_row in
        let t = row.jumps s (subst (λ (v : Block). Contains v.steps s) o.is_made_of within) offset on in
        let h = decoded.targets o.at i t.0 o.is_insn t.1 in
        let p = h.1 in
        let n = p.insn in
        let c = jumps_to b rows decoded table o.at i x o.is_insn o.is_row t.0 h.0 t.1 p.found in
        let free = closed_behind t.0 (pairs.each o.at i x o.is_insn o.is_row) t.1 in
        let label_is = same_label t.0 h.0 offset lab n c.row p.is_insn p.stands c.is_row t.2 found in
        subst (λ (v : Block). LeadsTo count blocks lab v.behind) (sym o.is_made_of) (subst (λ l. LeadsTo count blocks l
        (card_state card_type (opened (suc o.at)) (after_by_name i.op x))) label_is (lead h.0 n (after_by_name i.op x)
        (card_state card_type (opened (suc o.at)) (after_by_name i.op x)) (opened (suc o.at)) c p.is_insn (pairs.targets
        o.at i t.0 h.0 o.is_insn t.1 p ∙ sym free) (below_itself count (card_state card_type (opened (suc o.at))
        (after_by_name i.op x)))))

    handlers_lead : (q : ℕ) (k : Block) → slice_get blocks q ≡ Some k → (s : Step) → Contains k.steps s → (c : Catch)
        → Contains m.catches c → covers c s.at ≡ true → (lab : ℕ) → place_at m.steps c.target ≡ Some lab
        → LeadsTo count blocks lab (caught c k.before)
    handlers_lead q k e s within c on cover lab found =
        let o = of_block q k e in
        let i = o.insn in
        let x = o.state in
        let f = is.handlers o.at i x o.is_insn o.is_row s (subst (λ
        (v : Block). Contains v.steps s) o.is_made_of within) c on
        cover in
        let d = f.catch in
        let h = decoded.handlers d f.listed in
        let p = h.1 in
        let n = p.insn in
        let g = handled_to b rows decoded table o.at i x o.is_insn o.is_row d f.listed f.covers h.0 p.found in
        let label_is = same_label d.target h.0 c.target lab n g.row p.is_insn p.stands g.is_row f.target found in
        subst (λ (v : Block). LeadsTo count blocks lab (caught c v.before)) (sym o.is_made_of) (subst
        (λ l. LeadsTo count blocks
        l (caught c (card_state card_type (opened o.at) x))) label_is (lead h.0 n (caught_by_name d x) (caught c
        (card_state card_type (opened o.at) x)) closed g p.is_insn (pairs.handlers d h.0 f.listed p) (handler_below
        card_type (opened o.at) count c d f.caught x)))

    pub are_blocks : AreBlocks is_of m blocks
    are_blocks = record {
      steps = steps_are;
      own = own_frames;
      stand = all_stand;
      first = begins;
      next = goes_to_next;
      jumps = jumps_lead;
      handlers = handlers_lead;
    }
