-- A place without a mark at which no range of a handler begins or ends repeats the place before, if the locals are the
-- same.
use Rattle.std.proofs.Common.{◌≡◌, ◌≢◌, ◌||◌, ◌&&◌, ◌==◌, ◌<◌, ◌≤◌, ◌+◌, ◌-◌, ◌⊎◌, ℕ, suc, Bool, true, false, cond}
use Rattle.std.proofs.Common.{nat_lt, nat_le, is_some, List, [], ◌∷◌, ◌++◌, map, filter_map, length, take, slice_get}
use Rattle.std.proofs.Common.{slice_set, get_or, Option, Some, None, option_map, Contains, refl, sym, ◌∙◌, ap, subst}
use Rattle.std.proofs.Common.{inl, inr, arith}
use Rattle.std.proofs.lemmas.Bool.{eqb-true, eqb-false, leb-true, leb-false, ltb-true, ltb-false, cases_lt}
use Rattle.std.proofs.lemmas.List.{length-set, get_or-set_same, get_or-set_other, take_more}
use Rattle.std.proofs.lemmas.List.Elements.{Contains-append_cases, Contains-append_right}
use Rattle.std.proofs.lemmas.Option.{slice_get_within}
use Rattle.cjc_classfile.specs.declared.tree.Catch.{Catch}
use Rattle.cjc_code.specs.declared.insn.JInsn.{JInsn}
use Rattle.cjc_code.specs.declared.insn.JOp.{JOp}
use Rattle.cjc_code.specs.declared.insn.JOp.TheVariants as jop
use Rattle.cjc_fixpoint.specs.declared.flow.Edge.{Edge}
use Rattle.cjc_fixpoint.specs.Dataflow.{Dataflow}
use Rattle.cjc_fixpoint.specs.Kept.{handed, mark_of}
use Rattle.cjc_fixpoint.specs.Shortened.{IsRepeated, AreRepeats}
use Rattle.cjc_fixpoint.specs.Working.Edges.{contains_cons}
use Rattle.cjc_fixpoint.specs.Working.SegmentLaws.{contains_none, contains_kept, kept_from}
use Rattle.cjc_types.specs.declared.cell.Cell.{Cell}
use Rattle.cjc_types.specs.declared.cell.Cell.TheVariants.{Refs}
use Rattle.cjc_types.specs.declared.state.Stack.{Stack}
use Rattle.cjc_types.specs.declared.state.Stack.TheVariants.{Cells}
use Rattle.cjc_types.specs.declared.state.State.{State}
use Rattle.cjc_types.specs.Steps.{locals_after, after, goes_on, targets}
use Rattle.cjc_types.specs.Flow.{Body, place_at, next_place, successors, edge, covers, caught_type, caught}
use Rattle.cjc_types.specs.Flow.{handler_edge, place_edges, type_flow}
use Rattle.cjc_types.specs.Marks.{marks_of}
use Rattle.cjc_types.specs.Working.Onward.{gone_on_by, gone_on}
use Rattle.cjc_types.specs.Repeats.{IsFrom, CoverAlike, keeps_locals, jumps, repeats_by, repeats_at}
use Rattle.cjc_types.specs.Working.MarkLaws.{map_from, next_to, passed}

-- ---- ranges of handlers

le_same : (s a b : ℕ) → ((a < s) × (b < s)) ⊎ ((s ≤ a) × (s ≤ b)) → nat_le s a ≡ nat_le s b
le_same s a b h = go (nat_le s a) (nat_le s b) refl refl h
  where
    go : (p q : Bool) → nat_le s a ≡ p → nat_le s b ≡ q → ((a < s) × (b < s)) ⊎ ((s ≤ a) × (s ≤ b)) → p ≡ q
    go true true e f h = refl
    go false false e f h = refl
    go true false e f (inl less) = let le = leb-true s a e in let lt = less.0 in absurd (omega (arith, le, lt))
    go true false e f (inr more) = let lt = leb-false s b f in let le = more.1 in absurd (omega (arith, le, lt))
    go false true e f (inl less) = let le = leb-true s b f in let lt = less.1 in absurd (omega (arith, le, lt))
    go false true e f (inr more) = let lt = leb-false s a e in let le = more.0 in absurd (omega (arith, le, lt))

lt_same : (s a b : ℕ) → ((a < s) × (b < s)) ⊎ ((s ≤ a) × (s ≤ b)) → nat_lt a s ≡ nat_lt b s
lt_same s a b h = go (nat_lt a s) (nat_lt b s) refl refl h
  where
    go : (p q : Bool) → nat_lt a s ≡ p → nat_lt b s ≡ q → ((a < s) × (b < s)) ⊎ ((s ≤ a) × (s ≤ b)) → p ≡ q
    go true true e f h = refl
    go false false e f h = refl
    go true false e f (inl less) = let le = ltb-false b s f in let lt = less.1 in absurd (omega (arith, le, lt))
    go true false e f (inr more) = let lt = ltb-true a s e in let le = more.0 in absurd (omega (arith, le, lt))
    go false true e f (inl less) = let le = ltb-false a s e in let lt = less.0 in absurd (omega (arith, le, lt))
    go false true e f (inr more) = let lt = ltb-true b s f in let le = more.1 in absurd (omega (arith, le, lt))

-- two instructions in a row are on one side of an offset, where the first place behind it is not the second's
one_side : (insns : List JInsn) (offset p at : ℕ) (i j : JInsn) → IsFrom insns offset p → slice_get insns at ≡ Some i
    → slice_get insns (suc at) ≡ Some j → suc at ≢ p → ((i.at < offset) × (j.at < offset))
    ⊎ ((offset ≤ i.at) × (offset ≤ j.at))
one_side insns offset p at i j from is_i is_j other = elim (cases_lt at p) [
  | inl lt ↦ let less : suc at < p = omega (arith, lt, other) in inl (
    (from at i is_i).0 lt,
    (from (suc at) j is_j).0 less,
  )
  | inr ge ↦ inr ((from at i is_i).1 ge, (from (suc at) j is_j).1 (omega (arith, ge)))
]

alike : (insns : List JInsn) (c : Catch) (p q at : ℕ) (i j : JInsn) → IsFrom insns c.start p → IsFrom insns c.end q
    → slice_get insns at ≡ Some i → slice_get insns (suc at) ≡ Some j → suc at ≢ p → suc at ≢ q
    → covers c i.at ≡ covers c j.at
alike insns c p q at i j from to is_i is_j not_p not_q =
    ap (λ (left : Bool). left && nat_lt i.at c.end) (le_same c.start i.at j.at (one_side insns c.start p at i j from
    is_i is_j not_p))
    ∙ ap (λ (right : Bool). nat_le c.start j.at && right) (lt_same c.end i.at j.at (one_side insns c.end q at i j to
    is_i is_j not_q))

set_off : (xs : List Bool) (p k : ℕ) → k < length xs → get_or (slice_set xs p true) k false ≡ false → (k ≢ p)
    × (get_or xs k false ≡ false)
set_off xs p k lt h = go (k == p) refl
  where
    go : (is : Bool) → (k == p) ≡ is → (k ≢ p) × (get_or xs k false ≡ false)
    go true e =
        let same : k ≡ p = eqb-true k p e in
        let there : get_or (slice_set xs p true) k false ≡ true = subst (λ (n : ℕ). get_or (slice_set xs n true) k false
        ≡ true) same (get_or-set_same xs k true false lt) in
        let clash : true ≡ false = sym there ∙ h in
        absurd cc
    go false e = let other : k ≢ p = eqb-false k p e in (other, sym (get_or-set_other xs p k true false other) ∙ h)

-- the bounds of one handler more
pub alike_more : (insns : List JInsn) (cs : List Catch) (n : ℕ) (c : Catch) (p q : ℕ) (bounds more : List Bool)
    → length bounds ≡ length insns → n < length cs → c ≡ get_or cs n c → IsFrom insns c.start p → IsFrom insns c.end q
    → more ≡ slice_set (slice_set bounds p true) q true → CoverAlike insns bounds (take n cs)
    → CoverAlike insns more (take (n + 1) cs)
alike_more insns cs n c p q bounds more sized lt read from to is_more known d has at i j is_i is_j off =
    let within = slice_get_within insns (suc at) j is_j in
    let sized_p = length-set bounds p true in
    let off' : get_or (slice_set (slice_set bounds p true) q true) (suc at) false ≡ false =
    sym (ap (λ (xs : List Bool). get_or xs (suc at) false) is_more) ∙ off in
    let second = set_off (slice_set bounds p true) q (suc at) (omega (arith, within, sized, sized_p)) off' in
    let first = set_off bounds p (suc at) (omega (arith, within, sized)) second.1 in
    elim (Contains-append_cases (take n cs) (get_or cs n c ∷ []) d (subst (λ (xs : List Catch). Contains xs d)
    (take_more cs n c lt) has)) [
      | inl old ↦ known d old at i j is_i is_j first.1
      | inr last ↦ elim (contains_cons (get_or cs n c) [] d last) [
        | inl same ↦ subst (λ (e : Catch). covers e i.at ≡ covers e j.at) (read ∙ same) (alike insns c p q at i j from
            to is_i is_j first.0 second.0)
        | inr none ↦ absurd (contains_none d none)
      ]
    ]

-- without handlers, any bounds do
pub alike_none : (insns : List JInsn) (bounds : List Bool) → CoverAlike insns bounds []
alike_none insns bounds c has at i j is_i is_j off = absurd (contains_none c has)

-- ---- what repeats

same_locals : (op : JOp) (locals : List Cell) (s : Stack) → keeps_locals op ≡ true → locals_after op locals s ≡ locals
same_locals (jop.Store refs k) locals s h = absurd cc
same_locals (jop.Inc k by) locals s h = absurd cc
same_locals _ locals s h = refl

no_targets : (op : JOp) → jumps op ≡ false → targets op ≡ []
no_targets (jop.If opcode target) h = absurd cc
no_targets (jop.Goto target) h = absurd cc
no_targets (jop.TableSwitch other low more) h = absurd cc
no_targets (jop.LookupSwitch other cases) h = absurd cc
no_targets _ h = refl

gone_is : (lt : Bool) (i : JInsn) (x y : State) → cond lt (gone_on_by (Some i) x) None ≡ Some y → after i.op x ≡ y
gone_is false i x y h = absurd cc
gone_is true i x y h = go (goes_on i.op) h
  where
    go : (b : Bool) → cond b (Some (after i.op x)) None ≡ Some y → after i.op x ≡ y
    go true e = cc
    go false e = absurd cc

past_zero : (at : ℕ) → (suc at == 0) ≡ false
past_zero at = go (suc at == 0) refl
  where
    go : (b : Bool) → (suc at == 0) ≡ b → b ≡ false
    go true e = let same = eqb-true (suc at) 0 e in absurd (omega (arith, same))
    go false e = refl

-- A flow over the instructions of a method, with what is handed to a handler of an instruction at an offset.
module _ {S : Type 0} (b : Body) (flow : Dataflow S) (to_handler : (offset : ℕ) → S → Catch → Option (Edge S)) where
  -- What the edges of the flow keep to: they lead where the instructions do, and handlers get the same again.
  pub record GoesByInsns : Type 0 where
    -- each edge is one to a place that may follow, or one to a handler
    pub edges : (at : ℕ) (j : JInsn) (y : S) (e : Edge S) → slice_get b.insns at ≡ Some j → Contains (flow.edges at y) e
        → Contains (successors b.insns at j.op) e.to ⊎ Contains (filter_map (to_handler j.at y) b.catches) e
    -- where an instruction keeps the locals and goes on to a place without a mark, a handler gets from that place what
    -- it got from this one
    pub again : (at : ℕ) (i : JInsn) (x y : S) → slice_get b.insns at ≡ Some i → mark_of (marks_of b) (suc at) ≡ None
        → keeps_locals i.op ≡ true → handed flow (suc at) (flow.edges at x) ≡ Some y
        → (offset : ℕ) (c : Catch) (e : Edge S) → Contains b.catches c → covers c i.at ≡ covers c offset
        → to_handler offset y c ≡ Some e → Contains (flow.edges at x) e

  module _ (by : GoesByInsns) (bounds : List Bool) (cover : CoverAlike b.insns bounds b.catches) where
    repeated : (at : ℕ) (i j : JInsn) → slice_get b.insns at ≡ Some i → slice_get b.insns (suc at) ≡ Some j
        → mark_of (marks_of b) (suc at) ≡ None → get_or bounds (suc at) false ≡ false → jumps j.op ≡ false
        → keeps_locals i.op ≡ true → IsRepeated flow at
    repeated at i j is_i is_j none off straight keeps x y own is_row e has =
        elim (by.edges (suc at) j y e is_j has) [
          | inl follows ↦
              let there : Contains (next_place (goes_on j.op) (length b.insns) (suc at) ++ []) e.to =
              subst (λ (os : List ℕ). Contains (next_place (goes_on j.op) (length b.insns) (suc at)
              ++ filter_map (place_at b.insns) os) e.to) (no_targets j.op straight) follows in
              elim (Contains-append_cases (next_place (goes_on j.op) (length b.insns) (suc at)) [] e.to there) [
                | inl next ↦ inl (next_to (goes_on j.op) (length b.insns) (suc at) e.to next)
                | inr jumped ↦ absurd (contains_none e.to jumped)
              ]
          | inr handled ↦
              let from = kept_from (to_handler j.at y) b.catches e handled in
              inr (by.again at i x y is_i none keeps is_row j.at from.0 e from.1 (cover from.0 from.1 at i j is_i is_j
              off) from.2)
        ]

    pub repeats_by_insns : AreRepeats flow (λ at. repeats_at b bounds at)
    repeats_by_insns at h =
        let before : suc at - 1 ≡ at = omega arith in
        let h1 = subst (λ (z : Bool). cond z false (repeats_by (is_some (mark_of (marks_of b) (suc at))
        || get_or bounds (suc at) false) (slice_get b.insns (suc at - 1)) (slice_get b.insns (suc at))) ≡ true)
        (past_zero at) h in
        let h' = subst (λ (k : ℕ). repeats_by (is_some (mark_of (marks_of b) (suc at)) || get_or bounds (suc at) false)
        (slice_get b.insns k) (slice_get b.insns (suc at)) ≡ true) before h1 in
        go (mark_of (marks_of b) (suc at)) (get_or bounds (suc at) false) (slice_get b.insns at)
        (slice_get b.insns (suc at)) refl refl refl refl h'
      where
        both : (i j : JInsn) → slice_get b.insns at ≡ Some i → slice_get b.insns (suc at) ≡ Some j
            → mark_of (marks_of b) (suc at) ≡ None → get_or bounds (suc at) false ≡ false → (straight keeps : Bool)
            → jumps j.op ≡ straight → keeps_locals i.op ≡ keeps → cond straight false keeps ≡ true → IsRepeated flow at
        both i j is_i is_j none off true keeps s k h = absurd cc
        both i j is_i is_j none off false true s k h = repeated at i j is_i is_j none off s k
        both i j is_i is_j none off false false s k h = absurd cc

        go : (mark : Option ℕ) (bound : Bool) (before here : Option JInsn) → mark_of (marks_of b) (suc at) ≡ mark
            → get_or bounds (suc at) false ≡ bound → slice_get b.insns at ≡ before → slice_get b.insns (suc at) ≡ here
            → repeats_by (is_some mark || bound) before here ≡ true → IsRepeated flow at
        go (Some k) bound before here m o p q h = absurd cc
        go None true before here m o p q h = absurd cc
        go None false None here m o p q h = absurd cc
        go None false (Some i) None m o p q h = absurd cc
        go None false (Some i) (Some j) m o p q h = both i j p q m o (jumps j.op) (keeps_locals i.op) refl refl h

-- ---- the flow of types

module _ (b : Body) where
  edge_cases : (at : ℕ) (j : JInsn) (y : State) (e : Edge State) → slice_get b.insns at ≡ Some j
      → Contains (place_edges b at (slice_get b.insns at) y) e → Contains (successors b.insns at j.op) e.to
      ⊎ Contains (filter_map (handler_edge b.insns j.at y) b.catches) e
  edge_cases at j y e is_j has =
      elim (Contains-append_cases (map (edge (after j.op y)) (successors b.insns at j.op))
      (filter_map (handler_edge b.insns j.at y) b.catches) e
      (subst (λ (o : Option JInsn). Contains (place_edges b at o y) e) is_j has)) [
        | inl follows ↦ let from = map_from (edge (after j.op y)) (successors b.insns at j.op) e follows
            in inl (subst (λ (n : ℕ). Contains (successors b.insns at j.op) n) (ap (λ (f : Edge State). f.to) from.2)
            from.1)
        | inr handled ↦ inr handled
      ]

  same_handler : (offset here : ℕ) (x y : State) (c : Catch) → covers c offset ≡ covers c here → x.locals ≡ y.locals
      → handler_edge b.insns offset x c ≡ handler_edge b.insns here y c
  same_handler offset here x y c covered locals =
      ap (λ (is : Bool). cond is (option_map (edge (caught c x)) (place_at b.insns c.target)) None) covered
      ∙ ap (λ (l : List Cell). cond (covers c here)
      (option_map (edge (record { stack = Cells (Refs (caught_type c.class ∷ []) ∷ []); locals = l }))
      (place_at b.insns c.target)) None) locals

  handled_again : (at : ℕ) (i : JInsn) (x y : State) → slice_get b.insns at ≡ Some i → mark_of (marks_of b) (suc at)
      ≡ None → keeps_locals i.op ≡ true → handed (type_flow b) (suc at) (place_edges b at (slice_get b.insns at) x)
      ≡ Some y
      → (offset : ℕ) (c : Catch) (e : Edge State) → Contains b.catches c → covers c i.at ≡ covers c offset
      → handler_edge b.insns offset y c ≡ Some e → Contains (place_edges b at (slice_get b.insns at) x) e
  handled_again at i x y is_i none keeps is_row offset c e has covered is =
      let gone : gone_on b at x ≡ Some y = sym (passed b at x none) ∙ is_row in
      let is_y : after i.op x ≡ y = gone_is (nat_lt (at + 1) (length b.insns)) i x y
      (sym (ap (λ (o : Option JInsn). cond (nat_lt (at + 1) (length b.insns)) (gone_on_by o x) None) is_i) ∙ gone)
      in
      let locals : x.locals ≡ y.locals = sym (same_locals i.op x.locals x.stack keeps)
      ∙ ap (λ (z : State). z.locals) is_y in
      let before : handler_edge b.insns i.at x c ≡ Some e = same_handler i.at offset x y c covered locals ∙ is in
      subst (λ (o : Option JInsn). Contains (place_edges b at o x) e) (sym is_i)
      (Contains-append_right (map (edge (after i.op x)) (successors b.insns at i.op))
      (filter_map (handler_edge b.insns i.at x) b.catches) e (contains_kept (handler_edge b.insns i.at x) b.catches
      c e has before))

  pub repeats_are : (bounds : List Bool) → CoverAlike b.insns bounds b.catches
      → AreRepeats (type_flow b) (λ at. repeats_at b bounds at)
  repeats_are bounds cover = repeats_by_insns b (type_flow b) (handler_edge b.insns) (record {
    edges = edge_cases;
    again = handled_again;
  }) bounds cover
