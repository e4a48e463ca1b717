-- The flow that is solved is lawful, and leads where that of the types leads.
use Rattle.std.proofs.Common.{◌≡◌, ◌≤◌, ◌<◌, ◌+◌, ◌⊎◌, ℕ, suc, Bool, true, false, cond, nat_lt, List, [], ◌∷◌, map}
use Rattle.std.proofs.Common.{length, slice_get, get_or, filter_map, Option, Some, None, option_map, All, Contains}
use Rattle.std.proofs.Common.{refl, ap, ◌∙◌, subst, inl, inr, arith}
use Rattle.std.specs.List.{cons_option}
use Rattle.std.proofs.lemmas.List.Elements.{All-nil, All-cons, All-append, All-map, All-contains, Contains-append_cases}
use Rattle.std.proofs.lemmas.List.Elements.{Contains-append_left, Contains-append_right}
use Rattle.cjc_range.specs.Span.{IsWord, full}
use Rattle.cjc_range.proofs.Order.{within_refl, word_full}
use Rattle.cjc_types.specs.ClassFile.declared.tree.Catch.{Catch}
use Rattle.cjc_types.specs.Bytecode.declared.insn.JInsn.{JInsn}
use Rattle.cjc_fixpoint.specs.declared.flow.Edge.{Edge}
use Rattle.cjc_fixpoint.specs.Dataflow.{IsLawful, StaysWithin, AreBelow}
use Rattle.cjc_fixpoint.specs.Kept.{MeetsAt, handed, handed_on}
use Rattle.cjc_fixpoint.specs.Working.Edges.{AreBelowInTurn, below_from_zip, AreBelow-append, AreBelow-map}
use Rattle.cjc_fixpoint.specs.Working.Edges.{contains_head, contains_tail, contains_cons}
use Rattle.cjc_fixpoint.specs.Working.SegmentLaws.{contains_none, contains_kept, kept_from}
use Rattle.cjc_fixpoint.proofs.Lattices.{flow_laws}
use Rattle.cjc_types.specs.declared.state.State.{State}
use Rattle.cjc_types.specs.States.{most_cells}
use Rattle.cjc_types.specs.Flow as typed
use Rattle.cjc_types.specs.Steps as typed_steps
use Rattle.cjc_types.specs.Flow.{Body, place_at, successors, covers}
use Rattle.cjc_types.specs.Marks.{is_marked, marks_of}
use Rattle.cjc_types.specs.Working.FlowLaws as typed_laws
use Rattle.cjc_types.specs.Working.MarkLaws.{map_from, marks_meet, LeadsOn, either_way, handed_behind}
use Rattle.cjc_intervals.specs.Frames.{RangeState, states}
use Rattle.cjc_intervals.specs.Flow.{arrival, caught, first_state, entry}
use Rattle.cjc_intervals.proofs.Stacks.{state_lattice}
use Rattle.cjc_intervals.proofs.Steps.{own_after, after_up}
use Rattle.cjc_intervals.proofs.Flow.{own_arrival, arrival_up, own_first}
use Rattle.cjc_types.specs.Search.{cells_of}
use Rattle.cjc_flow.specs.Working.Kept.{Ranged, kept_arrival, kept_edge, kept_handler, value_at, after_at, kept_place}
use Rattle.cjc_flow.specs.Working.Kept.{kept_flow, kept_on_by, kept_on}

one_cell : 1 ≤ most_cells
unfolding most_cells
one_cell = omega arith

map_to : {X Y : Type 0} (f : X → Y) (xs : List X) (x : X) → Contains xs x → Contains (map f xs) (f x)
map_to f [] x has = absurd (contains_none x has)
map_to f (y ∷ ys) x has = elim (contains_cons y ys x has) [
  | inl same ↦ subst (λ (z : _). Contains (f y ∷ map f ys) (f z)) same (contains_head (f y) (map f ys))
  | inr later ↦ contains_tail (f y) (map f ys) (f x) (map_to f ys x later)
]

module _ (r : Ranged) where
  -- a state that the flow of this method may hold
  abbrev pub Own : RangeState → Type 0
  Own x = (states r.body.max_locals).Own x

  -- the second state allows all that the first allows
  abbrev pub Below : RangeState → RangeState → Type 0
  Below x y = (states r.body.max_locals).Below x y

  abbrev AllOwn : List (Edge RangeState) → Type 0
  AllOwn es = All (λ (e : Edge RangeState). Own e.state) es

  pub own_kept : (to : ℕ) (x : RangeState) → Own x → Own (kept_arrival r to x)
  own_kept to x own = go (is_marked r.body to)
    where
      go : (b : Bool) → Own (cond b (arrival r.body r.types to x) x)
      go true = own_arrival r.body r.types to x own
      go false = own

  kept_up : (to : ℕ) (x y : RangeState) → Own x → Own y → Below x y → Below (kept_arrival r to x) (kept_arrival r to y)
  kept_up to x y own_x own_y h = go (is_marked r.body to)
    where
      go : (b : Bool) → Below (cond b (arrival r.body r.types to x) x) (cond b (arrival r.body r.types to y) y)
      go true = arrival_up r.body r.types to x y own_x own_y h
      go false = h

  -- ---- handlers

  pub own_caught : (x : RangeState) → Own x → Own (caught x)
  own_caught x own = (record { few = one_cell; own = All-cons IsWord full [] word_full (All-nil IsWord) }, own.1)

  caught_up : (x y : RangeState) → Below x y → Below (caught x) (caught y)
  caught_up x y h = ((within_refl full, tt), h.1)

  own_handlers : (offset : ℕ) (x : RangeState) (catches : List Catch) → Own x
      → AllOwn (filter_map (kept_handler r offset x) catches)
  own_handlers offset x [] own = All-nil _
  own_handlers offset x (c ∷ cs) own = go (covers c offset) (place_at r.body.insns c.target) (own_handlers offset x cs
      own)
    where
      go : (is : Bool) (to : Option ℕ) → AllOwn (filter_map (kept_handler r offset x) cs)
          → AllOwn (cons_option (cond is (option_map (kept_edge r (caught x)) to) None)
          (filter_map (kept_handler r offset x) cs))
      go false to rest = rest
      go true None rest = rest
      go true (Some to) rest = All-cons (λ (e : Edge RangeState). Own e.state) _ _ (own_kept to (caught x)
          (own_caught x own)) rest

  handlers_up : (offset : ℕ) (x y : RangeState) (catches : List Catch) → Own x → Own y → Below x y
      → AreBelowInTurn (kept_flow r) (filter_map (kept_handler r offset x) catches)
      (filter_map (kept_handler r offset y) catches)
  handlers_up offset x y [] own_x own_y h = tt
  handlers_up offset x y (c ∷ cs) own_x own_y h = go (covers c offset) (place_at r.body.insns c.target)
      (handlers_up offset x y cs own_x own_y h)
    where
      go : (is : Bool) (to : Option ℕ) → AreBelowInTurn (kept_flow r) (filter_map (kept_handler r offset x) cs)
          (filter_map (kept_handler r offset y) cs)
          → AreBelowInTurn (kept_flow r) (cons_option (cond is (option_map (kept_edge r (caught x)) to) None)
          (filter_map (kept_handler r offset x) cs)) (cons_option (cond is (option_map (kept_edge r (caught y)) to)
          None) (filter_map (kept_handler r offset y) cs))
      go false to rest = rest
      go true None rest = rest
      go true (Some to) rest = (
        (
          refl,
          kept_up to (caught x) (caught y) (own_caught x own_x) (own_caught y own_y)
              (caught_up x y h),
        ),
        rest,
      )

  -- ---- edges

  pub own_after_at : (at : ℕ) (insn : JInsn) (t : State) (x : RangeState) → Own x → Own (after_at r at insn t x)
  own_after_at at insn t x own = own_after (λ _. value_at r at) insn.op (cells_of t.stack) r.body.max_locals x own

  own_mapped : (x : RangeState) (places : List ℕ) → Own x → AllOwn (map (kept_edge r x) places)
  own_mapped x places own = All-map (λ (e : Edge RangeState). Own e.state) (kept_edge r x) places
      (λ k d lt. own_kept _ x own)

  own_place : (at : ℕ) (insn : Option JInsn) (row : Option State) (x : RangeState) → Own x
      → AllOwn (kept_place r at insn row x)
  own_place at None row x own = All-nil (λ (e : Edge RangeState). Own e.state)
  own_place at (Some insn) None x own = All-nil (λ (e : Edge RangeState). Own e.state)
  own_place at (Some insn) (Some t) x own =
      All-append (λ (e : Edge RangeState). Own e.state) _ _
      (own_mapped (after_at r at insn t x) (successors r.body.insns at insn.op) (own_after_at at insn t x own))
      (own_handlers insn.at x r.body.catches own)

  place_up : (at : ℕ) (insn : Option JInsn) (row : Option State) (x y : RangeState) → Own x → Own y → Below x y
      → AreBelow (kept_flow r) (kept_place r at insn row x) (kept_place r at insn row y)
  place_up at None row x y own_x own_y h = below_from_zip (kept_flow r) [] [] tt
  place_up at (Some insn) None x y own_x own_y h = below_from_zip (kept_flow r) [] [] tt
  place_up at (Some insn) (Some t) x y own_x own_y h =
      let x' = after_at r at insn t x in
      let y' = after_at r at insn t y in
      let own_x' = own_after_at at insn t x own_x in
      let own_y' = own_after_at at insn t y own_y in
      AreBelow-append (kept_flow r) _ _ _ _
      (AreBelow-map (kept_flow r) (kept_edge r x') (kept_edge r y') (successors r.body.insns at insn.op) (λ to. refl)
      (λ to. kept_up to x' y' own_x' own_y' (after_up (λ _. value_at r at) insn.op (cells_of t.stack)
      r.body.max_locals x y own_x own_y h)))
      (below_from_zip (kept_flow r) _ _ (handlers_up insn.at x y r.body.catches own_x own_y h))

  pub kept_laws : IsLawful (kept_flow r)
  kept_laws = flow_laws (states r.body.max_locals) (entry r.body r.types) (λ at x. kept_place r at
      (slice_get r.body.insns at) (get_or r.types at None) x) (state_lattice r.body.max_locals)
      (own_arrival r.body r.types 0 (first_state r.body) (own_first r.body))
      (λ at x own e is. All-contains (λ (e : Edge RangeState). Own e.state) _ e
      (own_place at (slice_get r.body.insns at) (get_or r.types at None) x own) is)
      (λ at x y own_x own_y h. place_up at (slice_get r.body.insns at) (get_or r.types at None) x y own_x own_y h)

  -- ---- where edges go

  -- the same handler by the types
  handler_typed : (offset : ℕ) (x : RangeState) (y : State) (c : Catch) (e : Edge RangeState)
      → kept_handler r offset x c ≡ Some e → (f : Edge State) × (typed.handler_edge r.body.insns offset y c ≡ Some f)
      × (f.to ≡ e.to)
  handler_typed offset x y c e h = go (covers c offset) (place_at r.body.insns c.target) h
    where
      go : (is : Bool) (o : Option ℕ) → cond is (option_map (kept_edge r (caught x)) o) None ≡ Some e → (f : Edge State)
          × (cond is (option_map (typed.edge (typed.caught c y)) o) None ≡ Some f) × (f.to ≡ e.to)
      go true None k = absurd cc
      go true (Some to) k = (
        typed.edge (typed.caught c y) to,
        refl,
        let same : kept_edge r (caught x) to ≡ e = cc
            in ap (λ (f : Edge RangeState). f.to) same,
      )
      go false o k = absurd cc

  handlers_typed : (offset : ℕ) (x : RangeState) (y : State) (e : Edge RangeState)
      → Contains (filter_map (kept_handler r offset x) r.body.catches) e → (f : Edge State)
      × Contains (filter_map (typed.handler_edge r.body.insns offset y) r.body.catches) f × (f.to ≡ e.to)
  handlers_typed offset x y e has =
      let from = kept_from (kept_handler r offset x) r.body.catches e has in
      let f = handler_typed offset x y from.0 e from.2 in
      (f.0, contains_kept (typed.handler_edge r.body.insns offset y) r.body.catches from.0 f.0 from.1 f.1, f.2)

  typed_targets : (at : ℕ) (insn : Option JInsn) (row : Option State) (x : RangeState) (y : State) (e : Edge RangeState)
      → Contains (kept_place r at insn row x) e → (f : Edge State) × Contains (typed.place_edges r.body at insn y) f
      × (f.to ≡ e.to)
  typed_targets at None row x y e has = absurd (contains_none e has)
  typed_targets at (Some insn) None x y e has = absurd (contains_none e has)
  typed_targets at (Some insn) (Some t) x y e has =
      elim (Contains-append_cases (map (kept_edge r (after_at r at insn t x)) (successors r.body.insns at insn.op))
      (filter_map (kept_handler r insn.at x) r.body.catches) e has) [
        | inl follows ↦
            let from = map_from (kept_edge r (after_at r at insn t x)) (successors r.body.insns at insn.op) e follows in
            let f : Edge State = typed.edge (typed_steps.after insn.op y) from.0 in (
              f,
              Contains-append_left (map (typed.edge (typed_steps.after insn.op y)) (successors r.body.insns at
                  insn.op)) (filter_map (typed.handler_edge r.body.insns insn.at y) r.body.catches) f
                  (map_to (typed.edge (typed_steps.after insn.op y)) (successors r.body.insns at insn.op) from.0
                  from.1),
              ap (λ (g : Edge RangeState). g.to) from.2,
            )
        | inr handled ↦
            let f = handlers_typed insn.at x y e handled in (
              f.0,
              Contains-append_right (map (typed.edge (typed_steps.after insn.op y)) (successors r.body.insns at
                  insn.op)) (filter_map (typed.handler_edge r.body.insns insn.at y) r.body.catches) f.0 f.1,
              f.2,
            )
      ]

  pub kept_stays : StaysWithin (kept_flow r) (length r.body.insns)
  kept_stays at x lt own e is =
      let f = typed_targets at (slice_get r.body.insns at) (get_or r.types at None) x (typed.entry r.body) e is in
      subst (λ (n : ℕ). n < length r.body.insns) f.2 (typed_laws.type_flow_stays r.body at (typed.entry r.body) lt
      (typed_laws.own_entry r.body) f.0 f.1)

  pub kept_meets : MeetsAt (kept_flow r) (length r.body.insns) (marks_of r.body)
  kept_meets at x lt own e is =
      let f = typed_targets at (slice_get r.body.insns at) (get_or r.types at None) x (typed.entry r.body) e is in
      subst (λ (n : ℕ). (n ≡ suc at) ⊎ Contains (marks_of r.body) n) f.2 (marks_meet r.body at (typed.entry r.body) lt
      (typed_laws.own_entry r.body) f.0 f.1)

  -- ---- what goes on

  pub stays_unmarked : (to : ℕ) (x : RangeState) → is_marked r.body to ≡ false → kept_arrival r to x ≡ x
  stays_unmarked to x e = ap (λ (b : Bool). cond b (arrival r.body r.types to x) x) e

  pub kept_goes : (at : ℕ) (x : RangeState) → LeadsOn r.body at → is_marked r.body (suc at) ≡ false
      → handed_on (kept_flow r) at (Some x) ≡ kept_on r at x
  kept_goes at x free none = go (slice_get r.body.insns at) (get_or r.types at None) refl
    where
      go : (o : Option JInsn) (row : Option State) → slice_get r.body.insns at ≡ o
          → handed (kept_flow r) (suc at) (kept_place r at o row x) ≡ cond (nat_lt (at + 1) (length r.body.insns))
          (kept_on_by r at o row x) None
      go None row is = either_way None (nat_lt (at + 1) (length r.body.insns))
      go (Some insn) None is = either_way None (nat_lt (at + 1) (length r.body.insns))
      go (Some insn) (Some t) is =
          let y = after_at r at insn t x in
          handed_behind (kept_flow r) r.body at insn (kept_edge r y) (filter_map (kept_handler r insn.at x)
          r.body.catches) y (λ to. refl)
          (ap (λ (z : RangeState). record { to = suc at; state = z }) (stays_unmarked (suc at) y none))
          (λ to has. free.jumps insn is to has)
          (λ e has same. let f = handlers_typed insn.at x (typed.entry r.body) e has
          in free.handlers insn.at (typed.entry r.body) f.0 f.1 (f.2 ∙ same))
