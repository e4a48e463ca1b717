-- Jumps, switches and handlers lead to marked places alone.
use Rattle.std.proofs.Common.{◌≡◌, ◌≢◌, ◌||◌, ◌==◌, ◌<◌, ◌≤◌, ◌+◌, ◌⊎◌, ℕ, zero, suc, Bool, true, false, cond, nat_lt}
use Rattle.std.proofs.Common.{List, [], ◌∷◌, ◌++◌, map, filter, filter_map, length, replicate, slice_get, slice_set}
use Rattle.std.proofs.Common.{get_or, Option, Some, None, option_map, Contains, refl, sym, ◌∙◌, ap, subst, inl, inr}
use Rattle.std.proofs.Common.{arith}
use Rattle.std.specs.List.{list_any, range_with_len}
use Rattle.std.proofs.lemmas.Bool.{eqb-true, eqb-false}
use Rattle.std.proofs.lemmas.List.{length-set, length-replicate, get_or-replicate, get_or-set_same, get_or-set_other}
use Rattle.std.proofs.lemmas.List.{map-append}
use Rattle.std.proofs.lemmas.List.Elements.{Contains-append_cases}
use Rattle.std.proofs.lemmas.List.Quantifiers.{position-Some}
use Rattle.std.proofs.lemmas.Option.{slice_get_within, slice_get-get_or, get_or_from_slice_get}
use Rattle.cjc_classfile.specs.declared.tree.Catch.{Catch}
use Rattle.cjc_code.specs.declared.insn.JInsn.{JInsn}
use Rattle.cjc_code.specs.declared.insn.JOp.TheVariants as jop
use Rattle.cjc_fixpoint.specs.declared.flow.Edge.{Edge}
use Rattle.cjc_fixpoint.specs.Dataflow.{Dataflow}
use Rattle.cjc_fixpoint.specs.Kept.{AreMarks, MeetsAt, merged, handed, handed_more, handed_on, mark_of}
use Rattle.cjc_fixpoint.specs.Marked.{marks_in}
use Rattle.cjc_fixpoint.specs.Working.Edges.{contains_head, contains_tail, contains_cons}
use Rattle.cjc_fixpoint.specs.Working.SegmentLaws.{contains_none, kept_from}
use Rattle.cjc_fixpoint.proofs.Marked.{kept_are, kept_has}
use Rattle.cjc_fixpoint.proofs.Runs.{mark_is, no_mark}
use Rattle.cjc_fixpoint.proofs.Listing.{more_append}
use Rattle.cjc_types.specs.declared.state.State.{State}
use Rattle.cjc_types.specs.Steps.{after, goes_on, targets}
use Rattle.cjc_types.specs.Flow.{Body, place_at, next_place, successors, edge, covers, caught, handler_edge, insn_edges}
use Rattle.cjc_types.specs.Flow.{place_edges, type_flow}
use Rattle.cjc_types.specs.Marks.{is_place, leads_to, is_jumped_to, is_handler, is_marked, marks_of}
use Rattle.cjc_types.specs.Working.Marking.{with_mark, with_offsets, with_jumps, with_handlers, with_all}
use Rattle.cjc_types.specs.Working.Onward.{gone_on_by, gone_on}

or_assoc : (a b c : Bool) → ((a || b) || c) ≡ (a || (b || c))
or_assoc true b c = refl
or_assoc false b c = refl

or_false : (a : Bool) → a ≡ (a || false)
or_false true = refl
or_false false = refl

-- or is true where its second operand is
pub or_true : (a : Bool) → (a || true) ≡ true
or_true true = refl
or_true false = refl

-- each number is equal to itself
pub same_self : (n : ℕ) → (n == n) ≡ true
same_self n = go (n == n) refl
  where
    go : (b : Bool) → (n == n) ≡ b → b ≡ true
    go true e = refl
    go false e = absurd (eqb-false n n e refl)

-- ---- which are marked

mark_sized : (marked : List Bool) (place : Option ℕ) → length (with_mark marked place) ≡ length marked
mark_sized marked None = refl
mark_sized marked (Some place) = length-set marked place true

mark_each : (marked : List Bool) (place : Option ℕ) (at : ℕ) → at < length marked
    → get_or (with_mark marked place) at false ≡ (get_or marked at false || is_place place at)
mark_each marked None at lt = or_false (get_or marked at false)
mark_each marked (Some place) at lt = go (place == at) refl
  where
    go : (b : Bool) → (place == at) ≡ b → get_or (slice_set marked place true) at false ≡ (get_or marked at false || b)
    go true e =
        let same : place ≡ at = eqb-true place at e in
        let inside : place < length marked = omega (arith, same, lt) in
        subst (λ (i : ℕ). get_or (slice_set marked place true) i false ≡ (get_or marked i false || true)) same
        (get_or-set_same marked place true false inside ∙ sym (or_true (get_or marked place false)))
    go false e = get_or-set_other marked place at true false (λ same. eqb-false place at e (sym same))
        ∙ or_false (get_or marked at false)

offsets_sized : (insns : List JInsn) (offsets : List ℕ) (marked : List Bool)
    → length (with_offsets insns marked offsets) ≡ length marked
offsets_sized insns [] marked = refl
offsets_sized insns (offset ∷ offsets) marked = offsets_sized insns offsets (with_mark marked (place_at insns offset))
    ∙ mark_sized marked (place_at insns offset)

offsets_each : (insns : List JInsn) (offsets : List ℕ) (marked : List Bool) (at : ℕ) → at < length marked
    → get_or (with_offsets insns marked offsets) at false ≡ (get_or marked at false || leads_to insns offsets at)
offsets_each insns [] marked at lt = or_false (get_or marked at false)
offsets_each insns (offset ∷ offsets) marked at lt =
    let sized = mark_sized marked (place_at insns offset) in
    offsets_each insns offsets (with_mark marked (place_at insns offset)) at (omega (arith, lt, sized))
    ∙ ap (λ (b : Bool). b || leads_to insns offsets at) (mark_each marked (place_at insns offset) at lt)
    ∙ or_assoc (get_or marked at false) (is_place (place_at insns offset) at) (leads_to insns offsets at)

jumps_sized : (insns more : List JInsn) (marked : List Bool) → length (with_jumps insns marked more) ≡ length marked
jumps_sized insns [] marked = refl
jumps_sized insns (i ∷ more) marked = jumps_sized insns more (with_offsets insns marked (targets i.op))
    ∙ offsets_sized insns (targets i.op) marked

jumps_each : (insns more : List JInsn) (marked : List Bool) (at : ℕ) → at < length marked
    → get_or (with_jumps insns marked more) at false ≡ (get_or marked at false
    || list_any (λ (i : JInsn). leads_to insns (targets i.op) at) more)
jumps_each insns [] marked at lt = or_false (get_or marked at false)
jumps_each insns (i ∷ more) marked at lt =
    let sized = offsets_sized insns (targets i.op) marked in
    jumps_each insns more (with_offsets insns marked (targets i.op)) at (omega (arith, lt, sized))
    ∙ ap (λ (b : Bool). b || list_any (λ (k : JInsn). leads_to insns (targets k.op) at) more)
    (offsets_each insns (targets i.op) marked at lt)
    ∙ or_assoc (get_or marked at false) (leads_to insns (targets i.op) at)
    (list_any (λ (k : JInsn). leads_to insns (targets k.op) at) more)

handlers_sized : (insns : List JInsn) (more : List Catch) (marked : List Bool)
    → length (with_handlers insns marked more) ≡ length marked
handlers_sized insns [] marked = refl
handlers_sized insns (c ∷ more) marked = handlers_sized insns more (with_mark marked (place_at insns c.target))
    ∙ mark_sized marked (place_at insns c.target)

handlers_each : (insns : List JInsn) (more : List Catch) (marked : List Bool) (at : ℕ) → at < length marked
    → get_or (with_handlers insns marked more) at false ≡ (get_or marked at false
    || list_any (λ (c : Catch). is_place (place_at insns c.target) at) more)
handlers_each insns [] marked at lt = or_false (get_or marked at false)
handlers_each insns (c ∷ more) marked at lt =
    let sized = mark_sized marked (place_at insns c.target) in
    handlers_each insns more (with_mark marked (place_at insns c.target)) at (omega (arith, lt, sized))
    ∙ ap (λ (b : Bool). b || list_any (λ (d : Catch). is_place (place_at insns d.target) at) more)
    (mark_each marked (place_at insns c.target) at lt)
    ∙ or_assoc (get_or marked at false) (is_place (place_at insns c.target) at)
    (list_any (λ (d : Catch). is_place (place_at insns d.target) at) more)

first_mark : (at : ℕ) → (0 == at) ≡ (at == 0)
first_mark at = go (0 == at) (at == 0) refl refl
  where
    go : (a b : Bool) → (0 == at) ≡ a → (at == 0) ≡ b → a ≡ b
    go true true e f = refl
    go false false e f = refl
    go true false e f = absurd (eqb-false at 0 f (sym (eqb-true 0 at e)))
    go false true e f = absurd (eqb-false 0 at e (sym (eqb-true at 0 f)))

module _ (b : Body) where
  unmarked : List Bool
  unmarked = replicate (length b.insns) false

  begun : List Bool
  begun = with_mark unmarked (Some 0)

  begun_sized : length begun ≡ length b.insns
  unfolding begun unmarked
  begun_sized = mark_sized unmarked (Some 0) ∙ length-replicate (length b.insns) false

  begun_each : (at : ℕ) → at < length b.insns → get_or begun at false ≡ (at == 0)
  unfolding begun unmarked
  begun_each at lt =
      let sized = length-replicate (length b.insns) false in
      mark_each unmarked (Some 0) at (omega (arith, lt, sized)) ∙ ap (λ (was : Bool). was
      || (0 == at)) (get_or-replicate (length b.insns) at false false lt) ∙ first_mark at

  pub all_sized : length (with_all b) ≡ length b.insns
  unfolding begun unmarked
  all_sized = handlers_sized b.insns b.catches (with_jumps b.insns begun b.insns) ∙ jumps_sized b.insns b.insns begun
      ∙ begun_sized

  all_each : (at : ℕ) → at < length b.insns → get_or (with_all b) at false ≡ is_marked b at
  unfolding begun unmarked
  all_each at lt =
      let sized = begun_sized in
      let jumped = jumps_sized b.insns b.insns begun in
      handlers_each b.insns b.catches (with_jumps b.insns begun b.insns) at (omega (arith, lt, sized, jumped))
      ∙ ap (λ (was : Bool). was || is_handler b at) (jumps_each b.insns b.insns begun at (omega (arith, lt, sized))
      ∙ ap (λ (was : Bool). was || is_jumped_to b at) (begun_each at lt))
      ∙ or_assoc (at == 0) (is_jumped_to b at) (is_handler b at)

filter_same : (p q : ℕ → Bool) (a n : ℕ) → ((at : ℕ) → a ≤ at → at < a + n → p at ≡ q at)
    → filter p (range_with_len a n) ≡ filter q (range_with_len a n)
filter_same p q a zero h = refl
filter_same p q a (suc n) h =
    let rest : List ℕ = range_with_len (a + 1) n in
    ap (λ (is : Bool). cond is (a ∷ filter p rest) (filter p rest)) (h a (omega arith) (omega arith))
    ∙ ap (λ (more : List ℕ). cond (q a) (a ∷ more) more) (filter_same p q (a + 1) n
    (λ at le lt. h at (omega (arith, le)) (omega (arith, lt))))

-- the places that are marked step by step are the marked places
pub marks_same : (b : Body) → marks_in (with_all b) ≡ marks_of b
marks_same b =
    ap (λ n. filter (λ at. get_or (with_all b) at false) (range_with_len 0 n)) (all_sized b)
    ∙ filter_same (λ at. get_or (with_all b) at false) (is_marked b) 0 (length b.insns) (λ at le lt. all_each b at
    (omega (arith, lt)))

-- ---- where edges go

-- where an item passes, some item passes
pub any_has : {X : Type 0} (p : X → Bool) (xs : List X) (x : X) → Contains xs x → p x ≡ true → list_any p xs ≡ true
any_has p [] x has e = absurd (contains_none x has)
any_has p (y ∷ ys) x has e = elim (contains_cons y ys x has) [
  | inl same ↦ ap (λ (b : Bool). b || list_any p ys) (ap p same ∙ e)
  | inr later ↦ ap (λ (b : Bool). p y || b) (any_has p ys x later e) ∙ or_true (p y)
]

-- an item that stands at a place of a list is one of it
pub contains_at : {X : Type 0} (xs : List X) (k : ℕ) (x : X) → slice_get xs k ≡ Some x → Contains xs x
contains_at xs k x e = (k, slice_get_within xs k x e, get_or_from_slice_get xs k x x e)

-- each item of a mapped list is that of an item of the list
pub map_from : {X Y : Type 0} (f : X → Y) (xs : List X) (y : Y) → Contains (map f xs) y → (x : X) × Contains xs x
    × (f x ≡ y)
map_from f [] y has = absurd (contains_none y has)
map_from f (x ∷ xs) y has = elim (contains_cons (f x) (map f xs) y has) [
  | inl same ↦ (x, contains_head x xs, same)
  | inr later ↦ let from = map_from f xs y later in (from.0, contains_tail x xs from.0 from.1, from.2)
]

placed_at : (b : Body) (offset to : ℕ) → place_at b.insns offset ≡ Some to → is_place (place_at b.insns offset) to
    ≡ true
placed_at b offset to e = ap (λ (o : Option ℕ). is_place o to) e ∙ same_self to

place_within : (insns : List JInsn) (offset to : ℕ) → place_at insns offset ≡ Some to → to < length insns
place_within insns offset to e = (position-Some (λ (i : JInsn). i.at == offset) insns to (record {
  at = 0;
  op = jop.Nop;
}) e).0

-- the place is marked
pub record IsMark (b : Body) (to : ℕ) : Type 0 where
  pub inside : to < length b.insns
  pub marked : is_marked b to ≡ true

-- a place to which a jump or a switch leads is marked
pub jump_marked : (b : Body) (at : ℕ) (insn : JInsn) (to : ℕ) → slice_get b.insns at ≡ Some insn
    → Contains (filter_map (place_at b.insns) (targets insn.op)) to → IsMark b to
jump_marked b at insn to is has =
    let from = kept_from (place_at b.insns) (targets insn.op) to has in
    let jumps : is_jumped_to b to ≡ true = any_has (λ (i : JInsn). leads_to b.insns (targets i.op) to) b.insns insn
    (contains_at b.insns at insn is)
    (any_has (λ offset. is_place (place_at b.insns offset) to) (targets insn.op) from.0 from.1 (placed_at b from.0 to
    from.2)) in
    record {
      inside = place_within b.insns from.0 to from.2;
      marked = ap (λ (j : Bool). (to == 0) || (j || is_handler b to)) jumps ∙ or_true (to == 0);
    }

handler_to : (insns : List JInsn) (offset : ℕ) (x : State) (c : Catch) (e : Edge State) → handler_edge insns offset x c
    ≡ Some e → place_at insns c.target ≡ Some e.to
handler_to insns offset x c e is = go (covers c offset) (place_at insns c.target) is
  where
    go : (covered : Bool) (o : Option ℕ) → cond covered (option_map (edge (caught c x)) o) None ≡ Some e → o ≡ Some e.to
    go true None h = absurd cc
    go true (Some to) h = let same : edge (caught c x) to ≡ e = cc in ap (λ (f : Edge State). Some f.to) same
    go false o h = absurd cc

-- a place where a handler begins is marked
pub handles_marked : (b : Body) (c : Catch) (to : ℕ) → Contains b.catches c → place_at b.insns c.target ≡ Some to
    → IsMark b to
handles_marked b c to has found =
    let handles : is_handler b to ≡ true = any_has (λ (d : Catch). is_place (place_at b.insns d.target) to) b.catches c
    has (placed_at b c.target to found) in
    record {
      inside = place_within b.insns c.target to found;
      marked = ap (λ (h : Bool). (to == 0) || (is_jumped_to b to || h)) handles ∙ ap (λ (j : Bool). (to == 0)
          || j) (or_true (is_jumped_to b to)) ∙ or_true (to == 0);
    }

handler_marked : (b : Body) (offset : ℕ) (x : State) (e : Edge State)
    → Contains (filter_map (handler_edge b.insns offset x) b.catches) e → IsMark b e.to
handler_marked b offset x e has =
    let from = kept_from (handler_edge b.insns offset x) b.catches e has in
    handles_marked b from.0 e.to from.1 (handler_to b.insns offset x from.0 e from.2)

mark_in : (b : Body) (to : ℕ) → IsMark b to → Contains (marks_of b) to
mark_in b to h = let lt = h.inside in kept_has (is_marked b) 0 (length b.insns) to (omega arith) (omega (arith, lt))
    h.marked

-- the place that execution may fall through to is the one behind
pub next_to : (on : Bool) (places at to : ℕ) → Contains (next_place on places at) to → to ≡ suc at
next_to false places at to has = absurd (contains_none to has)
next_to true places at to has = go (nat_lt (at + 1) places) has
  where
    go : (lt : Bool) → Contains (cond lt ((at + 1) ∷ []) []) to → to ≡ suc at
    go false has = absurd (contains_none to has)
    go true has = elim (contains_cons (at + 1) [] to has) [
      | inl same ↦ omega (arith, same)
      | inr none ↦ absurd (contains_none to none)
    ]

edge_goes : (b : Body) (at : ℕ) (insn : JInsn) (x : State) (e : Edge State) → slice_get b.insns at ≡ Some insn
    → Contains (insn_edges b at insn x) e → (e.to ≡ suc at) ⊎ IsMark b e.to
edge_goes b at insn x e is has =
    elim (Contains-append_cases (map (edge (after insn.op x)) (successors b.insns at insn.op))
    (filter_map (handler_edge b.insns insn.at x) b.catches) e has) [
      | inl follows ↦
          let from = map_from (edge (after insn.op x)) (successors b.insns at insn.op) e follows in
          let to : from.0 ≡ e.to = ap (λ (f : Edge State). f.to) from.2 in
          elim (Contains-append_cases (next_place (goes_on insn.op) (length b.insns) at) (filter_map (place_at b.insns)
          (targets insn.op)) from.0 from.1) [
            | inl next ↦ inl (sym to ∙ next_to (goes_on insn.op) (length b.insns) at from.0 next)
            | inr jumps ↦ inr (subst (IsMark b) to (jump_marked b at insn from.0 is jumps))
          ]
      | inr handled ↦ inr (handler_marked b insn.at x e handled)
    ]

-- each instruction hands on to the place behind it or to marked places
pub marks_meet : (b : Body) → MeetsAt (type_flow b) (length b.insns) (marks_of b)
marks_meet b at x lt own e has = go (slice_get b.insns at) refl has
  where
    go : (o : Option JInsn) → slice_get b.insns at ≡ o → Contains (place_edges b at o x) e → (e.to ≡ suc at)
        ⊎ Contains (marks_of b) e.to
    go None is has = absurd (contains_none e has)
    go (Some insn) is has = elim (edge_goes b at insn x e is has) [
      | inl next ↦ inl next
      | inr mark ↦ inr (mark_in b e.to mark)
    ]

-- the marked places ascend, lie in the method, and have its first place among them
pub marks_are : (b : Body) → AreMarks (length b.insns) (marks_of b)
marks_are b = kept_are (is_marked b) (length b.insns) (λ some. refl)

-- ---- what goes on to a place without a mark

merged_none : {S : Type 0} (flow : Dataflow S) (row : Option S) → merged flow row None ≡ row
merged_none flow None = refl
merged_none flow (Some x) = refl

none_handed : {S : Type 0} (flow : Dataflow S) (to : ℕ) (row : Option S) (es : List (Edge S))
    → ((e : Edge S) → Contains es e → e.to ≢ to) → handed_more flow to row es ≡ row
none_handed flow to row [] h = refl
none_handed {S} flow to row (e ∷ es) h = go (none_handed flow to row es (λ f has. h f (contains_tail e es f has)))
    (e.to == to) refl
  where
    go : handed_more flow to row es ≡ row → (is : Bool) → (e.to == to) ≡ is
        → handed_more flow to (merged flow row (cond is (Some e.state) None)) es ≡ row
    go rest true is = absurd (h e (contains_head e es) (eqb-true e.to to is))
    go rest false is = ap (λ (r : Option S). handed_more flow to r es) (merged_none flow row) ∙ rest

-- a choice between twice the same is the same
pub either_way : {S : Type 0} (x : S) (b : Bool) → x ≡ cond b x x
either_way x true = refl
either_way x false = refl

abbrev arriving : {S : Type 0} → Dataflow S → (to : ℕ) → Edge S → Option S
arriving flow to e = merged flow None (cond (e.to == to) (Some e.state) None)

handed_next : {S : Type 0} (flow : Dataflow S) (edge_to : ℕ → Edge S) (on : Bool) (places at : ℕ) (y : S)
    → edge_to (suc at) ≡ record { to = suc at; state = y }
    → handed_more flow (suc at) None (map edge_to (next_place on places at)) ≡ cond (nat_lt (at + 1) places)
    (cond on (Some y) None) None
handed_next flow edge_to false places at y is = either_way None (nat_lt (at + 1) places)
handed_next {S} flow edge_to true places at y is = go (nat_lt (at + 1) places)
  where
    arrives : (n : ℕ) → n ≡ suc at → arriving flow (suc at) (edge_to n) ≡ Some y
    arrives n same =
        ap (λ (k : ℕ). arriving flow (suc at) (edge_to k)) same
        ∙ ap (arriving flow (suc at)) is
        ∙ ap (λ (here : Bool). merged flow None (cond here (Some y) None)) (same_self (suc at))

    go : (lt : Bool) → handed_more flow (suc at) None (map edge_to (cond lt ((at + 1) ∷ []) [])) ≡ cond lt (Some y) None
    go true = arrives (at + 1) (omega arith)
    go false = refl

-- of an instruction that hands one state to those that may follow, where neither its jumps nor its handlers lead to the
-- place behind
pub handed_behind : {S : Type 0} (flow : Dataflow S) (b : Body) (at : ℕ) (insn : JInsn) (edge_to : ℕ
    → Edge S) (handlers : List (Edge S)) (y : S) → ((to : ℕ) → (edge_to to).to ≡ to) → edge_to (suc at) ≡ record {
      to =
          suc at;
      state = y;
    }
    → ((to : ℕ) → Contains (filter_map (place_at b.insns) (targets insn.op)) to → to ≢ suc at)
    → ((e : Edge S) → Contains handlers e → e.to ≢ suc at)
    → handed flow (suc at) (map edge_to (successors b.insns at insn.op) ++ handlers)
    ≡ cond (nat_lt (at + 1) (length b.insns)) (cond (goes_on insn.op) (Some y) None) None
handed_behind {S} flow b at insn edge_to handlers y goes is jumped handled =
    let next = next_place (goes_on insn.op) (length b.insns) at in
    let jumps = filter_map (place_at b.insns) (targets insn.op) in
    let no_handler = none_handed flow (suc at) (handed_more flow (suc at) None (map edge_to (next ++ jumps))) handlers
    handled in
    let no_jump = none_handed flow (suc at) (handed_more flow (suc at) None (map edge_to next)) (map edge_to jumps)
    (λ e has same.
    let from = map_from edge_to jumps e has in
    jumped from.0 from.1 (sym (goes from.0) ∙ ap (λ (f : Edge S). f.to) from.2 ∙ same)) in
    more_append flow (suc at) None (map edge_to (next ++ jumps)) handlers
    ∙ no_handler
    ∙ ap (λ (es : List (Edge S)). handed_more flow (suc at) None es) (map-append edge_to next jumps)
    ∙ more_append flow (suc at) None (map edge_to next) (map edge_to jumps)
    ∙ no_jump
    ∙ handed_next flow edge_to (goes_on insn.op) (length b.insns) at y is

-- no jump of the instruction and no handler leads to the place behind
pub record LeadsOn (b : Body) (at : ℕ) : Type 0 where
  pub jumps : (insn : JInsn) → slice_get b.insns at ≡ Some insn → (to : ℕ)
      → Contains (filter_map (place_at b.insns) (targets insn.op)) to → to ≢ suc at
  pub handlers : (offset : ℕ) (x : State) (e : Edge State)
      → Contains (filter_map (handler_edge b.insns offset x) b.catches) e → e.to ≢ suc at

-- where neither the jumps nor the handlers lead to the place behind, it gets what falls through
pub leads_on : (b : Body) (at : ℕ) (x : State) → LeadsOn b at → handed_on (type_flow b) at (Some x) ≡ gone_on b at x
leads_on b at x free = go (slice_get b.insns at) refl
  where
    go : (o : Option JInsn) → slice_get b.insns at ≡ o → handed (type_flow b) (suc at) (place_edges b at o x)
        ≡ cond (nat_lt (at + 1) (length b.insns)) (gone_on_by o x) None
    go None is = either_way None (nat_lt (at + 1) (length b.insns))
    go (Some insn) is =
        handed_behind (type_flow b) b at insn (edge (after insn.op x)) (filter_map (handler_edge b.insns insn.at x)
        b.catches) (after insn.op x) (λ to. refl) refl
        (λ to has. free.jumps insn is to has) (λ e has. free.handlers insn.at x e has)

not_marked : (b : Body) (to : ℕ) → mark_of (marks_of b) to ≡ None → IsMark b to → ⊥
not_marked b to none h =
    let has = mark_in b to h in
    no_mark (marks_of b) (marks_are b).ascending has.0 to none (slice_get-get_or (marks_of b) has.0 to has.1
    ∙ ap Some has.2)

-- neither the jumps nor the handlers lead to a place behind that is not marked
pub leads_unmarked : (b : Body) (at : ℕ) → mark_of (marks_of b) (suc at) ≡ None → LeadsOn b at
leads_unmarked b at none = record {
  jumps = λ insn is to has same. not_marked b (suc at) none (subst (IsMark b) same (jump_marked b at insn to is has));
  handlers = λ offset y e has same. not_marked b (suc at) none (subst (IsMark b) same (handler_marked b offset y e
      has));
}

-- a place behind that is not marked gets what falls through
pub passed : (b : Body) (at : ℕ) (x : State) → mark_of (marks_of b) (suc at) ≡ None
    → handed_on (type_flow b) at (Some x) ≡ gone_on b at x
passed b at x none = leads_on b at x (leads_unmarked b at none)

-- ---- a place is marked where it is among the marks

any_from : {X : Type 0} (p : X → Bool) (xs : List X) → list_any p xs ≡ true → (x : X) × Contains xs x × (p x ≡ true)
any_from p [] e = absurd cc
any_from {X} p (y ∷ ys) e = go (p y) refl e (any_from p ys)
  where
    go : (b : Bool) → p y ≡ b → (b || list_any p ys) ≡ true → (list_any p ys ≡ true → (x : X) × Contains ys x
        × (p x ≡ true)) → (x : X) × Contains (y ∷ ys) x × (p x ≡ true)
    go true is h rest = (y, contains_head y ys, is)
    go false is h rest = let from = rest h in (from.0, contains_tail y ys from.0 from.1, from.2)

filter_only : {X : Type 0} (p : X → Bool) (xs : List X) (x : X) → Contains (filter p xs) x → p x ≡ true
filter_only p [] x has = absurd (contains_none x has)
filter_only p (y ∷ ys) x has = go (p y) refl has (filter_only p ys x)
  where
    go : (b : Bool) → p y ≡ b → Contains (cond b (y ∷ filter p ys) (filter p ys)) x → (Contains (filter p ys) x
        → p x ≡ true) → p x ≡ true
    go false e has rest = rest has
    go true e has rest = elim (contains_cons y (filter p ys) x has) [
      | inl one ↦ ap p (sym one) ∙ e
      | inr more ↦ rest more
    ]

placed_within : (b : Body) (offset to : ℕ) → is_place (place_at b.insns offset) to ≡ true → to < length b.insns
placed_within b offset to e = go (place_at b.insns offset) refl e
  where
    go : (o : Option ℕ) → place_at b.insns offset ≡ o → is_place o to ≡ true → to < length b.insns
    go None is h = absurd cc
    go (Some place) is h = let same = eqb-true place to h in let lt = place_within b.insns offset place is
        in omega (arith, same, lt)

-- where a jump, a switch or a handler leads there is an instruction
pub target_within : (b : Body) (to : ℕ) → (is_jumped_to b to || is_handler b to) ≡ true → to < length b.insns
target_within b to h = go (is_jumped_to b to) refl h
  where
    go : (j : Bool) → is_jumped_to b to ≡ j → (j || is_handler b to) ≡ true → to < length b.insns
    go true is e =
        let insn = any_from (λ (i : JInsn). leads_to b.insns (targets i.op) to) b.insns is in
        let offset = any_from (λ offset. is_place (place_at b.insns offset) to) (targets (insn.0).op) insn.2 in
        placed_within b offset.0 to offset.2
    go false is e =
        let c = any_from (λ (c : Catch). is_place (place_at b.insns c.target) to) b.catches e in
        placed_within b (c.0).target to c.2

-- a place among the marks is marked
pub mark_some : (b : Body) (to k : ℕ) → mark_of (marks_of b) to ≡ Some k → is_marked b to ≡ true
mark_some b to k is = filter_only (is_marked b) (range_with_len 0 (length b.insns)) to (contains_at (marks_of b) k to
    (mark_is (marks_of b) to k is))

-- a place that is not among the marks is not marked; of the first this is said where there are instructions
pub mark_none : (b : Body) (to : ℕ) → (to ≡ 0 → 0 < length b.insns) → mark_of (marks_of b) to ≡ None
    → is_marked b to ≡ false
mark_none b to some none = go (is_marked b to) refl
  where
    inside : is_marked b to ≡ true → to < length b.insns
    inside e = by_place (to == 0) refl e
      where
        by_place : (z : Bool) → (to == 0) ≡ z → (z || (is_jumped_to b to || is_handler b to)) ≡ true
            → to < length b.insns
        by_place true is h = let zero_is = eqb-true to 0 is in let lt = some zero_is in omega (arith, zero_is, lt)
        by_place false is h = target_within b to h

    go : (m : Bool) → is_marked b to ≡ m → m ≡ false
    go false e = refl
    go true e = absurd (not_marked b to none (record { inside = inside e; marked = e }))

-- a place that is not marked is not among the marks
pub unmarked_none : (b : Body) (to : ℕ) → is_marked b to ≡ false → mark_of (marks_of b) to ≡ None
unmarked_none b to e = go (mark_of (marks_of b) to) refl
  where
    go : (m : Option ℕ) → mark_of (marks_of b) to ≡ m → m ≡ None
    go None is = refl
    go (Some k) is = let yes = mark_some b to k is in absurd cc
