-- The flow of a method is lawful, and stays among its instructions.
use Rattle.std.proofs.Common.{◌≡◌, ◌≤◌, ◌<◌, ◌+◌, ◌==◌, ℕ, Bool, true, false, cond, nat_lt, List, [], ◌∷◌, ◌++◌, map}
use Rattle.std.proofs.Common.{length, replicate, slice_get, filter_map, Option, Some, None, option_map, option_to_list}
use Rattle.std.proofs.Common.{All, refl, arith}
use Rattle.std.specs.List.{cons_option}
use Rattle.std.proofs.lemmas.Bool.{ltb-true}
use Rattle.std.proofs.lemmas.List.Quantifiers.{position-Some}
use Rattle.std.proofs.lemmas.List.{length-append, length-replicate, length-take-le}
use Rattle.std.proofs.lemmas.List.Elements.{All-nil, All-cons, All-append, All-take, All-replicate, All-map}
use Rattle.std.proofs.lemmas.List.Elements.{All-contains}
use Rattle.cjc_fixpoint.specs.declared.flow.Edge.{Edge}
use Rattle.cjc_fixpoint.specs.Dataflow.{IsLawful, StaysWithin, AreBelow}
use Rattle.cjc_fixpoint.specs.Shortened.{AreRepeats}
use Rattle.cjc_fixpoint.specs.Working.Edges.{AreBelowInTurn, below_from_zip, AreBelow-append, AreBelow-map}
use Rattle.cjc_fixpoint.proofs.Lattices.{flow_laws}
use Rattle.cjc_types.specs.declared.cell.Cell.{Cell}
use Rattle.cjc_types.specs.declared.cell.Cell.TheVariants.{Refs, Unusable}
use Rattle.cjc_types.specs.declared.state.State.{State}
use Rattle.cjc_types.specs.Cells.{IsCell}
use Rattle.cjc_types.specs.Names.{IsWithin}
use Rattle.cjc_types.specs.States.{most_cells, states}
use Rattle.cjc_types.specs.Working.StateLaws.{state_lattice}
use Rattle.cjc_types.specs.Working.TypeLaws.{own_one, own_null}
use Rattle.cjc_frames.specs.declared.acts.Act.{Act}
use Rattle.cjc_frames.specs.declared.acts.Step.{Step}
use Rattle.cjc_frames.specs.declared.acts.Catch.{Catch}
use Rattle.cjc_frames.specs.Acts.{given, after}
use Rattle.cjc_frames.specs.Flow.{Body, entry, place_at, next_place, successors, edge, covers, caught}
use Rattle.cjc_frames.specs.Flow.{handler_edge, step_edges, place_edges, frame_flow}
use Rattle.cjc_frames.specs.Working.GivenLaws.{own_all_given}
use Rattle.cjc_frames.specs.Working.ActLaws.{own_after, after_up}

-- ---- lists of edges

abbrev AllOwn : ℕ → List (Edge State) → Type 0
AllOwn n es = All (λ (e : Edge State). (states n).Own e.state) es

own_mapped : (n : ℕ) (x : State) (places : List ℕ) → (states n).Own x → AllOwn n (map (edge x) places)
own_mapped n x places own = All-map (λ (e : Edge State). (states n).Own e.state) (edge x) places (λ k d lt. own)

-- ---- handlers

one_cell : 1 ≤ most_cells
unfolding most_cells
one_cell = omega arith

own_type : (type : Option (List ℕ)) → IsCell (Refs (option_to_list type))
own_type None = own_null
own_type (Some type) = own_one type

own_caught : (n : ℕ) (c : Catch) (x : State) → (states n).Own x → (states n).Own (caught c x)
own_caught n c x own = (
  record { few = one_cell; own = All-cons IsCell _ [] (own_type c.caught) (All-nil IsCell) },
  own.1,
)

caught_up : (n : ℕ) (c : Catch) (x y : State) → (states n).Below x y → (states n).Below (caught c x) (caught c y)
caught_up n c x y h = ((λ n is. is, tt), h.1)

own_handlers : (n : ℕ) (steps : List Step) (offset : ℕ) (x : State) (catches : List Catch) → (states n).Own x
    → AllOwn n (filter_map (handler_edge steps offset x) catches)
own_handlers n steps offset x [] own = All-nil _
own_handlers n steps offset x (c ∷ cs) own = go (covers c offset) (place_at steps c.target) (own_handlers n steps offset
    x cs own)
  where
    go : (is : Bool) (to : Option ℕ) → AllOwn n (filter_map (handler_edge steps offset x) cs)
        → AllOwn n (cons_option (cond is (option_map (edge (caught c x)) to) None)
        (filter_map (handler_edge steps offset x) cs))
    go false to rest = rest
    go true None rest = rest
    go true (Some to) rest = All-cons (λ (e : Edge State). (states n).Own e.state) _ _ (own_caught n c x own) rest

handlers_up : (b : Body) (offset : ℕ) (x y : State) (catches : List Catch) → (states b.local_count).Below x y
    → AreBelowInTurn (frame_flow b) (filter_map (handler_edge b.steps offset x) catches)
    (filter_map (handler_edge b.steps offset y) catches)
handlers_up b offset x y [] h = tt
handlers_up b offset x y (c ∷ cs) h = go (covers c offset) (place_at b.steps c.target) (handlers_up b offset x y cs h)
  where
    go : (is : Bool) (to : Option ℕ) → AreBelowInTurn (frame_flow b) (filter_map (handler_edge b.steps offset x) cs)
        (filter_map (handler_edge b.steps offset y) cs)
        → AreBelowInTurn (frame_flow b) (cons_option (cond is (option_map (edge (caught c x)) to) None)
        (filter_map (handler_edge b.steps offset x) cs)) (cons_option (cond is (option_map (edge (caught c y)) to)
        None) (filter_map (handler_edge b.steps offset y) cs))
    go false to rest = rest
    go true None rest = rest
    go true (Some to) rest = ((refl, caught_up b.local_count c x y h), rest)

-- ---- edges

own_step : (b : Body) (at : ℕ) (s : Step) (ends : Bool) (x : State) → (states b.local_count).Own x
    → AllOwn b.local_count (step_edges b at s ends x)
own_step b at s true x own = All-nil (λ (e : Edge State). (states b.local_count).Own e.state)
own_step b at s false x own =
    All-append (λ (e : Edge State). (states b.local_count).Own e.state) _ _
    (own_mapped b.local_count (after s.act x) (successors b.steps at s.act) (own_after s.act b.local_count x own))
    (own_handlers b.local_count b.steps s.at x b.catches own)

own_place : (b : Body) (at : ℕ) (step : Option Step) (x : State) → (states b.local_count).Own x
    → AllOwn b.local_count (place_edges b at step x)
own_place b at None x own = All-nil (λ (e : Edge State). (states b.local_count).Own e.state)
own_place b at (Some s) x own = own_step b at s (let a = s.act in a.ends) x own

step_up : (b : Body) (at : ℕ) (s : Step) (ends : Bool) (x y : State) → (states b.local_count).Below x y
    → AreBelow (frame_flow b) (step_edges b at s ends x) (step_edges b at s ends y)
step_up b at s true x y h = below_from_zip (frame_flow b) [] [] tt
step_up b at s false x y h =
    AreBelow-append (frame_flow b) _ _ _ _
    (AreBelow-map (frame_flow b) (edge (after s.act x)) (edge (after s.act y)) (successors b.steps at s.act)
    (λ to. refl) (λ to. after_up s.act b.local_count x y h))
    (below_from_zip (frame_flow b) _ _ (handlers_up b s.at x y b.catches h))

place_up : (b : Body) (at : ℕ) (step : Option Step) (x y : State) → (states b.local_count).Below x y
    → AreBelow (frame_flow b) (place_edges b at step x) (place_edges b at step y)
place_up b at None x y h = below_from_zip (frame_flow b) [] [] tt
place_up b at (Some s) x y h = step_up b at s (let a = s.act in a.ends) x y h

-- ---- the entry

-- the state before the first instruction is own
pub own_entry : (b : Body) → (states b.local_count).Own (entry b)
own_entry b = (
  record { few = omega arith; own = All-nil IsCell },
  record {
    sized =
        let args : List Cell = map (given [] []) b.arguments in
        let all : List Cell = args ++ replicate b.local_count Unusable in
        let enough = length-append args (replicate b.local_count Unusable) in
        let rest = length-replicate {A = Cell} b.local_count Unusable in
        length-take-le b.local_count all (omega (arith, enough, rest));
    own = All-take IsCell b.local_count _ (All-append IsCell _ _
        (own_all_given [] [] b.arguments (All-nil IsCell) (All-nil IsCell))
        (All-replicate IsCell b.local_count Unusable tt));
  },
)

-- the flow of frames is lawful: what own states hand on is own, and grows with them
pub frame_laws : (b : Body) → IsLawful (frame_flow b)
frame_laws b = flow_laws (states b.local_count) (entry b) (λ at x. place_edges b at (slice_get b.steps at) x)
    (state_lattice b.local_count) (own_entry b)
    (λ at x own e is. All-contains (λ (e : Edge State). (states b.local_count).Own e.state) _ e
    (own_place b at (slice_get b.steps at) x own) is)
    (λ at x y own_x own_y h. place_up b at (slice_get b.steps at) x y h)

-- ---- places

abbrev AllInside : ℕ → List (Edge State) → Type 0
AllInside places es = All (λ (e : Edge State). e.to < places) es

place_inside : (steps : List Step) (offset to : ℕ) → place_at steps offset ≡ Some to → to < length steps
place_inside steps offset to e = (position-Some (λ (s : Step). s.at == offset) steps to (record {
  at = 0;
  act = no_act;
}) e).0
  where
    no_act : Act
    no_act = record {
      takes = [];
      reads = [];
      gives = [];
      writes = [];
      falls = false;
      targets = [];
      ends = false;
      misfits = false;
      is_unknown = false;
      misnames = false;
    }

next_inside : (on : Bool) (places at : ℕ) → All (λ to. to < places) (next_place on places at)
next_inside false places at = All-nil (λ to. to < places)
next_inside true places at = go (nat_lt (at + 1) places) refl
  where
    go : (b : Bool) → nat_lt (at + 1) places ≡ b → All (λ to. to < places) (cond b ((at + 1) ∷ []) [])
    go true e = All-cons (λ to. to < places) (at + 1) [] (ltb-true (at + 1) places e) (All-nil (λ to. to < places))
    go false e = All-nil (λ to. to < places)

targets_inside : (steps : List Step) (offsets : List ℕ) → All (λ to. to < length steps) (filter_map (place_at steps)
    offsets)
targets_inside steps [] = All-nil (λ to. to < length steps)
targets_inside steps (offset ∷ offsets) = go (place_at steps offset) refl (targets_inside steps offsets)
  where
    go : (found : Option ℕ) → place_at steps offset ≡ found
        → All (λ to. to < length steps) (filter_map (place_at steps) offsets)
        → All (λ to. to < length steps) (cons_option found (filter_map (place_at steps) offsets))
    go None e rest = rest
    go (Some to) e rest = All-cons (λ to. to < length steps) to _ (place_inside steps offset to e) rest

handlers_inside : (steps : List Step) (offset : ℕ) (x : State) (catches : List Catch)
    → AllInside (length steps) (filter_map (handler_edge steps offset x) catches)
handlers_inside steps offset x [] = All-nil (λ (e : Edge State). e.to < length steps)
handlers_inside steps offset x (c ∷ cs) = go (covers c offset) (place_at steps c.target) refl (handlers_inside steps
    offset x cs)
  where
    go : (is : Bool) (found : Option ℕ) → place_at steps c.target ≡ found
        → AllInside (length steps) (filter_map (handler_edge steps offset x) cs)
        → AllInside (length steps) (cons_option (cond is (option_map (edge (caught c x)) found) None)
        (filter_map (handler_edge steps offset x) cs))
    go false found e rest = rest
    go true None e rest = rest
    go true (Some to) e rest = All-cons (λ (e : Edge State). e.to < length steps) _ _ (place_inside steps c.target to e)
        rest

step_inside : (b : Body) (at : ℕ) (s : Step) (ends : Bool) (x : State)
    → AllInside (length b.steps) (step_edges b at s ends x)
step_inside b at s true x = All-nil (λ (e : Edge State). e.to < length b.steps)
step_inside b at s false x =
    All-append (λ (e : Edge State). e.to < length b.steps) _ _
    (All-map (λ (e : Edge State). e.to < length b.steps) (edge (after s.act x)) (successors b.steps at s.act)
    (All-append (λ to. to < length b.steps) _ _ (next_inside (let a = s.act in a.falls) (length b.steps) at)
    (targets_inside b.steps (let a = s.act in a.targets))))
    (handlers_inside b.steps s.at x b.catches)

edges_inside : (b : Body) (at : ℕ) (step : Option Step) (x : State)
    → AllInside (length b.steps) (place_edges b at step x)
edges_inside b at None x = All-nil (λ (e : Edge State). e.to < length b.steps)
edges_inside b at (Some s) x = step_inside b at s (let a = s.act in a.ends) x

-- an instruction of a method hands on to none outside it
pub frame_flow_stays : (b : Body) → StaysWithin (frame_flow b) (length b.steps)
frame_flow_stays b at x lt own e is = All-contains (λ (e : Edge State). e.to < length b.steps) _ e
    (edges_inside b at (slice_get b.steps at) x) is

-- no place is said to repeat another
pub none_repeat : (b : Body) → AreRepeats (frame_flow b) (λ at. false)
none_repeat b at is = absurd cc
