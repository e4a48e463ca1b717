-- The flow of a method is lawful, and stays among its instructions.
use Rattle.std.proofs.Common.{◌≡◌, ◌≤◌, ◌<◌, ◌+◌, ◌==◌, ℕ, Bool, true, false, cond, nat_lt, List, [], ◌∷◌, ◌++◌, map}
use Rattle.std.proofs.Common.{length, replicate, slice_get, filter_map, Option, Some, None, option_map, All, refl}
use Rattle.std.proofs.Common.{arith}
use Rattle.std.specs.List.{cons_option}
use Rattle.std.proofs.lemmas.Bool.{ltb-true}
use Rattle.std.proofs.lemmas.List.Quantifiers.{position-Some}
use Rattle.std.proofs.lemmas.List.{length-append, length-replicate, length-take-le}
use Rattle.std.proofs.lemmas.List.Elements.{All-nil, All-cons, All-append, All-take, All-replicate, All-map}
use Rattle.std.proofs.lemmas.List.Elements.{All-contains}
use Rattle.cjc_classfile.specs.declared.tree.Catch.{Catch}
use Rattle.cjc_code.specs.declared.insn.JInsn.{JInsn}
use Rattle.cjc_code.specs.declared.insn.JOp.TheVariants as jop
use Rattle.cjc_fixpoint.specs.declared.flow.Edge.{Edge}
use Rattle.cjc_fixpoint.specs.Dataflow.{IsLawful, StaysWithin, AreBelow}
use Rattle.cjc_fixpoint.specs.Working.Edges.{AreBelowInTurn, below_from_zip, AreBelow-append, AreBelow-map}
use Rattle.cjc_fixpoint.proofs.Lattices.{flow_laws}
use Rattle.cjc_bytes.specs.AccessFlags.{is_static}
use Rattle.cjc_types.specs.declared.cell.Cell.{Cell}
use Rattle.cjc_types.specs.declared.cell.Cell.TheVariants.{Refs, Unusable}
use Rattle.cjc_types.specs.declared.state.State.{State}
use Rattle.cjc_types.specs.Cells.{IsCell}
use Rattle.cjc_types.specs.States.{most_cells, states}
use Rattle.cjc_types.specs.Working.StateLaws.{state_lattice}
use Rattle.cjc_types.specs.Types.{parts, value_of}
use Rattle.cjc_types.specs.Working.TypeLaws.{own_one, own_value}
use Rattle.cjc_types.specs.Steps.{after, goes_on, targets}
use Rattle.cjc_types.specs.Working.StepLaws.{own_after, after_up}
use Rattle.cjc_types.specs.Flow.{Body, arguments, entry, place_at, next_place, successors, edge, covers, caught_type}
use Rattle.cjc_types.specs.Flow.{caught, handler_edge, place_edges, type_flow}

-- ---- lists of edges

abbrev AllOwn : Body → List (Edge State) → Type 0
AllOwn b es = All (λ (e : Edge State). (states b.max_locals).Own e.state) es

own_mapped : (b : Body) (x : State) (places : List ℕ) → (states b.max_locals).Own x → AllOwn b (map (edge x) places)
own_mapped b x places own = All-map (λ (e : Edge State). (states b.max_locals).Own e.state) (edge x) places
    (λ k d lt. own)

-- ---- handlers

one_cell : 1 ≤ most_cells
unfolding most_cells
one_cell = omega arith

own_caught : (b : Body) (c : Catch) (x : State) → (states b.max_locals).Own x → (states b.max_locals).Own (caught c x)
own_caught b c x own = (
  record {
    few = one_cell;
    own = All-cons IsCell _ [] (own_one (caught_type c.class))
        (All-nil IsCell);
  },
  own.1,
)

caught_up : (b : Body) (c : Catch) (x y : State) → (states b.max_locals).Below x y
    → (states b.max_locals).Below (caught c x) (caught c y)
caught_up b c x y h = ((λ n is. is, tt), h.1)

own_handlers : (b : Body) (offset : ℕ) (x : State) (catches : List Catch) → (states b.max_locals).Own x
    → AllOwn b (filter_map (handler_edge b.insns offset x) catches)
own_handlers b offset x [] own = All-nil _
own_handlers b offset x (c ∷ cs) own = go (covers c offset) (place_at b.insns c.target) (own_handlers b offset x cs own)
  where
    go : (is : Bool) (to : Option ℕ) → AllOwn b (filter_map (handler_edge b.insns offset x) cs)
        → AllOwn b (cons_option (cond is (option_map (edge (caught c x)) to) None)
        (filter_map (handler_edge b.insns offset x) cs))
    go false to rest = rest
    go true None rest = rest
    go true (Some to) rest = All-cons (λ (e : Edge State). (states b.max_locals).Own e.state) _ _ (own_caught b c x own)
        rest

handlers_up : (b : Body) (offset : ℕ) (x y : State) (catches : List Catch) → (states b.max_locals).Below x y
    → AreBelowInTurn (type_flow b) (filter_map (handler_edge b.insns offset x) catches)
    (filter_map (handler_edge b.insns offset y) catches)
handlers_up b offset x y [] h = tt
handlers_up b offset x y (c ∷ cs) h = go (covers c offset) (place_at b.insns c.target) (handlers_up b offset x y cs h)
  where
    go : (is : Bool) (to : Option ℕ) → AreBelowInTurn (type_flow b) (filter_map (handler_edge b.insns offset x) cs)
        (filter_map (handler_edge b.insns offset y) cs)
        → AreBelowInTurn (type_flow b) (cons_option (cond is (option_map (edge (caught c x)) to) None)
        (filter_map (handler_edge b.insns offset x) cs)) (cons_option (cond is (option_map (edge (caught c y)) to)
        None) (filter_map (handler_edge b.insns offset y) cs))
    go false to rest = rest
    go true None rest = rest
    go true (Some to) rest = ((refl, caught_up b c x y h), rest)

-- ---- edges

own_place : (b : Body) (at : ℕ) (insn : Option JInsn) (x : State) → (states b.max_locals).Own x
    → AllOwn b (place_edges b at insn x)
own_place b at None x own = All-nil (λ (e : Edge State). (states b.max_locals).Own e.state)
own_place b at (Some insn) x own =
    All-append (λ (e : Edge State). (states b.max_locals).Own e.state) _ _
    (own_mapped b (after insn.op x) (successors b.insns at insn.op) (own_after insn.op b.max_locals x own))
    (own_handlers b insn.at x b.catches own)

place_up : (b : Body) (at : ℕ) (insn : Option JInsn) (x y : State) → (states b.max_locals).Below x y
    → AreBelow (type_flow b) (place_edges b at insn x) (place_edges b at insn y)
place_up b at None x y h = below_from_zip (type_flow b) [] [] tt
place_up b at (Some insn) x y h =
    AreBelow-append (type_flow b) _ _ _ _
    (AreBelow-map (type_flow b) (edge (after insn.op x)) (edge (after insn.op y)) (successors b.insns at insn.op)
    (λ to. refl) (λ to. after_up insn.op b.max_locals x y h))
    (below_from_zip (type_flow b) _ _ (handlers_up b insn.at x y b.catches h))

-- ---- the entry

own_arguments : (b : Body) → All IsCell (arguments b)
own_arguments b = All-append IsCell _ _ (go (is_static b.flags)) (All-map IsCell value_of (parts b.desc).params
    (λ k d lt. own_value _))
  where
    go : (is : Bool) → All IsCell (cond is [] (Refs (b.class ∷ []) ∷ []))
    go true = All-nil IsCell
    go false = All-cons IsCell _ [] (own_one b.class) (All-nil IsCell)

-- the state before the first instruction is own
pub own_entry : (b : Body) → (states b.max_locals).Own (entry b)
own_entry b = (
  record { few = omega arith; own = All-nil IsCell },
  record {
    sized =
        let all : List Cell = arguments b ++ replicate b.max_locals Unusable in
        let enough = length-append (arguments b) (replicate b.max_locals Unusable) in
        let rest = length-replicate {A = Cell} b.max_locals Unusable in
        length-take-le b.max_locals all (omega (arith, enough, rest));
    own = All-take IsCell b.max_locals _ (All-append IsCell _ _ (own_arguments b) (All-replicate IsCell b.max_locals
        Unusable tt));
  },
)

-- the flow of types is lawful: what own states hand on is own, and grows with them
pub type_laws : (b : Body) → IsLawful (type_flow b)
type_laws b = flow_laws (states b.max_locals) (entry b) (λ at x. place_edges b at (slice_get b.insns at) x)
    (state_lattice b.max_locals) (own_entry b)
    (λ at x own e is. All-contains (λ (e : Edge State). (states b.max_locals).Own e.state) _ e
    (own_place b at (slice_get b.insns at) x own) is)
    (λ at x y own_x own_y h. place_up b at (slice_get b.insns at) x y h)

-- ---- places

abbrev AllInside : ℕ → List (Edge State) → Type 0
AllInside places es = All (λ (e : Edge State). e.to < places) es

place_inside : (insns : List JInsn) (offset to : ℕ) → place_at insns offset ≡ Some to → to < length insns
place_inside insns offset to e = (position-Some (λ (i : JInsn). i.at == offset) insns to (record {
  at = 0;
  op = jop.Nop;
}) e).0

next_inside : (on : Bool) (places at : ℕ) → All (λ to. to < places) (next_place on places at)
next_inside false places at = All-nil (λ to. to < places)
next_inside true places at = go (nat_lt (at + 1) places) refl
  where
    go : (b : Bool) → nat_lt (at + 1) places ≡ b → All (λ to. to < places) (cond b ((at + 1) ∷ []) [])
    go true e = All-cons (λ to. to < places) (at + 1) [] (ltb-true (at + 1) places e) (All-nil (λ to. to < places))
    go false e = All-nil (λ to. to < places)

targets_inside : (insns : List JInsn) (offsets : List ℕ)
    → All (λ to. to < length insns) (filter_map (place_at insns) offsets)
targets_inside insns [] = All-nil (λ to. to < length insns)
targets_inside insns (offset ∷ offsets) = go (place_at insns offset) refl (targets_inside insns offsets)
  where
    go : (found : Option ℕ) → place_at insns offset ≡ found
        → All (λ to. to < length insns) (filter_map (place_at insns) offsets)
        → All (λ to. to < length insns) (cons_option found (filter_map (place_at insns) offsets))
    go None e rest = rest
    go (Some to) e rest = All-cons (λ to. to < length insns) to _ (place_inside insns offset to e) rest

handlers_inside : (b : Body) (offset : ℕ) (x : State) (catches : List Catch)
    → AllInside (length b.insns) (filter_map (handler_edge b.insns offset x) catches)
handlers_inside b offset x [] = All-nil (λ (e : Edge State). e.to < length b.insns)
handlers_inside b offset x (c ∷ cs) = go (covers c offset) (place_at b.insns c.target) refl (handlers_inside b offset x
    cs)
  where
    go : (is : Bool) (found : Option ℕ) → place_at b.insns c.target ≡ found
        → AllInside (length b.insns) (filter_map (handler_edge b.insns offset x) cs)
        → AllInside (length b.insns) (cons_option (cond is (option_map (edge (caught c x)) found) None)
        (filter_map (handler_edge b.insns offset x) cs))
    go false found e rest = rest
    go true None e rest = rest
    go true (Some to) e rest = All-cons (λ (e : Edge State). e.to < length b.insns) _ _ (place_inside b.insns c.target
        to e) rest

edges_inside : (b : Body) (at : ℕ) (insn : Option JInsn) (x : State)
    → AllInside (length b.insns) (place_edges b at insn x)
edges_inside b at None x = All-nil (λ (e : Edge State). e.to < length b.insns)
edges_inside b at (Some insn) x =
    All-append (λ (e : Edge State). e.to < length b.insns) _ _
    (All-map (λ (e : Edge State). e.to < length b.insns) (edge (after insn.op x)) (successors b.insns at insn.op)
    (All-append (λ to. to < length b.insns) _ _ (next_inside (goes_on insn.op) (length b.insns) at)
    (targets_inside b.insns (targets insn.op))))
    (handlers_inside b insn.at x b.catches)

-- an instruction of a method hands on to none outside it
pub type_flow_stays : (b : Body) → StaysWithin (type_flow b) (length b.insns)
type_flow_stays b at x lt own e is = All-contains (λ (e : Edge State). e.to < length b.insns) _ e
    (edges_inside b at (slice_get b.insns at) x) is
