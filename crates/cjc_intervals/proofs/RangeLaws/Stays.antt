-- The edges of a method's range flow stay among its instructions.
use Rattle.std.proofs.Common.{◌≡◌, ◌<◌, ◌+◌, ◌==◌, ℕ, Bool, true, false, cond, nat_lt, List, [], ◌∷◌, length, slice_get}
use Rattle.std.proofs.Common.{get_or, filter_map, Option, Some, None, option_map, All, refl, ℤ}
use Rattle.std.specs.List.{cons_option}
use Rattle.std.proofs.lemmas.Bool.{ltb-true}
use Rattle.std.proofs.lemmas.List.Quantifiers.{position-Some}
use Rattle.std.proofs.lemmas.List.Elements.{All-nil, All-cons, All-append, All-map, All-contains}
use Rattle.cjc_bytes.specs.declared.fault.MemberId.{MemberId}
use Rattle.cjc_types.specs.ClassFile.declared.tree.Catch.{Catch}
use Rattle.cjc_types.specs.Bytecode.declared.insn.JInsn.{JInsn}
use Rattle.cjc_types.specs.Bytecode.declared.insn.JOp.TheVariants as jop
use Rattle.cjc_fixpoint.specs.declared.flow.Edge.{Edge}
use Rattle.cjc_fixpoint.specs.Dataflow.{StaysWithin}
use Rattle.cjc_types.specs.declared.state.State.{State}
use Rattle.cjc_types.specs.Flow.{Body, covers, next_place, place_at, successors}
use Rattle.cjc_types.specs.Search.{cells_of}
use Rattle.cjc_types.specs.Steps.{goes_on, targets}
use Rattle.cjc_intervals.specs.Flow.{caught, edge, handler_edge, place_edges, range_flow}
use Rattle.cjc_intervals.specs.Frames.{RangeState}
use Rattle.cjc_intervals.specs.Steps.{after}

place_inside : (insns : List JInsn) (offset to : ℕ) → place_at insns offset ≡ Some to → to < length insns
place_inside insns offset to e = (position-Some (λ (i : JInsn). i.at == offset) insns to (record {
  at = 0;
  op = jop.Nop;
}) e).0

next_inside : (on : Bool) (places at : ℕ) → All (λ to. to < places) (next_place on places at)
next_inside false places at = All-nil (λ to. to < places)
next_inside true places at = go (nat_lt (at + 1) places) refl
  where
    go : (b : Bool) → nat_lt (at + 1) places ≡ b → All (λ to. to < places) (cond b ((at + 1) ∷ []) [])
    go true e = All-cons (λ to. to < places) (at + 1) [] (ltb-true (at + 1) places e) (All-nil (λ to. to < places))
    go false e = All-nil (λ to. to < places)

targets_inside : (insns : List JInsn) (offsets : List ℕ)
    → All (λ to. to < length insns) (filter_map (place_at insns) offsets)
targets_inside insns [] = All-nil (λ to. to < length insns)
targets_inside insns (offset ∷ offsets) = go (place_at insns offset) refl (targets_inside insns offsets)
  where
    go : (found : Option ℕ) → place_at insns offset ≡ found
        → All (λ to. to < length insns) (filter_map (place_at insns) offsets)
        → All (λ to. to < length insns) (cons_option found (filter_map (place_at insns) offsets))
    go None e rest = rest
    go (Some to) e rest = All-cons (λ to. to < length insns) to _ (place_inside insns offset to e) rest

module _ (b : Body) (constant : MemberId → Option ℤ) (types : List (Option State)) where
  abbrev AllInside : List (Edge RangeState) → Type 0
  AllInside es = All (λ (e : Edge RangeState). e.to < length b.insns) es

  handlers_inside : (offset : ℕ) (x : RangeState) (catches : List Catch)
      → AllInside (filter_map (handler_edge b types offset x) catches)
  handlers_inside offset x [] = All-nil (λ (e : Edge RangeState). e.to < length b.insns)
  handlers_inside offset x (c ∷ cs) = go (covers c offset) (place_at b.insns c.target) refl (handlers_inside offset x
      cs)
    where
      go : (is : Bool) (found : Option ℕ) → place_at b.insns c.target ≡ found
          → AllInside (filter_map (handler_edge b types offset x) cs)
          → AllInside (cons_option (cond is (option_map (edge b types (caught x)) found) None)
          (filter_map (handler_edge b types offset x) cs))
      go false found e rest = rest
      go true None e rest = rest
      go true (Some to) e rest = All-cons (λ (e : Edge RangeState). e.to < length b.insns) _ _
          (place_inside b.insns c.target to e) rest

  edges_inside : (at : ℕ) (insn : Option JInsn) (t : Option State) (x : RangeState)
      → AllInside (place_edges b constant types at insn t x)
  edges_inside at None t x = All-nil (λ (e : Edge RangeState). e.to < length b.insns)
  edges_inside at (Some insn) None x = All-nil (λ (e : Edge RangeState). e.to < length b.insns)
  edges_inside at (Some insn) (Some t) x =
      All-append (λ (e : Edge RangeState). e.to < length b.insns) _ _
      (All-map (λ (e : Edge RangeState). e.to < length b.insns) (edge b types (after constant insn.op (cells_of t.stack)
      x)) (successors b.insns at insn.op)
      (All-append (λ to. to < length b.insns) _ _ (next_inside (goes_on insn.op) (length b.insns) at)
      (targets_inside b.insns (targets insn.op))))
      (handlers_inside insn.at x b.catches)

  pub range_flow_stays : StaysWithin (range_flow b constant types) (length b.insns)
  range_flow_stays at x lt own e is = All-contains (λ (e : Edge RangeState). e.to < length b.insns) _ e
      (edges_inside at (slice_get b.insns at) (get_or types at None) x) is
