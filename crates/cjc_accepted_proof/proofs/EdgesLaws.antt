-- Where a closed table leads in a class file: behind a reached instruction, at its targets and at the handlers that
-- cover it.
use Rattle.std.proofs.Common.{◌≡◌, ℕ, suc, ◌+◌, ◌<◌, sym, ap, subst, ◌∙◌, arith, Bool, true, List, [], ◌∷◌, length, map}
use Rattle.std.proofs.Common.{filter_map, slice_get, Option, Some, None, option_map, Contains}
use Rattle.std.specs.Prelude.{nat_lt, if◌then◌else◌}
use Rattle.std.proofs.lemmas.Bool.Decides.{nat_tests}
use Rattle.std.proofs.lemmas.List.Elements.{Contains-append_left, Contains-append_right}
use Rattle.cjc_types.proofs.Typed.{contains_kept, contains_mapped}
use Rattle.cjc_types.specs.Bytecode.declared.insn.JInsn.{JInsn}
use Rattle.cjc_types.specs.ClassFile.declared.tree.Catch.{Catch}
use Rattle.cjc_types.specs.Fixpoint.Tables.{Covers, HasRow, IsClosed}
use Rattle.cjc_types.specs.Fixpoint.Working.Edges.{contains_head}
use Rattle.cjc_types.specs.Fixpoint.declared.flow.Edge.{Edge}
use Rattle.cjc_types.specs.Flow.{Body, caught, covers, edge, handler_edge, insn_edges, next_place, place_at}
use Rattle.cjc_types.specs.Flow.{place_edges, successors, type_flow}
use Rattle.cjc_types.specs.Steps.{after, goes_on, targets}
use Rattle.cjc_types.specs.declared.state.State.{State}
use Rattle.cjc_check_proof.specs.NarrowProof.Tables.Analysis.{IsDecoded}

module _ (b : Body) (rows : List (Option State)) (decoded : IsDecoded b)
    (table : IsClosed (type_flow b) (length b.insns) rows) where
  -- along an edge
  handed : (at : ℕ) (i : JInsn) (x : State) → slice_get b.insns at ≡ Some i → HasRow rows at x → (e : Edge State)
      → Contains (insn_edges b at i x) e → Covers (type_flow b) rows e.to e.state
  handed at i x there row e on = table.steps at x row e (subst (λ (o : Option JInsn). Contains (place_edges b at o x) e)
      (sym there) on)

  followed : (at : ℕ) (i : JInsn) (x : State) → slice_get b.insns at ≡ Some i → HasRow rows at x → (place : ℕ)
      → Contains (successors b.insns at i.op) place → Covers (type_flow b) rows place (after i.op x)
  followed at i x there row place on = handed at i x there row (edge (after i.op x) place) (Contains-append_left (map
      (edge (after i.op x)) (successors b.insns at i.op)) (filter_map (handler_edge b.insns i.at x) b.catches) (edge
      (after i.op x) place) (contains_mapped (edge (after i.op x)) (successors b.insns at i.op) place on))

  -- behind an instruction
  pub falls_to : (at : ℕ) (i : JInsn) (x : State) → slice_get b.insns at ≡ Some i → HasRow rows at x → goes_on i.op
      ≡ true → Covers (type_flow b) rows (suc at) (after i.op x)
  falls_to at i x there row goes =
      let lt = decoded.next at i there goes in
      let within : nat_lt (at + 1) (length b.insns) ≡ true = grind (arith, nat_tests, lt) in
      let same : at + 1 ≡ suc at = omega arith in
      let next : Contains (next_place (goes_on i.op) (length b.insns) at) (at + 1) = subst (λ (g : Bool). Contains
      (next_place g (length b.insns) at) (at + 1)) (sym goes) (subst (λ (g : Bool). Contains (if g then (at + 1) ∷ []
      else []) (at + 1)) (sym within) (contains_head (at + 1) [])) in
      subst (λ n. Covers (type_flow b) rows n (after i.op x)) same (followed at i x there row (at + 1)
      (Contains-append_left (next_place (goes_on i.op) (length b.insns) at) (filter_map (place_at b.insns) (targets
      i.op)) (at + 1) next))

  -- at a target
  pub jumps_to : (at : ℕ) (i : JInsn) (x : State) → slice_get b.insns at ≡ Some i → HasRow rows at x → (t place : ℕ)
      → Contains (targets i.op) t → place_at b.insns t ≡ Some place → Covers (type_flow b) rows place (after i.op x)
  jumps_to at i x there row t place on found = followed at i x there row place (Contains-append_right (next_place
      (goes_on i.op) (length b.insns) at) (filter_map (place_at b.insns) (targets i.op)) place (contains_kept (place_at
      b.insns) (targets i.op) t place on found))

  -- at a handler
  pub handled_to : (at : ℕ) (i : JInsn) (x : State) → slice_get b.insns at ≡ Some i → HasRow rows at x → (d : Catch)
      → Contains b.catches d → covers d i.at ≡ true → (place : ℕ) → place_at b.insns d.target ≡ Some place → Covers
      (type_flow b) rows place (caught d x)
  handled_to at i x there row d on cover place found =
      let e = edge (caught d x) place in
      let here : handler_edge b.insns i.at x d ≡ Some (edge (caught d x) place) = ap (λ (g : Bool). if g then option_map
      (edge (caught d x)) (place_at b.insns d.target) else None) cover ∙ ap (option_map (edge (caught d x))) found in
      handed at i x there row e (Contains-append_right (map (edge (after i.op x)) (successors b.insns at i.op))
      (filter_map (handler_edge b.insns i.at x) b.catches) e (contains_kept (handler_edge b.insns i.at x) b.catches d e
      on here))
