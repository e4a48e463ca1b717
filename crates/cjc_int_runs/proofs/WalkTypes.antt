-- Each array and object keeps its type while instructions go on in their frame.
use Rattle.std.proofs.Common.{◌≡◌, ℕ, zero, suc, ◌+◌, refl, subst}
use Rattle.std.specs.Prelude.{Option, Some, None, option_map, slice_get}
use Rattle.cjc_card_semantics.specs.Bytecode.Effects as narrow
use Rattle.cjc_ncode.specs.declared.narrow.NInsn.{NInsn}
use Rattle.cjc_ncode.specs.declared.narrow.NMethod.{NMethod}
use Rattle.cjc_ncode.specs.ByLabel.{Named, by_label, operation}
use Rattle.cjc_int_proof.specs.Walks.{Within, Out, led_by, done_by, step_from, and_then, walk}
use Rattle.cjc_narrow_proof.specs.Selection.Acts.{Keeps}
use Rattle.cjc_narrow_proof.specs.Selection.Rows.{NEffect}
use Rattle.cjc_narrow_proof.specs.Selection.Types.{TypesStay, goes_on}
use Rattle.cjc_narrow_proof.proofs.SelectionLaws.Replies.{keeps_itself}
use Rattle.cjc_narrow_proof.proofs.SelectionLaws.Types.{types_stay}
use Rattle.cjc_int_runs.specs.Steps.{NSpot, NWalked}
use Rattle.cjc_int_runs.proofs.Kept.{keeps_in_turn}

module _ (l : Named) (code : NMethod) where
  led_keeps : (s to : NSpot) (next : ℕ) (e : NEffect) → TypesStay (let m = s.memory in m.heap) e
      → led_by (by_label l) code s next e ≡ Within to
      → Keeps (let m = s.memory in m.heap) (let m = to.memory in m.heap)
  led_keeps s to next (narrow.Go at stack locals memory) (goes_on keeps) is =
      let same : record { at = at; stack = stack; locals = locals; memory = memory } ≡ to = let i = is in cc in
      subst (λ (q : NSpot). Keeps (let m = s.memory in m.heap) (let m = q.memory in m.heap)) same keeps
  led_keeps s to next (narrow.Raise fault) stays is = absurd cc
  led_keeps s to next (narrow.Toss object) stays is = absurd cc
  led_keeps s to next (narrow.Invoke method) stays is = absurd cc
  led_keeps s to next (narrow.Leave words) stays is = absurd cc
  led_keeps s to next narrow.Stick stays is = absurd cc

  step_keeps : (s to : NSpot) → step_from (by_label l) code s ≡ Within to
      → Keeps (let m = s.memory in m.heap) (let m = to.memory in m.heap)
  unfolding by_label
  step_keeps s to is = by_insn (slice_get code.insns s.at) is
    where
      by_insn : (o : Option NInsn) → done_by (by_label l) code s (option_map (λ insn. record {
        operation = operation insn;
        next = s.at + 1;
      }) o) ≡ Within to → Keeps (let m = s.memory in m.heap) (let m = to.memory in m.heap)
      by_insn None is = absurd cc
      by_insn (Some insn) is = led_keeps s to (s.at + 1) _ (types_stay l code.max_stack (s.at + 1) s.locals s.memory
          (operation insn) s.stack) is

  pub walk_keeps : (n : ℕ) (s to : NSpot) → walk (by_label l) code n s ≡ Within to
      → Keeps (let m = s.memory in m.heap) (let m = to.memory in m.heap)
  walk_keeps zero s to is = let same : s ≡ to = let i = is in cc in
      subst (λ (q : NSpot). Keeps (let m = s.memory in m.heap) (let m = q.memory in m.heap)) same
      (keeps_itself (let m = s.memory in m.heap))
  walk_keeps (suc n) s to is = by_step (λ mid rest. walk_keeps n mid to rest) (step_from (by_label l) code s) refl is
    where
      by_step : ((mid : NSpot) → walk (by_label l) code n mid ≡ Within to
          → Keeps (let m = mid.memory in m.heap) (let m = to.memory in m.heap)) → (w : NWalked) → step_from (by_label
          l) code s ≡ w → and_then w (walk (by_label l) code n) ≡ Within to
          → Keeps (let m = s.memory in m.heap) (let m = to.memory in m.heap)
      by_step further (Within mid) first rest = keeps_in_turn (let m = s.memory in m.heap) (let m = mid.memory in
          m.heap)
          (let m = to.memory in m.heap) (step_keeps s mid first) (further mid rest)
      by_step further (Out mid next asked) first rest = absurd cc
