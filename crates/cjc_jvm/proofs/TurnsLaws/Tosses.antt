-- What is thrown.
use Rattle.std.proofs.Common.{◌≡◌, ℕ, List, [], refl, sym, ap, subst, ◌∙◌, ◌∷◌, ◌++◌, length}
use Rattle.std.specs.Prelude.{Option, Some, None, option_map}
use Rattle.cjc_jvm_step.specs.Script.declared.report.Note.{Note}
use Rattle.cjc_jvm_step.specs.Script.declared.report.Thing.{Thing}
use Rattle.cjc_jvm_step.specs.Script.declared.report.Thing.TheVariants.{Object}
use Rattle.cjc_jvm_semantics.specs.Linked.{Linked}
use Rattle.cjc_jvm_semantics.specs.Effects.{type_of}
use Rattle.cjc_jvm_semantics.specs.Machine.{Frame, State, heap_of, offset, stuck_at, with_heap, with_last, after_raise}
use Rattle.cjc_jvm_semantics.specs.Machine.{after_throw, after_athrow}
use Rattle.cjc_jvm.specs.declared.turns.after.After.{After}
use Rattle.cjc_jvm.specs.States.{Leads}
use Rattle.cjc_jvm.proofs.TurnsLaws.Leading.{leads_as}

-- a state after a throw
abbrev pub with_thrown : List Frame → List Note → State → State
with_thrown callers notes s = record s { frames = callers; notes = notes }

module _ (l : Linked) (f : Frame) (v : State) (object : ℕ) (name : List ℕ) (callers : List Frame) (notes : List Note)
    (after : After) (thrown : (s : State) → s.notes ≡ v.notes
    → Leads (after_throw l (offset f) (f ∷ v.frames) object name s) after (with_thrown callers notes s))
    (before : List Frame) where
  -- an array or object of a type
  pub tossed : (o : Option Thing) → Some name ≡ option_map type_of o
      → Leads (after_athrow l o f v.frames object (record v { frames = before })) after (with_thrown callers notes v)
  tossed None e = absurd (cc e)
  tossed (Some thing) e =
      let s : State = record v { frames = before } in
      let same : name ≡ type_of thing = cc e in
      leads_as _ _ after (with_thrown callers notes v) (ap (λ n. after_throw l (offset f) (f ∷ v.frames) object n s)
      (sym same)) (thrown s refl)

  -- a new object
  pub raised : (heap : List Thing) (thing : Thing) → heap ≡ heap_of v ++ thing ∷ [] → thing ≡ Object name []
      → object ≡ length (heap_of v) → Leads (after_raise l name f v.frames (record v { frames = before })) after
      (with_thrown callers notes (with_heap heap v))
  raised heap thing more is place =
      let s : State = with_last (Object name []) (record v { frames = before }) in
      let full : heap ≡ heap_of v ++ Object name [] ∷ [] = more ∙ ap (λ t. heap_of v ++ t ∷ []) is in
      let at_place : Leads (after_throw l (offset f) (f ∷ v.frames) (length (heap_of v)) name s) after
      (with_thrown callers notes s) = leads_as _ _ after (with_thrown callers notes s)
      (ap (λ n. after_throw l (offset f) (f ∷ v.frames) n name s) (sym place)) (thrown s refl) in
      subst (λ (h : List Thing). Leads (after_throw l (offset f) (f ∷ v.frames) (length (heap_of v)) name s) after
      (with_thrown callers notes (with_heap h v))) (sym full) at_place
