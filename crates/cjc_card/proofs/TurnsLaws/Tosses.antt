-- What is thrown.
use Rattle.std.proofs.Common.{◌≡◌, ℕ, List, [], refl, sym, ap, subst, ◌∙◌, ◌∷◌, ◌++◌, length}
use Rattle.std.specs.Prelude.{Option, Some, None, option_map}
use Rattle.cjc_script.specs.declared.report.Note.{Note}
use Rattle.cjc_script.specs.Sorts.{Shape, OfClass}
use Rattle.cjc_card_semantics.specs.Bytecode.Effects.{HeapObject, Object, shape}
use Rattle.cjc_card_semantics.specs.Bytecode.Machine.{caught, turn_after_raise, turn_after_toss, with_heap, with_last}
use Rattle.cjc_card_semantics.specs.Machine.Loaded.{Loaded}
use Rattle.cjc_card_semantics.specs.Machine.Classes.{Class, Field}
use Rattle.cjc_card_semantics.specs.Machine.ByToken.{by_token}
use Rattle.cjc_card.specs.Acts.States.{FrameByToken, HeapByToken, StateByToken, TurnByToken}
use Rattle.cjc_card.specs.declared.turns.after.After.{After}
use Rattle.cjc_card.specs.States.{Leads, heap_of, with_frames}
use Rattle.cjc_card.proofs.TurnsLaws.Leading.{leads_as}

-- a state after a throw
abbrev pub with_thrown : List FrameByToken → List Note → StateByToken → StateByToken
with_thrown callers notes s = record s { frames = callers; notes = notes }

module _ (l : Loaded) (f : FrameByToken) (v : StateByToken) (object : ℕ) (kind : Shape Class)
    (callers : List FrameByToken) (notes : List Note) (after : After) (thrown : (s : StateByToken) → s.notes ≡ v.notes
    → Leads s.frames (caught (by_token l) f.at (f ∷ v.frames) object kind s) after (with_thrown callers notes s))
    (had : List FrameByToken) where
  -- an array or object of a type
  pub tossed_by : (o : Option (HeapObject Class Field)) → Some kind ≡ option_map shape o
      → Leads had (turn_after_toss (by_token l) o f v.frames object (with_frames had v)) after
      (with_thrown callers notes v)
  tossed_by None e = absurd (cc e)
  tossed_by (Some thing) e =
      let s : StateByToken = with_frames had v in
      let same : kind ≡ shape thing = cc e in
      leads_as had _ _ after (with_thrown callers notes v) (ap (λ k. caught (by_token l) f.at (f ∷ v.frames) object k s)
      (sym same)) (thrown s refl)

  -- a new object
  pub raised_by : (class : Class) (otherwise : TurnByToken) (heap : HeapByToken) (thing : HeapObject Class Field)
      → kind ≡ OfClass class → heap ≡ heap_of v ++ thing ∷ [] → thing ≡ Object class [] → object ≡ length (heap_of v)
      → Leads had (turn_after_raise (by_token l) (Some class) f v.frames (with_frames had v) otherwise) after
      (with_thrown callers notes (with_heap (by_token l) heap v))
  raised_by class otherwise heap thing is more new place =
      let s : StateByToken = with_last (by_token l) (Object class []) (with_frames had v) in
      let full : heap ≡ heap_of v ++ Object class [] ∷ [] = more ∙ ap (λ (t : HeapObject Class Field). heap_of v
      ++ t ∷ []) new in
      let at_place : Leads had (caught (by_token l) f.at (f ∷ v.frames) (length (heap_of v)) (OfClass class) s) after
      (with_thrown callers notes s) =
      leads_as had _ _ after (with_thrown callers notes s)
      (ap (λ n. caught (by_token l) f.at (f ∷ v.frames) n (OfClass class) s) (sym place)
      ∙ ap (λ k. caught (by_token l) f.at (f ∷ v.frames) object k s) (sym is))
      (thrown s refl) in
      subst (λ (h : HeapByToken). Leads had (caught (by_token l) f.at (f ∷ v.frames) (length (heap_of v))
      (OfClass class) s) after (with_thrown callers notes (with_heap (by_token l) h v))) (sym full) at_place
