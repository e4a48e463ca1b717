-- The next entry of a script, after its acts.
use Rattle.std.proofs.Common.{◌≡◌, ℕ, List, [], ◌∷◌, sym, ap, ◌∙◌, Bool, true, false}
use Rattle.std.specs.Prelude.{Option, if◌then◌else◌}
use Rattle.cjc_script.specs.declared.value.Value.{Value}
use Rattle.cjc_script.specs.declared.script.Entry.{Entry}
use Rattle.cjc_script.specs.declared.report.Outcome.TheVariants.{Unfit}
use Rattle.cjc_card_semantics.specs.Bytecode.Machine.{Ended, Start, begins, entered_by, entry_start, entry_words}
use Rattle.cjc_card_semantics.specs.Bytecode.Machine.{turn_after_acts, with_heap}
use Rattle.cjc_card_semantics.specs.Machine.Loaded.{Loaded}
use Rattle.cjc_card_semantics.specs.Machine.ByToken.{by_token}
use Rattle.cjc_card_semantics.specs.Machine.Methods.{Code}
use Rattle.cjc_card.specs.Acts.States.{HeapByToken, StateByToken, TurnByToken}
use Rattle.cjc_card.specs.States.{heap_of}

module _ (l : Loaded) (e : Entry) (rest : List Entry) (s : StateByToken) (heap : HeapByToken) (done : Bool)
    (acts : (number : ℕ) (t : StateByToken) (go : StateByToken → TurnByToken)
    → turn_after_acts (by_token l) e.acts number (with_heap (by_token l) (heap_of s) t) go ≡ (if done
    then go (with_heap (by_token l) heap t) else Ended (Unfit number) (with_heap (by_token l) heap t)))
    (next : s.entries ≡ e ∷ rest) where
  -- what follows the acts
  abbrev follows : StateByToken → TurnByToken
  follows t = entered_by (by_token l) (entry_start (by_token l) (heap_of t) e) (entry_words (by_token l) (heap_of t) e)
      e rest t

  begins_by : begins (by_token l) [] s.entries s ≡ (if done then follows (with_heap (by_token l) heap s)
      else Ended (Unfit e.number) (with_heap (by_token l) heap s))
  begins_by = ap (λ (es : List Entry). begins (by_token l) [] es s) next ∙ acts e.number s follows

  -- acts that do not fit
  pub unfit : done ≡ false → begins (by_token l) [] s.entries s ≡ Ended (Unfit e.number) (with_heap (by_token l) heap s)
  unfit is = begins_by ∙ ap (λ d. if d then follows (with_heap (by_token l) heap s)
      else Ended (Unfit e.number) (with_heap (by_token l) heap s)) is

  -- acts that fit, and then the method and the arguments
  pub fits : done ≡ true → (m : Option (Start Code)) (words : Option (List Value)) → m ≡ entry_start (by_token l) heap e
      → words ≡ entry_words (by_token l) heap e → begins (by_token l) [] s.entries s ≡ entered_by (by_token l) m words e
      rest (with_heap (by_token l) heap s)
  fits is m words by_name by_types =
      begins_by
      ∙ ap (λ d. if d then follows (with_heap (by_token l) heap s)
      else Ended (Unfit e.number) (with_heap (by_token l) heap s)) is
      ∙ ap (λ (n : Option (Start Code)). entered_by (by_token l) n (entry_words (by_token l) heap e) e rest
      (with_heap (by_token l) heap s)) (sym by_name)
      ∙ ap (λ (ws : Option (List Value)). entered_by (by_token l) m ws e rest (with_heap (by_token l) heap s))
      (sym by_types)
