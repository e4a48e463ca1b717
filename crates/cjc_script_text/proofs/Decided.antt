-- What is scripted is what the text spells, or where it breaks the rule.
use Rattle.std.proofs.Common.{◌≡◌, ℕ, ◌⊎◌, inl, inr, List, [], Result, Ok, Err, refl, sym, ap, ◌∙◌, subst}
use Rattle.std.specs.Prelude.{IfOk, IfErr}
use Rattle.cjc_list.specs.Bytes.Text.{kept_lines}
use Rattle.cjc_list.specs.Bytes.Refused.{refusal, IsUnlessNoMemory}
use Rattle.cjc_list.specs.Bytes.declared.fault.Fault.{Fault}
use Rattle.cjc_list.specs.Bytes.declared.fault.Fault.TheVariants as faults
use Rattle.cjc_list.specs.Bytes.declared.fault.Refusal.{Refusal}
use Rattle.cjc_list.specs.Listed.{answer}
use Rattle.cjc_script.specs.declared.script.Script.{Script}
use Rattle.cjc_script_text.specs.Scripted.{of_lines, refused_by, scripted}
use Rattle.cjc_script_text.specs.Spelling.{script_of, IsSpelt, SaysNothingAt, HasIdleActsAt, IsBroken, SaysBroken}
use Rattle.cjc_script_text.proofs.Steps.{steps_are_script, nothing_breaks, idle_acts_break, script_or_malformed}

okay : Script → Result Script Refusal
okay s = Ok s

pub spelt_scripted : (name text : List ℕ) (s : Script) → IsSpelt s text → scripted name text ≡ Ok s
unfolding scripted
spelt_scripted name text s h = ap (refused_by name) (steps_are_script h.0 (kept_lines text) h.1)
    ∙ ap (λ (t : Script). let r : Result Script Refusal = Ok t in r) (sym h.2)

broken_at : (text : List ℕ) (k : ℕ) → SaysNothingAt (kept_lines text) k ⊎ HasIdleActsAt (kept_lines text) k
    → of_lines (kept_lines text) ≡ Err k
broken_at text k h = elim h [
  | inl nothing ↦ nothing_breaks (kept_lines text) k nothing
  | inr idle ↦ idle_acts_break (kept_lines text) k idle
]

pub broken_scripted : (name text : List ℕ) (r : Refusal) → IsBroken name text r → scripted name text ≡ Err r
unfolding scripted
broken_scripted name text r h = ap (refused_by name) (broken_at text h.0 h.1)
    ∙ ap (λ (q : Refusal). let x : Result Script Refusal = Err q in x) (sym h.2)

pub always_one : (name text : List ℕ) → ((s : Script) × IsSpelt s text) ⊎ ((r : Refusal) × IsBroken name text r)
always_one name text = elim (script_or_malformed (kept_lines text)) [
  | inl steps ↦ inl (script_of steps.0, (steps.0, steps.1, refl))
  | inr bad ↦ inr (refusal name 105 bad.0, (bad.0, bad.1, refl))
]

ok_same : (x : Result Script Refusal) (s t : Script) → x ≡ Ok s → x ≡ Ok t → s ≡ t
ok_same x s t a b = cc

err_same : (x : Result Script Refusal) (r s : Refusal) → x ≡ Err r → x ≡ Err s → r ≡ s
err_same x r s a b = cc

never : (x : Result Script Refusal) (s : Script) (r : Refusal) → x ≡ Ok s → x ≡ Err r → ⊥
never x s r a b = cc

pub scripted_spelt : (name text : List ℕ) (s : Script) → scripted name text ≡ Ok s → IsSpelt s text
scripted_spelt name text s e = elim (always_one name text) [
  | inl spelt ↦ subst (λ (t : Script). IsSpelt t text) (ok_same (scripted name text) spelt.0 s (spelt_scripted name text
      spelt.0 spelt.1) e) spelt.1
  | inr broken ↦ absurd (never (scripted name text) s broken.0 e (broken_scripted name text broken.0 broken.1))
]

pub scripted_broken : (name text : List ℕ) (r : Refusal) → scripted name text ≡ Err r → IsBroken name text r
scripted_broken name text r e = elim (always_one name text) [
  | inl spelt ↦ absurd (never (scripted name text) spelt.0 r (spelt_scripted name text spelt.0 spelt.1) e)
  | inr broken ↦ subst (λ (q : Refusal). IsBroken name text q) (err_same (scripted name text) broken.0 r
      (broken_scripted name text broken.0 broken.1) e) broken.1
]

-- ---- the clauses of the reader

answered_ok : (x : Result Script Refusal) (s : Script) → Ok s ≡ answer x → x ≡ Ok s
answered_ok (Ok t) s e = cc
answered_ok (Err r) s e = absurd cc

answered_err : (x : Result Script Refusal) (e : Fault) → Err e ≡ answer x → (r : Refusal) × (x ≡ Err r)
    × (e ≡ faults.Refused r)
answered_err (Ok t) e h = absurd cc
answered_err (Err r) e h = (r, refl, cc)

pub found_from : (name text : List ℕ) (result : Result Script Fault)
    → IsUnlessNoMemory result (answer (scripted name text)) → IfOk result (λ s. IsSpelt s text)
found_from name text (Ok s) h = elim h [
  | inl is ↦ scripted_spelt name text s (answered_ok (scripted name text) s is)
  | inr memory ↦ absurd cc
]
found_from name text (Err e) h = tt

pub only_from : (name text : List ℕ) (result : Result Script Fault) (s : Script)
    → IsUnlessNoMemory result (answer (scripted name text)) → IsSpelt s text → IsUnlessNoMemory result (Ok s)
only_from name text result s h spelt = elim h [
  | inl is ↦ inl (is ∙ ap answer (spelt_scripted name text s spelt))
  | inr memory ↦ inr memory
]

told : (name text : List ℕ) (e : Fault) → (r : Refusal) × (scripted name text ≡ Err r) × (e ≡ faults.Refused r)
    → SaysBroken name text e
told name text e h = inr (h.0, scripted_broken name text h.0 h.1, h.2)

pub refused_from : (name text : List ℕ) (result : Result Script Fault)
    → IsUnlessNoMemory result (answer (scripted name text)) → IfErr result (SaysBroken name text)
refused_from name text (Ok s) h = tt
refused_from name text (Err e) h = elim h [
  | inl is ↦ told name text e (answered_err (scripted name text) e is)
  | inr memory ↦ inl cc
]

pub breaks_from : (name text : List ℕ) (result : Result Script Fault) (r : Refusal)
    → IsUnlessNoMemory result (answer (scripted name text)) → IsBroken name text r
    → IsUnlessNoMemory result (Err (faults.Refused r))
breaks_from name text result r h broken = elim h [
  | inl is ↦ inl (is ∙ ap answer (broken_scripted name text r broken))
  | inr memory ↦ inr memory
]

-- ---- the laws

pub one_script : (text : List ℕ) (s t : Script) → IsSpelt s text → IsSpelt t text → s ≡ t
one_script text s t a b = ok_same (scripted [] text) s t (spelt_scripted [] text s a) (spelt_scripted [] text t b)

pub one_refusal : (name text : List ℕ) (r s : Refusal) → IsBroken name text r → IsBroken name text s → r ≡ s
one_refusal name text r s a b = err_same (scripted name text) r s (broken_scripted name text r a)
    (broken_scripted name text s b)

pub not_both : (name text : List ℕ) (s : Script) (r : Refusal) → IsSpelt s text → IsBroken name text r → ⊥
not_both name text s r a b = never (scripted name text) s r (spelt_scripted name text s a) (broken_scripted name text r
    b)
