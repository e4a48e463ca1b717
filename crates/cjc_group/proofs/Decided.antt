-- What is named is what the text spells, and the place where it breaks the rule.
use Rattle.std.proofs.Common.{◌≡◌, ℕ, ◌<◌, ◌≤◌, ◌⊎◌, inl, inr, List, [], ◌∷◌, ◌++◌, length, Result, Ok, Err, refl, sym}
use Rattle.std.proofs.Common.{ap, ◌∙◌, arith}
use Rattle.std.specs.Prelude.{IfOk, IfErr}
use Rattle.cjc_bytes.specs.Text.{TextLine, kept_lines}
use Rattle.cjc_bytes.specs.Refused.{refusal, IsUnlessNoMemory}
use Rattle.cjc_bytes.specs.declared.fault.Fault.{Fault}
use Rattle.cjc_bytes.specs.declared.fault.Fault.TheVariants as faults
use Rattle.cjc_bytes.specs.declared.fault.Refusal.{Refusal}
use Rattle.cjc_list.specs.Listed.{answer}
use Rattle.cjc_group.specs.declared.line.PackageLine.{PackageLine}
use Rattle.cjc_group.specs.Grouped.{with_lines, of_lines, or_refused, grouped}
use Rattle.cjc_group.specs.Spelling.{AllSay, IsMalformedAt, IsSpelt, IsBroken, SaysBroken}
use Rattle.cjc_group.proofs.Lines.{with_lines_are, reads, lines_malformed, malformed_breaks}

-- ---- lines, of which there is one

filled : (ps : List PackageLine) (l : TextLine) (ls : List TextLine) → AllSay ps (l ∷ ls) → 0 < length ps
filled [] l ls h = absurd h
filled (p ∷ ps) l ls h = omega arith

-- the lines name so many packages
record AreNamed (ps : List PackageLine) (lines : List TextLine) : Type 0 where
  says : AllSay ps lines
  some : 0 < length ps
  within : length ps ≤ 16

lines_name : (end : ℕ) (lines : List TextLine) (ps : List PackageLine) → of_lines end lines ≡ Ok ps → AreNamed ps lines
unfolding of_lines
lines_name end [] ps e = absurd cc
lines_name end (l ∷ ls) ps e =
    let r = reads (l ∷ ls) ps e in record { says = r.0; some = filled ps l ls r.0; within = r.1 }

lines_are : (end : ℕ) (lines : List TextLine) (ps : List PackageLine) → AllSay ps lines → 0 < length ps
    → length ps ≤ 16 → of_lines end lines ≡ Ok ps
unfolding of_lines
lines_are end [] [] h some within = absurd (omega (arith, some))
lines_are end [] (p ∷ ps) h some within = absurd h
lines_are end (l ∷ ls) ps h some within = with_lines_are [] ps (l ∷ ls) h within

lines_break : (end : ℕ) (lines : List TextLine) (k : ℕ) → of_lines end lines ≡ Err k → IsMalformedAt lines k
    ⊎ ((lines ≡ []) × (k ≡ end))
unfolding of_lines
lines_break end [] k e = inr (refl, cc)
lines_break end (l ∷ ls) k e = inl (lines_malformed (l ∷ ls) k e)

-- a malformed line is one
with_one : (end : ℕ) (before after : List TextLine) (l : TextLine) → of_lines end (before ++ l ∷ after)
    ≡ with_lines [] (before ++ l ∷ after)
unfolding of_lines
with_one end [] after l = refl
with_one end (b ∷ before) after l = refl

malformed_lines : (end : ℕ) (lines : List TextLine) (k : ℕ) → IsMalformedAt lines k → of_lines end lines ≡ Err k
malformed_lines end lines k h =
    ap (of_lines end) h.3 ∙ with_one end h.0 h.1 h.2 ∙ ap (with_lines []) (sym h.3) ∙ malformed_breaks lines k h

no_lines : (end : ℕ) (lines : List TextLine) → lines ≡ [] → of_lines end lines ≡ Err end
unfolding of_lines
no_lines end lines h = ap (of_lines end) h

-- ---- both ways

or_refused_ok : (name : List ℕ) (x : Result (List PackageLine) ℕ) (ps : List PackageLine) → or_refused name x ≡ Ok ps
    → x ≡ Ok ps
or_refused_ok name (Ok qs) ps e = cc
or_refused_ok name (Err k) ps e = absurd cc

or_refused_err : (name : List ℕ) (x : Result (List PackageLine) ℕ) (r : Refusal) → or_refused name x ≡ Err r
    → (k : ℕ) × (x ≡ Err k) × (refusal name 109 k ≡ r)
or_refused_err name (Ok qs) r e = absurd cc
or_refused_err name (Err k) r e = (k, refl, cc)

pub grouped_spelt : (name text : List ℕ) (ps : List PackageLine) → grouped name text ≡ Ok ps → IsSpelt ps text
unfolding grouped
grouped_spelt name text ps e =
    let h = lines_name (length text) (kept_lines text) ps (or_refused_ok name (of_lines (length text)
    (kept_lines text)) ps e) in
    record { says = h.says; some = h.some; within = h.within }

pub spelt_grouped : (name text : List ℕ) (ps : List PackageLine) → IsSpelt ps text → grouped name text ≡ Ok ps
unfolding grouped
spelt_grouped name text ps h =
    ap (or_refused name) (lines_are (length text) (kept_lines text) ps h.says h.some h.within)

pub grouped_broken : (name text : List ℕ) (r : Refusal) → grouped name text ≡ Err r → IsBroken name text r
unfolding grouped
grouped_broken name text r e =
    let x = or_refused_err name (of_lines (length text) (kept_lines text)) r e in
    elim (lines_break (length text) (kept_lines text) x.0 x.1) [
      | inl at ↦ inl (x.0, at, sym x.2)
      | inr none ↦ inr (none.0, sym x.2 ∙ ap (refusal name 109) none.1)
    ]

pub broken_grouped : (name text : List ℕ) (r : Refusal) → IsBroken name text r → grouped name text ≡ Err r
unfolding grouped
broken_grouped name text r h = elim h [
  | inl at ↦ ap (or_refused name) (malformed_lines (length text) (kept_lines text) at.0 at.1) ∙ ap Err (sym at.2)
  | inr none ↦ ap (or_refused name) (no_lines (length text) (kept_lines text) none.0) ∙ ap Err (sym none.1)
]

-- ---- the clauses of the reader

answered_ok : (x : Result (List PackageLine) Refusal) (ps : List PackageLine) → Ok ps ≡ answer x → x ≡ Ok ps
answered_ok (Ok qs) ps e = cc
answered_ok (Err r) ps e = absurd cc

answered_err : (x : Result (List PackageLine) Refusal) (e : Fault) → Err e ≡ answer x → (r : Refusal) × (x ≡ Err r)
    × (e ≡ faults.Refused r)
answered_err (Ok qs) e h = absurd cc
answered_err (Err r) e h = (r, refl, cc)

pub found_from : (name text : List ℕ) (result : Result (List PackageLine) Fault)
    → IsUnlessNoMemory result (answer (grouped name text)) → IfOk result (λ ps. IsSpelt ps text)
found_from name text (Ok ps) h = elim h [
  | inl is ↦ grouped_spelt name text ps (answered_ok (grouped name text) ps is)
  | inr memory ↦ absurd cc
]
found_from name text (Err e) h = tt

pub only_from : (name text : List ℕ) (result : Result (List PackageLine) Fault) (ps : List PackageLine)
    → IsUnlessNoMemory result (answer (grouped name text)) → IsSpelt ps text → IsUnlessNoMemory result (Ok ps)
only_from name text result ps h spelt = elim h [
  | inl is ↦ inl (is ∙ ap answer (spelt_grouped name text ps spelt))
  | inr memory ↦ inr memory
]

refused_by : (name text : List ℕ) (e : Fault) → (r : Refusal) × (grouped name text ≡ Err r) × (e ≡ faults.Refused r)
    → SaysBroken name text e
refused_by name text e h = inr (h.0, grouped_broken name text h.0 h.1, h.2)

pub refused_from : (name text : List ℕ) (result : Result (List PackageLine) Fault)
    → IsUnlessNoMemory result (answer (grouped name text)) → IfErr result (SaysBroken name text)
refused_from name text (Ok ps) h = tt
refused_from name text (Err e) h = elim h [
  | inl is ↦ refused_by name text e (answered_err (grouped name text) e is)
  | inr memory ↦ inl cc
]

pub breaks_from : (name text : List ℕ) (result : Result (List PackageLine) Fault) (r : Refusal)
    → IsUnlessNoMemory result (answer (grouped name text)) → IsBroken name text r
    → IsUnlessNoMemory result (Err (faults.Refused r))
breaks_from name text result r h broken = elim h [
  | inl is ↦ inl (is ∙ ap answer (broken_grouped name text r broken))
  | inr memory ↦ inr memory
]

-- ---- the laws

pub one_group : (text : List ℕ) (ps qs : List PackageLine) → IsSpelt ps text → IsSpelt qs text → ps ≡ qs
one_group text ps qs a b = ok_same ps qs (sym (spelt_grouped [] text ps a) ∙ spelt_grouped [] text qs b)
  where
    ok_same : (ps qs : List PackageLine) → ◌≡◌ {A = Result (List PackageLine) Refusal} (Ok ps) (Ok qs) → ps ≡ qs
    ok_same ps qs e = cc

pub one_refusal : (name text : List ℕ) (r s : Refusal) → IsBroken name text r → IsBroken name text s → r ≡ s
one_refusal name text r s a b = err_same r s (sym (broken_grouped name text r a) ∙ broken_grouped name text s b)
  where
    err_same : (r s : Refusal) → ◌≡◌ {A = Result (List PackageLine) Refusal} (Err r) (Err s) → r ≡ s
    err_same r s e = cc

pub not_both : (name text : List ℕ) (ps : List PackageLine) (r : Refusal) → IsSpelt ps text → IsBroken name text r → ⊥
not_both name text ps r a b = let e = sym (spelt_grouped name text ps a) ∙ broken_grouped name text r b in cc

spelt_or_broken : (name text : List ℕ) (x : Result (List PackageLine) Refusal) → grouped name text ≡ x
    → ((ps : List PackageLine) × IsSpelt ps text) ⊎ ((r : Refusal) × IsBroken name text r)
spelt_or_broken name text (Ok ps) e = inl (ps, grouped_spelt name text ps e)
spelt_or_broken name text (Err r) e = inr (r, grouped_broken name text r e)

pub always_one : (name text : List ℕ) → ((ps : List PackageLine) × IsSpelt ps text)
    ⊎ ((r : Refusal) × IsBroken name text r)
always_one name text = spelt_or_broken name text (grouped name text) refl
