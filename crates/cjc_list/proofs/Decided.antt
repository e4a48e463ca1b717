-- What is listed is what the text spells, and the rule that it breaks.
use Rattle.std.proofs.Common.{◌≡◌, ℕ, ◌<◌, ◌⊎◌, inl, inr, Bool, true, false, cond, eqb, List, [], ◌∷◌, length, Result}
use Rattle.std.proofs.Common.{Ok, Err, refl, sym, ap, ◌∙◌, subst, arith}
use Rattle.std.specs.Prelude.{IfOk, IfErr}
use Rattle.std.proofs.lemmas.Bool.{eqb-true, eqb-false, ne_eqb, eq-eqb}
use Rattle.cjc_bytes.specs.Text.{TextLine, kept_lines}
use Rattle.cjc_bytes.specs.Refused.{refusal, IsUnlessNoMemory}
use Rattle.cjc_bytes.specs.declared.fault.Fault.{Fault}
use Rattle.cjc_bytes.specs.declared.fault.Fault.TheVariants as faults
use Rattle.cjc_bytes.specs.declared.fault.Refusal.{Refusal}
use Rattle.cjc_list.specs.declared.listing.List.{List as Listing}
use Rattle.cjc_list.specs.Grammar.{class_count}
use Rattle.cjc_list.specs.Listed.{of_lines, with_class, listed, answer}
use Rattle.cjc_list.specs.Spelling.{TextSpells, IsSpelt, IsBroken, SaysBroken}
use Rattle.cjc_list.proofs.Texts.{lines_spell, lines_are, lines_malformed, malformed_breaks}

-- a number that is not 0
some_class : (n : ℕ) → eqb n 0 ≡ false → 0 < n
some_class n e = let no : n ≡ 0 → ⊥ = eqb-false n 0 e in omega (arith, no)

-- what the test of rule 108 let through, or refused
record WithClass (x : Result Listing ℕ) (t : Listing) : Type 0 where
  read : x ≡ Ok t
  found : 0 < class_count t.lines

tested_ok : (b : Bool) (l t : Listing) (r : Refusal) → (b ≡ false → 0 < class_count l.lines) → cond b (Err r) (Ok l)
    ≡ Ok t → (0 < class_count t.lines) × (l ≡ t)
tested_ok true l t r h e = absurd cc
tested_ok false l t r h e =
    let is : l ≡ t = cc in
    let P : Listing → Type 0 = λ z. 0 < class_count z.lines in
    (subst P is (h refl), is)

tested_err : (b : Bool) (l : Listing) (r s : Refusal) → cond b (Err r) (Ok l) ≡ Err s → (b ≡ true) × (r ≡ s)
tested_err true l r s e = (refl, cc)
tested_err false l r s e = absurd cc

with_class_ok : (name : List ℕ) (end : ℕ) (x : Result Listing ℕ) (t : Listing) → with_class name end x ≡ Ok t
    → WithClass x t
with_class_ok name end (Ok l) t e =
    let p = tested_ok (eqb (class_count l.lines) 0) l t (refusal name 108 end) (some_class (class_count l.lines)) e in
    record { read = ap Ok p.1; found = p.0 }
with_class_ok name end (Err k) t e = absurd cc

with_class_is : (name : List ℕ) (end : ℕ) (t : Listing) → 0 < class_count t.lines → with_class name end (Ok t) ≡ Ok t
with_class_is name end t h = rw (ne_eqb (class_count t.lines) 0 (λ e. absurd (omega (arith, e)))) refl

with_class_none : (name : List ℕ) (end : ℕ) (t : Listing) → class_count t.lines ≡ 0 → with_class name end (Ok t)
    ≡ Err (refusal name 108 end)
with_class_none name end t h = rw (eq-eqb (class_count t.lines) 0 h) refl

with_class_err : (name : List ℕ) (end : ℕ) (x : Result Listing ℕ) (r : Refusal) → with_class name end x ≡ Err r
    → ((k : ℕ) × (x ≡ Err k) × (refusal name 107 k ≡ r)) ⊎ ((t : Listing) × (x ≡ Ok t) × (class_count t.lines ≡ 0)
    × (refusal name 108 end ≡ r))
with_class_err name end (Ok t) r e =
    let p = tested_err (eqb (class_count t.lines) 0) t (refusal name 108 end) r e in
    inr (t, refl, eqb-true _ _ p.0, p.1)
with_class_err name end (Err k) r e = inl (k, refl, cc)

-- lines that are read as a list
text_spells : (name text : List ℕ) (end : ℕ) (lines : List TextLine) (t : Listing) → kept_lines text ≡ lines
    → of_lines name end lines ≡ Ok t → TextSpells name t text
unfolding of_lines
text_spells name text end [] t parts e = absurd cc
text_spells name text end (first ∷ rest) t parts e = (first, rest, parts, lines_spell name end first rest t e)

text_is : (name text : List ℕ) (end : ℕ) (t : Listing) → TextSpells name t text → of_lines name end (kept_lines text)
    ≡ Ok t
text_is name text end t h = ap (of_lines name end) h.2 ∙ lines_are name end h.0 h.1 t h.3

-- both ways, for lists
pub listed_spelt : (name text : List ℕ) (t : Listing) → listed name text ≡ Ok t → IsSpelt name t text
unfolding listed
listed_spelt name text t e =
    let w = with_class_ok name (length text) (of_lines name (length text) (kept_lines text)) t e in
    (text_spells name text (length text) (kept_lines text) t refl w.read, w.found)

pub spelt_listed : (name text : List ℕ) (t : Listing) → IsSpelt name t text → listed name text ≡ Ok t
unfolding listed
spelt_listed name text t h = ap (with_class name (length text)) (text_is name text (length text) t h.0)
    ∙ with_class_is name (length text) t h.1

-- and for refusals
none_at_end : (name : List ℕ) (end : ℕ) (lines : List TextLine) → lines ≡ [] → of_lines name end lines ≡ Err end
unfolding of_lines
none_at_end name end lines h = ap (of_lines name end) h

pub listed_broken : (name text : List ℕ) (r : Refusal) → listed name text ≡ Err r → IsBroken name text r
unfolding listed
listed_broken name text r e = elim (with_class_err name (length text) (of_lines name (length text) (kept_lines text)) r
    e) [
      | inl h ↦ elim (lines_malformed name (length text) (kept_lines text) h.0 h.1) [
        | inl at ↦ inl (h.0, at, sym h.2)
        | inr none ↦ inr (inl (none.0, sym h.2 ∙ ap (refusal name 107) none.1))
      ]
      | inr h ↦ inr (inr (h.0, text_spells name text (length text) (kept_lines text) h.0 refl h.1, h.2, sym h.3))
    ]

pub broken_listed : (name text : List ℕ) (r : Refusal) → IsBroken name text r → listed name text ≡ Err r
unfolding listed
broken_listed name text r h = elim h [
  | inl at ↦ ap (with_class name (length text)) (malformed_breaks name (length text) (kept_lines text) at.0 at.1)
      ∙ ap Err (sym at.2)
  | inr more ↦ elim more [
    | inl none ↦ ap (with_class name (length text)) (none_at_end name (length text) (kept_lines text) none.0)
        ∙ ap Err (sym none.1)
    | inr classless ↦ ap (with_class name (length text)) (text_is name text (length text) classless.0 classless.1)
        ∙ with_class_none name (length text) classless.0 classless.2 ∙ ap Err (sym classless.3)
  ]
]

-- ---- the clauses of the reader

answered_ok : (x : Result Listing Refusal) (t : Listing) → Ok t ≡ answer x → x ≡ Ok t
answered_ok (Ok l) t e = cc
answered_ok (Err r) t e = absurd cc

answered_err : (x : Result Listing Refusal) (e : Fault) → Err e ≡ answer x → (r : Refusal) × (x ≡ Err r)
    × (e ≡ faults.Refused r)
answered_err (Ok l) e h = absurd cc
answered_err (Err r) e h = (r, refl, cc)

pub found_from : (name text : List ℕ) (result : Result Listing Fault)
    → IsUnlessNoMemory result (answer (listed name text)) → IfOk result (λ t. IsSpelt name t text)
found_from name text (Ok t) h = elim h [
  | inl is ↦ listed_spelt name text t (answered_ok (listed name text) t is)
  | inr memory ↦ absurd cc
]
found_from name text (Err e) h = tt

pub only_from : (name text : List ℕ) (result : Result Listing Fault) (t : Listing)
    → IsUnlessNoMemory result (answer (listed name text)) → IsSpelt name t text → IsUnlessNoMemory result (Ok t)
only_from name text result t h spelt = elim h [
  | inl is ↦ inl (is ∙ ap answer (spelt_listed name text t spelt))
  | inr memory ↦ inr memory
]

refused_by : (name text : List ℕ) (e : Fault) → (r : Refusal) × (listed name text ≡ Err r) × (e ≡ faults.Refused r)
    → SaysBroken name text e
refused_by name text e h = inr (h.0, listed_broken name text h.0 h.1, h.2)

pub refused_from : (name text : List ℕ) (result : Result Listing Fault)
    → IsUnlessNoMemory result (answer (listed name text)) → IfErr result (SaysBroken name text)
refused_from name text (Ok t) h = tt
refused_from name text (Err e) h = elim h [
  | inl is ↦ refused_by name text e (answered_err (listed name text) e is)
  | inr memory ↦ inl cc
]

pub breaks_from : (name text : List ℕ) (result : Result Listing Fault) (r : Refusal)
    → IsUnlessNoMemory result (answer (listed name text)) → IsBroken name text r
    → IsUnlessNoMemory result (Err (faults.Refused r))
breaks_from name text result r h broken = elim h [
  | inl is ↦ inl (is ∙ ap answer (broken_listed name text r broken))
  | inr memory ↦ inr memory
]

-- ---- the laws

okay : Listing → Result Listing Refusal
okay t = Ok t

pub one_list : (name text : List ℕ) (s t : Listing) → IsSpelt name s text → IsSpelt name t text → s ≡ t
one_list name text s t a b = ok_same s t (sym (spelt_listed name text s a) ∙ spelt_listed name text t b)
  where
    ok_same : (s t : Listing) → ◌≡◌ {A = Result Listing Refusal} (Ok s) (Ok t) → s ≡ t
    ok_same s t e = cc

pub one_refusal : (name text : List ℕ) (r s : Refusal) → IsBroken name text r → IsBroken name text s → r ≡ s
one_refusal name text r s a b = err_same r s (sym (broken_listed name text r a) ∙ broken_listed name text s b)
  where
    err_same : (r s : Refusal) → ◌≡◌ {A = Result Listing Refusal} (Err r) (Err s) → r ≡ s
    err_same r s e = cc

pub not_both : (name text : List ℕ) (t : Listing) (r : Refusal) → IsSpelt name t text → IsBroken name text r → ⊥
not_both name text t r a b = let e = sym (spelt_listed name text t a) ∙ broken_listed name text r b in cc

spelt_or_broken : (name text : List ℕ) (x : Result Listing Refusal) → listed name text ≡ x
    → ((t : Listing) × IsSpelt name t text) ⊎ ((r : Refusal) × IsBroken name text r)
spelt_or_broken name text (Ok t) e = inl (t, listed_spelt name text t e)
spelt_or_broken name text (Err r) e = inr (r, listed_broken name text r e)

pub always_one : (name text : List ℕ) → ((t : Listing) × IsSpelt name t text) ⊎ ((r : Refusal) × IsBroken name text r)
always_one name text = spelt_or_broken name text (listed name text) refl
