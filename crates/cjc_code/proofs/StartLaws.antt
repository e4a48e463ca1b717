-- Where instructions start, by the list of the marks.
use Rattle.std.proofs.Common.{◌≡◌, ℕ, zero, suc, ◌+◌, ◌<◌, Bool, true, false, ◌==◌, eqb, List, [], ◌∷◌, ◌++◌, length}
use Rattle.std.proofs.Common.{map, get_or, refl, sym, ap, subst, ◌∙◌, arith, inl, inr}
use Rattle.std.specs.List.{Contains, list_any}
use Rattle.std.proofs.lemmas.Bool.{eqb-true, eq-eqb, or_right}
use Rattle.std.proofs.lemmas.List.Elements.{Contains-append_left, Contains-append_right, Contains-append_cases}
use Rattle.cjc_classfile.specs.Code.{CodeTree}
use Rattle.cjc_code.specs.declared.raw.Raw.{Raw}
use Rattle.cjc_code.specs.Cut.{cut}
use Rattle.cjc_code.specs.Unfit.{marks, starts}
use Rattle.cjc_code.specs.Rules.{starts_at, IsStart}
use Rattle.cjc_code.proofs.RuleLaws.{contains_first}
use Rattle.cjc_bytes.proofs.Quantified.{contains_later}
use Rattle.cjc_bytes.proofs.Bools.{or_cases}

abbrev hits : List ℕ → ℕ → Bool
hits ps k = list_any (λ p. p == k) ps

hit_there : (ps : List ℕ) (k : ℕ) → hits ps k ≡ true → Contains ps k
hit_there [] k e = absurd cc
hit_there (p ∷ ps) k e = elim (or_cases (eqb p k) (hits ps k) e) [
  | inl here ↦ (0, omega arith, eqb-true p k here)
  | inr later ↦ contains_later p k ps (hit_there ps k later)
]

there_hit : (ps : List ℕ) (k : ℕ) → Contains ps k → hits ps k ≡ true
there_hit [] k (n, lt, e) = absurd (omega arith)
there_hit (p ∷ ps) k (zero, lt, e) = rw (eq-eqb p k e) refl
there_hit (p ∷ ps) k (suc n, lt, e) = or_right (eqb p k) (hits ps k) (there_hit ps k (n, omega arith, e))

marked_at : (ps : List ℕ) (k n j : ℕ) → get_or (marks ps k n) j false ≡ true → (j < n) × (hits ps (k + j) ≡ true)
unfolding marks
marked_at ps k zero j e = absurd cc
marked_at ps k (suc n) zero e = let same : k ≡ k + 0 = omega arith
    in (omega arith, subst (λ (m : ℕ). hits ps m ≡ true) same e)
marked_at ps k (suc n) (suc j) e =
    let h = marked_at ps (suc k) n j e in
    let same : suc k + j ≡ k + suc j = omega arith in
    (omega (arith, h.0), subst (λ (m : ℕ). hits ps m ≡ true) same h.1)

at_marked : (ps : List ℕ) (k n j : ℕ) → j < n → hits ps (k + j) ≡ true → get_or (marks ps k n) j false ≡ true
unfolding marks
at_marked ps k zero j lt e = absurd (omega arith)
at_marked ps k (suc n) zero lt e = let same : k + 0 ≡ k = omega arith in subst (λ (m : ℕ). hits ps m ≡ true) same e
at_marked ps k (suc n) (suc j) lt e =
    let same : k + suc j ≡ suc k + j = omega arith in
    at_marked ps (suc k) n j (omega arith) (subst (λ (m : ℕ). hits ps m ≡ true) same e)

abbrev ats : List Raw → List ℕ
ats insns = map (λ (i : Raw). i.at) insns

in_ats : (insns : List Raw) (k : ℕ) → Contains (ats insns) k → (i : Raw) × Contains insns i × (i.at ≡ k)
in_ats [] k (n, lt, e) = absurd (omega arith)
in_ats (i ∷ insns) k (zero, lt, e) = (i, contains_first i insns, e)
in_ats (i ∷ insns) k (suc n, lt, e) = let h = in_ats insns k (n, omega arith, e)
    in (h.0, contains_later i h.0 insns h.1, h.2)

ats_in : (insns : List Raw) (i : Raw) (k : ℕ) → Contains insns i → i.at ≡ k → Contains (ats insns) k
ats_in [] i k (n, lt, e) h = absurd (omega arith)
ats_in (x ∷ insns) i k (zero, lt, e) h = (0, omega arith, ap (λ (r : Raw). r.at) e ∙ h)
ats_in (x ∷ insns) i k (suc n, lt, e) h = contains_later x.at k (ats insns) (ats_in insns i k (n, omega arith, e) h)

pub start_is : (code : CodeTree) (place : ℕ) → starts_at code place ≡ true → IsStart code place
unfolding starts
start_is code place e =
    let c = cut code.bytes in
    let h = marked_at (ats c.insns ++ c.stop ∷ []) 0 (length code.bytes) place e in
    let same : 0 + place ≡ place = omega arith in
    let there : Contains (ats c.insns ++ c.stop ∷ []) place = hit_there (ats c.insns ++ c.stop ∷ []) place
    (subst (λ (m : ℕ). hits (ats c.insns ++ c.stop ∷ []) m ≡ true) same h.1) in
    record {
      inside = h.0;
      starts = elim (Contains-append_cases (ats c.insns) (c.stop ∷ []) place there) [
        | inl insn ↦ inl (in_ats c.insns place insn)
        | inr stop ↦ inr (only_one c.stop place stop)
      ];
    }
  where
    only_one : (x k : ℕ) → Contains (x ∷ []) k → k ≡ x
    only_one x k (zero, lt, e) = sym e
    only_one x k (suc n, lt, e) = absurd (omega arith)

pub is_start_there : (code : CodeTree) (place : ℕ) → IsStart code place → starts_at code place ≡ true
unfolding starts
is_start_there code place h =
    let c = cut code.bytes in
    let there : Contains (ats c.insns ++ c.stop ∷ []) place = elim h.starts [
      | inl insn ↦ Contains-append_left (ats c.insns) (c.stop ∷ []) place (ats_in c.insns insn.0 place insn.1 insn.2)
      | inr stop ↦ Contains-append_right (ats c.insns) (c.stop ∷ []) place (0, omega arith, sym stop)
    ] in
    let same : place ≡ 0 + place = omega arith in
    at_marked (ats c.insns ++ c.stop ∷ []) 0 (length code.bytes) place h.inside (subst (λ (m : ℕ). hits (ats c.insns
    ++ c.stop ∷ []) m ≡ true) same (there_hit (ats c.insns ++ c.stop ∷ []) place there))
