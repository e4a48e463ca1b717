-- Classes put below others, one by one.
use Rattle.std.proofs.Common.{◌≡◌, ℕ, zero, suc, ◌+◌, ◌<◌, ◌≤◌, ◌==◌, Bool, true, false, List, [], ◌∷◌, ◌++◌, length}
use Rattle.std.proofs.Common.{get_or, map, refl, sym, ap, ◌∙◌, arith, inl, inr}
use Rattle.std.specs.Prelude.{◌||◌, ◌&&◌}
use Rattle.std.specs.List.{fold}
use Rattle.std.proofs.lemmas.Bool.{cases_lt}
use Rattle.std.proofs.lemmas.Bool.Decides.{nat_tests}
use Rattle.std.proofs.lemmas.Grind.{get_or-set_at}
use Rattle.std.proofs.lemmas.List.{get_or-set_other, get_or_default, get_or_past, length-set, length-map}
use Rattle.std.proofs.lemmas.List.Folds.{list_any-append}
use Rattle.cjc_check_index.specs.Imported.Working.Graph.{AreBelow, is_in, with_edge}
use Rattle.cjc_check_index.proofs.ImportedLaws.Loops.{or_false}
use Rattle.cjc_check_rules.proofs.BytesBools.{and_false, bool_either}
use Rattle.cjc_check_rules.proofs.BytesNumbers.{number_apart}

-- ---- one edge, and several

regroup : (x y z w : Bool) → ((x || (y && z)) || (y && w)) ≡ (x || (y && (z || w)))
regroup true y z w = refl
regroup false true z w = refl
regroup false false z w = refl

pub and_true : (y : Bool) → (y && true) ≡ y
and_true true = refl
and_true false = refl

length-with_edge : (b : ℕ) (rows : List (List ℕ)) (a : ℕ) → length (with_edge b rows a) ≡ length rows
length-with_edge b rows a = length-set rows a (get_or rows a [] ++ b ∷ [])

one_edge : (b : ℕ) (rows : List (List ℕ)) (a k j : ℕ) → j < length rows → is_in k (get_or (with_edge b rows a) j [])
    ≡ (is_in k (get_or rows j []) || ((b == k) && (a == j)))
one_edge b rows a k j lt =
    let row = get_or rows a [] ++ b ∷ [] in
    bool_either (a == j)
    (λ t.
    let same : j ≡ a = grind (arith, nat_tests, t) in
    let e : get_or (with_edge b rows a) j [] ≡ row = get_or-set_at rows a j row [] same (omega (arith, same, lt)) in
    ap (λ (xs : List ℕ). is_in k xs) e ∙ list_any-append (λ m. m == k) (get_or rows a []) (b ∷ [])
    ∙ ap (λ x. is_in k (get_or rows a []) || x) (or_false (b == k))
    ∙ ap (λ (n : ℕ). is_in k (get_or rows n []) || (b == k)) (sym same)
    ∙ ap (λ x. is_in k (get_or rows j []) || x) (sym (and_true (b == k)))
    ∙ ap (λ x. is_in k (get_or rows j []) || ((b == k) && x)) (sym t))
    (λ t.
    let e : get_or (with_edge b rows a) j [] ≡ get_or rows j [] = get_or-set_other rows a j row []
    (number_apart a j t) in
    ap (λ (xs : List ℕ). is_in k xs) e
    ∙ sym (or_false (is_in k (get_or rows j [])))
    ∙ ap (λ x. is_in k (get_or rows j []) || x) (sym (and_false (b == k)))
    ∙ ap (λ x. is_in k (get_or rows j []) || ((b == k) && x)) (sym t))

pub length-edges : (b : ℕ) (above : List ℕ) (rows : List (List ℕ)) → length (fold (with_edge b) rows above)
    ≡ length rows
length-edges b [] rows = refl
length-edges b (a ∷ above) rows = length-edges b above (with_edge b rows a) ∙ length-with_edge b rows a

edges : (b : ℕ) (above : List ℕ) (rows : List (List ℕ)) (k j : ℕ) → j < length rows
    → is_in k (get_or (fold (with_edge b) rows above) j []) ≡ (is_in k (get_or rows j [])
    || ((b == k) && is_in j above))
edges b [] rows k j lt = sym (or_false (is_in k (get_or rows j []))) ∙ ap (λ x. is_in k (get_or rows j [])
    || x) (sym (and_false (b == k)))
edges b (a ∷ above) rows k j lt =
    let l = length-with_edge b rows a in
    edges b above (with_edge b rows a) k j (omega (arith, l, lt))
    ∙ ap (λ x. x || ((b == k) && is_in j above)) (one_edge b rows a k j lt)
    ∙ regroup (is_in k (get_or rows j [])) (b == k) (a == j) (is_in j above)

-- ---- the loop over all classes: those before a place are put below what they list

pub record ArePut (i : ℕ) (above rows : List (List ℕ)) : Type 0 where
  pub size : length rows ≡ length above
  pub before : (k j : ℕ) → k < i → j < length above → is_in k (get_or rows j []) ≡ is_in j (get_or above k [])
  pub after : (k j : ℕ) → i ≤ k → j < length above → is_in k (get_or rows j []) ≡ false

abbrev none : List ℕ → List ℕ
none row = []

empty_at : (xs : List (List ℕ)) (j : ℕ) → get_or (map none xs) j [] ≡ []
empty_at [] j = refl
empty_at (x ∷ xs) zero = refl
empty_at (x ∷ xs) (suc j) = empty_at xs j

pub put_none : (above rows : List (List ℕ)) → rows ≡ map (λ row. []) above → ArePut 0 above rows
put_none above rows e = record {
  size = ap (λ (rs : List (List ℕ)). length rs) e ∙ length-map above none;
  before = λ k j lt less. absurd (omega (arith, lt));
  after = λ k j le less. ap (λ (rs : List (List ℕ)). is_in k (get_or rs j [])) e
      ∙ ap (λ (xs : List ℕ). is_in k xs) (empty_at above j);
}

pub put_more : (i : ℕ) (x : List ℕ) (above rows next : List (List ℕ)) → i < length above → x ≡ get_or above i x
    → next ≡ fold (with_edge i) rows x → ArePut i above rows → ArePut (i + 1) above next
put_more i x above rows next lt is n h = record {
  size = ap (λ (rs : List (List ℕ)). length rs) n ∙ length-edges i x rows ∙ h.size;
  before = λ k j under less.
      elim (cases_lt k i) [
        | inl small ↦ (
            let off : (i == k) ≡ false = grind (arith, nat_tests, small) in
            step k j less ∙ ap (λ b. is_in k (get_or rows j []) || (b && is_in j x)) off
            ∙ or_false (is_in k (get_or rows j [])) ∙ h.before k j small less)
        | inr big ↦ (
            let same : k ≡ i = omega (arith, under, big) in
            let on : (i == k) ≡ true = grind (arith, nat_tests, same) in
            step k j less ∙ ap (λ b. is_in k (get_or rows j []) || (b && is_in j x)) on
            ∙ ap (λ b. b || is_in j x) (h.after k j big less)
            ∙ ap (λ (ys : List ℕ). is_in j ys) row ∙ ap (λ (m : ℕ). is_in j (get_or above m [])) (sym same))
      ];
  after = λ k j le less.
      let off : (i == k) ≡ false = grind (arith, nat_tests, le) in
      let far : i ≤ k = omega (arith, le) in
      step k j less ∙ ap (λ b. is_in k (get_or rows j []) || (b && is_in j x)) off
      ∙ or_false (is_in k (get_or rows j [])) ∙ h.after k j far less;
}
  where
    step : (k j : ℕ) → j < length above → is_in k (get_or next j []) ≡ (is_in k (get_or rows j [])
        || ((i == k) && is_in j x))
    step k j less = let s = h.size in ap (λ (rs : List (List ℕ)). is_in k (get_or rs j [])) n
        ∙ edges i x rows k j (omega (arith, s, less))

    row : x ≡ get_or above i []
    row = is ∙ get_or_default above i x [] lt

pub put_all : (i : ℕ) (above rows : List (List ℕ)) → length above ≤ i → ArePut i above rows → AreBelow above rows
put_all i above rows le h = record {
  size = h.size;
  each = λ k j less.
      elim (cases_lt k i) [
        | inl small ↦ h.before k j small less
        | inr big ↦ h.after k j big less
            ∙ sym (ap (λ (xs : List ℕ). is_in j xs) (get_or_past above k [] (omega (arith, le, big))))
      ];
}
