-- Places and their distances, one after the other.
use Rattle.std.proofs.Common.{◌≡◌, ℕ, suc, ◌+◌, ◌-◌, ◌/◌, ◌%◌, ◌<◌, ◌≤◌, List, [], ◌∷◌, ◌++◌, length, get_or, drop}
use Rattle.std.proofs.Common.{refl, sym, ap, ◌∙◌, arith, append_assoc, append-nil}
use Rattle.std.proofs.lemmas.List.{drop_all}
use Rattle.cjc_pool.specs.CapRead.declared.tree.Handler.{Handler}
use Rattle.cjc_pool.specs.CheckRules.Locations.{catch_places, distance, distances}
use Rattle.cjc_methods.specs.Component.Working.Parts.{catch_place}
use Rattle.cjc_bytes.proofs.Gets.{at_item}
use Rattle.cjc_bytes.proofs.Numbers.{number_full}

-- ---- catch indices

pub catch_more : (at i : ℕ) (h : Handler) (hs : List Handler) (done next total : List ℕ) → i < length hs
    → h ≡ get_or hs i h → next ≡ done ++ catch_place at h
    → done ++ catch_places at (drop i hs) ≡ total → next ++ catch_places (at + 8) (drop (i + 1) hs) ≡ total
unfolding catch_places
catch_more at i h hs done next total lt is n so_far =
    let rest = catch_places (at + 8) (drop (i + 1) hs) in
    ap (λ (ys : List ℕ). ys ++ rest) n ∙ append_assoc done (catch_place at h) rest
    ∙ ap (λ (ys : List Handler). done ++ catch_places at ys) (sym (at_item i h hs lt is)) ∙ so_far

pub catch_all : (at i : ℕ) (hs : List Handler) (done total : List ℕ) → length hs ≤ i
    → done ++ catch_places at (drop i hs) ≡ total → done ≡ total
unfolding catch_places
catch_all at i hs done total le so_far =
    sym (append-nil done) ∙ ap (λ (ys : List Handler). done ++ catch_places at ys) (sym (drop_all i hs le)) ∙ so_far

-- ---- distances

distance_more : (n : ℕ) → 255 ≤ n → distance n ≡ 255 ∷ distance (n - 255)
distance_more n le =
    let q : n / 255 ≡ suc ((n - 255) / 255) = omega arith in
    let r : n % 255 ≡ (n - 255) % 255 = omega arith in
    rw (number_full (n / 255) ((n - 255) / 255) q, r) refl

pub distance_last : (n : ℕ) → n < 255 → distance n ≡ n ∷ []
distance_last n lt =
    let q : n / 255 ≡ 0 = omega arith in
    let r : n % 255 ≡ n = omega arith in
    rw (q, r) refl

pub full_more : (done : List ℕ) (n : ℕ) (total : List ℕ) → 255 ≤ n → done ++ distance n ≡ total → (done ++ 255 ∷ [])
    ++ distance (n - 255) ≡ total
full_more done n total le so_far = append_assoc done (255 ∷ []) (distance (n - 255)) ∙ ap (λ (ys : List ℕ). done
    ++ ys) (sym (distance_more n le)) ∙ so_far

pub full_all : (done : List ℕ) (n : ℕ) (total : List ℕ) → n < 255 → done ++ distance n ≡ total → done ++ n ∷ [] ≡ total
full_all done n total lt so_far = ap (λ (ys : List ℕ). done ++ ys) (sym (distance_last n lt)) ∙ so_far

pub distances_more : (before i at : ℕ) (places done next total : List ℕ) → i < length places → at ≡ get_or places i at
    → next ≡ done ++ distance (at - before)
    → done ++ distances before (drop i places) ≡ total → next ++ distances at (drop (i + 1) places) ≡ total
unfolding distances
distances_more before i at places done next total lt is n so_far =
    let rest = distances at (drop (i + 1) places) in
    ap (λ (ys : List ℕ). ys ++ rest) n ∙ append_assoc done (distance (at - before)) rest
    ∙ ap (λ (ys : List ℕ). done ++ distances before ys) (sym (at_item i at places lt is)) ∙ so_far

pub distances_all : (before i : ℕ) (places done total : List ℕ) → length places ≤ i
    → done ++ distances before (drop i places) ≡ total → done ≡ total
unfolding distances
distances_all before i places done total le so_far =
    sym (append-nil done) ∙ ap (λ (ys : List ℕ). done ++ distances before ys) (sym (drop_all i places le)) ∙ so_far
