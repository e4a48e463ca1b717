-- Offsets of methods that ascend, in loops; and the starts of interfaces and classes as one list.
use Rattle.std.proofs.Common.{◌≡◌, ℕ, zero, suc, ◌+◌, ◌-◌, ◌<◌, ◌≤◌, List, [], ◌∷◌, ◌++◌, length, get_or, drop, refl}
use Rattle.std.proofs.Common.{sym, ap, ◌∙◌, arith, Option, Some, None, slice_get, length-append}
use Rattle.std.proofs.lemmas.List.{drop_more, drop_all}
use Rattle.std.proofs.lemmas.Option.{slice_get-get_or, slice_get_past}
use Rattle.cjc_capread.specs.declared.tree.ClassInfo.{ClassInfo}
use Rattle.cjc_capread.specs.declared.tree.ClassDescriptor.{ClassDescriptor}
use Rattle.cjc_capread.specs.declared.tree.MethodDescriptor.{MethodDescriptor}
use Rattle.cjc_check_rules.specs.declared.spot.ComponentPlace.{ComponentPlace}
use Rattle.cjc_check_rules.specs.Spots.{earlier, first, in_info, unless}
use Rattle.cjc_check_rules.specs.Complete.{described_size}
use Rattle.cjc_check_rules.specs.Described.{all_ascend, is_after, last_offset, methods_ascend, methods_in_class}
use Rattle.cjc_check_rules.specs.Described.{offset_after}
use Rattle.cjc_check_rules.proofs.Firsts.{earlier_none, earlier_assoc, first_append}

-- ---- the methods of one class

pub methods_more : (before : Option ℕ) (at i : ℕ) (d : MethodDescriptor) (ms : List MethodDescriptor)
    (best found total : Option ComponentPlace)
    → i < length ms → found ≡ first (unless (is_after before (get_or ms i d).offset) (in_info 11 (at + 2)))
    → earlier best (first (methods_ascend before at (drop i ms))) ≡ total
    → earlier (earlier best found) (first (methods_ascend (Some (get_or ms i d).offset) (at + 12) (drop (i + 1) ms)))
    ≡ total
unfolding methods_ascend
methods_more before at i d ms best found total lt f so_far =
    let m = get_or ms i d in
    let front = unless (is_after before m.offset) (in_info 11 (at + 2)) in
    let rest = methods_ascend (Some m.offset) (at + 12) (drop (i + 1) ms) in
    let one : first (methods_ascend before at (drop i ms)) ≡ earlier (first front) (first rest) =
    ap (λ (ys : List MethodDescriptor). first (methods_ascend before at ys)) (drop_more ms i d lt)
    ∙ first_append front rest in
    rw f (earlier_assoc best (first front) (first rest) ∙ ap (earlier best) (sym one) ∙ so_far)

pub methods_all : (before : Option ℕ) (at i : ℕ) (ms : List MethodDescriptor) (best total : Option ComponentPlace)
    → length ms ≤ i → earlier best (first (methods_ascend before at (drop i ms))) ≡ total → best ≡ total
unfolding methods_ascend first
methods_all before at i ms best total le so_far =
    sym (earlier_none best) ∙ ap (λ (ys : List MethodDescriptor). earlier best (first (methods_ascend before at ys)))
    (sym (drop_all i ms le)) ∙ so_far

pub last_more : (before : Option ℕ) (i : ℕ) (d : MethodDescriptor) (ms : List MethodDescriptor) (total : Option ℕ)
    → i < length ms → last_offset before (drop i ms) ≡ total
    → last_offset (Some (get_or ms i d).offset) (drop (i + 1) ms) ≡ total
last_more before i d ms total lt so_far = sym (ap (last_offset before) (drop_more ms i d lt)) ∙ so_far

pub last_all : (before : Option ℕ) (i : ℕ) (ms : List MethodDescriptor) (total : Option ℕ) → length ms ≤ i
    → last_offset before (drop i ms) ≡ total → before ≡ total
last_all before i ms total le so_far = sym (ap (last_offset before) (drop_all i ms le)) ∙ so_far

-- ---- all classes

pub ascend_more : (info : ClassInfo) (before next : Option ℕ) (at after i : ℕ) (x : ClassDescriptor)
    (xs : List ClassDescriptor) (best found total : Option ComponentPlace)
    → i < length xs → x ≡ get_or xs i x → after ≡ at + described_size x → next ≡ offset_after info before x
    → found ≡ first (methods_in_class info before at x)
    → earlier best (first (all_ascend info before at (drop i xs))) ≡ total
    → earlier (earlier best found) (first (all_ascend info next after (drop (i + 1) xs))) ≡ total
unfolding all_ascend
ascend_more info before next at after i x xs best found total lt is n m f so_far =
    let d : drop i xs ≡ x ∷ drop (i + 1) xs = drop_more xs i x lt ∙ ap (λ (y : ClassDescriptor). y ∷ drop (i + 1) xs)
    (sym is) in
    let front = methods_in_class info before at x in
    let rest = all_ascend info (offset_after info before x) (at + described_size x) (drop (i + 1) xs) in
    let one : first (all_ascend info before at (drop i xs)) ≡ earlier (first front) (first rest) =
    ap (λ (ys : List ClassDescriptor). first (all_ascend info before at ys)) d ∙ first_append front rest in
    rw (n, m, f) (earlier_assoc best (first front) (first rest) ∙ ap (earlier best) (sym one) ∙ so_far)

pub ascend_all : (info : ClassInfo) (before : Option ℕ) (at i : ℕ) (xs : List ClassDescriptor)
    (best total : Option ComponentPlace)
    → length xs ≤ i → earlier best (first (all_ascend info before at (drop i xs))) ≡ total → best ≡ total
unfolding all_ascend first
ascend_all info before at i xs best total le so_far =
    sym (earlier_none best) ∙ ap (λ (ys : List ClassDescriptor). earlier best (first (all_ascend info before at ys)))
    (sym (drop_all i xs le)) ∙ so_far

-- ---- one list behind another

pub get_left : (xs ys : List ℕ) (i d : ℕ) → i < length xs → Some (get_or xs i d) ≡ slice_get (xs ++ ys) i
get_left [] ys i d lt = absurd (omega (arith, lt))
get_left (x ∷ xs) ys zero d lt = refl
get_left (x ∷ xs) ys (suc i) d lt = get_left xs ys i d (omega (arith, lt))

pub get_right : (xs ys : List ℕ) (i d : ℕ) → length xs ≤ i → i - length xs < length ys
    → Some (get_or ys (i - length xs) d) ≡ slice_get (xs ++ ys) i
get_right [] ys i d le lt =
    let z : i - 0 ≡ i = omega arith in
    rw z (sym (slice_get-get_or ys i d (omega (arith, lt))))
get_right (x ∷ xs) ys zero d le lt = absurd (omega (arith, le))
get_right (x ∷ xs) ys (suc i) d le lt =
    let s : suc i - suc (length xs) ≡ i - length xs = omega arith in
    ap (λ (n : ℕ). Some (get_or ys n d)) s ∙ get_right xs ys i d (omega (arith, le)) (omega (arith, lt))

pub get_past : (xs ys : List ℕ) (i : ℕ) → length xs ≤ i → length ys ≤ i - length xs → None ≡ slice_get (xs ++ ys) i
get_past xs ys i le lt = sym (slice_get_past (xs ++ ys) i (omega (arith, length-append xs ys, le, lt)))
