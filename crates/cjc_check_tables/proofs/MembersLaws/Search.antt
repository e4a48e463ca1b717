-- Where a class of the package stands, by a search over the starts of all.
use Rattle.std.proofs.Common.{◌≡◌, ℕ, zero, suc, ◌+◌, ◌<◌, ◌==◌, Bool, true, false, List, [], ◌∷◌, length, get_or}
use Rattle.std.proofs.Common.{refl, sym, ap, ◌∙◌, subst, inl, inr, arith, Ok, Err, Some, None}
use Rattle.std.specs.Prelude.{if◌then◌else◌, option_map}
use Rattle.std.specs.List.{find}
use Rattle.std.specs.List.Sorted.{IsBinarySearchResult}
use Rattle.std.specs.Ordering.{nat_cmp}
use Rattle.std.proofs.lemmas.Bool.{cases_lt}
use Rattle.std.proofs.lemmas.Bool.Decides.{nat_tests}
use Rattle.std.proofs.lemmas.List.{get_or-map, length-map}
use Rattle.std.proofs.lemmas.List.Sorted.{searched}
use Rattle.cjc_capread.specs.declared.tree.ClassEntry.{ClassEntry}
use Rattle.cjc_capread.specs.declared.tree.ClassInfo.{ClassInfo}
use Rattle.cjc_capread.specs.declared.tree.ClassRef.TheVariants.{Inside}
use Rattle.cjc_check_rules.specs.Spots.{Placed, item_at, placed, starts}
use Rattle.cjc_check_rules.specs.Classes.{classes_at, first_class}
use Rattle.cjc_check_rules.specs.Complete.{class_size}
use Rattle.cjc_check_rules.proofs.Starts.{starts_rise, above}

-- ---- starts rise

pub rise : {A : Type 0} (size : A → ℕ) (some : (x : A) → 0 < size x) (from : ℕ) (xs : List A) (i j d : ℕ) → i < j
    → j < length (starts size from xs) → get_or (starts size from xs) i d < get_or (starts size from xs) j d
unfolding placed
rise size some from [] i j d lt le = absurd (omega (arith, le))
rise size some from (x ∷ xs) i zero d lt le = absurd (omega (arith, lt))
rise size some from (x ∷ xs) zero (suc j) d lt le = let h = above size (from + size x) xs j d (omega (arith, le))
    in let s = some x in omega (arith, h, s)
rise size some from (x ∷ xs) (suc i) (suc j) d lt le = rise size some (from + size x) xs i j d (omega (arith, lt))
    (omega (arith, le))

pub begin : (info : ClassInfo) (k : ℕ) (d : Placed ClassEntry) → k < length (classes_at info)
    → get_or (starts class_size (first_class info) info.classes) k 0 ≡ (get_or (classes_at info) k d).at
begin info k d lt = get_or-map (λ (p : Placed ClassEntry). p.at) (classes_at info) k d 0 lt

pub count : (info : ClassInfo) → length (starts class_size (first_class info) info.classes) ≡ length (classes_at info)
count info = length-map (classes_at info) (λ (p : Placed ClassEntry). p.at)

-- ---- what a search answers

-- one class begins at the offset
pub record IsAlone (info : ClassInfo) (o j : ℕ) (d : Placed ClassEntry) : Type 0 where
  pub inside : j < length (classes_at info)
  pub here : (o == (get_or (classes_at info) j d).at) ≡ true
  pub before : (k : ℕ) → k < j → (o == (get_or (classes_at info) k d).at) ≡ false
  pub after : (k : ℕ) → j < k → k < length (classes_at info) → (o == (get_or (classes_at info) k d).at) ≡ false

pub found_class : (info : ClassInfo) (kept : List ℕ) (j o : ℕ) (d : Placed ClassEntry)
    → kept ≡ starts class_size (first_class info) info.classes → IsBinarySearchResult (λ y. nat_cmp y o) kept (Ok j)
    → IsAlone info o j d
found_class info kept j o d e is =
    let s = starts class_size (first_class info) info.classes in
    let P : List ℕ → Type 0 = λ xs. IsBinarySearchResult (λ y. nat_cmp y o) xs (Ok j) in
    let h = searched s o (Ok j) (subst P e is) (λ a b x y. starts_rise class_size (first_class info) info.classes a b 0
    x y) in
    let l = count info in
    let at : get_or s j 0 ≡ o = h.1 in
    let lt : j < length s = h.0 in
    let inside : j < length (classes_at info) = omega (arith, l, lt) in
    let b : get_or s j 0 ≡ (get_or (classes_at info) j d).at = begin info j d inside in
    record {
      inside = inside;
      here = grind (arith, nat_tests, at, b);
      before = λ k less.
          let c : get_or s k 0 ≡ (get_or (classes_at info) k d).at = begin info k d (omega (arith, less, inside)) in
          let r : get_or s k 0 < get_or s j 0 = rise class_size (λ x. omega arith) (first_class info) info.classes k j 0
          less lt in
          grind (arith, nat_tests, at, c, r);
      after = λ k more under.
          let c : get_or s k 0 ≡ (get_or (classes_at info) k d).at = begin info k d under in
          let r : get_or s j 0 < get_or s k 0 = rise class_size (λ x. omega arith) (first_class info) info.classes j k 0
          more (omega (arith, l, under)) in
          grind (arith, nat_tests, at, c, r);
    }

pub no_class_at : (info : ClassInfo) (kept : List ℕ) (j o : ℕ) (d : Placed ClassEntry)
    → kept ≡ starts class_size (first_class info) info.classes → IsBinarySearchResult (λ y. nat_cmp y o) kept (Err j)
    → (k : ℕ) → k < length (classes_at info) → (o == (get_or (classes_at info) k d).at) ≡ false
no_class_at info kept j o d e is k under =
    let s = starts class_size (first_class info) info.classes in
    let P : List ℕ → Type 0 = λ xs. IsBinarySearchResult (λ y. nat_cmp y o) xs (Err j) in
    let h = searched s o (Err j) (subst P e is) (λ a b x y. starts_rise class_size (first_class info) info.classes a b 0
    x y) in
    let l = count info in
    let c : get_or s k 0 ≡ (get_or (classes_at info) k d).at = begin info k d under in
    elim (cases_lt k j) [
      | inl less ↦ (let r = h.1 k less in grind (arith, nat_tests, c, r))
      | inr more ↦ (let r = h.2 k more (omega (arith, l, under)) in grind (arith, nat_tests, c, r))
    ]

-- ---- a default, which nothing rests on

pub no_class : Placed ClassEntry
no_class = record {
  at = 0;
  item = record {
    flags = 0;
    superclass = Inside 0;
    declared_instance_size = 0;
    first_reference_token = 0;
    reference_count = 0;
    public_base = 0;
    package_base = 0;
    public_methods = [];
    package_methods = [];
    interfaces = [];
  };
}

-- ---- the classes and their places

pub item_is : {A : Type 0} (size : A → ℕ) (from : ℕ) (xs : List A) (i : ℕ) (d : Placed A) (x : A) → i < length xs
    → x ≡ get_or xs i x → (get_or (placed size from xs) i d).item ≡ x
unfolding placed
item_is size from [] i d x lt is = absurd (omega (arith, lt))
item_is size from (y ∷ xs) zero d x lt is = sym is
item_is size from (y ∷ xs) (suc i) d x lt is = item_is size (from + size y) xs i d x (omega (arith, lt)) is

pub length-placed : {A : Type 0} (size : A → ℕ) (from : ℕ) (xs : List A) → length (placed size from xs) ≡ length xs
unfolding placed
length-placed size from [] = refl
length-placed size from (x ∷ xs) = let h = length-placed size (from + size x) xs in omega (arith, h)

pub length-classes_at : (info : ClassInfo) → length (classes_at info) ≡ length info.classes
length-classes_at info = length-placed class_size (first_class info) info.classes

-- ---- the class at an offset

flip : (a b : ℕ) (t : Bool) → (a == b) ≡ t → (b == a) ≡ t
flip a b true e = grind (arith, nat_tests, e)
flip a b false e = grind (arith, nat_tests, e)

found_item : (ps : List (Placed ClassEntry)) (o j : ℕ) (d : Placed ClassEntry) → j < length ps
    → (o == (get_or ps j d).at) ≡ true → ((k : ℕ) → k < j → (o == (get_or ps k d).at) ≡ false)
    → item_at ps o ≡ Some (get_or ps j d).item
found_item [] o j d lt h before = absurd (omega (arith, lt))
found_item (p ∷ ps) o zero d lt h before = ap (λ b. option_map (λ (x : Placed ClassEntry). x.item) (if b then Some p
    else find (λ x. x.at == o) ps)) (flip o p.at true h)
found_item (p ∷ ps) o (suc j) d lt h before =
    ap (λ b. option_map (λ (x : Placed ClassEntry). x.item) (if b then Some p else find (λ x. x.at == o) ps))
    (flip o p.at false (before 0 (omega arith)))
    ∙ found_item ps o j d (omega (arith, lt)) h (λ k less. before (suc k) (omega (arith, less)))

no_item : (ps : List (Placed ClassEntry)) (o : ℕ) (d : Placed ClassEntry) → ((k : ℕ) → k < length ps
    → (o == (get_or ps k d).at) ≡ false) → item_at ps o ≡ None
no_item [] o d h = refl
no_item (p ∷ ps) o d h =
    ap (λ b. option_map (λ (x : Placed ClassEntry). x.item) (if b then Some p else find (λ x. x.at == o) ps))
    (flip o p.at false (h 0 (omega arith)))
    ∙ no_item ps o d (λ k less. h (suc k) (omega (arith, less)))

pub item_found : (info : ClassInfo) (kept : List ℕ) (j o : ℕ) (x : ClassEntry)
    → kept ≡ starts class_size (first_class info) info.classes → IsBinarySearchResult (λ y. nat_cmp y o) kept (Ok j)
    → x ≡ get_or info.classes j x → Some x ≡ item_at (classes_at info) o
item_found info kept j o x e is at =
    let a = found_class info kept j o no_class e is in
    let l = length-classes_at info in
    let i = a.inside in
    let lt : j < length info.classes = omega (arith, l, i) in
    ap Some (sym (item_is class_size (first_class info) info.classes j no_class x lt at))
    ∙ sym (found_item (classes_at info) o j no_class a.inside a.here a.before)

pub item_inside : (info : ClassInfo) (kept : List ℕ) (j o : ℕ)
    → kept ≡ starts class_size (first_class info) info.classes → IsBinarySearchResult (λ y. nat_cmp y o) kept (Ok j)
    → j < length info.classes
item_inside info kept j o e is =
    let a = found_class info kept j o no_class e is in
    let l = length-classes_at info in
    let i = a.inside in
    omega (arith, l, i)

pub item_absent : (info : ClassInfo) (kept : List ℕ) (j o : ℕ)
    → kept ≡ starts class_size (first_class info) info.classes → IsBinarySearchResult (λ y. nat_cmp y o) kept (Err j)
    → None ≡ item_at (classes_at info) o
item_absent info kept j o e is = sym (no_item (classes_at info) o no_class (no_class_at info kept j o no_class e is))
