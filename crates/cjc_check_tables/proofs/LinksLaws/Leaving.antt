-- Whether upwards some class is imported, by the classes before.
use Rattle.std.proofs.Common.{◌≡◌, ℕ, zero, suc, ◌+◌, ◌<◌, ◌≤◌, ◌==◌, Bool, true, false, List, [], ◌∷◌, ◌++◌, length}
use Rattle.std.proofs.Common.{get_or, take, refl, sym, ap, ◌∙◌, subst, inl, inr, arith, add-one, Ok, Err, length-append}
use Rattle.std.specs.Prelude.{if◌then◌else◌, reverse}
use Rattle.std.specs.List.Sorted.{IsBinarySearchResult}
use Rattle.std.specs.Ordering.{nat_cmp}
use Rattle.std.proofs.lemmas.Bool.{cases_lt}
use Rattle.std.proofs.lemmas.Bool.Decides.{nat_tests}
use Rattle.std.proofs.lemmas.List.{get_or_append_left, take_all, take_more, reverse-append}
use Rattle.std.proofs.lemmas.List.Sorted.{searched}
use Rattle.std.proofs.Math.Seq.{get_or-append_seam}
use Rattle.cjc_capread.specs.declared.tree.ClassEntry.{ClassEntry}
use Rattle.cjc_capread.specs.declared.tree.ClassInfo.{ClassInfo}
use Rattle.cjc_capread.specs.declared.tree.ClassRef.{ClassRef}
use Rattle.cjc_capread.specs.declared.tree.ClassRef.TheVariants.{Inside, Outside}
use Rattle.cjc_check_rules.specs.Spots.{Placed, starts}
use Rattle.cjc_check_rules.specs.Classes.{classes_at, first_class}
use Rattle.cjc_check_rules.specs.Complete.{class_size}
use Rattle.cjc_check_rules.specs.Tables.{leaves}
use Rattle.cjc_check_tables.specs.Links.Leaving.{IsLeaving, leaves_among}
use Rattle.cjc_check_tables.proofs.MembersLaws.Search.{rise, begin, count, item_is, length-placed}
use Rattle.cjc_check_rules.proofs.Starts.{starts_rise}

-- ---- one class more

pub step : (ps : List (Placed ClassEntry)) (n : ℕ) (d : Placed ClassEntry) → n < length ps → reverse (take (suc n) ps)
    ≡ get_or ps n d ∷ reverse (take n ps)
step ps n d lt = ap (λ (k : ℕ). reverse (take k ps)) (sym (add-one n))
    ∙ ap (λ (qs : List (Placed ClassEntry)). reverse qs) (take_more ps n d lt)
    ∙ reverse-append (take n ps) (get_or ps n d ∷ [])

passed : (ps : List (Placed ClassEntry)) (n o : ℕ) (d : Placed ClassEntry) → n < length ps → (o == (get_or ps n d).at)
    ≡ false → leaves (reverse (take (suc n) ps)) (Inside o) ≡ leaves (reverse (take n ps)) (Inside o)
unfolding leaves
passed ps n o d lt not_here =
    ap (λ (qs : List (Placed ClassEntry)). leaves qs (Inside o)) (step ps n d lt)
    ∙ ap (λ (b : Bool). if b then leaves (reverse (take n ps)) (get_or ps n d).item.superclass
    else leaves (reverse (take n ps)) (Inside o)) not_here

here : (ps : List (Placed ClassEntry)) (n o : ℕ) (d : Placed ClassEntry) → n < length ps → (o == (get_or ps n d).at)
    ≡ true → leaves (reverse (take (suc n) ps)) (Inside o) ≡ leaves (reverse (take n ps))
    (get_or ps n d).item.superclass
unfolding leaves
here ps n o d lt is =
    ap (λ (qs : List (Placed ClassEntry)). leaves qs (Inside o)) (step ps n d lt)
    ∙ ap (λ (b : Bool). if b then leaves (reverse (take n ps)) (get_or ps n d).item.superclass
    else leaves (reverse (take n ps)) (Inside o)) is

missing : (ps : List (Placed ClassEntry)) (n o : ℕ) (d : Placed ClassEntry) → n ≤ length ps
    → ((k : ℕ) → k < n → (o == (get_or ps k d).at) ≡ false) → leaves (reverse (take n ps)) (Inside o) ≡ false
unfolding leaves
missing ps zero o d le h = refl
missing ps (suc n) o d le h = passed ps n o d (omega (arith, le)) (h n (omega arith))
    ∙ missing ps n o d (omega (arith, le)) (λ k lt. h k (omega (arith, lt)))

present : (ps : List (Placed ClassEntry)) (n j o : ℕ) (d : Placed ClassEntry) → j < n → n ≤ length ps
    → (o == (get_or ps j d).at) ≡ true → ((k : ℕ) → j < k → k < n → (o == (get_or ps k d).at) ≡ false)
    → leaves (reverse (take n ps)) (Inside o) ≡ leaves (reverse (take j ps)) (get_or ps j d).item.superclass
present ps zero j o d lt le is h = absurd (omega (arith, lt))
present ps (suc n) j o d lt le is h =
    elim (cases_lt j n) [
      | inl less ↦ passed ps n o d (omega (arith, le)) (h n less (omega arith))
          ∙ present ps n j o d less (omega (arith, le)) is (λ k a b. h k a (omega (arith, b)))
      | inr more ↦ (let e : n ≡ j = omega (arith, lt, more) in
          let P : ℕ → Type 0 = λ k. leaves (reverse (take (suc k) ps)) (Inside o) ≡ leaves (reverse (take j ps))
          (get_or ps j d).item.superclass in
          subst P (sym e) (here ps j o d (omega (arith, le, lt)) is))
    ]

pub outside : (ps : List (Placed ClassEntry)) (import class : ℕ) → leaves ps (Outside import class) ≡ true
unfolding leaves
outside [] import class = refl
outside (p ∷ ps) import class = outside ps import class

-- ---- by where classes begin

pub found_leaves : (info : ClassInfo) (kept : List ℕ) (n j o : ℕ) (d : Placed ClassEntry)
    → kept ≡ starts class_size (first_class info) info.classes → n ≤ length (classes_at info) → j < n
    → IsBinarySearchResult (λ y. nat_cmp y o) kept (Ok j) → leaves_among info n (Inside o)
    ≡ leaves_among info j (get_or (classes_at info) j d).item.superclass
found_leaves info kept n j o d e le lt is =
    let s = starts class_size (first_class info) info.classes in
    let P : List ℕ → Type 0 = λ xs. IsBinarySearchResult (λ y. nat_cmp y o) xs (Ok j) in
    let h = searched s o (Ok j) (subst P e is) (λ a b x y. starts_rise class_size (first_class info) info.classes a b 0
    x y) in
    let at : get_or s j 0 ≡ o = h.1 in
    let b : get_or s j 0 ≡ (get_or (classes_at info) j d).at = begin info j d (omega (arith, lt, le)) in
    present (classes_at info) n j o d lt le (grind (arith, nat_tests, at, b))
    (λ k less under.
    let c : get_or s k 0 ≡ (get_or (classes_at info) k d).at = begin info k d (omega (arith, under, le)) in
    let l = count info in
    let r : get_or s j 0 < get_or s k 0 = rise class_size (λ x. omega arith) (first_class info) info.classes j k 0 less
    (omega (arith, l, under, le)) in
    grind (arith, nat_tests, at, b, c, r))

pub past_leaves : (info : ClassInfo) (kept : List ℕ) (n j o : ℕ) (d : Placed ClassEntry)
    → kept ≡ starts class_size (first_class info) info.classes → n ≤ length (classes_at info) → n ≤ j
    → IsBinarySearchResult (λ y. nat_cmp y o) kept (Ok j) → leaves_among info n (Inside o) ≡ false
past_leaves info kept n j o d e le past is =
    let s = starts class_size (first_class info) info.classes in
    let P : List ℕ → Type 0 = λ xs. IsBinarySearchResult (λ y. nat_cmp y o) xs (Ok j) in
    let h = searched s o (Ok j) (subst P e is) (λ a b x y. starts_rise class_size (first_class info) info.classes a b 0
    x y) in
    let at : get_or s j 0 ≡ o = h.1 in
    missing (classes_at info) n o d le
    (λ k under.
    let c : get_or s k 0 ≡ (get_or (classes_at info) k d).at = begin info k d (omega (arith, under, le)) in
    let r : get_or s k 0 < get_or s j 0 = rise class_size (λ x. omega arith) (first_class info) info.classes k j 0
    (omega (arith, under, past)) h.0 in
    grind (arith, nat_tests, at, c, r))

pub none_leaves : (info : ClassInfo) (kept : List ℕ) (n j o : ℕ) (d : Placed ClassEntry)
    → kept ≡ starts class_size (first_class info) info.classes → n ≤ length (classes_at info)
    → IsBinarySearchResult (λ y. nat_cmp y o) kept (Err j) → leaves_among info n (Inside o) ≡ false
none_leaves info kept n j o d e le is =
    let s = starts class_size (first_class info) info.classes in
    let P : List ℕ → Type 0 = λ xs. IsBinarySearchResult (λ y. nat_cmp y o) xs (Err j) in
    let h = searched s o (Err j) (subst P e is) (λ a b x y. starts_rise class_size (first_class info) info.classes a b 0
    x y) in
    let l = count info in
    missing (classes_at info) n o d le
    (λ k under.
    let c : get_or s k 0 ≡ (get_or (classes_at info) k d).at = begin info k d (omega (arith, under, le)) in
    elim (cases_lt k j) [
      | inl less ↦ (let r = h.1 k less in grind (arith, nat_tests, c, r))
      | inr more ↦ (let r = h.2 k more (omega (arith, l, under, le)) in grind (arith, nat_tests, c, r))
    ])

-- ---- the classes of which it is kept

pub leaves_all : (info : ClassInfo) (table : List Bool) (class : ClassRef) → length table ≡ length info.classes
    → leaves_among info (length table) class ≡ leaves (reverse (classes_at info)) class
leaves_all info table class e =
    let n = length-placed class_size (first_class info) info.classes in
    ap (λ (ps : List (Placed ClassEntry)). leaves (reverse ps) class) (take_all (length table) (classes_at info)
    (omega (arith, e, n)))

pub leaving_more : (info : ClassInfo) (table next : List Bool) (i : ℕ) (x : ClassEntry) (b : Bool)
    → i < length info.classes → x ≡ get_or info.classes i x → length table ≡ i → next ≡ table ++ b ∷ []
    → b ≡ leaves_among info (length table) x.superclass → IsLeaving info table → IsLeaving info next
leaving_more info table next i x b lt is len n e h = λ k d less.
    let l : length next ≡ length table + 1 = ap (λ (bs : List Bool). length bs) n ∙ length-append table (b ∷ []) in
    elim (cases_lt k i) [
      | inl before ↦ ap (λ (bs : List Bool). get_or bs k false) n ∙ get_or_append_left table (b ∷ []) false k
          (omega (arith, before, len)) ∙ h k d (omega (arith, before, len))
      | inr past ↦ (let same : k ≡ i = omega (arith, past, less, l, len) in
          let at : get_or next k false ≡ b = ap (λ (bs : List Bool). get_or bs k false) n
          ∙ ap (λ (m : ℕ). get_or (table ++ b ∷ []) m false) (same ∙ sym len) ∙ get_or-append_seam table b [] false
          in
          let there : (get_or (classes_at info) k d).item ≡ x = ap (λ (m : ℕ). (get_or (classes_at info) m d).item) same
          ∙ item_is class_size (first_class info) info.classes i d x lt is in
          at ∙ e ∙ ap (λ (m : ℕ). leaves_among info m x.superclass) (len ∙ sym same)
          ∙ ap (λ (y : ClassEntry). leaves_among info k y.superclass) (sym there))
    ]
