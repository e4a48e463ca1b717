-- Whether a class has a virtual method, by the classes before it.
use Rattle.std.proofs.Common.{◌≡◌, ℕ, zero, suc, ◌+◌, ◌<◌, ◌≤◌, ◌==◌, Bool, true, false, List, [], ◌∷◌, ◌++◌, length}
use Rattle.std.proofs.Common.{get_or, take, map, refl, sym, ap, ◌∙◌, subst, inl, inr, arith, Ok, Err}
use Rattle.std.proofs.Common.{length-append}
use Rattle.std.specs.Prelude.{if◌then◌else◌, reverse}
use Rattle.std.specs.List.{range_with_len}
use Rattle.std.specs.List.Sorted.{IsBinarySearchResult}
use Rattle.std.proofs.lemmas.List.FromFn.{map-range_with_len_more}
use Rattle.std.specs.Ordering.{nat_cmp}
use Rattle.std.proofs.lemmas.Bool.{cases_lt}
use Rattle.std.proofs.lemmas.List.{get_or_append_left, get_or_default, take_all}
use Rattle.std.proofs.Math.Seq.{get_or-append_seam}
use Rattle.cjc_capread.specs.declared.tree.ClassEntry.{ClassEntry}
use Rattle.cjc_capread.specs.declared.tree.ClassInfo.{ClassInfo}
use Rattle.cjc_capread.specs.declared.tree.ClassRef.{ClassRef}
use Rattle.cjc_capread.specs.declared.tree.ClassRef.TheVariants.{Inside, Outside}
use Rattle.cjc_check_rules.specs.ExportFile.declared.tree.ExportTree.{ExportTree}
use Rattle.cjc_check_rules.specs.Spots.{Placed, starts}
use Rattle.cjc_check_rules.specs.Classes.{classes_at, first_class}
use Rattle.cjc_check_rules.specs.Complete.{class_size}
use Rattle.cjc_check_rules.specs.Members.{has_token, in_imported}
use Rattle.cjc_check_index.specs.Imported.Tokens.{all_tokens}
use Rattle.cjc_check_index.proofs.ImportedLaws.Answers.{token_at}
use Rattle.cjc_check_tables.specs.Members.Working.Above.{AreAbove, class_answer, has_among}
use Rattle.cjc_check_tables.proofs.MembersLaws.Search.{found_class, no_class_at, no_class, item_is, length-classes_at}
use Rattle.cjc_check_tables.proofs.LinksLaws.Leaving.{step}

-- ---- one class more

module _ (exports : List ExportTree) (t : ℕ) where
  passed : (ps : List (Placed ClassEntry)) (n o : ℕ) (d : Placed ClassEntry) → n < length ps → (o == (get_or ps n d).at)
      ≡ false
      → has_token (reverse (take (suc n) ps)) exports (Inside o) t ≡ has_token (reverse (take n ps)) exports (Inside o)
      t
  unfolding has_token
  passed ps n o d lt not_here =
      let p = get_or ps n d in
      ap (λ (qs : List (Placed ClassEntry)). has_token qs exports (Inside o) t) (step ps n d lt)
      ∙ ap (λ (b : Bool). if b then class_answer p.item t (has_token (reverse (take n ps)) exports p.item.superclass t)
      else has_token (reverse (take n ps)) exports (Inside o) t) not_here

  here : (ps : List (Placed ClassEntry)) (n o : ℕ) (d : Placed ClassEntry) → n < length ps → (o == (get_or ps n d).at)
      ≡ true
      → has_token (reverse (take (suc n) ps)) exports (Inside o) t ≡ class_answer (get_or ps n d).item t
      (has_token (reverse (take n ps)) exports (get_or ps n d).item.superclass t)
  unfolding has_token
  here ps n o d lt is =
      let p = get_or ps n d in
      ap (λ (qs : List (Placed ClassEntry)). has_token qs exports (Inside o) t) (step ps n d lt)
      ∙ ap (λ (b : Bool). if b then class_answer p.item t (has_token (reverse (take n ps)) exports p.item.superclass t)
      else has_token (reverse (take n ps)) exports (Inside o) t) is

  missing : (ps : List (Placed ClassEntry)) (n o : ℕ) (d : Placed ClassEntry) → n ≤ length ps
      → ((k : ℕ) → k < n → (o == (get_or ps k d).at) ≡ false) → has_token (reverse (take n ps)) exports (Inside o) t
      ≡ false
  unfolding has_token
  missing ps zero o d le h = refl
  missing ps (suc n) o d le h = passed ps n o d (omega (arith, le)) (h n (omega arith))
      ∙ missing ps n o d (omega (arith, le)) (λ k lt. h k (omega (arith, lt)))

  present : (ps : List (Placed ClassEntry)) (n j o : ℕ) (d : Placed ClassEntry) → j < n → n ≤ length ps
      → (o == (get_or ps j d).at) ≡ true → ((k : ℕ) → j < k → k < n → (o == (get_or ps k d).at) ≡ false)
      → has_token (reverse (take n ps)) exports (Inside o) t ≡ class_answer (get_or ps j d).item t
      (has_token (reverse (take j ps)) exports (get_or ps j d).item.superclass t)
  present ps zero j o d lt le is h = absurd (omega (arith, lt))
  present ps (suc n) j o d lt le is h =
      elim (cases_lt j n) [
        | inl less ↦ passed ps n o d (omega (arith, le)) (h n less (omega arith))
            ∙ present ps n j o d less (omega (arith, le)) is (λ k a b. h k a (omega (arith, b)))
        | inr more ↦ (let e : n ≡ j = omega (arith, lt, more) in
            let P : ℕ → Type 0 = λ k. has_token (reverse (take (suc k) ps)) exports (Inside o) t
            ≡ class_answer (get_or ps j d).item t (has_token (reverse (take j ps)) exports
            (get_or ps j d).item.superclass t) in
            subst P (sym e) (here ps j o d (omega (arith, le, lt)) is))
      ]

  pub outside : (ps : List (Placed ClassEntry)) (import class : ℕ) → has_token ps exports (Outside import class) t
      ≡ in_imported exports (Outside import class) t
  unfolding has_token
  outside [] import class = refl
  outside (p ∷ ps) import class = outside ps import class

  -- ---- by where classes begin

  pub found_answer : (info : ClassInfo) (kept : List ℕ) (n j o : ℕ)
      → kept ≡ starts class_size (first_class info) info.classes → n ≤ length info.classes → j < n
      → IsBinarySearchResult (λ y. nat_cmp y o) kept (Ok j)
      → has_among info exports n (Inside o) t ≡ class_answer (get_or (classes_at info) j no_class).item t
      (has_among info exports j (get_or (classes_at info) j no_class).item.superclass t)
  found_answer info kept n j o e le lt is =
      let a = found_class info kept j o no_class e is in
      let l = length-classes_at info in
      present (classes_at info) n j o no_class lt (omega (arith, l, le)) a.here (λ k less under. a.after k less
      (omega (arith, l, le, under)))

  pub past_answer : (info : ClassInfo) (kept : List ℕ) (n j o : ℕ)
      → kept ≡ starts class_size (first_class info) info.classes → n ≤ length info.classes → n ≤ j
      → IsBinarySearchResult (λ y. nat_cmp y o) kept (Ok j) → has_among info exports n (Inside o) t ≡ false
  past_answer info kept n j o e le past is =
      let a = found_class info kept j o no_class e is in
      let l = length-classes_at info in
      missing (classes_at info) n o no_class (omega (arith, l, le)) (λ k under. a.before k (omega (arith, past, under)))

  pub none_answer : (info : ClassInfo) (kept : List ℕ) (n j o : ℕ)
      → kept ≡ starts class_size (first_class info) info.classes → n ≤ length info.classes
      → IsBinarySearchResult (λ y. nat_cmp y o) kept (Err j) → has_among info exports n (Inside o) t ≡ false
  none_answer info kept n j o e le is =
      let l = length-classes_at info in
      missing (classes_at info) n o no_class (omega (arith, l, le)) (λ k under. no_class_at info kept j o no_class e is
      k (omega (arith, l, le, under)))

-- ---- the classes of which it is kept

pub all_answers : (info : ClassInfo) (exports : List ExportTree) (n : ℕ) (class : ClassRef) (t : ℕ)
    → n ≡ length info.classes → has_among info exports n class t ≡ has_token (reverse (classes_at info)) exports class t
all_answers info exports n class t e =
    let l = length-classes_at info in
    ap (λ (ps : List (Placed ClassEntry)). has_token (reverse ps) exports class t) (take_all n (classes_at info)
    (omega (arith, e, l)))

pub kept_item : (info : ClassInfo) (j : ℕ) (x : ClassEntry) → j < length info.classes → x ≡ get_or info.classes j x
    → (get_or (classes_at info) j no_class).item ≡ x
kept_item info j x lt is = item_is class_size (first_class info) info.classes j no_class x lt is

pub above_none : (info : ClassInfo) (exports : List ExportTree) → AreAbove info exports []
above_none info exports i t d lt small = absurd (omega (arith, lt))

pub above_more : (info : ClassInfo) (exports : List ExportTree) (tables next : List (List Bool)) (i : ℕ)
    (x : ClassEntry) (row : List Bool) → i < length info.classes → x ≡ get_or info.classes i x → length tables ≡ i
    → next ≡ tables ++ row ∷ [] → row ≡ map (has_among info exports (length tables) x.superclass) all_tokens
    → AreAbove info exports tables → AreAbove info exports next
above_more info exports tables next i x row lt is len n e h = λ k t d less small.
    let l : length next ≡ length tables + 1 = ap (λ (rs : List (List Bool)). length rs) n
    ∙ length-append tables (row ∷ []) in
    elim (cases_lt k i) [
      | inl before ↦ ap (λ (rs : List (List Bool)). get_or (get_or rs k []) t false) n
          ∙ ap (λ (r : List Bool). get_or r t false) (get_or_append_left tables (row ∷ []) [] k (omega (
            arith,
            before,
            len,
          )))
          ∙ h k t d (omega (arith, before, len)) small
      | inr past ↦ (let same : k ≡ i = omega (arith, past, less, l, len) in
          let at : get_or next k [] ≡ row = ap (λ (rs : List (List Bool)). get_or rs k []) n
          ∙ ap (λ (m : ℕ). get_or (tables ++ row ∷ []) m []) (same ∙ sym len) ∙ get_or-append_seam tables row [] []
          in
          let there : (get_or (classes_at info) k d).item ≡ x = ap (λ (m : ℕ). (get_or (classes_at info) m d).item) same
          ∙ item_is class_size (first_class info) info.classes i d x lt is in
          let answers = has_among info exports (length tables) x.superclass in
          ap (λ (r : List Bool). get_or r t false) (at ∙ e) ∙ token_at answers t false small
          ∙ ap (λ (m : ℕ). has_among info exports m x.superclass t) (len ∙ sym same)
          ∙ ap (λ (y : ClassEntry). has_among info exports k y.superclass t) (sym there))
    ]

-- the answer of a class by its tables and what is kept of its superclass
pub answer_is : (info : ClassInfo) (exports : List ExportTree) (tables : List (List Bool)) (kept : List ℕ)
    (at o t n : ℕ) (x : ClassEntry) (row : List Bool) (inherits result : Bool)
    → AreAbove info exports tables → kept ≡ starts class_size (first_class info) info.classes
    → length tables ≤ length info.classes → at < length tables → IsBinarySearchResult (λ y. nat_cmp y o) kept
    (Ok at)
    → x ≡ get_or info.classes at x → row ≡ get_or tables at row → n ≡ t → inherits ≡ get_or row n false → t < 256
    → result ≡ class_answer x t inherits → result ≡ has_among info exports (length tables) (Inside o) t
answer_is info exports tables kept at o t n x row inherits result h e le lt found is r m a small res =
    let item = kept_item info at x (omega (arith, lt, le)) is in
    let row_is : row ≡ get_or tables at [] = r ∙ get_or_default tables at row [] lt in
    let above : inherits ≡ has_among info exports at (get_or (classes_at info) at no_class).item.superclass t =
    a ∙ ap (λ (k : ℕ). get_or row k false) m ∙ ap (λ (bs : List Bool). get_or bs t false) row_is
    ∙ h at t no_class lt small in
    let super : inherits ≡ has_among info exports at x.superclass t = above
    ∙ ap (λ (y : ClassEntry). has_among info exports at y.superclass t) item in
    res ∙ ap (class_answer x t) super
    ∙ sym (ap (λ (y : ClassEntry). class_answer y t (has_among info exports at y.superclass t)) item)
    ∙ sym (found_answer exports t info kept (length tables) at o e le lt found)

-- ---- answers by token, one by one

pub row_more : (f : ℕ → Bool) (n : ℕ) (done next : List Bool) (b : Bool) → next ≡ done ++ b ∷ [] → b ≡ f n
    → done ≡ map f (range_with_len 0 n) → next ≡ map f (range_with_len 0 (n + 1))
row_more f n done next b e is so_far =
    e ∙ ap (λ (bs : List Bool). bs ++ b ∷ []) so_far ∙ ap (λ (x : Bool). map f (range_with_len 0 n) ++ x ∷ []) is
    ∙ sym (map-range_with_len_more f 0 n n (omega arith))

pub row_all : (f : ℕ → Bool) (n : ℕ) (done : List Bool) → n ≡ 256 → done ≡ map f (range_with_len 0 n)
    → done ≡ map f all_tokens
unfolding all_tokens
row_all f n done e so_far = so_far ∙ ap (λ (k : ℕ). map f (range_with_len 0 k)) e
