-- Cells and counts of fields.
use Rattle.std.proofs.Common.{◌≡◌, ℕ, zero, suc, ◌+◌, ◌≤◌, ◌<◌, refl, sym, ap, subst, ◌^◌, ◌∙◌, Bool, true, false, List}
use Rattle.std.proofs.Common.{[], ◌∷◌, ◌++◌, take, length, get_or, arith, cond}
use Rattle.std.specs.Prelude.{Option, ◌&&◌, ◌==◌, nat_lt, if◌then◌else◌, count_by}
use Rattle.std.proofs.lemmas.List.Sums.{sum_by-cons, sum_by_push}
use Rattle.std.proofs.lemmas.List.{take_more}
use Rattle.std.proofs.lemmas.Grind.{common_steps}
use Rattle.std.proofs.lemmas.Bool.Decides.{nat_tests}
use Rattle.cjc_world.specs.ClassFile.declared.tree.FieldTree.{FieldTree}
use Rattle.cjc_tokens.specs.Fields.{cells, cells_of, group, instance_cells, is_instance, instance_tokens}
use Rattle.cjc_tokens.specs.Fields.{instance_field_token, field_token, field_tokens}

pub cells-cons : (p : FieldTree → Bool) (f : FieldTree) (fs : List FieldTree) → cells_of p (f ∷ fs) ≡
    (if p f then cells f
    else 0) + cells_of p fs
cells-cons p f fs = sum_by-cons (λ g. if p g then cells g else 0) f fs

-- some of the cells are no more than all
pub some_cells : (p : FieldTree → Bool) (fs : List FieldTree) → cells_of (λ g. is_instance g && p g) fs ≤ instance_cells
    fs
some_cells p [] = omega arith
some_cells p (f ∷ fs) = by (is_instance f) (p f) (cells-cons (λ g. is_instance g && p g) f fs) (cells-cons is_instance f
    fs) (some_cells p fs)
  where
    by : (b c : Bool) → cells_of (λ g. is_instance g && p g) (f ∷ fs) ≡ (if b && c then cells f else 0) + cells_of
        (λ g. is_instance g && p g) fs → cells_of is_instance (f ∷ fs) ≡ (if b then cells f else 0) + cells_of
        is_instance fs
        → cells_of (λ g. is_instance g && p g) fs ≤ cells_of is_instance fs → cells_of (λ g. is_instance g && p g) (f
        ∷ fs) ≤ cells_of is_instance (f ∷ fs)
    by true true d e h = omega arith
    by true false d e h = omega arith
    by false c d e h = omega arith

-- so are those of two tests that nothing passes both of
pub both_cells : (p q : FieldTree → Bool) (fs : List FieldTree) (i : ℕ) → ((f : FieldTree) → p f ≡ true → q f ≡ false)
    → cells_of (λ g. is_instance g && p g) fs + cells_of (λ g. is_instance g && q g) (take i fs) ≤ instance_cells fs
both_cells p q [] zero apart = omega arith
both_cells p q [] (suc i) apart = omega arith
both_cells p q (f ∷ fs) zero apart = let h = some_cells p (f ∷ fs) in omega arith
both_cells p q (f ∷ fs) (suc i) apart = by (is_instance f) (p f) (q f) (apart f) (cells-cons (λ g. is_instance g
    && p g) f fs) (cells-cons (λ g. is_instance g && q g) f (take i fs)) (cells-cons is_instance f fs)
    (both_cells p q fs i apart)
  where
    by : (b c d : Bool) → (c ≡ true → d ≡ false) → cells_of (λ g. is_instance g && p g) (f ∷ fs) ≡ (if b && c
        then cells f else 0) + cells_of (λ g. is_instance g && p g) fs
        → cells_of (λ g. is_instance g && q g) (f ∷ take i fs) ≡ (if b && d then cells f else 0) + cells_of
        (λ g. is_instance g && q g) (take i fs)
        → cells_of is_instance (f ∷ fs) ≡ (if b then cells f else 0) + cells_of is_instance fs
        → cells_of (λ g. is_instance g && p g) fs + cells_of (λ g. is_instance g && q g) (take i fs) ≤ cells_of
        is_instance fs
        → cells_of (λ g. is_instance g && p g) (f ∷ fs) + cells_of (λ g. is_instance g && q g) (f ∷ take i fs) ≤
        cells_of is_instance (f ∷ fs)
    by true true true apart_one d e g h = let bad = apart_one refl in cc
    by true true false apart_one d e g h = omega arith
    by true false true apart_one d e g h = omega arith
    by true false false apart_one d e g h = omega arith
    by false c d' apart_one d e g h = omega arith

-- the groups before one, and that one
pub group_cells : (fs : List FieldTree) (i place : ℕ) → cells_of (λ g. is_instance g && nat_lt (group g) place) fs +
    cells_of (λ g. is_instance g && (group g == place)) (take i fs) ≤ instance_cells fs
group_cells fs i place = both_cells (λ g. nat_lt (group g) place) (λ g. group g == place) fs i (λ f e. apart (group f)
    (group f == place) refl e)
  where
    apart : (n : ℕ) (b : Bool) → (n == place) ≡ b → nat_lt n place ≡ true → (n == place) ≡ false
    apart n false f e = f
    apart n true f e = absurd (grind (arith, nat_tests))

-- ---- one field more

pub field_tokens-more : (exported : Bool) (fs : List FieldTree) (i : ℕ) (rest : List FieldTree) (f : FieldTree)
    → field_tokens exported fs i (rest ++ f ∷ []) ≡ field_tokens exported fs i rest
    ++ field_token exported fs (i + length rest) f ∷ []
unfolding field_tokens
field_tokens-more exported fs i [] f = let e : i ≡ i + 0 = omega arith in ap (λ n. field_token exported fs n f ∷ []) e
field_tokens-more exported fs i (g ∷ rest) f =
    let e : i + 1 + length rest ≡ i + suc (length rest) = omega arith in
    ap (λ q. field_token exported fs i g ∷ q) (field_tokens-more exported fs (i + 1) rest f
    ∙ ap (λ n. field_tokens exported fs (i + 1) rest ++ field_token exported fs n f ∷ []) e)

pub instance_tokens-more : (fs : List FieldTree) (i : ℕ) (rest : List FieldTree) (f : FieldTree)
    → instance_tokens fs i (rest ++ f ∷ []) ≡ instance_tokens fs i rest ++ instance_field_token fs (i + length rest) f
    ∷ []
unfolding instance_tokens
instance_tokens-more fs i [] f = let e : i ≡ i + 0 = omega arith in ap (λ n. instance_field_token fs n f ∷ []) e
instance_tokens-more fs i (g ∷ rest) f =
    let e : i + 1 + length rest ≡ i + suc (length rest) = omega arith in
    ap (λ q. instance_field_token fs i g ∷ q) (instance_tokens-more fs (i + 1) rest f
    ∙ ap (λ n. instance_tokens fs (i + 1) rest ++ instance_field_token fs n f ∷ []) e)

-- ---- a walk over the fields

pub take-length : {A : Type 0} (xs : List A) (i : ℕ) → i < length xs → 0 + length (take i xs) ≡ i
take-length xs i lt = grind (arith, common_steps)

pub instance_tokens-next : (fs : List FieldTree) (i : ℕ) (f : FieldTree) → i < length fs → f ≡ get_or fs i f
    → instance_tokens fs 0 (take (i + 1) fs) ≡ instance_tokens fs 0 (take i fs) ++ instance_field_token fs i f ∷ []
instance_tokens-next fs i f lt is =
    ap (instance_tokens fs 0) (take_more fs i f lt)
    ∙ instance_tokens-more fs 0 (take i fs) (get_or fs i f)
    ∙ ap (λ n. instance_tokens fs 0 (take i fs) ++ instance_field_token fs n (get_or fs i f) ∷ []) (take-length fs i lt)
    ∙ ap (λ (g : FieldTree). instance_tokens fs 0 (take i fs) ++ instance_field_token fs i g ∷ []) (sym is)

pub field_tokens-next : (exported : Bool) (fs : List FieldTree) (i : ℕ) (f : FieldTree) → i < length fs
    → f ≡ get_or fs i f → field_tokens exported fs 0 (take (i + 1) fs) ≡ field_tokens exported fs 0 (take i fs)
    ++ field_token exported fs i f ∷ []
field_tokens-next exported fs i f lt is =
    ap (field_tokens exported fs 0) (take_more fs i f lt)
    ∙ field_tokens-more exported fs 0 (take i fs) (get_or fs i f)
    ∙ ap (λ n. field_tokens exported fs 0 (take i fs) ++ field_token exported fs n (get_or fs i f)
    ∷ []) (take-length fs i lt)
    ∙ ap (λ (g : FieldTree). field_tokens exported fs 0 (take i fs) ++ field_token exported fs i g ∷ []) (sym is)

-- ---- counts

module _ {A : Type 0} (p : A → Bool) where
  count-cons : (x : A) (xs : List A) → count_by p (x ∷ xs) ≡ cond (p x) 1 0 + count_by p xs
  count-cons x xs = sum_by-cons (λ y. cond (p y) 1 0) x xs

  pub count_next : (xs : List A) (i : ℕ) (x : A) → i < length xs → x ≡ get_or xs i x → count_by p (take (i + 1) xs)
      ≡ count_by p (take i xs) + cond (p x) 1 0
  count_next xs i x lt is =
      ap (count_by p) (take_more xs i x lt) ∙ sum_by_push (λ y. cond (p y) 1 0) (take i xs) (get_or xs i x)
      ∙ ap (λ y. count_by p (take i xs) + cond (p y) 1 0) (sym is)

  -- one that counts stands behind those before it
  pub count_before : (xs : List A) (i : ℕ) (x : A) → i < length xs → x ≡ get_or xs i x → p x ≡ true
      → count_by p (take i xs) < count_by p xs
  count_before [] i x lt is e = absurd (omega arith)
  count_before (y ∷ xs) zero x lt is e =
      let c : count_by p (y ∷ xs) ≡ cond (p y) 1 0 + count_by p xs = count-cons y xs in
      let d : cond (p y) 1 0 ≡ 1 = ap (λ q. cond (p q) 1 0) (sym is) ∙ ap (λ b. cond b 1 0) e in
      positive (cond (p y) 1 0) (count_by p xs) (count_by p (y ∷ xs)) c d
    where
      positive : (a b n : ℕ) → n ≡ a + b → a ≡ 1 → 0 < n
      positive a b n c d = omega arith
  count_before (y ∷ xs) (suc i) x lt is e =
      more (cond (p y) 1 0) (count_by p xs) (count_by p (take i xs)) (count_by p (y ∷ xs)) (count_by p (y ∷ take i xs))
      (count-cons y xs) (count-cons y (take i xs)) (count_before xs i x (omega arith) is e)
    where
      more : (a b k n m : ℕ) → n ≡ a + b → m ≡ a + k → k < b → m < n
      more a b k n m c d h = omega arith

pub instance_tokens-length : (fs : List FieldTree) (i : ℕ) (rest : List FieldTree) → length (instance_tokens fs i rest)
    ≡ length rest
unfolding instance_tokens
instance_tokens-length fs i [] = refl
instance_tokens-length fs i (f ∷ rest) = ap suc (instance_tokens-length fs (i + 1) rest)

pub few-instances : (read fs : List FieldTree) (kept : List (Option ℕ)) → kept ≡ instance_tokens read 0 read → read ≡ fs
    → length fs < 2 ^ 32 → length kept < 2 ^ 32
few-instances read fs kept e is few =
    let l : length kept ≡ length fs = ap length e ∙ instance_tokens-length read 0 read ∙ ap length is in
    subst (λ n. n < 2 ^ 32) (sym l) few
