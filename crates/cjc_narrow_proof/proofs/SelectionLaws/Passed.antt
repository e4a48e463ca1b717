-- Arguments that leave two stacks that agree, and the locals of the frames that begin with them.
use Rattle.std.proofs.Common.{◌≡◌, ℕ, zero, suc, ◌+◌, ◌≤◌, refl, sym, ap, subst, ◌∙◌, arith, Bool, true, List, [], ◌∷◌}
use Rattle.std.proofs.Common.{◌++◌, length, take, drop, reverse, replicate, ℤ}
use Rattle.std.specs.Prelude.{Some, None, map, ◌&&◌}
use Rattle.std.proofs.lemmas.List.{reverse-append, take-replicate}
use Rattle.cjc_script.specs.declared.value.Value.{Value}
use Rattle.cjc_script.specs.declared.value.Value.TheVariants.{Num}
use Rattle.cjc_script.specs.Sorts.{Shape, Sort, Boolean, Byte, Short, Int, Reference, NoValue}
use Rattle.cjc_range.specs.Span.{Span}
use Rattle.cjc_jvm_semantics.specs.Machine.{is_of_sort, are_of_sorts}
use Rattle.cjc_narrow_proof.specs.Selection.Relation.{OnBoth, no_cell, a_range, a_reference as both_reference}
use Rattle.cjc_narrow_proof.specs.Selection.Relation.{an_unused, Kind, Range, Refers, Free, Away, Heap, number, null}
use Rattle.cjc_narrow_proof.specs.Selection.Relation.{object, Stacks, bottom, cell, left_out, Locals, no_more, local}
use Rattle.cjc_narrow_proof.specs.Selection.Relation.{unused}
use Rattle.cjc_narrow_proof.specs.Selection.Calls.{is_number_sort, Passes, no_parameter, a_number, a_reference}

-- the top cells are on both stacks
pub data Here : ℕ → List Kind → Type 0 where
  nothing : {ks : List Kind} → Here zero ks
  range : {n : ℕ} {numbers : Span} {ks : List Kind} → Here n ks → Here (suc n) (Range numbers ∷ ks)
  refers : {n : ℕ} {within : Shape (List ℕ) → Bool} {ks : List Kind} → Here n ks → Here (suc n) (Refers within ∷ ks)
  unread : {n : ℕ} {ks : List Kind} → Here n ks → Here (suc n) (Free ∷ ks)

rev : {A : Type 0} (x : A) (xs : List A) → reverse (x ∷ xs) ≡ reverse xs ++ x ∷ []
rev x xs = reverse-append (x ∷ []) xs

append_nothing : {A : Type 0} (xs : List A) → xs ++ [] ≡ xs
append_nothing [] = refl
append_nothing (x ∷ xs) = ap (λ ys. x ∷ ys) (append_nothing xs)

pub append_in_turn : {A : Type 0} (xs ys zs : List A) → (xs ++ ys) ++ zs ≡ xs ++ (ys ++ zs)
append_in_turn [] ys zs = refl
append_in_turn (x ∷ xs) ys zs = ap (λ l. x ∷ l) (append_in_turn xs ys zs)

pub length_both : {A : Type 0} (xs ys : List A) → length (xs ++ ys) ≡ length xs + length ys
length_both [] ys = omega arith
length_both (x ∷ xs) ys = let e = length_both xs ys in omega arith

pub length_reverse : {A : Type 0} (xs : List A) → length (reverse xs) ≡ length xs
length_reverse [] = refl
length_reverse (x ∷ xs) =
    let e = ap length (rev x xs) in let f = length_both (reverse xs) (x ∷ []) in let g = length_reverse xs
    in omega arith

reverse_twice : {A : Type 0} (xs : List A) → reverse (reverse xs) ≡ xs
reverse_twice [] = refl
reverse_twice (x ∷ xs) = ap reverse (rev x xs) ∙ reverse-append (reverse xs) (x ∷ [])
    ∙ ap (λ ys. x ∷ ys) (reverse_twice xs)

pub take_all : {A : Type 0} (xs ys : List A) → take (length xs) (xs ++ ys) ≡ xs
take_all [] ys = refl
take_all (x ∷ xs) ys = ap (λ l. x ∷ l) (take_all xs ys)

pub drop_all : {A : Type 0} (xs ys : List A) → drop (length xs) (xs ++ ys) ≡ ys
drop_all [] ys = refl
drop_all (x ∷ xs) ys = drop_all xs ys

-- each argument is of its sort
number_of_sort : (type : Sort) (x : ℤ) → is_number_sort type ≡ true → is_of_sort type (Num x) ≡ true
number_of_sort Boolean x e = refl
number_of_sort Byte x e = refl
number_of_sort Short x e = refl
number_of_sort Int x e = cc
number_of_sort (Reference kind) x e = cc
number_of_sort NoValue x e = cc

-- ---- the top of a stack

pub here_before : {ks : List Kind} (js : List Kind) → OnBoth ks → Here (length ks) (ks ++ js)
here_before js no_cell = nothing
here_before js (a_range p) = range (here_before js p)
here_before js (both_reference p) = refers (here_before js p)
here_before js (an_unused p) = unread (here_before js p)

plain_both : {ks js : List Kind} → OnBoth ks → OnBoth js → OnBoth (ks ++ js)
plain_both no_cell q = q
plain_both (a_range p) q = a_range (plain_both p q)
plain_both (both_reference p) q = both_reference (plain_both p q)
plain_both (an_unused p) q = an_unused (plain_both p q)

pub plain_reverse : {ks : List Kind} → OnBoth ks → OnBoth (reverse ks)
plain_reverse no_cell = no_cell
plain_reverse (a_range {numbers = n} {ks = ks} p) = subst OnBoth (sym (rev (Range n) ks)) (plain_both (plain_reverse p)
    (a_range no_cell))
plain_reverse (both_reference {within = w} {ks = ks} p) = subst OnBoth (sym (rev (Refers w) ks))
    (plain_both (plain_reverse p) (both_reference no_cell))
plain_reverse (an_unused {ks = ks} p) = subst OnBoth (sym (rev Free ks)) (plain_both (plain_reverse p)
    (an_unused no_cell))

pub passed_plain : {types : List Sort} {ks : List Kind} → Passes types ks → OnBoth ks
passed_plain no_parameter = no_cell
passed_plain (a_number e p) = a_range (passed_plain p)
passed_plain (a_reference p) = both_reference (passed_plain p)

pub passed_length : {types : List Sort} {ks : List Kind} → Passes types ks → length types ≡ length ks
passed_length no_parameter = refl
passed_length (a_number e p) = ap suc (passed_length p)
passed_length (a_reference p) = ap suc (passed_length p)

module _ {heap : Heap} where
  pub taken : {n : ℕ} {ks : List Kind} {vs ws : List Value} → Here n ks → Stacks heap ks vs ws
      → Stacks heap (take n ks) (take n vs) (take n ws)
  taken nothing s = bottom
  taken (range h) (cell a s) = cell a (taken h s)
  taken (refers h) (cell a s) = cell a (taken h s)
  taken (unread h) (cell a s) = cell a (taken h s)

  pub dropped : {n : ℕ} {ks : List Kind} {vs ws : List Value} → Here n ks → Stacks heap ks vs ws
      → Stacks heap (drop n ks) (drop n vs) (drop n ws)
  dropped nothing s = s
  dropped (range h) (cell a s) = dropped h s
  dropped (refers h) (cell a s) = dropped h s
  dropped (unread h) (cell a s) = dropped h s

  pub high_enough : {n : ℕ} {ks : List Kind} {vs ws : List Value} → Here n ks → Stacks heap ks vs ws → n ≤ length ws
  high_enough nothing s = omega arith
  high_enough (range h) (cell a s) = let r = high_enough h s in omega arith
  high_enough (refers h) (cell a s) = let r = high_enough h s in omega arith
  high_enough (unread h) (cell a s) = let r = high_enough h s in omega arith

  pub joined : {ks js : List Kind} {vs ws xs ys : List Value} → Stacks heap ks vs ws → Stacks heap js xs ys
      → Stacks heap (ks ++ js) (vs ++ xs) (ws ++ ys)
  joined bottom t = t
  joined (cell a s) t = cell a (joined s t)
  joined (left_out a s) t = left_out a (joined s t)

  pub reversed : {ks : List Kind} {vs ws : List Value} → Stacks heap ks vs ws
      → Stacks heap (reverse ks) (reverse vs) (reverse ws)
  reversed bottom = bottom
  reversed (cell {k = k} {v = v} {w = w} {ks = ks} {vs = vs} {ws = ws} a s) =
      subst (λ l. Stacks heap l (reverse (v ∷ vs)) (reverse (w ∷ ws))) (sym (rev k ks))
      (subst (λ l. Stacks heap (reverse ks ++ k ∷ []) l (reverse (w ∷ ws))) (sym (rev v vs))
      (subst (λ l. Stacks heap (reverse ks ++ k ∷ []) (reverse vs ++ v ∷ []) l) (sym (rev w ws))
      (joined (reversed s) (cell a bottom))))
  reversed (left_out {k = k} {v = v} {ks = ks} {vs = vs} {ws = ws} a s) =
      subst (λ l. Stacks heap l (reverse (v ∷ vs)) (reverse ws)) (sym (rev (Away k) ks))
      (subst (λ l. Stacks heap (reverse ks ++ Away k ∷ []) l (reverse ws)) (sym (rev v vs))
      (subst (λ l. Stacks heap (reverse ks ++ Away k ∷ []) (reverse vs ++ v ∷ []) l) (append_nothing (reverse ws))
      (joined (reversed s) (left_out a bottom))))

  -- the arguments in their order, and what is below them
  pub args_agree : {params : List Kind} (ks : List Kind) (n : ℕ) {vs ws : List Value} → OnBoth params
      → n ≡ length params → Stacks heap (reverse params ++ ks) vs ws
      → Stacks heap params (reverse (take n vs)) (reverse (take n ws))
  args_agree {params = params} ks n {vs = vs} {ws = ws} plain e s =
      let many : n ≡ length (reverse params) = e ∙ sym (length_reverse params) in
      let top : Stacks heap (take n (reverse params ++ ks)) (take n vs) (take n ws) =
      subst (λ k. Stacks heap (take k (reverse params ++ ks)) (take k vs) (take k ws)) (sym many)
      (taken (here_before ks (plain_reverse plain)) s) in
      let kinds : take n (reverse params ++ ks) ≡ reverse params = ap (λ k. take k (reverse params ++ ks)) many
      ∙ take_all (reverse params) ks in
      subst (λ k. Stacks heap k (reverse (take n vs)) (reverse (take n ws))) (reverse_twice params)
      (reversed (subst (λ k. Stacks heap k (take n vs) (take n ws)) kinds top))

  pub below_agree : {params : List Kind} (ks : List Kind) (n : ℕ) {vs ws : List Value} → OnBoth params
      → n ≡ length params → Stacks heap (reverse params ++ ks) vs ws → Stacks heap ks (drop n vs) (drop n ws)
  below_agree {params = params} ks n {vs = vs} {ws = ws} plain e s =
      let many : n ≡ length (reverse params) = e ∙ sym (length_reverse params) in
      let low : Stacks heap (drop n (reverse params ++ ks)) (drop n vs) (drop n ws) =
      subst (λ k. Stacks heap (drop k (reverse params ++ ks)) (drop k vs) (drop k ws)) (sym many)
      (dropped (here_before ks (plain_reverse plain)) s) in
      subst (λ k. Stacks heap k (drop n vs) (drop n ws)) (ap (λ k. drop k (reverse params ++ ks)) many
      ∙ drop_all (reverse params) ks) low

  pub enough_words : {params : List Kind} (ks : List Kind) (n : ℕ) {vs ws : List Value} → OnBoth params
      → n ≡ length params → Stacks heap (reverse params ++ ks) vs ws → n ≤ length ws
  enough_words {params = params} ks n plain e s = let h = high_enough (here_before ks (plain_reverse plain)) s
      in let g = length_reverse params in omega arith

  pub of_sorts : {types : List Sort} {params : List Kind} {vs ws : List Value} → Passes types params
      → Stacks heap params vs ws → are_of_sorts types vs ≡ true
  of_sorts no_parameter bottom = refl
  of_sorts (a_number {type = type} {types = types} e p) (cell {vs = vs} (number {x = x} is h) s) =
      ap (λ t. t && are_of_sorts types vs) (number_of_sort type x e) ∙ of_sorts p s
  of_sorts (a_reference p) (cell null s) = of_sorts p s
  of_sorts (a_reference p) (cell (object thing is e) s) = of_sorts p s

  -- ---- the locals of a frame that begins

  unset : (n : ℕ) → Locals heap (replicate n Free) (replicate n None) (replicate n None)
  unset zero = no_more
  unset (suc n) = unused (unset n)

  pub first : (n : ℕ) {params : List Kind} {args words : List Value} → OnBoth params → Stacks heap params args words
      → Locals heap (params ++ replicate n Free) (map (λ v. Some v) args ++ replicate n None) (map (λ v. Some v) words
      ++ replicate n None)
  first n no_cell bottom = unset n
  first n (a_range p) (cell a s) = local a (first n p s)
  first n (both_reference p) (cell a s) = local a (first n p s)
  first n (an_unused p) (cell a s) = local a (first n p s)

  pub both_long : {params : List Kind} {args words : List Value} → OnBoth params → Stacks heap params args words
      → (length args ≡ length params) × (length words ≡ length params)
  both_long no_cell bottom = (refl, refl)
  both_long (a_range p) (cell a s) = let r = both_long p s in (ap suc r.0, ap suc r.1)
  both_long (both_reference p) (cell a s) = let r = both_long p s in (ap suc r.0, ap suc r.1)
  both_long (an_unused p) (cell a s) = let r = both_long p s in (ap suc r.0, ap suc r.1)

-- as many cells as words and further locals
pub filled : (words : List Value) (further whole : ℕ) → length words + further ≤ whole
    → take (length words + further) (map (λ v. Some v) words ++ replicate whole None) ≡ map (λ v. Some v) words
    ++ replicate further None
filled [] further whole h =
    let e : 0 + further ≡ further = omega arith in
    ap (λ n. take n (replicate whole None)) e ∙ take-replicate further whole None (omega arith)
filled (v ∷ words) further whole h =
    let e : suc (length words) + further ≡ suc (length words + further) = omega arith in
    ap (λ n. take n (Some v ∷ (map (λ v. Some v) words ++ replicate whole None))) e
    ∙ ap (λ l. Some v ∷ l) (filled words further whole (omega arith))

-- ---- the receiver below the arguments

drop_more : (n : ℕ) (vs : List Value) {v : Value} {below : List Value} → drop n vs ≡ v ∷ below → drop (suc n) vs ≡ below
drop_more zero [] e = cc
drop_more zero (x ∷ vs) e = cc
drop_more (suc n) [] e = cc
drop_more (suc n) (x ∷ vs) e = drop_more n vs e

take_more : (n : ℕ) (vs : List Value) {v : Value} {below : List Value} → drop n vs ≡ v ∷ below
    → take (suc n) vs ≡ take n vs ++ v ∷ []
take_more zero [] e = cc
take_more zero (x ∷ vs) {v = v} e = let f : x ≡ v = cc in ap (λ y. y ∷ []) f
take_more (suc n) [] e = cc
take_more (suc n) (x ∷ vs) e = ap (λ l. x ∷ l) (take_more n vs e)

pub receiver_first : (n : ℕ) (vs : List Value) {v : Value} {below : List Value} → drop n vs ≡ v ∷ below
    → reverse (take (suc n) vs) ≡ v ∷ reverse (take n vs)
receiver_first n vs {v = v} e = ap reverse (take_more n vs e) ∙ reverse-append (take n vs) (v ∷ [])

pub receiver_off : (n : ℕ) (vs : List Value) {v : Value} {below : List Value} → drop n vs ≡ v ∷ below
    → drop (suc n) vs ≡ below
receiver_off n vs e = drop_more n vs e

-- a receiver is the first argument, and so the deepest
pub receiver_below : (within : Shape (List ℕ) → Bool) (params ks : List Kind) → reverse (Refers within ∷ params)
    ++ ks ≡ reverse params ++ (Refers within ∷ ks)
receiver_below within params ks = ap (λ l. l ++ ks) (rev (Refers within) params)
    ∙ append_in_turn (reverse params) (Refers within ∷ []) ks
