-- One step of a loop over numbers.
use Rattle.std.proofs.Common.{◌≡◌, ℕ, suc, ◌+◌, ◌*◌, List, [], ◌∷◌, ◌++◌, refl, sym, ap, ◌∙◌, arith, add-one}
use Rattle.std.proofs.Common.{append_assoc}
use Rattle.std.specs.Prelude.{map}
use Rattle.std.specs.List.{flat_map}
use Rattle.std.proofs.lemmas.List.{append-nil, flat_map_more, map_push}
use Rattle.cjc_cmd_make.specs.Package.ClassFile.{file_bytes}
use Rattle.cjc_cmd_make.specs.Package.Classes.{class_file, class_with}
use Rattle.cjc_cmd_make.specs.Package.Numbers.{below, number_at, number_behind, operand_of}

flat_map_below : {A : Type 0} (f : ℕ → List A) (out : List A) (n : ℕ) → (out ++ flat_map f (below n)) ++ f n ≡ out
    ++ flat_map f (below (n + 1))
unfolding below
flat_map_below f out n = rw (add-one) (flat_map_more f out (below n) n)

map_below : {A : Type 0} (f : ℕ → A) (out : List A) (n : ℕ) → (out ++ map f (below n)) ++ f n ∷ [] ≡ out
    ++ map f (below (n + 1))
unfolding below
map_below f out n = rw (add-one, map_push f (below n) n) (append_assoc out (map f (below n)) (f n ∷ []))

-- before the first number nothing is put
pub flat_map_none : {A : Type 0} (f : ℕ → List A) (start : List A) → start ≡ start ++ flat_map f (below 0)
unfolding below
flat_map_none f start = sym (append-nil start)

-- what was put before number n, and what it gives
pub flat_map_step : {A : Type 0} (f : ℕ → List A) (start now next : List A) (n : ℕ) → now ≡ start
    ++ flat_map f (below n) → next ≡ now ++ f n → next ≡ start ++ flat_map f (below (n + 1))
flat_map_step f start now next n so_far more = more ∙ (ap (λ o. o ++ f n) so_far ∙ flat_map_below f start n)

-- the same of files
pub map_none : {A : Type 0} (f : ℕ → A) (start : List A) → start ≡ start ++ map f (below 0)
unfolding below
map_none f start = sym (append-nil start)

map_step : {A : Type 0} (f : ℕ → A) (start now next : List A) (n : ℕ) → now ≡ start ++ map f (below n) → next ≡ now
    ++ f n ∷ [] → next ≡ start ++ map f (below (n + 1))
map_step f start now next n so_far more = more ∙ (ap (λ o. o ++ f n ∷ []) so_far ∙ map_below f start n)

-- the numbers of class i stand behind number 2 i
first_number : (given i : ℕ) → number_at given (2 * i + 1) ≡ number_behind (number_at given (2 * i))
unfolding number_at
first_number given i = rw (add-one) refl

second_number : (given i : ℕ) → number_at given (2 * i + 2) ≡ number_behind (number_behind (number_at given (2 * i)))
unfolding number_at
second_number given i =
    let place : 2 * i + 2 ≡ suc (suc (2 * i)) = omega arith in
    ap (λ (k : ℕ). number_at given k) place

pub next_number : (given i x y : ℕ) → x ≡ number_at given (2 * i) → y ≡ number_behind (number_behind x)
    → y ≡ number_at given (2 * (i + 1))
next_number given i x y is behind =
    let place : 2 * i + 2 ≡ 2 * (i + 1) = omega arith in
    behind ∙ (ap (λ (n : ℕ). number_behind (number_behind n)) is ∙ (sym (second_number given i)
    ∙ ap (λ (k : ℕ). number_at given k) place))

-- the file that is put is that of class i
next_file : (given i x : ℕ) → x ≡ number_at given (2 * i)
    → file_bytes (class_with i (operand_of (number_behind x)) (operand_of (number_behind (number_behind x))))
    ≡ class_file given i
next_file given i x is =
    let first : number_behind x ≡ number_at given (2 * i + 1) = ap (λ (n : ℕ). number_behind n) is
    ∙ sym (first_number given i) in
    let second : number_behind (number_behind x) ≡ number_at given (2 * i + 2) =
    ap (λ (n : ℕ). number_behind (number_behind n)) is ∙ sym (second_number given i) in
    ap (λ (n : ℕ). file_bytes (class_with i (operand_of n) (operand_of (number_behind (number_behind x))))) first
    ∙ ap (λ (n : ℕ). file_bytes (class_with i (operand_of (number_at given (2 * i + 1))) (operand_of n))) second

pub next_files : (given i x : ℕ) (start now next : List (List ℕ)) → x ≡ number_at given (2 * i) → now ≡ start
    ++ map (class_file given) (below i)
    → next ≡ now ++ file_bytes (class_with i (operand_of (number_behind x))
    (operand_of (number_behind (number_behind x)))) ∷ [] → next ≡ start ++ map (class_file given) (below (i + 1))
next_files given i x start now next is so_far more =
    map_step (class_file given) start now next i so_far (more ∙ ap (λ (file : List ℕ). now
    ++ file ∷ []) (next_file given i x is))
