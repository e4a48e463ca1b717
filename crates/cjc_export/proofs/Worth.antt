-- A list in which each constant stands once is worth no more than one that has them all.
use Rattle.std.proofs.Common.{◌≡◌, ℕ, ◌+◌, ◌≤◌, Bool, true, false, cond, ◌||◌, List, [], ◌∷◌, ◌++◌, refl, sym, ap, ◌∙◌}
use Rattle.std.proofs.Common.{arith, true≢false}
use Rattle.std.specs.List.{AllByRecursion, list_any}
use Rattle.std.proofs.lemmas.List.Folds.{list_any-append}
use Rattle.std.proofs.lemmas.Bool.{or_right}
use Rattle.indexmap.specs.IndexSet.{insert_all}
use Rattle.cjc_export.specs.Constant.{Constant, same}
use Rattle.cjc_export.specs.Working.Same.{same-Decides}
use Rattle.cjc_export.proofs.Numbering.{Has}

-- what they are worth together
abbrev pub total : (Constant → ℕ) → List Constant → ℕ
total w [] = 0
total w (c ∷ cs) = w c + total w cs

pub total-append : (w : Constant → ℕ) (xs ys : List Constant) → total w (xs ++ ys) ≡ total w xs + total w ys
total-append w [] ys = omega arith
total-append w (x ∷ xs) ys = let rest : total w (xs ++ ys) ≡ total w xs + total w ys = total-append w xs ys
    in omega arith

-- the list without the constant's first place
abbrev without : Constant → List Constant → List Constant
without c [] = []
without c (x ∷ xs) = cond (same c x) xs (x ∷ without c xs)

total_by : (w : Constant → ℕ) (c x : Constant) (xs : List Constant) (b : Bool) → same c x ≡ b
    → (b || list_any (same c) xs) ≡ true
    → (Has xs c → total w xs ≡ w c + total w (without c xs))
    → w x + total w xs ≡ w c + total w (cond b xs (x ∷ without c xs))
total_by w c x xs true e h rest = ap (λ (y : Constant). w y + total w xs) (sym ((same-Decides c x).0 e))
total_by w c x xs false e h rest = let behind : total w xs ≡ w c + total w (without c xs) = rest h in omega arith

total-without : (w : Constant → ℕ) (c : Constant) (xs : List Constant) → Has xs c
    → total w xs ≡ w c + total w (without c xs)
total-without w c [] h = absurd (true≢false (sym h))
total-without w c (x ∷ xs) h = total_by w c x xs (same c x) refl h (total-without w c xs)

has_by : (c d x : Constant) (xs : List Constant) (b a : Bool) → same c x ≡ b → same d x ≡ a → same d c ≡ false
    → (a || list_any (same d) xs) ≡ true
    → (Has xs d → Has (without c xs) d) → Has (cond b xs (x ∷ without c xs)) d
has_by c d x xs true true e f apart h rest = let is : c ≡ x = (same-Decides c x).0 e
    in absurd (true≢false (sym f ∙ (ap (same d) (sym is) ∙ apart)))
has_by c d x xs true false e f apart h rest = h
has_by c d x xs false true e f apart h rest = rw f refl
has_by c d x xs false false e f apart h rest = rw f (rest h)

Has-without : (c d : Constant) (xs : List Constant) → same d c ≡ false → Has xs d → Has (without c xs) d
Has-without c d [] apart h = h
Has-without c d (x ∷ xs) apart h = has_by c d x xs (same c x) (same d x) refl refl apart h (Has-without c d xs apart)

-- one of two lists has the constant
abbrev OneHas : List Constant → List Constant → Constant → Type 0
OneHas ks ms c = (list_any (same c) ks || list_any (same c) ms) ≡ true

moved_by : (ks ms : List Constant) (x c : Constant) (a b : Bool) → list_any (same c) ks ≡ a → same c x ≡ b
    → (a || list_any (same c) ms) ≡ true → OneHas (ks ++ x ∷ []) (without x ms) c
moved_by ks ms x c true b e f h = rw (list_any-append (same c) ks (x ∷ []), e) refl
moved_by ks ms x c false true e f h = rw (list_any-append (same c) ks (x ∷ []), e, f) refl
moved_by ks ms x c false false e f h = or_right (list_any (same c) (ks ++ x ∷ [])) (list_any (same c) (without x ms))
    (Has-without x c ms f h)

moved : (ks ms : List Constant) (x : Constant) (xs : List Constant) → AllByRecursion (OneHas ks ms) xs
    → AllByRecursion (OneHas (ks ++ x ∷ []) (without x ms)) xs
moved ks ms x [] h = tt
moved ks ms x (c ∷ cs) h = (moved_by ks ms x c (list_any (same c) ks) (same c x) refl refl h.0, moved ks ms x cs h.1)

more_by : (w : Constant → ℕ) (ks ms : List Constant) (x : Constant) (xs : List Constant) (b : Bool)
    → (b || list_any (same x) ms) ≡ true → AllByRecursion (OneHas ks ms) xs
    → ((js ns : List Constant) → AllByRecursion (OneHas js ns) xs → total w (insert_all same js xs) ≤ total w js + total
    w ns)
    → total w (insert_all same (cond b ks (ks ++ x ∷ [])) xs) ≤ total w ks + total w ms
more_by w ks ms x xs true h all rest = rest ks ms all
more_by w ks ms x xs false h all rest =
    let bound : total w (insert_all same (ks ++ x ∷ []) xs) ≤ total w (ks ++ x ∷ []) + total w (without x ms) =
    rest (ks ++ x ∷ []) (without x ms) (moved ks ms x xs all) in
    let put : total w (ks ++ x ∷ []) ≡ total w ks + (w x + 0) = total-append w ks (x ∷ []) in
    let taken : total w ms ≡ w x + total w (without x ms) = total-without w x ms h in
    omega arith

inserted : (w : Constant → ℕ) (ks ms xs : List Constant) → AllByRecursion (OneHas ks ms) xs
    → total w (insert_all same ks xs) ≤ total w ks + total w ms
inserted w ks ms [] h = omega arith
inserted w ks ms (x ∷ xs) h = more_by w ks ms x xs (list_any (same x) ks) h.0 h.1 (λ js ns all. inserted w js ns xs all)

pub worth_at_most : (w : Constant → ℕ) (ms xs : List Constant) → AllByRecursion (Has ms) xs
    → total w (insert_all same [] xs) ≤ total w ms
worth_at_most w ms xs h = let bound : total w (insert_all same [] xs) ≤ 0 + total w ms = inserted w [] ms xs h
    in omega arith
