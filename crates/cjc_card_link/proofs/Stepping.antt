-- Steps are summed up one by one.
use Rattle.std.proofs.Common.{◌≡◌, ℕ, ◌+◌, ◌<◌, ◌≤◌, List, [], ◌∷◌, ◌++◌, length, get_or, drop, map, ap, arith, Result}
use Rattle.std.proofs.Common.{Ok, Err, IfOk}
use Rattle.std.proofs.lemmas.List.{at_drop_more, drop_all, length-map}
use Rattle.cjc_card_semantics.specs.CapRead.declared.tree.ClassEntry.{ClassEntry}
use Rattle.cjc_card_semantics.specs.Machine.Classes.{Info, IsClass, info_steps}

-- the sum of two
pub summed : {E : Type 0} (r : Result ℕ E) (a b x y total : ℕ) → a ≡ x → b ≡ y → total ≡ x + y → IfOk r (λ n. n ≡ a + b)
    → IfOk r (λ n. n ≡ total)
summed (Ok n) a b x y total ea eb t e = omega (arith, ea, eb, t, e)
summed (Err f) a b x y total ea eb t e = e

-- One more item is counted.
pub count_more : {A : Type 0} (F : List A → ℕ) (g : A → ℕ) → ((x : A) (xs : List A) → F (x ∷ xs) ≡ g x + F xs)
    → (i : ℕ) (x d : A) (xs : List A) (old new total : ℕ) → i < length xs → x ≡ get_or xs i d → new ≡ old + g x
    → old + F (drop i xs) ≡ total → new + F (drop (i + 1) xs) ≡ total
count_more {A} F g each i x d xs old new total lt is n so_far =
    let e = at_drop_more F xs i d lt in
    let s = each (get_or xs i d) (drop (i + 1) xs) in
    let same : g x ≡ g (get_or xs i d) = ap g is in
    omega (arith, e, s, same, n, so_far)

pub count_all : {A : Type 0} (F : List A → ℕ) → F [] ≡ 0 → (i : ℕ) (xs : List A) (done total : ℕ) → length xs ≤ i
    → done + F (drop i xs) ≡ total → done ≡ total
count_all {A} F none i xs done total le so_far =
    let e : F (drop i xs) ≡ F [] = ap F (drop_all i xs le) in omega (arith, e, none, so_far)

pub info_steps-append : (xs ys : List Info) → info_steps (xs ++ ys) ≡ info_steps xs + info_steps ys
info_steps-append [] ys = omega arith
info_steps-append (x ∷ xs) ys = let h = info_steps-append xs ys in omega (arith, h)

pub one_entry : (c : ClassEntry) (cs : List ClassEntry) → info_steps (map IsClass (c ∷ cs)) ≡ (3 + length c.interfaces)
    + info_steps (map IsClass cs)
one_entry c cs = let h = length-map c.interfaces (λ m. m.interface) in omega (arith, h)
