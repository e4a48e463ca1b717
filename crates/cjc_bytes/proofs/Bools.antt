-- Truth values.
use Rattle.std.proofs.Common.{Bool, None, Some, false, inl, inr, refl, true, ◌&&◌, ◌||◌, ◌≡◌}
use Rattle.std.specs.Prelude.{if◌then◌else◌, not, ◌⊎◌}

pub and_true : (a b : Bool) → (a && b) ≡ true → (a ≡ true) × (b ≡ true)
and_true true b e = (refl, e)
and_true false b e = cc

pub or_true : (b : Bool) → (b || true) ≡ true
or_true true = refl
or_true false = refl

pub by_if : {A : Type 0} (P : A → Type 0) (b : Bool) (x y : A) → P x → P y → P (if b then x else y)
by_if P true x y p q = p
by_if P false x y p q = q

pub both_front : (p q : Bool) → (p && q) ≡ true → p ≡ true
both_front true q e = refl
both_front false q e = cc

pub both_back : (a b : Bool) → (a && b) ≡ true → b ≡ true
both_back true b e = e
both_back false b e = cc

pub or_cases : (a b : Bool) → (a || b) ≡ true → (a ≡ true) ⊎ (b ≡ true)
or_cases true b e = inl refl
or_cases false b e = inr e

pub not_true : (b : Bool) → not b ≡ true → b ≡ false
not_true true e = cc
not_true false e = refl

pub and_false : (a : Bool) → (a && false) ≡ false
and_false true = refl
and_false false = refl

pub not_false : (b : Bool) → not b ≡ false → b ≡ true
not_false true e = refl
not_false false e = absurd cc

pub bool_either : {P : Type 0} → (t : Bool) → (t ≡ true → P) → (t ≡ false → P) → P
bool_either true p q = p refl
bool_either false p q = q refl

pub or_assoc : (a b c : Bool) → ((a || b) || c) ≡ (a || (b || c))
or_assoc true b c = refl
or_assoc false b c = refl

pub true_or_false : (b : Bool) → (b ≡ true) ⊎ (b ≡ false)
true_or_false true = inl refl
true_or_false false = inr refl

pub true_not_false : (b : Bool) → b ≡ true → b ≡ false → ⊥
true_not_false b e f = cc

pub or_left : (a b : Bool) → (a || b) ≡ false → a ≡ false
or_left true b e = cc
or_left false b e = refl

pub or_right : (a b : Bool) → (a || b) ≡ false → b ≡ false
or_right true b e = absurd cc
or_right false b e = e

pub left4 : (a b c d : Bool) → a ≡ true → (a || b || c || d) ≡ true
left4 true b c d e = refl
left4 false b c d e = cc

pub second4 : (a b c d : Bool) → b ≡ true → (a || b || c || d) ≡ true
second4 true b c d e = refl
second4 false true c d e = refl
second4 false false c d e = cc

pub split_or : (a b : Bool) {P : Type 0} → (a || b) ≡ true → (a ≡ true → P) → (b ≡ true → P) → P
split_or true b e p q = p refl
split_or false b e p q = q e

pub bool_kept : {A : Type 0} (b : Bool) (x y : A) → Some x ≡ (if b then Some y else None) → x ≡ y
bool_kept true x y e = cc
bool_kept false x y e = absurd (some_is_none x e) where
  some_is_none : {A : Type 0} (x : A) → Some x ≡ None → ⊥
  some_is_none x e = cc

pub bool_four : (a b c d : Bool) → (a || b || c || d) ≡ false → (a ≡ false) × (b ≡ false) × (c ≡ false) × (d ≡ false)
bool_four false false false false h = (refl, refl, refl, refl)
bool_four true b c d h = cc
bool_four false true c d h = cc
bool_four false false true d h = cc
bool_four false false false true h = cc

pub both_true : (a b : Bool) → a ≡ true → (a && b) ≡ false → b ≡ false
both_true true b e f = f
both_true false b e f = cc

pub hidden_closed : (a b : Bool) → (not a && b) ≡ true → a ≡ false
hidden_closed true b e = cc
hidden_closed false b e = refl

pub bool_middle : (a b c : Bool) → (a || b || c) ≡ false → b ≡ false
bool_middle a false c e = refl
bool_middle true true c e = cc
bool_middle false true c e = cc

pub last_of_three : (a b c : Bool) → (a && (b && c)) ≡ true → c ≡ true
last_of_three true true c e = e
last_of_three true false c e = cc
last_of_three false b c e = cc

pub clash : {A : Type 0} (b : Bool) → b ≡ true → b ≡ false → A
clash true e f = absurd (cc)
clash false e f = absurd (cc)

pub last_of : (a b c d : Bool) → (a || b || c || d) ≡ false → d ≡ false
last_of true b c d e = cc
last_of false true c d e = cc
last_of false false true d e = cc
last_of false false false d e = e
