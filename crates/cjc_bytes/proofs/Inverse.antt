-- What bytes that spell a value by a format say of it and of their number.
use Rattle.std.proofs.Common.{◌≡◌, ℕ, ◌+◌, ◌<◌, ◌^◌, List, [], ◌∷◌, ◌++◌, Option, Some, Result, Ok}
use Rattle.std.proofs.Common.{length, sym, ap, subst, ◌∙◌, arith, length-append}
use Rattle.std.specs.List.{AllByRecursion}
use Rattle.std.specs.Int.{w8, w16, w32, from_be_bytes}
use Rattle.cjc_bytes.specs.Format.{Format, number, here, looked_up, gives, followed_by, Spells, u1, u2, u4, raw}

-- each is a byte
abbrev pub InBytes : List ℕ → Type 0
InBytes bytes = AllByRecursion (λ b. b < 256) bytes

-- what holds of all items holds of those in front, and of those behind
all_front : {A : Type 0} (P : A → Type 0) (xs ys : List A) → AllByRecursion P (xs ++ ys) → AllByRecursion P xs
all_front P [] ys h = tt
all_front P (x ∷ xs) ys h = (h.0, all_front P xs ys h.1)

all_back : {A : Type 0} (P : A → Type 0) (xs ys : List A) → AllByRecursion P (xs ++ ys) → AllByRecursion P ys
all_back P [] ys h = h
all_back P (x ∷ xs) ys h = all_back P xs ys h.1

-- the two parts of a format that follows another
pub record Inner {A B : Type 0} (p : Format B) (f : B → Format A) (at : ℕ) (a : A) (bytes : List ℕ) : Type 0 where
  pub x : B
  pub front : List ℕ
  pub back : List ℕ
  pub sizes : length bytes ≡ length front + length back
  pub fronts : InBytes front
  pub backs : InBytes back
  pub one : Spells p at x front
  pub rest : Spells (f x) (at + length front) a back

pub inner : {A B : Type 0} (p : Format B) (f : B → Format A) (at : ℕ) (a : A) (bytes : List ℕ) → InBytes bytes
    → Spells (followed_by p f) at a bytes → Inner p f at a bytes
unfolding Spells
inner p f at a bytes ok h =
    let all : InBytes (h.1 ++ h.2) = subst InBytes h.3 ok in
    record {
      x = h.0;
      front = h.1;
      back = h.2;
      sizes = ap length h.3 ∙ length-append h.1 h.2;
      fronts = all_front (λ b. b < 256) h.1 h.2 all;
      backs = all_back (λ b. b < 256) h.1 h.2 all;
      one = h.4;
      rest = h.5;
    }

-- the same, for a proof that goes on with them
pub with_inner : {A B R : Type 0} (p : Format B) (f : B → Format A) (at : ℕ) (a : A) (bytes : List ℕ) → InBytes bytes
    → Spells (followed_by p f) at a bytes → (Inner p f at a bytes → R) → R
with_inner p f at a bytes ok h more = more (inner p f at a bytes ok h)

-- a number below a limit, and what its table says of it
pub record Number {A : Type 0} (table : ℕ → Option A) (a : A) (limit size : ℕ) (bytes : List ℕ) : Type 0 where
  pub n : ℕ
  pub small : n < limit
  pub is : table n ≡ Some a
  pub sizes : length bytes ≡ size

value8 : (bytes : List ℕ) → InBytes bytes → length bytes ≡ 1 → from_be_bytes w8 bytes < 2 ^ 8
value8 [] ok e = absurd (omega arith)
value8 (a ∷ []) ok e = omega (arith, ok.0)
value8 (a ∷ b ∷ bs) ok e = absurd (omega arith)

value16 : (bytes : List ℕ) → InBytes bytes → length bytes ≡ 2 → from_be_bytes w16 bytes < 2 ^ 16
value16 [] ok e = absurd (omega arith)
value16 (a ∷ []) ok e = absurd (omega arith)
value16 (a ∷ b ∷ []) ok e = omega (arith, ok.0, ok.1.0)
value16 (a ∷ b ∷ c ∷ bs) ok e = absurd (omega arith)

value32 : (bytes : List ℕ) → InBytes bytes → length bytes ≡ 4 → from_be_bytes w32 bytes < 2 ^ 32
value32 [] ok e = absurd (omega arith)
value32 (a ∷ []) ok e = absurd (omega arith)
value32 (a ∷ b ∷ []) ok e = absurd (omega arith)
value32 (a ∷ b ∷ c ∷ []) ok e = absurd (omega arith)
value32 (a ∷ b ∷ c ∷ d ∷ []) ok e = omega (arith, ok.0, ok.1.0, ok.1.1.0, ok.1.1.1.0)
value32 (a ∷ b ∷ c ∷ d ∷ x ∷ bs) ok e = absurd (omega arith)

pub number8 : {A : Type 0} (table : ℕ → Option A) (at : ℕ) (a : A) (bytes : List ℕ) → InBytes bytes
    → Spells (number w8 table) at a bytes → Number table a (2 ^ 8) 1 bytes
unfolding Spells
number8 table at a bytes ok h = record {
  n = from_be_bytes w8 bytes;
  small = value8 bytes ok h.0;
  is = h.1;
  sizes = h.0;
}

pub number16 : {A : Type 0} (table : ℕ → Option A) (at : ℕ) (a : A) (bytes : List ℕ) → InBytes bytes
    → Spells (number w16 table) at a bytes → Number table a (2 ^ 16) 2 bytes
unfolding Spells
number16 table at a bytes ok h = record {
  n = from_be_bytes w16 bytes;
  small = value16 bytes ok h.0;
  is = h.1;
  sizes = h.0;
}

pub number32 : {A : Type 0} (table : ℕ → Option A) (at : ℕ) (a : A) (bytes : List ℕ) → InBytes bytes
    → Spells (number w32 table) at a bytes → Number table a (2 ^ 32) 4 bytes
unfolding Spells
number32 table at a bytes ok h = record {
  n = from_be_bytes w32 bytes;
  small = value32 bytes ok h.0;
  is = h.1;
  sizes = h.0;
}

plain : (n limit size : ℕ) (bytes : List ℕ) → Number Some n limit size bytes → (n < limit) × (length bytes ≡ size)
plain n limit size bytes k = let is : k.n ≡ n = cc (k.is) in (subst (λ (m : ℕ). m < limit) is k.small, k.sizes)

pub u1_is : (at n : ℕ) (bytes : List ℕ) → InBytes bytes → Spells u1 at n bytes → (n < 2 ^ 8) × (length bytes ≡ 1)
unfolding u1
u1_is at n bytes ok h = plain n (2 ^ 8) 1 bytes (number8 Some at n bytes ok h)

pub u2_is : (at n : ℕ) (bytes : List ℕ) → InBytes bytes → Spells u2 at n bytes → (n < 2 ^ 16) × (length bytes ≡ 2)
unfolding u2
u2_is at n bytes ok h = plain n (2 ^ 16) 2 bytes (number16 Some at n bytes ok h)

pub u4_is : (at n : ℕ) (bytes : List ℕ) → InBytes bytes → Spells u4 at n bytes → (n < 2 ^ 32) × (length bytes ≡ 4)
unfolding u4
u4_is at n bytes ok h = plain n (2 ^ 32) 4 bytes (number32 Some at n bytes ok h)

pub raw_is : (n at : ℕ) (b bytes : List ℕ) → Spells (raw n) at b bytes → (length b ≡ n) × (length bytes ≡ n)
unfolding Spells raw
raw_is n at b bytes h = (ap length (sym h.1) ∙ h.0, h.0)

pub found_is : {A : Type 0} (found : Result A ℕ) (at : ℕ) (a : A) (bytes : List ℕ) → Spells (looked_up found) at a bytes
    → (found ≡ Ok a) × (length bytes ≡ 0)
unfolding Spells
found_is found at a bytes h = (h.1, ap length h.0)

pub here_is : {A : Type 0} (meaning : ℕ → A) (at : ℕ) (a : A) (bytes : List ℕ) → Spells (here meaning) at a bytes
    → length bytes ≡ 0
unfolding Spells
here_is meaning at a bytes h = ap length h.0

pub given : {A : Type 0} (x : A) (at : ℕ) (a : A) (bytes : List ℕ) → Spells (gives x) at a bytes → (x ≡ a)
    × (length bytes ≡ 0)
unfolding Spells
given x at a bytes h = (h.1, ap length h.0)
