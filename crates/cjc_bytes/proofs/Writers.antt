-- What is written spells what it was written from: one lemma for each form of a format.
use Rattle.std.proofs.Common.{◌≡◌, ℕ, zero, suc, ◌+◌, ◌≤◌, ◌<◌, ◌^◌, List, [], ◌∷◌, ◌++◌, length, Option, Some, true}
use Rattle.std.proofs.Common.{false, ltb, refl, sym, ap, subst, ◌∙◌, arith, length-append}
use Rattle.std.specs.Int.{w8, w16, w32, to_be_bytes}
use Rattle.std.specs.List.{flat_map, AllByRecursion}
use Rattle.std.proofs.lemmas.Bool.{lt-ltb, le-ltb}
use Rattle.std.proofs.lemmas.Nat.{from_be_bytes-to_be_bytes_2, from_be_bytes-to_be_bytes_4}
use Rattle.std.proofs.lemmas.List.{append-nil}
use Rattle.std.proofs.lemmas.List.Concat.{flat_map-cons}
use Rattle.cjc_bytes.specs.Format.{Format, number, here, gives, followed_by, Spells, repeated, before, u1, u2, u4, raw}

-- the bytes, which are written at this place, spell the value
pub record Writes {A : Type 0} (format : Format A) (at : ℕ) (a : A) (bytes : List ℕ) : Type 0 where
  pub spells : Spells format at a bytes

-- one format and then another
pub then_writes : {A B : Type 0} {p : Format B} {f : B → Format A} {at : ℕ} {x : B} {a : A} {front back : List ℕ}
    → Writes p at x front → Writes (f x) (at + length front) a back → Writes (followed_by p f) at a (front ++ back)
unfolding Spells
then_writes {x = x} {front = front} {back = back} h g = record { spells = (x, front, back, refl, h.spells, g.spells) }

-- the last format, whose value makes the whole
pub last_writes : {A B : Type 0} {p : Format B} {g : B → A} {at : ℕ} {x : B} {a : A} {bytes : List ℕ}
    → Writes p at x bytes → g x ≡ a → Writes (followed_by p (λ y. gives (g y))) at a bytes
unfolding Spells
last_writes {x = x} {bytes = bytes} h e = record {
  spells = (x, bytes, [], sym (append-nil bytes), h.spells, (refl, e));
}

pub here_writes : {A B : Type 0} {meaning : ℕ → B} {f : B → Format A} {at : ℕ} {a : A} {bytes : List ℕ}
    → Writes (f (meaning at)) at a bytes → Writes (followed_by (here meaning) f) at a bytes
unfolding Spells
here_writes {meaning = meaning} {f = f} {at = at} {a = a} {bytes = bytes} h =
    record {
      spells = (
        meaning at,
        [],
        bytes,
        refl,
        (refl, refl),
        subst (λ n. Spells (f (meaning at)) n a bytes)
            (omega arith) h.spells,
      );
    }

-- numbers behind a table
pub number1_writes : {A : Type 0} (table : ℕ → Option A) (at n : ℕ) (a : A) → table n ≡ Some a
    → Writes (number w8 table) at a (n ∷ [])
unfolding Spells
number1_writes table at n a e = record { spells = (refl, ap table (omega arith) ∙ e) }

pub number2_writes : {A : Type 0} (table : ℕ → Option A) (at n : ℕ) (a : A) → n < 2 ^ 16 → table n ≡ Some a
    → Writes (number w16 table) at a (to_be_bytes w16 n)
unfolding Spells
number2_writes table at n a lt e = record { spells = (refl, ap table (from_be_bytes-to_be_bytes_2 n lt) ∙ e) }

pub number4_writes : {A : Type 0} (table : ℕ → Option A) (at n : ℕ) (a : A) → n < 2 ^ 32 → table n ≡ Some a
    → Writes (number w32 table) at a (to_be_bytes w32 n)
unfolding Spells
number4_writes table at n a lt e = record { spells = (refl, ap table (from_be_bytes-to_be_bytes_4 n lt) ∙ e) }

pub u1_writes : (at n : ℕ) → Writes u1 at n (n ∷ [])
unfolding u1
u1_writes at n = number1_writes Some at n n refl

pub u2_writes : (at n : ℕ) → n < 2 ^ 16 → Writes u2 at n (to_be_bytes w16 n)
unfolding u2
u2_writes at n lt = number2_writes Some at n n lt refl

pub u4_writes : (at n : ℕ) → n < 2 ^ 32 → Writes u4 at n (to_be_bytes w32 n)
unfolding u4
u4_writes at n lt = number4_writes Some at n n lt refl

-- bytes as they are
pub raw_writes : (at n : ℕ) (bytes : List ℕ) → length bytes ≡ n → Writes (raw n) at bytes bytes
unfolding Spells raw
raw_writes at n bytes e = record { spells = (e, refl) }

-- so many items in a row
pub repeated_writes : {A : Type 0} (p : Format A) (f : A → List ℕ) (P : A → Type 0) → ((at : ℕ) (x : A) → P x
    → Writes p at x (f x))
    → (at n : ℕ) (xs : List A) → length xs ≡ n → AllByRecursion P xs → Writes (repeated n p) at xs (flat_map f xs)
unfolding Spells repeated
repeated_writes p f P one at n [] len fits = rw (← len) (record { spells = (refl, refl) })
repeated_writes p f P one at n (x ∷ xs) len fits =
    rw (← len, flat_map-cons f x xs) (then_writes (one at x fits.0)
    (last_writes (repeated_writes p f P one (at + length (f x)) (length xs) xs refl fits.1) refl))

pub gives_writes : {A : Type 0} (a : A) (at : ℕ) → Writes (gives a) at a []
unfolding Spells
gives_writes a at = record { spells = (refl, refl) }

-- items that fill the bytes up to a place, each with a byte at least
pub before_writes : {A : Type 0} (p : Format A) (f : A → List ℕ) (P : A → Type 0) → ((at : ℕ) (x : A) → P x
    → Writes p at x (f x)) → ((x : A) → 0 < length (f x))
    → (at n end : ℕ) (xs : List A) → at + length (flat_map f xs) ≡ end → end ≤ n + at → AllByRecursion P xs
    → Writes (before n end p) at xs (flat_map f xs)
unfolding before
before_writes p f P one some at zero end [] fill enough fits = gives_writes [] at
before_writes p f P one some at (suc n) end [] fill enough fits =
    let test : ltb at end ≡ false = le-ltb at end (omega (arith, fill)) in
    here_writes (rw test (gives_writes [] at))
before_writes p f P one some at zero end (x ∷ xs) fill enough fits =
    let room : 0 < length (f x) = some x in
    let len : length (flat_map f (x ∷ xs)) ≡ length (f x) + length (flat_map f xs) = ap length (flat_map-cons f x xs)
    ∙ length-append (f x) (flat_map f xs) in
    absurd (omega arith)
before_writes p f P one some at (suc n) end (x ∷ xs) fill enough fits =
    let room : 0 < length (f x) = some x in
    let len : length (flat_map f (x ∷ xs)) ≡ length (f x) + length (flat_map f xs) = ap length (flat_map-cons f x xs)
    ∙ length-append (f x) (flat_map f xs) in
    let test : ltb at end ≡ true = lt-ltb at end (omega arith) in
    let rest : at + length (f x) + length (flat_map f xs) ≡ end = omega arith in
    let left : end ≤ n + (at + length (f x)) = omega arith in
    rw (flat_map-cons f x xs)
    (here_writes (rw test (then_writes (one at x fits.0)
    (last_writes (before_writes p f P one some (at + length (f x)) n end xs rest left fits.1) refl))))
