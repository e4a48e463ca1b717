-- What is written of shared parts spells it.
use Rattle.std.proofs.Common.{◌≡◌, ℕ, ◌+◌, ◌-◌, ◌*◌, ◌/◌, ◌%◌, ◌<◌, ◌^◌, true, false, eqb, ltb, List, [], ◌∷◌, length}
use Rattle.std.proofs.Common.{Option, Some, None, refl, sym, ap, subst, ◌∙◌, arith}
use Rattle.std.specs.Int.{w16, to_be_bytes}
use Rattle.std.specs.List.{flat_map, AllByRecursion}
use Rattle.std.proofs.lemmas.Bool.{lt-ltb, le-ltb, ne_eqb}
use Rattle.cjc_capread.specs.Bytes.Format.{Spells, number, repeated, u1, u2}
use Rattle.cjc_capread.proofs.BytesWriters.{Writes, then_writes, last_writes, number1_writes, number2_writes, u1_writes}
use Rattle.cjc_capread.proofs.BytesWriters.{u2_writes, raw_writes, repeated_writes}
use Rattle.cjc_capread.specs.declared.tree.ClassRef.{ClassRef}
use Rattle.cjc_capread.specs.declared.tree.ClassRef.TheVariants as class_refs
use Rattle.cjc_capread.specs.declared.tree.StaticRef.{StaticRef}
use Rattle.cjc_capread.specs.declared.tree.StaticRef.TheVariants as static_refs
use Rattle.cjc_capread.specs.Parts.{class_of, class_ref, package_of, static_rest, static_ref}
use Rattle.cjc_capread.specs.Parts.{bytes1, bytes2, items1}
use Rattle.cjc_capwrite.specs.Parts as written
use Rattle.cjc_capwrite.specs.Parts.{one, two, class_bytes, static_bytes}
use Rattle.cjc_capwrite.specs.Fits.{Fits1, Fits2, ClassFits, StaticFits}

low : (n m : ℕ) → n < m → n % m ≡ n
low n m lt = grind arith

-- a number in the low byte, or the low two
pub one_writes : (at n : ℕ) → Fits1 n → Writes u1 at n (one n)
one_writes at n lt = subst (λ k. Writes u1 at n (k ∷ [])) (sym (low n (2 ^ 8) lt)) (u1_writes at n)

pub two_writes : (at n : ℕ) → Fits2 n → Writes u2 at n (two n)
two_writes at n lt = subst (λ k. Writes u2 at n (to_be_bytes w16 k)) (sym (low n (2 ^ 16) lt)) (u2_writes at n lt)

pub bytes1_writes : (at : ℕ) (bytes : List ℕ) → Fits1 (length bytes) → Writes bytes1 at bytes (written.bytes1 bytes)
unfolding bytes1
bytes1_writes at bytes lt = then_writes (one_writes at (length bytes) lt) (raw_writes _ (length bytes) bytes refl)

pub bytes2_writes : (at : ℕ) (bytes : List ℕ) → Fits2 (length bytes) → Writes bytes2 at bytes (written.bytes2 bytes)
unfolding bytes2
bytes2_writes at bytes lt = then_writes (two_writes at (length bytes) lt) (raw_writes _ (length bytes) bytes refl)

-- items of one byte, one by one, as they stand
pub items_write : (at n : ℕ) (bytes : List ℕ) → length bytes ≡ n → Writes (repeated n u1) at bytes bytes
unfolding Spells repeated
items_write at n [] len = rw (← len) (record { spells = (refl, refl) })
items_write at n (b ∷ bytes) len =
    rw (← len) (then_writes (u1_writes at b) (last_writes (items_write (at + 1) (length bytes) bytes refl) refl))

pub items1_writes : (at : ℕ) (bytes : List ℕ) → Fits1 (length bytes) → Writes items1 at bytes (written.bytes1 bytes)
unfolding items1
items1_writes at bytes lt = then_writes (one_writes at (length bytes) lt) (items_write _ (length bytes) bytes refl)

pub numbers_write : (at n : ℕ) (xs : List ℕ) → length xs ≡ n → AllByRecursion Fits2 xs
    → Writes (repeated n u2) at xs (flat_map two xs)
numbers_write at n xs len fits = repeated_writes u2 two Fits2 two_writes at n xs len fits

pub table_writes : {A : Type 0} (table : ℕ → Option A) (at n : ℕ) (a : A) → Fits2 n → table n ≡ Some a
    → Writes (number w16 table) at a (two n)
table_writes table at n a lt e = subst (λ k. Writes (number w16 table) at a (to_be_bytes w16 k))
    (sym (low n (2 ^ 16) lt)) (number2_writes table at n a lt e)

pair_writes : {A : Type 0} (table : ℕ → Option A) (at high low n : ℕ) (a : A) → 256 * high + low ≡ n → table n ≡ Some a
    → Writes (number w16 table) at a (high ∷ low ∷ [])
unfolding Spells
pair_writes table at high low n a is e = record { spells = (refl, ap table (omega arith) ∙ e) }

class_inside : (n : ℕ) → n < 0x8000 → class_of n ≡ class_refs.Inside n
class_inside n lt = let test : ltb n 0x8000 ≡ true = lt-ltb n 0x8000 lt in rw test refl

class_outside : (imported class n : ℕ) → imported < 0x80 → class < 2 ^ 8 → n ≡ 256 * (0x80 + imported) + class
    → class_of n ≡ class_refs.Outside imported class
class_outside imported class n room fits is =
    let test : ltb n 0x8000 ≡ false = le-ltb n 0x8000 (omega arith) in
    let high : n / 256 - 0x80 ≡ imported = omega arith in
    let rest : n % 256 ≡ class = omega arith in
    rw (test, high, rest) refl

pub class_ref_writes : (at : ℕ) (x : ClassRef) → ClassFits x → Writes class_ref at x (class_bytes x)
unfolding class_ref
class_ref_writes at (class_refs.Inside n) lt = table_writes (λ k. Some (class_of k)) at n (class_refs.Inside n)
    (omega arith) (ap Some (class_inside n lt))
class_ref_writes at (class_refs.Outside imported class) fits =
    let room : imported < 0x80 = fits.0 in
    let first : (0x80 + imported) % 2 ^ 8 ≡ 0x80 + imported = low (0x80 + imported) (2 ^ 8) (omega arith) in
    pair_writes (λ k. Some (class_of k)) at ((0x80 + imported) % 2 ^ 8) class (256 * (0x80 + imported) + class)
    (class_refs.Outside imported class) (omega arith) (ap Some (class_outside imported class _ room fits.1 refl))

package_outside : (imported : ℕ) → imported < 0x80 → package_of ((0x80 + imported) % 2 ^ 8) ≡ Some (Some imported)
package_outside imported room =
    let first : (0x80 + imported) % 2 ^ 8 ≡ 0x80 + imported = low (0x80 + imported) (2 ^ 8) (omega arith) in
    let none : eqb (0x80 + imported) 0 ≡ false = ne_eqb _ _ (omega arith) in
    let test : ltb (0x80 + imported) 0x80 ≡ false = le-ltb _ _ (omega arith) in
    let token : 0x80 + imported - 0x80 ≡ imported = omega arith in
    rw (first, none, test, token) refl

pub static_ref_writes : (at : ℕ) (x : StaticRef) → StaticFits x → Writes static_ref at x (static_bytes x)
unfolding static_ref static_rest
static_ref_writes at (static_refs.Inside n) fits = then_writes (number1_writes package_of at 0 None refl)
    (last_writes (two_writes _ n fits) refl)
static_ref_writes at (static_refs.Outside imported class token) room =
    then_writes (number1_writes package_of at ((0x80 + imported) % 2 ^ 8) (Some imported) (package_outside imported
    room)) (then_writes (u1_writes _ class) (last_writes (u1_writes _ token) refl))

pub class_refs_write : (at n : ℕ) (xs : List ClassRef) → length xs ≡ n → AllByRecursion ClassFits xs
    → Writes (repeated n class_ref) at xs (flat_map class_bytes xs)
class_refs_write at n xs len fits = repeated_writes class_ref class_bytes ClassFits class_ref_writes at n xs len fits
