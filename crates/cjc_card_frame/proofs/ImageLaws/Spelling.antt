-- Numbers in bytes, by the letters b, s and i: those at the front of bytes, those that arrays list, those of cells that
-- are there.
use Rattle.std.proofs.Common.{◌≡◌, ℕ, zero, suc, ◌+◌, ◌-◌, ◌*◌, ◌≤◌, refl, ap, ◌∙◌, arith, List, [], ◌∷◌, ◌++◌, length}
use Rattle.std.proofs.Common.{drop, length-drop, Bool, true, false, ℤ}
use Rattle.std.specs.Prelude.{Option, Some, None, option_and_then, is_some, if◌then◌else◌, nat_le}
use Rattle.std.proofs.lemmas.Bool.Decides.{nat_tests}
use Rattle.std.specs.Int.{w8, cast_signed}
use Rattle.cjc_card_semantics.specs.Script.declared.value.Value.TheVariants.{Num, Obj}
use Rattle.cjc_card_semantics.specs.Script.Sorts.{Booleans, Bytes, Shorts, Ints}
use Rattle.cjc_card_semantics.specs.Bytecode.Effects.{Byte, Short, Int}
use Rattle.cjc_card_semantics.specs.Machine.Statics.{Image, number_in, elements, cell_in, objects_from}

-- ---- elements one by one

pub bytes_end : (bs : List ℕ) → None ≡ number_in Byte bs → elements Bytes bs ≡ []
bytes_end [] e = refl
bytes_end (a ∷ bs) e = absurd cc

pub bytes_more : (bs : List ℕ) (z : ℤ) → Some (Num z) ≡ number_in Byte bs → elements Bytes bs ≡ z
    ∷ elements Bytes (drop 1 bs)
bytes_more [] z e = absurd cc
bytes_more (a ∷ bs) z e = cc

pub shorts_end : (bs : List ℕ) → None ≡ number_in Short bs → elements Shorts bs ≡ []
shorts_end [] e = refl
shorts_end (a ∷ []) e = refl
shorts_end (a ∷ b ∷ bs) e = absurd cc

pub shorts_more : (bs : List ℕ) (z : ℤ) → Some (Num z) ≡ number_in Short bs → elements Shorts bs ≡ z
    ∷ elements Shorts (drop 2 bs)
shorts_more [] z e = absurd cc
shorts_more (a ∷ []) z e = absurd cc
shorts_more (a ∷ b ∷ bs) z e = cc

pub ints_end : (bs : List ℕ) → None ≡ number_in Int bs → elements Ints bs ≡ []
ints_end [] e = refl
ints_end (a ∷ []) e = refl
ints_end (a ∷ b ∷ []) e = refl
ints_end (a ∷ b ∷ c ∷ []) e = refl
ints_end (a ∷ b ∷ c ∷ d ∷ bs) e = absurd cc

pub ints_more : (bs : List ℕ) (z : ℤ) → Some (Num z) ≡ number_in Int bs → elements Ints bs ≡ z
    ∷ elements Ints (drop 4 bs)
ints_more [] z e = absurd cc
ints_more (a ∷ []) z e = absurd cc
ints_more (a ∷ b ∷ []) z e = absurd cc
ints_more (a ∷ b ∷ c ∷ []) z e = absurd cc
ints_more (a ∷ b ∷ c ∷ d ∷ bs) z e = cc

-- booleans are spelt as bytes
pub booleans_are : (bs : List ℕ) → elements Booleans bs ≡ elements Bytes bs
booleans_are [] = refl
booleans_are (a ∷ bs) = ap (λ zs. cast_signed w8 a ∷ zs) (booleans_are bs)

-- ---- cells that are there

short_long : (bs : List ℕ) → is_some (number_in Short bs) ≡ true → 2 ≤ length bs
short_long [] e = absurd cc
short_long (a ∷ []) e = absurd cc
short_long (a ∷ b ∷ bs) e = omega arith

int_long : (bs : List ℕ) → is_some (number_in Int bs) ≡ true → 4 ≤ length bs
int_long [] e = absurd cc
int_long (a ∷ []) e = absurd cc
int_long (a ∷ b ∷ []) e = absurd cc
int_long (a ∷ b ∷ c ∷ []) e = absurd cc
int_long (a ∷ b ∷ c ∷ d ∷ bs) e = omega arith

pub short_there : (i : Image) (offset : ℕ) → is_some (cell_in Short i offset) ≡ true
    → (offset - 2 * length i.references) + 2 ≤ length i.bytes
short_there i offset e =
    let place = offset - 2 * length i.references in
    omega (arith, by (nat_le (2 * length i.references) offset) e, length-drop place i.bytes)
  where
    by : (t : Bool)
        → is_some (option_and_then (number_in Short) (if t then Some (drop (offset - 2 * length i.references) i.bytes)
        else None)) ≡ true → 2 ≤ length (drop (offset - 2 * length i.references) i.bytes)
    by true h = short_long (drop (offset - 2 * length i.references) i.bytes) h
    by false h = absurd cc

pub int_there : (i : Image) (offset : ℕ) → is_some (cell_in Int i offset) ≡ true
    → (offset - 2 * length i.references) + 4 ≤ length i.bytes
int_there i offset e =
    let place = offset - 2 * length i.references in
    omega (arith, by (nat_le (2 * length i.references) offset) e, length-drop place i.bytes)
  where
    by : (t : Bool)
        → is_some (option_and_then (number_in Int) (if t then Some (drop (offset - 2 * length i.references) i.bytes)
        else None)) ≡ true → 4 ≤ length (drop (offset - 2 * length i.references) i.bytes)
    by true h = int_long (drop (offset - 2 * length i.references) i.bytes) h
    by false h = absurd cc

-- ---- references in a row

pub one_more : (k n m : ℕ) → m ≡ k + n → objects_from k (n + 1) ≡ objects_from k n ++ Obj m ∷ []
one_more k zero m e = ap (λ j. Obj j ∷ []) (omega arith)
one_more k (suc n) m e =
    let next : suc n + 1 ≡ suc (n + 1) = omega arith in
    ap (λ j. objects_from k j) next ∙ ap (λ vs. Obj k ∷ vs) (one_more (k + 1) n m (omega arith))
