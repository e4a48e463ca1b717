-- Reading and putting a number or a reference in the static field image, where the field stands among fields in order.
use Rattle.std.proofs.Common.{◌≡◌, ℕ, suc, ◌+◌, refl, sym, ap, ◌∙◌, arith, Bool, true, false, List, []}
use Rattle.std.proofs.Common.{◌∷◌, ◌++◌, length, drop, zero-add, add-zero, ℤ, pos, negsuc}
use Rattle.std.specs.Prelude.{Some, map, slice_set, if◌then◌else◌, ◌&&◌, ◌||◌, not, FitsSigned, ◌≤ℤ◌}
use Rattle.std.specs.Int.{w8, w16, w32, cast_signed, cast_unsigned}
use Rattle.std.specs.Int.RustNames.{int_le}
use Rattle.std.proofs.lemmas.Int.{ints, to_z-of_z}
use Rattle.cjc_card_semantics.specs.Range.Words.{low_word, low_byte}
use Rattle.cjc_card_semantics.proofs.RangeWords as words
use Rattle.cjc_bytes.specs.declared.fault.MemberId.{MemberId}
use Rattle.cjc_bytes.proofs.Integers.{by_ends_32, le_true as true_le, above_if, by_ends_8}
use Rattle.cjc_bytes.proofs.Bools.{both_front, both_back, or_right, hidden_closed}
use Rattle.cjc_bytes.proofs.Numbers.{two_back, four_back}
use Rattle.cjc_bytes.proofs.Gets.{get_drop_past}
use Rattle.cjc_script.specs.declared.value.Value.{Value}
use Rattle.cjc_script.specs.declared.value.Value.TheVariants.{Num, Null, Obj}
use Rattle.cjc_card_semantics.specs.Bytecode.Numbers.{spelt_by}
use Rattle.cjc_card_semantics.specs.Bytecode.Effects.{Letter, Reference, Byte, Short, Int, Slot, slot_of, slots_with}
use Rattle.cjc_card_semantics.specs.Bytecode.Effects.{IsOperand, a_null, an_object, a_byte, a_short, an_int}
use Rattle.cjc_card_semantics.specs.Machine.Statics.{number_bytes, number_in, overwritten}
use Rattle.cjc_ncode.specs.PoolOrder.{same_member}
use Rattle.cjc_token_proof.specs.ByToken.Cells.{letter, width, is_number, offset_from, is_one_of, are_apart, lies_in}
use Rattle.cjc_token_proof.specs.ByToken.Cells.{fits, value_in, value_of, bytes_of}
use Rattle.cjc_token_proof.proofs.ByToken.Members.{member_tells, member_apart}
use Rattle.cjc_token_proof.proofs.ByToken.Members.{other_slot, own_slot, front_one, behind_one}

abbrev pub Held : Type 0
Held = List (Slot MemberId)

-- ---- numbers in bytes

lies_true : (low high z : ℤ) → lies_in low high z ≡ true → (low ≤ℤ z) × (z ≤ℤ high)
lies_true low high z e = (
  above_if low z (both_front (int_le low z) (int_le z high) e),
  above_if z high (both_back (int_le low z) (int_le z high) e),
)

true_lies : (low high z : ℤ) → low ≤ℤ z → z ≤ℤ high → lies_in low high z ≡ true
true_lies low high z a b = ap (λ t. t && int_le z high) (true_le low z a) ∙ true_le z high b

ends_8 : (z : ℤ) → FitsSigned w8 z → lies_in (negsuc 127) (pos 127) z ≡ true
ends_8 (pos n) f = let h = f.sfits in true_lies (negsuc 127) (pos 127) (pos n) (omega (arith, ints)) (omega (
  arith,
  ints,
))
ends_8 (negsuc n) f = let h = f.sfits in true_lies (negsuc 127) (pos 127) (negsuc n) (omega (arith, ints))
    (omega (arith, ints))

ends_16 : (z : ℤ) → FitsSigned w16 z → lies_in (negsuc 32767) (pos 32767) z ≡ true
ends_16 (pos n) f = let h = f.sfits in true_lies (negsuc 32767) (pos 32767) (pos n) (omega (arith, ints)) (omega (
  arith,
  ints,
))
ends_16 (negsuc n) f = let h = f.sfits in true_lies (negsuc 32767) (pos 32767) (negsuc n) (omega (arith, ints))
    (omega (arith, ints))

ends_32 : (z : ℤ) → FitsSigned w32 z → lies_in (negsuc 2147483647) (pos 2147483647) z ≡ true
ends_32 (pos n) f = let h = f.sfits in true_lies (negsuc 2147483647) (pos 2147483647) (pos n) (omega (arith, ints))
    (omega (arith, ints))
ends_32 (negsuc n) f = let h = f.sfits in true_lies (negsuc 2147483647) (pos 2147483647) (negsuc n) (omega (
  arith,
  ints,
)) (omega (arith, ints))

fits_8 : (z : ℤ) → lies_in (negsuc 127) (pos 127) z ≡ true → FitsSigned w8 z
fits_8 z e = let h = lies_true (negsuc 127) (pos 127) z e in by_ends_8 z h.0 h.1

fits_16 : (z : ℤ) → lies_in (negsuc 32767) (pos 32767) z ≡ true → FitsSigned w16 z
fits_16 z e = let h = lies_true (negsuc 32767) (pos 32767) z e in words.fits16 z h.0 h.1

fits_32 : (z : ℤ) → lies_in (negsuc 2147483647) (pos 2147483647) z ≡ true → FitsSigned w32 z
fits_32 z e = let h = lies_true (negsuc 2147483647) (pos 2147483647) z e in by_ends_32 z h.0 h.1

-- what was written is read, whatever follows
pub read_back : (k : Letter) (v : Value) (rest : List ℕ) → is_number k ≡ true → fits k v ≡ true
    → number_in k (number_bytes k v ++ rest) ≡ Some v
read_back Reference v rest num e = cc
read_back Byte (Num z) rest num e = ap (λ x. Some (Num x)) (to_z-of_z w8 z (fits_8 z e))
read_back Byte Null rest num e = cc
read_back Byte (Obj k) rest num e = cc
read_back Short (Num z) rest num e = ap (λ n. Some (Num (cast_signed w16 n))) (two_back (cast_unsigned w16 z))
    ∙ ap (λ x. Some (Num x)) (to_z-of_z w16 z (fits_16 z e))
read_back Short Null rest num e = cc
read_back Short (Obj k) rest num e = cc
read_back Int (Num z) rest num e = ap (λ n. Some (Num (cast_signed w32 n))) (four_back (cast_unsigned w32 z))
    ∙ ap (λ x. Some (Num x)) (to_z-of_z w32 z (fits_32 z e))
read_back Int Null rest num e = cc
read_back Int (Obj k) rest num e = cc

-- an operand fits the cells of its letter
pub operand_fits : {k : Letter} {v : Value} → IsOperand k v → fits k v ≡ true
operand_fits a_null = refl
operand_fits an_object = refl
operand_fits (a_byte x) = ends_8 (low_byte x) (words.low_byte_fits x)
operand_fits (a_short x) = ends_16 (low_word x) (words.low_word_fits x)
operand_fits (an_int high low) = ends_32 (spelt_by high low) (words.wide_fits _)

-- a cell of a number takes as many bytes as its letter says
number_width : (k : Letter) (v : Value) → is_number k ≡ true → fits k v ≡ true → length (number_bytes k v) ≡ width k
number_width Reference v num e = cc
number_width Byte (Num z) num e = refl
number_width Byte Null num e = cc
number_width Byte (Obj k) num e = cc
number_width Short (Num z) num e = refl
number_width Short Null num e = cc
number_width Short (Obj k) num e = cc
number_width Int (Num z) num e = refl
number_width Int Null num e = cc
number_width Int (Obj k) num e = cc

-- ---- overwriting

set_past : (front back : List ℕ) (n b : ℕ) → slice_set (front ++ back) (length front + n) b ≡ front
    ++ slice_set back n b
set_past [] back n b = ap (λ k. slice_set back k b) (zero-add n)
set_past (x ∷ front) back n b =
    let e : suc (length front) + n ≡ suc (length front + n) = omega arith in
    ap (λ k. slice_set (x ∷ (front ++ back)) k b) e ∙ ap (λ l. x ∷ l) (set_past front back n b)

over_past : (new front back : List ℕ) (n : ℕ) → overwritten (front ++ back) (length front + n) new ≡ front
    ++ overwritten back n new
over_past [] front back n = refl
over_past (b ∷ new) front back n =
    let e : length front + n + 1 ≡ length front + (n + 1) = omega arith in
    ap (λ l. overwritten l (length front + n + 1) new) (set_past front back n b)
    ∙ ap (λ k. overwritten (front ++ slice_set back n b) k new) e
    ∙ over_past new front (slice_set back n b) (n + 1)

over_first : (k : Letter) (old new : Value) (back : List ℕ) → is_number k ≡ true → fits k old ≡ true → fits k new ≡ true
    → overwritten (number_bytes k old ++ back) 0 (number_bytes k new) ≡ number_bytes k new ++ back
over_first Reference old new back num f g = cc
over_first Byte (Num y) (Num z) back num f g = refl
over_first Byte Null new back num f g = cc
over_first Byte (Obj k) new back num f g = cc
over_first Byte (Num y) Null back num f g = cc
over_first Byte (Num y) (Obj k) back num f g = cc
over_first Short (Num y) (Num z) back num f g = refl
over_first Short Null new back num f g = cc
over_first Short (Obj k) new back num f g = cc
over_first Short (Num y) Null back num f g = cc
over_first Short (Num y) (Obj k) back num f g = cc
over_first Int (Num y) (Num z) back num f g = refl
over_first Int Null new back num f g = cc
over_first Int (Obj k) new back num f g = cc
over_first Int (Num y) Null back num f g = cc
over_first Int (Num y) (Obj k) back num f g = cc

-- ---- offsets

-- the first of some fields decides where the others stand
pub shifted : (a b : ℕ) (fields : List MemberId) (f : MemberId) → offset_from (a + b) fields f
    ≡ a + offset_from b fields f
shifted a b [] f = refl
shifted a b (g ∷ fields) f = by (same_member g f) (shifted a (b + width (letter g)) fields f)
  where
    by : (t : Bool) → offset_from (a + (b + width (letter g))) fields f ≡ a + offset_from (b + width (letter g)) fields
        f
        → (if t then a + b else offset_from (a + b + width (letter g)) fields f) ≡ a + (if t then b
        else offset_from (b + width (letter g)) fields f)
    by true rest = refl
    by false rest = let e : a + b + width (letter g) ≡ a + (b + width (letter g)) = omega arith
        in ap (λ k. offset_from k fields f) e ∙ rest

-- a field that is another's offset behind it
pub behind : (g : MemberId) (fields : List MemberId) (f : MemberId) → same_member g f ≡ false
    → offset_from 0 (g ∷ fields) f ≡ width (letter g) + offset_from 0 fields f
behind g fields f e =
    ap (λ t. if t then 0 else offset_from (0 + width (letter g)) fields f) e
    ∙ (ap (λ k. offset_from k fields f) (zero-add (width (letter g)) ∙ sym (add-zero (width (letter g))))
    ∙ shifted (width (letter g)) 0 fields f)

pub at_first : (g : MemberId) (fields : List MemberId) (f : MemberId) → same_member g f ≡ true
    → offset_from 0 (g ∷ fields) f ≡ 0
at_first g fields f e = ap (λ t. if t then 0 else offset_from (0 + width (letter g)) fields f) e

-- ---- what cells hold

-- a field's value is there, and its cell can hold it
pub record HoldsValue (x : Held) (f : MemberId) : Type 0 where
  pub value : Value
  pub is : slot_of same_member x f ≡ Some value
  pub fit : fits (letter f) value ≡ true

-- so do all of some fields
abbrev pub AllHold : Held → List MemberId → Type 0
AllHold x fields = (f : MemberId) → is_one_of f fields ≡ true → HoldsValue x f

-- all of them are numbers
abbrev pub AllNumbers : List MemberId → Type 0
AllNumbers fields = (f : MemberId) → is_one_of f fields ≡ true → is_number (letter f) ≡ true

pub rest_holds : (x : Held) (g : MemberId) (fields : List MemberId) → AllHold x (g ∷ fields) → AllHold x fields
rest_holds x g fields h f e = h f (behind_one f g fields e)

pub rest_numbers : (g : MemberId) (fields : List MemberId) → AllNumbers (g ∷ fields) → AllNumbers fields
rest_numbers g fields h f e = h f (behind_one f g fields e)

pub first_is : (g f : MemberId) (t : Bool) → same_member g f ≡ false → (same_member g f || t) ≡ true → t ≡ true
first_is g f t e h = sym (ap (λ u. u || t) e) ∙ h

module _ (x : Held) (s : MemberId) where
  -- the bytes of a field's value
  abbrev here : MemberId → List ℕ
  here f = number_bytes (letter f) (value_of x f)

  here_width : (f : MemberId) → HoldsValue x f → is_number (letter f) ≡ true → length (here f) ≡ width (letter f)
  here_width f h num = ap (λ o. length (number_bytes (letter f) (value_in o))) h.is
      ∙ number_width (letter f) h.value num h.fit

  pub number_read : (fields : List MemberId) → is_one_of s fields ≡ true → AllHold x fields → AllNumbers fields
      → number_in (letter s) (drop (offset_from 0 fields s) (bytes_of x fields)) ≡ slot_of same_member x s
  number_read [] is all nums = cc
  number_read (g ∷ fields) is all nums = by (λ on. number_read fields on (rest_holds x g fields all)
      (rest_numbers g fields nums)) (same_member g s) refl
    where
      by : (is_one_of s fields ≡ true → number_in (letter s) (drop (offset_from 0 fields s) (bytes_of x fields))
          ≡ slot_of same_member x s) → (t : Bool) → same_member g s ≡ t
          → number_in (letter s) (drop (offset_from 0 (g ∷ fields) s) (bytes_of x (g ∷ fields)))
          ≡ slot_of same_member x s
      by rest true e =
          let same : g ≡ s = member_tells g s e in
          let h = all s is in
          ap (λ k. number_in (letter s) (drop k (here g ++ bytes_of x fields))) (at_first g fields s e)
          ∙ (ap (λ f. number_in (letter s) (here f ++ bytes_of x fields)) same
          ∙ (ap (λ o. number_in (letter s) (number_bytes (letter s) (value_in o) ++ bytes_of x fields)) h.is
          ∙ (read_back (letter s) h.value (bytes_of x fields) (nums s is) h.fit ∙ sym h.is)))
      by rest false e =
          let h = all g (front_one g fields) in
          let wide : width (letter g) ≡ length (here g) = sym (here_width g h (nums g (front_one g fields))) in
          ap (λ k. number_in (letter s) (drop k (here g ++ bytes_of x fields))) (behind g fields s e
          ∙ ap (λ w. w + offset_from 0 fields s) wide)
          ∙ (ap (number_in (letter s)) (get_drop_past (here g) (bytes_of x fields) (offset_from 0 fields s))
          ∙ rest (first_is g s (is_one_of s fields) e is))

-- ---- other cells

pub apart_first : (g s : MemberId) (t : Bool) → (same_member g s || t) ≡ false → same_member g s ≡ false
apart_first g s t e = by (same_member g s) e
  where
    by : (u : Bool) → (u || t) ≡ false → u ≡ false
    by true e = cc
    by false e = refl

module _ (x : Held) (s : MemberId) (v : Value) where
  pub other_bytes : (fields : List MemberId) → is_one_of s fields ≡ false
      → bytes_of (slots_with same_member x s v) fields ≡ bytes_of x fields
  other_bytes [] e = refl
  other_bytes (f ∷ fields) e =
      ap (λ o. number_bytes (letter f) (value_in o) ++ bytes_of (slots_with same_member x s v) fields)
      (other_slot s v x f (member_apart f s (apart_first f s (is_one_of s fields) e)))
      ∙ ap (λ bytes. number_bytes (letter f) (value_of x f)
      ++ bytes) (other_bytes fields (or_right (same_member f s) (is_one_of s fields) e))

  pub other_values : (fields : List MemberId) → is_one_of s fields ≡ false
      → map (value_of (slots_with same_member x s v)) fields ≡ map (value_of x) fields
  other_values [] e = refl
  other_values (f ∷ fields) e =
      ap (λ o. value_in o ∷ map (value_of (slots_with same_member x s v)) fields)
      (other_slot s v x f (member_apart f s (apart_first f s (is_one_of s fields) e)))
      ∙ ap (λ vs. value_of x f ∷ vs) (other_values fields (or_right (same_member f s) (is_one_of s fields) e))

  pub number_put : (fields : List MemberId) → is_one_of s fields ≡ true → are_apart fields ≡ true
      → fits (letter s) v ≡ true → AllHold x fields → AllNumbers fields
      → overwritten (bytes_of x fields) (offset_from 0 fields s) (number_bytes (letter s) v)
      ≡ bytes_of (slots_with same_member x s v) fields
  number_put [] is apart fit all nums = cc
  number_put (g ∷ fields) is apart fit all nums =
      by (λ on. number_put fields on (both_back (not (is_one_of g fields)) (are_apart fields) apart) fit
      (rest_holds x g fields all) (rest_numbers g fields nums)) (same_member g s) refl
    where
      alone : is_one_of g fields ≡ false
      alone = hidden_closed (is_one_of g fields) (are_apart fields) apart

      by : (is_one_of s fields ≡ true → overwritten (bytes_of x fields) (offset_from 0 fields s)
          (number_bytes (letter s) v) ≡ bytes_of (slots_with same_member x s v) fields)
          → (t : Bool) → same_member g s ≡ t → overwritten (bytes_of x (g ∷ fields)) (offset_from 0 (g ∷ fields) s)
          (number_bytes (letter s) v) ≡ bytes_of (slots_with same_member x s v) (g ∷ fields)
      by rest true e =
          let same : g ≡ s = member_tells g s e in
          let h = all s is in
          ap (λ k. overwritten (here x s g ++ bytes_of x fields) k (number_bytes (letter s) v)) (at_first g fields s e)
          ∙ (ap (λ f. overwritten (here x s f ++ bytes_of x fields) 0 (number_bytes (letter s) v)) same
          ∙ (ap (λ o. overwritten (number_bytes (letter s) (value_in o) ++ bytes_of x fields) 0 (number_bytes (letter s)
          v)) h.is
          ∙ (over_first (letter s) h.value v (bytes_of x fields) (nums s is) h.fit fit
          ∙ (ap (λ bytes. number_bytes (letter s) v
          ++ bytes) (sym (other_bytes fields (ap (λ f. is_one_of f fields) (sym same) ∙ alone)))
          ∙ (ap (λ o. number_bytes (letter s) (value_in o) ++ bytes_of (slots_with same_member x s v) fields)
          (sym (own_slot s v x h.value h.is))
          ∙ ap (λ f. number_bytes (letter f) (value_of (slots_with same_member x s v) f)
          ++ bytes_of (slots_with same_member x s v) fields) (sym same))))))
      by rest false e =
          let h = all g (front_one g fields) in
          let wide : width (letter g) ≡ length (here x s g) = sym (here_width x s g h (nums g (front_one g fields))) in
          ap (λ k. overwritten (here x s g ++ bytes_of x fields) k (number_bytes (letter s) v)) (behind g fields s e
          ∙ ap (λ w. w + offset_from 0 fields s) wide)
          ∙ (over_past (number_bytes (letter s) v) (here x s g) (bytes_of x fields) (offset_from 0 fields s)
          ∙ (ap (λ bytes. here x s g ++ bytes) (rest (first_is g s (is_one_of s fields) e is))
          ∙ ap (λ o. number_bytes (letter g) (value_in o) ++ bytes_of (slots_with same_member x s v) fields)
          (sym (other_slot s v x g (member_apart g s e)))))
