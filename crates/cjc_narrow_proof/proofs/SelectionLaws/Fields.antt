-- A field is read alike: both heaps hold the same under it, and that is one word.
use Rattle.std.proofs.Common.{◌≡◌, refl, sym, ap, subst, ◌∙◌, arith, Bool, true, false, List, [], ◌∷◌, ℤ, pos, negsuc}
use Rattle.std.specs.Prelude.{Some, map, if◌then◌else◌, ◌&&◌, ◌||◌, ◌≤ℤ◌, int_le}
use Rattle.std.specs.Str.{bytes_eq}
use Rattle.std.proofs.lemmas.Slice.Eq.{bytes_eq-Decides}
use Rattle.std.proofs.lemmas.Int.{ints}
use Rattle.cjc_bytes.specs.declared.fault.MemberId.{MemberId}
use Rattle.cjc_bytes.proofs.Integers.{le_true}
use Rattle.cjc_bytes.proofs.Bools.{last_of_three}
use Rattle.cjc_range.specs.Words.{low_word}
use Rattle.cjc_range.proofs.WordsLaws.Words.{low_word_same}
use Rattle.cjc_range.specs.Span.{Span, Holds, byte_range, short_range}
use Rattle.cjc_script.specs.declared.value.Value.{Value}
use Rattle.cjc_script.specs.declared.value.Value.TheVariants.{Num}
use Rattle.cjc_script.specs.Sorts.{Sort, Boolean, Byte, Short, Int, Reference, NoValue, field_sort}
use Rattle.cjc_card_semantics.specs.Bytecode.Numbers.{is_word}
use Rattle.cjc_card_semantics.specs.Bytecode.Meanings.{meaning, Uses, Gets}
use Rattle.cjc_card_semantics.specs.Bytecode.Effects.{Letter, Slot, slot_of, words_of}
use Rattle.cjc_card_semantics.specs.Bytecode.Effects as narrow
use Rattle.cjc_card_semantics.specs.Bytecode.Renaming.{keys}
use Rattle.cjc_ncode.specs.PoolOrder.{same_member}
use Rattle.cjc_ncode.specs.Written.{field_access}
use Rattle.cjc_ncode.specs.ByLabel.{Named, shown_slot}
use Rattle.cjc_jvm_semantics.specs.Effects.{is_same_field, value_in}
use Rattle.cjc_narrow_proof.specs.Selection.Relation.{Heap, Agrees, number, null, object, boolean_range, CellFits}
use Rattle.cjc_narrow_proof.specs.Selection.Relation.{a_boolean, a_byte, a_short, an_int, a_null, an_object, SlotsFit}
use Rattle.cjc_narrow_proof.specs.Selection.Relation.{no_slots, slot}
use Rattle.cjc_narrow_proof.specs.Selection.Rows.{kind_of, is_word_sort, lists}

-- ---- which field

and_in_turn : (a b c : Bool) → (a && b && c) ≡ (a && (b && c))
and_in_turn true b c = refl
and_in_turn false b c = refl

pub fields_same : (a b : MemberId) → is_same_field a b ≡ same_member a b
fields_same a b = and_in_turn (bytes_eq a.class b.class) (bytes_eq a.name b.name) (bytes_eq a.desc b.desc)

pub desc_told : (a b : MemberId) → same_member a b ≡ true → a.desc ≡ b.desc
desc_told a b e = (bytes_eq-Decides a.desc b.desc).0 (last_of_three (bytes_eq a.class b.class) (bytes_eq a.name b.name)
    (bytes_eq a.desc b.desc) e)

-- ---- what is held under it

-- a report shows what the slots hold
pub value_shown : (slots : List (Slot MemberId)) (f : MemberId) → value_in (map shown_slot slots) f
    ≡ slot_of same_member slots f
value_shown [] f = refl
value_shown (s ∷ slots) f =
    ap (λ t. if t then Some s.value else value_in (map shown_slot slots) f) (fields_same s.key f)
    ∙ ap (λ o. if same_member s.key f then Some s.value else o) (value_shown slots f)

pub record Found (l : Named) (heap : Heap) (slots : List (Slot MemberId)) (f : MemberId) : Type 0 where
  pub value : Value
  pub is : slot_of same_member slots f ≡ Some value
  pub fits : CellFits l heap (field_sort f.desc) value

-- what is held under a field that is there fits its type
pub found : (l : Named) (heap : Heap) {slots : List (Slot MemberId)} (f : MemberId) → SlotsFit l heap slots
    → lists (keys slots) f ≡ true → Found l heap slots f
found l heap f no_slots e = cc
found l heap f (slot {s = s} {slots = slots} h hs) e = by (λ e. found l heap f hs e) (same_member s.key f) refl e
  where
    by : (lists (keys slots) f ≡ true → Found l heap slots f) → (t : Bool) → same_member s.key f ≡ t
        → (t || lists (keys slots) f) ≡ true → Found l heap (s ∷ slots) f
    by rest true is e = record {
      value = s.value;
      is = ap (λ t. if t then Some s.value else slot_of same_member slots f)
          is;
      fits = subst (λ d. CellFits l heap (field_sort d) s.value) (desc_told s.key f is) h;
    }
    by rest false is e =
        let r = rest e in
        record {
          value = r.value;
          is = ap (λ t. if t then Some s.value else slot_of same_member slots f) is ∙ r.is;
          fits = r.fits;
        }

-- ---- as a word

pub holds_word : (s : Span) (z : ℤ) → negsuc 32767 ≤ℤ s.low → s.high ≤ℤ pos 32767 → Holds s z → z ≡ low_word z
holds_word s z low high h = let a = h.above in let b = h.below
    in sym (low_word_same z (omega (arith, ints)) (omega (arith, ints)))

-- a value of one word agrees with itself
pub cell_agrees : (l : Named) (heap : Heap) {sort : Sort} {v : Value} → CellFits l heap sort v
    → is_word_sort sort ≡ true → Agrees heap (kind_of l sort) v v
cell_agrees l heap (a_boolean {z = z} h) one = number (holds_word boolean_range z (omega (arith, ints)) (omega (
  arith,
  ints,
)) h) h
cell_agrees l heap (a_byte {z = z} h) one = number (holds_word byte_range z (omega (arith, ints)) (omega (arith, ints))
    h) h
cell_agrees l heap (a_short {z = z} h) one =
    number (holds_word short_range z (omega (arith, ints)) (omega (arith, ints)) h) h
cell_agrees l heap (an_int h) one = cc
cell_agrees l heap a_null one = null
cell_agrees l heap (an_object thing is e) one = object thing is e

-- the letter of a type
abbrev pub letter_of : Sort → Letter
letter_of Boolean = narrow.Byte
letter_of Byte = narrow.Byte
letter_of Short = narrow.Short
letter_of Int = narrow.Int
letter_of (Reference kind) = narrow.Reference
letter_of NoValue = narrow.Reference

pub get_means : (near : Bool) (sort : Sort) → meaning (field_access false near sort)
    ≡ Uses (Gets false (letter_of sort))
unfolding meaning
get_means true Boolean = refl
get_means true Byte = refl
get_means true Short = refl
get_means true Int = refl
get_means true (Reference kind) = refl
get_means true NoValue = refl
get_means false Boolean = refl
get_means false Byte = refl
get_means false Short = refl
get_means false Int = refl
get_means false (Reference kind) = refl
get_means false NoValue = refl

pub is_word_held : (s : Span) (z : ℤ) → negsuc 32767 ≤ℤ s.low → s.high ≤ℤ pos 32767 → Holds s z → is_word z ≡ true
is_word_held s z low high h =
    let a = h.above in let b = h.below in
    let e = le_true (negsuc 32767) z (omega (arith, ints)) in let f = le_true z (pos 32767) (omega (arith, ints)) in
    ap (λ t. t && int_le z (pos 32767)) e ∙ f

-- the words of a value of one word
pub words_here : {A : Type 0} (l : Named) (heap : Heap) {sort : Sort} {v : Value} (stuck : A) (onto : List Value → A)
    → CellFits l heap sort v → is_word_sort sort ≡ true → words_of (letter_of sort) v stuck onto ≡ onto (v ∷ [])
words_here l heap stuck onto (a_boolean {z = z} h) one = ap (λ t. if t then onto (Num z ∷ [])
    else stuck) (is_word_held boolean_range z (omega (arith, ints)) (omega (arith, ints)) h)
words_here l heap stuck onto (a_byte {z = z} h) one = ap (λ t. if t then onto (Num z ∷ [])
    else stuck) (is_word_held byte_range z (omega (arith, ints)) (omega (arith, ints)) h)
words_here l heap stuck onto (a_short {z = z} h) one = ap (λ t. if t then onto (Num z ∷ [])
    else stuck) (is_word_held short_range z (omega (arith, ints)) (omega (arith, ints)) h)
words_here l heap stuck onto (an_int h) one = cc
words_here l heap stuck onto a_null one = refl
words_here l heap stuck onto (an_object thing is e) one = refl
