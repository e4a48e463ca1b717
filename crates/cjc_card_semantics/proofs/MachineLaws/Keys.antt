-- Slots by class and token.
use Rattle.std.proofs.Common.{◌≡◌, ℕ, zero, suc, ◌+◌, ◌<◌, ◌≤◌, refl, sym, ap, ◌∙◌, arith, Bool, true, false, List, []}
use Rattle.std.proofs.Common.{◌∷◌, ◌++◌, pos}
use Rattle.std.specs.Prelude.{Some, None, if◌then◌else◌, ◌==◌, ◌&&◌}
use Rattle.std.proofs.lemmas.Bool.Decides.{nat_tests}
use Rattle.cjc_capread.specs.declared.tree.ClassEntry.{ClassEntry}
use Rattle.cjc_script.specs.declared.value.Value.{Value}
use Rattle.cjc_script.specs.declared.value.Value.TheVariants.{Num, Null}
use Rattle.cjc_card_semantics.specs.Bytecode.Effects.{Slot, slot_of, slots_with}
use Rattle.cjc_card_semantics.specs.Machine.Classes.{Class, same_class, Field, same_field, is_reference_token}
use Rattle.cjc_card_semantics.specs.Machine.Classes.{slots_from}
use Rattle.cjc_export.proofs.BytesBools.{both_front, both_back}
use Rattle.cjc_export.proofs.BytesNumbers.{like_number, number_same}
use Rattle.cjc_card_semantics.proofs.MachineLaws.Upwards.{class_tells, class_same}

pub field_tells : (a b : Field) → same_field a b ≡ true → a ≡ b
field_tells a b e =
    let c = class_tells a.class b.class (both_front (same_class a.class b.class) (a.token == b.token) e) in
    let t = number_same a.token b.token (both_back (same_class a.class b.class) (a.token == b.token) e) in
    ap (λ x. record { class = x; token = a.token }) c ∙ ap (λ x. record { class = b.class; token = x }) t

pub field_same : (a : Field) → same_field a a ≡ true
field_same a = ap (λ t. t && (a.token == a.token)) (class_same a.class) ∙ like_number a.token

pub field_apart : (a b : Field) → same_field a b ≡ false → same_field b a ≡ false
field_apart a b e = by (same_field b a) refl
  where
    by : (t : Bool) → same_field b a ≡ t → same_field b a ≡ false
    by false is = is
    by true is = let clash : true ≡ false = sym (ap (λ x. same_field a x) (field_tells b a is) ∙ field_same a) ∙ e in cc

-- ---- one key in slots

abbrev pub Slots : Type 0
Slots = List (Slot Field)

-- what is there is first sought in front
pub in_front : (a b : Slots) (key : Field) (v : Value) → slot_of same_field a key ≡ Some v
    → slot_of same_field (a ++ b) key ≡ Some v
in_front [] b key v e = cc
in_front (s ∷ a) b key v e = by (same_field s.key key) e (in_front a b key v)
  where
    by : (t : Bool) → (if t then Some s.value else slot_of same_field a key) ≡ Some v
        → (slot_of same_field a key ≡ Some v → slot_of same_field (a ++ b) key ≡ Some v)
        → (if t then Some s.value else slot_of same_field (a ++ b) key) ≡ Some v
    by true h rest = h
    by false h rest = rest h

pub past_front : (a b : Slots) (key : Field) → slot_of same_field a key ≡ None → slot_of same_field (a ++ b) key
    ≡ slot_of same_field b key
past_front [] b key e = refl
past_front (s ∷ a) b key e = by (same_field s.key key) e (past_front a b key)
  where
    by : (t : Bool) → (if t then Some s.value else slot_of same_field a key) ≡ None → (slot_of same_field a key ≡ None
        → slot_of same_field (a ++ b) key ≡ slot_of same_field b key)
        → (if t then Some s.value else slot_of same_field (a ++ b) key) ≡ slot_of same_field b key
    by true h rest = cc
    by false h rest = rest h

-- no slot of another class
pub of_other_class : (class : Class) (c : ClassEntry) (from count : ℕ) (key : Field) → same_class class key.class
    ≡ false → slot_of same_field (slots_from class c from count) key ≡ None
of_other_class class c from zero key e = refl
of_other_class class c from (suc n) key e =
    ap (λ t. if t && (from == key.token) then Some (if is_reference_token c from then Null else Num (pos 0))
    else slot_of same_field (slots_from class c (from + 1) n) key) e
    ∙ of_other_class class c (from + 1) n key e

-- no slot of a lesser token
pub of_lesser_token : (class : Class) (c : ClassEntry) (from count : ℕ) (key : Field) → key.token < from
    → slot_of same_field (slots_from class c from count) key ≡ None
of_lesser_token class c from zero key lt = refl
of_lesser_token class c from (suc n) key lt =
    let e : (from == key.token) ≡ false = grind (arith, nat_tests) in
    let no : same_field (record { class = class; token = from }) key ≡ false = ap (λ t. same_class class key.class
    && t) e ∙ off (same_class class key.class) in
    ap (λ t. if t then Some (if is_reference_token c from then Null else Num (pos 0))
    else slot_of same_field (slots_from class c (from + 1) n) key) no
    ∙ of_lesser_token class c (from + 1) n key (omega arith)
  where
    off : (t : Bool) → (t && false) ≡ false
    off true = refl
    off false = refl

-- the slot of a token
pub of_token : (class : Class) (c : ClassEntry) (from count token : ℕ) → from ≤ token → token < from + count
    → slot_of same_field (slots_from class c from count) (record { class = class; token = token })
    ≡ Some (if is_reference_token c token then Null else Num (pos 0))
of_token class c from zero token le lt = absurd (omega arith)
of_token class c from (suc n) token le lt = by (from == token) refl (λ h. of_token class c (from + 1) n token h
    (omega arith))
  where
    by : (t : Bool) → (from == token) ≡ t → (from + 1 ≤ token → slot_of same_field (slots_from class c (from + 1) n)
        (record { class = class; token = token }) ≡ Some (if is_reference_token c token then Null else Num (pos 0)))
        → (if same_class class class && (from == token) then Some (if is_reference_token c from then Null
        else Num (pos 0)) else slot_of same_field (slots_from class c (from + 1) n) (record {
          class = class;
          token = token;
        })) ≡ Some (if is_reference_token c token then Null else Num (pos 0))
    by true e rest =
        ap (λ t. if t && (from == token) then Some (if is_reference_token c from then Null else Num (pos 0))
        else slot_of same_field (slots_from class c (from + 1) n) (record { class = class; token = token }))
        (class_same class)
        ∙ (ap (λ t. if t then Some (if is_reference_token c from then Null else Num (pos 0))
        else slot_of same_field (slots_from class c (from + 1) n) (record { class = class; token = token })) e
        ∙ ap (λ k. Some (if is_reference_token c k then Null else Num (pos 0))) (number_same from token e))
    by false e rest =
        let ne : from + 1 ≤ token = grind (arith, nat_tests) in
        ap (λ t. if t && (from == token) then Some (if is_reference_token c from then Null else Num (pos 0))
        else slot_of same_field (slots_from class c (from + 1) n) (record { class = class; token = token }))
        (class_same class)
        ∙ (ap (λ t. if t then Some (if is_reference_token c from then Null else Num (pos 0))
        else slot_of same_field (slots_from class c (from + 1) n) (record { class = class; token = token })) e
        ∙ rest ne)

-- ---- slots with another value under a key

-- the new value lies under the key
pub put_here : (slots : Slots) (key : Field) (old new : Value) → slot_of same_field slots key ≡ Some old
    → slot_of same_field (slots_with same_field slots key new) key ≡ Some new
put_here [] key old new e = cc
put_here (s ∷ slots) key old new e = by (same_field s.key key) refl e (put_here slots key old new)
  where
    by : (t : Bool) → same_field s.key key ≡ t → (if t then Some s.value else slot_of same_field slots key) ≡ Some old
        → (slot_of same_field slots key ≡ Some old → slot_of same_field (slots_with same_field slots key new) key
        ≡ Some new)
        → slot_of same_field (if t then record s { value = new } ∷ slots else s ∷ slots_with same_field slots key new)
        key ≡ Some new
    by true is h rest = ap (λ t. if t then Some new else slot_of same_field slots key) is
    by false is h rest = ap (λ t. if t then Some s.value
        else slot_of same_field (slots_with same_field slots key new) key) is ∙ rest h

-- what lies under another key stays
pub put_other : (slots : Slots) (key other : Field) (new : Value) → same_field key other ≡ false
    → slot_of same_field (slots_with same_field slots key new) other ≡ slot_of same_field slots other
put_other [] key other new off = refl
put_other (s ∷ slots) key other new off = by (same_field s.key key) refl (put_other slots key other new off)
  where
    by : (t : Bool) → same_field s.key key ≡ t
        → slot_of same_field (slots_with same_field slots key new) other ≡ slot_of same_field slots other
        → slot_of same_field (if t then record s { value = new } ∷ slots else s ∷ slots_with same_field slots key new)
        other ≡ slot_of same_field (s ∷ slots) other
    by true is rest =
        let no : same_field s.key other ≡ false = ap (λ k. same_field k other) (field_tells s.key key is) ∙ off in
        ap (λ t. if t then Some new else slot_of same_field slots other) no
        ∙ sym (ap (λ t. if t then Some s.value else slot_of same_field slots other) no)
    by false is rest = ap (λ o. if same_field s.key other then Some s.value else o) rest
