-- Members by their class, name and descriptor, and what is held under them.
use Rattle.std.proofs.Common.{◌≡◌, refl, sym, ap, ◌∙◌, arith, Bool, true, false, List, [], ◌∷◌, ◌++◌, map, inl, inr}
use Rattle.std.specs.Prelude.{ℕ, Some, if◌then◌else◌, ◌&&◌, ◌||◌, not, ◌⊎◌}
use Rattle.std.specs.Str.{bytes_eq}
use Rattle.std.proofs.lemmas.Slice.Eq.{bytes_eq-Decides}
use Rattle.cjc_bytes.specs.declared.fault.MemberId.{MemberId}
use Rattle.cjc_bytes.proofs.Bools.{both_front, both_back, hidden_closed}
use Rattle.cjc_script.specs.declared.value.Value.{Value}
use Rattle.cjc_script.specs.declared.report.FieldValue.{FieldValue}
use Rattle.cjc_card_semantics.specs.Bytecode.Effects.{Slot, slot_of, slots_with}
use Rattle.cjc_card_semantics.specs.Bytecode.Renaming.{keys}
use Rattle.cjc_ncode.specs.ByLabel.{shown_slot}
use Rattle.cjc_ncode.specs.PoolOrder.{same_member}
use Rattle.cjc_token_proof.specs.ByToken.Cells.{is_one_of, are_apart}

-- ---- the same member

pub bytes_tell : (x y : List ℕ) → bytes_eq x y ≡ true → x ≡ y
bytes_tell x y e = grind (arith, bytes_eq-Decides)

pub bytes_same : (x : List ℕ) → bytes_eq x x ≡ true
bytes_same x = grind (arith, bytes_eq-Decides)

pub member_tells : (a b : MemberId) → same_member a b ≡ true → a ≡ b
member_tells a b e =
    let rest = both_back (bytes_eq a.class b.class) (bytes_eq a.name b.name && bytes_eq a.desc b.desc) e in
    let c = bytes_tell a.class b.class (both_front (bytes_eq a.class b.class) (bytes_eq a.name b.name
    && bytes_eq a.desc b.desc) e) in
    let n = bytes_tell a.name b.name (both_front (bytes_eq a.name b.name) (bytes_eq a.desc b.desc) rest) in
    let d = bytes_tell a.desc b.desc (both_back (bytes_eq a.name b.name) (bytes_eq a.desc b.desc) rest) in
    ap (λ x. record { class = x; name = a.name; desc = a.desc }) c
    ∙ (ap (λ x. record { class = b.class; name = x; desc = a.desc }) n
    ∙ ap (λ x. record { class = b.class; name = b.name; desc = x }) d)

pub member_same : (a : MemberId) → same_member a a ≡ true
member_same a = ap (λ t. t && (bytes_eq a.name a.name && bytes_eq a.desc a.desc)) (bytes_same a.class)
    ∙ (ap (λ t. t && bytes_eq a.desc a.desc) (bytes_same a.name) ∙ bytes_same a.desc)

pub member_apart : (a b : MemberId) → same_member a b ≡ false → same_member b a ≡ false
member_apart a b e = by (same_member b a) refl
  where
    by : (t : Bool) → same_member b a ≡ t → same_member b a ≡ false
    by false is = is
    by true is =
        let same : b ≡ a = member_tells b a is in
        let on : same_member a b ≡ true = ap (λ x. same_member a x) same ∙ member_same a in
        let clash : true ≡ false = sym on ∙ e in
        cc

-- ---- what is held under a member

module _ (s : MemberId) (v : Value) where
  -- the value of another member stays
  pub other_slot : (x : List (Slot MemberId)) (f : MemberId) → same_member s f ≡ false
      → slot_of same_member (slots_with same_member x s v) f ≡ slot_of same_member x f
  other_slot [] f e = refl
  other_slot (y ∷ x) f e = by (same_member y.key s) refl (other_slot x f e)
    where
      by : (t : Bool) → same_member y.key s ≡ t → slot_of same_member (slots_with same_member x s v) f
          ≡ slot_of same_member x f → slot_of same_member (if t then record y { value = v } ∷ x
          else y ∷ slots_with same_member x s v) f ≡ slot_of same_member (y ∷ x) f
      by true is rest =
          let apart : same_member y.key f ≡ false = ap (λ k. same_member k f) (member_tells y.key s is) ∙ e in
          ap (λ t. if t then Some v else slot_of same_member x f) apart
          ∙ sym (ap (λ t. if t then Some y.value else slot_of same_member x f) apart)
      by false is rest = ap (λ o. if same_member y.key f then Some y.value else o) rest

  -- what is put is there
  pub own_slot : (x : List (Slot MemberId)) (old : Value) → slot_of same_member x s ≡ Some old
      → slot_of same_member (slots_with same_member x s v) s ≡ Some v
  own_slot [] old e = cc
  own_slot (y ∷ x) old e = by (same_member y.key s) refl (own_slot x old) e
    where
      by : (t : Bool) → same_member y.key s ≡ t → (slot_of same_member x s ≡ Some old
          → slot_of same_member (slots_with same_member x s v) s ≡ Some v)
          → (if t then Some y.value else slot_of same_member x s) ≡ Some old
          → slot_of same_member (if t then record y { value = v } ∷ x else y ∷ slots_with same_member x s v) s ≡ Some v
      by true is rest e = ap (λ t. if t then Some v else slot_of same_member x s) is
      by false is rest e = ap (λ t. if t then Some y.value else slot_of same_member (slots_with same_member x s v) s) is
          ∙ rest e

-- ---- lists of members

pub other_one : (g : MemberId) (fields : List MemberId) (f : MemberId) → is_one_of g fields ≡ false
    → is_one_of f fields ≡ true → same_member g f ≡ false
other_one g fields f alone is = by (same_member g f) refl
  where
    by : (t : Bool) → same_member g f ≡ t → same_member g f ≡ false
    by false e = e
    by true e = let clash : true ≡ false = sym is ∙ (ap (λ k. is_one_of k fields) (sym (member_tells g f e)) ∙ alone)
        in cc

pub front_one : (f : MemberId) (fields : List MemberId) → is_one_of f (f ∷ fields) ≡ true
front_one f fields = ap (λ t. t || is_one_of f fields) (member_same f)

pub behind_one : (f g : MemberId) (fields : List MemberId) → is_one_of f fields ≡ true → is_one_of f (g ∷ fields) ≡ true
behind_one f g fields e = by (same_member g f)
  where
    by : (t : Bool) → (t || is_one_of f fields) ≡ true
    by true = refl
    by false = e

pub front_all : (gs hs : List MemberId) (f : MemberId) → is_one_of f gs ≡ true → is_one_of f (gs ++ hs) ≡ true
front_all [] hs f e = cc
front_all (g ∷ gs) hs f e = by (same_member g f) e (front_all gs hs f)
  where
    by : (t : Bool) → (t || is_one_of f gs) ≡ true → (is_one_of f gs ≡ true → is_one_of f (gs ++ hs) ≡ true)
        → (t || is_one_of f (gs ++ hs)) ≡ true
    by true h rest = refl
    by false h rest = rest h

pub behind_all : (gs hs : List MemberId) (f : MemberId) → is_one_of f hs ≡ true → is_one_of f (gs ++ hs) ≡ true
behind_all [] hs f e = e
behind_all (g ∷ gs) hs f e = behind_one f g (gs ++ hs) (behind_all gs hs f e)

pub either_field : (gs hs : List MemberId) (f : MemberId) → is_one_of f (gs ++ hs) ≡ true → (is_one_of f gs ≡ true)
    ⊎ (is_one_of f hs ≡ true)
either_field [] hs f e = inr e
either_field (g ∷ gs) hs f e = by (same_member g f) e (either_field gs hs f)
  where
    by : (t : Bool) → (t || is_one_of f (gs ++ hs)) ≡ true → (is_one_of f (gs ++ hs) ≡ true → (is_one_of f gs ≡ true)
        ⊎ (is_one_of f hs ≡ true)) → ((t || is_one_of f gs) ≡ true) ⊎ (is_one_of f hs ≡ true)
    by true h rest = inl refl
    by false h rest = rest h

-- the report of fields that a look-up finds as they stand
pub shown_all : (look : MemberId → FieldValue) (x : List (Slot MemberId)) → are_apart (keys x) ≡ true
    → ((f : MemberId) (v : Value) → is_one_of f (keys x) ≡ true → slot_of same_member x f ≡ Some v
    → look f ≡ record { field = f; value = v }) → map look (keys x) ≡ map shown_slot x
shown_all look [] apart h = refl
shown_all look (s ∷ x) apart h =
    let here = h s.key s.value (front_one s.key (keys x)) (ap (λ t. if t then Some s.value
    else slot_of same_member x s.key) (member_same s.key)) in
    let alone = hidden_closed (is_one_of s.key (keys x)) (are_apart (keys x)) apart in
    ap (λ v. v ∷ map look (keys x)) here
    ∙ ap (λ vs. shown_slot s ∷ vs) (shown_all look x (both_back (not (is_one_of s.key (keys x))) (are_apart (keys x))
    apart)
    (λ f v is there. h f v (behind_one f s.key (keys x) is) (ap (λ t. if t then Some s.value
    else slot_of same_member x f) (other_one s.key (keys x) f alone is) ∙ there)))
