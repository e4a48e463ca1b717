-- Slots under keys that stand once, and what objects by name hold in them.
use Rattle.std.proofs.Common.{◌≡◌, ℕ, zero, suc, ◌+◌, refl, sym, ap, ◌∙◌, arith, Bool, true, false, List, [], ◌∷◌}
use Rattle.std.proofs.Common.{◌++◌}
use Rattle.std.specs.Prelude.{Some, None, if◌then◌else◌, option_map}
use Rattle.cjc_bytes.specs.declared.fault.MemberId.{MemberId}
use Rattle.cjc_card_semantics.specs.CapRead.declared.tree.ClassEntry.{ClassEntry}
use Rattle.cjc_script.specs.declared.value.Value.{Value}
use Rattle.cjc_card_semantics.specs.Bytecode.Effects.{Slot, slot_of, slots_with}
use Rattle.cjc_card_semantics.specs.Bytecode.Renaming.{keys}
use Rattle.cjc_card_semantics.specs.Machine.ByToken.{value_or}
use Rattle.cjc_card_semantics.specs.Machine.Classes.{Class, Field, same_field, slots_from}
use Rattle.cjc_card_semantics.proofs.MachineLaws.Keys.{Slots, field_tells, field_same, field_apart, past_front}
use Rattle.cjc_card_semantics.proofs.MachineLaws.Keys.{of_lesser_token}
use Rattle.cjc_ncode.specs.PoolOrder.{same_member}
use Rattle.cjc_ncode.specs.Lowering.Naming.{Naming, field}
use Rattle.cjc_token_proof.specs.ByToken.Cells.{is_one_of}
use Rattle.cjc_token_proof.specs.ByToken.Objects.{value_under, filled}
use Rattle.cjc_token_proof.proofs.ByToken.Members.{member_tells, member_same, front_one}
use Rattle.cjc_token_proof.proofs.ByToken.Members.{behind_one}

-- ---- each key once

-- no slot stands under the key of one before it
pub data Once : Slots → Type 0 where
  none : Once []
  one : {s : Slot Field} {slots : Slots} → slot_of same_field slots s.key ≡ None → Once slots → Once (s ∷ slots)

pub own_once : (class : Class) (c : ClassEntry) (from count : ℕ) → Once (slots_from class c from count)
own_once class c from zero = none
own_once class c from (suc n) = one (of_lesser_token class c (from + 1) n (record { class = class; token = from })
    (omega arith)) (own_once class c (from + 1) n)

pub both_once : (a b : Slots) → Once a → Once b → ((key : Field) (v : Value) → slot_of same_field a key ≡ Some v
    → slot_of same_field b key ≡ None) → Once (a ++ b)
both_once _ b none hb h = hb
both_once _ b (one {s = s} {slots = a} off more) hb h =
    one (past_front a b s.key off ∙ h s.key s.value (ap (λ t. if t then Some s.value else slot_of same_field a s.key)
    (field_same s.key)))
    (both_once a b more hb (λ key v e. by key v e (same_field s.key key) refl))
  where
    by : (key : Field) (v : Value) → slot_of same_field a key ≡ Some v → (t : Bool) → same_field s.key key ≡ t
        → slot_of same_field b key ≡ None
    by key v e true is = h key s.value (ap (λ t. if t then Some s.value else slot_of same_field a key) is)
    by key v e false is = h key v (ap (λ t. if t then Some s.value else slot_of same_field a key) is ∙ e)

-- ---- filled slots

module _ (n : Naming) where
  pub filled_slot : (held : List (Slot MemberId)) (slots : Slots) (key : Field)
      → slot_of same_field (filled n held slots) key ≡ option_map (λ z. value_or z (value_under n held key))
      (slot_of same_field slots key)
  filled_slot held [] key = refl
  filled_slot held (s ∷ slots) key = by (same_field s.key key) refl (filled_slot held slots key)
    where
      by : (t : Bool) → same_field s.key key ≡ t → slot_of same_field (filled n held slots) key
          ≡ option_map (λ z. value_or z (value_under n held key)) (slot_of same_field slots key)
          → (if t then Some (value_or s.value (value_under n held s.key)) else slot_of same_field (filled n held slots)
          key) ≡ option_map (λ z. value_or z (value_under n held key)) (if t then Some s.value
          else slot_of same_field slots key)
      by true e rest = ap (λ k. Some (value_or s.value (value_under n held k))) (field_tells s.key key e)
      by false e rest = rest

  -- where no other held field has the key of this one
  pub under : (held : List (Slot MemberId)) (f : MemberId) → ((g : MemberId) → is_one_of g (keys held) ≡ true
      → same_field (field n g) (field n f) ≡ true → g ≡ f) → value_under n held (field n f) ≡ slot_of same_member held f
  under [] f tells = refl
  under (s ∷ held) f tells = by (same_member s.key f) refl (same_field (field n s.key) (field n f)) refl
      (under held f (λ g e. tells g (behind_one g s.key (keys held) e)))
    where
      by : (t : Bool) → same_member s.key f ≡ t → (u : Bool) → same_field (field n s.key) (field n f) ≡ u
          → value_under n held (field n f) ≡ slot_of same_member held f
          → (if u then Some s.value else value_under n held (field n f)) ≡ (if t then Some s.value
          else slot_of same_member held f)
      by true e true i rest = refl
      by true e false i rest =
          let on : same_field (field n s.key) (field n f) ≡ true = ap (λ k. same_field (field n k) (field n f))
          (member_tells s.key f e) ∙ field_same (field n f) in
          let clash : true ≡ false = sym on ∙ i in cc
      by false e true i rest =
          let is : s.key ≡ f = tells s.key (front_one s.key (keys held)) i in
          let clash : true ≡ false = sym (ap (λ k. same_member k f) is ∙ member_same f) ∙ e in cc
      by false e false i rest = rest

  -- a put leaves what is under other keys
  pub under_other : (held : List (Slot MemberId)) (f : MemberId) (new : Value) (key : Field)
      → same_field (field n f) key ≡ false → value_under n (slots_with same_member held f new) key
      ≡ value_under n held key
  under_other [] f new key e = refl
  under_other (s ∷ held) f new key e = by (same_member s.key f) refl (under_other held f new key e)
    where
      by : (t : Bool) → same_member s.key f ≡ t → value_under n (slots_with same_member held f new) key
          ≡ value_under n held key
          → value_under n (if t then record s { value = new } ∷ held else s ∷ slots_with same_member held f new) key
          ≡ (if same_field (field n s.key) key then Some s.value else value_under n held key)
      by true is rest =
          let off : same_field (field n s.key) key ≡ false = ap (λ k. same_field (field n k) key)
          (member_tells s.key f is) ∙ e in
          ap (λ t. if t then Some new else value_under n held key) off
          ∙ sym (ap (λ t. if t then Some s.value else value_under n held key) off)
      by false is rest = ap (λ o. if same_field (field n s.key) key then Some s.value else o) rest

  -- slots under other keys keep what they have
  pub filled_other : (held : List (Slot MemberId)) (f : MemberId) (new : Value) (slots : Slots)
      → slot_of same_field slots (field n f) ≡ None → filled n (slots_with same_member held f new) slots
      ≡ filled n held slots
  filled_other held f new [] e = refl
  filled_other held f new (s ∷ slots) e = by (same_field s.key (field n f)) refl e (filled_other held f new slots)
    where
      by : (t : Bool) → same_field s.key (field n f) ≡ t
          → (if t then Some s.value else slot_of same_field slots (field n f)) ≡ None
          → (slot_of same_field slots (field n f) ≡ None → filled n (slots_with same_member held f new) slots
          ≡ filled n held slots)
          → filled n (slots_with same_member held f new) (s ∷ slots) ≡ filled n held (s ∷ slots)
      by true is h rest = cc
      by false is h rest =
          ap (λ o. record s { value = value_or s.value o } ∷ filled n (slots_with same_member held f new) slots)
          (under_other held f new s.key (field_apart s.key (field n f) is))
          ∙ ap (λ xs. record s { value = value_or s.value (value_under n held s.key) } ∷ xs) (rest h)

  pub filled_put : (held : List (Slot MemberId)) (f : MemberId) (new z : Value) (slots : Slots) → Once slots
      → value_under n (slots_with same_member held f new) (field n f) ≡ Some new → slot_of same_field slots (field n f)
      ≡ Some z
      → slots_with same_field (filled n held slots) (field n f) new ≡ filled n (slots_with same_member held f new) slots
  filled_put held f new z [] o there e = cc
  filled_put held f new z (s ∷ slots) (one off more) there e = by (same_field s.key (field n f)) refl e
      (filled_put held f new z slots more there)
    where
      by : (t : Bool) → same_field s.key (field n f) ≡ t
          → (if t then Some s.value else slot_of same_field slots (field n f)) ≡ Some z
          → (slot_of same_field slots (field n f) ≡ Some z → slots_with same_field (filled n held slots) (field n f) new
          ≡ filled n (slots_with same_member held f new) slots)
          → (if t then record s { value = new } ∷ filled n held slots
          else record s { value = value_or s.value (value_under n held s.key) }
          ∷ slots_with same_field (filled n held slots) (field n f) new)
          ≡ filled n (slots_with same_member held f new) (s ∷ slots)
      by true is h rest =
          let key : s.key ≡ field n f = field_tells s.key (field n f) is in
          let none_more : slot_of same_field slots (field n f) ≡ None = ap (slot_of same_field slots) (sym key) ∙ off in
          ap (λ xs. record s { value = new } ∷ xs) (sym (filled_other held f new slots none_more))
          ∙ ap (λ o. record s { value = value_or s.value o } ∷ filled n (slots_with same_member held f new) slots)
          (sym (ap (value_under n (slots_with same_member held f new)) key ∙ there))
      by false is h rest =
          ap (λ xs. record s { value = value_or s.value (value_under n held s.key) } ∷ xs) (rest h)
          ∙ ap (λ o. record s { value = value_or s.value o } ∷ filled n (slots_with same_member held f new) slots)
          (sym (under_other held f new s.key (field_apart s.key (field n f) is)))
