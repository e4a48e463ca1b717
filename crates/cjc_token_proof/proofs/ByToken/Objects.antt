-- Objects by name and by token.
use Rattle.std.proofs.Common.{◌≡◌, ℕ, zero, suc, ◌<◌, ◌≤◌, refl, sym, ap, subst, ◌∙◌, arith, Bool, true, false, List}
use Rattle.std.proofs.Common.{[], ◌∷◌, ◌++◌, map, ⊎_elim, pos}
use Rattle.std.specs.Prelude.{Option, Some, None, if◌then◌else◌, ◌==◌, ◌&&◌, ◌||◌, option_map}
use Rattle.std.proofs.lemmas.Bool.Decides.{nat_tests}
use Rattle.cjc_bytes.specs.declared.fault.MemberId.{MemberId}
use Rattle.cjc_card_semantics.specs.CapRead.declared.tree.ClassEntry.{ClassEntry}
use Rattle.cjc_script.specs.declared.value.Value.{Value}
use Rattle.cjc_script.specs.declared.value.Value.TheVariants.{Num, Null}
use Rattle.cjc_script.specs.declared.report.FieldValue.{FieldValue}
use Rattle.cjc_script.specs.Sorts.{Sort, Boolean, Byte, Short, Int, Reference, NoValue, field_sort, zero_of}
use Rattle.cjc_card_semantics.specs.Bytecode.Effects.{Slot, slot_of, slots_with}
use Rattle.cjc_card_semantics.specs.Bytecode.Renaming.{keys}
use Rattle.cjc_card_semantics.specs.Machine.ByToken.{value_or, shown_field, shown_own, shown_upwards}
use Rattle.cjc_card_semantics.specs.Machine.Classes.{Class, Own, External, same_class, Field, same_field, IsClass}
use Rattle.cjc_card_semantics.specs.Machine.Classes.{info_of, names_of, superclass, is_reference_token}
use Rattle.cjc_card_semantics.specs.Machine.Classes.{slots_from, slots_upwards, depth}
use Rattle.cjc_card_semantics.specs.Machine.Classes as card
use Rattle.cjc_card_semantics.specs.Machine.Loaded.{ClassNames}
use Rattle.cjc_ncode.specs.ByLabel.{shown_slot, slot_for}
use Rattle.cjc_ncode.specs.PoolOrder.{same_member}
use Rattle.cjc_ncode.specs.Lowering.Naming.{Naming, field}
use Rattle.cjc_token_proof.specs.ByToken.Cells.{is_one_of, are_apart}
use Rattle.cjc_token_proof.specs.ByToken.Objects.{is_reference, StandsBefore, HasFields, Declares, HasObjects}
use Rattle.cjc_token_proof.specs.ByToken.Objects.{field_name, value_under, filled, slots_of, ObjectsAgree}
use Rattle.cjc_token_proof.specs.ByToken.Objects
use Rattle.cjc_token_proof.proofs.ByToken.Members.{own_slot, front_one, behind_one, front_all, behind_all, either_field}
use Rattle.cjc_token_proof.proofs.ByToken.Members.{shown_all}
use Rattle.cjc_card_semantics.proofs.MachineLaws.Keys.{Slots, field_tells, field_same, in_front}
use Rattle.cjc_card_semantics.proofs.MachineLaws.Upwards.{class_tells, class_same}
use Rattle.cjc_card_semantics.proofs.MachineLaws.Keys.{past_front, of_other_class, of_token}
use Rattle.cjc_token_proof.proofs.ByToken.Slots.{Once, none, one, own_once}
use Rattle.cjc_token_proof.proofs.ByToken.Slots.{both_once, filled_slot, under, filled_put}

module _ (n : Naming) (may : MemberId → Bool) where
  abbrev at : (depth : ℕ) → Option Class → Slots
  at d c = slots_upwards n.loaded d c

  none_above : (d : ℕ) → at d None ≡ []
  none_above zero = refl
  none_above (suc d) = refl

  external_above : (d tree token : ℕ) → at d (Some (External tree token)) ≡ []
  external_above zero tree token = refl
  external_above (suc d) tree token = refl

  -- a class's own slots behind those of its superclass
  own_behind : (d part offset : ℕ) (entry : ClassEntry) → info_of n.loaded part offset ≡ Some (IsClass entry)
      → at (suc d) (Some (Own part offset)) ≡ at d (superclass n.loaded part offset)
      ++ slots_from (Own part offset) entry 0 entry.declared_instance_size
  own_behind d part offset entry e = ap (λ i. at d (superclass n.loaded part offset)
      ++ card.own_slots (Own part offset) i) e

  -- ---- classes that stand before

  further : {part offset : ℕ} {c : Option Class} (later : ℕ) → offset < later → StandsBefore part offset c
      → StandsBefore part later c
  further later lt Objects.no_class = Objects.no_class
  further later lt Objects.imported = Objects.imported
  further later lt (Objects.own less) = Objects.own (omega arith)
  further later lt (Objects.earlier less) = Objects.earlier less

  -- what stands before a class of a package before stands before each class of the package
  over : {lower before part : ℕ} {c : Option Class} (offset : ℕ) → lower < part → StandsBefore lower before c
      → StandsBefore part offset c
  over offset lt Objects.no_class = Objects.no_class
  over offset lt Objects.imported = Objects.imported
  over offset lt (Objects.own less) = Objects.earlier lt
  over offset lt (Objects.earlier less) = Objects.earlier (omega arith)

  parts_differ : (lower part before offset : ℕ) → lower < part
      → same_class (Own lower before) (Own part offset) ≡ false
  parts_differ lower part before offset lt =
      let e : (lower == part) ≡ false = grind (arith, nat_tests) in ap (λ t. t && (before == offset)) e

  differs : (part before offset : ℕ) → before < offset → same_class (Own part before) (Own part offset) ≡ false
  differs part before offset lt =
      let e : (before == offset) ≡ false = grind (arith, nat_tests) in
      ap (λ t. (part == part) && t) e ∙ off (part == part)
    where
      off : (t : Bool) → (t && false) ≡ false
      off true = refl
      off false = refl

  class_apart : (a b : Class) → same_class a b ≡ false → same_class b a ≡ false
  class_apart a b e = by (same_class b a) refl
    where
      by : (t : Bool) → same_class b a ≡ t → same_class b a ≡ false
      by false is = is
      by true is = let clash : true ≡ false = sym (ap (same_class a) (class_tells b a is) ∙ class_same a) ∙ e in cc

  -- no slot there is of a class that stands behind
  before_none : {h : ℕ} {c : Option Class} {fields : List MemberId} → Declares n may h c fields → (d : ℕ) → h ≤ d
      → (part offset token : ℕ) → StandsBefore part offset c
      → slot_of same_field (at d c) (record { class = Own part offset; token = token }) ≡ None
  before_none Objects.no_class d le part offset token before =
      ap (λ s. slot_of same_field s (record { class = Own part offset; token = token })) (none_above d)
  before_none (Objects.imported {tree = tree} {token = external}) d le part offset token before =
      ap (λ s. slot_of same_field s (record { class = Own part offset; token = token })) (external_above d tree
      external)
  before_none (Objects.declares info names has first more) zero le part offset token before = absurd (omega arith)
  before_none (Objects.declares {entry = entry} info names has first more) (suc d) le part offset token
      (Objects.own {before = here} less) =
      ap (λ s. slot_of same_field s (record { class = Own part offset; token = token })) (own_behind d part here entry
      info)
      ∙ (past_front (at d (superclass n.loaded part here)) (slots_from (Own part here) entry 0
      entry.declared_instance_size) (record { class = Own part offset; token = token })
      (before_none more d (omega arith) part offset token (further offset less first))
      ∙ of_other_class (Own part here) entry 0 entry.declared_instance_size (record {
        class = Own part offset;
        token = token;
      }) (differs part here offset less))
  before_none (Objects.declares {part = lower} {offset = here} {entry = entry} info names has first more) (suc d) le
      part offset token (Objects.earlier less) =
      ap (λ s. slot_of same_field s (record { class = Own part offset; token = token })) (own_behind d lower here
      entry info)
      ∙ (past_front (at d (superclass n.loaded lower here)) (slots_from (Own lower here) entry 0
      entry.declared_instance_size) (record { class = Own part offset; token = token })
      (before_none more d (omega arith) part offset token (over offset less first))
      ∙ of_other_class (Own lower here) entry 0 entry.declared_instance_size (record {
        class = Own part offset;
        token = token;
      }) (parts_differ lower part here offset less))

  all_once : {h : ℕ} {c : Option Class} {fields : List MemberId} → Declares n may h c fields → (d : ℕ) → h ≤ d
      → Once (at d c)
  all_once Objects.no_class d le = subst Once (sym (none_above d)) none
  all_once (Objects.imported {tree = tree} {token = token}) d le = subst Once (sym (external_above d tree token)) none
  all_once (Objects.declares info names has first more) zero le = absurd (omega arith)
  all_once (Objects.declares {part = part} {offset = offset} {entry = entry} info names has first more) (suc d) le =
      subst Once (sym (own_behind d part offset entry info))
      (both_once (at d (superclass n.loaded part offset)) (slots_from (Own part offset) entry 0
      entry.declared_instance_size) (all_once more d (omega arith)) (own_once (Own part offset) entry 0
      entry.declared_instance_size)
      (by (λ token. before_none more d (omega arith) part offset token first)))
    where
      by : ((token : ℕ) → slot_of same_field (at d (superclass n.loaded part offset)) (record {
        class = Own part offset;
        token = token;
      }) ≡ None)
          → (key : Field) (v : Value) → slot_of same_field (at d (superclass n.loaded part offset)) key ≡ Some v
          → slot_of same_field (slots_from (Own part offset) entry 0 entry.declared_instance_size) key ≡ None
      by gone key v e = split (same_class (Own part offset) key.class) refl
        where
          split : (t : Bool) → same_class (Own part offset) key.class ≡ t
              → slot_of same_field (slots_from (Own part offset) entry 0 entry.declared_instance_size) key ≡ None
          split false is = of_other_class (Own part offset) entry 0 entry.declared_instance_size key is
          split true is =
              let same : Own part offset ≡ key.class = class_tells (Own part offset) key.class is in
              let clash : None ≡ Some v = sym (gone key.token)
              ∙ (ap (λ c. slot_of same_field (at d (superclass n.loaded part offset)) (record {
                class = c;
                token = key.token;
              })) same ∙ e) in cc

  -- ---- fields that may be named

  first_value : (s : Sort) (t : Bool) → t ≡ is_reference s → (if t then Null else Num (pos 0)) ≡ zero_of s
  first_value Boolean t e = ap (λ u. if u then Null else Num (pos 0)) e
  first_value Byte t e = ap (λ u. if u then Null else Num (pos 0)) e
  first_value Short t e = ap (λ u. if u then Null else Num (pos 0)) e
  first_value Int t e = ap (λ u. if u then Null else Num (pos 0)) e
  first_value (Reference shape) t e = ap (λ u. if u then Null else Num (pos 0)) e
  first_value NoValue t e = ap (λ u. if u then Null else Num (pos 0)) e

  -- the field is among these and has a slot that holds 0 or null at first; or it is not and has none
  pub data IsThere (f : MemberId) (fields : List MemberId) (slots : Slots) : Type 0 where
    there : is_one_of f fields ≡ true → slot_of same_field slots (field n f) ≡ Some (zero_of (field_sort f.desc))
        → IsThere f fields slots
    elsewhere : is_one_of f fields ≡ false → slot_of same_field slots (field n f) ≡ None → IsThere f fields slots

  neither : (gs hs : List MemberId) (f : MemberId) → is_one_of f gs ≡ false → is_one_of f hs ≡ false
      → is_one_of f (gs ++ hs) ≡ false
  neither [] hs f e h = h
  neither (g ∷ gs) hs f e h = by (same_member g f) e (neither gs hs f)
    where
      by : (t : Bool) → (t || is_one_of f gs) ≡ false → (is_one_of f gs ≡ false → is_one_of f hs ≡ false
          → is_one_of f (gs ++ hs) ≡ false) → (t || is_one_of f (gs ++ hs)) ≡ false
      by true e rest = cc
      by false e rest = rest e h

  -- a class's own fields
  own_there : (part offset : ℕ) (entry : ClassEntry) (names : ClassNames) (above own : List MemberId) (slots : Slots)
      (f : MemberId) → HasFields n may part offset entry names own → may f ≡ true
      → IsThere f above slots → IsThere f (above ++ own) (slots ++ slots_from (Own part offset) entry 0
      entry.declared_instance_size)
  own_there part offset entry names above own slots f has is (there among found) =
      there (front_all above own f among) (in_front slots (slots_from (Own part offset) entry 0
      entry.declared_instance_size) (field n f) (zero_of (field_sort f.desc)) found)
  own_there part offset entry names above own slots f has is (elsewhere off gone) =
      by (same_class (n.class f.class) (Own part offset)) refl
    where
      by : (t : Bool) → same_class (n.class f.class) (Own part offset) ≡ t → IsThere f (above ++ own) (slots
          ++ slots_from (Own part offset) entry 0 entry.declared_instance_size)
      by true e =
          let class = class_tells (n.class f.class) (Own part offset) e in
          let mine = has.all f is class in
          let low = has.sized f mine in
          there (behind_all above own f mine)
          (past_front slots (slots_from (Own part offset) entry 0 entry.declared_instance_size) (field n f) gone
          ∙ (ap (λ c. slot_of same_field (slots_from (Own part offset) entry 0 entry.declared_instance_size)
          (record { class = c; token = n.field_token f })) class
          ∙ (of_token (Own part offset) entry 0 entry.declared_instance_size (n.field_token f) (omega arith)
          (omega (arith, low))
          ∙ ap Some (first_value (field_sort f.desc) (is_reference_token entry (n.field_token f))
          (has.references f mine)))))
      by false e = elsewhere (neither above own f off (not_mine (is_one_of f own) refl))
          (past_front slots (slots_from (Own part offset) entry 0 entry.declared_instance_size) (field n f) gone
          ∙ of_other_class (Own part offset) entry 0 entry.declared_instance_size (field n f)
          (class_apart (n.class f.class) (Own part offset) e))
        where
          not_mine : (t : Bool) → is_one_of f own ≡ t → is_one_of f own ≡ false
          not_mine false h = h
          not_mine true h = let clash : true ≡ false = sym (ap (λ c. same_class c (Own part offset)) (has.on_card f h)
              ∙ class_same (Own part offset)) ∙ e in cc

  is_there : {h : ℕ} {c : Option Class} {fields : List MemberId} → Declares n may h c fields → (d : ℕ) → h ≤ d
      → (f : MemberId) → may f ≡ true → IsThere f fields (at d c)
  is_there Objects.no_class d le f is = elsewhere refl (ap (λ s. slot_of same_field s (field n f)) (none_above d))
  is_there (Objects.imported {tree = tree} {token = token}) d le f is =
      elsewhere refl (ap (λ s. slot_of same_field s (field n f)) (external_above d tree token))
  is_there (Objects.declares info names has first more) zero le f is = absurd (omega arith)
  is_there (Objects.declares {part = part} {offset = offset} {entry = entry} {names = naming} {above = above}
      {own = own} info names has first more) (suc d) le f is =
      subst (IsThere f (above ++ own)) (sym (own_behind d part offset entry info))
      (own_there part offset entry naming above own (at d (superclass n.loaded part offset)) f has is
      (is_there more d (omega arith) f is))

  tells : {h : ℕ} {c : Option Class} {fields : List MemberId} → Declares n may h c fields → (f g : MemberId)
      → may f ≡ true → is_one_of g fields ≡ true → same_field (field n g) (field n f) ≡ true → g ≡ f
  tells Objects.no_class f g is among e = cc
  tells Objects.imported f g is among e = cc
  tells (Objects.declares {part = part} {offset = offset} {above = above} {own = own} info names has first more) f g is
      among e = ⊎_elim
      (λ up. tells more f g is up e)
      (λ mine.
      let same = field_tells (field n g) (field n f) e in
      let class : n.class f.class ≡ Own part offset = sym (ap (λ (k : Field). k.class) same) ∙ has.on_card g mine in
      has.once g f mine (has.all f is class) (ap (λ (k : Field). k.token) same))
      (either_field above own g among)

  named : {h : ℕ} {c : Option Class} {fields : List MemberId} → Declares n may h c fields → (f : MemberId)
      → is_one_of f fields ≡ true → may f ≡ true
  named Objects.no_class f among = cc
  named Objects.imported f among = cc
  named (Objects.declares {above = above} {own = own} info names has first more) f among =
      ⊎_elim (named more f) (has.named f) (either_field above own f among)

  -- ---- a new object

  data Zero (key : Field) (fields : List MemberId) : Type 0 where
    no_zero : value_under n (map slot_for fields) key ≡ None → Zero key fields
    a_zero : (g : MemberId) → is_one_of g fields ≡ true → field n g ≡ key → value_under n (map slot_for fields) key
        ≡ Some (zero_of (field_sort g.desc)) → Zero key fields

  zero_under : (key : Field) (fields : List MemberId) → Zero key fields
  zero_under key [] = no_zero refl
  zero_under key (g ∷ fields) = by (same_field (field n g) key) refl (zero_under key fields)
    where
      by : (t : Bool) → same_field (field n g) key ≡ t → Zero key fields → Zero key (g ∷ fields)
      by true e rest = a_zero g (front_one g fields) (field_tells (field n g) key e) (ap (λ t. if t
          then Some (zero_of (field_sort g.desc)) else value_under n (map slot_for fields) key) e)
      by false e (no_zero h) = no_zero (ap (λ t. if t then Some (zero_of (field_sort g.desc))
          else value_under n (map slot_for fields) key) e ∙ h)
      by false e (a_zero f among same h) = a_zero f (behind_one f g fields among) same (ap (λ t. if t
          then Some (zero_of (field_sort g.desc)) else value_under n (map slot_for fields) key) e ∙ h)

  filled_same : (held : List (Slot MemberId)) (slots : Slots) → Once slots → ((key : Field) (v : Value)
      → slot_of same_field slots key ≡ Some v → value_or v (value_under n held key) ≡ v) → filled n held slots ≡ slots
  filled_same held _ none h = refl
  filled_same held _ (one {s = s} {slots = slots} off more) h =
      ap (λ v. record s { value = v } ∷ filled n held slots) (h s.key s.value (ap (λ t. if t then Some s.value
      else slot_of same_field slots s.key) (field_same s.key)))
      ∙ ap (λ xs. s ∷ xs) (filled_same held slots more rest)
    where
      rest : (key : Field) (v : Value) → slot_of same_field slots key ≡ Some v → value_or v (value_under n held key) ≡ v
      rest key v e = by (same_field s.key key) refl
        where
          by : (t : Bool) → same_field s.key key ≡ t → value_or v (value_under n held key) ≡ v
          by true is = let clash : None ≡ Some v = sym off ∙ (ap (slot_of same_field slots) (field_tells s.key key is)
              ∙ e) in cc
          by false is = h key v (ap (λ t. if t then Some s.value else slot_of same_field slots key) is ∙ e)

  fresh_same : {h : ℕ} {c : Option Class} {fields : List MemberId} → Declares n may h c fields → (d : ℕ) → h ≤ d
      → filled n (map slot_for fields) (at d c) ≡ at d c
  fresh_same {c = c} {fields = fields} declared d le = filled_same (map slot_for fields) (at d c)
      (all_once declared d le) (λ key v e. by key v e (zero_under key fields))
    where
      by : (key : Field) (v : Value) → slot_of same_field (at d c) key ≡ Some v → Zero key fields
          → value_or v (value_under n (map slot_for fields) key) ≡ v
      by key v e (no_zero h) = ap (value_or v) h
      by key v e (a_zero g among same h) = ap (value_or v) h ∙ met (is_there declared d le g (named declared g among))
        where
          met : IsThere g fields (at d c) → zero_of (field_sort g.desc) ≡ v
          met (there on found) = let both : Some (zero_of (field_sort g.desc)) ≡ Some v = sym found
              ∙ (ap (slot_of same_field (at d c)) same ∙ e) in cc
          met (elsewhere off gone) = let clash : true ≡ false = sym among ∙ off in cc

  -- ---- an object without fields

  both_empty : (gs hs : List MemberId) → gs ++ hs ≡ [] → (gs ≡ []) × (hs ≡ [])
  both_empty [] hs e = (refl, e)
  both_empty (g ∷ gs) hs e = cc

  bare : {h : ℕ} {c : Option Class} {fields : List MemberId} → Declares n may h c fields → fields ≡ [] → (d : ℕ) → h ≤ d
      → at d c ≡ []
  bare Objects.no_class e d le = none_above d
  bare (Objects.imported {tree = tree} {token = token}) e d le = external_above d tree token
  bare (Objects.declares info names has first more) e zero le = absurd (omega arith)
  bare (Objects.declares {part = part} {offset = offset} {entry = entry} {above = above} {own = own} info names has
      first more) e (suc d) le =
      let empty = both_empty above own e in
      own_behind d part offset entry info
      ∙ (ap (λ s. s ++ slots_from (Own part offset) entry 0 entry.declared_instance_size)
      (bare more empty.0 d (omega arith))
      ∙ ap (slots_from (Own part offset) entry 0) (has.empty empty.1))

  -- ---- reports

  abbrev look : Slots → MemberId → FieldValue
  look slots f = record {
    field = f;
    value = value_or (zero_of (field_sort f.desc)) (slot_of same_field slots
        (field n f));
  }

  map_both : (f : MemberId → FieldValue) (gs hs : List MemberId) → map f (gs ++ hs) ≡ map f gs ++ map f hs
  map_both f [] hs = refl
  map_both f (g ∷ gs) hs = ap (λ xs. f g ∷ xs) (map_both f gs hs)

  own_shown : (part offset : ℕ) (name : List ℕ) (slots : Slots) (gs : List MemberId)
      → ((f : MemberId) → is_one_of f gs ≡ true → f.class ≡ name) → ((f : MemberId) → is_one_of f gs ≡ true
      → n.class f.class ≡ Own part offset)
      → map (shown_field (Own part offset) name slots) (map (field_name n) gs) ≡ map (look slots) gs
  own_shown part offset name slots [] class on_card = refl
  own_shown part offset name slots (g ∷ gs) class on_card =
      ap (λ c. record {
        field = record { class = name; name = g.name; desc = g.desc };
        value = value_or (zero_of (field_sort g.desc)) (slot_of same_field slots (record {
          class = c;
          token = n.field_token g;
        }));
      } ∷ map (shown_field (Own part offset) name slots) (map (field_name n) gs))
      (sym (on_card g (front_one g gs)))
      ∙ (ap (λ c. record {
        field = record { class = c; name = g.name; desc = g.desc };
        value = value_or (zero_of (field_sort g.desc)) (slot_of same_field slots (field n g));
      }
      ∷ map (shown_field (Own part offset) name slots) (map (field_name n) gs)) (sym (class g (front_one g gs)))
      ∙ ap (λ xs. look slots g ∷ xs) (own_shown part offset name slots gs (λ f e. class f (behind_one f g gs e))
      (λ f e. on_card f (behind_one f g gs e))))

  all_shown : {h : ℕ} {c : Option Class} {fields : List MemberId} → Declares n may h c fields → (d : ℕ) → h ≤ d
      → (slots : Slots) → shown_upwards n.loaded d c slots ≡ map (look slots) fields
  all_shown Objects.no_class zero le slots = refl
  all_shown Objects.no_class (suc d) le slots = refl
  all_shown Objects.imported zero le slots = refl
  all_shown Objects.imported (suc d) le slots = refl
  all_shown (Objects.declares info names has first more) zero le slots = absurd (omega arith)
  all_shown (Objects.declares {part = part} {offset = offset} {names = naming} {above = above} {own = own} info names
      has first more) (suc d) le slots =
      ap (λ xs. xs ++ shown_own (Own part offset) slots (names_of n.loaded part offset)) (all_shown more d (omega arith)
      slots)
      ∙ (ap (λ o. map (look slots) above ++ shown_own (Own part offset) slots o) names
      ∙ (ap (λ fs. map (look slots) above ++ map (shown_field (Own part offset) naming.name slots) fs) has.order
      ∙ (ap (λ xs. map (look slots) above ++ xs) (own_shown part offset naming.name slots own has.class has.on_card)
      ∙ sym (map_both (look slots) above own))))

-- ---- an object of a class

keys_with : (f : MemberId) (v : Value) (held : List (Slot MemberId)) → keys (slots_with same_member held f v)
    ≡ keys held
keys_with f v [] = refl
keys_with f v (s ∷ held) = by (same_member s.key f) (keys_with f v held)
  where
    by : (t : Bool) → keys (slots_with same_member held f v) ≡ keys held → keys (if t then record s { value = v } ∷ held
        else s ∷ slots_with same_member held f v) ≡ s.key ∷ keys held
    by true rest = refl
    by false rest = ap (λ ks. s.key ∷ ks) rest

not_held : (held : List (Slot MemberId)) (f : MemberId) → is_one_of f (keys held) ≡ false → slot_of same_member held f
    ≡ None
not_held [] f e = refl
not_held (s ∷ held) f e = by (same_member s.key f) e (not_held held f)
  where
    by : (t : Bool) → (t || is_one_of f (keys held)) ≡ false → (is_one_of f (keys held) ≡ false
        → slot_of same_member held f ≡ None) → (if t then Some s.value else slot_of same_member held f) ≡ None
    by true h rest = cc
    by false h rest = rest h

held_there : (held : List (Slot MemberId)) (f : MemberId) → is_one_of f (keys held) ≡ true → (v : Value)
    × (slot_of same_member held f ≡ Some v)
held_there [] f e = cc
held_there (s ∷ held) f e = by (same_member s.key f) e (held_there held f)
  where
    by : (t : Bool) → (t || is_one_of f (keys held)) ≡ true → (is_one_of f (keys held) ≡ true → (v : Value)
        × (slot_of same_member held f ≡ Some v)) → (v : Value)
        × ((if t then Some s.value else slot_of same_member held f) ≡ Some v)
    by true h rest = (s.value, refl)
    by false h rest = rest h

module _ (n : Naming) (may : MemberId → Bool) (c : List ℕ) (fields : List MemberId) (has : HasObjects n may c fields)
  where
    abbrev mine : Slots
    mine = slots_upwards n.loaded (depth n.loaded) (Some (n.class c))

    tell : (held : List (Slot MemberId)) (f : MemberId) → keys held ≡ fields → may f ≡ true
        → value_under n held (field n f) ≡ slot_of same_member held f
    tell held f same is = under n held f (λ g among e. tells n may has.declared f g is (ap (is_one_of g) (sym same)
        ∙ among) e)

    get_there : (held : List (Slot MemberId)) (f : MemberId) → keys held ≡ fields → may f ≡ true
        → slot_of same_field (slots_of n c held) (field n f) ≡ slot_of same_member held f
    get_there held f same is =
        filled_slot n held mine (field n f)
        ∙ (ap (λ o. option_map (λ z. value_or z o) (slot_of same_field mine (field n f))) (tell held f same is)
        ∙ by (is_there n may has.declared (depth n.loaded) has.low f is))
      where
        by : IsThere n may f fields mine → option_map (λ z. value_or z (slot_of same_member held f))
            (slot_of same_field mine (field n f)) ≡ slot_of same_member held f
        by (there among found) =
            let h = held_there held f (ap (is_one_of f) same ∙ among) in
            ap (λ o. option_map (λ z. value_or z (slot_of same_member held f)) o) found
            ∙ (ap (λ o. Some (value_or (zero_of (field_sort f.desc)) o)) h.1 ∙ sym h.1)
        by (elsewhere off gone) =
            ap (λ o. option_map (λ z. value_or z (slot_of same_member held f)) o) gone
            ∙ sym (not_held held f (ap (is_one_of f) same ∙ off))

    put_there : (held : List (Slot MemberId)) (f : MemberId) (old new : Value) → keys held ≡ fields → may f ≡ true
        → slot_of same_member held f ≡ Some old
        → slots_with same_field (slots_of n c held) (field n f) new ≡ slots_of n c (slots_with same_member held f new)
    put_there held f old new same is found = by (is_there n may has.declared (depth n.loaded) has.low f is)
      where
        by : IsThere n may f fields mine → slots_with same_field (slots_of n c held) (field n f) new
            ≡ slots_of n c (slots_with same_member held f new)
        by (there among z) =
            filled_put n held f new (zero_of (field_sort f.desc)) mine (all_once n may has.declared (depth n.loaded)
            has.low)
            (tell (slots_with same_member held f new) f (keys_with f new held ∙ same) is
            ∙ own_slot f new held old found)
            z
        by (elsewhere off gone) =
            let clash : None ≡ Some old = sym (not_held held f (ap (is_one_of f) same ∙ off)) ∙ found in cc

    shown_there : (held : List (Slot MemberId)) → keys held ≡ fields
        → shown_upwards n.loaded (depth n.loaded) (Some (n.class c)) (slots_of n c held) ≡ map shown_slot held
    shown_there held same =
        all_shown n may has.declared (depth n.loaded) has.low (slots_of n c held)
        ∙ (ap (map (look n may (slots_of n c held))) (sym same)
        ∙ shown_all (look n may (slots_of n c held)) held (ap are_apart same ∙ has.once)
        (λ f v among found. ap (λ o. record { field = f; value = value_or (zero_of (field_sort f.desc)) o })
        (get_there held f same (named n may has.declared f (ap (is_one_of f) (sym same) ∙ among)) ∙ found)))

    pub objects_agree : ObjectsAgree n may c fields
    objects_agree = record {
      get = get_there;
      put = put_there;
      fresh = λ is. ap (λ t. if t then None else Some mine) is
          ∙ ap Some (sym (fresh_same n may has.declared (depth n.loaded) has.low));
      bare = λ e. ap (filled n []) (bare n may has.declared e (depth n.loaded) has.low);
      shown = shown_there;
    }
