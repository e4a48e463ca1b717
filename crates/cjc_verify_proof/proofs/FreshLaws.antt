-- A new object has a slot for each field of its class and of the classes above it.
use Rattle.std.proofs.Common.{◌≡◌, ℕ, zero, suc, ◌+◌, ◌<◌, ◌≤◌, refl, sym, ap, subst, ◌∙◌, arith, Bool, true, false}
use Rattle.std.proofs.Common.{List, [], ◌∷◌, ◌++◌, length, map, pos, inl, inr, Option, Some, None, slice_get}
use Rattle.std.specs.Prelude.{if◌then◌else◌, ◌==◌, option_map, option_and_then, option_to_list, is_some}
use Rattle.cjc_card_semantics.specs.CapRead.declared.tree.ClassEntry.{ClassEntry}
use Rattle.cjc_script.specs.declared.value.Value.{Value}
use Rattle.cjc_script.specs.declared.value.Value.TheVariants.{Num, Null}
use Rattle.cjc_card_semantics.specs.Bytecode.Effects.{Slot, slot_of}
use Rattle.cjc_card_semantics.specs.CapRead.declared.tree.ExportedClass.{ExportedClass}
use Rattle.cjc_card_semantics.specs.Machine.Loaded.{Loaded, Part, Import, OfGroup, OfFile}
use Rattle.cjc_card_semantics.specs.Machine.Classes.{Class, Own, External, Field, Info, IsInterface, IsClass}
use Rattle.cjc_card_semantics.specs.Machine.Classes.{all_supers}
use Rattle.cjc_card_semantics.specs.Machine.Classes.{class_of, depth, fresh, info_at, info_count, info_of, info_size}
use Rattle.cjc_card_semantics.specs.Machine.Classes.{infos, is_in, is_interface, is_interface_info, is_there}
use Rattle.cjc_card_semantics.specs.Machine.Classes.{is_reference_token, number_from, number_of, object_above}
use Rattle.cjc_card_semantics.specs.Machine.Classes.{own_slots}
use Rattle.cjc_card_semantics.specs.Machine.Classes.{same_class, same_field, slots_from, slots_upwards, some_of, supers}
use Rattle.cjc_card_semantics.specs.Machine.Classes.{superclass, superclass_by, where_there, imported_class, import_of}
use Rattle.cjc_card_semantics.specs.CapRead.declared.tree.ClassRef.{ClassRef}
use Rattle.cjc_card_semantics.specs.CapRead.declared.tree.ClassRef.TheVariants.{Inside, Outside}
use Rattle.cjc_card_acts.specs.CardTypes.{ValueType, Void, Boolean, Byte, Short, Int, Reference}
use Rattle.cjc_verify_proof.specs.Values.{IsValue, Holds}
use Rattle.cjc_verify_proof.specs.Memories.{FieldTypes, AreSlots, SupersStand, begins_as, IsDeclared, AreDeclared}
use Rattle.cjc_script.proofs.BytesNumbers.{number_same}
use Rattle.cjc_card_semantics.proofs.MachineLaws.Upwards.{Over, told_over, either_in, first_or_later, class_tells}
use Rattle.cjc_card_semantics.proofs.MachineLaws.Upwards as upwards
use Rattle.cjc_card_semantics.proofs.MachineLaws.Keys.{in_front, past_front, of_other_class, of_token}
use Rattle.cjc_verify_proof.proofs.OffLaws.{Off, all_off, stays_off, interface_off}

-- ---- numbers of infos

some_size : (i : Info) → 0 < info_size i
some_size (IsInterface i) = omega arith
some_size (IsClass c) = omega arith

behind : (o : Option ℕ) (k : ℕ) → option_map suc o ≡ Some k → (j : ℕ) × (o ≡ Some j) × (k ≡ suc j)
behind None k e = cc
behind (Some j) k e = (j, refl, (let same : suc j ≡ k = cc in sym same))

-- no info stands before the first
number_low : (at : ℕ) (is : List Info) (offset k : ℕ) → number_from at is offset ≡ Some k → at ≤ offset
number_low at [] offset k e = cc
number_low at (i ∷ is) offset k e = by (at == offset) refl e (number_low (at + info_size i) is offset)
  where
    by : (t : Bool) → (at == offset) ≡ t
        → (if t then Some 0 else option_map suc (number_from (at + info_size i) is offset)) ≡ Some k
        → ((j : ℕ) → number_from (at + info_size i) is offset ≡ Some j → at + info_size i ≤ offset) → at ≤ offset
    by true is_here h rest = let same = number_same at offset is_here in omega (arith, same)
    by false off h rest = let r = behind (number_from (at + info_size i) is offset) k h in let le = rest r.0 r.1
        in omega (arith, le)

-- an info that stands before has a lower number
number_rises : (at : ℕ) (is : List Info) (o p k j : ℕ) → number_from at is o ≡ Some k → number_from at is p ≡ Some j
    → p < o → j < k
number_rises at [] o p k j e f lt = cc
number_rises at (i ∷ is) o p k j e f lt = by (at == o) (at == p) refl refl e f
    (number_rises (at + info_size i) is o p)
  where
    by : (a b : Bool) → (at == o) ≡ a → (at == p) ≡ b
        → (if a then Some 0 else option_map suc (number_from (at + info_size i) is o)) ≡ Some k
        → (if b then Some 0 else option_map suc (number_from (at + info_size i) is p)) ≡ Some j
        → ((m n : ℕ) → number_from (at + info_size i) is o ≡ Some m → number_from (at + info_size i) is p ≡ Some n
        → p < o → n < m) → j < k
    by true true a b g h rest =
        let x = number_same at o a in
        let y = number_same at p b in
        absurd (omega (arith, x, y, lt))
    by true false a b g h rest =
        let x = number_same at o a in
        let r = behind (number_from (at + info_size i) is p) j h in
        let low = number_low (at + info_size i) is p r.0 r.1 in
        absurd (omega (arith, x, low, lt))
    by false true a b g h rest =
        let r = behind (number_from (at + info_size i) is o) k g in
        let k_is = r.2 in
        let z : 0 ≡ j = cc in
        omega (arith, k_is, z)
    by false false a b g h rest =
        let r = behind (number_from (at + info_size i) is o) k g in
        let q = behind (number_from (at + info_size i) is p) j h in
        let less = rest r.0 q.0 r.1 q.1 lt in
        let k_is = r.2 in
        let j_is = q.2 in
        omega (arith, less, k_is, j_is)

pub number_within : (at : ℕ) (is : List Info) (offset k : ℕ) → number_from at is offset ≡ Some k → k < length is
number_within at [] offset k e = cc
number_within at (i ∷ is) offset k e = by (at == offset) e (number_within (at + info_size i) is offset)
  where
    by : (t : Bool) → (if t then Some 0 else option_map suc (number_from (at + info_size i) is offset)) ≡ Some k
        → ((j : ℕ) → number_from (at + info_size i) is offset ≡ Some j → j < length is) → k < suc (length is)
    by true h rest = let z : 0 ≡ k = cc in omega (arith, z)
    by false h rest =
        let r = behind (number_from (at + info_size i) is offset) k h in
        let less = rest r.0 r.1 in
        let is = r.2 in
        omega (arith, less, is)

part_within : (parts : List Part) (p : ℕ) (part : Part) → slice_get parts p ≡ Some part → length (infos part) ≤
    info_count parts
part_within [] p part e = cc
part_within (x ∷ parts) zero part e =
    let same : x ≡ part = cc in
    let same_length = ap (λ (y : Part). length (infos y)) same in
    omega (arith, same_length)
part_within (x ∷ parts) (suc p) part e = let le = part_within parts p part e in omega (arith, le)

-- a class of the group has a number among the infos of its package
record IsNumbered (l : Loaded) (p offset : ℕ) : Type 0 where
  part : Part
  number : ℕ
  at : slice_get l.parts p ≡ Some part
  is : number_of part offset ≡ Some number

numbered : (l : Loaded) (p offset : ℕ) (info : Info) → info_of l p offset ≡ Some info → IsNumbered l p offset
numbered l p offset info e = by (slice_get l.parts p) refl e
  where
    at : (part : Part) → slice_get l.parts p ≡ Some part → (k : Option ℕ) → number_of part offset ≡ k
        → option_and_then (slice_get (infos part)) k ≡ Some info → IsNumbered l p offset
    at part there None is h = cc
    at part there (Some k) is h = record { part = part; number = k; at = there; is = is }

    by : (o : Option Part) → slice_get l.parts p ≡ o → option_and_then (λ part. info_at part offset) o ≡ Some info
        → IsNumbered l p offset
    by None there h = cc
    by (Some part) there h = at part there (number_of part offset) refl h

-- a class of the group that a class_ref means is there
meant : (l : Loaded) (p : ℕ) (r : ClassRef) (q o : ℕ) → class_of l p r ≡ Some (Own q o) → (info : Info)
    × (info_of l q o ≡ Some info)
meant l p r q o e = found (info_of l q o) refl (by r e)
  where
    found : (i : Option Info) → info_of l q o ≡ i → is_some i ≡ true → (info : Info) × (info_of l q o ≡ Some info)
    found None is h = cc
    found (Some info) is h = (info, is)

    own : (c : Class) → where_there l c ≡ Some (Own q o) → is_there l (Own q o) ≡ true
    own c h = go (is_there l c) refl h
      where
        go : (t : Bool) → is_there l c ≡ t → (if t then Some c else None) ≡ Some (Own q o) → is_there l (Own q o) ≡ true
        go true is f = let same : c ≡ Own q o = cc in subst (λ x. is_there l x ≡ true) same is
        go false is f = cc

    through : (token : ℕ) (i : Option Import) → option_and_then (imported_class l token) i ≡ Some (Own q o)
        → is_there l (Own q o) ≡ true
    through token None h = cc
    through token (Some (OfFile tree)) h = own (External tree token) h
    through token (Some (OfGroup g)) h = at (slice_get l.parts g) h
      where
        class : (x : Option ExportedClass) → option_and_then (λ (e : ExportedClass). where_there l
            (Own g e.class_offset)) x
            ≡ Some (Own q o) → is_there l (Own q o) ≡ true
        class None f = cc
        class (Some e) f = own (Own g e.class_offset) f

        at : (x : Option Part)
            → option_and_then (λ (part : Part). option_and_then (λ (e : ExportedClass). where_there l (Own g
            e.class_offset)) (slice_get part.exports token)) x ≡ Some (Own q o) → is_there l (Own q o) ≡ true
        at None f = cc
        at (Some part) f = class (slice_get part.exports token) f

    by : (r : ClassRef) → class_of l p r ≡ Some (Own q o) → is_there l (Own q o) ≡ true
    by (Inside offset) h = own (Own p offset) h
    by (Outside import token) h = through token (import_of l p import) h

-- the info of a class of the group
abbrev info_at_class : Loaded → Class → Option Info
info_at_class l (Own p offset) = info_of l p offset
info_at_class l (External tree token) = None

-- ---- the slot of a field

module _ (l : Loaded) (s : SupersStand l) (q o : ℕ) (entry : ClassEntry) (is : info_of l q o ≡ Some (IsClass entry))
    (token : ℕ) (below : token < entry.declared_instance_size) where
  abbrev key : Field
  key = record { class = Own q o; token = token }

  abbrev begun : Value
  begun = if is_reference_token entry token then Null else Num (pos 0)

  record Found (slots : List (Slot Field)) : Type 0 where
    value : Value
    found : slot_of same_field slots key ≡ Some value

  either_found : (a b : List (Slot Field)) → Found b → Found (a ++ b)
  either_found a b f = by (slot_of same_field a key) refl
    where
      by : (v : Option Value) → slot_of same_field a key ≡ v → Found (a ++ b)
      by None h = record { value = f.value; found = past_front a b key h ∙ f.found }
      by (Some v) h = record { value = v; found = in_front a b key v h }

  front_found : (a b : List (Slot Field)) → Found a → Found (a ++ b)
  front_found a b f = record { value = f.value; found = in_front a b key f.value f.found }

  -- the class itself has it
  own_found : Found (own_slots (Own q o) (info_of l q o))
  own_found = record {
    value = begun;
    found = ap (λ i. slot_of same_field (own_slots (Own q o) i) key) is
        ∙ of_token (Own q o) entry 0 entry.declared_instance_size token (omega arith) (omega (arith, below));
  }

  not_off : Off l s (Own q o) → ⊥
  not_off off = let no : is_interface_info (Some (IsClass entry)) ≡ true = ap is_interface_info (sym is) ∙ off in cc

  -- the depth reaches the class of a number
  abbrev Enough : (n : ℕ) → Class → Type 0
  Enough n (Own p offset) = (k : ℕ) (part : Part) → slice_get l.parts p ≡ Some part → number_of part offset ≡ Some k
      → k < n
  Enough n (External tree token) = Unit {0}

  -- the same from any class with one step less
  abbrev Go : (n : ℕ) (d : Class) → Type 0
  Go n d = (x : Class) → Over (supers l) x d → Enough n x → Found (slots_upwards l n (Some x))

  there : (n : ℕ) (c d : Class) → Over (supers l) c d → d ≡ Own q o → Enough n c → Found (slots_upwards l n (Some c))
  there n (External tree token) d way at enough = absurd (not_off (subst (Off l s) at (all_off l s way tt)))
  there zero (Own p offset) d way at enough = by (info_of l p offset) refl
    where
      by : (i : Option Info) → info_of l p offset ≡ i → Found []
      by None e = absurd (not_off (subst (Off l s) at (all_off l s way (ap is_interface_info e))))
      by (Some i) e = let k = numbered l p offset i e in let lt = enough k.number k.part k.at k.is in absurd (omega (
        arith,
        lt,
      ))
  there (suc n) (Own p offset) _ upwards.here at enough = subst (λ x. Found (slots_upwards l (suc n) (Some x))) (sym at)
      (either_found (slots_upwards l n (superclass l q o)) (own_slots (Own q o) (info_of l q o)) own_found)
  there (suc n) (Own p offset) d (upwards.up {b = b} direct more) at enough = by (info_of l p offset) refl direct
      (λ x way ok. there n x d way at ok)
    where
      back : Off l s b → Found (slots_upwards l (suc n) (Some (Own p offset)))
      back off = absurd (not_off (subst (Off l s) at (all_off l s more off)))

      -- the superclass stands before
      less : (c : ClassEntry) → info_of l p offset ≡ Some (IsClass c) → (x : Class) → class_of l p c.superclass ≡ Some x
          → Enough n x
      less c e (External tree token) is = tt
      less c e (Own g above) is = λ k part at_part number. (
          let first = s.before p offset c g above e is in
          let mine = numbered l p offset (IsClass c) e in
          let same : Some mine.part ≡ Some part = sym mine.at ∙ ap (slice_get l.parts) (sym first.0) ∙ at_part in
          let parts : mine.part ≡ part = cc in
          let own : number_of part offset ≡ Some mine.number = ap (λ (y : Part). number_of y offset) (sym parts)
          ∙ mine.is in
          let lower = number_rises 2 (infos part) offset above mine.number k own number first.1 in
          let high = enough mine.number mine.part mine.at mine.is in
          omega (arith, lower, high)
          )

      up : (c : ClassEntry) → info_of l p offset ≡ Some (IsClass c) → (x : Option Class) → class_of l p c.superclass ≡ x
          → is_in b (option_to_list x) ≡ true → Go n d → Found (slots_upwards l (suc n) (Some (Own p offset)))
      up c e None f h go = cc
      up c e (Some x) f h go = elim (first_or_later b x [] h) [
        | inl same ↦ (let super : superclass l p offset ≡ Some x = ap (superclass_by l p) e ∙ f in
            front_found (slots_upwards l n (superclass l p offset)) (own_slots (Own p offset) (info_of l p offset))
            (subst (λ y. Found (slots_upwards l n y)) (sym super) (go x (subst (λ y. Over (supers l) y d) same more)
            (less c e x f))))
        | inr never ↦ cc
      ]

      by : (i : Option Info) → info_of l p offset ≡ i
          → is_in b (some_of (map (class_of l p) (all_supers i)) ++ object_above l i) ≡ true → Go n d
          → Found (slots_upwards l (suc n) (Some (Own p offset)))
      by None e h go = cc
      by (Some (IsInterface i)) e h go = back (stays_off l s (Own p offset) b (ap is_interface_info e) direct)
      by (Some (IsClass c)) e h go =
          let rest = some_of (map (class_of l p) (map (λ m. m.interface) c.interfaces)) in
          elim (either_in b (option_to_list (class_of l p c.superclass) ++ rest) [] h) [
            | inl f ↦ elim (either_in b (option_to_list (class_of l p c.superclass)) rest f) [
              | inl g ↦ up c e (class_of l p c.superclass) refl g go
              | inr g ↦ back (interface_off l s b (s.interfaces p offset (IsClass c) b e g))
            ]
            | inr never ↦ cc
          ]

  -- what lies in a slot of the field
  right : (n : ℕ) (c : Option Class) (v : Value) → slot_of same_field (slots_upwards l n c) key ≡ Some v → v ≡ begun
  right zero c v e = cc
  right (suc n) None v e = cc
  right (suc n) (Some (External tree token)) v e = cc
  right (suc n) (Some (Own p offset)) v e = by (slot_of same_field (slots_upwards l n (superclass l p offset)) key) refl
      (λ w f. right n (superclass l p offset) w f)
    where
      upper : List (Slot Field)
      upper = slots_upwards l n (superclass l p offset)

      mine : (i : Option Info) → info_of l p offset ≡ i → slot_of same_field (own_slots (Own p offset) i) key ≡ Some v
          → v ≡ begun
      mine None f h = cc
      mine (Some (IsInterface i)) f h = cc
      mine (Some (IsClass c)) f h = at (same_class (Own p offset) (Own q o)) refl
        where
          at : (t : Bool) → same_class (Own p offset) (Own q o) ≡ t → v ≡ begun
          at false off =
              let none = of_other_class (Own p offset) c 0 c.declared_instance_size key off in
              let clash : None ≡ Some v = sym none ∙ h in
              cc
          at true on =
              let same = class_tells (Own p offset) (Own q o) on in
              let infos_same : Some (IsClass c) ≡ Some (IsClass entry) = sym f ∙ ap (info_at_class l) same ∙ is in
              let entries : c ≡ entry = cc in
              let got = of_token (Own q o) entry 0 entry.declared_instance_size token (omega arith) (omega (
                arith,
                below,
              )) in
              let there_is : slot_of same_field (slots_from (Own q o) entry 0 entry.declared_instance_size) key
              ≡ Some v =
              subst (λ x. slot_of same_field (slots_from (Own q o) x 0 x.declared_instance_size) key ≡ Some v) entries
              (subst (λ x. slot_of same_field (slots_from x c 0 c.declared_instance_size) key ≡ Some v) same h) in
              let both : Some v ≡ Some begun = sym there_is ∙ got in
              cc

      by : (x : Option Value) → slot_of same_field upper key ≡ x
          → ((w : Value) → slot_of same_field upper key ≡ Some w → w ≡ begun) → v ≡ begun
      by None f go = mine (info_of l p offset) refl (sym (past_front upper (own_slots (Own p offset)
          (info_of l p offset))
          key f) ∙ e)
      by (Some w) f go =
          let first = in_front upper (own_slots (Own p offset) (info_of l p offset)) key w f in
          let both : Some w ≡ Some v = sym first ∙ e in
          let same : w ≡ v = cc in
          sym same ∙ go w f

-- ---- new objects

value_begins : (is : (type : List ℕ) → (object : ℕ) → Bool) (b : Bool) (type : ValueType) → begins_as b type ≡ true
    → IsValue is type (if b then Null else Num (pos 0))
value_begins is true Void e = cc
value_begins is true Boolean e = cc
value_begins is true Byte e = cc
value_begins is true Short e = cc
value_begins is true Int e = cc
value_begins is true (Reference type) e = tt
value_begins is false Void e = cc
value_begins is false Boolean e = refl
value_begins is false Byte e = refl
value_begins is false Short e = refl
value_begins is false Int e = tt
value_begins is false (Reference type) e = cc

-- a new object has a value of its type under each field
pub fresh_slots : (l : Loaded) (t : FieldTypes) → SupersStand l → AreDeclared l t
    → (is : (type : List ℕ) → (object : ℕ) → Bool) (c : Class) (slots : List (Slot Field)) → fresh l c ≡ Some slots
    → AreSlots l t is c slots
fresh_slots l t s declared is c slots e f type typed kind = go (is_interface l c) refl e
  where
    d : IsDeclared l f type
    d = declared f type typed

    same_key : f ≡ record { class = Own d.part d.offset; token = f.token }
    same_key = ap (λ x. record { class = x; token = f.token }) d.class

    made : is_interface l c ≡ false → Holds is type (slot_of same_field (slots_upwards l (depth l) (Some c)) f)
    made plain =
        let way = told_over l c f.class kind in
        let slot = there l s d.part d.offset d.entry d.info f.token d.below (depth l) c f.class way d.class
        (enough c plain) in
        let what = right l s d.part d.offset d.entry d.info f.token d.below (depth l) (Some c) slot.value slot.found in
        subst (λ o. Holds is type o) (sym (ap (slot_of same_field (slots_upwards l (depth l) (Some c))) same_key
        ∙ slot.found)) (subst (IsValue is type) (sym what) (value_begins is (is_reference_token d.entry f.token) type
        d.kind))
      where
        enough : (c : Class) → is_interface l c ≡ false
            → Enough l s d.part d.offset d.entry d.info f.token d.below (depth l) c
        enough (External tree token) plain = tt
        enough (Own p offset) plain = λ k part at number. (
            let a = number_within 2 (infos part) offset k number in
            let b = part_within l.parts p part at in
            omega (arith, a, b)
            )

    go : (b : Bool) → is_interface l c ≡ b → (if b then None else Some (slots_upwards l (depth l) (Some c)))
        ≡ Some slots → Holds is type (slot_of same_field slots f)
    go true plain h = cc
    go false plain h =
        let same : slots_upwards l (depth l) (Some c) ≡ slots = cc in
        subst (λ x. Holds is type (slot_of same_field x f)) same (made plain)
