-- Lines of a class of the package in two worlds: what the package declares has one token in both.
use Rattle.std.proofs.Common.{◌≡◌, ℕ, zero, suc, refl, sym, ap, subst, ◌∙◌, Bool, true, false, List, [], ◌∷◌, ◌++◌}
use Rattle.std.proofs.Common.{length, inl, inr, ⊎_elim}
use Rattle.std.specs.Prelude.{◌⊎◌, ◌||◌, not, Option, Some, None, if◌then◌else◌, map, slice_get}
use Rattle.std.proofs.lemmas.Bool.{or_right}
use Rattle.cjc_world.specs.declared.found.Found.{Found}
use Rattle.cjc_world.specs.Classes.{Class, Member}
use Rattle.cjc_world.specs.Lookup.{first, or_else}
use Rattle.cjc_world.specs.Upwards.{Has}
use Rattle.cjc_world.proofs.UpwardLaws.Lines.{first_has}
use Rattle.cjc_tokens.specs.Members.{Signature, all_methods, has, is_hidden, is_shown, is_virtual}
use Rattle.cjc_tokens.specs.Members.{signature_of, signatures}
use Rattle.cjc_tokens.specs.Lines.{Line, Nowhere, Imported, Declared}
use Rattle.cjc_tokens.specs.Slots.{Slots, first_answer, got, hidden_slots, implementing, is_of_package, is_slot_of}
use Rattle.cjc_tokens.specs.Slots.{listed_slots, listed_token, meant_by, nearer, new_in, own, row, shown_token, slots}
use Rattle.cjc_tokens.specs.Slots.{taken_slots, token, token_among, token_by, told_in, with_all_taken, with_new}
use Rattle.cjc_tokens.proofs.Facts.{chosen-none, chosen-some, got-at, got-none, has-got_none, own-at, own-none}
use Rattle.cjc_tokens.proofs.Facts.{own-some}
use Rattle.cjc_tokens.proofs.Facts.{same-refl}
use Rattle.cjc_tokens.proofs.Held.{at_either, new-offered, token-slot}
use Rattle.cjc_cmd_compat.proofs.SubclassesLaws.Slots.{AreAlike, AreAlikeAt, alike-append, both_ways}
use Rattle.cjc_cmd_compat.proofs.SubclassesLaws.Slots.{longer}
use Rattle.cjc_cmd_compat.proofs.SubclassesLaws.Slots.{neither, new_in-alike, slot-is, taken-alike, taken-at}
use Rattle.cjc_cmd_compat.proofs.SubclassesLaws.Slots.{taken-length, taken-only, token-alike}
use Rattle.cjc_world.proofs.BytesBools.{true_or_false, clash}

-- what the classes of the package on a line declare, public or protected, or get
abbrev pub names : Line → Signature → Bool
names Nowhere u = false
names (Imported classes) u = false
names (Declared c given above) u = has (signatures is_shown c.methods) u || (has (map signature_of given) u
    || names above u)

-- Imported classes of two worlds that list the same of what matters: as many slots, the same tokens, and no method
-- under two.
pub record AreListings (Q : Signature → Type 0) (old new : List Class) : Type 0 where
  pub imported : (c : Class) → Has c old → c.is_imported ≡ true
  pub imported_too : (c : Class) → Has c new → c.is_imported ≡ true
  pub count : length (listed_slots (all_methods new)) ≡ length (listed_slots (all_methods old))
  pub told : (u : Signature) → Q u → first_answer (told_in u) new ≡ first_answer (told_in u) old
  pub only : (u : Signature) → Q u → (t : ℕ) → is_slot_of (slice_get (listed_slots (all_methods old)) t) u ≡ true
      → first_answer (told_in u) old ≡ Some t
  pub only_too : (u : Signature) → Q u → (t : ℕ) → is_slot_of (slice_get (listed_slots (all_methods new)) t) u ≡ true
      → first_answer (told_in u) old ≡ Some t

-- The lines of one class in two worlds.
pub data AreLines (Q : Signature → Type 0) : (old new : Line) → Type 0 where
  nowhere : AreLines Q Nowhere Nowhere
  of_imports : (old new : List Class) → AreListings Q old new → AreLines Q (Imported old) (Imported new)
  of_class : (c : Class) (given : List Member) (old new : Line) → AreLines Q old new → c.is_imported ≡ false
      → ((u : Signature) → has (signatures is_shown c.methods) u ≡ true → Q u)
      → ((u : Signature) → has (map signature_of given) u ≡ true → Q u × (listed_token old u ≡ None))
      → AreLines Q (Declared c given old) (Declared c given new)

-- What holds of both: what the package declares has its slots at the same places, and what it does not at most at the
-- token that is listed for it.
pub record AreAlikeLines (Q : Signature → Type 0) (old new : Line) : Type 0 where
  pub count : length (slots new) ≡ length (slots old)
  pub told : (u : Signature) → Q u → listed_token new u ≡ listed_token old u
  pub known : (u : Signature) → names old u ≡ true → Q u
  pub meant : (u : Signature) → is_of_package (Some (implementing old u)) ≡ names old u
  pub meant_too : (u : Signature) → is_of_package (Some (implementing new u)) ≡ names old u
  pub own : (u : Signature) → names old u ≡ true → AreAlike u (slots old) (slots new)
  pub only : (u : Signature) → Q u → names old u ≡ false → (t : ℕ) → is_slot_of (slice_get (slots old) t) u ≡ true
      → listed_token old u ≡ Some t
  pub only_too : (u : Signature) → Q u → names old u ≡ false → (t : ℕ) → is_slot_of (slice_get (slots new) t) u ≡ true
      → listed_token old u ≡ Some t

-- ---- whose the methods of slots are

no_package : (cs : List Class) (u : Signature) → ((c : Class) → Has c cs → c.is_imported ≡ true)
    → is_of_package (Some (first (own is_virtual u) cs)) ≡ false
no_package cs u abroad = by (first (own is_virtual u) cs) refl
  where
    by : (o : Option Found) → first (own is_virtual u) cs ≡ o → is_of_package (Some o) ≡ false
    by None e = refl
    by (Some f) e =
        let h = first_has (own is_virtual u) cs f e in
        let at = own-at is_virtual u h.0 f h.2 in
        ap (λ (x : Found). not x.imported) at.1 ∙ ap not (abroad h.0 h.1)

declared_meant : (c : Class) (given : List Member) (above : Line) (n : Bool) (u : Signature) → c.is_imported ≡ false
    → is_of_package (Some (implementing above u)) ≡ n
    → is_of_package (Some (implementing (Declared c given above) u)) ≡ (has (signatures is_shown c.methods) u
    || (has (map signature_of given) u || n))
declared_meant c given above n u here e = by (has (signatures is_shown c.methods) u) refl
  where
    second : (b : Bool) → has (map signature_of given) u ≡ b
        → is_of_package (Some (or_else (got given u c) (implementing above u))) ≡ (b || n)
    second false f = ap (λ o. is_of_package (Some (or_else o (implementing above u)))) (got-none given u c f) ∙ e
    second true f = on (got given u c) refl
      where
        on : (o : Option Found) → got given u c ≡ o → is_of_package (Some (or_else (got given u c)
            (implementing above u)))
            ≡ true
        on None g = clash (has (map signature_of given) u) f (has-got_none given u c g)
        on (Some x) g =
            let at = got-at given u c x g in
            ap (λ o. is_of_package (Some (or_else o (implementing above u)))) g
            ∙ ap (λ (y : Found). not y.imported) at.1 ∙ ap not here

    by : (b : Bool) → has (signatures is_shown c.methods) u ≡ b
        → is_of_package (Some (or_else (own is_shown u c) (or_else (got given u c) (implementing above u))))
        ≡ (b || (has (map signature_of given) u || n))
    by true f =
        let m = chosen-some is_shown u c.methods f in
        let at = own-some is_shown u c m.0 m.1 in
        ap (λ o. is_of_package (Some (or_else o (or_else (got given u c) (implementing above u))))) at.1 ∙ ap not here
    by false f =
        ap (λ o. is_of_package (Some (or_else o (or_else (got given u c) (implementing above u)))))
        (own-none is_shown u c (chosen-none is_shown u c.methods f))
        ∙ second (has (map signature_of given) u) refl

-- whether what stands at a place of a list of slots is declared by the package
abbrev holder : (Signature → Bool) → Option (Option Signature) → Bool
holder is_named None = false
holder is_named (Some None) = false
holder is_named (Some (Some u)) = is_named u

row-holder : (is_named : Signature → Bool) (implements : Signature → Option Found)
    → ((u : Signature) → is_of_package (Some (implements u)) ≡ is_named u) → (all : Slots) (t : ℕ)
    → is_of_package (slice_get (map (meant_by implements) all) t) ≡ holder is_named (slice_get all t)
row-holder is_named implements meant [] t = refl
row-holder is_named implements meant (None ∷ all) zero = refl
row-holder is_named implements meant (Some u ∷ all) zero = meant u
row-holder is_named implements meant (slot ∷ all) (suc t) = row-holder is_named implements meant all t

-- where a slot is of the package in one list, the other has it
holder-kept : (is_named : Signature → Bool) (o p : Option (Option Signature)) → ((u : Signature) → is_named u ≡ true
    → is_slot_of p u ≡ is_slot_of o u) → holder is_named o ≡ true → holder is_named p ≡ true
holder-kept is_named None p h e = absurd cc
holder-kept is_named (Some None) p h e = absurd cc
holder-kept is_named (Some (Some u)) p h e =
    let there = slot-is p u (h u e ∙ same-refl u) in
    ap (holder is_named) there ∙ e

-- a slot of the package's is of no other signature
holder-other : (is_named : Signature → Bool) (o : Option (Option Signature)) (u : Signature) → holder is_named o ≡ true
    → is_named u ≡ false → is_slot_of o u ≡ true → false ≡ true
holder-other is_named o u e n h =
    let at = slot-is o u h in
    sym n ∙ sym (ap (holder is_named) at) ∙ e

-- ---- one class more

module _ (Q : Signature → Type 0) (c : Class) (given : List Member) (old new : Line) (a : AreAlikeLines Q old new)
    (shown_known : (u : Signature) → has (signatures is_shown c.methods) u ≡ true → Q u)
    (given_known : (u : Signature) → has (map signature_of given) u ≡ true → Q u × (listed_token old u ≡ None)) where
  ss : List Signature
  ss = signatures is_shown c.methods

  gs : List Signature
  gs = map signature_of given

  rows : List (Option Found)
  rows = map (meant_by (implementing old)) (slots old)

  rows' : List (Option Found)
  rows' = map (meant_by (implementing new)) (slots new)

  told-same : (s : Signature) → has ss s ≡ true → listed_token new s ≡ listed_token old s
  unfolding ss
  told-same s h = a.told s (shown_known s h)

  held-old : (t : ℕ) → is_of_package (slice_get rows t) ≡ holder (names old) (slice_get (slots old) t)
  unfolding rows
  held-old t = row-holder (names old) (implementing old) a.meant (slots old) t

  held-new : (t : ℕ) → is_of_package (slice_get rows' t) ≡ holder (names old) (slice_get (slots new) t)
  unfolding rows'
  held-new t = row-holder (names old) (implementing new) a.meant_too (slots new) t

  held-same : (t : ℕ) → holder (names old) (slice_get (slots new) t) ≡ holder (names old) (slice_get (slots old) t)
  held-same t = both_ways (holder (names old) (slice_get (slots old) t)) (holder (names old) (slice_get (slots new) t))
      (holder-kept (names old) (slice_get (slots old) t) (slice_get (slots new) t) (λ u n. a.own u n t))
      (holder-kept (names old) (slice_get (slots new) t) (slice_get (slots old) t) (λ u n. sym (a.own u n t)))

  held : (t : ℕ) → is_of_package (slice_get rows' t) ≡ is_of_package (slice_get rows t)
  held t = held-new t ∙ held-same t ∙ sym (held-old t)

  taken : Slots
  taken = with_all_taken (listed_token old) rows ss (slots old)

  taken' : Slots
  taken' = with_all_taken (listed_token new) rows' ss (slots new)

  taken-count : length taken' ≡ length taken
  unfolding taken taken'
  taken-count = taken-length (listed_token new) rows' ss (slots new) ∙ a.count
      ∙ sym (taken-length (listed_token old) rows ss (slots old))

  -- what a class above declares
  taken-above : (u : Signature) → names old u ≡ true → AreAlike u taken taken'
  unfolding taken taken'
  taken-above u n t = taken-alike (listed_token old) (listed_token new) rows rows' held u t ss (slots old) (slots new)
      told-same a.count (a.own u n t)

  -- what the class declares and none above
  taken-here : (u : Signature) → has ss u ≡ true → names old u ≡ false → AreAlike u taken taken'
  unfolding taken taken' ss
  taken-here u h n t = by (is_of_package (slice_get rows t)) refl
    where
      known_here : Q u
      known_here = shown_known u h

      onwards : AreAlikeAt u t (slots old) (slots new) → AreAlikeAt u t taken taken'
      onwards e = taken-alike (listed_token old) (listed_token new) rows rows' held u t ss (slots old) (slots new)
          told-same a.count e

      free : is_of_package (slice_get rows t) ≡ false → listed_token old u ≡ Some t → AreAlikeAt u t taken taken'
      free f g = taken-at (listed_token old) (listed_token new) rows rows' held u t ss (slots old) (slots new) told-same
          h g f a.count

      by : (b : Bool) → is_of_package (slice_get rows t) ≡ b → AreAlikeAt u t taken taken'
      by true f =
          let o = sym (held-old t) ∙ f in
          let p = held-same t ∙ o in
          onwards (neither (is_slot_of (slice_get (slots old) t) u) (is_slot_of (slice_get (slots new) t) u)
          (holder-other (names old) (slice_get (slots old) t) u o n)
          (holder-other (names old) (slice_get (slots new) t) u p n))
      by false f = on (true_or_false (is_slot_of (slice_get (slots old) t) u)) (true_or_false (is_slot_of (slice_get
          (slots new) t) u))
        where
          on : (is_slot_of (slice_get (slots old) t) u ≡ true) ⊎ (is_slot_of (slice_get (slots old) t) u ≡ false)
              → (is_slot_of (slice_get (slots new) t) u ≡ true) ⊎ (is_slot_of (slice_get (slots new) t) u ≡ false)
              → AreAlikeAt u t taken taken'
          on (inl e) q = free f (a.only u known_here n t e)
          on (inr e) (inl g) = free f (a.only_too u known_here n t g)
          on (inr e) (inr g) = onwards (g ∙ sym e)

  -- what the class does not take stands where it stood
  not-taken : (u : Signature) → has ss u ≡ false → (t : ℕ) → is_slot_of (slice_get taken t) u ≡ true
      → is_slot_of (slice_get (slots old) t) u ≡ true
  unfolding taken
  not-taken u n t e = taken-only u (listed_token old) rows ss (slots old) t n e

  not-taken-too : (u : Signature) → has ss u ≡ false → (t : ℕ) → is_slot_of (slice_get taken' t) u ≡ true
      → is_slot_of (slice_get (slots new) t) u ≡ true
  unfolding taken'
  not-taken-too u n t e = taken-only u (listed_token new) rows' ss (slots new) t n e

  -- what the class gets
  taken-given : (u : Signature) → has gs u ≡ true → has ss u ≡ false → names old u ≡ false → AreAlike u taken taken'
  unfolding gs
  taken-given u h n m t =
      let k = given_known u h in
      neither (is_slot_of (slice_get taken t) u) (is_slot_of (slice_get taken' t) u)
      (λ e. let at = a.only u k.0 m t (not-taken u n t e) in absurd (let no = sym k.1 ∙ at in cc))
      (λ e. let at = a.only_too u k.0 m t (not-taken-too u n t e) in absurd (let no = sym k.1 ∙ at in cc))

  new_here : new_in taken' ss ≡ new_in taken ss
  new_here = new_in-alike taken taken' ss taken-count (λ u h. on u h (true_or_false (names old u)))
    where
      on : (u : Signature) → has ss u ≡ true → (names old u ≡ true) ⊎ (names old u ≡ false) → AreAlike u taken taken'
      on u h (inl n) = taken-above u n
      on u h (inr n) = taken-here u h n

  -- with the methods that the class declares
  more : Slots
  more = taken ++ map Some (new_in taken ss)

  more' : Slots
  more' = taken' ++ map Some (new_in taken' ss)

  more-is : taken' ++ map Some (new_in taken ss) ≡ more'
  unfolding more'
  more-is = ap (λ l. taken' ++ map Some l) (sym new_here)

  more-count : length more' ≡ length more
  unfolding more
  more-count = ap length (sym more-is) ∙ longer taken taken' (map Some (new_in taken ss)) taken-count

  more-alike : (u : Signature) → AreAlike u taken taken' → AreAlike u more more'
  unfolding more
  more-alike u h = subst (λ l. AreAlike u more l) more-is (alike-append u taken taken' (map Some (new_in taken ss))
      taken-count h)

  any-alike : (u : Signature) → (has ss u || (has gs u || names old u)) ≡ true → AreAlike u taken taken'
  any-alike u e = on (true_or_false (names old u)) (true_or_false (has ss u)) (true_or_false (has gs u))
    where
      none : (x y z : Bool) → x ≡ false → y ≡ false → z ≡ false → (x || (y || z)) ≡ true → false ≡ true
      none false false false p q r h = h
      none true y z p q r h = absurd cc
      none false true z p q r h = absurd cc
      none false false true p q r h = absurd cc

      on : (names old u ≡ true) ⊎ (names old u ≡ false) → (has ss u ≡ true) ⊎ (has ss u ≡ false)
          → (has gs u ≡ true) ⊎ (has gs u ≡ false) → AreAlike u taken taken'
      on (inl n) q r = taken-above u n
      on (inr n) (inl h) r = taken-here u h n
      on (inr n) (inr h) (inl g) = taken-given u g h n
      on (inr n) (inr h) (inr g) = absurd (let no = none (has ss u) (has gs u) (names old u) h g n e in cc)

  new_given : new_in more' gs ≡ new_in more gs
  new_given = new_in-alike more more' gs more-count (λ u h. more-alike u (any-alike u (or_right (has ss u) (has gs u
      || names old u) (ap (λ b. b || names old u) h))))

  -- with those that it gets
  all : Slots
  all = more ++ map Some (new_in more gs)

  all' : Slots
  all' = more' ++ map Some (new_in more' gs)

  all-is : more' ++ map Some (new_in more gs) ≡ all'
  unfolding all'
  all-is = ap (λ l. more' ++ map Some l) (sym new_given)

  all-count : length all' ≡ length all
  unfolding all
  all-count = ap length (sym all-is) ∙ longer more more' (map Some (new_in more gs)) more-count

  all-alike : (u : Signature) → (has ss u || (has gs u || names old u)) ≡ true → AreAlike u all all'
  unfolding all
  all-alike u e = subst (λ l. AreAlike u all l) all-is (alike-append u more more' (map Some (new_in more gs)) more-count
      (more-alike u (any-alike u e)))

  none_of : (x y z : Bool) → (x || (y || z)) ≡ false → (x ≡ false) × (y ≡ false) × (z ≡ false)
  none_of false false false e = (refl, refl, refl)
  none_of true y z e = absurd cc
  none_of false true z e = absurd cc
  none_of false false true e = absurd cc

  -- a slot of what neither the class nor one above has was there before
  old-slot : (front : Slots) (ts : List Signature) (u : Signature) (t : ℕ) → has ts u ≡ false
      → is_slot_of (slice_get (front ++ map Some (new_in front ts)) t) u ≡ true
      → is_slot_of (slice_get front t) u ≡ true
  old-slot front ts u t n e = ⊎_elim (λ h. ap (λ o. is_slot_of o u) h ∙ same-refl u)
      (λ h. clash (has ts u) (new-offered front ts u h) n)
      (at_either front (new_in front ts) t u (slot-is (slice_get (front ++ map Some (new_in front ts)) t) u e))

  old-only : (u : Signature) → (has ss u || (has gs u || names old u)) ≡ false → (t : ℕ)
      → is_slot_of (slice_get all t) u ≡ true → is_slot_of (slice_get (slots old) t) u ≡ true
  unfolding all more
  old-only u n t e =
      let k = none_of (has ss u) (has gs u) (names old u) n in
      not-taken u k.0 t (old-slot taken ss u t k.0 (old-slot more gs u t k.1 e))

  new-only : (u : Signature) → (has ss u || (has gs u || names old u)) ≡ false → (t : ℕ)
      → is_slot_of (slice_get all' t) u ≡ true → is_slot_of (slice_get (slots new) t) u ≡ true
  unfolding all' more'
  new-only u n t e =
      let k = none_of (has ss u) (has gs u) (names old u) n in
      not-taken-too u k.0 t (old-slot taken' ss u t k.0 (old-slot more' gs u t k.1 e))

  slots-is : slots (Declared c given old) ≡ all
  unfolding all more taken rows ss gs taken_slots
  slots-is = refl

  slots-is-too : slots (Declared c given new) ≡ all'
  unfolding all' more' taken' rows' ss gs taken_slots
  slots-is-too = refl

  with-class : c.is_imported ≡ false → AreAlikeLines Q (Declared c given old) (Declared c given new)
  unfolding ss gs
  with-class here = record {
    count = ap length slots-is-too ∙ all-count ∙ sym (ap length slots-is);
    told = a.told;
    known = λ u e. on u (true_or_false (has ss u)) (true_or_false (has gs u)) e;
    meant = λ u. declared_meant c given old (names old u) u here (a.meant u);
    meant_too = λ u. declared_meant c given new (names old u) u here (a.meant_too u);
    own = λ u e t. ap (λ l. is_slot_of (slice_get l t) u) slots-is-too ∙ all-alike u e t
        ∙ sym (ap (λ l. is_slot_of (slice_get l t) u) slots-is);
    only = λ u q n t e. a.only u q (none_of (has ss u) (has gs u) (names old u) n).2 t (old-only u n t
        (sym (ap (λ l. is_slot_of (slice_get l t) u) slots-is) ∙ e));
    only_too = λ u q n t e. a.only_too u q (none_of (has ss u) (has gs u) (names old u) n).2 t (new-only u n t
        (sym (ap (λ l. is_slot_of (slice_get l t) u) slots-is-too) ∙ e));
  }
    where
      third : (x y z : Bool) → x ≡ false → y ≡ false → (x || (y || z)) ≡ true → z ≡ true
      third false false z p q h = h
      third true y z p q h = absurd cc
      third false true z p q h = absurd cc

      on : (u : Signature) → (has ss u ≡ true) ⊎ (has ss u ≡ false) → (has gs u ≡ true) ⊎ (has gs u ≡ false)
          → (has ss u || (has gs u || names old u)) ≡ true → Q u
      on u (inl h) r e = shown_known u h
      on u (inr h) (inl g) e = (given_known u g).0
      on u (inr h) (inr g) e = a.known u (third (has ss u) (has gs u) (names old u) h g e)

-- ---- whole lines

pub lines-alike : (Q : Signature → Type 0) (old new : Line) → AreLines Q old new → AreAlikeLines Q old new
lines-alike Q _ _ nowhere = record {
  count = refl;
  told = λ u q. refl;
  known = λ u e. absurd cc;
  meant = λ u. refl;
  meant_too = λ u. refl;
  own = λ u e t. refl;
  only = λ u q n t e. absurd cc;
  only_too = λ u q n t e. absurd cc;
}
lines-alike Q _ _ (of_imports old new l) = record {
  count = l.count;
  told = l.told;
  known = λ u e. absurd cc;
  meant = λ u. no_package old u l.imported;
  meant_too = λ u. no_package new u l.imported_too;
  own = λ u e t. absurd cc;
  only = λ u q n t e. l.only u q t e;
  only_too = λ u q n t e. l.only_too u q t e;
}
lines-alike Q _ _ (of_class c given old new l here shown_known given_known) =
    with-class Q c given old new (lines-alike Q old new l) shown_known given_known here

pub hidden-alike : (Q : Signature → Type 0) (old new : Line) → AreLines Q old new → hidden_slots new ≡ hidden_slots old
hidden-alike Q _ _ nowhere = refl
hidden-alike Q _ _ (of_imports old new l) = refl
hidden-alike Q _ _ (of_class c given old new l here shown_known given_known) =
    ap (λ l. with_new l (signatures is_hidden c.methods)) (hidden-alike Q old new l)

-- What the package declares or gets has one token in both.
pub shown-alike : (Q : Signature → Type 0) (old new : Line) → AreLines Q old new → (u : Signature)
    → names old u ≡ true → shown_token new u ≡ shown_token old u
unfolding shown_token token_among
shown-alike Q old new l u n =
    ap (λ o. token_by (listed_token new u) (slots new) (row new) u o) (token-alike u (slots old) (slots new) a.count
    (a.own u n)) ∙ by (token (slots old) u) refl
  where
    a : AreAlikeLines Q old new
    a = lines-alike Q old new l

    here : listed_token new u ≡ listed_token old u
    here = a.told u (a.known u n)

    near : (o : Option ℕ) (t : ℕ) → nearer o (slots new) u t ≡ nearer o (slots old) u t
    near None t = refl
    near (Some k) t = ap (λ b. if b then k else t) (a.own u n k)

    held : (line : Line) → ((v : Signature) → is_of_package (Some (implementing line v)) ≡ names old v) → (t : ℕ)
        → slice_get (slots line) t ≡ Some (Some u) → is_of_package (slice_get (row line) t) ≡ true
    held line meant t e = row-holder (names old) (implementing line) meant (slots line) t
        ∙ ap (holder (names old)) e ∙ n

    by : (o : Option ℕ) → token (slots old) u ≡ o → token_by (listed_token new u) (slots new) (row new) u o
        ≡ token_by (listed_token old u) (slots old) (row old) u o
    by None e = here
    by (Some t) e =
        let at = token-slot (slots old) u t e in
        let at' = slot-is (slice_get (slots new) t) u (a.own u n t ∙ ap (λ o. is_slot_of o u) at ∙ same-refl u) in
        ap (λ b. if b then Some (nearer (listed_token new u) (slots new) u t) else listed_token new u)
        (held new a.meant_too t at')
        ∙ ap Some (near (listed_token new u) t ∙ ap (λ o. nearer o (slots old) u t) here)
        ∙ sym (ap (λ b. if b then Some (nearer (listed_token old u) (slots old) u t) else listed_token old u)
        (held old a.meant t at))
