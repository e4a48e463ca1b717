-- Each token of a class means the method of its slot, which has the name and the descriptor of the slot.
use Rattle.std.proofs.Common.{◌≡◌, ℕ, ◌+◌, ◌-◌, refl, sym, ap, subst, ◌∙◌, arith, Bool, true, false, List, [], ◌∷◌, ◌++◌, length, map, ⊎_elim, inl, inr}
use Rattle.std.specs.Prelude.{Option, Some, None, if◌then◌else◌, slice_get, option_map, option_and_then, position, nat_lt, ◌&&◌, ◌||◌, ◌⊎◌}
use Rattle.cjc_world.specs.declared.found.Found.{Found}
use Rattle.cjc_world.specs.Classes.{Member, Class, class_named, class_at}
use Rattle.cjc_world.specs.Kin.{Kin, kin, IsKin, ends, unknown_here, known_here, upwards}
use Rattle.cjc_world.specs.Lookup.{first, is_called, member_at, or_else}
use Rattle.cjc_world.specs.Added.{added}
use Rattle.cjc_tokens.specs.Members.{Signature, signature_of, same, has, signatures, is_shown, is_virtual, all_methods, In, first_of, later}
use Rattle.cjc_tokens.specs.Lines.{Line, Nowhere, Imported, Declared, line_in, line_of}
use Rattle.cjc_tokens.specs.Slots.{Slots, new_in, with_new, slots, hidden_slots, own, got, implementing, token}
use Rattle.cjc_tokens.proofs.Facts.{same-true, same-refl, has-own_none, has-got_none}
use Rattle.cjc_tokens.proofs.Held.{at_front, at_either, new-offered, listed_slot, shown-virtual, token-slot}
use Rattle.cjc_vtable.specs.Calls.{IsOneToOne, IsTold}
use Rattle.cjc_vtable.specs.Dispatch.{dispatched, dispatched_hidden, tower_of}
use Rattle.cjc_vtable.specs.Laws.{KeepsRules}
use Rattle.cjc_vtable.specs.Naming.{method_named, member_named, named}
use Rattle.cjc_vtable.proofs.Given.{In-split, proper-line}
use Rattle.cjc_vtable.proofs.Numbers.{Numbered}
use Rattle.cjc_vtable.proofs.SlotNames.{position-at, get-behind}
use Rattle.cjc_vtable.proofs.Towers.{dispatched-slot, dispatched-hidden_slot, hidden_there, tower}
use Rattle.cjc_vtable.proofs.Worlds.{tower-line}
use Rattle.cjc_slot_laws.specs.Meant.{AreNumbered, IsMeant, IsMeantHere}

-- ---- a method of a class has its name and descriptor

module _ (w : List Class) where
  placed-named : (c : Class) (i member : ℕ) (m : Member) → member ≡ length c.fields + i → slice_get (c.methods ++ added w c) i ≡ Some m → member_named w member c ≡ Some (signature_of m)
  placed-named c i member m at e =
      let past : nat_lt member (length c.fields) ≡ false = grind arith in
      let rest : member - length c.fields ≡ i = omega arith in
      ap (λ b. if b then None else method_named w c (member - length c.fields)) past
      ∙ ap (method_named w c) rest
      ∙ ap (option_map signature_of) e

  found-named : (c : Class) (i member : ℕ) (m : Member) (f : Found) → Numbered w c → member ≡ length c.fields + i → f ≡ member_at c member → slice_get (c.methods ++ added w c) i ≡ Some m → named w f ≡ Some (signature_of m)
  unfolding named
  found-named c i member m f there at is e =
      ap (λ (g : Found). option_and_then (member_named w g.member) (class_at w g.imported g.class)) is
      ∙ ap (option_and_then (member_named w member)) there
      ∙ placed-named c i member m at e

  own-named : (test : Member → Bool) (s : Signature) (c : Class) (f : Found) → Numbered w c → own test s c ≡ Some f → named w f ≡ Some s
  unfolding own
  own-named test s c f there e = by (position (λ m. test m && is_called s.name s.desc m) c.methods) refl e
    where
      second : (a b : Bool) → (a && b) ≡ true → b ≡ true
      second true b h = h
      second false b h = cc

      by : (o : Option ℕ) → position (λ m. test m && is_called s.name s.desc m) c.methods ≡ o → option_map (λ i. member_at c (length c.fields + i)) o ≡ Some f → named w f ≡ Some s
      by None g e = cc
      by (Some i) g e =
          let r = position-at (λ m. test m && is_called s.name s.desc m) c.methods i g in
          let is : member_at c (length c.fields + i) ≡ f = cc in
          found-named c i (length c.fields + i) r.0 f there refl (sym is) (at_front c.methods (added w c) i r.0 r.1)
          ∙ ap (λ q. Some q) (same-true (signature_of r.0) s (second (test r.0) (is_called s.name s.desc r.0) r.2))

  got-named : (s : Signature) (c : Class) (f : Found) → Numbered w c → got (added w c) s c ≡ Some f → named w f ≡ Some s
  unfolding got
  got-named s c f there e = by (position (λ m. is_called s.name s.desc m) (added w c)) refl e
    where
      by : (o : Option ℕ) → position (λ m. is_called s.name s.desc m) (added w c) ≡ o → option_map (λ i. member_at c (length c.fields + length c.methods + i)) o ≡ Some f → named w f ≡ Some s
      by None g e = cc
      by (Some i) g e =
          let r = position-at (λ m. is_called s.name s.desc m) (added w c) i g in
          let is : member_at c (length c.fields + length c.methods + i) ≡ f = cc in
          found-named c (length c.methods + i) (length c.fields + length c.methods + i) r.0 f there (omega arith) (sym is) (get-behind c.methods (added w c) i ∙ r.1)
          ∙ ap (λ q. Some q) (same-true (signature_of r.0) s r.2)

  -- ---- along a line whose classes are those of their numbers

  abbrev AreSeen : List Class → Type 0
  AreSeen [] = Unit {0}
  AreSeen (c ∷ cs) = Numbered w c × AreSeen cs

  abbrev IsSeen : Line → Type 0
  IsSeen Nowhere = Unit {0}
  IsSeen (Imported classes) = AreSeen classes
  IsSeen (Declared c given above) = Numbered w c × (given ≡ added w c) × IsSeen above

  first-named : (test : Member → Bool) (s : Signature) (classes : List Class) (f : Found) → AreSeen classes → first (own test s) classes ≡ Some f → named w f ≡ Some s
  unfolding first
  first-named test s [] f seen e = cc
  first-named test s (c ∷ classes) f seen e = by (own test s c) refl e (first-named test s classes f seen.1)
    where
      by : (o : Option Found) → own test s c ≡ o → or_else o (first (own test s) classes) ≡ Some f → (first (own test s) classes ≡ Some f → named w f ≡ Some s) → named w f ≡ Some s
      by None g e rest = rest e
      by (Some h) g e rest = own-named test s c f seen.0 (g ∙ e)

  implementing-named : (line : Line) (s : Signature) (f : Found) → IsSeen line → implementing line s ≡ Some f → named w f ≡ Some s
  implementing-named Nowhere s f seen e = cc
  implementing-named (Imported classes) s f seen e = first-named is_virtual s classes f seen e
  implementing-named (Declared c given above) s f seen e = by (own is_shown s c) refl (got given s c) refl e (implementing-named above s f seen.2)
    where
      by : (o : Option Found) → own is_shown s c ≡ o → (p : Option Found) → got given s c ≡ p → or_else o (or_else p (implementing above s)) ≡ Some f → (implementing above s ≡ Some f → named w f ≡ Some s) → named w f ≡ Some s
      by (Some g) h p k e rest = own-named is_shown s c f seen.0 (h ∙ e)
      by None h (Some g) k e rest = got-named s c f seen.0 (ap (λ q. got q s c) (sym seen.1) ∙ k ∙ e)
      by None h None k e rest = rest e

-- ---- each slot has a method

pub In-has : (test : Member → Bool) (ms : List Member) (m : Member) (s : Signature) → In m ms → test m ≡ true → signature_of m ≡ s → has (signatures test ms) s ≡ true
In-has test [] m s i e is = elim i [ ]
In-has test (n ∷ ms) m s first_of e is = ap (λ b. has (if b then signature_of n ∷ signatures test ms else signatures test ms) s) e ∙ ap (λ q. same q s || has (signatures test ms) s) is ∙ ap (λ b. b || has (signatures test ms) s) (same-refl s)
In-has test (n ∷ ms) m s (later i) e is = by (test n) (same (signature_of n) s) refl (In-has test ms m s i e is)
  where
    by : (b a : Bool) → same (signature_of n) s ≡ a → has (signatures test ms) s ≡ true → has (if b then signature_of n ∷ signatures test ms else signatures test ms) s ≡ true
    by true true f h = ap (λ q. q || has (signatures test ms) s) f
    by true false f h = ap (λ q. q || has (signatures test ms) s) f ∙ h
    by false a f h = h

first-there : (s : Signature) (classes : List Class) (m : Member) → In m (all_methods classes) → is_virtual m ≡ true → signature_of m ≡ s → first (own is_virtual s) classes ≡ None → ⊥
unfolding first
first-there s [] m i v is e = elim i [ ]
first-there s (c ∷ classes) m i v is e = by (own is_virtual s c) refl e (first-there s classes m)
  where
    by : (o : Option Found) → own is_virtual s c ≡ o → or_else o (first (own is_virtual s) classes) ≡ None → (In m (all_methods classes) → is_virtual m ≡ true → signature_of m ≡ s → first (own is_virtual s) classes ≡ None → ⊥) → ⊥
    by (Some g) h e rest = cc
    by None h e rest = ⊎_elim
        (λ j. let no = has-own_none is_virtual s c h in let yes' = In-has is_virtual c.methods m s j v is in cc)
        (λ j. rest j v is e)
        (In-split m c.methods (all_methods classes) i)

-- what stands in front, or one of those that were offered
split-slot : (front : Slots) (ss : List Signature) (t : ℕ) (s : Signature) → slice_get (with_new front ss) t ≡ Some (Some s) → (slice_get front t ≡ Some (Some s)) ⊎ (has ss s ≡ true)
split-slot front ss t s e = ⊎_elim (λ h. inl h) (λ h. inr (new-offered front ss s h)) (at_either front (new_in front ss) t s e)

slot-there : (line : Line) (t : ℕ) (s : Signature) → slice_get (slots line) t ≡ Some (Some s) → implementing line s ≡ None → ⊥
slot-there Nowhere t s e none = cc
slot-there (Imported classes) t s e none =
    let m = listed_slot (all_methods classes) t s e in
    first-there s classes m.0 m.1 (shown-virtual m.0 m.2) m.4 none
slot-there (Declared c given above) t s e none = by (own is_shown s c) refl (got given s c) refl none (slot-there above t s)
  where
    by : (o : Option Found) → own is_shown s c ≡ o → (p : Option Found) → got given s c ≡ p → or_else o (or_else p (implementing above s)) ≡ None → (slice_get (slots above) t ≡ Some (Some s) → implementing above s ≡ None → ⊥) → ⊥
    by (Some g) h p k none rest = cc
    by None h (Some g) k none rest = cc
    by None h None k none rest = ⊎_elim
        (λ front. ⊎_elim
        (λ there. rest there none)
        (λ offered. let no = has-own_none is_shown s c h in cc)
        (split-slot (slots above) (signatures is_shown c.methods) t s front))
        (λ offered. let no = has-got_none given s c k in cc)
        (split-slot (with_new (slots above) (signatures is_shown c.methods)) (map signature_of given) t s e)

-- ---- the line of a class of a world

module _ (w : List Class) (numbered_ones : (x : List ℕ) (d : Class) → class_named w x ≡ Some d → Numbered w d) where
  seen-append : (a b : List Class) → AreSeen w a → AreSeen w b → AreSeen w (a ++ b)
  seen-append [] b p q = q
  seen-append (c ∷ a) b p q = (p.0, seen-append a b p.1 q)

  seen-upwards : (xs : List (List ℕ)) (k : Kin) → IsKin w xs k → AreSeen w (upwards k)
  seen-upwards [] k ends = tt
  seen-upwards (x ∷ xs) k (unknown_here {next = r} e b) = seen-upwards xs r b
  seen-upwards (x ∷ xs) k (known_here {c = c} {supers = p} {interfaces = q} {next = r} e s t b) = (numbered_ones x c e, seen-append (upwards p) (upwards r) (seen-upwards c.supers p s) (seen-upwards xs r b))

  seen-line : (xs : List (List ℕ)) (k : Kin) → IsKin w xs k → IsSeen w (line_in w k)
  seen-line [] k ends = tt
  seen-line (x ∷ xs) k (unknown_here e b) = tt
  seen-line (x ∷ xs) k (known_here {c = c} {supers = p} {interfaces = q} {next = r} e s t b) = by c.is_imported (seen-line c.supers p s)
    where
      by : (f : Bool) → IsSeen w (line_in w p) → IsSeen w (if f then Imported (c ∷ upwards p) else Declared c (added w c) (line_in w p))
      by true above = (numbered_ones x c e, seen-upwards c.supers p s)
      by false above = (numbered_ones x c e, refl, above)

-- ---- tokens

module _ (w : List Class) (is_kin : (xs : List (List ℕ)) → IsKin w xs (kin w xs)) (one_kin : (xs : List (List ℕ)) (j k : Kin) → IsKin w xs j → IsKin w xs k → j ≡ k) (rules : KeepsRules w) where
  told-line : (xs : List (List ℕ)) (k : Kin) → IsKin w xs k → IsTold (line_in w k)
  told-line xs k ends = tt
  told-line xs k (unknown_here e a) = tt
  told-line (x ∷ xs) k (known_here {c = c} {supers = p} {interfaces = q} e s i a) = by c.is_imported refl (told-line c.supers p s)
    where
      by : (b : Bool) → c.is_imported ≡ b → IsTold (line_in w p) → IsTold (if b then Imported (c ∷ upwards p) else Declared c (added w c) (line_in w p))
      by true f rest = subst (λ j. IsOneToOne (c.methods ++ all_methods (upwards j))) (one_kin c.supers (kin w c.supers) p (is_kin c.supers) s) (rules.told x c e f)
      by false f rest = rest

  tower-is : (x : List ℕ) → tower_of w x ≡ tower w (line_of w x)
  tower-is x = tower-line w is_kin one_kin rules (x ∷ []) (kin w (x ∷ [])) (is_kin (x ∷ []))

  pub open_token : AreNumbered w → (x : List ℕ) (c : Class) → class_named w x ≡ Some c → (s : Signature) (t : ℕ) → token (slots (line_of w x)) s ≡ Some t → IsMeant w x s t
  open_token numbered x c known s t e = by (implementing (line_of w x) s) refl
    where
      slot : slice_get (slots (line_of w x)) t ≡ Some (Some s)
      slot = token-slot (slots (line_of w x)) s t e

      found : dispatched (tower_of w x) t ≡ implementing (line_of w x) s
      found =
          ap (λ q. dispatched q t) (tower-is x)
          ∙ dispatched-slot w (line_of w x) t s (told-line (x ∷ []) (kin w (x ∷ [])) (is_kin (x ∷ []))) (proper-line w is_kin one_kin (x ∷ []) (kin w (x ∷ [])) (is_kin (x ∷ []))) slot

      by : (o : Option Found) → implementing (line_of w x) s ≡ o → IsMeant w x s t
      by None f = absurd (slot-there (line_of w x) t s slot f)
      by (Some g) f = record {
        method = g;
        nearest = f;
        by_token = found ∙ f;
        name = implementing-named w (line_of w x) s g (seen-line w numbered (x ∷ []) (kin w (x ∷ [])) (is_kin (x ∷ []))) f;
      }

  pub package_token : (x : List ℕ) (c : Class) → class_named w x ≡ Some c → (s : Signature) (t : ℕ) → token (hidden_slots (line_of w x)) s ≡ Some t → IsMeantHere w x s t
  package_token x c known s t e =
      let slot = token-slot (hidden_slots (line_of w x)) s t e in
      let proper = proper-line w is_kin one_kin (x ∷ []) (kin w (x ∷ [])) (is_kin (x ∷ [])) in
      let r = hidden_there (line_of w x) t s proper slot in
      record {
        method = r.0;
        nearest = r.1;
        by_token = ap (λ q. dispatched_hidden q t) (tower-is x) ∙ dispatched-hidden_slot w (line_of w x) t s proper slot ∙ r.1;
        own = r.2;
      }
