-- The rows of a class from those of its superclass.
use Rattle.std.proofs.Common.{◌≡◌, ℕ, ◌+◌, refl, sym, ap, ◌∙◌, Bool, true, false, List, [], ◌∷◌, ◌++◌, length}
use Rattle.std.specs.Prelude.{◌||◌, map, Option, Some, None, option_map}
use Rattle.cjc_bytes.specs.declared.fault.MemberId.{MemberId}
use Rattle.cjc_bytes.proofs.Lists.{map_append}
use Rattle.cjc_world.specs.declared.found.Found.{Found}
use Rattle.cjc_world.specs.Classes.{Member, Class}
use Rattle.cjc_world.specs.Lookup.{or_else, is_called, member_at}
use Rattle.cjc_world.specs.Added.{named_by}
use Rattle.cjc_tokens.specs.declared.slot.Slot.{Slot}
use Rattle.cjc_tokens.specs.Members.{Signature, signature_of, same, has, signatures, is_shown, is_hidden}
use Rattle.cjc_tokens.specs.Lines.{Line, Declared}
use Rattle.cjc_tokens.specs.Slots.{new_in, with_new, slots, hidden_slots, own, got, implementing}
use Rattle.cjc_tokens.specs.Slots.{implementing_hidden, listed_token, meant_by, taken_slots, with_all_taken}
use Rattle.cjc_tokens.specs.Working.{Offered, Renewed, Taken, member_of, methods_in, nearest_slot, signature_in, signs}
use Rattle.cjc_tokens.proofs.Facts.{same-refl, chosen-none, chosen-some, own-none, own-some, has-got_none}
use Rattle.cjc_tokens.proofs.Held.{new-offered, new-fresh, offered-has_slot}
use Rattle.cjc_world.proofs.Places.{position_of_map}

-- ---- the superclass's slots, each with the nearest method

module _ (find : Signature → Option Found → Option Found) where
  found_in : Option Slot → Option Found
  found_in None = None
  found_in (Some s) = find (signature_in s) s.method

  refound : (J : Signature → Option Found) (above : List (Option Slot))
      → methods_in above ≡ map (meant_by J) (signs above) → map found_in above ≡ map (meant_by (λ s. find s (J s)))
      (signs above)
  unfolding found_in
  refound J [] e = refl
  refound J (None ∷ above) e = ap (λ q. None ∷ q) (refound J above (tail e))
    where
      tail : {x y : Option Found} {xs ys : List (Option Found)} → (x ∷ xs) ≡ (y ∷ ys) → xs ≡ ys
      tail e = cc
  refound J (Some s ∷ above) e =
      ap (λ q. find (signature_in s) q ∷ map found_in above) (head e)
      ∙ ap (λ q. find (signature_in s) (J (signature_in s)) ∷ q) (refound J above (tail e))
    where
      head : {x y : Option Found} {xs ys : List (Option Found)} → (x ∷ xs) ≡ (y ∷ ys) → x ≡ y
      head e = cc

      tail : {x y : Option Found} {xs ys : List (Option Found)} → (x ∷ xs) ≡ (y ∷ ys) → xs ≡ ys
      tail e = cc

-- ---- what is new means the method that it was put with

new_meant : (method I : Signature → Option Found) (ss : List Signature) → ((s : Signature) → has ss s ≡ true
    → method s ≡ I s) → map method ss ≡ map (meant_by I) (map Some ss)
new_meant method I [] h = refl
new_meant method I (s ∷ ss) h =
    ap (λ q. q ∷ map method ss) (h s (ap (λ b. b || has ss s) (same-refl s)))
    ∙ ap (λ q. I s ∷ q) (new_meant method I ss (λ u e. h u (or_right (same s u) (has ss u) e)))
  where
    or_right : (a b : Bool) → b ≡ true → (a || b) ≡ true
    or_right true b e = refl
    or_right false b e = e

-- ---- the methods that a class declares or got

pub declared-found : (test : Member → Bool) (s : Signature) (c : Class) → has (signatures test c.methods) s ≡ true
    → (f : Found) × (own test s c ≡ Some f)
declared-found test s c e = let m = chosen-some test s c.methods e in let r = own-some test s c m.0 m.1
    in (member_at c r.0, r.1)

given-found : (given : List Member) (s : Signature) (c : Class) → has (map signature_of given) s ≡ true → (f : Found)
    × (got given s c ≡ Some f)
given-found given s c e = by (got given s c) refl
  where
    by : (o : Option Found) → got given s c ≡ o → (f : Found) × (got given s c ≡ Some f)
    by None f = let no = has-got_none given s c f in cc
    by (Some g) f = (g, f)

-- ids of the given methods find the same
pub got-ids : (x : List ℕ) (given : List Member) (s : Signature) (c : Class)
    → got (map member_of (map (named_by x) given)) s c ≡ got given s c
unfolding got
got-ids x given s c = ap (option_map (λ i. member_at c (length c.fields + length c.methods + i)))
    (position_of_map (λ m. is_called s.name s.desc m) member_of (map (named_by x) given)
    ∙ position_of_map (λ m. is_called s.name s.desc (member_of m)) (named_by x) given)

pub signatures-ids : (x : List ℕ) (given : List Member) → map signature_of (map member_of (map (named_by x) given))
    ≡ map signature_of given
signatures-ids x [] = refl
signatures-ids x (m ∷ given) = ap (λ q. signature_of m ∷ q) (signatures-ids x given)

-- ---- the public row

pub shown-step : (c : Class) (given : List Member) (line : Line) (above one taken two three : List (Option Slot))
    → signs above ≡ slots line → methods_in above ≡ map (meant_by (implementing line)) (slots line)
    → Renewed c given false above one
    → Taken (listed_token line) (methods_in above) (signatures is_shown c.methods)
    (implementing (Declared c given line))
    one taken
    → Offered (signatures is_shown c.methods) (λ s. own is_shown s c) taken two
    → Offered (map signature_of given) (λ s. got given s c) two three
    → (signs three ≡ slots (Declared c given line))
    × (methods_in three ≡ map (meant_by (implementing (Declared c given line))) (slots (Declared c given line)))
unfolding found_in taken_slots
shown-step c given line above one taken two three above_slots above_methods r t o p = (slots_are, methods_are)
  where
    I : Signature → Option Found
    I s = or_else (own is_shown s c) (or_else (got given s c) (implementing line s))

    taken_are : signs taken ≡ taken_slots c line (slots line)
    taken_are =
        t.slots
        ∙ ap (λ q. with_all_taken (listed_token line) q (signatures is_shown c.methods) (signs one)) above_methods
        ∙ ap (with_all_taken (listed_token line) (map (meant_by (implementing line)) (slots line))
        (signatures is_shown c.methods)) (r.slots ∙ above_slots)

    two_slots : signs two ≡ with_new (taken_slots c line (slots line)) (signatures is_shown c.methods)
    two_slots = o.slots ∙ ap (λ q. with_new q (signatures is_shown c.methods)) taken_are

    slots_are : signs three ≡ slots (Declared c given line)
    slots_are = p.slots ∙ ap (λ q. with_new q (map signature_of given)) two_slots

    renewed_part : methods_in one
        ≡ map (meant_by (λ s. or_else (own is_shown s c) (or_else (got given s c) (implementing line s)))) (signs one)
    renewed_part =
        r.methods
        ∙ nearest_is above
        ∙ refound (λ s o. or_else (own is_shown s c) (or_else (got given s c) o)) (implementing line) above
        (above_methods ∙ ap (map (meant_by (implementing line))) (sym above_slots))
        ∙ ap (map (meant_by (λ s. or_else (own is_shown s c) (or_else (got given s c) (implementing line s)))))
        (sym r.slots)
      where
        nearest_is : (xs : List (Option Slot)) → map (nearest_slot c given false) xs
            ≡ map (found_in (λ s o. or_else (own is_shown s c) (or_else (got given s c) o))) xs
        nearest_is [] = refl
        nearest_is (None ∷ xs) = ap (λ q. None ∷ q) (nearest_is xs)
        nearest_is (Some s ∷ xs) =
            ap (λ q. or_else (own is_shown (signature_in s) c) (or_else (got given (signature_in s) c) s.method)
            ∷ q) (nearest_is xs)

    first_part : methods_in taken
        ≡ map (meant_by (λ s. or_else (own is_shown s c) (or_else (got given s c) (implementing line s))))
        (taken_slots c line (slots line))
    first_part = t.methods renewed_part
        ∙ ap (map (meant_by (λ s. or_else (own is_shown s c) (or_else (got given s c) (implementing line s)))))
        taken_are

    second_part : map (λ s. own is_shown s c) (new_in (signs taken) (signatures is_shown c.methods))
        ≡ map (meant_by (λ s. or_else (own is_shown s c) (or_else (got given s c) (implementing line s))))
        (map Some (new_in (taken_slots c line (slots line)) (signatures is_shown c.methods)))
    second_part =
        ap (λ q. map (λ s. own is_shown s c) (new_in q (signatures is_shown c.methods))) taken_are
        ∙ new_meant (λ s. own is_shown s c) (λ s. or_else (own is_shown s c) (or_else (got given s c)
        (implementing line s))) (new_in (taken_slots c line (slots line)) (signatures is_shown c.methods)) (λ s h.
        let f = declared-found is_shown s c (new-offered (taken_slots c line (slots line))
        (signatures is_shown c.methods) s h) in
        f.1 ∙ ap (λ q. or_else q (or_else (got given s c) (implementing line s))) (sym f.1))

    third_part : map (λ s. got given s c) (new_in (signs two) (map signature_of given))
        ≡ map (meant_by (λ s. or_else (own is_shown s c) (or_else (got given s c) (implementing line s))))
        (map Some (new_in (with_new (taken_slots c line (slots line)) (signatures is_shown c.methods))
        (map signature_of given)))
    third_part =
        ap (λ q. map (λ s. got given s c) (new_in q (map signature_of given))) two_slots
        ∙ new_meant (λ s. got given s c) (λ s. or_else (own is_shown s c) (or_else (got given s c)
        (implementing line s))) (new_in (with_new (taken_slots c line (slots line)) (signatures is_shown c.methods))
        (map signature_of given)) (λ s h.
        let f = given-found given s c (new-offered (with_new (taken_slots c line (slots line))
        (signatures is_shown c.methods))
        (map signature_of given) s h) in
        let none = own-none is_shown s c (chosen-none is_shown s c.methods
        (undeclared s h (has (signatures is_shown c.methods) s) refl)) in
        f.1 ∙ ap (λ q. or_else q (implementing line s)) (sym f.1)
        ∙ ap (λ q. or_else q (or_else (got given s c) (implementing line s))) (sym none))
      where
        undeclared : (s : Signature) → has (new_in (with_new (taken_slots c line (slots line))
            (signatures is_shown c.methods))
            (map signature_of given)) s ≡ true → (b : Bool) → has (signatures is_shown c.methods) s ≡ b
            → has (signatures is_shown c.methods) s ≡ false
        undeclared s h false e = e
        undeclared s h true e =
            let no = new-fresh (with_new (taken_slots c line (slots line)) (signatures is_shown c.methods))
            (map signature_of given) s
            (offered-has_slot (taken_slots c line (slots line)) (signatures is_shown c.methods) s e) in
            cc

    methods_are : methods_in three ≡ map (meant_by (implementing (Declared c given line)))
        (slots (Declared c given line))
    methods_are =
        p.methods
        ∙ ap (λ q. q ++ map (λ s. got given s c) (new_in (signs two) (map signature_of given))) (o.methods
        ∙ ap (λ q. q ++ map (λ s. own is_shown s c) (new_in (signs taken) (signatures is_shown c.methods)))
        first_part)
        ∙ ap (λ q. map (meant_by (implementing (Declared c given line))) (taken_slots c line (slots line)) ++ q
        ++ map (λ s. got given s c) (new_in (signs two) (map signature_of given))) second_part
        ∙ ap (λ q. map (meant_by (implementing (Declared c given line))) (taken_slots c line (slots line))
        ++ map (meant_by (implementing (Declared c given line)))
        (map Some (new_in (taken_slots c line (slots line)) (signatures is_shown c.methods))) ++ q) third_part
        ∙ ap (λ q. q ++ map (meant_by (implementing (Declared c given line)))
        (map Some (new_in (with_new (taken_slots c line (slots line)) (signatures is_shown c.methods))
        (map signature_of given))))
        (sym (map_append (meant_by (implementing (Declared c given line))) (taken_slots c line (slots line))
        (map Some (new_in (taken_slots c line (slots line)) (signatures is_shown c.methods)))))
        ∙ sym (map_append (meant_by (implementing (Declared c given line))) (with_new (taken_slots c line (slots line))
        (signatures is_shown c.methods)) (map Some (new_in (with_new (taken_slots c line (slots line))
        (signatures is_shown c.methods))
        (map signature_of given))))

-- ---- the package-visible row

pub hidden-step : (c : Class) (given : List Member) (line : Line) (above one two : List (Option Slot))
    → signs above ≡ hidden_slots line → methods_in above ≡ map (meant_by (implementing_hidden line)) (hidden_slots line)
    → Renewed c given true above one
    → Offered (signatures is_hidden c.methods) (λ s. own is_hidden s c) one two
    → (signs two ≡ hidden_slots (Declared c given line))
    × (methods_in two ≡ map (meant_by (implementing_hidden (Declared c given line)))
    (hidden_slots (Declared c given line)))
unfolding found_in
hidden-step c given line above one two above_slots above_methods r o =
    (o.slots ∙ ap (λ q. with_new q (signatures is_hidden c.methods)) (r.slots ∙ above_slots), methods_are)
  where
    first_part : methods_in one ≡ map (meant_by (λ s. or_else (own is_hidden s c) (implementing_hidden line s)))
        (hidden_slots line)
    first_part =
        r.methods
        ∙ nearest_is above
        ∙ refound (λ s o. or_else (own is_hidden s c) o) (implementing_hidden line) above (above_methods
        ∙ ap (map (meant_by (implementing_hidden line))) (sym above_slots))
        ∙ ap (map (meant_by (λ s. or_else (own is_hidden s c) (implementing_hidden line s)))) above_slots
      where
        nearest_is : (xs : List (Option Slot)) → map (nearest_slot c given true) xs
            ≡ map (found_in (λ s o. or_else (own is_hidden s c) o)) xs
        nearest_is [] = refl
        nearest_is (None ∷ xs) = ap (λ q. None ∷ q) (nearest_is xs)
        nearest_is (Some s ∷ xs) = ap (λ q. or_else (own is_hidden (signature_in s) c) s.method ∷ q) (nearest_is xs)

    second_part : map (λ s. own is_hidden s c) (new_in (signs one) (signatures is_hidden c.methods))
        ≡ map (meant_by (λ s. or_else (own is_hidden s c) (implementing_hidden line s)))
        (map Some (new_in (hidden_slots line) (signatures is_hidden c.methods)))
    second_part =
        ap (λ q. map (λ s. own is_hidden s c) (new_in q (signatures is_hidden c.methods))) (r.slots ∙ above_slots)
        ∙ new_meant (λ s. own is_hidden s c) (λ s. or_else (own is_hidden s c) (implementing_hidden line s))
        (new_in (hidden_slots line) (signatures is_hidden c.methods)) (λ s h.
        let f = declared-found is_hidden s c (new-offered (hidden_slots line) (signatures is_hidden c.methods) s h) in
        f.1 ∙ ap (λ q. or_else q (implementing_hidden line s)) (sym f.1))

    methods_are : methods_in two ≡ map (meant_by (implementing_hidden (Declared c given line)))
        (hidden_slots (Declared c given line))
    methods_are =
        o.methods
        ∙ ap (λ q. q ++ map (λ s. own is_hidden s c) (new_in (signs one) (signatures is_hidden c.methods))) first_part
        ∙ ap (λ q. map (meant_by (implementing_hidden (Declared c given line))) (hidden_slots line) ++ q) second_part
        ∙ sym (map_append (meant_by (implementing_hidden (Declared c given line))) (hidden_slots line)
        (map Some (new_in (hidden_slots line) (signatures is_hidden c.methods))))

-- ---- the added methods by name

pub map_same : {A B : Type 0} (f g : A → B) (xs : List A) → ((x : A) → f x ≡ g x) → map f xs ≡ map g xs
map_same f g [] h = refl
map_same f g (x ∷ xs) h = ap (λ q. q ∷ map f xs) (h x) ∙ ap (λ q. g x ∷ q) (map_same f g xs h)

pub renewed-ids : (x : List ℕ) (given : List Member) (ids : List MemberId) (c : Class) (hidden : Bool)
    (above row : List (Option Slot)) → ids ≡ map (named_by x) given → Renewed c (map member_of ids) hidden above row
    → Renewed c given hidden above row
renewed-ids x given ids c hidden above row e r = record {
  slots = r.slots;
  methods = r.methods ∙ ap (λ q. map (nearest_slot c (map member_of q) hidden) above) e
      ∙ map_same (nearest_slot c (map member_of (map (named_by x) given)) hidden) (nearest_slot c given hidden) above
      (λ o. by hidden o);
}
  where
    by : (h : Bool) (o : Option Slot) → nearest_slot c (map member_of (map (named_by x) given)) h o
        ≡ nearest_slot c given h o
    by h None = refl
    by true (Some s) = refl
    by false (Some s) = ap (λ q. or_else (own is_shown (signature_in s) c) (or_else q s.method))
        (got-ids x given (signature_in s) c)

pub offered-ids : (x : List ℕ) (given : List Member) (ids : List MemberId) (c : Class) (old new : List (Option Slot))
    → ids ≡ map (named_by x) given → Offered (map signature_of (map member_of ids)) (λ s. got (map member_of ids) s c)
    old new → Offered (map signature_of given) (λ s. got given s c) old new
offered-ids x given ids c old new e o = record {
  slots = o.slots ∙ ap (λ q. with_new (signs old) (map signature_of (map member_of q))) e
      ∙ ap (with_new (signs old)) (signatures-ids x given);
  methods =
      o.methods
      ∙ ap (λ q. methods_in old ++ map (λ s. got (map member_of q) s c)
      (new_in (signs old) (map signature_of (map member_of q)))) e
      ∙ ap (λ q. methods_in old ++ map (λ s. got (map member_of (map (named_by x) given)) s c) (new_in (signs old) q))
      (signatures-ids x given)
      ∙ ap (λ q. methods_in old ++ q) (map_same (λ s. got (map member_of (map (named_by x) given)) s c)
      (λ s. got given s c) (new_in (signs old) (map signature_of given)) (λ s. got-ids x given s c));
}
