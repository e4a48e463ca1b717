-- Dispatch by token is selection by name, along a line.
use Rattle.std.proofs.Common.{◌≡◌, ℕ, suc, ◌+◌, refl, sym, ap, subst, ◌∙◌, Bool, true, false, List, [], ◌∷◌, length}
use Rattle.std.specs.Prelude.{◌&&◌, Option, Some, None, if◌then◌else◌, slice_get, map, option_map, position, not}
use Rattle.cjc_world.specs.Classes.{Member, Class}
use Rattle.cjc_world.specs.Lookup.{is_called, is_selectable, first, or_else, member_at}
use Rattle.cjc_tokens.specs.Members.{Signature, signature_of, signatures, is_exposed, is_virtual, is_shown, is_hidden}
use Rattle.cjc_tokens.specs.Members.{all_methods, In, chosen}
use Rattle.cjc_tokens.specs.Lines.{Line, Nowhere, Imported, Declared}
use Rattle.cjc_tokens.specs.Slots.{has_slot, new_in, with_new, listed_slots, slots, hidden_slots, token, own, got}
use Rattle.cjc_tokens.specs.Slots.{implementing, implementing_hidden}
use Rattle.cjc_vtable.specs.Dispatch.{dispatched, dispatched_hidden}
use Rattle.cjc_vtable.specs.Calls.{is_special, selects, passes, selected_in, selects_shown, selects_hidden, IsOneToOne}
use Rattle.cjc_vtable.specs.Calls.{IsTold, IsProper, Climbs, here, up, over}
use Rattle.cjc_tokens.proofs.Facts.{same-true, position-cons, position-same, place, chosen-passes, chosen-In}
use Rattle.cjc_tokens.proofs.Facts.{chosen-some, has-chosen, own-none, own-some, got-none}
use Rattle.cjc_tokens.proofs.Held.{shown-virtual, has_slot-append, offered-has_slot, here-has_slot, In-slot}
use Rattle.cjc_tokens.proofs.Held.{token-slot, listed_slot}
use Rattle.cjc_vtable.proofs.Told.{told-slots}
use Rattle.cjc_vtable.proofs.Towers.{tower, dispatched-slot, dispatched-hidden_slot}
use Rattle.cjc_world.proofs.BytesGets.{in_front}

-- ---- virtual methods are selectable

pub virtual_selects : (m : Member) → is_virtual m ≡ true → selects m ≡ true
virtual_selects m e = by (is_selectable m.flags) (is_special (signature_of m)) e
  where
    by : (a b : Bool) → (a && not b) ≡ true → a ≡ true
    by true b e = refl
    by false b e = cc

pub shown_selects : (m : Member) → is_shown m ≡ true → selects m ≡ true
shown_selects m e = virtual_selects m (shown-virtual m e)

pub hidden-virtual : (m : Member) → is_hidden m ≡ true → is_virtual m ≡ true
hidden-virtual m e = by (is_exposed m.flags) (is_virtual m) e
  where
    by : (a b : Bool) → (not a && b) ≡ true → b ≡ true
    by true b e = cc
    by false b e = e

pub hidden_selects : (m : Member) → is_hidden m ≡ true → selects m ≡ true
hidden_selects m e = virtual_selects m (hidden-virtual m e)

pub virtual_plain : (m : Member) → is_virtual m ≡ true → is_special (signature_of m) ≡ false
virtual_plain m e = by (is_selectable m.flags) (is_special (signature_of m)) e
  where
    by : (a b : Bool) → (a && not b) ≡ true → b ≡ false
    by true true e = cc
    by true false e = refl
    by false b e = cc

-- ---- the first selectable method, where it is virtual, is the first virtual one
module _ (test : Member → Bool) (finer : (m : Member) → test m ≡ true → selects m ≡ true) where
  pub chosen-finer : (s : Signature) (ms : List Member) (m : Member) → chosen selects s ms ≡ Some m → test m ≡ true
      → chosen test s ms ≡ Some m
  chosen-finer s [] m e passing = cc
  chosen-finer s (n ∷ ms) m e passing = by (is_called s.name s.desc n) (selects n) (test n) refl refl e
      (chosen-finer s ms m)
    where
      by : (a b c : Bool) → selects n ≡ b → test n ≡ c → (if b && a then Some n else chosen selects s ms) ≡ Some m
          → (chosen selects s ms ≡ Some m → test m ≡ true → chosen test s ms ≡ Some m)
          → (if c && a then Some n else chosen test s ms) ≡ Some m
      by true true true f g e rest = e
      by true true false f g e rest = let is : n ≡ m = cc in let no = ap test is in cc
      by true false true f g e rest = let no = finer n g in cc
      by true false false f g e rest = rest e passing
      by false true true f g e rest = rest e passing
      by false true false f g e rest = rest e passing
      by false false true f g e rest = rest e passing
      by false false false f g e rest = rest e passing

  pub chosen-coarser : (s : Signature) (ms : List Member) → chosen selects s ms ≡ None → chosen test s ms ≡ None
  chosen-coarser s [] e = refl
  chosen-coarser s (n ∷ ms) e = by (is_called s.name s.desc n) (selects n) (test n) refl refl e (chosen-coarser s ms)
    where
      by : (a b c : Bool) → selects n ≡ b → test n ≡ c → (if b && a then Some n else chosen selects s ms) ≡ None
          → (chosen selects s ms ≡ None → chosen test s ms ≡ None) → (if c && a then Some n else chosen test s ms)
          ≡ None
      by true true c f g e rest = cc
      by true false true f g e rest = let no = finer n g in cc
      by true false false f g e rest = rest e
      by false true true f g e rest = rest e
      by false true false f g e rest = rest e
      by false false true f g e rest = rest e
      by false false false f g e rest = rest e

  place-finer : (s : Signature) (ms : List Member) (m : Member) → chosen selects s ms ≡ Some m → test m ≡ true
      → place test s ms ≡ place selects s ms
  place-finer s [] m e passing = refl
  place-finer s (n ∷ ms) m e passing =
      position-cons (λ k. test k && is_called s.name s.desc k) n ms
      ∙ by (is_called s.name s.desc n) (selects n) (test n) refl refl e (place-finer s ms m)
      ∙ sym (position-cons (λ k. selects k && is_called s.name s.desc k) n ms)
    where
      by : (a b c : Bool) → selects n ≡ b → test n ≡ c → (if b && a then Some n else chosen selects s ms) ≡ Some m
          → (chosen selects s ms ≡ Some m → test m ≡ true → place test s ms ≡ place selects s ms)
          → (if c && a then Some 0 else option_map suc (place test s ms)) ≡ (if b && a then Some 0
          else option_map suc (place selects s ms))
      by true true true f g e rest = refl
      by true true false f g e rest = let is : n ≡ m = cc in let no = ap test is in cc
      by true false true f g e rest = let no = finer n g in cc
      by true false false f g e rest = ap (option_map suc) (rest e passing)
      by false true true f g e rest = ap (option_map suc) (rest e passing)
      by false true false f g e rest = ap (option_map suc) (rest e passing)
      by false false true f g e rest = ap (option_map suc) (rest e passing)
      by false false false f g e rest = ap (option_map suc) (rest e passing)

  pub own-finer : (s : Signature) (c : Class) (m : Member) → chosen selects s c.methods ≡ Some m → test m ≡ true
      → own test s c ≡ own selects s c
  unfolding own
  own-finer s c m e passing = ap (option_map (λ i. member_at c (length c.fields + i))) (place-finer s c.methods m e
      passing)

-- of a name that is neither a constructor's nor an initialiser's
pub imported-same : (classes : List Class) (s : Signature) → is_special s ≡ false → first (own is_virtual s) classes
    ≡ first (own selects s) classes
unfolding first own
imported-same [] s plain = refl
imported-same (c ∷ classes) s plain =
    ap (λ o. or_else (option_map (λ k. member_at c (length c.fields + k)) o) (first (own is_virtual s) classes))
    (position-same (λ n. is_virtual n && is_called s.name s.desc n) (λ n. selects n && is_called s.name s.desc n)
    c.methods (λ n j. tests n))
    ∙ ap (λ o. or_else (option_map (λ k. member_at c (length c.fields + k)) (position (λ n. selects n
    && is_called s.name s.desc n) c.methods)) o) (imported-same classes s plain)
  where
    tests : (n : Member) → (is_virtual n && is_called s.name s.desc n) ≡ (selects n && is_called s.name s.desc n)
    tests n = by (is_called s.name s.desc n) refl (is_selectable n.flags) (is_special (signature_of n)) refl
      where
        by : (a : Bool) → is_called s.name s.desc n ≡ a → (b d : Bool) → is_special (signature_of n) ≡ d
            → ((b && not d) && a) ≡ (b && a)
        by a e false d f = refl
        by a e true false f = refl
        by false e true true f = refl
        by true e true true f = let no = sym (ap is_special (same-true (signature_of n) s e)) ∙ f in cc

-- ---- what selection gives has a slot

pub shown-has_slot : (line : Line) (s : Signature) → IsTold line → selects_shown line s ≡ true → has_slot (slots line) s
    ≡ true
shown-has_slot Nowhere s told e = cc
shown-has_slot (Imported classes) s told e =
    let f = chosen-some is_shown s (all_methods classes) e in
    let is = chosen-passes is_shown s (all_methods classes) f.0 f.1 in
    let i = chosen-In is_shown s (all_methods classes) f.0 f.1 in
    let r = In-slot (all_methods classes) f.0 i is.1 in
    here-has_slot (listed_slots (all_methods classes)) f.0.token s (r.4
    ∙ ap (λ q. Some (Some q)) ((told r.0 f.0 r.1 i (shown-virtual r.0 r.2) (shown-virtual f.0 is.1)).0 r.3 ∙ is.0))
shown-has_slot (Declared c given above) s told e =
    ap (λ q. has_slot q s) (told-slots c given above told)
    ∙ has_slot-append (with_new (slots above) (signatures is_shown c.methods))
    (map Some (new_in (with_new (slots above) (signatures is_shown c.methods)) (map signature_of given))) s
    (by (chosen selects s c.methods) refl e (λ h. shown-has_slot above s told h))
  where
    by : (o : Option Member) → chosen selects s c.methods ≡ o → passes is_shown o (selects_shown above s) ≡ true
        → (selects_shown above s ≡ true → has_slot (slots above) s ≡ true)
        → has_slot (with_new (slots above) (signatures is_shown c.methods)) s ≡ true
    by None f e rest = has_slot-append (slots above) (map Some (new_in (slots above) (signatures is_shown c.methods))) s
        (rest e)
    by (Some m) f e rest = offered-has_slot (slots above) (signatures is_shown c.methods) s (has-chosen is_shown s
        c.methods m (chosen-finer is_shown shown_selects s c.methods m f e))

pub selected-shown : (line : Line) (s : Signature) → IsTold line → IsProper line → selects_shown line s ≡ true
    → implementing line s ≡ selected_in line s
selected-shown Nowhere s told proper e = cc
selected-shown (Imported classes) s told proper e =
    let f = chosen-some is_shown s (all_methods classes) e in
    let is = chosen-passes is_shown s (all_methods classes) f.0 f.1 in
    imported-same classes s (ap is_special (sym is.0) ∙ virtual_plain f.0 (shown-virtual f.0 is.1))
selected-shown (Declared c given above) s told proper e = by (chosen selects s c.methods) refl e
    (λ h. selected-shown above s told proper.2 h)
  where
    by : (o : Option Member) → chosen selects s c.methods ≡ o → passes is_shown o (selects_shown above s) ≡ true
        → (selects_shown above s ≡ true → implementing above s ≡ selected_in above s)
        → or_else (own is_shown s c) (or_else (got given s c) (implementing above s)) ≡ or_else (own selects s c)
        (selected_in above s)
    by None f e rest =
        let none = own-none is_shown s c (chosen-coarser is_shown shown_selects s c.methods f) in
        let none_got = got-none given s c (proper.1 s (shown-has_slot above s told e)) in
        ap (λ q. or_else q (or_else (got given s c) (implementing above s))) none
        ∙ ap (λ q. or_else q (implementing above s)) none_got ∙ rest e ∙ ap (λ q. or_else q (selected_in above s))
        (sym (own-none selects s c f))
    by (Some m) f e rest =
        let one = own-finer is_shown shown_selects s c m f e in
        let some = own-some selects s c m f in
        ap (λ q. or_else q (or_else (got given s c) (implementing above s))) (one ∙ some.1)
        ∙ ap (λ q. or_else q (selected_in above s)) (sym some.1)

pub selected-hidden : (line : Line) (s : Signature) → selects_hidden line s ≡ true → implementing_hidden line s
    ≡ selected_in line s
selected-hidden Nowhere s e = cc
selected-hidden (Imported classes) s e = cc
selected-hidden (Declared c given above) s e = by (chosen selects s c.methods) refl e (λ h. selected-hidden above s h)
  where
    by : (o : Option Member) → chosen selects s c.methods ≡ o → passes is_hidden o (selects_hidden above s) ≡ true
        → (selects_hidden above s ≡ true → implementing_hidden above s ≡ selected_in above s)
        → or_else (own is_hidden s c) (implementing_hidden above s) ≡ or_else (own selects s c) (selected_in above s)
    by None f e rest = ap (λ q. or_else q (implementing_hidden above s)) (own-none is_hidden s c
        (chosen-coarser is_hidden hidden_selects s c.methods f)) ∙ rest e ∙ ap (λ q. or_else q (selected_in above s))
        (sym (own-none selects s c f))
    by (Some m) f e rest =
        let one = own-finer is_hidden hidden_selects s c m f e in
        let some = own-some selects s c m f in
        ap (λ q. or_else q (implementing_hidden above s)) (one ∙ some.1) ∙ ap (λ q. or_else q (selected_in above s))
        (sym some.1)

-- ---- slots stay below

-- what a super of an imported class lists has its slot in that class
listed_stays : (ms ns : List Member) → IsOneToOne ms → ((m : Member) → In m ns → In m ms) → (t : ℕ) (s : Signature)
    → slice_get (listed_slots ns) t ≡ Some (Some s) → slice_get (listed_slots ms) t ≡ Some (Some s)
listed_stays ms ns told sub t s e =
    let m = listed_slot ns t s e in
    let i = sub m.0 m.1 in
    let n = In-slot ms m.0 i m.2 in
    subst (λ q. slice_get (listed_slots ms) q ≡ Some (Some s)) m.3 (n.4
    ∙ ap (λ q. Some (Some q)) ((told n.0 m.0 n.1 i (shown-virtual n.0 n.2) (shown-virtual m.0 m.2)).0 n.3 ∙ m.4))

pub slot_stays : (line above : Line) (t : ℕ) (s : Signature) → IsTold line → Climbs line above
    → slice_get (slots above) t ≡ Some (Some s) → slice_get (slots line) t ≡ Some (Some s)
slot_stays line above t s told here e = e
slot_stays (Imported cs) (Imported ds) t s told (over sub) e = listed_stays (all_methods cs) (all_methods ds) told sub t
    s e
slot_stays (Declared c given line) above t s told (up climbs) e =
    subst (λ q. slice_get q t ≡ Some (Some s)) (sym (told-slots c given line told))
    (in_front (with_new (slots line) (signatures is_shown c.methods))
    (map Some (new_in (with_new (slots line) (signatures is_shown c.methods)) (map signature_of given))) t (Some s)
    (in_front (slots line) (map Some (new_in (slots line) (signatures is_shown c.methods))) t (Some s)
    (slot_stays line above t s told climbs e)))

pub hidden_slot_stays : (line above : Line) (t : ℕ) (slot : Option Signature) → Climbs line above
    → slice_get (hidden_slots above) t ≡ Some slot → slice_get (hidden_slots line) t ≡ Some slot
hidden_slot_stays line above t slot here e = e
hidden_slot_stays (Imported cs) (Imported ds) t slot (over sub) e = cc
hidden_slot_stays (Declared c given line) above t slot (up climbs) e =
    in_front (hidden_slots line) (map Some (new_in (hidden_slots line) (signatures is_hidden c.methods))) t slot
    (hidden_slot_stays line above t slot climbs e)

-- Dispatch by the token that a class gives a method does, in each class below it, what selection by name does.
pub agree_shown : (w : List Class) (line above : Line) (s : Signature) (t : ℕ) → IsTold line → IsProper line
    → Climbs line above → token (slots above) s ≡ Some t → selects_shown line s ≡ true → dispatched (tower w line) t
    ≡ selected_in line s
agree_shown w line above s t told proper climbs e given =
    dispatched-slot w line t s told proper (slot_stays line above t s told climbs (token-slot (slots above) s t e))
    ∙ selected-shown line s told proper given

pub agree_hidden : (w : List Class) (line above : Line) (s : Signature) (t : ℕ) → IsProper line → Climbs line above
    → token (hidden_slots above) s ≡ Some t → selects_hidden line s ≡ true → dispatched_hidden (tower w line) t
    ≡ selected_in line s
agree_hidden w line above s t proper climbs e given =
    dispatched-hidden_slot w line t s proper (hidden_slot_stays line above t (Some s) climbs
    (token-slot (hidden_slots above) s t e)) ∙ selected-hidden line s given
