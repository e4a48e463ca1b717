-- A package-visible method of an imported class: no class of the package stands in its way, by name or by token.
use Rattle.std.proofs.Common.{◌≡◌, ℕ, zero, suc, ◌-◌, ◌≤◌, refl, sym, ap, subst, ◌∙◌, arith, Bool, true, false, List}
use Rattle.std.proofs.Common.{[], ◌∷◌}
use Rattle.std.specs.Prelude.{◌&&◌, ◌||◌, Option, Some, None, if◌then◌else◌, slice_get, map, option_map, ◌==◌, nat_lt}
use Rattle.std.specs.Prelude.{not}
use Rattle.std.proofs.lemmas.Bool.{eqb-true, eqb-false}
use Rattle.std.proofs.lemmas.Bool.Decides.{nat_tests}
use Rattle.std.proofs.lemmas.Option.{slice_get-map}
use Rattle.cjc_world.specs.Classes.{Member, Class}
use Rattle.cjc_world.specs.Bytes.AccessFlags.{is_private, is_static}
use Rattle.cjc_world.proofs.BytesGets.{in_front}
use Rattle.cjc_world.specs.Lookup.{or_else, first, is_selectable}
use Rattle.cjc_tokens.specs.Members.{Signature, signature_of, signatures, is_exposed, is_virtual, is_shown, is_hidden}
use Rattle.cjc_tokens.specs.Members.{all_methods, In, chosen, first_of, later}
use Rattle.cjc_tokens.specs.Lines.{Line, Imported, Declared}
use Rattle.cjc_tokens.specs.Slots.{Slots, has_slot, new_in, with_new, put, reserve, listed_slots, slots, own, got}
use Rattle.cjc_tokens.specs.Slots.{implementing, meant_by, row}
use Rattle.cjc_vtable.specs.Tables.{base, entries, of_package}
use Rattle.cjc_vtable.specs.Dispatch.{held, dispatched, own_by_token}
use Rattle.cjc_vtable.specs.Calls.{is_special, selects, selected_in, IsOneToOne, IsTold, IsProper, methods_of_line}
use Rattle.cjc_vtable.specs.Calls.{imported_methods, KeepsAccess, KeepsImported, Climbs, here, up, over}
use Rattle.cjc_tokens.proofs.Facts.{chosen-passes, chosen-In, own-none, got-none}
use Rattle.cjc_tokens.proofs.Held.{has_slot-append, here-has_slot, shown-virtual, listed_slot, put-same_at}
use Rattle.cjc_tokens.proofs.Held.{put-still, reserve-still}
use Rattle.cjc_vtable.proofs.Told.{told-slots}
use Rattle.cjc_vtable.proofs.Towers.{tower, entry_at, by_token, dispatched-slot}
use Rattle.cjc_vtable.proofs.Agrees.{chosen-coarser, shown_selects, hidden-virtual, virtual_plain, imported-same}
use Rattle.cjc_vtable.proofs.Calls.{In-behind}

-- no class of the package on the way has a selectable method of the signature
data Passes (s : Signature) : Line → List Class → Type 0 where
  arrived : {cs : List Class} → Passes s (Imported cs) cs
  past : {c : Class} {given : List Member} {l : Line} {cs : List Class} → chosen selects s c.methods ≡ None
      → Passes s l cs → Passes s (Declared c given l) cs

selected-passes : (s : Signature) (line : Line) (cs : List Class) → Passes s line cs
    → selected_in line s ≡ first (own selects s) cs
selected-passes s line cs arrived = refl
selected-passes s (Declared c given l) cs (past none p) = ap (λ q. or_else q (selected_in l s))
    (own-none selects s c none) ∙ selected-passes s l cs p

implementing-passes : (s : Signature) (line : Line) (cs : List Class) → IsTold line → IsProper line
    → Passes s line cs → has_slot (listed_slots (all_methods cs)) s ≡ true → (has_slot (slots line) s ≡ true)
    × (implementing line s ≡ first (own is_virtual s) cs)
implementing-passes s line cs told proper arrived h = (h, refl)
implementing-passes s (Declared c given l) cs told proper (past none p) h =
    let r = implementing-passes s l cs told proper.2 p h in
    let own_one = has_slot-append (slots l) (map Some (new_in (slots l) (signatures is_shown c.methods))) s r.0 in (
      ap (λ q. has_slot q s) (told-slots c given l told)
          ∙ has_slot-append (with_new (slots l) (signatures is_shown c.methods))
          (map Some (new_in (with_new (slots l) (signatures is_shown c.methods)) (map signature_of given))) s own_one,
      ap (λ q. or_else q (or_else (got given s c) (implementing l s))) (own-none is_shown s c (chosen-coarser is_shown
          shown_selects s c.methods none))
          ∙ ap (λ q. or_else q (implementing l s)) (got-none given s c (proper.1 s r.0)) ∙ r.1,
    )

slot-passes : (s : Signature) (line : Line) (cs : List Class) (t : ℕ) (slot : Option Signature) → IsTold line
    → Passes s line cs → slice_get (listed_slots (all_methods cs)) t ≡ Some slot → slice_get (slots line) t ≡ Some slot
slot-passes s line cs t slot told arrived h = h
slot-passes s (Declared c given l) cs t slot told (past none p) h =
    subst (λ q. slice_get q t ≡ Some slot) (sym (told-slots c given l told))
    (in_front (with_new (slots l) (signatures is_shown c.methods))
    (map Some (new_in (with_new (slots l) (signatures is_shown c.methods)) (map signature_of given))) t slot
    (in_front (slots l) (map Some (new_in (slots l) (signatures is_shown c.methods))) t slot (slot-passes s l cs t slot
    told p h)))

-- a token that is nobody's goes on to the imported class
none-passes : (w : List Class) (s : Signature) (line : Line) (cs : List Class) (t : ℕ) → IsTold line
    → Passes s line cs → slice_get (listed_slots (all_methods cs)) t ≡ Some None → dispatched (tower w line) t ≡ first
    (own_by_token t) cs
none-passes w s line cs t told arrived h = refl
none-passes w s (Declared c given l) cs t told (past none p) h =
    nobody (slot-passes s (Declared c given l) cs t None told (past none p) h)
    (nat_lt t (base c.number (row (Declared c given l)))) refl ∙ none-passes w s l cs t told p h
  where
    nobody : slice_get (slots (Declared c given l)) t ≡ Some None → (b : Bool)
        → nat_lt t (base c.number (row (Declared c given l))) ≡ b
        → (if b then dispatched (tower w l) t else held (slice_get (entries c.number (row (Declared c given l)))
        (t - base c.number (row (Declared c given l)))) (dispatched (tower w l) t)) ≡ dispatched (tower w l) t
    nobody at true f = refl
    nobody at false f =
        let le : base c.number (row (Declared c given l)) ≤ t = grind (arith, nat_tests) in
        let here_none = slice_get-map (meant_by (implementing (Declared c given l))) (slots (Declared c given l)) t
        ∙ ap (option_map (meant_by (implementing (Declared c given l)))) at in
        ap (λ q. held q (dispatched (tower w l) t)) (entry_at of_package (row (Declared c given l))
        (base c.number (row (Declared c given l))) t (t - base c.number (row (Declared c given l))) None
        (omega arith) here_none)

-- the token of a virtual method is used
pub In-used : (ms : List Member) (m : Member) → In m ms → is_virtual m ≡ true → (o : Option Signature)
    × (slice_get (listed_slots ms) m.token ≡ Some o)
In-used [] m i e = elim i [ ]
In-used (n ∷ ms) m first_of e = by (is_shown n) (is_virtual n) e
  where
    reserved : (t : ℕ) (all : Slots) → (o : Option Signature) × (slice_get (reserve t all) t ≡ Some o)
    reserved zero [] = (None, refl)
    reserved zero (slot ∷ all) = (slot, refl)
    reserved (suc t) [] = reserved t []
    reserved (suc t) (slot ∷ all) = reserved t all

    by : (b v : Bool) → v ≡ true → (o : Option Signature)
        × (slice_get (if b then put n.token (signature_of n) (listed_slots ms) else if v
        then reserve n.token (listed_slots ms) else listed_slots ms) n.token ≡ Some o)
    by true v f = (Some (signature_of n), put-same_at n.token n.token (signature_of n) (listed_slots ms) refl)
    by false true f = reserved n.token (listed_slots ms)
    by false false f = cc
In-used (n ∷ ms) m (later i) e = by (is_shown n) (is_virtual n) (n.token == m.token) refl (In-used ms m i e)
  where
    by : (b v a : Bool) → (n.token == m.token) ≡ a → (o : Option Signature) × (slice_get (listed_slots ms) m.token
        ≡ Some o) → (o : Option Signature) × (slice_get (if b then put n.token (signature_of n) (listed_slots ms)
        else if v then reserve n.token (listed_slots ms) else listed_slots ms) m.token ≡ Some o)
    by true v true g r = (
      Some (signature_of n),
      put-same_at n.token m.token (signature_of n) (listed_slots ms)
          (eqb-true n.token m.token g),
    )
    by true v false g r = (
      r.0,
      put-still n.token m.token (signature_of n) (listed_slots ms) r.0
          (eqb-false n.token m.token g) r.1,
    )
    by false true a g r = (r.0, reserve-still n.token m.token r.0 (listed_slots ms) r.1)
    by false false a g r = r

-- by the rules on access no class of the package stands in the way
passing : (line : Line) (ds : List Class) (m : Member) → Climbs line (Imported ds) → KeepsAccess line
    → KeepsImported line → In m (all_methods ds) → is_hidden m ≡ true → (cs : List Class)
    × Passes (signature_of m) line cs × In m (all_methods cs) × In m (imported_methods line)
    × In m (methods_of_line line)
passing line ds m here kept far i hid = (ds, arrived, i, i, i)
passing (Imported cs) ds m (over sub) kept far i hid = (cs, arrived, sub m i, sub m i, sub m i)
passing (Declared c given l) ds m (up climbs) kept far i hid =
    let r = passing l ds m climbs kept.1 far.1 i hid in (
      r.0,
      past (by (chosen selects (signature_of m) c.methods) refl r.3 r.4) r.1,
      r.2,
      r.3,
      In-behind m c.methods (methods_of_line l) r.4,
    )
  where
    -- a method that is not private stands neither exposed nor package-visible beside a package-visible one
    clash : (a p b q : Bool) → p ≡ false → b ≡ false → q ≡ false → (((not a && not p) && b) || (a && (not b && not q)))
        ≡ false → ((not a && not p) && (not b && not q)) ≡ false → ⊥
    clash true false false false e f g h k = cc
    clash false false false false e f g h k = cc
    clash a true b q e f g h k = cc
    clash a false true q e f g h k = cc
    clash a false false true e f g h k = cc

    not_private : (p q : Bool) → (not p && q) ≡ true → p ≡ false
    not_private true q e = cc
    not_private false q e = refl

    closed : (a b : Bool) → (not a && b) ≡ true → a ≡ false
    closed true b e = cc
    closed false b e = refl

    by : (o : Option Member) → chosen selects (signature_of m) c.methods ≡ o → In m (imported_methods l)
        → In m (methods_of_line l) → chosen selects (signature_of m) c.methods ≡ None
    by None f j g = f
    by (Some k) f j g =
        let is' = chosen-passes selects (signature_of m) c.methods k f in
        let at = chosen-In selects (signature_of m) c.methods k f in
        let plain = ap is_special is'.0 ∙ virtual_plain m (hidden-virtual m hid) in
        absurd (clash (is_exposed k.flags) (is_private k.flags) (is_exposed m.flags) (is_private m.flags)
        (not_private (is_private k.flags) (not (is_static k.flags)) is'.1)
        (closed (is_exposed m.flags) (is_virtual m) hid)
        (not_private (is_private m.flags) (not (is_static m.flags)) (selectable (is_selectable m.flags)
        (not (is_special (signature_of m))) (hidden-virtual m hid)))
        (kept.0 k m at g is'.0 plain) (far.0 k m at j is'.0 plain))
      where
        selectable : (a b : Bool) → (a && b) ≡ true → a ≡ true
        selectable true b e = refl
        selectable false b e = cc

told-passes : (s : Signature) (line : Line) (cs : List Class) → IsTold line → Passes s line cs
    → IsOneToOne (all_methods cs)
told-passes s line cs told arrived = told
told-passes s (Declared c given l) cs told (past none p) = told-passes s l cs told p

pub imported_calls : (w : List Class) (line : Line) → IsTold line → IsProper line → KeepsAccess line
    → KeepsImported line → (ds : List Class) (m : Member) → Climbs line (Imported ds) → In m (all_methods ds)
    → is_hidden m ≡ true → dispatched (tower w line) m.token ≡ selected_in line (signature_of m)
imported_calls w line told proper kept far ds m climbs i hid = by used.0 used.1
  where
    way : (cs : List Class) × Passes (signature_of m) line cs × In m (all_methods cs) × In m (imported_methods line)
        × In m (methods_of_line line)
    way = passing line ds m climbs kept far i hid

    used : (o : Option Signature) × (slice_get (listed_slots (all_methods way.0)) m.token ≡ Some o)
    used = In-used (all_methods way.0) m way.2 (hidden-virtual m hid)

    named : first (own is_virtual (signature_of m)) way.0 ≡ selected_in line (signature_of m)
    named = imported-same way.0 (signature_of m) (virtual_plain m (hidden-virtual m hid))
        ∙ sym (selected-passes (signature_of m) line way.0 way.1)

    by : (o : Option Signature) → slice_get (listed_slots (all_methods way.0)) m.token ≡ Some o
        → dispatched (tower w line) m.token ≡ selected_in line (signature_of m)
    by None h =
        none-passes w (signature_of m) line way.0 m.token told way.1 h
        ∙ by_token way.0 (all_methods way.0) m m.token (signature_of m) (told-passes (signature_of m) line way.0 told
        way.1) way.2 (hidden-virtual m hid) refl refl (λ n j. j)
        ∙ named
    by (Some u) h =
        let l = listed_slot (all_methods way.0) m.token u h in
        let told_one = told-passes (signature_of m) line way.0 told way.1 in
        let is = (told_one l.0 m l.1 way.2 (shown-virtual l.0 l.2) (hidden-virtual m hid)).0 l.3 in
        let same_one : u ≡ signature_of m = sym l.4 ∙ is in
        let there = slot-passes (signature_of m) line way.0 m.token (Some u) told way.1 h in
        let has_it = here-has_slot (listed_slots (all_methods way.0)) m.token (signature_of m) (h
        ∙ ap (λ q. Some (Some q)) same_one) in
        let r = implementing-passes (signature_of m) line way.0 told proper way.1 has_it in
        dispatched-slot w line m.token u told proper there ∙ ap (implementing line) same_one ∙ r.1 ∙ named
