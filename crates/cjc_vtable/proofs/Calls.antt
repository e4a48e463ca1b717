-- Each kind of call reaches by token what it reaches by name, along a line.
use Rattle.std.proofs.Common.{◌≡◌, ℕ, suc, refl, sym, ap, ◌∙◌, Bool, true, false, List, [], ◌∷◌, ◌++◌}
use Rattle.std.specs.Prelude.{◌&&◌, ◌||◌, Option, Some, None, if◌then◌else◌, map, option_map, not}
use Rattle.cjc_world.specs.Classes.{Member, Class}
use Rattle.cjc_world.specs.Bytes.AccessFlags.{is_private, is_static}
use Rattle.cjc_world.specs.Lookup.{is_called, is_selectable}
use Rattle.cjc_tokens.specs.Members.{Signature, signature_of, same, has, signatures, is_exposed, is_virtual, is_shown}
use Rattle.cjc_tokens.specs.Members.{is_hidden, all_methods, In, chosen, first_of, later}
use Rattle.cjc_tokens.specs.Lines.{Line, Nowhere, Imported, Declared}
use Rattle.cjc_tokens.specs.Slots.{Slots, holds, has_slot, new_in, with_new, slots, hidden_slots, token}
use Rattle.cjc_vtable.specs.Dispatch.{dispatched, dispatched_hidden}
use Rattle.cjc_vtable.specs.Calls.{is_special, selects, any_method, passes, selected_in, selects_shown, selects_hidden}
use Rattle.cjc_vtable.specs.Calls.{finds_shown, finds_hidden, IsTold, IsProper, methods_of_line, is_clash, KeepsAccess}
use Rattle.cjc_vtable.specs.Calls.{Climbs, here, up, over}
use Rattle.cjc_tokens.proofs.Facts.{same-refl, chosen-passes, chosen-In, chosen-some, has-chosen}
use Rattle.cjc_tokens.proofs.Held.{has_slot-append, offered-has_slot, token-cons, shown-virtual}
use Rattle.cjc_vtable.proofs.Towers.{tower}
use Rattle.cjc_vtable.proofs.Agrees.{virtual_plain, hidden-virtual, shown_selects, hidden_selects, chosen-finer}
use Rattle.cjc_vtable.proofs.Agrees.{shown-has_slot, agree_shown, agree_hidden}

-- what has a slot has a token
pub token-some : (all : Slots) (s : Signature) → has_slot all s ≡ true → (t : ℕ) × (token all s ≡ Some t)
token-some [] s e = cc
token-some (slot ∷ all) s e = let r = by (holds slot s) e (token-some all s) in (r.0, token-cons slot all s ∙ r.1)
  where
    by : (b : Bool) → (b || has_slot all s) ≡ true → (has_slot all s ≡ true → (t : ℕ) × (token all s ≡ Some t))
        → (t : ℕ) × ((if b then Some 0 else option_map suc (token all s)) ≡ Some t)
    by true e rest = (0, refl)
    by false e rest = let r = rest e in (suc r.0, ap (option_map suc) r.1)

-- ---- the method that look-up finds is the one that selection finds, in its own class

module _ (test : Member → Bool) (finer : (m : Member) → test m ≡ true → selects m ≡ true) where
  chosen-any : (s : Signature) (ms : List Member) (m : Member) → chosen any_method s ms ≡ Some m → test m ≡ true
      → chosen selects s ms ≡ Some m
  chosen-any s [] m e passing = cc
  chosen-any s (n ∷ ms) m e passing = by (is_called s.name s.desc n) (selects n) refl e (chosen-any s ms m)
    where
      by : (a b : Bool) → selects n ≡ b → (if true && a then Some n else chosen any_method s ms) ≡ Some m
          → (chosen any_method s ms ≡ Some m → test m ≡ true → chosen selects s ms ≡ Some m)
          → (if b && a then Some n else chosen selects s ms) ≡ Some m
      by true true f e rest = e
      by true false f e rest = let is : n ≡ m = cc in let yes' = finer n (ap test is ∙ passing) in cc
      by false true f e rest = rest e passing
      by false false f e rest = rest e passing

pub chosen-any_none : (s : Signature) (ms : List Member) → chosen any_method s ms ≡ None → chosen selects s ms ≡ None
chosen-any_none s [] e = refl
chosen-any_none s (n ∷ ms) e = by (is_called s.name s.desc n) (selects n) e (chosen-any_none s ms)
  where
    by : (a b : Bool) → (if true && a then Some n else chosen any_method s ms) ≡ None → (chosen any_method s ms ≡ None
        → chosen selects s ms ≡ None) → (if b && a then Some n else chosen selects s ms) ≡ None
    by true b e rest = cc
    by false true e rest = rest e
    by false false e rest = rest e

pub finds-selects_shown : (line : Line) (s : Signature) → finds_shown line s ≡ true → selects_shown line s ≡ true
finds-selects_shown Nowhere s e = cc
finds-selects_shown (Imported classes) s e = by (chosen any_method s (all_methods classes)) refl e
  where
    by : (o : Option Member) → chosen any_method s (all_methods classes) ≡ o → passes is_shown o false ≡ true
        → has (signatures is_shown (all_methods classes)) s ≡ true
    by None f e = cc
    by (Some m) f e = has-chosen is_shown s (all_methods classes) m (chosen-finer is_shown shown_selects s
        (all_methods classes) m (chosen-any is_shown shown_selects s (all_methods classes) m f e) e)
finds-selects_shown (Declared c given above) s e = by (chosen any_method s c.methods) refl e (finds-selects_shown above
    s)
  where
    by : (o : Option Member) → chosen any_method s c.methods ≡ o → passes is_shown o (finds_shown above s) ≡ true
        → (finds_shown above s ≡ true → selects_shown above s ≡ true) → passes is_shown (chosen selects s c.methods)
        (selects_shown above s) ≡ true
    by None f e rest = ap (λ q. passes is_shown q (selects_shown above s)) (chosen-any_none s c.methods f) ∙ rest e
    by (Some m) f e rest = ap (λ q. passes is_shown q (selects_shown above s)) (chosen-any is_shown shown_selects s
        c.methods m f e) ∙ e

pub finds-selects_hidden : (line : Line) (s : Signature) → finds_hidden line s ≡ true → selects_hidden line s ≡ true
finds-selects_hidden Nowhere s e = cc
finds-selects_hidden (Imported classes) s e = cc
finds-selects_hidden (Declared c given above) s e = by (chosen any_method s c.methods) refl e
    (finds-selects_hidden above s)
  where
    by : (o : Option Member) → chosen any_method s c.methods ≡ o → passes is_hidden o (finds_hidden above s) ≡ true
        → (finds_hidden above s ≡ true → selects_hidden above s ≡ true) → passes is_hidden (chosen selects s c.methods)
        (selects_hidden above s) ≡ true
    by None f e rest = ap (λ q. passes is_hidden q (selects_hidden above s)) (chosen-any_none s c.methods f) ∙ rest e
    by (Some m) f e rest = ap (λ q. passes is_hidden q (selects_hidden above s)) (chosen-any is_hidden hidden_selects s
        c.methods m f e) ∙ e

-- ---- a method below has the access of the one that is found

pub In-front : (m : Member) (a b : List Member) → In m a → In m (a ++ b)
In-front m [] b i = elim i [ ]
In-front m (n ∷ a) b first_of = first_of
In-front m (n ∷ a) b (later i) = later (In-front m a b i)

pub In-behind : (m : Member) (a b : List Member) → In m b → In m (a ++ b)
In-behind m [] b i = i
In-behind m (n ∷ a) b i = later (In-behind m a b i)

-- the method that selection gives stands in the line
shown-stands : (line : Line) (s : Signature) → selects_shown line s ≡ true → (m : Member) × In m (methods_of_line line)
    × (signature_of m ≡ s) × (is_shown m ≡ true)
shown-stands Nowhere s e = cc
shown-stands (Imported classes) s e =
    let f = chosen-some is_shown s (all_methods classes) e in
    let is = chosen-passes is_shown s (all_methods classes) f.0 f.1 in
    (f.0, chosen-In is_shown s (all_methods classes) f.0 f.1, is.0, is.1)
shown-stands (Declared c given above) s e = by (chosen selects s c.methods) refl e (shown-stands above s)
  where
    by : (o : Option Member) → chosen selects s c.methods ≡ o → passes is_shown o (selects_shown above s) ≡ true
        → (selects_shown above s ≡ true → (m : Member) × In m (methods_of_line above) × (signature_of m ≡ s)
        × (is_shown m ≡ true)) → (m : Member) × In m (c.methods ++ methods_of_line above) × (signature_of m ≡ s)
        × (is_shown m ≡ true)
    by None f e rest = let r = rest e in (r.0, In-behind r.0 c.methods (methods_of_line above) r.1, r.2, r.3)
    by (Some m) f e rest = (
      m,
      In-front m c.methods (methods_of_line above) (chosen-In selects s c.methods m f),
      (chosen-passes selects s c.methods m f).0,
      e,
    )

hidden-stands : (line : Line) (s : Signature) → selects_hidden line s ≡ true → (m : Member)
    × In m (methods_of_line line) × (signature_of m ≡ s) × (is_hidden m ≡ true)
hidden-stands Nowhere s e = cc
hidden-stands (Imported classes) s e = cc
hidden-stands (Declared c given above) s e = by (chosen selects s c.methods) refl e (hidden-stands above s)
  where
    by : (o : Option Member) → chosen selects s c.methods ≡ o → passes is_hidden o (selects_hidden above s) ≡ true
        → (selects_hidden above s ≡ true → (m : Member) × In m (methods_of_line above) × (signature_of m ≡ s)
        × (is_hidden m ≡ true)) → (m : Member) × In m (c.methods ++ methods_of_line above) × (signature_of m ≡ s)
        × (is_hidden m ≡ true)
    by None f e rest = let r = rest e in (r.0, In-behind r.0 c.methods (methods_of_line above) r.1, r.2, r.3)
    by (Some m) f e rest = (
      m,
      In-front m c.methods (methods_of_line above) (chosen-In selects s c.methods m f),
      (chosen-passes selects s c.methods m f).0,
      e,
    )

-- with what is known of the inherited one: it is exposed
clash_open : (a p b q : Bool) → b ≡ true → (((not a && not p) && b) || (a && (not b && not q))) ≡ false
    → (not a && not p) ≡ false
clash_open true p b q g k = refl
clash_open false true b q g k = refl
clash_open false false true q g k = cc
clash_open false false false q g k = cc

-- or it is package-visible
clash_hidden : (a p b q : Bool) → b ≡ false → q ≡ false → (((not a && not p) && b) || (a && (not b && not q))) ≡ false
    → a ≡ false
clash_hidden true p false false g h k = cc
clash_hidden true p true q g h k = cc
clash_hidden true p b true g h k = cc
clash_hidden false p b q g h k = refl

pub keeps_shown : (m n : Member) → selects m ≡ true → is_shown n ≡ true → is_special (signature_of m) ≡ false
    → is_clash m.flags n.flags ≡ false → is_shown m ≡ true
keeps_shown m n sel shown plain clash =
    by (is_exposed m.flags) (is_private m.flags) (is_selectable m.flags) (is_special (signature_of m)) sel plain
    (clash_open (is_exposed m.flags) (is_private m.flags) (is_exposed n.flags) (is_private n.flags)
    (first_part (is_exposed n.flags) (is_virtual n) shown) clash) (not_private (is_private m.flags)
    (not (is_static m.flags)) sel)
  where
    first_part : (a b : Bool) → (a && b) ≡ true → a ≡ true
    first_part true b e = refl
    first_part false b e = cc

    not_private : (p q : Bool) → (not p && q) ≡ true → p ≡ false
    not_private true q e = cc
    not_private false q e = refl

    by : (a p v sp : Bool) → v ≡ true → sp ≡ false → (not a && not p) ≡ false → p ≡ false → (a && (v && not sp)) ≡ true
    by true p true false f g h k = refl
    by true p true true f g h k = cc
    by true p false sp f g h k = cc
    by false true v sp f g h k = cc
    by false false v sp f g h k = cc

pub keeps_hidden : (m n : Member) → selects m ≡ true → is_hidden n ≡ true → is_special (signature_of m) ≡ false
    → is_clash m.flags n.flags ≡ false → is_hidden m ≡ true
keeps_hidden m n sel hid plain clash =
    by (is_exposed m.flags) (is_selectable m.flags) (is_special (signature_of m)) sel plain
    (clash_hidden (is_exposed m.flags) (is_private m.flags) (is_exposed n.flags) (is_private n.flags)
    (closed (is_exposed n.flags) (is_virtual n) hid) (not_private (is_private n.flags) (not (is_static n.flags))
    (hidden_selects n hid)) clash)
  where
    closed : (a b : Bool) → (not a && b) ≡ true → a ≡ false
    closed true b e = cc
    closed false b e = refl

    not_private : (p q : Bool) → (not p && q) ≡ true → p ≡ false
    not_private true q e = cc
    not_private false q e = refl

    by : (a v sp : Bool) → v ≡ true → sp ≡ false → a ≡ false → (not a && (v && not sp)) ≡ true
    by false true false f g h = refl
    by false true true f g h = cc
    by false false sp f g h = cc
    by true v sp f g h = cc

In-has : (s : Signature) (ms : List Member) (m : Member) → In m ms → signature_of m ≡ s → is_shown m ≡ true
    → has (signatures is_shown ms) s ≡ true
In-has s [] m i is shown = elim i [ ]
In-has s (n ∷ ms) m first_of is shown =
    ap (λ b. has (if b then signature_of n ∷ signatures is_shown ms else signatures is_shown ms) s) shown
    ∙ ap (λ q. same q s || has (signatures is_shown ms) s) is ∙ ap (λ q. q || has (signatures is_shown ms) s)
    (same-refl s)
In-has s (n ∷ ms) m (later i) is shown = by (is_shown n) (In-has s ms m i is shown)
  where
    or_true : (b : Bool) → (b || true) ≡ true
    or_true true = refl
    or_true false = refl

    by : (b : Bool) → has (signatures is_shown ms) s ≡ true → has (if b then signature_of n ∷ signatures is_shown ms
        else signatures is_shown ms) s ≡ true
    by true h = ap (λ q. same (signature_of n) s || q) h ∙ or_true (same (signature_of n) s)
    by false h = h

-- ---- so selection from a class below gives a method of the same kind

pub below-shown : (line above : Line) (s : Signature) → KeepsAccess line → Climbs line above → selects_shown above s
    ≡ true → selects_shown line s ≡ true
below-shown line above s kept here e = e
below-shown (Imported cs) (Imported ds) s kept (over sub) e =
    let f = chosen-some is_shown s (all_methods ds) e in
    let is = chosen-passes is_shown s (all_methods ds) f.0 f.1 in
    In-has s (all_methods cs) f.0 (sub f.0 (chosen-In is_shown s (all_methods ds) f.0 f.1)) is.0 is.1
below-shown (Declared c given line) above s kept (up climbs) e = by (chosen selects s c.methods) refl
    (below-shown line above s kept.1 climbs e)
  where
    by : (o : Option Member) → chosen selects s c.methods ≡ o → selects_shown line s ≡ true
        → passes is_shown o (selects_shown line s) ≡ true
    by None f rest = rest
    by (Some m) f rest =
        let n = shown-stands line s rest in
        let is = chosen-passes selects s c.methods m f in
        let one = is.0 ∙ sym n.2 in
        let plain = ap is_special one ∙ virtual_plain n.0 (shown-virtual n.0 n.3) in
        keeps_shown m n.0 is.1 n.3 plain (kept.0 m n.0 (chosen-In selects s c.methods m f) n.1 one plain)

pub below-hidden : (line above : Line) (s : Signature) → KeepsAccess line → Climbs line above → selects_hidden above s
    ≡ true → selects_hidden line s ≡ true
below-hidden line above s kept here e = e
below-hidden (Imported cs) (Imported ds) s kept (over sub) e = cc
below-hidden (Declared c given line) above s kept (up climbs) e = by (chosen selects s c.methods) refl
    (below-hidden line above s kept.1 climbs e)
  where
    by : (o : Option Member) → chosen selects s c.methods ≡ o → selects_hidden line s ≡ true
        → passes is_hidden o (selects_hidden line s) ≡ true
    by None f rest = rest
    by (Some m) f rest =
        let n = hidden-stands line s rest in
        let is = chosen-passes selects s c.methods m f in
        let one = is.0 ∙ sym n.2 in
        let plain = ap is_special one ∙ virtual_plain n.0 (hidden-virtual n.0 n.3) in
        keeps_hidden m n.0 is.1 n.3 plain (kept.0 m n.0 (chosen-In selects s c.methods m f) n.1 one plain)

hidden-has_slot : (line : Line) (s : Signature) → selects_hidden line s ≡ true → has_slot (hidden_slots line) s ≡ true
hidden-has_slot Nowhere s e = cc
hidden-has_slot (Imported classes) s e = cc
hidden-has_slot (Declared c given above) s e = by (chosen selects s c.methods) refl e (λ h. hidden-has_slot above s h)
  where
    by : (o : Option Member) → chosen selects s c.methods ≡ o → passes is_hidden o (selects_hidden above s) ≡ true
        → (selects_hidden above s ≡ true → has_slot (hidden_slots above) s ≡ true)
        → has_slot (with_new (hidden_slots above) (signatures is_hidden c.methods)) s ≡ true
    by None f e rest = has_slot-append (hidden_slots above)
        (map Some (new_in (hidden_slots above) (signatures is_hidden c.methods))) s (rest e)
    by (Some m) f e rest = offered-has_slot (hidden_slots above) (signatures is_hidden c.methods) s
        (has-chosen is_hidden s c.methods m (chosen-finer is_hidden hidden_selects s c.methods m f e))

-- ---- calls by a method of a class

pub told-above : (line above : Line) → Climbs line above → IsTold line → IsTold above
told-above line above here told = told
told-above (Imported cs) (Imported ds) (over sub) told = λ m n i j. told m n (sub m i) (sub n j)
told-above (Declared c given line) above (up climbs) told = told-above line above climbs told

pub open_calls : (w : List Class) (line above : Line) (s : Signature) → IsTold line → IsProper line → KeepsAccess line
    → Climbs line above → finds_shown above s ≡ true → (t : ℕ) × (token (slots above) s ≡ Some t)
    × (dispatched (tower w line) t ≡ selected_in line s)
open_calls w line above s told proper kept climbs finds =
    let found = finds-selects_shown above s finds in
    let t = token-some (slots above) s (shown-has_slot above s (told-above line above climbs told) found) in
    (t.0, t.1, agree_shown w line above s t.0 told proper climbs t.1 (below-shown line above s kept climbs found))

pub package_calls : (w : List Class) (line above : Line) (s : Signature) → IsProper line → KeepsAccess line
    → Climbs line above → finds_hidden above s ≡ true → (t : ℕ) × (token (hidden_slots above) s ≡ Some t)
    × (dispatched_hidden (tower w line) t ≡ selected_in line s)
package_calls w line above s proper kept climbs finds =
    let found = finds-selects_hidden above s finds in
    let t = token-some (hidden_slots above) s (hidden-has_slot above s found) in
    (t.0, t.1, agree_hidden w line above s t.0 proper climbs t.1 (below-hidden line above s kept climbs found))
