-- What dispatch and selection give on an object of a class is held by a class of the package at or above it, unless
-- it is
-- imported.
use Rattle.std.proofs.Common.{◌≡◌, [], ℕ, zero, suc, ◌+◌, ◌<◌, Bool, true, false, List, ◌∷◌, length, map, slice_get}
use Rattle.std.proofs.Common.{Option, Some, None, refl, sym, ap, subst, ◌∙◌, arith}
use Rattle.std.specs.Prelude.{◌&&◌, ◌||◌, not, codes, if◌then◌else◌, option_map, position}
use Rattle.std.specs.Str.{bytes_eq}
use Rattle.cjc_bytes.specs.AccessFlags.{is_interface, is_private, is_static}
use Rattle.cjc_world.specs.declared.found.Found.{Found}
use Rattle.cjc_world.specs.Added.{added}
use Rattle.cjc_world.specs.Classes.{Class, Member, class_named}
use Rattle.cjc_world.specs.Lookup.{first, is_called, is_selectable, member_at, or_else, own_method}
use Rattle.cjc_world.specs.Order.{methods_of_class, places, written}
use Rattle.cjc_world.specs.Supertypes.{AreSupertypes, End, Known, Lists, Supertypes, Unknown, foremost, known_here}
use Rattle.cjc_world.specs.Supertypes.{line}
use Rattle.cjc_world.specs.Supertypes.{supertypes, unknown_here, upwards}
use Rattle.cjc_world.proofs.Cycles.{class_named-name}
use Rattle.cjc_tokens.specs.Lines.{Declared, Imported, line_in, line_of}
use Rattle.cjc_tokens.specs.Members.{Signature, is_constructor, is_exposed, is_hidden, is_initialiser, is_shown}
use Rattle.cjc_tokens.specs.Members.{is_virtual}
use Rattle.cjc_tokens.specs.Members.{signature_of}
use Rattle.cjc_tokens.specs.Slots.{got, implementing, implementing_hidden, own}
use Rattle.cjc_tokens.proofs.Facts.{same-true}
use Rattle.cjc_token_proof.specs.VTable.Laws.{Under, below, itself, selection}
use Rattle.cjc_components.specs.Descriptor.{as_added, methods_with_added}
use Rattle.cjc_components.specs.Package.{Package, world}
use Rattle.cjc_bytes.proofs.Bools.{and_true}
use Rattle.cjc_bytes.proofs.Gets.{get_behind, get_below, in_front, item_there, position_there}
use Rattle.cjc_bytes.proofs.Plain.{same_some}
use Rattle.cjc_token_proof.proofs.WrittenCalls.Facts.{Facts}
use Rattle.cjc_token_proof.proofs.WrittenCalls.Files.{first_imported_found}
use Rattle.cjc_token_proof.proofs.WrittenCalls.Receivers.{first_step}
use Rattle.cjc_token_proof.proofs.WrittenCalls.Towers.{line_is, line_of_names}

-- ---- tests of methods

unbound_selectable : (m : Member) → is_selectable m.flags ≡ true → is_static m.flags ≡ false
unbound_selectable m e = by (is_private m.flags) (is_static m.flags) e
  where
    by : (a b : Bool) → (not a && not b) ≡ true → b ≡ false
    by true b f = cc
    by false true f = cc
    by false false f = refl

pub unbound_virtual : (m : Member) → is_virtual m ≡ true → (is_static m.flags ≡ false) × (is_initialiser m.name ≡ false)
unbound_virtual m e =
    let two = and_true (is_selectable m.flags) (not (is_constructor m.name || is_initialiser m.name)) e in
    (unbound_selectable m two.0, by (is_constructor m.name) (is_initialiser m.name) two.1)
  where
    by : (a b : Bool) → not (a || b) ≡ true → b ≡ false
    by true b f = cc
    by false true f = cc
    by false false f = refl

unbound_shown : (m : Member) → is_shown m ≡ true → (is_static m.flags ≡ false) × (is_initialiser m.name ≡ false)
unbound_shown m e = unbound_virtual m (and_true (is_exposed m.flags) (is_virtual m) e).1

unbound_hidden : (m : Member) → is_hidden m ≡ true → (is_static m.flags ≡ false) × (is_initialiser m.name ≡ false)
unbound_hidden m e = unbound_virtual m (and_true (not (is_exposed m.flags)) (is_virtual m) e).1

-- ---- methods of a class

own_kind : (test : Member → Bool) (s : Signature) (d : Class) (f : Found) → own test s d ≡ Some f
    → f.imported ≡ d.is_imported
unfolding own
own_kind test s d f e = by (position (λ (m : Member). test m && is_called s.name s.desc m) d.methods) e
  where
    by : (o : Option ℕ) → option_map (λ i. member_at d (length d.fields + i)) o ≡ Some f → f.imported ≡ d.is_imported
    by None h = cc
    by (Some i) h = sym (ap (λ (g : Found). g.imported) (same_some h))

selecting_own : (s : Signature) (d : Class) → own_method true s.name s.desc d
    ≡ own (λ (m : Member). is_selectable m.flags) s d
unfolding own own_method
selecting_own s d = refl

written_has : (c : Class) (at : ℕ) (ms : List Member) (i : ℕ) (m : Member) → slice_get ms i ≡ Some m
    → is_initialiser m.name ≡ false → (k : ℕ) × (slice_get (written c at ms) k ≡ Some (member_at c (at + i)))
written_has c at [] i m e plain = cc
written_has c at (n ∷ ms) zero m e plain =
    let z : at ≡ at + 0 = omega arith in (
      0,
      ap (λ t. slice_get (if t then written c (at + 1) ms else member_at c at ∷ written c (at + 1) ms) 0)
          (ap (λ (q : Member). bytes_eq q.name (codes "<clinit>")) (same_some e) ∙ plain)
          ∙ ap (λ k. Some (member_at c k)) z,
    )
written_has c at (n ∷ ms) (suc i) m e plain = by (bytes_eq n.name (codes "<clinit>")) (written_has c (at + 1) ms i m e
    plain)
  where
    next : at + 1 + i ≡ at + suc i
    next = omega arith

    by : (t : Bool) → (k : ℕ) × (slice_get (written c (at + 1) ms) k ≡ Some (member_at c (at + 1 + i)))
        → (k : ℕ) × (slice_get (if t then written c (at + 1) ms else member_at c at ∷ written c (at + 1) ms) k
        ≡ Some (member_at c (at + suc i)))
    by true r = (r.0, r.1 ∙ ap (λ k. Some (member_at c k)) next)
    by false r = (suc r.0, r.1 ∙ ap (λ k. Some (member_at c k)) next)

places_has : (c : Class) (at count i : ℕ) → i < count → slice_get (places c at count) i ≡ Some (member_at c (at + i))
places_has c at zero i lt = absurd (omega (arith, lt))
places_has c at (suc n) zero lt = let z : at ≡ at + 0 = omega arith in ap (λ k. Some (member_at c k)) z
places_has c at (suc n) (suc i) lt = let z : at + 1 + i ≡ at + suc i = omega arith in places_has c (at + 1) n i (omega
    (arith, lt)) ∙ ap (λ k. Some (member_at c k)) z

-- ---- what a class holds

pub under_on : (w : List Class) (x y z : List ℕ) → Under w x y → Under w y z → Under w x z
under_on w x y z itself on = on
under_on w x y z (below {y = m} c e l rest) on = below c e l (under_on w m y z rest on)

module _ (q : Package) (facts : Facts q) where
  abbrev w : List Class
  w = world q

  -- a method of this name and descriptor, not static, of a class of the package that stands at or above another
  pub record Holds (x : List ℕ) (s : Signature) (f : Found) : Type 0 where
    pub class : Class
    pub known : class_named w class.name ≡ Some class
    pub own : class.is_imported ≡ false
    pub plain : is_interface class.flags ≡ false
    pub under : Under w x class.name
    pub place : ℕ
    pub item : Member
    pub there : slice_get (methods_with_added w class) place ≡ Some item
    pub is : f ≡ member_at class (length class.fields + place)
    pub number : ℕ
    pub listed : slice_get (methods_of_class w class) number ≡ Some f
    pub called : signature_of item ≡ s
    pub unbound : is_static item.flags ≡ false

  -- what a class at or above holds
  pub lower_holds : (x y : List ℕ) → Under w x y → (s : Signature) (f : Found) → Holds y s f → Holds x s f
  lower_holds x y under s f h = record {
    class = h.class;
    known = h.known;
    own = h.own;
    plain = h.plain;
    under = under_on w x y (let v = h.class in v.name) under h.under;
    place = h.place;
    item = h.item;
    there = h.there;
    is = h.is;
    number = h.number;
    listed = h.listed;
    called = h.called;
    unbound = h.unbound;
  }

  module _ (x : List ℕ) (d : Class) (known : class_named w x ≡ Some d) where
    abbrev own_written : List Found
    own_written = written d (length d.fields) d.methods

    abbrev own_places : List Found
    own_places = places d (length d.fields + length d.methods) (length (added w d))

    named : class_named w d.name ≡ Some d
    named = ap (class_named w) (class_named-name w x d known) ∙ known

    under_itself : Under w x d.name
    under_itself = subst (Under w x) (sym (class_named-name w x d known)) itself

    module _ (mine : d.is_imported ≡ false) (plain : is_interface d.flags ≡ false) (s : Signature) (f : Found) where
      own_holds : (test : Member → Bool) → ((m : Member) → test m ≡ true → signature_of m ≡ s
          → (is_static m.flags ≡ false) × (is_initialiser m.name ≡ false)) → own test s d ≡ Some f → Holds x s f
      unfolding own
      own_holds test good e = by (position (λ (m : Member). test m && is_called s.name s.desc m) d.methods) refl e
        where
          by : (o : Option ℕ) → position (λ (m : Member). test m && is_called s.name s.desc m) d.methods ≡ o
              → option_map (λ i. member_at d (length d.fields + i)) o ≡ Some f → Holds x s f
          by None pos h = cc
          by (Some i) pos h =
              let r = position_there (λ (m : Member). test m && is_called s.name s.desc m) d.methods i pos in
              let two = and_true (test r.0) (is_called s.name s.desc r.0) r.2 in
              let called = same-true (signature_of r.0) s two.1 in
              let fine = good r.0 two.0 called in
              let is : f ≡ member_at d (length d.fields + i) = sym (same_some h) in
              let listed = written_has d (length d.fields) d.methods i r.0 r.1 fine.1 in
              record {
                class = d;
                known = named;
                own = mine;
                plain = plain;
                under = under_itself;
                place = i;
                item = r.0;
                there = in_front d.methods (map as_added (added w d)) i r.0 r.1;
                is = is;
                number = listed.0;
                listed = in_front own_written own_places listed.0 (member_at d (length d.fields + i)) listed.1
                    ∙ ap (λ g. Some g) (sym is);
                called = called;
                unbound = fine.0;
              }

      got_holds : got (added w d) s d ≡ Some f → Holds x s f
      unfolding got
      got_holds e = by (position (λ (m : Member). is_called s.name s.desc m) (added w d)) refl e
        where
          by : (o : Option ℕ) → position (λ (m : Member). is_called s.name s.desc m) (added w d) ≡ o
              → option_map (λ i. member_at d (length d.fields + length d.methods + i)) o ≡ Some f → Holds x s f
          by None pos h = cc
          by (Some i) pos h =
              let r = position_there (λ (m : Member). is_called s.name s.desc m) (added w d) i pos in
              let z : length d.fields + length d.methods + i ≡ length d.fields + (length d.methods + i) = omega arith in
              record {
                class = d;
                known = named;
                own = mine;
                plain = plain;
                under = under_itself;
                place = length d.methods + i;
                item = as_added r.0;
                there = get_behind d.methods (map as_added (added w d)) i ∙ item_there as_added (added w d) i r.0 r.1;
                is = sym (same_some h) ∙ ap (member_at d) z;
                number = length own_written + i;
                listed = get_behind own_written own_places i
                    ∙ places_has d (length d.fields + length d.methods) (length (added w d)) i (get_below (added w d)
                    i r.0
                    r.1) ∙ h;
                called = same-true (signature_of r.0) s r.2;
                unbound = refl;
              }

      -- what goes on above
      goes_above : (k : Supertypes) → AreSupertypes w d.supers k → ((y : List ℕ) (a : Class) → AreSupertypes w (y ∷
          []) k
          → class_named w y ≡ Some a → is_interface a.flags ≡ false → d.supers ≡ y ∷ [] → Holds y s f) → Holds x s f
      goes_above k ks rest =
          let one = facts.rules.single x d known mine in
          let up = facts.super_there x one.0 d known mine one.1 in
          lower_holds x one.0 (below d known (subst (Lists one.0) (sym one.1) foremost) itself) s f (rest one.0 up.0
          (subst (λ ss. AreSupertypes w ss k) one.1 ks) up.1 up.2 one.1)

  -- ---- the nearest class with a public or protected method

  implementing_by : (k : Supertypes) (x : List ℕ) (c : Class) → AreSupertypes w (x ∷ []) k → class_named w x ≡ Some c
      → is_interface c.flags ≡ false → (s : Signature) (f : Found) → implementing (line_in w k) s ≡ Some f
      → f.imported ≡ false → Holds x s f
  implementing_by End x c h e class_here s f found mine = elim h [ ]
  implementing_by (Unknown y next) x c (unknown_here none rest) e class_here s f found mine = absurd cc
  implementing_by (Known d supers interfaces next) x c (known_here known ks ki kn) e class_here s f found mine =
      by d.is_imported refl found (λ y a is named_y plain g. implementing_by supers y a is named_y plain s f g mine)
    where
      one : d ≡ c
      one = let both : Some d ≡ Some c = sym known ∙ e in cc

      plain : is_interface d.flags ≡ false
      plain = ap (λ (v : Class). is_interface v.flags) one ∙ class_here

      same : supers ≡ supertypes w d.supers
      same = facts.one_supertypes d.supers supers (supertypes w d.supers) ks (facts.are_supertypes d.supers)

      by : (b : Bool) → d.is_imported ≡ b → implementing (if b then Imported (d ∷ upwards supers)
          else Declared d (added w d) (line_in w supers)) s ≡ Some f → ((y : List ℕ) (a : Class)
          → AreSupertypes w (y ∷ []) supers → class_named w y ≡ Some a → is_interface a.flags ≡ false
          → implementing (line_in w supers) s ≡ Some f → Holds y s f) → Holds x s f
      by true is g rest =
          let import = first_imported_found q facts x d known is (own is_virtual s) (own_kind is_virtual s) f
          (ap (λ k. first (own is_virtual s) (d ∷ upwards k)) (sym same) ∙ g) in
          let clash : false ≡ true = sym mine ∙ import in
          absurd cc
      by false is g rest = split (own is_shown s d) refl (got (added w d) s d) refl g
        where
          split : (o : Option Found) → own is_shown s d ≡ o → (u : Option Found) → got (added w d) s d ≡ u
              → or_else o (or_else u (implementing (line_in w supers) s)) ≡ Some f → Holds x s f
          split (Some a) h u k g = own_holds x d known is plain s f is_shown (λ m t called. unbound_shown m t) (h ∙ g)
          split None h (Some a) k g = got_holds x d known is plain s f (k ∙ g)
          split None h None k g = goes_above x d known is plain s f supers ks (λ y a are named_y class_y only. rest y
              a are
              named_y class_y g)

  pub implementing_holds : (x : List ℕ) (c : Class) → class_named w x ≡ Some c → is_interface c.flags ≡ false
      → (s : Signature) (f : Found) → implementing (line_of w x) s ≡ Some f → f.imported ≡ false → Holds x s f
  implementing_holds x c e class_here s f found mine = implementing_by (supertypes w (x ∷ [])) x c
      (facts.are_supertypes (x ∷ [])) e class_here s f found mine

  -- ---- with a package-visible one

  hidden_by : (k : Supertypes) (x : List ℕ) (c : Class) → AreSupertypes w (x ∷ []) k → class_named w x ≡ Some c
      → is_interface c.flags ≡ false → (s : Signature) (f : Found) → implementing_hidden (line_in w k) s ≡ Some f
      → Holds x s f
  hidden_by End x c h e class_here s f found = elim h [ ]
  hidden_by (Unknown y next) x c (unknown_here none rest) e class_here s f found = absurd cc
  hidden_by (Known d supers interfaces next) x c (known_here known ks ki kn) e class_here s f found =
      by d.is_imported refl found (λ y a is named_y plain g. hidden_by supers y a is named_y plain s f g)
    where
      one : d ≡ c
      one = let both : Some d ≡ Some c = sym known ∙ e in cc

      plain : is_interface d.flags ≡ false
      plain = ap (λ (v : Class). is_interface v.flags) one ∙ class_here

      by : (b : Bool) → d.is_imported ≡ b → implementing_hidden (if b then Imported (d ∷ upwards supers)
          else Declared d (added w d) (line_in w supers)) s ≡ Some f → ((y : List ℕ) (a : Class)
          → AreSupertypes w (y ∷ []) supers → class_named w y ≡ Some a → is_interface a.flags ≡ false
          → implementing_hidden (line_in w supers) s ≡ Some f → Holds y s f) → Holds x s f
      by true is g rest = cc
      by false is g rest = split (own is_hidden s d) refl g
        where
          split : (o : Option Found) → own is_hidden s d ≡ o → or_else o (implementing_hidden (line_in w supers) s)
              ≡ Some f → Holds x s f
          split (Some a) h g = own_holds x d known is plain s f is_hidden (λ m t called. unbound_hidden m t) (h ∙ g)
          split None h g = goes_above x d known is plain s f supers ks (λ y a are named_y class_y only. rest y a are
              named_y class_y g)

  pub hidden_holds : (x : List ℕ) (c : Class) → class_named w x ≡ Some c → is_interface c.flags ≡ false → (s :
      Signature)
      (f : Found) → implementing_hidden (line_of w x) s ≡ Some f → Holds x s f
  hidden_holds x c e class_here s f found = hidden_by (supertypes w (x ∷ [])) x c (facts.are_supertypes (x ∷ [])) e
      class_here s f found

  -- ---- selection by name

  selection_by : (k : Supertypes) (x : List ℕ) (c : Class) → AreSupertypes w (x ∷ []) k → class_named w x ≡ Some c
      → is_interface c.flags ≡ false → (s : Signature) → is_initialiser s.name ≡ false → (f : Found)
      → first (own_method true s.name s.desc) (line w x) ≡ Some f → f.imported ≡ false → Holds x s f
  selection_by End x c h e class_here s virtual f found mine = elim h [ ]
  selection_by (Unknown y next) x c (unknown_here none rest) e class_here s virtual f found mine = absurd cc
  selection_by (Known d supers interfaces next) x c (known_here known ks ki kn) e class_here s virtual f found mine =
      by d.is_imported refl (λ y a is named_y plain g. selection_by supers y a is named_y plain s virtual f g mine)
    where
      one : d ≡ c
      one = let both : Some d ≡ Some c = sym known ∙ e in cc

      plain : is_interface d.flags ≡ false
      plain = ap (λ (v : Class). is_interface v.flags) one ∙ class_here

      from_line : first (own_method true s.name s.desc) (d ∷ upwards (supertypes w d.supers)) ≡ Some f
      from_line = sym (ap (first (own_method true s.name s.desc)) (line_is q facts x d known)) ∙ found

      kind : (b : Class) (g : Found) → (own_method true s.name s.desc) b ≡ Some g → g.imported ≡ b.is_imported
      kind b g h = own_kind (λ (m : Member). is_selectable m.flags) s b g (sym (selecting_own s b) ∙ h)

      by : (b : Bool) → d.is_imported ≡ b → ((y : List ℕ) (a : Class) → AreSupertypes w (y ∷ []) supers
          → class_named w y ≡ Some a → is_interface a.flags ≡ false → first (own_method true s.name s.desc) (line w y)
          ≡ Some f → Holds y s f)
          → Holds x s f
      by true is rest =
          let clash : false ≡ true = sym mine ∙ first_imported_found q facts x d known is (own_method true s.name
          s.desc) kind f from_line in
          absurd cc
      by false is rest = split ((own_method true s.name s.desc) d) refl (sym (first_step (own_method true s.name
          s.desc) d (upwards (supertypes w d.supers))) ∙ from_line)
        where
          split : (o : Option Found) → (own_method true s.name s.desc) d ≡ o → or_else o (first (own_method true
              s.name s.desc) (upwards (supertypes w d.supers))) ≡ Some f
              → Holds x s f
          split (Some a) h g = own_holds x d known is plain s f (λ (m : Member). is_selectable m.flags) (λ m t called. (
            unbound_selectable m t,
            ap (λ (v : Signature). is_initialiser v.name) called ∙ virtual,
          )) (sym (selecting_own s d) ∙ h ∙ g)
          split None h g = goes_above x d known is plain s f supers ks (λ y a are named_y class_y only. rest y a are
              named_y class_y (ap (first (own_method true s.name s.desc)) (line_of_names q facts y) ∙ sym (ap (λ ss.
              first (own_method true s.name s.desc)
              (upwards (supertypes w ss))) only) ∙ g))

  pub selection_holds : (x : List ℕ) (c : Class) → class_named w x ≡ Some c → is_interface c.flags ≡ false
      → (s : Signature) → is_initialiser s.name ≡ false → (f : Found) → selection w x s ≡ Some f → f.imported ≡ false
      → Holds x s f
  selection_holds x c e class_here s virtual f found mine = selection_by (supertypes w (x ∷ [])) x c
      (facts.are_supertypes (x ∷ [])) e class_here s virtual f found mine
