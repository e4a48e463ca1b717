-- The methods in the tables of a class are methods of classes of the package.
use Rattle.std.proofs.Common.{◌≡◌, ℕ, zero, suc, ◌+◌, ◌<◌, refl, sym, ap, subst, ◌∙◌, arith, Bool, true, false, List}
use Rattle.std.proofs.Common.{[], ◌∷◌, ◌++◌, length, drop, inl, inr, ⊎_elim}
use Rattle.std.specs.Prelude.{not, ◌&&◌, ◌||◌, ◌⊎◌, Option, Some, None, map, option_map, position, if◌then◌else◌, codes}
use Rattle.std.specs.Str.{bytes_eq}
use Rattle.cjc_bytes.specs.AccessFlags.{is_interface}
use Rattle.cjc_bytes.proofs.Bools.{both_front}
use Rattle.cjc_bytes.proofs.Gets.{get_below}
use Rattle.cjc_world.specs.declared.found.Found.{Found}
use Rattle.cjc_world.specs.Classes.{Member, Class, class_named}
use Rattle.cjc_world.specs.Added.{added}
use Rattle.cjc_world.specs.Supertypes.{Supertypes, End, Known, supertypes, AreSupertypes, ends, unknown_here}
use Rattle.cjc_world.specs.Supertypes.{known_here, Lists, foremost, after, upwards}
use Rattle.cjc_world.specs.Lookup.{first, is_called, is_selectable, member_at, or_else}
use Rattle.cjc_world.specs.Order.{in_order, methods_of_class, places, written}
use Rattle.cjc_world.specs.Rules.{is_interface_of, is_of_class_file}
use Rattle.cjc_world.proofs.Settled.{supertypes-AreSupertypes, lists-front}
use Rattle.cjc_world.proofs.Unbroken.{unbroken_is_acyclic}
use Rattle.cjc_world.proofs.Rising.{first-append}
use Rattle.cjc_tokens.specs.Lines.{Imported, Declared, line_at, line_in}
use Rattle.cjc_tokens.specs.Members.{Signature, is_constructor, is_exposed, is_hidden, is_initialiser, is_shown}
use Rattle.cjc_tokens.specs.Members.{is_virtual}
use Rattle.cjc_tokens.specs.Slots.{got, hidden_row, hidden_slots, implementing, implementing_hidden, meant_by, own, row}
use Rattle.cjc_tokens.specs.Slots.{slots}
use Rattle.cjc_tokens.proofs.Facts.{own-at}
use Rattle.cjc_vtable.specs.Tables.{base, entries, methods, of_package, table_of}
use Rattle.cjc_vtable.proofs.Filed.{Has, at_front, behind}
use Rattle.cjc_vtable.proofs.SlotNames.{position-at}
use Rattle.cjc_components.specs.Package.{Package, world}
use Rattle.cjc_token_proof.specs.Tables.Sound.{IsSound}
use Rattle.cjc_token_proof.proofs.TablesLaws.Clean.{has_named, kept, own_name}
use Rattle.cjc_token_proof.proofs.TablesLaws.Lists.{right_supers}
use Rattle.cjc_check_proof.proofs.ClassesLaws.Installs.{written_has}
use Rattle.cjc_check_proof.proofs.ClassesLaws.Lists.{has-back, has-front, has-mapped}
use Rattle.cjc_check_proof.proofs.ClassesLaws.Supers.{in_place}

-- ---- lists

has_dropped : {A : Type 0} (n : ℕ) (x : A) (xs : List A) → Has x (drop n xs) → Has x xs
has_dropped zero x xs h = h
has_dropped (suc n) x [] h = elim h [ ]
has_dropped (suc n) x (y ∷ xs) h = behind (has_dropped n x xs h)

places_has : (c : Class) (i n k : ℕ) → k < n → Has (member_at c (i + k)) (places c i n)
places_has c i zero k lt = absurd (omega (arith, lt))
places_has c i (suc n) zero lt = let none : i + 0 ≡ i = omega arith
    in subst (λ j. Has (member_at c j) (member_at c i ∷ places c (i + 1) n)) (sym none) at_front
places_has c i (suc n) (suc k) lt = let next : i + 1 + k ≡ i + suc k = omega arith
    in behind (subst (λ j. Has (member_at c j) (places c (i + 1) n)) next (places_has c (i + 1) n k (omega (
      arith,
      lt,
    ))))

first_or : (f g : Found) (fs : List Found) (os : List (Option Found)) → Has f (g ∷ fs) → (Has f fs → Has (Some f) os)
    → Has (Some f) (Some g ∷ os)
first_or f g fs os at_front rest = at_front
first_or f g fs os (behind h) rest = behind (rest h)

methods_has : (f : Found) (os : List (Option Found)) → Has f (methods os) → Has (Some f) os
methods_has f [] h = elim h [ ]
methods_has f (None ∷ os) h = behind (methods_has f os h)
methods_has f (Some g ∷ os) h = first_or f g (methods os) os h (methods_has f os)

or_parts : (a b : Option Found) (g : Found) → or_else a b ≡ Some g → (a ≡ Some g) ⊎ (b ≡ Some g)
or_parts None b g e = inr e
or_parts (Some f) b g e = inl e

-- ---- a method that a class declares, or got

shown_plain : (m : Member) → is_shown m ≡ true → bytes_eq m.name (codes "<clinit>") ≡ false
shown_plain m e = by (is_exposed m.flags) (is_selectable m.flags) (is_constructor m.name) (is_initialiser m.name) e
  where
    by : (a b c d : Bool) → (a && (b && not (c || d))) ≡ true → d ≡ false
    by true true false false e = refl
    by true true false true e = absurd (cc)
    by true true true d e = absurd (cc)
    by true false c d e = absurd (cc)
    by false b c d e = absurd (cc)

hidden_plain : (m : Member) → is_hidden m ≡ true → bytes_eq m.name (codes "<clinit>") ≡ false
hidden_plain m e = by (is_exposed m.flags) (is_selectable m.flags) (is_constructor m.name) (is_initialiser m.name) e
  where
    by : (a b c d : Bool) → (not a && (b && not (c || d))) ≡ true → d ≡ false
    by false true false false e = refl
    by false true false true e = absurd (cc)
    by false true true d e = absurd (cc)
    by false false c d e = absurd (cc)
    by true b c d e = absurd (cc)

module _ (w : List Class) (c : Class) where
  own_has : (test : Member → Bool) → ((m : Member) → test m ≡ true → bytes_eq m.name (codes "<clinit>") ≡ false)
      → (s : Signature) (g : Found) → own test s c ≡ Some g → Has g (methods_of_class w c)
  unfolding own
  own_has test plain s g e = by (position (λ m. test m && is_called s.name s.desc m) c.methods) refl e
    where
      by : (o : Option ℕ) → position (λ m. test m && is_called s.name s.desc m) c.methods ≡ o
          → option_map (λ i. member_at c (length c.fields + i)) o ≡ Some g → Has g (methods_of_class w c)
      by None f h = absurd (cc)
      by (Some i) f h =
          let is : member_at c (length c.fields + i) ≡ g = cc in
          let r = position-at (λ m. test m && is_called s.name s.desc m) c.methods i f in
          let passes = both_front (test r.0) (is_called s.name s.desc r.0) r.2 in
          subst (λ (v : Found). Has v (methods_of_class w c)) is (has-front (member_at c (length c.fields + i))
          (written c (length c.fields) c.methods) _ (written_has c (length c.fields) c.methods i r.0 r.1
          (plain r.0 passes)))

  got_has : (s : Signature) (g : Found) → got (added w c) s c ≡ Some g → Has g (methods_of_class w c)
  unfolding got
  got_has s g e = by (position (λ m. is_called s.name s.desc m) (added w c)) refl e
    where
      by : (o : Option ℕ) → position (λ m. is_called s.name s.desc m) (added w c) ≡ o
          → option_map (λ i. member_at c (length c.fields + length c.methods + i)) o ≡ Some g
          → Has g (methods_of_class w c)
      by None f h = absurd (cc)
      by (Some i) f h =
          let is : member_at c (length c.fields + length c.methods + i) ≡ g = cc in
          let r = position-at (λ m. is_called s.name s.desc m) (added w c) i f in
          subst (λ (v : Found). Has v (methods_of_class w c)) is
          (has-back (member_at c (length c.fields + length c.methods + i)) (written c (length c.fields) c.methods) _
          (places_has c (length c.fields + length c.methods) (length (added w c)) i (get_below (added w c) i r.0
          r.1)))

-- a method of a class of the package that is no interface
pub record IsOwn (w : List Class) (g : Found) : Type 0 where
  pub class : Class
  pub there : Has class (in_order w false)
  pub one : Has g (methods_of_class w class)

module _ (list : List ℕ) (p : Package) (sound : IsSound list p.files) where
  abbrev w : List Class
  w = world p

  -- above imported classes all are imported
  far : (test : Member → Bool) (s : Signature) (g : Found) (xs : List (List ℕ)) (k : Supertypes) → AreSupertypes w xs k
      → ((y : List ℕ) (d : Class) → Lists y xs → class_named w y ≡ Some d → d.is_imported ≡ true)
      → first (own test s) (upwards k) ≡ Some g → g.imported ≡ true
  unfolding first
  far test s g xs k ends all e = absurd (cc)
  far test s g (x ∷ xs) k (unknown_here {next = r} n b) all e = far test s g xs r b (λ y d l f. all y d (after l) f) e
  far test s g (x ∷ xs) k (known_here {c = c} {supers = a} {interfaces = q} {next = r} n sp ip b) all e =
      ⊎_elim
      (λ h. let i = own-at test s c g h in ap (λ (v : Found). v.imported) i.1 ∙ all x c foremost n)
      (λ h. ⊎_elim
      (λ j. far test s g c.supers a sp (λ y d l f. above y d l f) j)
      (λ j. far test s g xs r b (λ y d l f. all y d (after l) f) j)
      (or_parts (first (own test s) (upwards a)) (first (own test s) (upwards r)) g
      (sym (first-append (own test s) (upwards a) (upwards r)) ∙ h)))
      (or_parts (own test s c) (first (own test s) (upwards a ++ upwards r)) g e)
    where
      above : (y : List ℕ) (d : Class) → Lists y c.supers → class_named w y ≡ Some d → d.is_imported ≡ true
      above y d l f =
          let rule = right_supers w c (let u = kept list p.files sound c (has_named w x c n) in u.supers) in
          by d.is_imported (sym (ap is_of_class_file f) ∙ rule.of_import (all x c foremost n) y (lists-front y c.supers
          c.interfaces l))
        where
          by : (b : Bool) → not b ≡ false → b ≡ true
          by true e = refl
          by false e = absurd (cc)

  no_interface : (x : List ℕ) (c : Class) → class_named w x ≡ Some c → (y : List ℕ) (d : Class) → Lists y c.supers
      → class_named w y ≡ Some d → is_interface d.flags ≡ false
  no_interface x c n y d l f = let rule = right_supers w c (let u = kept list p.files sound c (has_named w x c n)
      in u.supers) in sym (ap is_interface_of f) ∙ rule.supers y l

  -- what a line means by a signature
  meant : (s : Signature) (g : Found) → g.imported ≡ false → (xs : List (List ℕ)) (k : Supertypes)
      → AreSupertypes w xs k → ((y : List ℕ) (d : Class) → Lists y xs → class_named w y ≡ Some d → is_interface d.flags
      ≡ false) → implementing (line_in w k) s ≡ Some g → IsOwn w g
  unfolding first
  meant s g im xs k ends all e = absurd (cc)
  meant s g im (x ∷ xs) k (unknown_here {next = r} n b) all e = absurd (cc)
  meant s g im (x ∷ xs) k (known_here {c = c} {supers = a} {interfaces = q} {next = r} n sp ip b) all e =
      by c.is_imported refl e (meant s g im c.supers a sp (no_interface x c n))
    where
      by : (t : Bool) → c.is_imported ≡ t → implementing (if t then Imported (c ∷ upwards a)
          else Declared c (added w c) (line_in w a)) s ≡ Some g → (implementing (line_in w a) s ≡ Some g → IsOwn w g)
          → IsOwn w g
      by true f h rest =
          let far_one : g.imported ≡ true = ⊎_elim
          (λ i. let j = own-at is_virtual s c g i in ap (λ (v : Found). v.imported) j.1 ∙ f)
          (λ i. far is_virtual s g c.supers a sp (λ y d l m. above f y d l m) i)
          (or_parts (own is_virtual s c) (first (own is_virtual s) (upwards a)) g h) in
          absurd (cc)
        where
          above : c.is_imported ≡ true → (y : List ℕ) (d : Class) → Lists y c.supers → class_named w y ≡ Some d
              → d.is_imported ≡ true
          above f y d l m =
              let rule = right_supers w c (let u = kept list p.files sound c (has_named w x c n) in u.supers) in
              turn d.is_imported (sym (ap is_of_class_file m)
              ∙ rule.of_import f y (lists-front y c.supers c.interfaces l))
            where
              turn : (b : Bool) → not b ≡ false → b ≡ true
              turn true e = refl
              turn false e = absurd (cc)
      by false f h rest =
          let there = in_place list p sound c false (has_named w x c n) f (all x c foremost n) in
          ⊎_elim
          (λ i. record { class = c; there = there; one = own_has w c is_shown shown_plain s g i })
          (λ i. ⊎_elim (λ j. record { class = c; there = there; one = got_has w c s g j }) (λ j. rest j)
          (or_parts (got (added w c) s c) (implementing (line_in w a) s) g i))
          (or_parts (own is_shown s c) (or_else (got (added w c) s c) (implementing (line_in w a) s)) g h)

  meant_hidden : (s : Signature) (g : Found) → (xs : List (List ℕ)) (k : Supertypes) → AreSupertypes w xs k
      → ((y : List ℕ) (d : Class) → Lists y xs → class_named w y ≡ Some d → is_interface d.flags ≡ false)
      → implementing_hidden (line_in w k) s ≡ Some g → IsOwn w g
  meant_hidden s g xs k ends all e = absurd (cc)
  meant_hidden s g (x ∷ xs) k (unknown_here {next = r} n b) all e = absurd (cc)
  meant_hidden s g (x ∷ xs) k (known_here {c = c} {supers = a} {interfaces = q} {next = r} n sp ip b) all e =
      by c.is_imported refl e (meant_hidden s g c.supers a sp (no_interface x c n))
    where
      by : (t : Bool) → c.is_imported ≡ t → implementing_hidden (if t then Imported (c ∷ upwards a)
          else Declared c (added w c) (line_in w a)) s ≡ Some g → (implementing_hidden (line_in w a) s ≡ Some g
          → IsOwn w g) → IsOwn w g
      by true f h rest = absurd (cc)
      by false f h rest =
          let there = in_place list p sound c false (has_named w x c n) f (all x c foremost n) in
          ⊎_elim (λ i. record { class = c; there = there; one = own_has w c is_hidden hidden_plain s g i })
          (λ i. rest i) (or_parts (own is_hidden s c) (implementing_hidden (line_in w a) s) g h)

  -- ---- entries

  in_row : (implements : Signature → Option Found) (all : List (Option Signature)) (n : ℕ) (f : Found)
      → Has (Some f) (map of_package (drop n (map (meant_by implements) all))) → (s : Signature)
      × (implements s ≡ Some f) × (f.imported ≡ false)
  in_row implements all n f h =
      let r = has-mapped of_package (Some f) (drop n (map (meant_by implements) all)) h in
      let q = has-mapped (meant_by implements) r.0 all (has_dropped n r.0 (map (meant_by implements) all) r.1) in
      of_it r.0 r.2 (λ is. slot q.0 (q.2 ∙ is))
    where
      slot : (o : Option Signature) → meant_by implements o ≡ Some f → (s : Signature) × (implements s ≡ Some f)
      slot None e = absurd (cc)
      slot (Some s) e = (s, e)

      of_it : (o : Option Found) → of_package o ≡ Some f → (o ≡ Some f → (s : Signature) × (implements s ≡ Some f))
          → (s : Signature) × (implements s ≡ Some f) × (f.imported ≡ false)
      of_it None e rest = absurd (cc)
      of_it (Some g) e rest = by g.imported refl e
        where
          by : (b : Bool) → g.imported ≡ b → (if b then None else Some g) ≡ Some f → (s : Signature)
              × (implements s ≡ Some f) × (f.imported ≡ false)
          by true i j = absurd (cc)
          by false i j = let is : g ≡ f = cc in let q = rest (ap (λ (v : Found). Some v) is)
              in (q.0, q.1, ap (λ (v : Found). v.imported) (sym is) ∙ i)

  module _ (c : Class) (h : Has c w) (kind : is_interface c.flags ≡ false) where
    line_supertypes : AreSupertypes w (c.name ∷ []) (Known c (supertypes w c.supers) (supertypes w c.interfaces) End)
    line_supertypes = let acyclic = unbroken_is_acyclic list p.files sound.unbroken
        in known_here (own_name list p.files sound c h) (supertypes-AreSupertypes w acyclic c.supers)
        (supertypes-AreSupertypes w acyclic c.interfaces) ends

    itself : (y : List ℕ) (d : Class) → Lists y (c.name ∷ []) → class_named w y ≡ Some d → is_interface d.flags ≡ false
    itself y d l e = let is : y ≡ c.name = alone y l in let same : Some c ≡ Some d =
        sym (own_name list p.files sound c h) ∙ ap (class_named w) (sym is) ∙ e in let one : c ≡ d = cc
        in ap (λ (v : Class). is_interface v.flags) (sym one) ∙ kind
      where
        alone : (y : List ℕ) → Lists y (c.name ∷ []) → y ≡ c.name
        alone y foremost = refl
        alone y (after l) = elim l [ ]

    pub public_own : (f : Found) → Has (Some f) (let t = table_of w c in t.public) → IsOwn w f
    public_own f g =
        let r = in_row (implementing (line_at w c)) (slots (line_at w c)) (base c.number (row (line_at w c))) f g in
        meant r.0 f r.2 (c.name ∷ []) (Known c (supertypes w c.supers) (supertypes w c.interfaces) End) line_supertypes
        itself r.1

    pub package_own : (f : Found) → Has f (let t = table_of w c in t.«package») → IsOwn w f
    package_own f g =
        let r = in_row (implementing_hidden (line_at w c)) (hidden_slots (line_at w c))
        (base c.number (hidden_row (line_at w c))) f (methods_has f (entries c.number (hidden_row (line_at w c))) g)
        in
        meant_hidden r.0 f (c.name ∷ []) (Known c (supertypes w c.supers) (supertypes w c.interfaces) End)
        line_supertypes itself r.1
