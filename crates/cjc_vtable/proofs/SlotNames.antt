-- The methods that the tokens of a class mean have the names and descriptors of its slots.
use Rattle.std.proofs.Common.{◌≡◌, ℕ, zero, suc, ◌+◌, ◌-◌, ◌<◌, ◌≤◌, refl, sym, ap, subst, ◌∙◌, arith, Bool, true}
use Rattle.std.proofs.Common.{false, List, [], ◌∷◌, ◌++◌, length, map, get_or, inl, inr, ⊎_elim}
use Rattle.std.specs.Prelude.{Option, Some, None, if◌then◌else◌, slice_get, option_map, option_and_then, position}
use Rattle.std.specs.Prelude.{nat_lt, ◌&&◌, ◌||◌, ◌⊎◌}
use Rattle.std.proofs.lemmas.Option.{slice_get-map, slice_get_past}
use Rattle.cjc_world.specs.declared.found.Found.{Found}
use Rattle.cjc_world.specs.Files.{Files}
use Rattle.cjc_world.specs.Classes.{Member, Class, declared, all_classes, class_named, class_at}
use Rattle.cjc_world.specs.Bytes.AccessFlags.{is_interface}
use Rattle.cjc_world.proofs.BytesGets.{in_front, get_behind}
use Rattle.cjc_world.specs.Supertypes.{Supertypes, supertypes, AreSupertypes, ends, unknown_here, known_here, upwards}
use Rattle.cjc_world.specs.Lookup.{first, is_called, member_at, or_else}
use Rattle.cjc_world.specs.Added.{added, added_at, added_to, named_by}
use Rattle.cjc_tokens.specs.Members.{Signature, signature_of, same, has, signatures, is_shown, is_virtual, all_methods}
use Rattle.cjc_tokens.specs.Members.{In, first_of, later}
use Rattle.cjc_tokens.specs.Lines.{Line, Nowhere, Imported, Declared, line_in, line_at}
use Rattle.cjc_tokens.specs.Slots.{Slots, new_in, with_new, slots, own, got, implementing, meant_by, row, taken_slots}
use Rattle.cjc_tokens.specs.Tokens.{assigned, public_methods_of}
use Rattle.cjc_vtable.specs.Naming.{method_named, member_named, named, named_where}
use Rattle.cjc_vtable.specs.Working.Naming.{signature_by, ids_at}
use Rattle.cjc_tokens.proofs.Facts.{same-true, same-refl, position-cons, has-own_none, has-got_none}
use Rattle.cjc_tokens.proofs.Held.{at_either, new-offered, listed_slot, shown-virtual}
use Rattle.cjc_vtable.proofs.Assigned.{public-row}
use Rattle.cjc_vtable.proofs.Given.{In-split}
use Rattle.cjc_vtable.proofs.Numbers.{Numbered, at-kind, at-tree, named-number}
use Rattle.cjc_vtable.proofs.Told.{taken_slots-either}

-- ---- what stands at the first place that passes

pub position-at : {A : Type 0} (p : A → Bool) (xs : List A) (i : ℕ) → position p xs ≡ Some i → (x : A)
    × (slice_get xs i ≡ Some x) × (p x ≡ true)
position-at p [] i e = cc
position-at {A = A} p (x ∷ xs) i e = by (p x) refl (position p xs) refl (sym (position-cons p x xs)
    ∙ e) (position-at p xs)
  where
    by : (b : Bool) → p x ≡ b → (o : Option ℕ) → position p xs ≡ o → (if b then Some 0 else option_map suc o) ≡ Some i
        → ((j : ℕ) → position p xs ≡ Some j → (y : A) × (slice_get xs j ≡ Some y) × (p y ≡ true)) → (y : A)
        × (slice_get (x ∷ xs) i ≡ Some y) × (p y ≡ true)
    by true f o g e rest = let at : 0 ≡ i = cc in (x, subst (λ k. slice_get (x ∷ xs) k ≡ Some x) at refl, f)
    by false f None g e rest = cc
    by false f (Some j) g e rest =
        let at : suc j ≡ i = cc in
        let r = rest j g in
        (r.0, subst (λ k. slice_get (x ∷ xs) k ≡ Some r.0) at r.1, r.2)

-- ---- a method of a class has its name and descriptor

module _ (w : List Class) where
  placed-named : (c : Class) (i member : ℕ) (m : Member) → member ≡ length c.fields + i
      → slice_get (c.methods ++ added w c) i ≡ Some m → member_named w member c ≡ Some (signature_of m)
  placed-named c i member m at e =
      let past : nat_lt member (length c.fields) ≡ false = grind arith in
      let rest : member - length c.fields ≡ i = omega arith in
      ap (λ b. if b then None else method_named w c (member - length c.fields)) past
      ∙ ap (method_named w c) rest
      ∙ ap (option_map signature_of) e

  found-named : (c : Class) (i member : ℕ) (m : Member) (f : Found) → Numbered w c → member ≡ length c.fields + i
      → f ≡ member_at c member → slice_get (c.methods ++ added w c) i ≡ Some m → named w f ≡ Some (signature_of m)
  unfolding named
  found-named c i member m f there at is e =
      ap (λ (g : Found). option_and_then (member_named w g.member) (class_at w g.imported g.class)) is
      ∙ ap (option_and_then (member_named w member)) there
      ∙ placed-named c i member m at e

  own-named : (test : Member → Bool) (s : Signature) (c : Class) (f : Found) → Numbered w c → own test s c ≡ Some f
      → named w f ≡ Some s
  unfolding own
  own-named test s c f there e = by (position (λ m. test m && is_called s.name s.desc m) c.methods) refl e
    where
      second : (a b : Bool) → (a && b) ≡ true → b ≡ true
      second true b h = h
      second false b h = cc

      by : (o : Option ℕ) → position (λ m. test m && is_called s.name s.desc m) c.methods ≡ o
          → option_map (λ i. member_at c (length c.fields + i)) o ≡ Some f → named w f ≡ Some s
      by None g e = cc
      by (Some i) g e =
          let r = position-at (λ m. test m && is_called s.name s.desc m) c.methods i g in
          let is : member_at c (length c.fields + i) ≡ f = cc in
          found-named c i (length c.fields + i) r.0 f there refl (sym is) (in_front c.methods (added w c) i r.0 r.1)
          ∙ ap (λ q. Some q) (same-true (signature_of r.0) s (second (test r.0) (is_called s.name s.desc r.0) r.2))

  got-named : (s : Signature) (c : Class) (f : Found) → Numbered w c → got (added w c) s c ≡ Some f → named w f ≡ Some s
  unfolding got
  got-named s c f there e = by (position (λ m. is_called s.name s.desc m) (added w c)) refl e
    where
      by : (o : Option ℕ) → position (λ m. is_called s.name s.desc m) (added w c) ≡ o
          → option_map (λ i. member_at c (length c.fields + length c.methods + i)) o ≡ Some f → named w f ≡ Some s
      by None g e = cc
      by (Some i) g e =
          let r = position-at (λ m. is_called s.name s.desc m) (added w c) i g in
          let is : member_at c (length c.fields + length c.methods + i) ≡ f = cc in
          found-named c (length c.methods + i) (length c.fields + length c.methods + i) r.0 f there (omega arith)
          (sym is) (get_behind c.methods (added w c) i ∙ r.1)
          ∙ ap (λ q. Some q) (same-true (signature_of r.0) s r.2)

  -- ---- along a line whose classes are those of their numbers

  abbrev pub AreSeen : List Class → Type 0
  AreSeen [] = Unit {0}
  AreSeen (c ∷ cs) = Numbered w c × AreSeen cs

  abbrev pub IsSeen : Line → Type 0
  IsSeen Nowhere = Unit {0}
  IsSeen (Imported classes) = AreSeen classes
  IsSeen (Declared c given above) = Numbered w c × (given ≡ added w c) × IsSeen above

  first-named : (test : Member → Bool) (s : Signature) (classes : List Class) (f : Found) → AreSeen classes
      → first (own test s) classes ≡ Some f → named w f ≡ Some s
  unfolding first
  first-named test s [] f seen e = cc
  first-named test s (c ∷ classes) f seen e = by (own test s c) refl e (first-named test s classes f seen.1)
    where
      by : (o : Option Found) → own test s c ≡ o → or_else o (first (own test s) classes) ≡ Some f
          → (first (own test s) classes ≡ Some f → named w f ≡ Some s) → named w f ≡ Some s
      by None g e rest = rest e
      by (Some h) g e rest = own-named test s c f seen.0 (g ∙ e)

  pub implementing-named : (line : Line) (s : Signature) (f : Found) → IsSeen line → implementing line s ≡ Some f
      → named w f ≡ Some s
  implementing-named Nowhere s f seen e = cc
  implementing-named (Imported classes) s f seen e = first-named is_virtual s classes f seen e
  implementing-named (Declared c given above) s f seen e = by (own is_shown s c) refl (got given s c) refl e
      (implementing-named above s f seen.2)
    where
      by : (o : Option Found) → own is_shown s c ≡ o → (p : Option Found) → got given s c ≡ p
          → or_else o (or_else p (implementing above s)) ≡ Some f → (implementing above s ≡ Some f → named w f ≡ Some s)
          → named w f ≡ Some s
      by (Some g) h p k e rest = own-named is_shown s c f seen.0 (h ∙ e)
      by None h (Some g) k e rest = got-named s c f seen.0 (ap (λ q. got q s c) (sym seen.1) ∙ k ∙ e)
      by None h None k e rest = rest e

-- ---- each slot has a method

pub In-has : (test : Member → Bool) (ms : List Member) (m : Member) (s : Signature) → In m ms → test m ≡ true
    → signature_of m ≡ s → has (signatures test ms) s ≡ true
In-has test [] m s i e is = elim i [ ]
In-has test (n ∷ ms) m s first_of e is = ap (λ b. has (if b then signature_of n ∷ signatures test ms
    else signatures test ms) s) e ∙ ap (λ q. same q s || has (signatures test ms) s) is
    ∙ ap (λ b. b || has (signatures test ms) s) (same-refl s)
In-has test (n ∷ ms) m s (later i) e is = by (test n) (same (signature_of n) s) refl (In-has test ms m s i e is)
  where
    by : (b a : Bool) → same (signature_of n) s ≡ a → has (signatures test ms) s ≡ true
        → has (if b then signature_of n ∷ signatures test ms else signatures test ms) s ≡ true
    by true true f h = ap (λ q. q || has (signatures test ms) s) f
    by true false f h = ap (λ q. q || has (signatures test ms) s) f ∙ h
    by false a f h = h

first-there : (s : Signature) (classes : List Class) (m : Member) → In m (all_methods classes) → is_virtual m ≡ true
    → signature_of m ≡ s → first (own is_virtual s) classes ≡ None → ⊥
unfolding first
first-there s [] m i v is e = elim i [ ]
first-there s (c ∷ classes) m i v is e = by (own is_virtual s c) refl e (first-there s classes m)
  where
    by : (o : Option Found) → own is_virtual s c ≡ o → or_else o (first (own is_virtual s) classes) ≡ None
        → (In m (all_methods classes) → is_virtual m ≡ true → signature_of m ≡ s → first (own is_virtual s) classes
        ≡ None → ⊥) → ⊥
    by (Some g) h e rest = cc
    by None h e rest = ⊎_elim
        (λ j. let no = has-own_none is_virtual s c h in let yes' = In-has is_virtual c.methods m s j v is in cc)
        (λ j. rest j v is e)
        (In-split m c.methods (all_methods classes) i)

-- what stands in front, or one of those that were offered
split-slot : (front : Slots) (ss : List Signature) (t : ℕ) (s : Signature) → slice_get (with_new front ss) t
    ≡ Some (Some s) → (slice_get front t ≡ Some (Some s)) ⊎ (has ss s ≡ true)
split-slot front ss t s e = ⊎_elim (λ h. inl h) (λ h. inr (new-offered front ss s h)) (at_either front (new_in front ss)
    t s e)

pub slot-there : (line : Line) (t : ℕ) (s : Signature) → slice_get (slots line) t ≡ Some (Some s)
    → implementing line s ≡ None → ⊥
slot-there Nowhere t s e none = cc
slot-there (Imported classes) t s e none =
    let m = listed_slot (all_methods classes) t s e in
    first-there s classes m.0 m.1 (shown-virtual m.0 m.2) m.4 none
slot-there (Declared c given above) t s e none = by (own is_shown s c) refl (got given s c) refl none
    (slot-there above t s)
  where
    by : (o : Option Found) → own is_shown s c ≡ o → (p : Option Found) → got given s c ≡ p
        → or_else o (or_else p (implementing above s)) ≡ None → (slice_get (slots above) t ≡ Some (Some s)
        → implementing above s ≡ None → ⊥) → ⊥
    by (Some g) h p k none rest = cc
    by None h (Some g) k none rest = cc
    by None h None k none rest = ⊎_elim
        (λ front. ⊎_elim
        (λ there. ⊎_elim
        (λ old. rest old none)
        (λ taken. let no = has-own_none is_shown s c h in cc)
        (taken_slots-either c above (slots above) t s there))
        (λ offered. let no = has-own_none is_shown s c h in cc)
        (split-slot (taken_slots c above (slots above)) (signatures is_shown c.methods) t s front))
        (λ offered. let no = has-got_none given s c k in cc)
        (split-slot (with_new (taken_slots c above (slots above)) (signatures is_shown c.methods)) (map signature_of
        given) t s e)

-- ---- the names of the methods of a row are its slots

map-back : (there : Option Found → Option Signature) (back : Option Signature → Option Found) (all : Slots)
    → ((t : ℕ) (o : Option Signature) → slice_get all t ≡ Some o → there (back o) ≡ o) → map there (map back all) ≡ all
map-back there back [] same_one = refl
map-back there back (o ∷ all) same_one = ap (λ q. q ∷ map there (map back all)) (same_one zero o refl)
    ∙ ap (λ q. o ∷ q) (map-back there back all (λ t p e. same_one (suc t) p e))

row-named : (w : List Class) (line : Line) → IsSeen w line → map (named_where w) (row line) ≡ slots line
row-named w line seen = map-back (named_where w) (meant_by (implementing line)) (slots line) each
  where
    some : (t : ℕ) (s : Signature) (o : Option Found) → implementing line s ≡ o → slice_get (slots line) t
        ≡ Some (Some s) → named_where w o ≡ Some s
    some t s None f e = absurd (slot-there line t s e f)
    some t s (Some g) f e = implementing-named w line s g seen f

    each : (t : ℕ) (o : Option Signature) → slice_get (slots line) t ≡ Some o
        → named_where w (meant_by (implementing line) o) ≡ o
    each t None e = refl
    each t (Some s) e = some t s (implementing line s) refl e

-- ---- the line of a class of a world

module _ (w : List Class) (numbered_ones : (x : List ℕ) (d : Class) → class_named w x ≡ Some d → Numbered w d) where
  seen-append : (a b : List Class) → AreSeen w a → AreSeen w b → AreSeen w (a ++ b)
  seen-append [] b p q = q
  seen-append (c ∷ a) b p q = (p.0, seen-append a b p.1 q)

  seen-upwards : (xs : List (List ℕ)) (k : Supertypes) → AreSupertypes w xs k → AreSeen w (upwards k)
  seen-upwards [] k ends = tt
  seen-upwards (x ∷ xs) k (unknown_here {next = r} e b) = seen-upwards xs r b
  seen-upwards (x ∷ xs) k (known_here {c = c} {supers = p} {interfaces = q} {next = r} e s t b) =
      (numbered_ones x c e, seen-append (upwards p) (upwards r) (seen-upwards c.supers p s) (seen-upwards xs r b))

  pub seen-line : (xs : List (List ℕ)) (k : Supertypes) → AreSupertypes w xs k → IsSeen w (line_in w k)
  seen-line [] k ends = tt
  seen-line (x ∷ xs) k (unknown_here e b) = tt
  seen-line (x ∷ xs) k (known_here {c = c} {supers = p} {interfaces = q} {next = r} e s t b) =
      by c.is_imported (seen-line c.supers p s)
    where
      by : (f : Bool) → IsSeen w (line_in w p) → IsSeen w (if f then Imported (c ∷ upwards p)
          else Declared c (added w c) (line_in w p))
      by true above = (numbered_ones x c e, seen-upwards c.supers p s)
      by false above = (numbered_ones x c e, refl, above)

  seen-at : (c : Class) → Numbered w c → AreSupertypes w c.supers (supertypes w c.supers) → IsSeen w (line_at w c)
  seen-at c there tree = by c.is_imported
    where
      by : (f : Bool) → IsSeen w (if f then Imported (c ∷ upwards (supertypes w c.supers))
          else Declared c (added w c) (line_in w (supertypes w c.supers)))
      by true = (there, seen-upwards c.supers (supertypes w c.supers) tree)
      by false = (there, refl, seen-line c.supers (supertypes w c.supers) tree)

-- ---- the names of what tokens keep of a class of the package

pub slots-named : (files : Files) (applets : Bool) (n : ℕ) (d : Class)
    → ((xs : List (List ℕ)) → AreSupertypes (all_classes files) xs (supertypes (all_classes files) xs))
    → class_at (all_classes files) false n ≡ Some d
    → is_interface d.flags ≡ false
    → map (named_where (all_classes files)) (public_methods_of (assigned applets files) n)
    ≡ slots (line_at (all_classes files) d)
slots-named files applets n d trees there plain =
    let w = all_classes files in
    let t = at-tree files n d there in
    let k = at-kind w false n d there in
    let numbered_one : Numbered w d = ap (λ q. class_at w q d.number) k.0 ∙ ap (class_at w false) k.1 ∙ there in
    let plain_tree : is_interface t.0.flags ≡ false = ap (λ (q : Class). is_interface q.flags) (sym t.2) ∙ plain in
    ap (map (named_where w)) (public-row files applets n t.0 t.1 plain_tree (assigned applets files) refl
    ∙ ap (λ q. row (line_at w q)) (sym t.2))
    ∙ row-named w (line_at w d) (seen-at w (named-number files) d numbered_one (trees d.supers))

-- ---- what the code holds of added methods

names-by : (class : List ℕ) (ms : List Member) → map signature_by (map (named_by class) ms) ≡ map signature_of ms
names-by class [] = refl
names-by class (m ∷ ms) = ap (λ q. signature_of m ∷ q) (names-by class ms)

pub added-none : (w : List Class) (c : Class) → c.is_imported ≡ true → added w c ≡ []
unfolding added
added-none w c e = grind arith

pub ids_past : (files : Files) (n : ℕ) → length files.classes ≤ n → added_at files n ≡ []
unfolding added_at
ids_past files n le = ap (added_to (all_classes files) n) (slice_get_past files.classes n le)

pub ids-added : (files : Files) (f : Found) (c : Class) → class_at (all_classes files) f.imported f.class ≡ Some c
    → map signature_by (ids_at files f) ≡ map signature_of (added (all_classes files) c)
unfolding added_at
ids-added files f c there = by f.imported refl
  where
    w : List Class
    w = all_classes files

    by : (b : Bool) → f.imported ≡ b → map signature_by (if b then [] else added_to (all_classes files) f.class
        (slice_get files.classes f.class)) ≡ map signature_of (added (all_classes files) c)
    by true e =
        let k = at-kind (all_classes files) true f.class c (ap (λ q. class_at (all_classes files) q f.class) (sym e)
        ∙ there) in
        sym (ap (map signature_of) (added-none (all_classes files) c k.0))
    by false e =
        let t = at-tree files f.class c (ap (λ q. class_at (all_classes files) q f.class) (sym e) ∙ there) in
        ap (λ o. map signature_by (added_to (all_classes files) f.class o)) t.1
        ∙ names-by t.0.name (added (all_classes files) (declared f.class t.0))
        ∙ ap (λ q. map signature_of (added (all_classes files) q)) (sym t.2)

-- ---- at a place of a class

pub own-place : (w : List Class) (c : Class) (place : ℕ) → place < length c.methods → method_named w c place
    ≡ option_map signature_of (slice_get c.methods place)
own-place w c place lt = ap (option_map signature_of) (in_front_of c.methods (added w c) place lt)
  where
    in_front_of : (xs ys : List Member) (i : ℕ) → i < length xs → slice_get (xs ++ ys) i ≡ slice_get xs i
    in_front_of [] ys i lt = absurd (omega arith)
    in_front_of (x ∷ xs) ys zero lt = refl
    in_front_of (x ∷ xs) ys (suc i) lt = in_front_of xs ys i (omega arith)

pub added-place : (files : Files) (f : Found) (c : Class) (place : ℕ) → class_at (all_classes files) f.imported f.class
    ≡ Some c → length c.methods ≤ place → method_named (all_classes files) c place ≡ option_map signature_by
    (slice_get (ids_at files f) (place - length c.methods))
added-place files f c place there le =
    let w = all_classes files in
    let at : place ≡ length c.methods + (place - length c.methods) = omega arith in
    ap (method_named w c) at
    ∙ ap (option_map signature_of) (get_behind c.methods (added w c) (place - length c.methods))
    ∙ sym (slice_get-map signature_of (added w c) (place - length c.methods))
    ∙ ap (λ q. slice_get q (place - length c.methods)) (sym (ids-added files f c there))
    ∙ slice_get-map signature_by (ids_at files f) (place - length c.methods)

signature : List ℕ → List ℕ → Signature
signature n d = record { name = n; desc = d }

-- a class's own method by its name and descriptor
pub own-member : (ms : List Member) (i : ℕ) (name desc : List ℕ) → i < length ms
    → ((d : Member) → name ≡ (get_or ms i d).name) → ((d : Member) → desc ≡ (get_or ms i d).desc)
    → Some (record { name = name; desc = desc }) ≡ option_map signature_of (slice_get ms i)
unfolding signature
own-member [] i name desc lt e f = absurd (omega arith)
own-member (m ∷ ms) zero name desc lt e f = ap (λ n. Some (signature n desc)) (e m)
    ∙ ap (λ d. Some (signature m.name d)) (f m)
own-member (m ∷ ms) (suc i) name desc lt e f = own-member ms i name desc (omega arith) (λ d. e d) (λ d. f d)

pub own-past : (ms : List Member) (i : ℕ) → length ms ≤ i → None ≡ option_map signature_of (slice_get ms i)
own-past ms i le = sym (ap (option_map signature_of) (slice_get_past ms i le))

-- ---- a method is one of its class

pub named-in : (w : List Class) (f : Found) (c : Class) → class_at w f.imported f.class ≡ Some c
    → named w f ≡ member_named w f.member c
unfolding named
named-in w f c e = ap (option_and_then (member_named w f.member)) e

pub named-nowhere : (w : List Class) (f : Found) → class_at w f.imported f.class ≡ None → named w f ≡ None
unfolding named
named-nowhere w f e = ap (option_and_then (member_named w f.member)) e

pub named-field : (w : List Class) (member : ℕ) (c : Class) → member < length c.fields → member_named w member c ≡ None
named-field w member c lt = let is : nat_lt member (length c.fields) ≡ true = grind arith in ap (λ b. if b then None
    else method_named w c (member - length c.fields)) is

pub named-method : (w : List Class) (member : ℕ) (c : Class) → length c.fields ≤ member → member_named w member c
    ≡ method_named w c (member - length c.fields)
named-method w member c le = let is : nat_lt member (length c.fields) ≡ false = grind arith in ap (λ b. if b then None
    else method_named w c (member - length c.fields)) is
