-- Each method that the interfaces of a class of the package ask for has a token there.
use Rattle.std.proofs.Common.{◌≡◌, ℕ, suc, zero, refl, sym, ap, subst, ◌∙◌, Bool, true, false, List, [], ◌∷◌, ◌++◌}
use Rattle.std.proofs.Common.{append-nil, inl, inr, ⊎_elim}
use Rattle.std.specs.Prelude.{Some, if◌then◌else◌, slice_get, map, not, ◌&&◌, ◌||◌, ◌⊎◌}
use Rattle.std.specs.List.{list_any}
use Rattle.std.proofs.lemmas.Bool.{or_right}
use Rattle.cjc_world.specs.Bytes.AccessFlags.{is_abstract, is_interface, is_private, is_static}
use Rattle.cjc_world.specs.Classes.{Member, Class, class_named}
use Rattle.cjc_world.specs.Interfaces.{gathered, known}
use Rattle.cjc_world.specs.Supertypes.{Supertypes, AreSupertypes, Lists, after, ends, foremost, supertypes, known_here}
use Rattle.cjc_world.specs.Supertypes.{line, unknown_here, upwards}
use Rattle.cjc_world.specs.Lookup.{is_called}
use Rattle.cjc_world.specs.Added.{added, asked_by, declares_open, has_open, is_one_of, is_open, lacking, takes_added}
use Rattle.cjc_world.proofs.Rising.{known-append}
use Rattle.cjc_tokens.specs.Members.{In, Signature, all_methods, first_of, has, is_exposed, is_shown, later, same}
use Rattle.cjc_tokens.specs.Members.{signature_of, signatures}
use Rattle.cjc_tokens.specs.Lines.{Declared, Imported, Line, line_in, line_of}
use Rattle.cjc_tokens.specs.Methods.{interface_methods, interfaces_at}
use Rattle.cjc_tokens.specs.Slots.{has_slot, new_in, slots, token, with_new}
use Rattle.cjc_tokens.proofs.Facts.{chosen-In, chosen-passes, same-refl, same-true}
use Rattle.cjc_tokens.proofs.Held.{has_slot-append, here-has_slot, token-slot}
use Rattle.cjc_vtable.specs.Calls.{IsOneToOne, IsTold, is_special, selects}
use Rattle.cjc_vtable.specs.Laws.{KeepsInterfaces, KeepsRules}
use Rattle.cjc_vtable.proofs.Asked.{Among, among-split, at_head, further, has-here, method-asked, public-shown}
use Rattle.cjc_vtable.proofs.Calls.{In-behind, In-front, token-some}
use Rattle.cjc_vtable.proofs.Given.{In-split, any-In}
use Rattle.cjc_vtable.proofs.Once.{listed_token}
use Rattle.cjc_vtable.proofs.Stood.{gathered-interface, gathered-named, in-interface}
use Rattle.cjc_vtable.proofs.SlotNames.{In-has}
use Rattle.cjc_vtable.proofs.Shown.{offered-slot}
use Rattle.cjc_vtable.proofs.Told.{told-slots}
use Rattle.cjc_vtable.proofs.Worlds.{line_of-declared, methods-behind, methods-front, told-line}
use Rattle.cjc_vtable.specs.Meant.{HaveOneAccess}

-- ---- members of lists

any-one : (test : Member → Bool) (ms : List Member) → list_any test ms ≡ true → (m : Member) × In m ms × (test m ≡ true)
any-one test [] e = absurd (cc)
any-one test (n ∷ ms) e = by (test n) refl e (any-one test ms)
  where
    by : (b : Bool) → test n ≡ b → (b || list_any test ms) ≡ true → (list_any test ms ≡ true → (m : Member) × In m ms
        × (test m ≡ true)) → (m : Member) × In m (n ∷ ms) × (test m ≡ true)
    by true f g rest = (n, first_of, f)
    by false f g rest = let r = rest g in (r.0, later r.1, r.2)

among-at : (is : List Class) (j : ℕ) (i : Class) → slice_get is j ≡ Some i → Among i is
among-at [] j i e = absurd (cc)
among-at (d ∷ is) zero i e = let same : d ≡ i = cc in subst (λ (q : Class). Among i (q ∷ is)) (sym same) at_head
among-at (d ∷ is) (suc j) i e = further (among-at is j i e)

-- ---- a method that is asked for is added where it is not there

-- one of this signature is there, or is among these
abbrev IsGiven : (there : Member → Bool) → Signature → List Member → Type 0
IsGiven there s more = ((m : Member) × (signature_of m ≡ s) × (there m ≡ true)) ⊎ (has (map signature_of more) s ≡ true)

one_more : (n : Member) (s : Signature) (before : List Member) → is_called s.name s.desc n ≡ false
    → is_one_of (before ++ n ∷ []) s.name s.desc ≡ is_one_of before s.name s.desc
one_more n s [] f = ap (λ b. b || false) f
one_more n s (m ∷ before) f = ap (λ b. is_called s.name s.desc m || b) (one_more n s before f)

given_or_there : (there : Member → Bool) (given ms : List Member) (s : Signature) → is_one_of given s.name s.desc
    ≡ false → is_one_of ms s.name s.desc ≡ true → IsGiven there s (lacking there given ms)
unfolding lacking
given_or_there there given [] s none e = absurd (cc)
given_or_there there given (n ∷ ms) s none e =
    by (is_called s.name s.desc n) (there n) (is_one_of given n.name n.desc) refl refl refl e
    (given_or_there there given ms s none) (λ f. given_or_there there (given ++ n ∷ []) ms s (one_more n s given f
    ∙ none))
  where
    behind : (more : List Member) → IsGiven there s more → IsGiven there s (n ∷ more)
    behind more (inl h) = inl h
    behind more (inr h) = inr (or_right (same (signature_of n) s) (has (map signature_of more) s) h)

    by : (a b g : Bool) → is_called s.name s.desc n ≡ a → there n ≡ b → is_one_of given n.name n.desc ≡ g
        → (a || is_one_of ms s.name s.desc) ≡ true
        → (is_one_of ms s.name s.desc ≡ true → IsGiven there s (lacking there given ms))
        → (is_called s.name s.desc n ≡ false → is_one_of ms s.name s.desc ≡ true
        → IsGiven there s (lacking there (given ++ n ∷ []) ms))
        → IsGiven there s (if b || g then lacking there given ms else n ∷ lacking there (given ++ n ∷ []) ms)
    by true true g f h k e rest more = inl (n, same-true (signature_of n) s f, h)
    by true false true f h k e rest more =
        let is = same-true (signature_of n) s f in
        let clash : true ≡ false = sym k ∙ ap (λ (q : Signature). is_one_of given q.name q.desc) is ∙ none
        in absurd (cc)
    by true false false f h k e rest more =
        inr (ap (λ b. b || has (map signature_of (lacking there (given ++ n ∷ []) ms)) s) f)
    by false true g f h k e rest more = rest e
    by false false true f h k e rest more = rest e
    by false false false f h k e rest more = behind (lacking there (given ++ n ∷ []) ms) (more f e)

-- ---- lines

module _ (w : List Class) (are_supertypes : (xs : List (List ℕ)) → AreSupertypes w xs (supertypes w xs))
    (one_supertypes : (xs : List (List ℕ)) (j k : Supertypes) → AreSupertypes w xs j → AreSupertypes w xs k
    → j ≡ k) (rules : KeepsRules w) where
  -- none of the classes of these names is an interface
  abbrev AreClasses : List (List ℕ) → Type 0
  AreClasses xs = (y : List ℕ) (d : Class) → Lists y xs → class_named w y ≡ Some d → is_interface d.flags ≡ false

  supers-classes : (x : List ℕ) (c : Class) → class_named w x ≡ Some c → AreClasses c.supers
  supers-classes x c e y d l g = rules.superclasses x y c d e l g

  one-class : (x : List ℕ) (c : Class) → class_named w x ≡ Some c → is_interface c.flags ≡ false
      → (y : List ℕ) (d : Class) → Lists y (x ∷ []) → class_named w y ≡ Some d → is_interface d.flags ≡ false
  one-class x c e class_here y d foremost g = let is : c ≡ d = cc in subst (λ (v : Class). is_interface v.flags ≡ false)
      is class_here
  one-class x c e class_here y d (after l) g = elim l [ ]

  -- what the superclass has a slot for, and what the class declares or gets
  above-slot : (c : Class) (above : Line) (s : Signature) → IsTold above → has_slot (slots above) s ≡ true
      → has_slot (slots (Declared c (added w c) above)) s ≡ true
  above-slot c above s told e =
      let all = with_new (slots above) (signatures is_shown c.methods) in
      ap (λ q. has_slot q s) (told-slots c (added w c) above told)
      ∙ has_slot-append all (map Some (new_in all (map signature_of (added w c)))) s (has_slot-append (slots above)
      (map Some (new_in (slots above) (signatures is_shown c.methods))) s e)

  declared-slot : (c : Class) (above : Line) (m : Member) (s : Signature) → In m c.methods → is_shown m ≡ true
      → signature_of m ≡ s → has_slot (slots (Declared c (added w c) above)) s ≡ true
  declared-slot c above m s i shown is = offered-slot c (added w c) above s (inl (In-has is_shown c.methods m s i shown
      is))

  got-slot : (c : Class) (above : Line) (s : Signature) → has (map signature_of (added w c)) s ≡ true
      → has_slot (slots (Declared c (added w c) above)) s ≡ true
  got-slot c above s e = offered-slot c (added w c) above s (inr e)

  -- an imported class that is no interface has a slot for each public or protected virtual method that it or a super
  -- lists
  listed-slot : (x : List ℕ) (c : Class) (p : Supertypes) → class_named w x ≡ Some c → c.is_imported ≡ true
      → is_interface c.flags ≡ false → AreSupertypes w c.supers p → (m : Member) (s : Signature)
      → In m (all_methods (c ∷ upwards p)) → is_shown m ≡ true → signature_of m ≡ s
      → has_slot (slots (Imported (c ∷ upwards p))) s ≡ true
  listed-slot x c p e im class_here sp m s i shown is =
      let told : IsOneToOne (all_methods (c ∷ upwards p)) =
      subst (λ j. IsOneToOne (c.methods ++ all_methods (upwards j))) (one_supertypes c.supers
      (supertypes w c.supers) p (are_supertypes c.supers) sp) (rules.told x c e im class_here) in
      let t = listed_token (c ∷ upwards p) m told i shown in
      here-has_slot (slots (Imported (c ∷ upwards p))) m.token s (token-slot (slots (Imported (c ∷ upwards p)))
      (signature_of m) m.token t ∙ ap (λ q. Some (Some q)) is)

  -- a public or protected virtual method of a class or a superclass has a slot
  shown-slot : (xs : List (List ℕ)) (k : Supertypes) (x : List ℕ) (m : Member) (s : Signature) → AreSupertypes w xs k
      → AreClasses xs → xs ≡ x ∷ [] → In m (all_methods (upwards k)) → is_shown m ≡ true → signature_of m ≡ s
      → has_slot (slots (line_in w k)) s ≡ true
  shown-slot xs k x m s ends classes e i shown is = absurd (cc)
  shown-slot xs k x m s (unknown_here g ends) classes e i shown is = elim i [ ]
  shown-slot xs k x m s (unknown_here g (unknown_here h b)) classes e i shown is = absurd (cc)
  shown-slot xs k x m s (unknown_here g (known_here h sp ip b)) classes e i shown is = absurd (cc)
  shown-slot xs k x m s (known_here {x = y} {c = c} {supers = p} g sp ip ends) classes e i shown is =
      by c.is_imported refl (λ z one j. shown-slot c.supers p z m s sp (supers-classes y c g) one j shown is)
    where
      here : In m (all_methods (c ∷ upwards p))
      here = subst (λ cs. In m (all_methods cs)) (append-nil (c ∷ upwards p)) i

      by : (b : Bool) → c.is_imported ≡ b → ((z : List ℕ) → c.supers ≡ z ∷ [] → In m (all_methods (upwards p))
          → has_slot (slots (line_in w p)) s ≡ true) → has_slot (slots (if b then Imported (c ∷ upwards p)
          else Declared c (added w c) (line_in w p))) s ≡ true
      by true f rest = listed-slot y c p g f (classes y c foremost g) sp m s here shown is
      by false f rest = ⊎_elim
          (λ j. declared-slot c (line_in w p) m s j shown is)
          (λ j. let z = rules.single y c g f in above-slot c (line_in w p) s (told-line w are_supertypes
          one_supertypes rules c.supers p sp (λ v d l h im. supers-classes y c g v d l h)) (rest z.0 z.1 j))
          (In-split m c.methods (all_methods (upwards p)) here)
  shown-slot xs k x m s (known_here g sp ip (unknown_here h b)) classes e i shown is = absurd (cc)
  shown-slot xs k x m s (known_here g sp ip (known_here h sp' ip' b)) classes e i shown is = absurd (cc)

  module _ (access : HaveOneAccess w) where
    -- a method that is public or protected and not static is virtual, where it is not named like a constructor
    opened : (x : List ℕ) (c : Class) (m : Member) (s : Signature) → class_named w x ≡ Some c → In m c.methods
        → is_open m.flags ≡ true → signature_of m ≡ s → is_special s ≡ false → is_shown m ≡ true
    opened x c m s e i wide is plain = by (is_exposed m.flags) (is_private m.flags) (is_static m.flags)
        (is_special (signature_of m)) wide (access x c m e i) (ap is_special is ∙ plain)
      where
        by : (a p t v : Bool) → (a && not t) ≡ true → (a ≡ true → p ≡ false) → v ≡ false
            → (a && ((not p && not t) && not v)) ≡ true
        by true false false false f g h = refl
        by true true t v f g h = let no_way = g refl in absurd (cc)
        by true false true v f g h = absurd (cc)
        by true false false true f g h = absurd (cc)
        by false p t v f g h = absurd (cc)

    -- one that a class declares
    declares : (x : List ℕ) (c : Class) (s : Signature) → class_named w x ≡ Some c → is_special s ≡ false
        → declares_open s.name s.desc c ≡ true → (m : Member) × In m c.methods × (is_shown m ≡ true)
        × (signature_of m ≡ s)
    declares x c s e plain h =
        let r = any-one (λ m. is_open m.flags && is_called s.name s.desc m) c.methods h in
        let two = both (is_open r.0.flags) (is_called s.name s.desc r.0) r.2 in
        let is = same-true (signature_of r.0) s two.1 in
        (r.0, r.1, opened x c r.0 s e r.1 two.0 is plain, is)
      where
        both : (a b : Bool) → (a && b) ≡ true → (a ≡ true) × (b ≡ true)
        both true b f = (refl, f)
        both false b f = absurd (cc)

    four : (a b c d : Bool) → (a || b || c || d) ≡ true → (a ≡ true) ⊎ ((b ≡ true) ⊎ ((c ≡ true) ⊎ (d ≡ true)))
    four true b c d e = inl refl
    four false true c d e = inr (inl refl)
    four false false true d e = inr (inr (inl refl))
    four false false false d e = inr (inr (inr e))

    -- above imported classes, one of these lists it
    far : (xs : List (List ℕ)) (k : Supertypes) (s : Signature) → AreSupertypes w xs k → ((y : List ℕ) (d : Class)
        → Lists y xs → class_named w y ≡ Some d → d.is_imported ≡ true) → is_special s ≡ false
        → has_open s.name s.desc k ≡ true → (m : Member) × In m (all_methods (upwards k)) × (is_shown m ≡ true)
        × (signature_of m ≡ s)
    unfolding has_open
    far xs k s ends all plain h = absurd (cc)
    far (x ∷ xs) k s (unknown_here {next = r} e b) all plain h = far xs r s b (λ y d l f. all y d (after l) f) plain h
    far (x ∷ xs) k s (known_here {c = c} {supers = p} {interfaces = q} {next = r} e sp ip b) all plain h = ⊎_elim
        (λ f. let m = declares x c s e plain f in (
          m.0,
          In-front m.0 c.methods (all_methods (upwards p ++ upwards r))
              m.1,
          m.2,
          m.3,
        ))
        (λ g. ⊎_elim
        (λ f. let m = far c.supers p s sp (λ y d l n. rules.apart x y c d e (all x c foremost e) l n) plain f in (
          m.0,
          In-behind m.0 c.methods (all_methods (upwards p ++ upwards r)) (methods-front (upwards p) (upwards r) m.0
              m.1),
          m.2,
          m.3,
        ))
        (λ g. ⊎_elim
        (λ f. absurd (imported_gets_none c.is_imported (is_abstract c.flags) (not (is_interface c.flags))
        (is_one_of (asked_by p q) s.name s.desc) (all x c foremost e) f))
        (λ f. let m = far xs r s b (λ y d l n. all y d (after l) n) plain f
        in (
          m.0,
          In-behind m.0 c.methods (all_methods (upwards p ++ upwards r)) (methods-behind (upwards p)
              (upwards r) m.0 m.1),
          m.2,
          m.3,
        ))
        g)
        g)
        (four (declares_open s.name s.desc c) (has_open s.name s.desc p) (takes_added c
        && is_one_of (asked_by p q) s.name s.desc) (has_open s.name s.desc r) h)
      where
        imported_gets_none : (a b d e : Bool) → a ≡ true → (not a && b && d && e) ≡ true → ⊥
        imported_gets_none true b d e f g = cc
        imported_gets_none false b d e f g = cc

    -- what a class gets has a slot, where what its superclass has has one
    asked-slot : (x : List ℕ) (c : Class) (s : Signature) → class_named w x ≡ Some c → takes_added c ≡ true
        → is_special s ≡ false → is_one_of (asked_by (supertypes w c.supers) (supertypes w c.interfaces)) s.name s.desc
        ≡ true
        → (has_open s.name s.desc (supertypes w c.supers) ≡ true → has_slot (slots (line_in w (supertypes w c.supers)))
        s ≡ true) → has_slot (slots (Declared c (added w c) (line_in w (supertypes w c.supers)))) s ≡ true
    unfolding added
    asked-slot x c s e takes plain asked rest = ⊎_elim
        (λ r. ⊎_elim
        (λ f. let m = declares x c s e plain f in declared-slot c above m.0 s m.1 m.2 m.3)
        (λ f. above-slot c above s (told-line w are_supertypes one_supertypes rules c.supers (supertypes w c.supers)
        (are_supertypes c.supers) (λ v d l h im. supers-classes x c e v d l h)) (rest f))
        (two (declares_open s.name s.desc c) (has_open s.name s.desc (supertypes w c.supers))
        (sym (ap (λ (q : Signature). declares_open q.name q.desc c
        || has_open q.name q.desc (supertypes w c.supers)) r.1) ∙ r.2)))
        (λ h. got-slot c above s
        (ap (λ b. has (map signature_of (if b
        then lacking there [] (asked_by (supertypes w c.supers) (supertypes w c.interfaces)) else [])) s) takes
        ∙ h))
        (given_or_there there [] (asked_by (supertypes w c.supers) (supertypes w c.interfaces)) s refl asked)
      where
        above : Line
        above = line_in w (supertypes w c.supers)

        there : Member → Bool
        there m = declares_open m.name m.desc c || has_open m.name m.desc (supertypes w c.supers)

        two : (a b : Bool) → (a || b) ≡ true → (a ≡ true) ⊎ (b ≡ true)
        two true b f = inl refl
        two false b f = inr f

    -- what a class or a superclass has has a slot
    open-slot : (xs : List (List ℕ)) (k : Supertypes) (x : List ℕ) (s : Signature) → AreSupertypes w xs k
        → AreClasses xs → xs ≡ x ∷ [] → is_special s ≡ false → has_open s.name s.desc k ≡ true
        → has_slot (slots (line_in w k)) s ≡ true
    unfolding has_open
    open-slot xs k x s ends classes e plain h = absurd (cc)
    open-slot xs k x s (unknown_here g ends) classes e plain h = absurd (cc)
    open-slot xs k x s (unknown_here g (unknown_here f b)) classes e plain h = absurd (cc)
    open-slot xs k x s (unknown_here g (known_here f sp ip b)) classes e plain h = absurd (cc)
    open-slot xs k x s (known_here {x = y} {c = c} {supers = p} {interfaces = q} g sp ip ends) classes e plain h =
        by c.is_imported refl (λ z one f. open-slot c.supers p z s sp (supers-classes y c g) one plain f)
        (four (declares_open s.name s.desc c) (has_open s.name s.desc p) (takes_added c
        && is_one_of (asked_by p q) s.name s.desc) false h)
      where
        Rest : Type 0
        Rest = (z : List ℕ) → c.supers ≡ z ∷ [] → has_open s.name s.desc p ≡ true → has_slot (slots (line_in w p)) s
            ≡ true

        same_supers : supertypes w c.supers ≡ p
        same_supers = one_supertypes c.supers (supertypes w c.supers) p (are_supertypes c.supers) sp

        same_interfaces : supertypes w c.interfaces ≡ q
        same_interfaces = one_supertypes c.interfaces (supertypes w c.interfaces) q (are_supertypes c.interfaces) ip

        both : (a b : Bool) → (a && b) ≡ true → (a ≡ true) × (b ≡ true)
        both true b f = (refl, f)
        both false b f = absurd (cc)

        taken : (a b d : Bool) → (not a && b && d) ≡ true → a ≡ false
        taken true b d f = absurd (cc)
        taken false b d f = refl

        by : (b : Bool) → c.is_imported ≡ b → Rest → (declares_open s.name s.desc c ≡ true)
            ⊎ ((has_open s.name s.desc p ≡ true) ⊎ (((takes_added c && is_one_of (asked_by p q) s.name s.desc) ≡ true)
            ⊎ (false ≡ true)))
            → has_slot (slots (if b then Imported (c ∷ upwards p) else Declared c (added w c) (line_in w p))) s ≡ true
        by true f rest (inl d) = let m = declares y c s g plain d in listed-slot y c p g f (classes y c foremost g) sp
            m.0 s (In-front m.0 c.methods (all_methods (upwards p)) m.1) m.2 m.3
        by true f rest (inr (inl d)) =
            let m = far c.supers p s sp (λ z k l n. rules.apart y z c k g f l n) plain d in
            listed-slot y c p g f (classes y c foremost g) sp m.0 s (In-behind m.0 c.methods (all_methods (upwards p))
            m.1) m.2 m.3
        by true f rest (inr (inr (inl d))) = let no = taken c.is_imported (is_abstract c.flags)
            (not (is_interface c.flags)) (both (takes_added c) (is_one_of (asked_by p q) s.name s.desc) d).0
            in absurd (cc)
        by b f rest (inr (inr (inr d))) = absurd (cc)
        by false f rest (inl d) = let m = declares y c s g plain d in declared-slot c (line_in w p) m.0 s m.1 m.2 m.3
        by false f rest (inr (inl d)) = let z = rules.single y c g f in above-slot c (line_in w p) s (told-line w
            are_supertypes one_supertypes rules c.supers p sp (λ v d l h im. supers-classes y c g v d l h))
            (rest z.0 z.1 d)
        by false f rest (inr (inr (inl d))) =
            let two = both (takes_added c) (is_one_of (asked_by p q) s.name s.desc) d in
            let z = rules.single y c g f in
            subst (λ j. has_slot (slots (Declared c (added w c) (line_in w j))) s ≡ true) same_supers
            (asked-slot y c s g two.0 plain
            (ap (λ j. is_one_of (asked_by j (supertypes w c.interfaces)) s.name s.desc) same_supers
            ∙ ap (λ j. is_one_of (asked_by p j) s.name s.desc) same_interfaces ∙ two.1)
            (subst (λ j. has_open s.name s.desc j ≡ true → has_slot (slots (line_in w j)) s ≡ true) (sym same_supers)
            (rest z.0 z.1)))
    open-slot xs k x s (known_here g sp ip (unknown_here f b)) classes e plain h = absurd (cc)
    open-slot xs k x s (known_here g sp ip (known_here f sp' ip' b)) classes e plain h = absurd (cc)

    module _ (interfaces : KeepsInterfaces w) where
      plain-asked : (x : List ℕ) (c : Class) (m : Member) → class_named w x ≡ Some c
          → In m (asked_by (supertypes w c.supers) (supertypes w c.interfaces)) → is_special (signature_of m) ≡ false
      unfolding asked_by
      plain-asked x c m e i =
          let A = gathered false (supertypes w c.supers) in
          let B = gathered true (supertypes w c.interfaces) in
          let r = in-interface m (known (A ++ B)) i in
          let parts = among-split r.0 (known A) (known B) (subst (Among r.0) (known-append A B) r.1) in
          ⊎_elim
          (λ j. interfaces.plain r.0.name r.0 m (gathered-named w false c.supers (supertypes w c.supers) r.0
          (are_supertypes c.supers) j) r.2
          (gathered-interface w interfaces.listed false c.supers (supertypes w c.supers) r.0 (are_supertypes c.supers)
          (λ l y d v f. absurd (cc)) j))
          (λ j. interfaces.plain r.0.name r.0 m (gathered-named w true c.interfaces (supertypes w c.interfaces) r.0
          (are_supertypes c.interfaces) j) r.2
          (gathered-interface w interfaces.listed true c.interfaces (supertypes w c.interfaces) r.0
          (are_supertypes c.interfaces) (λ l y d v f. interfaces.listed x y c d e v f) j))
          parts

      asked-has_slot : (x : List ℕ) (c : Class) (m : Member) → class_named w x ≡ Some c → c.is_imported ≡ false
          → is_interface c.flags ≡ false → In m (asked_by (supertypes w c.supers) (supertypes w c.interfaces))
          → has_slot (slots (line_of w x)) (signature_of m) ≡ true
      unfolding line
      asked-has_slot x c m e own class_here i = by (is_abstract c.flags) refl
        where
          plain : is_special (signature_of m) ≡ false
          plain = plain-asked x c m e i

          takes : is_abstract c.flags ≡ true → takes_added c ≡ true
          takes f = three c.is_imported (is_abstract c.flags) (is_interface c.flags) own f class_here
            where
              three : (a b d : Bool) → a ≡ false → b ≡ true → d ≡ false → (not a && b && not d) ≡ true
              three false true false g h k = refl
              three true b d g h k = absurd (cc)
              three false false d g h k = absurd (cc)
              three false true true g h k = absurd (cc)

          by : (b : Bool) → is_abstract c.flags ≡ b → has_slot (slots (line_of w x)) (signature_of m) ≡ true
          by true f =
              let z = rules.single x c e own in
              ap (λ q. has_slot (slots q) (signature_of m)) (line_of-declared w are_supertypes one_supertypes rules x c
              e own)
              ∙ asked-slot x c (signature_of m) e (takes f) plain (any-In (λ n. is_called m.name m.desc n)
              (asked_by (supertypes w c.supers) (supertypes w c.interfaces)) m i (same-refl (signature_of m)))
              (open-slot c.supers (supertypes w c.supers) z.0 (signature_of m) (are_supertypes c.supers)
              (supers-classes x c e) z.1 plain)
          by false f =
              let n = interfaces.methods x c m e own f i in
              let is = chosen-passes selects (signature_of m) (all_methods (line w x)) n.0 n.1 in
              shown-slot (x ∷ []) (supertypes w (x ∷ [])) x n.0 (signature_of m) (are_supertypes (x ∷ []))
              (one-class x c e class_here) refl (chosen-In selects (signature_of m) (all_methods (line w x)) n.0
              n.1) (public-shown n.0 (signature_of m) is.0 is.1 n.2 plain) is.0

      pub asked_token : (x : List ℕ) (c : Class) → class_named w x ≡ Some c → c.is_imported ≡ false
          → is_interface c.flags ≡ false
          → (j : ℕ) (i : Class) → slice_get (known (interfaces_at w c)) j ≡ Some i → (k : ℕ) (s : Signature)
          → slice_get (interface_methods w i) k ≡ Some s → (t : ℕ) × (token (slots (line_of w x)) s ≡ Some t)
      asked_token x c e own class_here j i there k s at =
          let r = method-asked w are_supertypes one_supertypes c i s (among-at (known (interfaces_at w c)) j i there)
          (has-here (interface_methods w i) k s at) in
          token-some (slots (line_of w x)) s (subst (λ (u : Signature). has_slot (slots (line_of w x)) u ≡ true) r.2
          (asked-has_slot x c r.0 e own class_here r.1))
