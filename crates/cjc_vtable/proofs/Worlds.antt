-- From the rules of a world to its lines.
use Rattle.std.proofs.Common.{◌≡◌, ℕ, refl, sym, ap, subst, ◌∙◌, Bool, true, false, List, [], ◌∷◌, ◌++◌, append-nil}
use Rattle.std.proofs.Common.{⊎_elim}
use Rattle.std.specs.Prelude.{Option, Some, None, if◌then◌else◌}
use Rattle.cjc_world.specs.Classes.{Member, Class, class_named}
use Rattle.cjc_world.specs.Bytes.AccessFlags.{is_public, is_interface}
use Rattle.cjc_world.specs.Interfaces.{where_listed, gathered, known}
use Rattle.cjc_world.specs.Supertypes.{Supertypes, End, Unknown, Known, supertypes, AreSupertypes, ends, unknown_here}
use Rattle.cjc_world.specs.Supertypes.{known_here, Lists, foremost, after, upwards, line}
use Rattle.cjc_world.specs.Lookup.{first, own_method, or_else}
use Rattle.cjc_world.specs.Added.{added, own_methods, methods_of, asked_by}
use Rattle.cjc_tokens.specs.Members.{Signature, signature_of, is_shown, all_methods, In, chosen, first_of, later}
use Rattle.cjc_tokens.specs.Lines.{Line, Imported, Declared, line_in, line_of}
use Rattle.cjc_tokens.specs.Slots.{own, slots, hidden_slots, shown_token, token}
use Rattle.cjc_tokens.specs.Methods.{interfaces_at, interface_methods}
use Rattle.cjc_vtable.specs.Tables.{table_in}
use Rattle.cjc_vtable.specs.Dispatch.{Exported, Info, tower_in, tower_of, dispatched, dispatched_hidden}
use Rattle.cjc_vtable.specs.Dispatch.{dispatched_interface, map_of, at_map, at_index}
use Rattle.cjc_vtable.specs.Calls.{selects, passes, selected_in, selects_shown, IsOneToOne, IsTold, IsProper}
use Rattle.cjc_vtable.specs.Calls.{methods_of_line, imported_methods, is_special, KeepsAccess}
use Rattle.cjc_vtable.specs.Calls.{KeepsImported as KeepsFar, Climbs, here, up, over}
use Rattle.cjc_vtable.specs.Laws.{Under, itself, below, KeepsRules, KeepsInterfaces, KeepsImported, selection}
use Rattle.cjc_vtable.specs.Laws.{VirtualCallsAgree, InterfaceCallsAgree, ImportedCallsAgree, TokensAreOnce}
use Rattle.cjc_tokens.proofs.Facts.{chosen-passes, has-chosen}
use Rattle.cjc_vtable.proofs.Towers.{tower}
use Rattle.cjc_vtable.proofs.Calls.{In-front, In-behind, token-some, open_calls, package_calls}
use Rattle.cjc_vtable.proofs.Agrees.{chosen-finer, shown_selects, shown-has_slot, agree_shown}
use Rattle.cjc_vtable.proofs.Given.{proper-line}
use Rattle.cjc_vtable.proofs.Once.{inherited_token, inherited_hidden_token, one_method, listed_token}
use Rattle.cjc_vtable.proofs.Sent.{imported_calls}
use Rattle.cjc_vtable.proofs.Shown.{AllImported, IsAbroad, shown-is_place}
use Rattle.cjc_vtable.proofs.Asked.{named-among, map-found, has-here, chosen-front, chosen-behind, public-shown}
use Rattle.cjc_vtable.proofs.Asked.{index_at, method-asked, of-split}

pub methods-front : (a b : List Class) (m : Member) → In m (all_methods a) → In m (all_methods (a ++ b))
methods-front [] b m i = elim i [ ]
methods-front (c ∷ a) b m i = by c.methods i (λ j. methods-front a b m j)
  where
    by : (ms : List Member) → In m (ms ++ all_methods a) → (In m (all_methods a) → In m (all_methods (a ++ b)))
        → In m (ms ++ all_methods (a ++ b))
    by [] i rest = rest i
    by (n ∷ ms) first_of rest = first_of
    by (n ∷ ms) (later i) rest = later (by ms i rest)

pub methods-behind : (a b : List Class) (m : Member) → In m (all_methods b) → In m (all_methods (a ++ b))
methods-behind [] b m i = i
methods-behind (c ∷ a) b m i = In-behind m c.methods (all_methods (a ++ b)) (methods-behind a b m i)

pub In-either : (m : Member) (a b : List Member) (to : List Member) → (In m a → In m to) → (In m b → In m to)
    → In m (a ++ b) → In m to
In-either m [] b to f g i = g i
In-either m (n ∷ a) b to f g first_of = f first_of
In-either m (n ∷ a) b to f g (later i) = In-either m a b to (λ j. f (later j)) g i

-- the methods of a line are those of the classes above
line-methods : (w : List Class) (k : Supertypes) (m : Member) → In m (methods_of_line (line_in w k))
    → In m (all_methods (upwards k))
line-methods w End m i = elim i [ ]
line-methods w (Unknown name next) m i = elim i [ ]
line-methods w (Known c p q r) m i = by c.is_imported i (line-methods w p m)
  where
    front : In m c.methods → In m (c.methods ++ all_methods (upwards p ++ upwards r))
    front j = In-front m c.methods (all_methods (upwards p ++ upwards r)) j

    behind : In m (all_methods (upwards p)) → In m (c.methods ++ all_methods (upwards p ++ upwards r))
    behind j = In-behind m c.methods (all_methods (upwards p ++ upwards r)) (methods-front (upwards p) (upwards r) m j)

    by : (b : Bool) → In m (methods_of_line (if b then Imported (c ∷ upwards p)
        else Declared c (added w c) (line_in w p))) → (In m (methods_of_line (line_in w p))
        → In m (all_methods (upwards p))) → In m (c.methods ++ all_methods (upwards p ++ upwards r))
    by true i rest = In-either m c.methods (all_methods (upwards p)) (c.methods ++ all_methods (upwards p ++ upwards r))
        front behind i
    by false i rest = In-either m c.methods (methods_of_line (line_in w p)) (c.methods ++ all_methods (upwards p
        ++ upwards r)) front (λ j. behind (rest j)) i

wider : (c : Class) (p r : Supertypes) (m : Member) → In m (c.methods ++ all_methods (upwards p))
    → In m (c.methods ++ all_methods (upwards p ++ upwards r))
wider c p r m i = In-either m c.methods (all_methods (upwards p)) (c.methods ++ all_methods (upwards p ++ upwards r))
    (λ j. In-front m c.methods (all_methods (upwards p ++ upwards r)) j)
    (λ j. In-behind m c.methods (all_methods (upwards p ++ upwards r)) (methods-front (upwards p) (upwards r) m j))
    i

-- selection's own method of a class
pub first-selects : (classes : List Class) (s : Signature) → first (own_method true s.name s.desc) classes
    ≡ first (own selects s) classes
unfolding first own_method own
first-selects [] s = refl
first-selects (c ∷ classes) s = ap (or_else (own_method true s.name s.desc c)) (first-selects classes s)

module _ (w : List Class) (are_supertypes : (xs : List (List ℕ)) → AreSupertypes w xs (supertypes w xs))
    (one_supertypes : (xs : List (List ℕ)) (j k : Supertypes) → AreSupertypes w xs j → AreSupertypes w xs k
    → j ≡ k) (rules : KeepsRules w) where
  supertypes-known : (x : List ℕ) (c : Class) → class_named w x ≡ Some c → supertypes w (x ∷ [])
      ≡ Known c (supertypes w c.supers) (supertypes w c.interfaces) End
  supertypes-known x c e = one_supertypes (x ∷ []) (supertypes w (x ∷ [])) (Known c (supertypes w c.supers)
      (supertypes w c.interfaces) End) (are_supertypes (x ∷ [])) (known_here e (are_supertypes c.supers)
      (are_supertypes c.interfaces) ends)

  -- no interface of an export file is among these names
  pub told-line : (xs : List (List ℕ)) (k : Supertypes) → AreSupertypes w xs k → ((y : List ℕ) (d : Class) → Lists y xs
      → class_named w y ≡ Some d → d.is_imported ≡ true → is_interface d.flags ≡ false) → IsTold (line_in w k)
  told-line xs k ends classes = tt
  told-line xs k (unknown_here e a) classes = tt
  told-line (x ∷ xs) k (known_here {c = c} {supers = p} {interfaces = q} e s i a) classes =
      by c.is_imported refl (told-line c.supers p s (λ y d l g im. rules.superclasses x y c d e l g))
    where
      by : (b : Bool) → c.is_imported ≡ b → IsTold (line_in w p) → IsTold (if b then Imported (c ∷ upwards p)
          else Declared c (added w c) (line_in w p))
      by true f rest = subst (λ j. IsOneToOne (c.methods ++ all_methods (upwards j))) (one_supertypes c.supers
          (supertypes w c.supers) p (are_supertypes c.supers) s) (rules.told x c e f (classes x c foremost e f))
      by false f rest = rest

  one-class : (x : List ℕ) (c : Class) → class_named w x ≡ Some c → (c.is_imported ≡ true → is_interface c.flags
      ≡ false)
      → (y : List ℕ) (d : Class) → Lists y (x ∷ []) → class_named w y ≡ Some d → d.is_imported ≡ true
      → is_interface d.flags ≡ false
  one-class x c e plain y d foremost g im = let is : c ≡ d = cc in subst (λ (v : Class). v.is_imported ≡ true
      → is_interface v.flags ≡ false) is plain im
  one-class x c e plain y d (after l) g im = elim l [ ]

  -- the line of a class that is no interface of an export file
  pub told-class : (x : List ℕ) (c : Class) → class_named w x ≡ Some c → (c.is_imported ≡ true → is_interface c.flags
      ≡ false) → IsTold (line_of w x)
  told-class x c e plain = told-line (x ∷ []) (supertypes w (x ∷ [])) (are_supertypes (x ∷ [])) (one-class x c e plain)

  -- above an imported class stand imported ones alone
  abroad-append : (a b : List Class) → AllImported a → AllImported b → AllImported (a ++ b)
  abroad-append [] b p q = q
  abroad-append (c ∷ a) b p q = (p.0, abroad-append a b p.1 q)

  abroad-upwards : (y : List ℕ) (d : Class) → class_named w y ≡ Some d → d.is_imported ≡ true → (xs : List (List ℕ))
      (k : Supertypes) → AreSupertypes w xs k → ((z : List ℕ) → Lists z xs → Lists z d.supers) → AllImported (upwards k)
  abroad-upwards y d f im xs k ends sub = tt
  abroad-upwards y d f im (x ∷ xs) k (unknown_here {next = r} e a) sub = abroad-upwards y d f im xs r a (λ z l. sub z
      (after l))
  abroad-upwards y d f im (x ∷ xs) k (known_here {c = c} {supers = p} {next = r} e s i a) sub =
      let far = rules.apart y x d c f im (sub x foremost) e in (
        far,
        abroad-append (upwards p) (upwards r) (abroad-upwards x c e far c.supers p s (λ z l. l))
            (abroad-upwards y d f im xs r a (λ z l. sub z (after l))),
      )

  abroad-line : (xs : List (List ℕ)) (k : Supertypes) → AreSupertypes w xs k → IsAbroad (line_in w k)
  abroad-line xs k ends = tt
  abroad-line xs k (unknown_here e a) = tt
  abroad-line (x ∷ xs) k (known_here {c = c} {supers = p} {interfaces = q} e s i a) =
      by c.is_imported refl (abroad-line c.supers p s)
    where
      by : (b : Bool) → c.is_imported ≡ b → IsAbroad (line_in w p) → IsAbroad (if b then Imported (c ∷ upwards p)
          else Declared c (added w c) (line_in w p))
      by true f rest = (f, abroad-upwards x c e f c.supers p s (λ z l. l))
      by false f rest = rest

  abroad : (x : List ℕ) → IsAbroad (line_of w x)
  abroad x = abroad-line (x ∷ []) (supertypes w (x ∷ [])) (are_supertypes (x ∷ []))

  -- In a class that is no interface of an export file the token of a method is the place of its slot.
  pub shown-place : (x : List ℕ) (c : Class) (s : Signature) → class_named w x ≡ Some c → (c.is_imported ≡ true
      → is_interface c.flags ≡ false) → shown_token (line_of w x) s ≡ token (slots (line_of w x)) s
  shown-place x c s e plain = shown-is_place (line_of w x) s (told-class x c e plain)
      (proper-line w are_supertypes one_supertypes (x ∷ []) (supertypes w (x ∷ [])) (are_supertypes (x ∷ [])))
      (abroad x)

  kept-line : (xs : List (List ℕ)) (k : Supertypes) → AreSupertypes w xs k → KeepsAccess (line_in w k)
  kept-line xs k ends = tt
  kept-line xs k (unknown_here e a) = tt
  kept-line (x ∷ xs) k (known_here {c = c} {supers = p} {interfaces = q} e s i a) =
      by c.is_imported refl (kept-line c.supers p s)
    where
      by : (b : Bool) → c.is_imported ≡ b → KeepsAccess (line_in w p) → KeepsAccess (if b then Imported (c ∷ upwards p)
          else Declared c (added w c) (line_in w p))
      by true f rest = tt
      by false f rest = (
        λ m n i j one plain. rules.access x c m n e f i (subst (λ r. In n (all_methods (upwards r)))
            (one_supertypes c.supers p (supertypes w c.supers) s (are_supertypes c.supers)) (line-methods w p n j)) one
            plain,
        rest,
      )

  -- the tables of each class stand at its own line
  pub tower-line : (xs : List (List ℕ)) (k : Supertypes) → AreSupertypes w xs k → tower_in w k ≡ tower w (line_in w k)
  tower-line xs k ends = refl
  tower-line xs k (unknown_here e a) = refl
  tower-line (x ∷ xs) k (known_here {c = c} {supers = p} {interfaces = q} e s i a) =
      by c.is_imported refl (tower-line c.supers p s)
    where
      one : supertypes w c.supers ≡ p
      one = one_supertypes c.supers (supertypes w c.supers) p (are_supertypes c.supers) s

      by : (b : Bool) → c.is_imported ≡ b → tower_in w p ≡ tower w (line_in w p)
          → (if b then Exported (c ∷ upwards p)
          else Info (table_in w (if c.is_imported then Imported (c ∷ upwards (supertypes w c.supers))
          else Declared c (added w c) (line_in w (supertypes w c.supers))) c) (tower_in w p))
          ≡ tower w (if b then Imported (c ∷ upwards p) else Declared c (added w c) (line_in w p))
      by true f rest = refl
      by false f rest =
          ap (λ g. Info (table_in w (if g then Imported (c ∷ upwards (supertypes w c.supers))
          else Declared c (added w c) (line_in w (supertypes w c.supers))) c) (tower_in w p)) f
          ∙ ap (λ j. Info (table_in w (Declared c (added w c) (line_in w j)) c) (tower_in w p)) (one_supertypes c.supers
          (supertypes w c.supers) p (are_supertypes c.supers) s)
          ∙ ap (λ t. Info (table_in w (Declared c (added w c) (line_in w p)) c) t) rest

  -- selection along the line of a class
  selection-line : (xs : List (List ℕ)) (k : Supertypes) (x : List ℕ) (s : Signature) → AreSupertypes w xs k
      → xs ≡ x ∷ [] → first (own selects s) (upwards k) ≡ selected_in (line_in w k) s
  unfolding first
  selection-line xs k x s ends e = cc
  selection-line xs k x s (unknown_here f ends) e = refl
  selection-line xs k x s (unknown_here f (unknown_here g b)) e = cc
  selection-line xs k x s (unknown_here f (known_here g sp ip b)) e = cc
  selection-line xs k x s (known_here {x = y} {c = c} {supers = p} f sp ip ends) e =
      ap (first (own selects s)) (append-nil (c ∷ upwards p))
      ∙ by c.is_imported refl (λ z one. selection-line c.supers p z s sp one)
    where
      by : (b : Bool) → c.is_imported ≡ b → ((z : List ℕ) → c.supers ≡ z ∷ [] → first (own selects s) (upwards p)
          ≡ selected_in (line_in w p) s)
          → or_else (own selects s c) (first (own selects s) (upwards p)) ≡ selected_in (if b
          then Imported (c ∷ upwards p) else Declared c (added w c) (line_in w p)) s
      by true g rest = refl
      by false g rest = let z = rules.single y c f g in ap (or_else (own selects s c)) (rest z.0 z.1)
  selection-line xs k x s (known_here f sp ip (unknown_here g b)) e = cc
  selection-line xs k x s (known_here f sp ip (known_here g sp' ip' b)) e = cc

  pub selection-is : (x : List ℕ) (s : Signature) → selected_in (line_of w x) s ≡ selection w x s
  unfolding line
  selection-is x s = sym (first-selects (upwards (supertypes w (x ∷ []))) s
      ∙ selection-line (x ∷ []) (supertypes w (x ∷ [])) x s (are_supertypes (x ∷ [])) refl)

  -- all that an imported class and its supers list
  full : Class → List Member
  full c = c.methods ++ all_methods (upwards (supertypes w c.supers))

  line_of-imported : (x : List ℕ) (c : Class) → class_named w x ≡ Some c → c.is_imported ≡ true
      → line_of w x ≡ Imported (c ∷ upwards (supertypes w c.supers))
  line_of-imported x c e f = ap (line_in w) (supertypes-known x c e)
      ∙ ap (λ b. if b then Imported (c ∷ upwards (supertypes w c.supers))
      else Declared c (added w c) (line_in w (supertypes w c.supers))) f

  pub line_of-declared : (x : List ℕ) (c : Class) → class_named w x ≡ Some c → c.is_imported ≡ false
      → line_of w x ≡ Declared c (added w c) (line_in w (supertypes w c.supers))
  line_of-declared x c e f = ap (line_in w) (supertypes-known x c e)
      ∙ ap (λ b. if b then Imported (c ∷ upwards (supertypes w c.supers))
      else Declared c (added w c) (line_in w (supertypes w c.supers))) f

  super-methods : (xs : List (List ℕ)) (k : Supertypes) (y : List ℕ) (c : Class) (m : Member) → AreSupertypes w xs k
      → Lists y xs → class_named w y ≡ Some c → In m (c.methods ++ all_methods (upwards (supertypes w c.supers)))
      → In m (all_methods (upwards k))
  super-methods xs k y c m ends l e i = elim l [ ]
  super-methods (x ∷ xs) k y c m (unknown_here f a) foremost e i = cc
  super-methods (x ∷ xs) k y c m (unknown_here {next = r} f a) (after l) e i = super-methods xs r y c m a l e i
  super-methods (x ∷ xs) k y c m (known_here {c = d} {supers = p} {next = r} f s j a) foremost e i =
      let is : c ≡ d = cc in
      let same_supertypes : supertypes w c.supers ≡ p = one_supertypes c.supers (supertypes w c.supers) p
      (are_supertypes c.supers) (subst (λ (v : Class). AreSupertypes w v.supers p) (sym is) s) in
      let i1 = subst (λ q. In m (c.methods ++ all_methods (upwards q))) same_supertypes i in
      wider d p r m (subst (λ (v : Class). In m (v.methods ++ all_methods (upwards p))) is i1)
  super-methods (x ∷ xs) k y c m (known_here {c = d} {supers = p} {next = r} f s j a) (after l) e i =
      let rest = super-methods xs r y c m a l e i in
      In-behind m d.methods (all_methods (upwards p ++ upwards r)) (methods-behind (upwards p) (upwards r) m rest)

  -- what a super of an imported class lists, that class and its supers list
  imported-under : (x y : List ℕ) (c d : Class) → Under w x y → class_named w x ≡ Some c → class_named w y ≡ Some d
      → c.is_imported ≡ true → (d.is_imported ≡ true) × ((m : Member) → In m (full d) → In m (full c))
  unfolding full
  imported-under x y c d itself e f im = let is : c ≡ d = cc in (
    ap (λ q. q.is_imported) (sym is)
        ∙ im,
    λ m i. subst (λ (v : Class). In m (v.methods ++ all_methods (upwards (supertypes w v.supers)))) (sym is) i,
  )
  imported-under x z c d (below {y = y} c' e' l under) e f im =
      let is : c' ≡ c = cc in
      let l' = subst (λ (v : Class). Lists y v.supers) is l in
      by (class_named w y) refl l' (λ k g im'. imported-under y z k d under g f im')
    where
      by : (o : Option Class) → class_named w y ≡ o → Lists y c.supers → ((k : Class) → class_named w y ≡ Some k
          → k.is_imported ≡ true → (d.is_imported ≡ true) × ((m : Member)
          → In m (d.methods ++ all_methods (upwards (supertypes w d.supers)))
          → In m (k.methods ++ all_methods (upwards (supertypes w k.supers))))) → (d.is_imported ≡ true) × ((m : Member)
          → In m (d.methods ++ all_methods (upwards (supertypes w d.supers)))
          → In m (c.methods ++ all_methods (upwards (supertypes w c.supers))))
      by None g l' rest = absurd (known_under y z d under f g)
        where
          known_under : (y z : List ℕ) (d : Class) → Under w y z → class_named w z ≡ Some d → class_named w y ≡ None → ⊥
          known_under y z d itself f g = cc
          known_under y z d (below k h l u) f g = cc
      by (Some k) g l' rest =
          let r = rest k g (rules.apart x y c k e im l' g) in (
            r.0,
            λ m i. In-behind m c.methods (all_methods (upwards (supertypes w c.supers))) (super-methods c.supers
                (supertypes w c.supers) y k m (are_supertypes c.supers) l' g (r.1 m i)),
          )

  climbs : (x y : List ℕ) (d : Class) → class_named w y ≡ Some d → Under w x y → Climbs (line_of w x) (line_of w y)
  unfolding full
  climbs x y d f itself = here
  climbs x z d f (below {y = y} c e l under) = by c.is_imported refl (climbs y z d f under)
    where
      by : (b : Bool) → c.is_imported ≡ b → Climbs (line_of w y) (line_of w z) → Climbs (line_of w x) (line_of w z)
      by true im rest =
          let r = imported-under x z c d (below c e l under) e f im in
          subst (λ (q : Line). Climbs q (line_of w z)) (sym (line_of-imported x c e im))
          (subst (Climbs (Imported (c ∷ upwards (supertypes w c.supers)))) (sym (line_of-imported z d f r.0))
          (over r.1))
      by false im rest =
          let s = rules.single x c e im in
          let at : y ≡ s.0 = only y s.0 (subst (Lists y) s.1 l) in
          let one : line_in w (supertypes w c.supers) ≡ line_of w y = ap (λ q. line_in w (supertypes w q)) (s.1
          ∙ ap (λ q. q ∷ []) (sym at)) in
          subst (λ (q : Line). Climbs q (line_of w z)) (sym (line_of-declared x c e im))
          (up (subst (λ (q : Line). Climbs q (line_of w z)) (sym one) rest))
        where
          only : (y s : List ℕ) → Lists y (s ∷ []) → y ≡ s
          only y s foremost = refl
          only y s (after l) = elim l [ ]

  -- a superclass of a class that is no interface is none
  class-above : (x y : List ℕ) → Under w x y → ((c : Class) → class_named w x ≡ Some c → is_interface c.flags ≡ false)
      → (d : Class) → class_named w y ≡ Some d → is_interface d.flags ≡ false
  class-above x y itself plain d f = plain d f
  class-above x z (below {y = y} c e l under) plain d f = class-above y z under (λ k g. rules.superclasses x y c k e l
      g) d f

  told : (x : List ℕ) (c : Class) → class_named w x ≡ Some c → is_interface c.flags ≡ false → IsTold (line_of w x)
  told x c e class_here = told-class x c e (λ im. class_here)

  proper : (x : List ℕ) → IsProper (line_of w x)
  proper x = proper-line w are_supertypes one_supertypes (x ∷ []) (supertypes w (x ∷ [])) (are_supertypes (x ∷ []))

  kept : (x : List ℕ) → KeepsAccess (line_of w x)
  kept x = kept-line (x ∷ []) (supertypes w (x ∷ [])) (are_supertypes (x ∷ []))

  tower-is : (x : List ℕ) → tower_of w x ≡ tower w (line_of w x)
  tower-is x = tower-line (x ∷ []) (supertypes w (x ∷ [])) (are_supertypes (x ∷ []))

  pub virtual_calls_agree : VirtualCallsAgree w
  virtual_calls_agree x y c d e class_here f under = record {
    open_method = λ s finds.
        let r = open_calls w (line_of w x) (line_of w y) s (told x c e class_here) (proper x) (kept x)
        (climbs x y d f under) finds in
        (r.0, r.1, ap (λ t. dispatched t r.0) (tower-is x) ∙ r.2 ∙ selection-is x s);
    package_method = λ s finds.
        let r = package_calls w (line_of w x) (line_of w y) s (proper x) (kept x) (climbs x y d f under) finds in
        (r.0, r.1, ap (λ t. dispatched_hidden t r.0) (tower-is x) ∙ r.2 ∙ selection-is x s);
    by_token = λ s t has given.
        ap (λ q. dispatched q t) (tower-is x) ∙ agree_shown w (line_of w x) (line_of w y) s t (told x c e class_here)
        (proper x) (climbs x y d f under) has given ∙ selection-is x s;
  }

  -- ---- interfaces

  -- along the line of a class
  selects-line : (xs : List (List ℕ)) (k : Supertypes) (x : List ℕ) (s : Signature) (n : Member) → AreSupertypes w xs k
      → xs ≡ x ∷ [] → is_special s ≡ false → chosen selects s (all_methods (upwards k)) ≡ Some n
      → is_public n.flags ≡ true → selects_shown (line_in w k) s ≡ true
  selects-line xs k x s n ends e plain f shown = cc
  selects-line xs k x s n (unknown_here g ends) e plain f shown = cc
  selects-line xs k x s n (unknown_here g (unknown_here h b)) e plain f shown = cc
  selects-line xs k x s n (unknown_here g (known_here h sp ip b)) e plain f shown = cc
  selects-line xs k x s n (known_here {x = y} {c = c} {supers = p} g sp ip ends) e plain f shown =
      by c.is_imported refl (λ z one h. selects-line c.supers p z s n sp one plain h shown)
    where
      here_all : chosen selects s (c.methods ++ all_methods (upwards p)) ≡ Some n
      here_all = ap (λ cs. chosen selects s (all_methods cs)) (sym (append-nil (c ∷ upwards p))) ∙ f

      by : (b : Bool) → c.is_imported ≡ b → ((z : List ℕ) → c.supers ≡ z ∷ []
          → chosen selects s (all_methods (upwards p)) ≡ Some n → selects_shown (line_in w p) s ≡ true)
          → selects_shown (if b then Imported (c ∷ upwards p) else Declared c (added w c) (line_in w p)) s ≡ true
      by true h rest =
          let is = chosen-passes selects s (all_methods (c ∷ upwards p)) n here_all in
          has-chosen is_shown s (all_methods (c ∷ upwards p)) n (chosen-finer is_shown shown_selects s
          (all_methods (c ∷ upwards p)) n here_all (public-shown n s is.0 is.1 shown plain))
      by false h rest = own_one (chosen selects s c.methods) refl
        where
          own_one : (o : Option Member) → chosen selects s c.methods ≡ o → passes is_shown (chosen selects s c.methods)
              (selects_shown (line_in w p) s) ≡ true
          own_one None i =
              let z = rules.single y c g h in
              ap (λ q. passes is_shown q (selects_shown (line_in w p) s)) i
              ∙ rest z.0 z.1 (sym (chosen-behind selects s c.methods (all_methods (upwards p)) i) ∙ here_all)
          own_one (Some m) i =
              let is = chosen-passes selects s c.methods m i in
              let front = chosen-front selects s c.methods (all_methods (upwards p)) m i in
              let both : Some m ≡ Some n = sym front ∙ here_all in
              let one : m ≡ n = cc in
              ap (λ q. passes is_shown q (selects_shown (line_in w p) s)) i
              ∙ public-shown m s is.0 is.1 (ap (λ (q : Member). is_public q.flags) one ∙ shown) plain
  selects-line xs k x s n (known_here g sp ip (unknown_here h b)) e plain f shown = cc
  selects-line xs k x s n (known_here g sp ip (known_here h sp' ip' b)) e plain f shown = cc

  -- no method that a class asks for is named like a constructor
  module _ (kept_interfaces : KeepsInterfaces w) where
    plain-asked : (listed : Bool) (xs : List (List ℕ)) (k : Supertypes) (m : Member) → AreSupertypes w xs k
        → (listed ≡ true → (y : List ℕ) (d : Class) → Lists y xs → class_named w y ≡ Some d → is_interface d.flags
        ≡ true) → In m (methods_of (known (gathered listed k))) → is_special (signature_of m) ≡ false
    unfolding gathered known methods_of
    plain-asked listed xs k m ends all i = elim i [ ]
    plain-asked listed (x ∷ xs) k m (unknown_here {next = r} e b) all i =
        by listed i (plain-asked listed xs r m b (λ l y d j g. all l y d (after j) g))
      where
        by : (l : Bool) → In m (methods_of (known (where_listed l (record { name = x; class = None })
            ++ gathered listed r))) → (In m (methods_of (known (gathered listed r))) → is_special (signature_of m)
            ≡ false) → is_special (signature_of m) ≡ false
        by true i rest = rest i
        by false i rest = rest i
    plain-asked listed (x ∷ xs) k m (known_here {c = c} {supers = p} {interfaces = q} {next = r} e s t b) all i =
        let A = gathered false p in
        let B = gathered true q in
        let H = where_listed listed (record { name = c.name; class = Some c }) in
        let R = gathered listed r in
        ⊎_elim
        (λ abh. ⊎_elim
        (λ ab. ⊎_elim
        (λ j. plain-asked false c.supers p m s (λ l y d v g. cc) j)
        (λ j. plain-asked true c.interfaces q m t (λ l y d v g. kept_interfaces.listed x y c d e v g) j)
        (of-split A B m ab))
        (λ h. itself listed refl h)
        (of-split (A ++ B) H m abh))
        (λ j. plain-asked listed xs r m b (λ l y d v g. all l y d (after v) g) j)
        (of-split (A ++ B ++ H) R m i)
      where
        itself : (l : Bool) → listed ≡ l
            → In m (methods_of (known (where_listed l (record { name = c.name; class = Some c }))))
            → is_special (signature_of m) ≡ false
        itself true f j = kept_interfaces.plain x c m e (subst (In m) (append-nil (own_methods c)) j)
            (all f x c foremost e)
        itself false f j = elim j [ ]

    pub interface_calls_agree : InterfaceCallsAgree w
    unfolding asked_by line
    interface_calls_agree x c e im concrete name i k s named at =
        let r = method-asked w are_supertypes one_supertypes c i s (named-among (known (interfaces_at w c)) name i
        named) (has-here (interface_methods w i) k s at) in
        let n = kept_interfaces.methods x c r.0 e im concrete r.1 in
        let plain = plain r.0 r.1 in
        let shown = subst (λ (u : Signature). selects_shown (line_of w x) u ≡ true) r.2 (selects-line (x
        ∷ []) (supertypes w (x ∷ [])) x (signature_of r.0) n.0 (are_supertypes (x ∷ [])) refl plain n.1 n.2) in
        let told_here = told-class x c e (λ far. no_export c.is_imported far im) in
        let t = token-some (slots (line_of w x)) s (shown-has_slot (line_of w x) s told_here shown) in
        let l = line_of-declared x c e im in
        let tower_here = tower-is x ∙ ap (tower w) l in
        let found = map-found w (shown_token (Declared c (added w c) (line_in w (supertypes w c.supers))))
        (known (interfaces_at w c)) name (map_of (tower w (line_in w (supertypes w c.supers))) name) i named in
        let index = index_at w (shown_token (Declared c (added w c) (line_in w (supertypes w c.supers)))) i k s t.0 at
        (ap (λ q. shown_token q s) (sym l) ∙ shown-is_place (line_of w x) s told_here (proper x) (abroad x) ∙ t.1) in
        ap (λ q. dispatched_interface q name k) tower_here
        ∙ ap (λ q. at_map (tower w (Declared c (added w c) (line_in w (supertypes w c.supers)))) q k) found
        ∙ ap (at_index (tower w (Declared c (added w c) (line_in w (supertypes w c.supers))))) index
        ∙ ap (λ q. dispatched q t.0) (sym tower_here)
        ∙ ap (λ q. dispatched q t.0) (tower-is x)
        ∙ agree_shown w (line_of w x) (line_of w x) s t.0 told_here (proper x) here t.1 shown ∙ selection-is x s
      where
        no_export : (b : Bool) → b ≡ true → b ≡ false → is_interface c.flags ≡ false
        no_export true g h = cc
        no_export false g h = cc

        plain : (m : Member)
            → In m (methods_of (known (gathered false (supertypes w c.supers)
            ++ gathered true (supertypes w c.interfaces)))) → is_special (signature_of m) ≡ false
        plain m j = ⊎_elim
            (λ d. plain-asked false c.supers (supertypes w c.supers) m (are_supertypes c.supers) (λ l y d' v g. cc) d)
            (λ d. plain-asked true c.interfaces (supertypes w c.interfaces) m (are_supertypes c.interfaces)
            (λ l y d' v g. kept_interfaces.listed x y c d' e v g) d)
            (of-split (gathered false (supertypes w c.supers)) (gathered true (supertypes w c.interfaces)) m j)

  -- ---- package-visible methods of imported classes

  module _ (kept_imported : KeepsImported w) where
    far-line : (xs : List (List ℕ)) (k : Supertypes) → AreSupertypes w xs k → KeepsFar (line_in w k)
    far-line xs k ends = tt
    far-line xs k (unknown_here e a) = tt
    far-line (x ∷ xs) k (known_here {c = c} {supers = p} {interfaces = q} e s i a) =
        by c.is_imported refl (far-line c.supers p s)
      where
        by : (b : Bool) → c.is_imported ≡ b → KeepsFar (line_in w p) → KeepsFar (if b then Imported (c ∷ upwards p)
            else Declared c (added w c) (line_in w p))
        by true f rest = tt
        by false f rest = (
          λ m n i j one plain. kept_imported x c m n e f i (subst (λ r. In n (imported_methods (line_in w r)))
              (one_supertypes c.supers p (supertypes w c.supers) s (are_supertypes c.supers)) j) one plain,
          rest,
        )

    pub imported_calls_agree : ImportedCallsAgree w
    unfolding full
    imported_calls_agree x y c d m e class_here f im under i hid =
        ap (λ q. dispatched q m.token) (tower-is x)
        ∙ imported_calls w (line_of w x) (told x c e class_here) (proper x) (kept x)
        (far-line (x ∷ []) (supertypes w (x ∷ [])) (are_supertypes (x ∷ []))) (d ∷ upwards (supertypes w d.supers))
        m
        (subst (Climbs (line_of w x)) (line_of-imported y d f im) (climbs x y d f under)) i hid
        ∙ selection-is x (signature_of m)

  -- ---- tokens

  pub tokens_are_once : TokensAreOnce w
  unfolding full
  tokens_are_once x y c d e class_here f under = record {
    inherited = λ s t has. inherited_token (line_of w x) (line_of w y) s t (told x c e class_here)
        (climbs x y d f under) has;
    hidden_inherited = λ s t has. inherited_hidden_token (line_of w x) (line_of w y) s t (climbs x y d f under) has;
    one_method = λ s u t has g. one_method (slots (line_of w x)) s u t has g;
    one_hidden_method = λ s u t has g. one_method (hidden_slots (line_of w x)) s u t has g;
    listed = λ d' m h im i shown.
        ap (λ q. token (slots q) (signature_of m)) (line_of-imported y d' h im)
        ∙ listed_token (d' ∷ upwards (supertypes w d'.supers)) m (subst (λ (q : Line). IsTold q) (line_of-imported y d'
        h im) (told y d' h (class-above x y under same d' h))) i shown;
  }
    where
      same : (k : Class) → class_named w x ≡ Some k → is_interface k.flags ≡ false
      same k g = let is : c ≡ k = cc in subst (λ (v : Class). is_interface v.flags ≡ false) is class_here
