-- The classes that stand in a tree: superclasses and interfaces.
use Rattle.std.proofs.Common.{◌≡◌, ℕ, refl, sym, ap, subst, ◌∙◌, Bool, true, false, List, [], ◌∷◌, ◌++◌, inl, inr}
use Rattle.std.proofs.Common.{⊎_elim}
use Rattle.std.specs.Prelude.{◌||◌, ◌⊎◌, Some, if◌then◌else◌}
use Rattle.std.specs.Str.{bytes_eq}
use Rattle.std.proofs.lemmas.Bool.{or_left, or_right}
use Rattle.cjc_world.specs.Classes.{Member, Class, class_named}
use Rattle.cjc_world.specs.Bytes.AccessFlags.{is_interface}
use Rattle.cjc_world.proofs.BytesLists.{name_is}
use Rattle.cjc_world.proofs.BytesBools.{left4, second4}
use Rattle.cjc_world.specs.Supertypes.{Supertypes, End, Unknown, Known, AreSupertypes, ends, unknown_here, known_here}
use Rattle.cjc_world.specs.Supertypes.{Lists, foremost, after, stands, stands_by_supers, upwards, is_one_named}
use Rattle.cjc_world.specs.Interfaces.{where_listed, gathered, known}
use Rattle.cjc_world.specs.Added.{added, own_methods, methods_of}
use Rattle.cjc_tokens.specs.Members.{all_methods, In}
use Rattle.cjc_tokens.specs.Lines.{Imported, Declared, line_in}
use Rattle.cjc_vtable.specs.Calls.{imported_methods}
use Rattle.cjc_world.proofs.Cycles.{class_named-name}
use Rattle.cjc_vtable.proofs.Asked.{Among, at_head, further, among-split, among-one}
use Rattle.cjc_world.proofs.Rising.{known-append}
use Rattle.cjc_vtable.proofs.Given.{In-split}

among-cons : (d c : Class) (cs : List Class) → Among d (c ∷ cs) → (d ≡ c) ⊎ Among d cs
among-cons d c cs at_head = inl refl
among-cons d c cs (further i) = inr i

-- ---- the class of a method

pub in-class : (m : Member) (cs : List Class) → In m (all_methods cs) → (d : Class) × Among d cs × In m d.methods
in-class m [] i = elim i [ ]
in-class m (c ∷ cs) i = ⊎_elim
    (λ j. (c, at_head, j))
    (λ j. let r = in-class m cs j in (r.0, further r.1, r.2))
    (In-split m c.methods (all_methods cs) i)

pub in-interface : (m : Member) (cs : List Class) → In m (methods_of cs) → (d : Class) × Among d cs
    × In m (own_methods d)
unfolding methods_of
in-interface m [] i = elim i [ ]
in-interface m (c ∷ cs) i = ⊎_elim
    (λ j. (c, at_head, j))
    (λ j. let r = in-interface m cs j in (r.0, further r.1, r.2))
    (In-split m (own_methods c) (methods_of cs) i)

-- ---- a name in a tree

or3 : (a b c d : Bool) → c ≡ true → (a || b || c || d) ≡ true
or3 true b c d e = refl
or3 false true c d e = refl
or3 false false true d e = refl
or3 false false false d e = cc

or4 : (a b c d : Bool) → d ≡ true → (a || b || c || d) ≡ true
or4 true b c d e = refl
or4 false true c d e = refl
or4 false false true d e = refl
or4 false false false d e = e

pub upwards-stands : (k : Supertypes) (d : Class) → Among d (upwards k) → stands d.name k ≡ true
upwards-stands End d i = elim i [ ]
upwards-stands (Unknown x r) d i = or_right (bytes_eq x d.name) (stands d.name r) (upwards-stands r d i)
upwards-stands (Known c p q r) d at_head = left4 (bytes_eq c.name c.name) (stands c.name p) (stands c.name q)
    (stands c.name r) (name_is c.name)
upwards-stands (Known c p q r) d (further i) = ⊎_elim
    (λ j. second4 (bytes_eq c.name d.name) (stands d.name p) (stands d.name q) (stands d.name r) (upwards-stands p d j))
    (λ j. or4 (bytes_eq c.name d.name) (stands d.name p) (stands d.name q) (stands d.name r) (upwards-stands r d j))
    (among-split d (upwards p) (upwards r) i)

pub upwards-below : (k : Supertypes) (d : Class) → Among d (upwards k) → stands_by_supers d.name k ≡ true
upwards-below End d i = elim i [ ]
upwards-below (Unknown x r) d i = or_right (bytes_eq x d.name) (stands_by_supers d.name r) (upwards-below r d i)
upwards-below (Known c p q r) d at_head = or_left (bytes_eq c.name c.name || stands_by_supers c.name p)
    (stands_by_supers c.name r) (or_left (bytes_eq c.name c.name) (stands_by_supers c.name p) (name_is c.name))
upwards-below (Known c p q r) d (further i) = ⊎_elim
    (λ j. or_left (bytes_eq c.name d.name || stands_by_supers d.name p) (stands_by_supers d.name r)
    (or_right (bytes_eq c.name d.name) (stands_by_supers d.name p) (upwards-below p d j)))
    (λ j. or_right (bytes_eq c.name d.name || stands_by_supers d.name p) (stands_by_supers d.name r)
    (upwards-below r d j))
    (among-split d (upwards p) (upwards r) i)

pub among-named : (d : Class) (cs : List Class) → Among d cs → is_one_named cs d.name ≡ true
among-named d [] i = elim i [ ]
among-named d (c ∷ cs) at_head = or_left (bytes_eq d.name d.name) (is_one_named cs d.name) (name_is d.name)
among-named d (c ∷ cs) (further i) = or_right (bytes_eq c.name d.name) (is_one_named cs d.name) (among-named d cs i)

-- the interfaces of a class and of what is listed behind it
parts : (listed : Bool) (c : Class) (p q r : Supertypes) (d : Class) → Among d (known (gathered listed (Known c p q r)))
    → (Among d (known (gathered false p)) ⊎ Among d (known (gathered true q))) ⊎ (((listed ≡ true) × (d ≡ c))
    ⊎ Among d (known (gathered listed r)))
unfolding gathered known
parts listed c p q r d i =
    let A = gathered false p in
    let B = gathered true q in
    let H = where_listed listed (record { name = c.name; class = Some c }) in
    let R = gathered listed r in
    ⊎_elim
    (λ abh. ⊎_elim
    (λ ab. inl (among-split d (known A) (known B) (subst (Among d) (known-append A B) ab)))
    (λ h. inr (inl (by listed h)))
    (among-split d (known (A ++ B)) (known H) (subst (Among d) (known-append (A ++ B) H) abh)))
    (λ j. inr (inr j))
    (among-split d (known (A ++ B ++ H)) (known R) (subst (Among d) (known-append (A ++ B ++ H) R) i))
  where
    by : (l : Bool) → Among d (known (where_listed l (record { name = c.name; class = Some c }))) → (l ≡ true) × (d ≡ c)
    by true h = (refl, among-one d c h)
    by false h = elim h [ ]

behind-unknown : (listed : Bool) (x : List ℕ) (r : Supertypes) (d : Class)
    → Among d (known (gathered listed (Unknown x r))) → Among d (known (gathered listed r))
unfolding gathered known
behind-unknown true x r d i = i
behind-unknown false x r d i = i

none-gathered : (listed : Bool) (d : Class) → Among d (known (gathered listed End)) → ⊥
unfolding gathered known
none-gathered listed d i = elim i [ ]

pub gathered-stands : (listed : Bool) (k : Supertypes) (d : Class) → Among d (known (gathered listed k))
    → stands d.name k ≡ true
gathered-stands listed End d i = absurd (none-gathered listed d i)
gathered-stands listed (Unknown x r) d i = or_right (bytes_eq x d.name) (stands d.name r) (gathered-stands listed r d
    (behind-unknown listed x r d i))
gathered-stands listed (Known c p q r) d i =
    let P = second4 (bytes_eq c.name d.name) (stands d.name p) (stands d.name q) (stands d.name r) in
    let Q = or3 (bytes_eq c.name d.name) (stands d.name p) (stands d.name q) (stands d.name r) in
    let R = or4 (bytes_eq c.name d.name) (stands d.name p) (stands d.name q) (stands d.name r) in
    let H = left4 (bytes_eq c.name d.name) (stands d.name p) (stands d.name q) (stands d.name r) in
    ⊎_elim
    (λ a. ⊎_elim (λ j. P (gathered-stands false p d j)) (λ j. Q (gathered-stands true q d j)) a)
    (λ a. ⊎_elim (λ j. H (ap (λ (v : Class). bytes_eq c.name v.name) j.1 ∙ name_is c.name))
    (λ j. R (gathered-stands listed r d j)) a)
    (parts listed c p q r d i)

-- ---- a class in a tree is that of its name

module _ (w : List Class) where
  itself-named : (x : List ℕ) (c : Class) → class_named w x ≡ Some c → class_named w c.name ≡ Some c
  itself-named x c e = ap (class_named w) (class_named-name w x c e) ∙ e

  pub upwards-named : (xs : List (List ℕ)) (k : Supertypes) (d : Class) → AreSupertypes w xs k → Among d (upwards k)
      → class_named w d.name ≡ Some d
  upwards-named xs k d ends i = elim i [ ]
  upwards-named (x ∷ xs) k d (unknown_here {next = r} e b) i = upwards-named xs r d b i
  upwards-named (x ∷ xs) k d (known_here {c = c} {supers = p} {interfaces = q} {next = r} e s t b) i =
      ⊎_elim
      (λ is. subst (λ (v : Class). class_named w v.name ≡ Some v) (sym is) (itself-named x c e))
      (λ j. ⊎_elim (λ g. upwards-named c.supers p d s g) (λ g. upwards-named xs r d b g) (among-split d (upwards p)
      (upwards r) j))
      (among-cons d c (upwards p ++ upwards r) i)

  pub gathered-named : (listed : Bool) (xs : List (List ℕ)) (k : Supertypes) (d : Class) → AreSupertypes w xs k
      → Among d (known (gathered listed k)) → class_named w d.name ≡ Some d
  gathered-named listed xs k d ends i = absurd (none-gathered listed d i)
  gathered-named listed (x ∷ xs) k d (unknown_here {next = r} e b) i =
      gathered-named listed xs r d b (behind-unknown listed x r d i)
  gathered-named listed (x ∷ xs) k d (known_here {c = c} {supers = p} {interfaces = q} {next = r} e s t b) i =
      ⊎_elim
      (λ a. ⊎_elim (λ j. gathered-named false c.supers p d s j) (λ j. gathered-named true c.interfaces q d t j) a)
      (λ a. ⊎_elim (λ j. subst (λ (v : Class). class_named w v.name ≡ Some v) (sym j.1) (itself-named x c e))
      (λ j. gathered-named listed xs r d b j) a)
      (parts listed c p q r d i)

  -- what is gathered is an interface
  pub gathered-interface : ((x y : List ℕ) (c d : Class) → class_named w x ≡ Some c → Lists y c.interfaces
      → class_named w y ≡ Some d → is_interface d.flags ≡ true)
      → (listed : Bool) (xs : List (List ℕ)) (k : Supertypes) (d : Class) → AreSupertypes w xs k
      → (listed ≡ true → (y : List ℕ) (e : Class) → Lists y xs → class_named w y ≡ Some e → is_interface e.flags
      ≡ true) → Among d (known (gathered listed k)) → is_interface d.flags ≡ true
  gathered-interface rule listed xs k d ends all i = absurd (none-gathered listed d i)
  gathered-interface rule listed (x ∷ xs) k d (unknown_here {next = r} e b) all i = gathered-interface rule listed xs r
      d b (λ l y g v h. all l y g (after v) h) (behind-unknown listed x r d i)
  gathered-interface rule listed (x ∷ xs) k d (known_here {c = c} {supers = p} {interfaces = q} {next = r} e s t b) all
      i =
      ⊎_elim
      (λ a. ⊎_elim
      (λ j. gathered-interface rule false c.supers p d s (λ l y g v h. cc) j)
      (λ j. gathered-interface rule true c.interfaces q d t (λ l y g v h. rule x y c g e v h) j) a)
      (λ a. ⊎_elim
      (λ j. subst (λ (v : Class). is_interface v.flags ≡ true) (sym j.1) (all j.0 x c foremost e))
      (λ j. gathered-interface rule listed xs r d b (λ l y g v h. all l y g (after v) h) j) a)
      (parts listed c p q r d i)

  module _ (rule : (x y : List ℕ) (c d : Class) → class_named w x ≡ Some c → c.is_imported ≡ true → Lists y c.supers
      → class_named w y ≡ Some d → d.is_imported ≡ true) where
    -- above imported classes all are imported
    upwards-imported : (xs : List (List ℕ)) (k : Supertypes) (d : Class) → AreSupertypes w xs k
        → ((y : List ℕ) (e : Class) → Lists y xs → class_named w y ≡ Some e → e.is_imported ≡ true)
        → Among d (upwards k) → d.is_imported ≡ true
    upwards-imported xs k d ends all i = elim i [ ]
    upwards-imported (x ∷ xs) k d (unknown_here {next = r} e b) all i =
        upwards-imported xs r d b (λ y g v h. all y g (after v) h) i
    upwards-imported (x ∷ xs) k d (known_here {c = c} {supers = p} {interfaces = q} {next = r} e s t b) all i =
        ⊎_elim
        (λ is. ap (λ (v : Class). v.is_imported) is ∙ all x c foremost e)
        (λ j. ⊎_elim
        (λ h. upwards-imported c.supers p d s (λ y g v f. rule x y c g e (all x c foremost e) v f) h)
        (λ h. upwards-imported xs r d b (λ y g v f. all y g (after v) f) h)
        (among-split d (upwards p) (upwards r) j))
        (among-cons d c (upwards p ++ upwards r) i)

    -- the imported methods of a line are those of imported classes above
    pub line-imported : (xs : List (List ℕ)) (k : Supertypes) (m : Member) → AreSupertypes w xs k
        → In m (imported_methods (line_in w k)) → (d : Class) × Among d (upwards k) × (d.is_imported ≡ true)
        × In m d.methods
    line-imported xs k m ends i = elim i [ ]
    line-imported xs k m (unknown_here e b) i = elim i [ ]
    line-imported (x ∷ xs) k m (known_here {c = c} {supers = p} {interfaces = q} {next = r} e s t b) i =
        by c.is_imported refl i (line-imported c.supers p m s)
      where
        wide : (a b : List Class) (d : Class) → Among d a → Among d (a ++ b)
        wide [] b d j = elim j [ ]
        wide (y ∷ a) b d at_head = at_head
        wide (y ∷ a) b d (further j) = further (wide a b d j)

        among : (d : Class) → c.is_imported ≡ true → Among d (c ∷ upwards p) → d.is_imported ≡ true
        among d f a = ⊎_elim
            (λ is. ap (λ (v : Class). v.is_imported) is ∙ f)
            (λ j. upwards-imported c.supers p d s (λ y g v h. rule x y c g e f v h) j)
            (among-cons d c (upwards p) a)

        by : (v : Bool) → c.is_imported ≡ v → In m (imported_methods (if v then Imported (c ∷ upwards p)
            else Declared c (added w c) (line_in w p)))
            → (In m (imported_methods (line_in w p)) → (d : Class) × Among d (upwards p) × (d.is_imported ≡ true)
            × In m d.methods)
            → (d : Class) × Among d (c ∷ (upwards p ++ upwards r)) × (d.is_imported ≡ true) × In m d.methods
        by true f i rest =
            let g = in-class m (c ∷ upwards p) i in
            (g.0, wide (c ∷ upwards p) (upwards r) g.0 g.1, among g.0 f g.1, g.2)
        by false f i rest = let g = rest i in (g.0, further (wide (upwards p) (upwards r) g.0 g.1), g.2, g.3)
