-- The names that an export file lists above a class of the package: each stands above the class.
use Rattle.std.proofs.Common.{◌≡◌, ℕ, refl, sym, ap, subst, ◌∙◌, Bool, true, false, List, [], ◌∷◌, ◌++◌, map, inl, inr}
use Rattle.std.proofs.Common.{⊎_elim}
use Rattle.std.specs.Prelude.{◌⊎◌, ◌||◌, Some, None, if◌then◌else◌}
use Rattle.std.specs.Str.{bytes_eq}
use Rattle.cjc_world.specs.ExportFile.Supers.{is_one_of}
use Rattle.cjc_token_proof.specs.ClassOrder.Supers.Supers.{each_once, interfaces, name_of, names_upwards, superclasses}
use Rattle.cjc_world.specs.Upwards.{Below, OnLine, here, up}
use Rattle.cjc_world.proofs.UpwardLaws.Lines.{listed_below, no_list}
use Rattle.cjc_vtable.proofs.Filed.{Has, at_front, behind, has-either}
use Rattle.cjc_vtable.specs.Laws.{Under, below, itself}
use Rattle.cjc_world.specs.Classes.{Class, class_named}
use Rattle.cjc_world.specs.Interfaces.{Interface, gathered, is_among, where_listed}
use Rattle.cjc_world.specs.Interfaces
use Rattle.cjc_world.specs.Supertypes.{Above, IsAcyclic, AreSupertypes, Supertypes, Lists, after, directly, ends}
use Rattle.cjc_world.specs.Supertypes.{foremost, supertypes, known_here, onwards, unknown_here}
use Rattle.cjc_world.proofs.Cycles.{class_named-name}
use Rattle.cjc_world.proofs.Settled.{supertypes-AreSupertypes, lists-behind, lists-front}
use Rattle.cjc_world.proofs.Trees.{lists-split}
use Rattle.cjc_bytes.proofs.Lists.{bytes_true}

-- ---- lists

pub no_item : {A B : Type 0} {x : A} → Has x [] → B
no_item h = elim h [ ]

list_cons : (x y : List ℕ) (xs : List (List ℕ)) → Lists y (x ∷ xs) → (y ≡ x) ⊎ Lists y xs
list_cons x _ xs foremost = inl refl
list_cons x y xs (after l) = inr l

pub item_cons : {A : Type 0} (x y : A) (xs : List A) → Has y (x ∷ xs) → (y ≡ x) ⊎ Has y xs
item_cons x _ xs at_front = inl refl
item_cons x y xs (behind h) = inr h

lists_here : (x y : List ℕ) (xs : List (List ℕ)) → y ≡ x → Lists y (x ∷ xs)
lists_here x y xs same = subst (λ z. Lists z (x ∷ xs)) (sym same) foremost

-- each name once has no other names
once_lists : (seen xs : List (List ℕ)) (y : List ℕ) → Lists y (each_once seen xs) → Lists y xs
once_lists seen [] y l = no_list l
once_lists seen (x ∷ xs) y l = by (is_one_of seen x) l (λ g. once_lists seen xs y g) (λ g. once_lists (seen
    ++ x ∷ []) xs y g)
  where
    by : (b : Bool) → Lists y (if b then each_once seen xs else x ∷ each_once (seen ++ x ∷ []) xs)
        → (Lists y (each_once seen xs) → Lists y xs) → (Lists y (each_once (seen ++ x ∷ []) xs) → Lists y xs)
        → Lists y (x ∷ xs)
    by true l old fresh = after (old l)
    by false l old fresh = ⊎_elim (λ same. lists_here x y xs same) (λ g. after (fresh g))
        (list_cons x y (each_once (seen ++ x ∷ []) xs) l)

one_more : (seen : List (List ℕ)) (x y : List ℕ) → is_one_of (seen ++ x ∷ []) y ≡ true → (is_one_of seen y ≡ true)
    ⊎ (x ≡ y)
one_more [] x y e = inr (bytes_true x y (first (bytes_eq x y) e))
  where
    first : (b : Bool) → (b || false) ≡ true → b ≡ true
    first true e = refl
    first false e = cc
one_more (z ∷ seen) x y e = by (bytes_eq z y) e (one_more seen x y)
  where
    by : (b : Bool) → (b || is_one_of (seen ++ x ∷ []) y) ≡ true → (is_one_of (seen ++ x ∷ []) y ≡ true
        → (is_one_of seen y ≡ true) ⊎ (x ≡ y)) → ((b || is_one_of seen y) ≡ true) ⊎ (x ≡ y)
    by true e rest = inl refl
    by false e rest = rest e

-- and all that were not seen before
lists_once : (seen xs : List (List ℕ)) (y : List ℕ) → Lists y xs → (is_one_of seen y ≡ true)
    ⊎ Lists y (each_once seen xs)
lists_once seen [] y l = no_list l
lists_once seen (x ∷ xs) y l = by (list_cons x y xs l) (is_one_of seen x) refl (lists_once seen xs y) (lists_once (seen
    ++ x ∷ []) xs y)
  where
    by : (y ≡ x) ⊎ Lists y xs → (b : Bool) → is_one_of seen x ≡ b → (Lists y xs → (is_one_of seen y ≡ true)
        ⊎ Lists y (each_once seen xs)) → (Lists y xs → (is_one_of (seen ++ x ∷ []) y ≡ true)
        ⊎ Lists y (each_once (seen ++ x ∷ []) xs))
        → (is_one_of seen y ≡ true) ⊎ Lists y (if b then each_once seen xs else x ∷ each_once (seen ++ x ∷ []) xs)
    by (inl same) true e old fresh = inl (ap (is_one_of seen) same ∙ e)
    by (inl same) false e old fresh = inr (lists_here x y (each_once (seen ++ x ∷ []) xs) same)
    by (inr l) true e old fresh = old l
    by (inr l) false e old fresh = ⊎_elim
        (λ s. ⊎_elim (λ f. inl f) (λ same. inr (subst (λ z. Lists z (x ∷ each_once (seen ++ x ∷ []) xs)) same foremost))
        (one_more seen x y s))
        (λ g. inr (after g))
        (fresh l)

pub all_once : (xs : List (List ℕ)) (y : List ℕ) → Lists y xs → Lists y (each_once [] xs)
all_once xs y l = ⊎_elim (λ e. absurd (no e)) (λ g. g) (lists_once [] xs y l)
  where
    no : false ≡ true → ⊥
    no e = cc

-- ---- ways over superclasses

module _ (w : List Class) where
  pub under_on : (x y z : List ℕ) → Under w x y → Under w y z → Under w x z
  under_on x y z itself on = on
  under_on x y z (below {y = m} c e l rest) on = below c e l (under_on m y z rest on)

  pub line_under : (x : List ℕ) (d : Class) → OnLine w x d → Under w x d.name
  line_under x d (here e) = subst (Under w x) (sym (class_named-name w x d e)) itself
  line_under x d (up {s = s} c e l rest) = below c e l (line_under s d rest)

  pub under_below : (x y : List ℕ) → Under w x y → Below w x y
  under_below x y itself = inl refl
  under_below x z (below {y = y} c e l rest) = listed_below w x y z c e (lists-front y c.supers c.interfaces l)
      (under_below y z rest)

  pub step_above : (x s y : List ℕ) (c : Class) → class_named w x ≡ Some c → Lists s (c.supers ++ c.interfaces)
      → Below w s y → Above w x y
  step_above x s y c e l way = ⊎_elim (λ same. directly c e (subst (λ n. Lists n (c.supers ++ c.interfaces)) same l))
      (λ far. onwards c e l far) way

  -- ---- superclasses

  up_names : (xs : List (List ℕ)) (k : Supertypes) (y : List ℕ) → AreSupertypes w xs k → Lists y (names_upwards k)
      → (x : List ℕ) × Lists x xs × Under w x y
  up_names xs k y ends l = no_list l
  up_names xs k y (unknown_here {x = x} {xs = rest} {next = next} e n) foremost = (x, foremost, itself)
  up_names xs k y (unknown_here {x = x} {xs = rest} {next = next} e n) (after l) = let r = up_names rest next y n l
      in (r.0, after r.1, r.2)
  up_names xs k y (known_here {x = x} {xs = rest} {c = c} {supers = s} {next = next} e sk ik n) foremost =
      (x, foremost, subst (λ z. Under w x z) (sym (class_named-name w x c e)) itself)
  up_names xs k y (known_here {x = x} {xs = rest} {c = c} {supers = s} {next = next} e sk ik n) (after l) = ⊎_elim
      (λ a. let r = up_names c.supers s y sk a in (x, foremost, below c e r.1 r.2))
      (λ b. let r = up_names rest next y n b in (r.0, after r.1, r.2))
      (lists-split y (names_upwards s) (names_upwards next) l)

  names_up : (x : List ℕ) (xs : List (List ℕ)) (k : Supertypes) (y : List ℕ) → AreSupertypes w xs k → Lists x xs
      → Under w x y → Lists y (names_upwards k)
  names_up x xs k y ends l under = no_list l
  names_up x xs k y (unknown_here {next = next} e n) foremost itself = foremost
  names_up x xs k y (unknown_here {next = next} e n) foremost (below c f l rest) = absurd (clash (sym e ∙ f))
    where
      clash : {c : Class} → None ≡ Some c → ⊥
      clash e = cc
  names_up x xs k y (unknown_here {xs = rest} {next = next} e n) (after l) under =
      after (names_up x rest next y n l under)
  names_up x xs k y (known_here {c = c} {supers = s} {next = next} e sk ik n) foremost itself =
      subst (λ z. Lists z (c.name ∷ names_upwards s ++ names_upwards next)) (class_named-name w x c e) foremost
  names_up x xs k y (known_here {c = c} {supers = s} {next = next} e sk ik n) foremost (below {y = m} d f l rest) =
      let both : Some d ≡ Some c = sym f ∙ e in
      let one : d ≡ c = cc in
      after (lists-front y (names_upwards s) (names_upwards next) (names_up m c.supers s y sk
      (subst (λ (v : Class). Lists m v.supers) one l) rest))
  names_up x xs k y (known_here {xs = rest} {c = c} {supers = s} {next = next} e sk ik n) (after l) under =
      after (lists-behind y (names_upwards s) (names_upwards next) (names_up x rest next y n l under))

  -- ---- interfaces

  up_gathered : (listed : Bool) (xs : List (List ℕ)) (k : Supertypes) (i : Interface) → AreSupertypes w xs k
      → Has i (gathered listed k) → (x : List ℕ) × Lists x xs × Below w x i.name
  unfolding gathered
  up_gathered listed xs k i ends h = no_item h
  up_gathered listed xs k i (unknown_here {x = x} {xs = rest} {next = next} e n) h = ⊎_elim
      (λ a. (x, foremost, inl (own listed a)))
      (λ b. let r = up_gathered listed rest next i n b in (r.0, after r.1, r.2))
      (has-either i (where_listed listed (record { name = x; class = None })) (gathered listed next) h)
    where
      own : (b : Bool) → Has i (where_listed b (record { name = x; class = None })) → x ≡ i.name
      own true h = ⊎_elim (λ same. sym (ap (λ (j : Interface). j.name) same)) (λ g. no_item g)
          (item_cons (record { name = x; class = None }) i [] h)
      own false h = no_item h
  up_gathered listed xs k i (known_here {x = x} {xs = rest} {c = c} {supers = s} {interfaces = t} {next = next} e sk ik
      n) h =
      let S = gathered false s in
      let I = gathered true t in
      let self = where_listed listed (record { name = c.name; class = Some c }) in
      ⊎_elim
      (λ front. ⊎_elim
      (λ both. ⊎_elim
      (λ a. let r = up_gathered false c.supers s i sk a
      in (x, foremost, listed_below w x r.0 i.name c e (lists-front r.0 c.supers c.interfaces r.1) r.2))
      (λ b. let r = up_gathered true c.interfaces t i ik b
      in (x, foremost, listed_below w x r.0 i.name c e (lists-behind r.0 c.supers c.interfaces r.1) r.2))
      (has-either i S I both))
      (λ own_one. (x, foremost, inl (sym (class_named-name w x c e) ∙ own listed own_one)))
      (has-either i (S ++ I) self front))
      (λ back. let r = up_gathered listed rest next i n back in (r.0, after r.1, r.2))
      (has-either i (S ++ I ++ self) (gathered listed next) h)
    where
      own : (b : Bool) → Has i (where_listed b (record { name = c.name; class = Some c })) → c.name ≡ i.name
      own true h = ⊎_elim (λ same. sym (ap (λ (j : Interface). j.name) same)) (λ g. no_item g)
          (item_cons (record { name = c.name; class = Some c }) i [] h)
      own false h = no_item h

  once_has : (before is : List Interface) (i : Interface) → Has i (Interfaces.each_once before is) → Has i is
  once_has before [] i h = no_item h
  once_has before (j ∷ is) i h = by (is_among before j.name) h (λ g. once_has before is i g) (λ g. once_has (before
      ++ j ∷ []) is i g)
    where
      by : (b : Bool) → Has i (if b then Interfaces.each_once before is else j ∷ Interfaces.each_once (before
          ++ j ∷ []) is) → (Has i (Interfaces.each_once before is) → Has i is)
          → (Has i (Interfaces.each_once (before ++ j ∷ []) is) → Has i is) → Has i (j ∷ is)
      by true g old fresh = behind (old g)
      by false g old fresh = ⊎_elim (λ same. subst (λ (v : Interface). Has v (j ∷ is)) (sym same) at_front)
          (λ r. behind (fresh r)) (item_cons j i (Interfaces.each_once (before ++ j ∷ []) is) g)

  named_has : (is : List Interface) (y : List ℕ) → Lists y (map name_of is) → (i : Interface) × Has i is × (i.name ≡ y)
  named_has [] y l = no_list l
  named_has (i ∷ is) y foremost = (i, at_front, refl)
  named_has (i ∷ is) y (after l) = let r = named_has is y l in (r.0, behind r.1, r.2)

  module _ (acyclic : IsAcyclic w) (c : Class) where
    -- a superclass that an export file lists stands over superclasses above the class
    pub super_under : (y : List ℕ) → Lists y (superclasses w c) → (s : List ℕ) × Lists s c.supers × Under w s y
    super_under y l = up_names c.supers (supertypes w c.supers) y (supertypes-AreSupertypes w acyclic c.supers)
        (once_lists [] (names_upwards (supertypes w c.supers)) y l)

    -- and each is listed
    pub under_super : (s y : List ℕ) → Lists s c.supers → Under w s y → Lists y (superclasses w c)
    under_super s y l under = all_once (names_upwards (supertypes w c.supers)) y
        (names_up s c.supers (supertypes w c.supers) y (supertypes-AreSupertypes w acyclic c.supers) l under)

    -- an interface that it lists stands above the class
    pub interface_below : (y : List ℕ) → Lists y (interfaces w c) → (s : List ℕ) × Lists s (c.supers ++ c.interfaces)
        × Below w s y
    interface_below y l =
        let n = named_has (Interfaces.each_once [] (gathered false (supertypes w c.supers)
        ++ gathered true (supertypes w c.interfaces))) y l in
        let i = n.0 in
        let h = once_has [] (gathered false (supertypes w c.supers) ++ gathered true (supertypes w c.interfaces)) i n.1
        in
        ⊎_elim
        (λ a. let r = up_gathered false c.supers (supertypes w c.supers) i (supertypes-AreSupertypes w acyclic c.supers)
        a in (r.0, lists-front r.0 c.supers c.interfaces r.1, subst (Below w r.0) n.2 r.2))
        (λ b. let r = up_gathered true c.interfaces (supertypes w c.interfaces) i (supertypes-AreSupertypes w acyclic
        c.interfaces) b in (r.0, lists-behind r.0 c.supers c.interfaces r.1, subst (Below w r.0) n.2 r.2))
        (has-either i (gathered false (supertypes w c.supers)) (gathered true (supertypes w c.interfaces)) h)
