-- Ways upwards, and what look-ups find on them.
use Rattle.std.proofs.Common.{◌≡◌, ℕ, suc, refl, sym, ap, subst, ◌∙◌, Bool, true, false, List, [], ◌∷◌, ◌++◌, length}
use Rattle.std.proofs.Common.{inl, inr, ⊎_elim}
use Rattle.std.specs.Prelude.{◌⊎◌, ◌||◌, Option, Some, None}
use Rattle.std.specs.Str.{bytes_eq}
use Rattle.cjc_bytes.specs.AccessFlags.{is_interface}
use Rattle.cjc_bytes.proofs.Lists.{name_is, bytes_true}
use Rattle.cjc_bytes.proofs.Bools.{true_or_false}
use Rattle.cjc_world.specs.declared.found.Found.{Found}
use Rattle.cjc_world.specs.Classes.{Class, class_named}
use Rattle.cjc_world.specs.Interfaces.{gathered, has_interface, known, where_listed}
use Rattle.cjc_world.specs.Supertypes.{Above, End, IsAcyclic, AreSupertypes, Supertypes, Known, Lists, Unknown}
use Rattle.cjc_world.specs.Supertypes.{directly, ends, is_below, is_one_named, supertypes, known_here, line, onwards}
use Rattle.cjc_world.specs.Supertypes.{stands_by_supers, unknown_here, upwards}
use Rattle.cjc_world.specs.Supertypes as supertypes
use Rattle.cjc_world.specs.Lookup.{field_in, find_field, find_method, first, object, or_else, own_field, own_method}
use Rattle.cjc_world.specs.Subtype.{is_subclass}
use Rattle.cjc_world.proofs.Cycles.{From, above-class, class_named-name, tree-above}
use Rattle.cjc_world.proofs.Rising.{known-append}
use Rattle.cjc_world.proofs.Settled.{supertypes-AreSupertypes, lists-behind, lists-front}
use Rattle.cjc_world.proofs.Subtypes.{reaches}
use Rattle.cjc_world.proofs.Trees.{lists-split}
use Rattle.cjc_world.specs.Upwards.{Below, Has, IsOrdered, OnLine, after, foremost, here, up}

-- ---- lists

pub has-front : {A : Type 0} (c : A) (xs ys : List A) → Has c xs → Has c (xs ++ ys)
has-front c [] ys h = elim h [ ]
has-front c (x ∷ xs) ys foremost = foremost
has-front c (x ∷ xs) ys (after h) = after (has-front c xs ys h)

pub has-back : {A : Type 0} (c : A) (xs ys : List A) → Has c ys → Has c (xs ++ ys)
has-back c [] ys h = h
has-back c (x ∷ xs) ys h = after (has-back c xs ys h)

pub has-either : {A : Type 0} (c : A) (xs ys : List A) → Has c (xs ++ ys) → Has c xs ⊎ Has c ys
has-either c [] ys h = inr h
has-either c (x ∷ xs) ys foremost = inl foremost
has-either c (x ∷ xs) ys (after h) = ⊎_elim (λ g. inl (after g)) (λ g. inr g) (has-either c xs ys h)

pub has-cons : {A : Type 0} (x y : A) (xs : List A) → Has x (y ∷ xs) → (x ≡ y) ⊎ Has x xs
has-cons x _ xs foremost = inl refl
has-cons x y xs (after h) = inr h

-- what the first that has it answers
pub first_has : (own : Class → Option Found) (cs : List Class) (f : Found) → first own cs ≡ Some f → (c : Class)
    × Has c cs × (own c ≡ Some f)
unfolding first
first_has own [] f e = absurd cc
first_has own (c ∷ cs) f e = by (own c) refl e (first_has own cs f)
  where
    by : (o : Option Found) → own c ≡ o → or_else o (first own cs) ≡ Some f → (first own cs ≡ Some f → (d : Class)
        × Has d cs × (own d ≡ Some f)) → (d : Class) × Has d (c ∷ cs) × (own d ≡ Some f)
    by (Some g) h e rest = (c, foremost, h ∙ e)
    by None h e rest = let r = rest e in (r.0, after r.1, r.2)

pub first_some : (own : Class → Option Found) (cs : List Class) (c : Class) (f : Found) → Has c cs → own c ≡ Some f
    → (g : Found) × (first own cs ≡ Some g)
unfolding first
first_some own [] c f h e = elim h [ ]
first_some own (c ∷ cs) _ f foremost e = (f, ap (λ o. or_else o (first own cs)) e)
first_some own (d ∷ cs) c f (after h) e = by (own d) (first_some own cs c f h e)
  where
    by : (o : Option Found) → (g : Found) × (first own cs ≡ Some g) → (g : Found) × (or_else o (first own cs) ≡ Some g)
    by (Some g) r = (g, refl)
    by None r = r

-- ---- one class of a name

pub same_class : {c d : Class} → Some c ≡ Some d → c ≡ d
same_class e = cc

pub no_list : {A : Type 0} {x : List ℕ} → Lists x [] → A
no_list i = elim i [ ]

module _ (w : List Class) where
  itself : (x : List ℕ) (c : Class) → class_named w x ≡ Some c → class_named w c.name ≡ Some c
  itself x c e = ap (class_named w) (class_named-name w x c e) ∙ e

  one : (x : List ℕ) (c d : Class) → class_named w x ≡ Some c → class_named w x ≡ Some d → c ≡ d
  one x c d e f = same_class (sym e ∙ f)

  -- ---- lines

  pub line_named : (x : List ℕ) (c : Class) → OnLine w x c → class_named w c.name ≡ Some c
  line_named x c (here e) = itself x c e
  line_named x c (up {s = s} d e l rest) = line_named s c rest

  pub line_begins : (x : List ℕ) (c : Class) → OnLine w x c → (d : Class) × (class_named w x ≡ Some d)
  line_begins x c (here e) = (c, e)
  line_begins x c (up d e l rest) = (d, e)

  pub line_on : (x : List ℕ) (c d : Class) → OnLine w x c → OnLine w c.name d → OnLine w x d
  line_on x c d (here e) on = subst (λ n. OnLine w n d) (class_named-name w x c e) on
  line_on x c d (up {s = s} b e l rest) on = up b e l (line_on s c d rest on)

  pub line_below : (x : List ℕ) (c : Class) → OnLine w x c → Below w x c.name
  line_below x c (here e) = inl (sym (class_named-name w x c e))
  line_below x c (up {s = s} d e l rest) =
      inr (⊎_elim (λ same. directly d e (subst (λ n. Lists n (d.supers ++ d.interfaces)) same (lists-front s d.supers
      d.interfaces l))) (λ far. onwards d e (lists-front s d.supers d.interfaces l) far) (line_below s c rest))

  pub above_on : (x y z : List ℕ) → Above w x y → Above w y z → Above w x z
  above_on x y z (directly c e i) far = onwards c e i far
  above_on x y z (onwards {y = m} c e i rest) far = onwards c e i (above_on m y z rest far)

  pub below_on : (x y z : List ℕ) → Below w x y → Below w y z → Below w x z
  below_on x y z p q = ⊎_elim (λ same. subst (λ n. Below w n z) (sym same) q)
      (λ far. ⊎_elim (λ same. inr (subst (λ n. Above w x n) same far)) (λ more. inr (above_on x y z far more)) q) p

  pub listed_below : (x s y : List ℕ) (c : Class) → class_named w x ≡ Some c → Lists s (c.supers ++ c.interfaces)
      → Below w s y → Below w x y
  listed_below x s y c e l way =
      inr (⊎_elim (λ same. directly c e (subst (λ n. Lists n (c.supers ++ c.interfaces)) same l))
      (λ far. onwards c e l far) way)

  -- a class on the line stands among those that the tree goes up
  pub line_listed : (x : List ℕ) (xs : List (List ℕ)) (k : Supertypes) (c : Class) → AreSupertypes w xs k → Lists x xs
      → OnLine w x c → Has c (upwards k)
  line_listed x xs k c ends i on = no_list i
  line_listed x xs k c (unknown_here {next = next} e n) supertypes.foremost on = let b = line_begins x c on
      in absurd (clash (sym e ∙ b.1))
    where
      clash : {d : Class} → None ≡ Some d → ⊥
      clash e = cc
  line_listed x xs k c (unknown_here {xs = rest} {next = next} e n) (supertypes.after i) on =
      line_listed x rest next c n i on
  line_listed x xs k c (known_here {c = d} {supers = s} {next = next} e sk ik n) supertypes.foremost (here f) =
      subst (λ b. Has b (d ∷ upwards s ++ upwards next)) (one x d c e f) foremost
  line_listed x xs k c (known_here {c = d} {supers = s} {next = next} e sk ik n) supertypes.foremost
      (up {s = y} b f l rest) =
      let is : b ≡ d = one x b d f e in
      after (has-front c (upwards s) (upwards next) (line_listed y d.supers s c sk
      (subst (λ (v : Class). Lists y v.supers) is l) rest))
  line_listed x xs k c (known_here {xs = rest} {c = d} {supers = s} {next = next} e sk ik n) (supertypes.after i) on =
      after (has-back c (upwards s) (upwards next) (line_listed x rest next c n i on))

  pub listed_line : (xs : List (List ℕ)) (k : Supertypes) (c : Class) → AreSupertypes w xs k → Has c (upwards k)
      → (x : List ℕ) × Lists x xs × OnLine w x c
  listed_line xs k c ends h = elim h [ ]
  listed_line xs k c (unknown_here {xs = rest} {next = next} e n) h = let r = listed_line rest next c n h
      in (r.0, supertypes.after r.1, r.2)
  listed_line xs k c (known_here {x = x} e sk ik n) foremost = (x, supertypes.foremost, here e)
  listed_line xs k c (known_here {x = x} {xs = rest} {c = d} {supers = s} {next = next} e sk ik n) (after h) =
      ⊎_elim
      (λ g. let r = listed_line d.supers s c sk g in (x, supertypes.foremost, up d e r.1 r.2))
      (λ g. let r = listed_line rest next c n g in (r.0, supertypes.after r.1, r.2))
      (has-either c (upwards s) (upwards next) h)

  pub in_line : IsAcyclic w → (x : List ℕ) (c : Class) → OnLine w x c → Has c (line w x)
  unfolding line
  in_line acyclic x c on = line_listed x (x ∷ []) (supertypes w (x ∷ [])) c (supertypes-AreSupertypes w acyclic (x
      ∷ [])) supertypes.foremost on

  pub of_line : IsAcyclic w → (x : List ℕ) (c : Class) → Has c (line w x) → OnLine w x c
  unfolding line
  of_line acyclic x c h = by (listed_line (x ∷ []) (supertypes w (x ∷ [])) c (supertypes-AreSupertypes w acyclic (x
      ∷ [])) h)
    where
      by : (y : List ℕ) × Lists y (x ∷ []) × OnLine w y c → OnLine w x c
      by (y, supertypes.foremost, on) = on
      by (y, supertypes.after i, on) = no_list i

  -- ---- subclasses

  pub subclass_below : (x y : List ℕ) → is_subclass w x y ≡ true → Below w x y
  unfolding is_subclass supertypes From
  subclass_below x y e = by (tree-above w (suc (length w)) y (x ∷ []) e)
    where
      by : (z : List ℕ) × Lists z (x ∷ []) × ((z ≡ y) ⊎ Above w z y) → Below w x y
      by (z, supertypes.foremost, way) = way
      by (z, supertypes.after i, way) = no_list i

  pub below_subclass : (x y : List ℕ) → Below w x y → is_subclass w x y ≡ true
  unfolding is_subclass
  below_subclass x y way = reaches w x y way

-- the classes that a tree gathers: those of what stands above, those of what is listed, the class itself where it is
-- listed, and the rest
gathered_known : (listed : Bool) (c : Class) (s i next : Supertypes) → known (gathered listed (Known c s i next))
    ≡ known (gathered false s) ++ known (gathered true i)
    ++ known (where_listed listed (record { name = c.name; class = Some c })) ++ known (gathered listed next)
unfolding gathered known
gathered_known listed c s i next =
    let S = gathered false s in
    let I = gathered true i in
    let self = where_listed listed (record { name = c.name; class = Some c }) in
    known-append (S ++ I ++ self) (gathered listed next) ∙ ap (λ v. v ++ known (gathered listed next)) (known-append (S
    ++ I) self ∙ ap (λ v. v ++ known self) (known-append S I))

gathered_unknown : (listed : Bool) (x : List ℕ) (next : Supertypes) → known (gathered listed (Unknown x next))
    ≡ known (gathered listed next)
unfolding gathered known
gathered_unknown true x next = refl
gathered_unknown false x next = refl

module _ (w : List Class) (ordered : IsOrdered w) where
  -- what is above a class of an export file is of one
  pub above_abroad : (x y : List ℕ) (c d : Class) → Above w x y → class_named w x ≡ Some c → c.is_imported ≡ true
      → class_named w y ≡ Some d → d.is_imported ≡ true
  above_abroad x y c d (directly b e l) f imp g =
      let is = one w x b c e f in
      ordered.abroad x y b d e (ap (λ (v : Class). v.is_imported) is ∙ imp) l g
  above_abroad x y c d (onwards {y = z} b e l rest) f imp g =
      let is = one w x b c e f in
      let m = above-class w z y rest in
      above_abroad z y m.0 d rest m.1 (ordered.abroad x z b m.0 e (ap (λ (v : Class). v.is_imported) is ∙ imp) l m.1) g

  pub below_abroad : (x y : List ℕ) (c d : Class) → Below w x y → class_named w x ≡ Some c → c.is_imported ≡ true
      → class_named w y ≡ Some d → d.is_imported ≡ true
  below_abroad x y c d way f imp g =
      ⊎_elim (λ same. ap (λ (v : Class). v.is_imported) (one w y d c g (sym (ap (class_named w) same) ∙ f))
      ∙ imp) (λ far. above_abroad x y c d far f imp g) way

  -- ---- a class above another is on its line

  LeadsTo : List ℕ → Class → Type 0
  LeadsTo x d = (c : Class) → class_named w x ≡ Some c → (is_interface c.flags ≡ false → OnLine w x d)
      × (is_interface c.flags ≡ true → OnLine w object d)

  -- through an interface the way leads to java/lang/Object
  through : (x z : List ℕ) (b d : Class) → class_named w x ≡ Some b → Lists z (b.supers ++ b.interfaces) → (m : Class)
      → class_named w z ≡ Some m → (is_interface m.flags ≡ false → OnLine w z d) → (is_interface m.flags ≡ true
      → OnLine w object d)
      → (is_interface b.flags ≡ false → OnLine w x d) × (is_interface b.flags ≡ true → OnLine w object d)
  through x z b d e l m f of_class of_interface = ⊎_elim
      (λ s. (
        λ plain. up b e s (of_class (ordered.supers x z b m e s f)),
        λ interface. subst (λ n. OnLine w n d)
            (ordered.only_object x z b e interface s) (of_class (ordered.supers x z b m e s f)),
      ))
      (λ i. let far = of_interface (ordered.interfaces x z b m e i f) in (
        λ plain. (let o = ordered.rooted x b e plain
            in line_on w x o.0 d o.2 (subst (λ n. OnLine w n d) (sym (class_named-name w object o.0 o.1)) far)),
        λ interface. far,
      ))
      (lists-split z b.supers b.interfaces l)

  leads : (x y : List ℕ) (d : Class) → Above w x y → class_named w y ≡ Some d → is_interface d.flags ≡ false
      → LeadsTo x d
  unfolding LeadsTo
  leads x y d (directly b e l) g plain c f = subst (λ (v : Class). (is_interface v.flags ≡ false → OnLine w x d)
      × (is_interface v.flags ≡ true → OnLine w object d)) (one w x b c e f)
      (through x y b d e l d g (λ h. here g) (λ h. absurd (clash (is_interface d.flags) plain h)))
    where
      clash : (b : Bool) → b ≡ false → b ≡ true → ⊥
      clash true e f = cc
      clash false e f = cc
  leads x y d (onwards {y = z} b e l rest) g plain c f =
      let m = above-class w z y rest in
      let later = leads z y d rest g plain m.0 m.1 in
      subst (λ (v : Class). (is_interface v.flags ≡ false → OnLine w x d) × (is_interface v.flags ≡ true
      → OnLine w object d)) (one w x b c e f) (through x z b d e l m.0 m.1 later.0 later.1)

  pub on_line : (x y : List ℕ) (c d : Class) → Below w x y → class_named w x ≡ Some c → is_interface c.flags ≡ false
      → class_named w y ≡ Some d → is_interface d.flags ≡ false → OnLine w x d
  unfolding LeadsTo
  on_line x y c d way f plain g ground = ⊎_elim (λ same. subst (λ n. OnLine w n d) (sym same) (here g))
      (λ far. (leads x y d far g ground c f).0 plain) way

  -- ---- interfaces that a tree gathers

  -- where the names are listed as interfaces, they are ones
  abbrev AllInterfaces : Bool → List (List ℕ) → Type 0
  AllInterfaces listed xs = listed ≡ true → (y : List ℕ) (c : Class) → Lists y xs → class_named w y ≡ Some c
      → is_interface c.flags ≡ true

  pub gathered_above : (listed : Bool) (xs : List (List ℕ)) (k : Supertypes) (d : Class) → AreSupertypes w xs k
      → AllInterfaces listed xs → Has d (known (gathered listed k))
      → (x : List ℕ) × Lists x xs × Below w x d.name × (class_named w d.name ≡ Some d) × (is_interface d.flags ≡ true)
  unfolding gathered known
  gathered_above listed xs k d ends all h = elim h [ ]
  gathered_above listed xs k d (unknown_here {x = x} {xs = rest} {next = next} e n) all h =
      let r = gathered_above listed rest next d n (λ is y c i. all is y c (supertypes.after i))
      (subst (Has d) (gathered_unknown listed x next) h) in
      (r.0, supertypes.after r.1, r.2, r.3, r.4)
  gathered_above listed xs k d (known_here {x = x} {xs = rest} {c = c} {supers = s} {interfaces = i} {next = next} e sk
      ik n) all h =
      let S = known (gathered false s) in
      let I = known (gathered true i) in
      let self = known (where_listed listed (record { name = c.name; class = Some c })) in
      ⊎_elim
      (λ front. ⊎_elim
      (λ both. ⊎_elim
      (λ a. let r = gathered_above false c.supers s d sk (λ is. absurd (no is)) a
      in (
        x,
        supertypes.foremost,
        listed_below w x r.0 d.name c e (lists-front r.0 c.supers c.interfaces r.1) r.2,
        r.3,
        r.4,
      ))
      (λ b. let r = gathered_above true c.interfaces i d ik (λ is y v l g. ordered.interfaces x y c v e l g) b
      in (
        x,
        supertypes.foremost,
        listed_below w x r.0 d.name c e (lists-behind r.0 c.supers c.interfaces r.1) r.2,
        r.3,
        r.4,
      ))
      (has-either d S I both))
      (λ own. let r = own_one listed refl own in (
        x,
        supertypes.foremost,
        inl (sym (ap (λ (v : Class). v.name) r.0
            ∙ class_named-name w x c e)),
        subst (λ (v : Class). class_named w v.name ≡ Some v) (sym r.0) (itself w x c e),
        ap (λ (v : Class). is_interface v.flags) r.0 ∙ all r.1 x c supertypes.foremost e,
      ))
      (has-either d (S ++ I) self front))
      (λ back. let r = gathered_above listed rest next d n (λ is y v l. all is y v (supertypes.after l)) back
      in (r.0, supertypes.after r.1, r.2, r.3, r.4))
      (has-either d (S ++ I ++ self) (known (gathered listed next)) (subst (Has d) (gathered_known listed c s i next)
      h))
    where
      no : false ≡ true → ⊥
      no e = cc

      own_one : (listed_here : Bool) → listed ≡ listed_here
          → Has d (known (where_listed listed_here (record { name = c.name; class = Some c }))) → (d ≡ c)
          × (listed ≡ true)
      own_one true is h = ⊎_elim (λ same. (same, is)) (λ g. elim g [ ]) (has-cons d c [] h)
      own_one false is h = elim h [ ]

  -- an interface above a class is gathered
  abbrev MayBeIn : Bool → List ℕ → Type 0
  MayBeIn listed x = (c : Class) → class_named w x ≡ Some c → (listed ≡ true) ⊎ (is_interface c.flags ≡ false)

  pub gathered_has : (listed : Bool) (x : List ℕ) (xs : List (List ℕ)) (k : Supertypes) (y : List ℕ) (d : Class)
      → AreSupertypes w xs k → Lists x xs → Below w x y → class_named w y ≡ Some d → is_interface d.flags ≡ true
      → MayBeIn listed x → Has d (known (gathered listed k))
  unfolding gathered known
  gathered_has listed x xs k y d ends l way g is may = no_list l
  gathered_has listed x xs k y d (unknown_here {next = next} e n) supertypes.foremost way g is may =
      ⊎_elim (λ same. absurd (clash (sym (ap (class_named w) (sym same) ∙ e) ∙ g))) (λ far. let b = above-class w x y
      far in absurd (clash (sym e ∙ b.1))) way
    where
      clash : {c : Class} → None ≡ Some c → ⊥
      clash e = cc
  gathered_has listed x xs k y d (unknown_here {x = z} {xs = rest} {next = next} e n) (supertypes.after l) way g is
      may = subst (Has d) (sym (gathered_unknown listed z next)) (gathered_has listed x rest next y d n l way g is may)
  gathered_has listed x xs k y d (known_here {xs = rest} {c = c} {supers = s} {interfaces = i} {next = next} e sk ik n)
      supertypes.foremost way g is may =
      subst (Has d) (sym (gathered_known listed c s i next)) (has-front d (known (gathered false s)
      ++ known (gathered true i) ++ known (where_listed listed (record { name = c.name; class = Some c })))
      (known (gathered listed next)) (by way (λ z a far m. gathered_has false z c.supers s y d sk a far g is m)
      (λ z b far. gathered_has true z c.interfaces i y d ik b far g is (λ v h. inl refl))))
    where
      clash : (b : Bool) → b ≡ false → b ≡ true → ⊥
      clash true e f = cc
      clash false e f = cc

      own : (listed_here : Bool) → listed_here ≡ true
          → Has c (known (where_listed listed_here (record { name = c.name; class = Some c })))
      own true e = foremost
      own false e = absurd cc

      -- over one listed name
      over : (z : List ℕ) → Lists z (c.supers ++ c.interfaces) → (m : Class) → class_named w z ≡ Some m → Below w z y
          → ((z : List ℕ) → Lists z c.supers → Below w z y → ((v : Class) → class_named w z ≡ Some v → (false ≡ true)
          ⊎ (is_interface v.flags ≡ false)) → Has d (known (gathered false s))) → ((z : List ℕ) → Lists z c.interfaces
          → Below w z y → Has d (known (gathered true i))) → Has d (known (gathered false s) ++ known (gathered true i)
          ++ known (where_listed listed (record { name = c.name; class = Some c })))
      over z l m f far rest_s rest_i = has-front d (known (gathered false s) ++ known (gathered true i))
          (known (where_listed listed (record { name = c.name; class = Some c }))) (⊎_elim
          (λ a. has-front d (known (gathered false s)) (known (gathered true i))
          (rest_s z a far (λ v h. inr (subst (λ (u : Class). is_interface u.flags ≡ false) (one w z m v f h)
          (ordered.supers x z c m e a f)))))
          (λ b. has-back d (known (gathered false s)) (known (gathered true i)) (rest_i z b far))
          (lists-split z c.supers c.interfaces l))

      by : Below w x y → ((z : List ℕ) → Lists z c.supers → Below w z y → ((v : Class) → class_named w z ≡ Some v
          → (false ≡ true) ⊎ (is_interface v.flags ≡ false)) → Has d (known (gathered false s)))
          → ((z : List ℕ) → Lists z c.interfaces → Below w z y → Has d (known (gathered true i)))
          → Has d (known (gathered false s) ++ known (gathered true i)
          ++ known (where_listed listed (record { name = c.name; class = Some c })))
      by (inl same) rest_s rest_i =
          let is_one : c ≡ d = one w x c d e (ap (class_named w) same ∙ g) in
          has-back d (known (gathered false s) ++ known (gathered true i))
          (known (where_listed listed (record { name = c.name; class = Some c })))
          (subst (λ (v : Class). Has v (known (where_listed listed (record { name = c.name; class = Some c }))))
          is_one (⊎_elim (λ there. own listed there) (λ plain. absurd (clash (is_interface d.flags)
          (subst (λ (v : Class). is_interface v.flags ≡ false) is_one plain) is)) (may c e)))
      by (inr (directly b f l)) rest_s rest_i = let is_one : b ≡ c = one w x b c f e
          in over y (subst (λ (v : Class). Lists y (v.supers ++ v.interfaces)) is_one l) d g (inl refl) rest_s rest_i
      by (inr (onwards {y = z} b f l rest)) rest_s rest_i =
          let is_one : b ≡ c = one w x b c f e in
          let m = above-class w z y rest in
          over z (subst (λ (v : Class). Lists z (v.supers ++ v.interfaces)) is_one l) m.0 m.1 (inr rest) rest_s rest_i
  gathered_has listed x xs k y d (known_here {xs = rest} {c = c} {supers = s} {interfaces = i} {next = next} e sk ik n)
      (supertypes.after l) way g is may =
      let S = known (gathered false s) in
      let I = known (gathered true i) in
      let self = known (where_listed listed (record { name = c.name; class = Some c })) in
      subst (Has d) (sym (gathered_known listed c s i next)) (has-back d (S ++ I ++ self) (known (gathered listed next))
      (gathered_has listed x rest next y d n l way g is may))

  -- ---- what look-ups find

  -- a method that is found is declared by the class, by a superclass, or by an interface above it
  pub method_found_above : (x name desc : List ℕ) (f : Found) → find_method w x name desc ≡ Some f → (d : Class)
      × Below w x d.name × (class_named w d.name ≡ Some d) × (own_method false name desc d ≡ Some f)
      × (OnLine w x d ⊎ (is_interface d.flags ≡ true))
  unfolding find_method
  method_found_above x name desc f e = by (first own (line w x)) refl e
    where
      own : Class → Option Found
      own = own_method false name desc

      by : (o : Option Found) → first own (line w x) ≡ o
          → or_else o (first own (known (gathered false (supertypes w (x ∷ []))))) ≡ Some f
          → (d : Class) × Below w x d.name × (class_named w d.name ≡ Some d) × (own_method false name desc d ≡ Some f)
          × (OnLine w x d ⊎ (is_interface d.flags ≡ true))
      by (Some g) h e =
          let r = first_has own (line w x) f (h ∙ e) in
          let on = of_line w ordered.acyclic x r.0 r.1 in
          (r.0, line_below w x r.0 on, line_named w x r.0 on, r.2, inl on)
      by None h e =
          let r = first_has own (known (gathered false (supertypes w (x ∷ [])))) f e in
          of_one r.0 r.2 (gathered_above false (x ∷ []) (supertypes w (x ∷ [])) r.0 (supertypes-AreSupertypes w
          ordered.acyclic (x ∷ [])) (λ is. absurd (no is)) r.1)
        where
          no : false ≡ true → ⊥
          no e = cc

          of_one : (d : Class) → own d ≡ Some f → (y : List ℕ) × Lists y (x ∷ []) × Below w y d.name
              × (class_named w d.name ≡ Some d) × (is_interface d.flags ≡ true)
              → (d : Class) × Below w x d.name × (class_named w d.name ≡ Some d)
              × (own_method false name desc d ≡ Some f) × (OnLine w x d ⊎ (is_interface d.flags ≡ true))
          of_one d found (y, supertypes.foremost, way, named, is) = (d, way, named, found, inr is)
          of_one d found (y, supertypes.after l, way, named, is) = no_list l

  -- a method that a class declares is found from it
  pub own_found : (d : Class) (name desc : List ℕ) (f : Found) → class_named w d.name ≡ Some d
      → own_method false name desc d ≡ Some f → find_method w d.name name desc ≡ Some f
  unfolding find_method line first
  own_found d name desc f named e = by (supertypes w (d.name ∷ [])) (supertypes-AreSupertypes w ordered.acyclic (d.name
      ∷ []))
    where
      own : Class → Option Found
      own = own_method false name desc

      by : (k : Supertypes) → AreSupertypes w (d.name ∷ []) k
          → or_else (first own (upwards k)) (first own (known (gathered false k))) ≡ Some f
      by _ (unknown_here f n) = absurd (clash (sym f ∙ named))
        where
          clash : {c : Class} → None ≡ Some c → ⊥
          clash e = cc
      by _ (known_here {c = c} {supers = s} {interfaces = i} {next = next} g sk ik n) =
          let is : d ≡ c = one w d.name d c named g in
          ap (λ o. or_else (or_else o (first own (upwards s ++ upwards next)))
          (first own (known (gathered false (Known c s i next))))) (subst (λ (v : Class). own v ≡ Some f) is e)

  -- a field that is found is declared by the class or by one above it
  abbrev Among : (name desc : List ℕ) → Found → List (List ℕ) → Type 0
  Among name desc f xs = (y : List ℕ) × Lists y xs × (d : Class) × Below w y d.name × (class_named w d.name ≡ Some d)
      × (own_field name desc d ≡ Some f)

  among : (name desc : List ℕ) (f : Found) (xs : List (List ℕ)) (k : Supertypes) → AreSupertypes w xs k
      → field_in (own_field name desc) k ≡ Some f → Among name desc f xs
  among name desc f xs k ends e = absurd cc
  among name desc f xs k (unknown_here {xs = rest} {next = next} g n) e = let r = among name desc f rest next n e
      in (r.0, supertypes.after r.1, r.2, r.3, r.4, r.5)
  among name desc f xs k (known_here {x = y} {xs = rest} {c = c} {supers = s} {interfaces = i} {next = next} g sk ik n)
      e =
      by (own c) (field_in own i) (field_in own s) refl refl refl e (among name desc f c.interfaces i ik)
      (among name desc f c.supers s sk) (among name desc f rest next n)
    where
      own : Class → Option Found
      own = own_field name desc

      by : (a b o : Option Found) → own c ≡ a → field_in own i ≡ b → field_in own s ≡ o
          → or_else (or_else a (or_else b o)) (field_in own next) ≡ Some f
          → (field_in own i ≡ Some f → Among name desc f c.interfaces) → (field_in own s ≡ Some f
          → Among name desc f c.supers) → (field_in own next ≡ Some f → Among name desc f rest)
          → Among name desc f (y ∷ rest)
      by (Some h) b o p q r e in_i in_s in_n = (
        y,
        supertypes.foremost,
        c,
        inl (sym (class_named-name w y c g)),
        itself w y c g,
        p ∙ e,
      )
      by None (Some h) o p q r e in_i in_s in_n = let t = in_i (q ∙ e) in (
        y,
        supertypes.foremost,
        t.2,
        listed_below w y t.0 (let d = t.2 in d.name) c g (lists-behind t.0 c.supers c.interfaces t.1) t.3,
        t.4,
        t.5,
      )
      by None None (Some h) p q r e in_i in_s in_n = let t = in_s (r ∙ e) in (
        y,
        supertypes.foremost,
        t.2,
        listed_below w y t.0 (let d = t.2 in d.name) c g (lists-front t.0 c.supers c.interfaces t.1) t.3,
        t.4,
        t.5,
      )
      by None None None p q r e in_i in_s in_n = let t = in_n e in (t.0, supertypes.after t.1, t.2, t.3, t.4, t.5)

  pub field_found_above : (x name desc : List ℕ) (f : Found) → find_field w x name desc ≡ Some f → (d : Class)
      × Below w x d.name × (class_named w d.name ≡ Some d) × (own_field name desc d ≡ Some f)
  unfolding find_field
  field_found_above x name desc f e = of_one (among name desc f (x ∷ []) (supertypes w (x ∷ []))
      (supertypes-AreSupertypes w ordered.acyclic (x ∷ [])) e)
    where
      of_one : Among name desc f (x ∷ []) → (d : Class) × Below w x d.name × (class_named w d.name ≡ Some d)
          × (own_field name desc d ≡ Some f)
      of_one (y, supertypes.foremost, d, way, named, found) = (d, way, named, found)
      of_one (y, supertypes.after l, d, way, named, found) = no_list l

-- ---- what tests of the tree say

named_among : (d : Class) (cs : List Class) → Has d cs → is_one_named cs d.name ≡ true
named_among d [] h = elim h [ ]
named_among d (c ∷ cs) h = ⊎_elim
    (λ same. ap (λ b. b || is_one_named cs d.name) (ap (λ (v : Class). bytes_eq v.name d.name) (sym same)
    ∙ name_is d.name))
    (λ more. last (bytes_eq c.name d.name) (is_one_named cs d.name) (named_among d cs more))
    (has-cons d c cs h)
  where
    last : (a b : Bool) → b ≡ true → (a || b) ≡ true
    last true b e = refl
    last false b e = e

module _ (w : List Class) where
  -- a class that stands above by supers alone is on the line
  stands_line : (xs : List (List ℕ)) (k : Supertypes) (y : List ℕ) (d : Class) → AreSupertypes w xs k
      → stands_by_supers y k ≡ true → class_named w y ≡ Some d → (x : List ℕ) × Lists x xs × OnLine w x d
  stands_line xs k y d ends e g = absurd cc
  stands_line xs k y d (unknown_here {x = x} {xs = rest} {next = next} f n) e g =
      by (bytes_eq x y) refl e (λ h. stands_line rest next y d n h g)
    where
      clash : {c : Class} → None ≡ Some c → ⊥
      clash e = cc

      by : (b : Bool) → bytes_eq x y ≡ b → (b || stands_by_supers y next) ≡ true → (stands_by_supers y next ≡ true
          → (z : List ℕ) × Lists z rest × OnLine w z d) → (z : List ℕ) × Lists z (x ∷ rest) × OnLine w z d
      by true h e more = absurd (clash (sym f ∙ ap (class_named w) (bytes_true x y h) ∙ g))
      by false h e more = let r = more e in (r.0, supertypes.after r.1, r.2)
  stands_line xs k y d (known_here {x = x} {xs = rest} {c = c} {supers = s} {next = next} f sk ik n) e g =
      by (bytes_eq c.name y) (stands_by_supers y s) (stands_by_supers y next) refl refl refl e
      (λ h. stands_line c.supers s y d sk h g) (λ h. stands_line rest next y d n h g)
    where
      by : (a b o : Bool) → bytes_eq c.name y ≡ a → stands_by_supers y s ≡ b → stands_by_supers y next ≡ o
          → (a || b || o) ≡ true
          → (stands_by_supers y s ≡ true → (z : List ℕ) × Lists z c.supers × OnLine w z d)
          → (stands_by_supers y next ≡ true → (z : List ℕ) × Lists z rest × OnLine w z d) → (z : List ℕ)
          × Lists z (x ∷ rest) × OnLine w z d
      by true b o p q r e up_one next_one =
          let same : x ≡ y = sym (class_named-name w x c f) ∙ bytes_true c.name y p in
          (x, supertypes.foremost, subst (λ n. OnLine w n d) (sym same) (here g))
      by false true o p q r e up_one next_one = let t = up_one q in (x, supertypes.foremost, up c f t.1 t.2)
      by false false true p q r e up_one next_one = let t = next_one r in (t.0, supertypes.after t.1, t.2)
      by false false false p q r e up_one next_one = absurd cc

  line_stands : (x : List ℕ) (xs : List (List ℕ)) (k : Supertypes) (d : Class) → AreSupertypes w xs k → Lists x xs
      → OnLine w x d → stands_by_supers d.name k ≡ true
  line_stands x xs k d ends l on = no_list l
  line_stands x xs k d (unknown_here {next = next} e n) supertypes.foremost on = let b = line_begins w x d on
      in absurd (clash (sym e ∙ b.1))
    where
      clash : {c : Class} → None ≡ Some c → ⊥
      clash e = cc
  line_stands x xs k d (unknown_here {x = z} {xs = rest} {next = next} e n) (supertypes.after l) on =
      last (bytes_eq z d.name) (stands_by_supers d.name next) (line_stands x rest next d n l on)
    where
      last : (a b : Bool) → b ≡ true → (a || b) ≡ true
      last true b e = refl
      last false b e = e
  line_stands x xs k d (known_here {c = c} {supers = s} {next = next} e sk ik n) supertypes.foremost (here f) =
      let same : d ≡ c = same_class (sym f ∙ e) in
      first_one (bytes_eq c.name d.name) (stands_by_supers d.name s) (stands_by_supers d.name next)
      (ap (λ (v : Class). bytes_eq c.name v.name) same ∙ name_is c.name)
    where
      first_one : (a b o : Bool) → a ≡ true → (a || b || o) ≡ true
      first_one true b o e = refl
      first_one false b o e = absurd cc
  line_stands x xs k d (known_here {c = c} {supers = s} {next = next} e sk ik n) supertypes.foremost
      (up {s = y} b f l rest) =
      let same : b ≡ c = same_class (sym f ∙ e) in
      second (bytes_eq c.name d.name) (stands_by_supers d.name s) (stands_by_supers d.name next) (line_stands y c.supers
      s d sk (subst (λ (v : Class). Lists y v.supers) same l) rest)
    where
      second : (a b o : Bool) → b ≡ true → (a || b || o) ≡ true
      second true b o e = refl
      second false true o e = refl
      second false false o e = absurd cc
  line_stands x xs k d (known_here {xs = rest} {c = c} {supers = s} {next = next} e sk ik n) (supertypes.after l) on =
      last (bytes_eq c.name d.name || stands_by_supers d.name s) (stands_by_supers d.name next) (line_stands x rest next
      d n l on)
    where
      last : (a b : Bool) → b ≡ true → (a || b) ≡ true
      last true b e = refl
      last false b e = e

  pub below_line : IsAcyclic w → (x y : List ℕ) (d : Class) → is_below w x y ≡ true → class_named w y ≡ Some d
      → OnLine w x d
  unfolding is_below
  below_line acyclic x y d e g = by (stands_line (x ∷ []) (supertypes w (x ∷ [])) y d (supertypes-AreSupertypes w
      acyclic (x ∷ [])) e g)
    where
      by : (z : List ℕ) × Lists z (x ∷ []) × OnLine w z d → OnLine w x d
      by (z, supertypes.foremost, on) = on
      by (z, supertypes.after l, on) = no_list l

  pub line_is_below : IsAcyclic w → (x : List ℕ) (d : Class) → OnLine w x d → is_below w x d.name ≡ true
  unfolding is_below
  line_is_below acyclic x d on = line_stands x (x ∷ []) (supertypes w (x ∷ [])) d (supertypes-AreSupertypes w acyclic (x
      ∷ [])) supertypes.foremost on

-- an interface above a class is one of its interfaces
pub has_interface_above : (w : List Class) → IsOrdered w → (x : List ℕ) (c d : Class) → class_named w x ≡ Some c
    → is_interface c.flags ≡ false → Below w x d.name → class_named w d.name ≡ Some d → is_interface d.flags ≡ true
    → has_interface w x d.name ≡ true
unfolding has_interface
has_interface_above w ordered x c d e plain way g is =
    named_among d (known (gathered false (supertypes w (x ∷ [])))) (gathered_has w ordered false x (x
    ∷ []) (supertypes w (x ∷ [])) d.name d (supertypes-AreSupertypes w ordered.acyclic (x ∷ [])) supertypes.foremost
    way g is (λ v f. inr (subst (λ (u : Class). is_interface u.flags ≡ false) (one w x c v e f) plain)))

-- every class of a world has its line up to java/lang/Object, where those of export files have it
pub roots : (w : List Class) → IsAcyclic w
    → ((x s : List ℕ) (c d : Class) → class_named w x ≡ Some c → Lists s c.supers → class_named w s ≡ Some d
    → is_interface d.flags ≡ false)
    → ((x : List ℕ) (c : Class) → class_named w x ≡ Some c → c.is_imported ≡ false → (s : List ℕ) × (c.supers ≡ s ∷ [])
    × (d : Class) × (class_named w s ≡ Some d))
    → (o : Class) → class_named w object ≡ Some o
    → ((x : List ℕ) (c : Class) → class_named w x ≡ Some c → c.is_imported ≡ true → is_interface c.flags ≡ false
    → OnLine w x o)
    → (x : List ℕ) (c : Class) → class_named w x ≡ Some c → is_interface c.flags ≡ false → OnLine w x o
roots w acyclic supers single o is_object abroad x c e plain = go (x ∷ []) (supertypes w (x ∷ [])) x c
    (supertypes-AreSupertypes w acyclic (x ∷ [])) supertypes.foremost e plain
  where
    clash : {c : Class} → None ≡ Some c → ⊥
    clash e = cc

    go : (xs : List (List ℕ)) (k : Supertypes) (x : List ℕ) (c : Class) → AreSupertypes w xs k → Lists x xs
        → class_named w x ≡ Some c → is_interface c.flags ≡ false → OnLine w x o
    go xs k x c ends l e plain = no_list l
    go xs k x c (unknown_here f n) supertypes.foremost e plain = absurd (clash (sym f ∙ e))
    go xs k x c (unknown_here {xs = rest} {next = next} f n) (supertypes.after l) e plain = go rest next x c n l e plain
    go xs k x c (known_here {c = d} {supers = s} f sk ik n) supertypes.foremost e plain =
        by (true_or_false c.is_imported) (λ y v l g h. go d.supers s y v sk (subst (λ (u : Class). Lists y u.supers)
        (same_class (sym e ∙ f)) l) g h)
      where
        by : (c.is_imported ≡ true) ⊎ (c.is_imported ≡ false) → ((y : List ℕ) (v : Class) → Lists y c.supers
            → class_named w y ≡ Some v → is_interface v.flags ≡ false → OnLine w y o) → OnLine w x o
        by (inl imp) rest = abroad x c e imp plain
        by (inr own) rest =
            let s = single x c e own in
            let l : Lists s.0 c.supers = subst (Lists s.0) (sym s.1) supertypes.foremost in
            up c e l (rest s.0 s.2 l s.3 (supers x s.0 c s.2 e l s.3))
    go xs k x c (known_here {xs = rest} {next = next} f sk ik n) (supertypes.after l) e plain =
        go rest next x c n l e plain
