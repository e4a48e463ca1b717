-- A class is of another one over superclasses, and of an interface that is one of its interfaces. What receives calls
-- is of java/lang/Object.
use Rattle.std.proofs.Common.{◌≡◌, ◌⊎◌, inl, inr, ℕ, refl, sym, ap, subst, ◌∙◌, Bool, true, false, List, [], ◌∷◌, ◌++◌}
use Rattle.std.proofs.Common.{append-nil}
use Rattle.std.specs.Prelude.{◌||◌, Option, Some, None, option_to_list, if◌then◌else◌}
use Rattle.std.specs.List.{AllByRecursion}
use Rattle.std.specs.Str.{bytes_eq}
use Rattle.cjc_bytes.specs.AccessFlags.{is_interface}
use Rattle.cjc_bytes.proofs.Lists.{name_is, bytes_true}
use Rattle.cjc_check_proof.proofs.WorldProofTypes.{below_type, type_below, receiver_class}
use Rattle.cjc_narrow_proof.specs.Script.Sorts.{Booleans, Bytes, Element, Ints, OfNumbers, OfReferences, Shape, Shorts}
use Rattle.cjc_narrow_proof.specs.Script.Sorts.{shape_name}
use Rattle.cjc_tokens.specs.Methods.{interfaces_at}
use Rattle.cjc_world.proofs.UpwardLaws.Lines.{gathered_has, line_below, on_line, same_class}
use Rattle.cjc_world.specs.Upwards.{Below, Has, IsOrdered, OnLine, after, foremost, here, up}
use Rattle.cjc_vtable.specs.Laws.{Under, below, interface_named, itself}
use Rattle.cjc_world.proofs.Cycles.{class_named-name}
use Rattle.cjc_world.proofs.Settled.{supertypes-AreSupertypes}
use Rattle.cjc_world.specs.Classes.{Class, class_named}
use Rattle.cjc_world.specs.Interfaces.{Interface, each_once, gathered, is_among, known, where_listed}
use Rattle.cjc_world.specs.Supertypes.{End, AreSupertypes, Supertypes, Known, ends, supertypes, known_here}
use Rattle.cjc_world.specs.Supertypes.{unknown_here}
use Rattle.cjc_world.specs.Supertypes as supertype_trees
use Rattle.cjc_world.specs.Lookup.{object}
use Rattle.cjc_world.specs.Subtype.{is_subtype, starts}
use Rattle.cjc_check_proof.specs.TokenProof.WrittenCalls.Calls.{KeepsSubtypes, Receives, numbers, one_of}
use Rattle.cjc_check_proof.specs.TokenProof.WrittenCalls.Calls.{references}

-- ---- superclasses

pub line_under : (w : List Class) (x y : List ℕ) (d : Class) → OnLine w x d → class_named w y ≡ Some d → Under w x y
line_under w x y d (here e) f =
    let same : x ≡ y = sym (class_named-name w x d e) ∙ class_named-name w y d f in
    subst (λ z. Under w x z) same itself
line_under w x y d (up {s = s} c e l rest) f = below c e l (line_under w s y d rest f)

-- ---- interfaces

-- each name has its class
abbrev AreTold : List Class → List Interface → Type 0
AreTold w is = AllByRecursion (λ (i : Interface). i.class ≡ class_named w i.name) is

told_both : (w : List Class) (is js : List Interface) → AreTold w is → AreTold w js → AreTold w (is ++ js)
told_both w [] js a b = b
told_both w (i ∷ is) js a b = (a.0, told_both w is js a.1 b)

told_gathered : (w : List Class) (listed : Bool) (xs : List (List ℕ)) (k : Supertypes) → AreSupertypes w xs k
    → AreTold w (gathered listed k)
unfolding gathered
told_gathered w listed xs k ends = tt
told_gathered w true xs k (unknown_here {xs = rest} {next = next} e n) = (sym e, told_gathered w true rest next n)
told_gathered w false xs k (unknown_here {xs = rest} {next = next} e n) = told_gathered w false rest next n
told_gathered w listed xs k (known_here {x = x} {xs = rest} {c = c} {supers = s} {interfaces = i} {next = next} e sk ik
    n) =
    told_both w ((gathered false s ++ gathered true i) ++ where_listed listed (record {
      name = c.name;
      class = Some c;
    })) (gathered listed next)
    (told_both w (gathered false s ++ gathered true i) (where_listed listed (record { name = c.name; class = Some c }))
    (told_both w (gathered false s) (gathered true i) (told_gathered w false c.supers s sk)
    (told_gathered w true c.interfaces i ik))
    (one listed (sym (ap (class_named w) (class_named-name w x c e) ∙ e))))
    (told_gathered w listed rest next n)
  where
    one : (listed : Bool) → Some c ≡ class_named w c.name
        → AreTold w (where_listed listed (record { name = c.name; class = Some c }))
    one true e = (e, tt)
    one false e = tt

-- a class that is gathered is among them by its name
gathered_among : (w : List Class) (is : List Interface) (d : Class) → AreTold w is → Has d (known is)
    → is_among is d.name ≡ true
unfolding known
gathered_among w [] d told h = elim h [ ]
gathered_among w (i ∷ is) d told h = by i.class told.0 h (gathered_among w is d told.1)
  where
    later : (b : Bool) → is_among is d.name ≡ true → (b || is_among is d.name) ≡ true
    later true e = refl
    later false e = e

    first_or : (c : Class) → Some c ≡ class_named w i.name → (d ≡ c) ⊎ Has d (known is)
        → (Has d (known is) → is_among is d.name ≡ true) → (bytes_eq i.name d.name || is_among is d.name) ≡ true
    first_or c e (inl same) rest =
        let name : d.name ≡ i.name = ap (λ (v : Class). v.name) same ∙ class_named-name w i.name c (sym e) in
        ap (λ n. bytes_eq i.name n || is_among is d.name) name ∙ ap (λ b. b || is_among is d.name) (name_is i.name)
    first_or c e (inr h) rest = later (bytes_eq i.name d.name) (rest h)

    split : (c : Class) → Has d (c ∷ known is) → (d ≡ c) ⊎ Has d (known is)
    split _ foremost = inl refl
    split c (after h) = inr h

    by : (o : Option Class) → o ≡ class_named w i.name → Has d (option_to_list o ++ known is)
        → (Has d (known is) → is_among is d.name ≡ true) → (bytes_eq i.name d.name || is_among is d.name) ≡ true
    by None e h rest = later (bytes_eq i.name d.name) (rest h)
    by (Some c) e h rest = first_or c e (split c h) rest

-- the first class of a name that is among them is the world's
once_named : (w : List Class) (seen is : List Interface) (y : List ℕ) (d : Class) → class_named w y ≡ Some d
    → AreTold w is → is_among seen y ≡ false → is_among is y ≡ true → interface_named (known (each_once seen is)) y
    ≡ Some d
unfolding known
once_named w seen [] y d e told none some = cc
once_named w seen (i ∷ is) y d e told none some =
    by (is_among seen i.name) refl (bytes_eq i.name y) refl some (λ s. once_named w seen is y d e told.1 none s)
    (λ f s. once_named w (seen ++ i ∷ []) is y d e told.1 f s)
  where
    behind : (js : List Interface) → is_among js y ≡ false → bytes_eq i.name y ≡ false → is_among (js ++ i ∷ []) y
        ≡ false
    behind [] f g = ap (λ b. b || false) g
    behind (j ∷ js) f g = go (bytes_eq j.name y) f (behind js)
      where
        go : (b : Bool) → (b || is_among js y) ≡ false → (is_among js y ≡ false → bytes_eq i.name y ≡ false
            → is_among (js ++ i ∷ []) y ≡ false) → (b || is_among (js ++ i ∷ []) y) ≡ false
        go true f rest = cc
        go false f rest = rest f g

    skip : (o : Option Class) → o ≡ class_named w i.name → bytes_eq i.name y ≡ false → (rest : List Class)
        → interface_named (option_to_list o ++ rest) y ≡ interface_named rest y
    skip None f g rest = refl
    skip (Some c) f g rest = ap (λ b. if b then Some c else interface_named rest y) (ap (λ n. bytes_eq n y)
        (class_named-name w i.name c (sym f)) ∙ g)

    here_one : bytes_eq i.name y ≡ true → (rest : List Class) → interface_named (option_to_list i.class ++ rest) y
        ≡ Some d
    here_one g rest =
        let is : i.class ≡ Some d = told.0 ∙ ap (class_named w) (bytes_true i.name y g) ∙ e in
        ap (λ o. interface_named (option_to_list o ++ rest) y) is
        ∙ ap (λ b. if b then Some d else interface_named rest y) (ap (λ n. bytes_eq n y) (class_named-name w y d e)
        ∙ name_is y)

    by : (a : Bool) → is_among seen i.name ≡ a → (b : Bool) → bytes_eq i.name y ≡ b → (b || is_among is y) ≡ true
        → (is_among is y ≡ true → interface_named (known (each_once seen is)) y ≡ Some d)
        → (is_among (seen ++ i ∷ []) y ≡ false → is_among is y ≡ true
        → interface_named (known (each_once (seen ++ i ∷ []) is)) y ≡ Some d)
        → interface_named (known (if a then each_once seen is else i ∷ each_once (seen ++ i ∷ []) is)) y ≡ Some d
    by true f true g some rest more = let clash : true ≡ false = sym f ∙ ap (is_among seen) (bytes_true i.name y g)
        ∙ none in cc
    by true f false g some rest more = rest some
    by false f true g some rest more = here_one g (known (each_once (seen ++ i ∷ []) is))
    by false f false g some rest more = skip i.class told.0 g (known (each_once (seen ++ i ∷ []) is))
        ∙ more (behind seen none g) some

-- ---- a world

module _ (w : List Class) (ordered : IsOrdered w) (plain : (x : List ℕ) (c : Class) → class_named w x ≡ Some c
    → starts 91 x ≡ false) where
  below_by : (x y : List ℕ) (c d : Class) → class_named w x ≡ Some c → class_named w y ≡ Some d
      → is_subtype w x y ≡ true → Below w x y
  below_by x y c d e f sub = subst (λ z. Below w z y) (receiver_class x (plain x c e)) (type_below w x y (plain y d f)
      sub)

  implements : (x y : List ℕ) (c i : Class) → class_named w x ≡ Some c → is_interface c.flags ≡ false
      → class_named w y ≡ Some i → is_interface i.flags ≡ true → is_subtype w x y ≡ true
      → interface_named (known (interfaces_at w c)) y ≡ Some i
  unfolding interfaces_at gathered
  implements x y c i e concrete f interface sub =
      let s = supertypes-AreSupertypes w ordered.acyclic c.supers in
      let t = supertypes-AreSupertypes w ordered.acyclic c.interfaces in
      let tree : AreSupertypes w (x ∷ []) (Known c (supertypes w c.supers) (supertypes w c.interfaces) End) =
      known_here e s t ends in
      let one : (v : Class) → class_named w x ≡ Some v → (false ≡ true) ⊎ (is_interface v.flags ≡ false) =
      λ v g. inr (subst (λ (u : Class). is_interface u.flags ≡ false) (same_class (sym e ∙ g)) concrete) in
      let all = gathered false (Known c (supertypes w c.supers) (supertypes w c.interfaces) End) in
      let has : Has i (known all) = gathered_has w ordered false x (x ∷ []) (Known c (supertypes w c.supers)
      (supertypes w c.interfaces) End) y i tree supertype_trees.foremost (below_by x y c i e f sub) f interface one
      in
      let told = told_gathered w false (x ∷ []) (Known c (supertypes w c.supers) (supertypes w c.interfaces) End) tree
      in
      let among = gathered_among w all i told has in
      let name = class_named-name w y i f in
      once_named w [] (gathered false (supertypes w c.supers) ++ gathered true (supertypes w c.interfaces)) y i f
      (told_both w (gathered false (supertypes w c.supers)) (gathered true (supertypes w c.interfaces))
      (told_gathered w false c.supers (supertypes w c.supers) s) (told_gathered w true c.interfaces
      (supertypes w c.interfaces) t))
      refl (subst (λ n. is_among (gathered false (supertypes w c.supers) ++ gathered true (supertypes w c.interfaces)) n
      ≡ true) name (without_ends (gathered false (supertypes w c.supers)
      ++ gathered true (supertypes w c.interfaces)) among))
    where
      without_ends : (is : List Interface) → is_among ((is ++ []) ++ []) i.name ≡ true → is_among is i.name ≡ true
      without_ends is e = subst (λ js. is_among js i.name ≡ true) (append-nil (is ++ []) ∙ append-nil is) e

  pub keeps_subtypes : KeepsSubtypes w
  keeps_subtypes = record {
    climbs = λ x y c d e concrete f other sub. line_under w x y d (on_line w ordered x y c d (below_by x y c d e f sub)
        e concrete f other) f;
    implements = implements;
  }

  -- ---- java/lang/Object

  -- a class that is no interface has it above itself
  class_is_object : (x : List ℕ) (c : Class) → class_named w x ≡ Some c → is_interface c.flags ≡ false
      → is_subtype w x object ≡ true
  class_is_object x c e concrete =
      let r = ordered.rooted x c e concrete in
      let name : r.0.name ≡ object = class_named-name w object r.0 r.1 in
      below_type w x object refl (subst (λ z. Below w z object) (sym (receiver_class x (plain x c e)))
      (subst (Below w x) name (line_below w x r.0 r.2)))

  numbers_are_objects : (element : Element) → is_subtype w (shape_name (OfNumbers element)) object ≡ true
  numbers_are_objects Booleans = below_type w (shape_name (OfNumbers Booleans)) object refl (inl refl)
  numbers_are_objects Bytes = below_type w (shape_name (OfNumbers Bytes)) object refl (inl refl)
  numbers_are_objects Shorts = below_type w (shape_name (OfNumbers Shorts)) object refl (inl refl)
  numbers_are_objects Ints = below_type w (shape_name (OfNumbers Ints)) object refl (inl refl)

  -- arrays are of it
  pub receivers_are_objects : (kind : Shape (List ℕ)) → Receives w (Some kind) → is_subtype w (shape_name kind) object
      ≡ true
  receivers_are_objects kind (numbers {element = element}) = numbers_are_objects element
  receivers_are_objects kind (references {x = x}) = below_type w (shape_name (OfReferences x)) object refl (inl refl)
  receivers_are_objects kind (one_of {x = x} c e concrete own) = class_is_object x c e concrete
