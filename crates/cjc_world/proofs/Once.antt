-- Classes each once, and the places of such lists.
use Rattle.std.proofs.Common.{◌≡◌, ℕ, refl, sym, ap, subst, ◌∙◌, Bool, true, false, List, [], ◌∷◌, ◌++◌, append_assoc}
use Rattle.std.specs.Prelude.{◌||◌, ◌==◌, if◌then◌else◌, Option, Some, None, option_to_list, slice_get}
use Rattle.std.specs.Str.{bytes_eq}
use Rattle.std.proofs.lemmas.List.{append-nil}
use Rattle.cjc_world.specs.declared.tables.Above.{Above}
use Rattle.cjc_world.specs.declared.tables.Order.TheVariants as orders
use Rattle.cjc_world.specs.Classes.{Class, class_named}
use Rattle.cjc_world.specs.Supertypes.{Supertypes, AreSupertypes, ends, unknown_here, known_here, supertypes, upwards}
use Rattle.cjc_world.specs.Supertypes.{is_one_named, once}
use Rattle.cjc_world.specs.Interfaces.{Interface, where_listed, gathered, is_among, each_once, known}
use Rattle.cjc_world.specs.Working.Places.{place_named, places_of, at_places, is_in, joined}
use Rattle.cjc_world.specs.Working.Tables.{IsTable, pieces, above_at}
use Rattle.cjc_world.proofs.Settled.{supertypes-AreSupertypes}
use Rattle.cjc_world.proofs.Cycles.{class_named-name}
use Rattle.cjc_world.proofs.Rising.{known-append}
use Rattle.cjc_world.proofs.ByPlace.{AreNamed, named-append, place-class, class-place, places-append, at-places-of}
use Rattle.cjc_world.proofs.Adding.{named-upwards, named-known, any-places, part-of, table-ready, line-above}
use Rattle.cjc_world.proofs.Adding.{interfaces-of}
use Rattle.cjc_bytes.proofs.Lists.{name_is, bytes_true}
use Rattle.cjc_bytes.proofs.Numbers.{like_number, number_same}

module _ (w : List Class) where
  -- ---- places and names

  same-place : (x : List ℕ) (p : ℕ) → place_named w x ≡ Some p → (d : Class) (q : ℕ) → class_named w d.name ≡ Some d
      → place_named w d.name ≡ Some q → slice_get w q ≡ Some d → (q == p) ≡ bytes_eq d.name x
  same-place x p e d q named place at = by (bytes_eq d.name x) (q == p) refl refl
    where
      by : (b s : Bool) → bytes_eq d.name x ≡ b → (q == p) ≡ s → s ≡ b
      by true true f g = refl
      by true false f g =
          let one : Some q ≡ Some p = sym place ∙ ap (place_named w) (bytes_true d.name x f) ∙ e in
          let is : q ≡ p = cc in
          let same : (q == p) ≡ true = ap (λ r. r == p) is ∙ like_number p in cc
      by false true f g =
          let c = place-class w x p e in
          let is : q ≡ p = number_same q p g in
          let one : Some d ≡ Some c.0 = sym at ∙ ap (slice_get w) is ∙ c.1 in
          let both : d ≡ c.0 = cc in
          let same : bytes_eq d.name x ≡ true = ap (λ (v : Class). bytes_eq v.name x) both
          ∙ ap (λ n. bytes_eq n x) (class_named-name w x c.0 c.2) ∙ name_is x in cc
      by false false f g = refl

  in-named : (seen : List Class) → AreNamed w seen → (x : List ℕ) (p : ℕ) → place_named w x ≡ Some p
      → is_in p (places_of w seen) ≡ is_one_named seen x
  in-named seen a x p e = any-places w (λ q. q == p) (λ d. bytes_eq d.name x) seen a (same-place x p e)

  at-joined : (seen cs : List Class) → AreNamed w seen → AreNamed w cs
      → at_places w (joined (places_of w seen) (places_of w cs)) ≡ seen ++ once seen cs
  unfolding AreNamed places_of joined
  at-joined seen [] a b = at-places-of w seen a ∙ sym (append-nil seen)
  at-joined seen (c ∷ cs) a b =
      let p = class-place w c.name c b.0 in
      ap (λ o. at_places w (joined (places_of w seen) (option_to_list o ++ places_of w cs))) p.1
      ∙ ap (λ t. at_places w (if t then joined (places_of w seen) (places_of w cs) else joined (places_of w seen
      ++ p.0 ∷ []) (places_of w cs))) (in-named seen a c.name p.0 p.1)
      ∙ by (is_one_named seen c.name) p.0 p.1 (at-joined seen cs a b.1) (at-joined (seen
      ++ c ∷ []) cs (named-append w seen (c ∷ []) a (b.0, tt)) b.1)
    where
      by : (t : Bool) (p : ℕ) → place_named w c.name ≡ Some p → at_places w (joined (places_of w seen) (places_of w cs))
          ≡ seen ++ once seen cs
          → at_places w (joined (places_of w (seen ++ c ∷ [])) (places_of w cs)) ≡ (seen ++ c ∷ [])
          ++ once (seen ++ c ∷ []) cs
          → at_places w (if t then joined (places_of w seen) (places_of w cs) else joined (places_of w seen
          ++ p ∷ []) (places_of w cs)) ≡ seen ++ (if t then once seen cs else c ∷ once (seen ++ c ∷ []) cs)
      by true p e h k = h
      by false p e h k =
          ap (λ o. at_places w (joined (places_of w seen ++ (option_to_list o ++ [])) (places_of w cs))) (sym e)
          ∙ ap (λ ps. at_places w (joined ps (places_of w cs))) (sym (places-append w seen (c ∷ [])))
          ∙ k ∙ append_assoc seen (c ∷ []) (once (seen ++ c ∷ []) cs)

  -- ---- interfaces by their names, and their classes

  AreTold : List Interface → Type 0
  AreTold [] = Unit {0}
  AreTold (i ∷ is) = (i.class ≡ class_named w i.name) × AreTold is

  told-append : (is js : List Interface) → AreTold is → AreTold js → AreTold (is ++ js)
  unfolding AreTold
  told-append [] js a b = b
  told-append (i ∷ is) js a b = (a.0, told-append is js a.1 b)

  told-gathered : (listed : Bool) (xs : List (List ℕ)) (k : Supertypes) → AreSupertypes w xs k
      → AreTold (gathered listed k)
  unfolding AreTold gathered
  told-gathered listed xs k ends = tt
  told-gathered true xs k (unknown_here {xs = rest} {next = next} e n) = (sym e, told-gathered true rest next n)
  told-gathered false xs k (unknown_here {xs = rest} {next = next} e n) = told-gathered false rest next n
  told-gathered listed xs k (known_here {x = x} {xs = rest} {c = c} {supers = s} {interfaces = i} {next = next} e sk ik
      n) =
      told-append ((gathered false s ++ gathered true i) ++ where_listed listed (record {
        name = c.name;
        class = Some c;
      })) (gathered listed next)
      (told-append (gathered false s ++ gathered true i) (where_listed listed (record {
        name = c.name;
        class = Some c;
      })) (told-append (gathered false s) (gathered true i) (told-gathered false c.supers s sk)
      (told-gathered true c.interfaces i ik)) (one listed (sym (ap (class_named w) (class_named-name w x c e)
      ∙ e))))
      (told-gathered listed rest next n)
    where
      one : (listed : Bool) → Some c ≡ class_named w c.name
          → AreTold (where_listed listed (record { name = c.name; class = Some c }))
      one true e = (e, tt)
      one false e = tt

  among-known : (is : List Interface) → AreTold is → (x : List ℕ) (c : Class) → class_named w x ≡ Some c
      → is_among is x ≡ is_one_named (known is) x
  unfolding AreTold known
  among-known [] a x c e = refl
  among-known (i ∷ is) a x c e = by i.class a.0 (among-known is a.1 x c e)
    where
      by : (o : Option Class) → o ≡ class_named w i.name → is_among is x ≡ is_one_named (known is) x
          → (bytes_eq i.name x || is_among is x) ≡ is_one_named (option_to_list o ++ known is) x
      by None f rest = other (bytes_eq i.name x) refl
        where
          other : (b : Bool) → bytes_eq i.name x ≡ b → (b || is_among is x) ≡ is_one_named (known is) x
          other true g = let n : None ≡ Some c = f ∙ ap (class_named w) (bytes_true i.name x g) ∙ e in cc
          other false g = rest
      by (Some d) f rest = ap (λ n. bytes_eq n x || is_among is x) (sym (class_named-name w i.name d (sym f)))
          ∙ ap (λ b. bytes_eq d.name x || b) rest

  known-once : (seen is : List Interface) → AreTold seen → AreTold is → known (each_once seen is)
      ≡ once (known seen) (known is)
  unfolding AreTold known
  known-once seen [] a b = refl
  known-once seen (i ∷ is) a b = by i.class refl (is_among seen i.name) refl (known-once seen is a b.1)
      (known-once (seen ++ i ∷ []) is (told-append seen (i ∷ []) a (b.0, tt)) b.1)
    where
      by : (o : Option Class) → i.class ≡ o → (t : Bool) → is_among seen i.name ≡ t → known (each_once seen is)
          ≡ once (known seen) (known is)
          → known (each_once (seen ++ i ∷ []) is) ≡ once (known (seen ++ i ∷ [])) (known is)
          → known (if t then each_once seen is else i ∷ each_once (seen ++ i ∷ []) is)
          ≡ once (known seen) (option_to_list o ++ known is)
      by None e true f h k = h
      by None e false f h k =
          ap (λ o. option_to_list o ++ known (each_once (seen ++ i ∷ []) is)) e ∙ k
          ∙ ap (λ cs. once cs (known is)) (known-append seen (i ∷ []) ∙ ap (λ o. known seen ++ (option_to_list o ++ []))
          e ∙ append-nil (known seen))
      by (Some c) e t f h k =
          let named : class_named w i.name ≡ Some c = sym b.0 ∙ e in
          let name : i.name ≡ c.name = sym (class_named-name w i.name c named) in
          let test : t ≡ is_one_named (known seen) c.name = sym f ∙ among-known seen a i.name c named
          ∙ ap (is_one_named (known seen)) name in
          cases t h k ∙ ap (λ t. if t then once (known seen) (known is) else c ∷ once (known seen ++ c ∷ []) (known is))
          test
        where
          cases : (t : Bool) → known (each_once seen is) ≡ once (known seen) (known is)
              → known (each_once (seen ++ i ∷ []) is) ≡ once (known (seen ++ i ∷ [])) (known is)
              → known (if t then each_once seen is else i ∷ each_once (seen ++ i ∷ []) is)
              ≡ (if t then once (known seen) (known is) else c ∷ once (known seen ++ c ∷ []) (known is))
          cases true h k = h
          cases false h k =
              ap (λ o. option_to_list o ++ known (each_once (seen ++ i ∷ []) is)) e ∙ ap (λ cs. c ∷ cs) k
              ∙ ap (λ cs. c ∷ once cs (known is)) (known-append seen (i ∷ [])
              ∙ ap (λ o. known seen ++ (option_to_list o ++ [])) e)

-- ---- by the rows of a table

module _ (w : List Class) (rows : List (Option Above)) (table : IsTable w rows) (c : Class) where
  pub superclasses-at : at_places w (joined [] (pieces w orders.Line false rows c.supers))
      ≡ once [] (upwards (supertypes w c.supers))
  unfolding places_of AreNamed
  superclasses-at =
      ap (at_places w) (line-above w rows (part-of w rows table) c (table-ready w rows table c.supers))
      ∙ at-joined w [] (upwards (supertypes w c.supers)) tt (named-upwards w c.supers (supertypes w c.supers)
      (supertypes-AreSupertypes w table.acyclic c.supers))

  pub interfaces-at : at_places w (above_at w rows 0 c).interfaces
      ≡ known (each_once [] (gathered false (supertypes w c.supers) ++ gathered true (supertypes w c.interfaces)))
  unfolding AreNamed AreTold places_of known
  interfaces-at =
      let s = supertypes-AreSupertypes w table.acyclic c.supers in
      let i = supertypes-AreSupertypes w table.acyclic c.interfaces in
      let S = gathered false (supertypes w c.supers) in
      let I = gathered true (supertypes w c.interfaces) in
      ap (at_places w) (interfaces-of w rows (part-of w rows table) c (table-ready w rows table c.supers)
      (table-ready w rows table c.interfaces))
      ∙ at-joined w [] (known (S ++ I)) tt (subst (AreNamed w) (sym (known-append S I)) (named-append w (known S)
      (known I) (named-known w false c.supers (supertypes w c.supers) s) (named-known w true c.interfaces
      (supertypes w c.interfaces) i)))
      ∙ sym (known-once w [] (S ++ I) tt (told-append w S I (told-gathered w false c.supers (supertypes w c.supers) s)
      (told-gathered w true c.interfaces (supertypes w c.interfaces) i)))
