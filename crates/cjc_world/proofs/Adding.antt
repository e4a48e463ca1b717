-- By tables a class gets the methods of the definition.
use Rattle.std.proofs.Common.{◌≡◌, ℕ, zero, suc, ◌<◌, ◌+◌, ⊎_elim, refl, sym, ap, subst, ◌∙◌, arith, Bool, true, false}
use Rattle.std.proofs.Common.{List, [], ◌∷◌, ◌++◌, length, append_assoc}
use Rattle.std.specs.Prelude.{◌==◌, ◌||◌, ◌&&◌, if◌then◌else◌, map, Option, Some, None, option_to_list, slice_get}
use Rattle.std.specs.List.{list_any, list_all}
use Rattle.std.specs.Str.{bytes_eq}
use Rattle.std.proofs.lemmas.List.{append-nil}
use Rattle.std.proofs.lemmas.List.Folds.{list_any-append}
use Rattle.std.proofs.lemmas.Bool.{or_right}
use Rattle.cjc_bytes.specs.declared.fault.MemberId.{MemberId}
use Rattle.cjc_bytes.proofs.Lists.{name_is}
use Rattle.cjc_bytes.proofs.Bools.{both_front, both_back}
use Rattle.cjc_bytes.proofs.Numbers.{same_place, number_same}
use Rattle.cjc_bytes.proofs.Quantified.{any_of_map}
use Rattle.cjc_world.specs.declared.tables.Above.{Above}
use Rattle.cjc_world.specs.declared.tables.Order.TheVariants as orders
use Rattle.cjc_classfile.specs.declared.tree.ClassTree.{ClassTree}
use Rattle.cjc_world.specs.Files.{Files}
use Rattle.cjc_world.specs.Classes.{Member, Class, class_named, declared, all_classes}
use Rattle.cjc_world.specs.Supertypes.{Supertypes, End, Known, AreSupertypes, ends, unknown_here, known_here, IsAcyclic}
use Rattle.cjc_world.specs.Supertypes.{supertypes, upwards}
use Rattle.cjc_world.specs.Interfaces.{where_listed, gathered, known}
use Rattle.cjc_world.specs.Lookup.{is_called}
use Rattle.cjc_world.specs.Working.Places.{place_named, places_of, is_in, joined}
use Rattle.cjc_world.specs.Working.Tables.{in_field_order, told, IsTable, row_at, pieces, above_at, is_row, is_ready_at}
use Rattle.cjc_world.specs.Working.Tables.{is_ready, are_ready, IsPart, IsClear}
use Rattle.cjc_world.specs.Added.{takes_added, declares_open, own_methods, methods_of, asked_by, is_one_of, has_open}
use Rattle.cjc_world.specs.Added.{lacking, added, named_by, added_to, added_at}
use Rattle.cjc_world.specs.Working.Asked.{is_asked_of, is_asked_at, is_open_of, is_open_at, is_had, has_id, got_one}
use Rattle.cjc_world.specs.Working.Asked.{got, methods_of_option, got_all}
use Rattle.cjc_world.proofs.Settled.{lists-front, lists-behind, clear-up, clear-AreSupertypes}
use Rattle.cjc_world.proofs.Settled.{supertypes-AreSupertypes, AreSupertypes-one}
use Rattle.cjc_world.proofs.Cycles.{class_named-name}
use Rattle.cjc_world.proofs.Rising.{known-append}
use Rattle.cjc_world.proofs.Joined.{joined-append, any-joined, or-false}
use Rattle.cjc_world.proofs.ByPlace.{AreNamed, named-append, class-place, places-append}
use Rattle.cjc_world.proofs.Trees.{Alike, grove, tree-clear, listed-clear, tree-is-supertypes}
use Rattle.cjc_world.proofs.Filling.{all-listed}

-- ---- the classes of a tree are those of their names

module _ (w : List Class) where
  itself : (x : List ℕ) (c : Class) → class_named w x ≡ Some c → class_named w c.name ≡ Some c
  itself x c e = ap (class_named w) (class_named-name w x c e) ∙ e

  pub named-upwards : (xs : List (List ℕ)) (k : Supertypes) → AreSupertypes w xs k → AreNamed w (upwards k)
  unfolding AreNamed
  named-upwards xs k ends = tt
  named-upwards xs k (unknown_here {xs = rest} {next = next} e n) = named-upwards rest next n
  named-upwards xs k (known_here {x = x} {xs = rest} {c = c} {supers = s} {next = next} e sk ik n) = (
    itself x c e,
    named-append w (upwards s) (upwards next) (named-upwards c.supers s sk) (named-upwards rest next
        n),
  )

  pub named-fields : (xs : List (List ℕ)) (k : Supertypes) → AreSupertypes w xs k → AreNamed w (in_field_order k)
  unfolding AreNamed
  named-fields xs k ends = tt
  named-fields xs k (unknown_here {xs = rest} {next = next} e n) = named-fields rest next n
  named-fields xs k (known_here {x = x} {xs = rest} {c = c} {supers = s} {interfaces = i} {next = next} e sk ik n) = (
    itself x c e,
    named-append w (in_field_order i ++ in_field_order s) (in_field_order next)
        (named-append w (in_field_order i) (in_field_order s) (named-fields c.interfaces i ik) (named-fields c.supers
        s sk)) (named-fields rest next n),
  )

  pub named-known : (listed : Bool) (xs : List (List ℕ)) (k : Supertypes) → AreSupertypes w xs k
      → AreNamed w (known (gathered listed k))
  unfolding AreNamed gathered known
  named-known listed xs k ends = tt
  named-known true xs k (unknown_here {xs = rest} {next = next} e n) = named-known true rest next n
  named-known false xs k (unknown_here {xs = rest} {next = next} e n) = named-known false rest next n
  named-known listed xs k (known_here {x = x} {xs = rest} {c = c} {supers = s} {interfaces = i} {next = next} e sk ik
      n) =
      let S = gathered false s in
      let I = gathered true i in
      let self = where_listed listed (record { name = c.name; class = Some c }) in
      subst (AreNamed w) (sym (known-append (S ++ I ++ self) (gathered listed next)
      ∙ ap (λ v. v ++ known (gathered listed next)) (known-append (S ++ I) self
      ∙ ap (λ v. v ++ known self) (known-append S I))))
      (named-append w (known S ++ known I ++ known self) (known (gathered listed next))
      (named-append w (known S ++ known I) (known self) (named-append w (known S) (known I) (named-known false c.supers
      s sk) (named-known true c.interfaces i ik)) (one listed (itself x c e)))
      (named-known listed rest next n))
    where
      one : (listed : Bool) → class_named w c.name ≡ Some c
          → AreNamed w (known (where_listed listed (record { name = c.name; class = Some c })))
      one true e = (e, tt)
      one false e = tt

  pub any-places : (f : ℕ → Bool) (g : Class → Bool) (cs : List Class) → AreNamed w cs → ((d : Class) (q : ℕ)
      → class_named w d.name ≡ Some d → place_named w d.name ≡ Some q → slice_get w q ≡ Some d → f q ≡ g d)
      → list_any f (places_of w cs) ≡ list_any g cs
  unfolding AreNamed places_of
  any-places f g [] a same = refl
  any-places f g (d ∷ cs) a same =
      let p = class-place w d.name d a.0 in
      ap (λ o. list_any f (option_to_list o ++ places_of w cs)) p.1
      ∙ ap (λ b. b || list_any f (places_of w cs)) (same d p.0 a.0 p.1 p.2)
      ∙ ap (λ b. g d || b) (any-places f g cs a.1 same)

  -- ---- classes of a tree have no cycle above them

  unfoldable pub AreClear : List Class → Type 0
  AreClear [] = Unit {0}
  AreClear (c ∷ cs) = (class_named w c.name ≡ Some c) × IsClear w c.name × AreClear cs

  clear-append : (cs ds : List Class) → AreClear cs → AreClear ds → AreClear (cs ++ ds)
  unfolding AreClear
  clear-append [] ds a b = b
  clear-append (c ∷ cs) ds a b = (a.0, a.1, clear-append cs ds a.2 b)

  pub clear-upwards : (xs : List (List ℕ)) (k : Supertypes) → AreSupertypes w xs k → AreClear (upwards k)
  unfolding AreClear
  clear-upwards xs k ends = tt
  clear-upwards xs k (unknown_here {xs = rest} {next = next} e n) = clear-upwards rest next n
  clear-upwards xs k (known_here {x = x} {xs = rest} {c = c} {supers = s} {interfaces = i} {next = next} e sk ik n) = (
    itself x c e,
    tree-clear w c.name (Known c s i End) (known_here (itself x c e) sk ik ends),
    clear-append (upwards s) (upwards next) (clear-upwards c.supers s sk) (clear-upwards rest next n),
  )

  any-clear : (f : ℕ → Bool) (g : Class → Bool) (cs : List Class) → AreClear cs → ((d : Class) (q : ℕ)
      → class_named w d.name ≡ Some d → IsClear w d.name → place_named w d.name ≡ Some q → slice_get w q ≡ Some d
      → f q ≡ g d) → list_any f (places_of w cs) ≡ list_any g cs
  unfolding AreClear places_of
  any-clear f g [] a same = refl
  any-clear f g (d ∷ cs) a same =
      let p = class-place w d.name d a.0 in
      ap (λ o. list_any f (option_to_list o ++ places_of w cs)) p.1
      ∙ ap (λ b. b || list_any f (places_of w cs)) (same d p.0 a.0 a.1 p.1 p.2)
      ∙ ap (λ b. g d || b) (any-clear f g cs a.2 same)

  -- ---- whether interfaces have a method

  methods-any : (name desc : List ℕ) (cs : List Class) → list_any (λ d. is_one_of (own_methods d) name desc) cs
      ≡ is_one_of (methods_of cs) name desc
  unfolding methods_of
  methods-any name desc [] = refl
  methods-any name desc (d ∷ cs) = ap (λ b. is_one_of (own_methods d) name desc || b) (methods-any name desc cs)
      ∙ sym (list_any-append (λ m. is_called name desc m) (own_methods d) (methods_of cs))

  asked-row : (name desc : List ℕ) (cs : List Class) → AreNamed w cs
      → list_any (λ q. is_asked_at w name desc q) (joined [] (places_of w cs)) ≡ is_one_of (methods_of cs) name desc
  asked-row name desc cs a =
      any-joined (λ q. is_asked_at w name desc q) [] (places_of w cs)
      ∙ any-places (λ q. is_asked_at w name desc q) (λ d. is_one_of (own_methods d) name desc) cs a
      (λ d q e f g. ap (is_asked_of name desc) g)
      ∙ methods-any name desc cs

-- ---- a table of all classes

pub part-of : (w : List Class) (rows : List (Option Above)) → IsTable w rows → IsPart w rows
part-of w rows table = record {
  right = λ x p a e f. (
    supertypes w (x ∷ []),
    supertypes-AreSupertypes w table.acyclic (x ∷ []),
    let t = table.tells x p e in cc,
  );
  there = λ x p e clear. ap is_row (table.tells x p e);
}

pub table-ready : (w : List Class) (rows : List (Option Above)) → IsTable w rows → (xs : List (List ℕ))
    → list_all (λ x. is_ready w rows x) xs ≡ true
table-ready w rows table xs = all-listed w rows xs (λ y i. ready y)
  where
    ready : (x : List ℕ) → is_ready w rows x ≡ true
    ready x = by (place_named w x) refl
      where
        by : (o : Option ℕ) → place_named w x ≡ o → is_ready_at rows o ≡ true
        by None e = refl
        by (Some p) e = ap is_row (table.tells x p e)

-- ---- by the rows that are there

module _ (w : List Class) (rows : List (Option Above)) (part : IsPart w rows) where
  -- what is kept of a class with a tree
  tells : (x : List ℕ) (p : ℕ) (k : Supertypes) → place_named w x ≡ Some p → AreSupertypes w (x ∷ []) k
      → slice_get rows p ≡ Some (Some (told w k))
  tells x p k e is = by (slice_get rows p) refl (part.there x p e (tree-clear w x k is))
    where
      by : (o : Option (Option Above)) → slice_get rows p ≡ o → is_row o ≡ true → o ≡ Some (Some (told w k))
      by None f ready = cc
      by (Some None) f ready = cc
      by (Some (Some a)) f ready = let t = part.right x p a e f in ap (λ v. Some (Some v)) (t.2
          ∙ ap (told w) (AreSupertypes-one w (x ∷ []) t.0 k t.1 is))

  pub table-of : IsAcyclic w → IsTable w rows
  table-of acyclic = record {
    acyclic = acyclic;
    tells = λ x p e. tells x p (supertypes w (x ∷ [])) e
        (supertypes-AreSupertypes w acyclic (x ∷ []));
  }

  ready-supertypes : (xs : List (List ℕ)) → list_all (λ x. is_ready w rows x) xs ≡ true
      → AreSupertypes w xs (supertypes w xs)
  ready-supertypes xs e = let g = grove w rows part.right xs e
      in clear-AreSupertypes w xs (listed-clear w xs g.tree g.are_supertypes)

  pub line-above : (c : Class) → list_all (λ x. is_ready w rows x) c.supers ≡ true
      → joined [] (pieces w orders.Line false rows c.supers) ≡ joined [] (places_of w (upwards (supertypes w c.supers)))
  unfolding Alike
  line-above c ready = let g = grove w rows part.right c.supers ready in g.lines []
      ∙ ap (λ k. joined [] (places_of w (upwards k))) (tree-is-supertypes w c.supers g.tree g.are_supertypes)

  pub interfaces-of : (c : Class) → list_all (λ x. is_ready w rows x) c.supers ≡ true
      → list_all (λ x. is_ready w rows x) c.interfaces ≡ true → (above_at w rows 0 c).interfaces
      ≡ joined [] (places_of w (known (gathered false (supertypes w c.supers)
      ++ gathered true (supertypes w c.interfaces))))
  unfolding Alike above_at
  interfaces-of c ready listed =
      let s = grove w rows part.right c.supers ready in
      let i = grove w rows part.right c.interfaces listed in
      ap (λ v. joined v (pieces w orders.Interfaces true rows c.interfaces)) (s.interfaces false [])
      ∙ i.interfaces true (joined [] (places_of w (known (gathered false s.tree))))
      ∙ sym (joined-append [] (places_of w (known (gathered false s.tree)))
      (places_of w (known (gathered true i.tree))))
      ∙ ap (joined []) (sym (places-append w (known (gathered false s.tree)) (known (gathered true i.tree))))
      ∙ ap (λ cs. joined [] (places_of w cs)) (sym (known-append (gathered false s.tree) (gathered true i.tree)))
      ∙ ap (λ k. joined [] (places_of w (known (gathered false k ++ gathered true i.tree))))
      (tree-is-supertypes w c.supers s.tree s.are_supertypes)
      ∙ ap (λ k. joined [] (places_of w (known (gathered false (supertypes w c.supers) ++ gathered true k))))
      (tree-is-supertypes w c.interfaces i.tree i.are_supertypes)

  -- ---- whether superclasses have a method

  module _ (name desc : List ℕ) where
    gives : Class → Bool
    gives d = declares_open name desc d
        || (takes_added d && is_one_of (asked_by (supertypes w d.supers) (supertypes w d.interfaces)) name desc)

    opens : (d : Class) (q : ℕ) → class_named w d.name ≡ Some d → IsClear w d.name → place_named w d.name ≡ Some q
        → slice_get w q ≡ Some d → is_open_at w rows name desc q ≡ gives d
    unfolding gives told gathered asked_by
    opens d q named clear place e =
        let ds = clear-AreSupertypes w d.supers (λ y i. clear-up w d.name y d named (lists-front y d.supers d.interfaces
        i) clear) in
        let di = clear-AreSupertypes w d.interfaces (λ y i. clear-up w d.name y d named (lists-behind y d.supers
        d.interfaces i) clear) in
        let S = gathered false (supertypes w d.supers) in
        let I = gathered true (supertypes w d.interfaces) in
        ap (λ o. is_open_of w rows name desc q o) e
        ∙ ap (λ o. declares_open name desc d || (takes_added d && list_any (λ q. is_asked_at w name desc q)
        (row_at orders.Interfaces o))) (tells d.name q (Known d (supertypes w d.supers) (supertypes w d.interfaces)
        End) place (known_here named ds di ends))
        ∙ ap (λ is. declares_open name desc d || (takes_added d && list_any (λ q. is_asked_at w name desc q)
        (joined [] (places_of w (known is))))) (append-nil (S ++ I ++ []) ∙ append-nil (S ++ I))
        ∙ ap (λ b. declares_open name desc d || (takes_added d && b)) (asked-row w name desc (known (S ++ I))
        (named-both w (supertypes w d.supers) (supertypes w d.interfaces) d.supers d.interfaces ds di))
      where
        named-both : (w : List Class) (s i : Supertypes) (xs ys : List (List ℕ)) → AreSupertypes w xs s
            → AreSupertypes w ys i → AreNamed w (known (gathered false s ++ gathered true i))
        named-both w s i xs ys a b = subst (AreNamed w) (sym (known-append (gathered false s) (gathered true i)))
            (named-append w (known (gathered false s)) (known (gathered true i)) (named-known w false xs s a)
            (named-known w true ys i b))

    opens-upwards : (xs : List (List ℕ)) (k : Supertypes) → AreSupertypes w xs k → list_any gives (upwards k)
        ≡ has_open name desc k
    unfolding gives has_open
    opens-upwards xs k ends = refl
    opens-upwards xs k (unknown_here {xs = rest} {next = next} e n) = opens-upwards rest next n
    opens-upwards xs k (known_here {xs = rest} {c = c} {supers = s} {interfaces = i} {next = next} e sk ik n) =
        ap (λ b. (declares_open name desc c
        || (takes_added c && is_one_of (asked_by (supertypes w c.supers) (supertypes w c.interfaces)) name desc))
        || b) (list_any-append gives (upwards s) (upwards next))
        ∙ ap (λ v. (declares_open name desc c || (takes_added c && is_one_of (asked_by v (supertypes w c.interfaces))
        name desc)) || (list_any gives (upwards s) || list_any gives (upwards next)))
        (sym (tree-is-supertypes w c.supers s sk))
        ∙ ap (λ v. (declares_open name desc c || (takes_added c && is_one_of (asked_by s v) name desc))
        || (list_any gives (upwards s) || list_any gives (upwards next)))
        (sym (tree-is-supertypes w c.interfaces i ik))
        ∙ ap (λ b. (declares_open name desc c || (takes_added c && is_one_of (asked_by s i) name desc))
        || (b || list_any gives (upwards next))) (opens-upwards c.supers s sk)
        ∙ ap (λ b. (declares_open name desc c || (takes_added c && is_one_of (asked_by s i) name desc))
        || (has_open name desc s || b)) (opens-upwards rest next n)
        ∙ regroup (declares_open name desc c) (takes_added c && is_one_of (asked_by s i) name desc)
        (has_open name desc s) (has_open name desc next)
      where
        regroup : (d t a b : Bool) → ((d || t) || (a || b)) ≡ (((d || a) || t) || b)
        regroup true t a b = refl
        regroup false true true b = refl
        regroup false true false b = refl
        regroup false false true b = refl
        regroup false false false b = refl

  had : (c : Class) → list_all (λ x. is_ready w rows x) c.supers ≡ true → (name desc : List ℕ)
      → is_had w rows c (joined [] (pieces w orders.Line false rows c.supers)) name desc ≡ (declares_open name desc c
      || has_open name desc (supertypes w c.supers))
  unfolding is_had
  had c ready name desc =
      let k = ready-supertypes c.supers ready in
      ap (λ b. declares_open name desc c || b)
      (ap (list_any (λ p. is_open_at w rows name desc p)) (line-above c ready)
      ∙ any-joined (λ p. is_open_at w rows name desc p) [] (places_of w (upwards (supertypes w c.supers)))
      ∙ any-clear w (λ p. is_open_at w rows name desc p) (gives name desc) (upwards (supertypes w c.supers))
      (clear-upwards w c.supers (supertypes w c.supers) k) (opens name desc)
      ∙ opens-upwards name desc c.supers (supertypes w c.supers) k)

-- ---- getting

module _ (there : List ℕ → List ℕ → Bool) (class : List ℕ) where
  pub got-more : (ids : List MemberId) (xs ys : List Member) → got there class ids (xs ++ ys)
      ≡ got there class (got there class ids xs) ys
  unfolding got
  got-more ids [] ys = refl
  got-more ids (m ∷ xs) ys = got-more (got_one there class ids m.name m.desc) xs ys

  is_covered : List MemberId → Member → Bool
  is_covered ids m = there m.name m.desc || has_id ids m.name m.desc

  one-covers : (ids : List MemberId) (m : Member) → is_covered (got_one there class ids m.name m.desc) m ≡ true
  unfolding is_covered got_one
  one-covers ids m = by (there m.name m.desc || has_id ids m.name m.desc) refl
    where
      self : (bytes_eq m.name m.name && bytes_eq m.desc m.desc) ≡ true
      self = ap (λ b. b && bytes_eq m.desc m.desc) (name_is m.name) ∙ name_is m.desc

      by : (b : Bool) → (there m.name m.desc || has_id ids m.name m.desc) ≡ b
          → (there m.name m.desc || has_id (if b then ids else ids ++ record {
            class = class;
            name = m.name;
            desc = m.desc;
          } ∷ []) m.name m.desc) ≡ true
      by true e = e
      by false e = or_right (there m.name m.desc) (has_id (ids ++ record { class = class; name = m.name; desc = m.desc }
          ∷ []) m.name m.desc)
          (list_any-append (λ i. bytes_eq i.name m.name && bytes_eq i.desc m.desc) ids (record {
            class = class;
            name = m.name;
            desc = m.desc;
          } ∷ [])
          ∙ or_right (has_id ids m.name m.desc) ((bytes_eq m.name m.name && bytes_eq m.desc m.desc)
          || false) (or-false (bytes_eq m.name m.name && bytes_eq m.desc m.desc) ∙ self))

  one-keeps : (ids : List MemberId) (name desc : List ℕ) (m : Member) → is_covered ids m ≡ true
      → is_covered (got_one there class ids name desc) m ≡ true
  unfolding is_covered got_one
  one-keeps ids name desc m e = by (there name desc || has_id ids name desc)
    where
      more : (a b c : Bool) → (a || b) ≡ true → (a || (b || c)) ≡ true
      more true b c e = refl
      more false true c e = refl
      more false false c e = cc

      by : (b : Bool) → (there m.name m.desc || has_id (if b then ids else ids ++ record {
        class = class;
        name = name;
        desc = desc;
      } ∷ []) m.name m.desc) ≡ true
      by true = e
      by false =
          ap (λ b. there m.name m.desc || b) (list_any-append (λ i. bytes_eq i.name m.name && bytes_eq i.desc m.desc)
          ids (record { class = class; name = name; desc = desc } ∷ []))
          ∙ more (there m.name m.desc) (has_id ids m.name m.desc) (has_id (record {
            class = class;
            name = name;
            desc = desc;
          } ∷ []) m.name m.desc) e

  got-keeps : (ids : List MemberId) (ms : List Member) (m : Member) → is_covered ids m ≡ true
      → is_covered (got there class ids ms) m ≡ true
  unfolding got
  got-keeps ids [] m e = e
  got-keeps ids (n ∷ ms) m e = got-keeps (got_one there class ids n.name n.desc) ms m (one-keeps ids n.name n.desc m e)

  Covered : List MemberId → List Member → Type 0
  Covered ids [] = Unit {0}
  Covered ids (m ∷ ms) = (is_covered ids m ≡ true) × Covered ids ms

  got-covers : (ids : List MemberId) (ms : List Member) → Covered (got there class ids ms) ms
  unfolding Covered got
  got-covers ids [] = tt
  got-covers ids (m ∷ ms) = (
    got-keeps (got_one there class ids m.name m.desc) ms m (one-covers ids m),
    got-covers (got_one there class ids m.name m.desc) ms,
  )

  covered-keeps : (ids : List MemberId) (ns ms : List Member) → Covered ids ms → Covered (got there class ids ns) ms
  unfolding Covered
  covered-keeps ids ns [] c = tt
  covered-keeps ids ns (m ∷ ms) c = (got-keeps ids ns m c.0, covered-keeps ids ns ms c.1)

  covered-same : (ids : List MemberId) (ms : List Member) → Covered ids ms → got there class ids ms ≡ ids
  unfolding Covered got got_one is_covered
  covered-same ids [] c = refl
  covered-same ids (m ∷ ms) c =
      ap (λ b. got there class (if b then ids else ids ++ record { class = class; name = m.name; desc = m.desc }
      ∷ []) ms) c.0 ∙ covered-same ids ms c.1

  -- ---- from the classes at places

  module _ (w : List Class) where
    methods_at : ℕ → List Member
    methods_at p = methods_of_option (slice_get w p)

    all-keeps : (ids : List MemberId) (ps : List ℕ) (ms : List Member) → Covered ids ms
        → Covered (got_all w there class ids ps) ms
    unfolding got_all
    all-keeps ids [] ms c = c
    all-keeps ids (p ∷ ps) ms c = all-keeps (got there class ids (methods_of_option (slice_get w p))) ps ms
        (covered-keeps ids (methods_of_option (slice_get w p)) ms c)

    all-covers : (ids : List MemberId) (ps : List ℕ) (q : ℕ) → is_in q ps ≡ true
        → Covered (got_all w there class ids ps) (methods_at q)
    unfolding got_all methods_at
    all-covers ids [] q e = cc
    all-covers ids (p ∷ ps) q e =
        by (p == q) refl e (all-covers (got there class ids (methods_of_option (slice_get w p))) ps q)
      where
        by : (b : Bool) → (p == q) ≡ b → (b || is_in q ps) ≡ true
            → (is_in q ps ≡ true
            → Covered (got_all w there class (got there class ids (methods_of_option (slice_get w p))) ps)
            (methods_at q))
            → Covered (got_all w there class (got there class ids (methods_of_option (slice_get w p))) ps)
            (methods_at q)
        by true f e rest =
            subst (λ v. Covered (got_all w there class (got there class ids (methods_of_option (slice_get w p))) ps)
            (methods_at v)) (number_same p q f)
            (all-keeps (got there class ids (methods_of_option (slice_get w p))) ps (methods_of_option (slice_get w p))
            (got-covers ids (methods_of_option (slice_get w p))))
        by false f e rest = rest e

    all-append : (ids : List MemberId) (ps qs : List ℕ) → got_all w there class ids (ps ++ qs)
        ≡ got_all w there class (got_all w there class ids ps) qs
    unfolding got_all
    all-append ids [] qs = refl
    all-append ids (p ∷ ps) qs = all-append (got there class ids (methods_of_option (slice_get w p))) ps qs

    all-joined : (ids : List MemberId) (seen ps : List ℕ) → got_all w there class ids (joined seen ps)
        ≡ got_all w there class (got_all w there class ids seen) ps
    unfolding joined got_all methods_at
    all-joined ids seen [] = refl
    all-joined ids seen (q ∷ ps) = by (is_in q seen) refl (all-joined ids seen ps) (all-joined ids (seen ++ q ∷ []) ps)
      where
        by : (b : Bool) → is_in q seen ≡ b → got_all w there class ids (joined seen ps)
            ≡ got_all w there class (got_all w there class ids seen) ps
            → got_all w there class ids (joined (seen ++ q ∷ []) ps) ≡ got_all w there class (got_all w there class ids
            (seen ++ q ∷ [])) ps
            → got_all w there class ids (if b then joined seen ps else joined (seen ++ q ∷ []) ps)
            ≡ got_all w there class (got there class (got_all w there class ids seen)
            (methods_of_option (slice_get w q))) ps
        by true e h k = h ∙ ap (λ v. got_all w there class v ps) (sym (covered-same (got_all w there class ids seen)
            (methods_of_option (slice_get w q)) (all-covers ids seen q e)))
        by false e h k = k ∙ ap (λ v. got_all w there class v ps) (all-append ids seen (q ∷ []))

    all-named : (ids : List MemberId) (cs : List Class) → AreNamed w cs → got_all w there class ids (places_of w cs)
        ≡ got there class ids (methods_of cs)
    unfolding AreNamed places_of got_all methods_of got
    all-named ids [] a = refl
    all-named ids (c ∷ cs) a =
        let p = class-place w c.name c a.0 in
        ap (λ o. got_all w there class ids (option_to_list o ++ places_of w cs)) p.1
        ∙ ap (λ o. got_all w there class (got there class ids (methods_of_option o)) (places_of w cs)) p.2
        ∙ all-named (got there class ids (own_methods c)) cs a.1
        ∙ sym (got-more ids (own_methods c) (methods_of cs))

  -- ---- by the definition

  ids-one : (given : List Member) (name desc : List ℕ) → has_id (map (named_by class) given) name desc
      ≡ is_one_of given name desc
  ids-one given name desc = any_of_map (λ (i : MemberId). bytes_eq i.name name && bytes_eq i.desc desc) (named_by class)
      given

  map-append : (xs ys : List Member) → map (named_by class) (xs ++ ys) ≡ map (named_by class) xs
      ++ map (named_by class) ys
  map-append [] ys = refl
  map-append (x ∷ xs) ys = ap (λ v. named_by class x ∷ v) (map-append xs ys)

  pub got-lacking : (is_there : Member → Bool) → ((m : Member) → there m.name m.desc ≡ is_there m)
      → (given ms : List Member) → got there class (map (named_by class) given) ms ≡ map (named_by class) (given
      ++ lacking is_there given ms)
  unfolding got got_one lacking
  got-lacking is_there same given [] = ap (map (named_by class)) (sym (append-nil given))
  got-lacking is_there same given (m ∷ ms) =
      ap (λ b. got there class (if b || has_id (map (named_by class) given) m.name m.desc
      then map (named_by class) given else map (named_by class) given ++ named_by class m ∷ []) ms) (same m)
      ∙ ap (λ b. got there class (if is_there m || b then map (named_by class) given else map (named_by class) given
      ++ named_by class m ∷ []) ms) (ids-one given m.name m.desc)
      ∙ by (is_there m || is_one_of given m.name m.desc) (got-lacking is_there same given ms) (got-lacking is_there same
      (given ++ m ∷ []) ms)
    where
      by : (b : Bool) → got there class (map (named_by class) given) ms ≡ map (named_by class) (given
          ++ lacking is_there given ms)
          → got there class (map (named_by class) (given ++ m ∷ [])) ms ≡ map (named_by class) ((given ++ m ∷ [])
          ++ lacking is_there (given ++ m ∷ []) ms)
          → got there class (if b then map (named_by class) given else map (named_by class) given ++ named_by class m
          ∷ []) ms
          ≡ map (named_by class) (given ++ (if b then lacking is_there given ms else m ∷ lacking is_there (given
          ++ m ∷ []) ms))
      by true h k = h
      by false h k = ap (λ v. got there class v ms) (sym (map-append given (m ∷ []))) ∙ k
          ∙ ap (map (named_by class)) (append_assoc given (m ∷ []) (lacking is_there (given ++ m ∷ []) ms))

module _ (w : List Class) (rows : List (Option Above)) (part : IsPart w rows) (c : Class) where
  there : List ℕ → List ℕ → Bool
  there name desc = is_had w rows c (joined [] (pieces w orders.Line false rows c.supers)) name desc

  all-none : (class : List ℕ) (t : List ℕ → List ℕ → Bool) → got_all w t class [] [] ≡ []
  unfolding got_all
  all-none class t = refl

  pub gets-added : are_ready w rows c ≡ true → takes_added c ≡ true
      → got_all w (λ n d. is_had w rows c (joined [] (pieces w orders.Line false rows c.supers)) n d) c.name []
      (above_at w rows 0 c).interfaces ≡ map (named_by c.name) (added w c)
  unfolding added asked_by there are_ready
  gets-added ready takes =
      let rs = both_front (list_all (λ x. is_ready w rows x) c.supers) (list_all (λ x. is_ready w rows x) c.interfaces)
      ready in
      let ri = both_back (list_all (λ x. is_ready w rows x) c.supers) (list_all (λ x. is_ready w rows x) c.interfaces)
      ready in
      let G = gathered false (supertypes w c.supers) ++ gathered true (supertypes w c.interfaces) in
      let is_there = λ (m : Member). declares_open m.name m.desc c || has_open m.name m.desc (supertypes w c.supers) in
      let a = named-known w false c.supers (supertypes w c.supers) (ready-supertypes w rows part c.supers rs) in
      let b = named-known w true c.interfaces (supertypes w c.interfaces) (ready-supertypes w rows part c.interfaces ri)
      in
      let named = subst (AreNamed w) (sym (known-append (gathered false (supertypes w c.supers))
      (gathered true (supertypes w c.interfaces)))) (named-append w (known (gathered false (supertypes w c.supers)))
      (known (gathered true (supertypes w c.interfaces))) a b) in
      ap (got_all w there c.name []) (interfaces-of w rows part c rs ri)
      ∙ all-joined there c.name w [] [] (places_of w (known G))
      ∙ ap (λ ids. got_all w there c.name ids (places_of w (known G))) (all-none c.name there)
      ∙ all-named there c.name w [] (known G) named
      ∙ got-lacking there c.name is_there (λ m. had w rows part c rs m.name m.desc) [] (methods_of (known G))
      ∙ ap (λ b. map (named_by c.name) (if b then lacking is_there [] (methods_of (known G)) else [])) (sym takes)

  pub gets-none : takes_added c ≡ false → [] ≡ map (named_by c.name) (added w c)
  unfolding added
  gets-none not = ap (λ b. map (named_by c.name) (if b then lacking (λ m. declares_open m.name m.desc c
      || has_open m.name m.desc (supertypes w c.supers)) [] (asked_by (supertypes w c.supers)
      (supertypes w c.interfaces)) else [])) (sym not)

-- ---- of each class of the package

pub added-here : (files : Files) (n : ℕ) (c : ClassTree) → slice_get files.classes n ≡ Some c
    → map (named_by (declared n c).name) (added (all_classes files) (declared n c)) ≡ added_at files n
unfolding added_at
added-here files n c e = ap (λ o. added_to (all_classes files) n o) (sym e)

pub push-old : {A : Type 0} (xs : List A) (y : A) (i : ℕ) → i < length xs → slice_get (xs ++ y ∷ []) i ≡ slice_get xs i
push-old [] y i l = absurd (omega arith)
push-old (x ∷ xs) y zero l = refl
push-old (x ∷ xs) y (suc i) l = push-old xs y i (omega arith)

pub push-new : {A : Type 0} (xs : List A) (y : A) (i : ℕ) → i ≡ length xs → slice_get (xs ++ y ∷ []) i ≡ Some y
push-new [] y zero l = refl
push-new [] y (suc i) l = absurd (omega arith)
push-new (x ∷ xs) y zero l = absurd (omega arith)
push-new (x ∷ xs) y (suc i) l = push-new xs y i (omega arith)

pub added-made : (files : Files) (rows : List (List MemberId)) (row : List MemberId) (n : ℕ) (holds : ℕ → Bool)
    → length rows ≡ n
    → ((i : ℕ) → i < n → holds i ≡ true → slice_get rows i ≡ Some (added_at files i))
    → (holds n ≡ true → row ≡ added_at files n) → (i : ℕ) → i < n + 1 → holds i ≡ true
    → slice_get (rows ++ row ∷ []) i ≡ Some (added_at files i)
added-made files rows row n holds count made here i l h = ⊎_elim
    (λ (is : i ≡ n). push-new rows row i (is ∙ sym count) ∙ ap Some (here (ap holds (sym is) ∙ h)
    ∙ ap (added_at files) (sym is)))
    (λ (other : i ≡ n → ⊥). push-old rows row i (omega arith) ∙ made i (omega arith) h)
    (same_place i n)
