-- Walks over the places of a table find what is found in the tree.
use Rattle.std.proofs.Common.{◌≡◌, ℕ, ◌<◌, ◌≤◌, ◌+◌, refl, sym, ap, ◌∙◌, arith, Bool, true, false, List, [], ◌∷◌, ◌++◌}
use Rattle.std.proofs.Common.{length, get_or, drop, add-one}
use Rattle.std.specs.Prelude.{◌||◌, Option, Some, None, option_and_then, option_to_list, slice_get}
use Rattle.std.specs.List.{list_any}
use Rattle.std.specs.Str.{bytes_eq}
use Rattle.std.proofs.Math.Seq.{drop-cons}
use Rattle.std.proofs.lemmas.Grind.{common_steps}
use Rattle.std.proofs.lemmas.List.Folds.{list_any-append}
use Rattle.cjc_world.specs.declared.found.Found.{Found}
use Rattle.cjc_world.specs.declared.tables.Above.{Above}
use Rattle.cjc_world.specs.declared.tables.Order.TheVariants as orders
use Rattle.cjc_world.specs.Classes.{Class, class_named}
use Rattle.cjc_world.specs.Supertypes.{Supertypes, End, Unknown, Known, AreSupertypes, ends, unknown_here, known_here}
use Rattle.cjc_world.specs.Supertypes.{known_as, supertypes_within, supertypes, upwards, line, is_below, stands}
use Rattle.cjc_world.specs.Supertypes.{stands_by_supers}
use Rattle.cjc_world.specs.Interfaces.{gathered, has_interface, known}
use Rattle.cjc_world.specs.Lookup.{or_else, first, own_field, field_in, find_field, own_method}
use Rattle.cjc_world.specs.Subtype.{is_subclass}
use Rattle.cjc_world.specs.Working.Places.{place_named, places_of, joined, first_place, field_of, method_of, has_name}
use Rattle.cjc_world.specs.Working.Places.{names, names_of, names_super, names_super_of, IsWalk}
use Rattle.cjc_world.specs.Working.Tables.{in_field_order, told, IsTable, row_at}
use Rattle.cjc_world.proofs.Settled.{supertypes-AreSupertypes, supertypes-known}
use Rattle.cjc_world.proofs.Cycles.{class_named-name}
use Rattle.cjc_world.proofs.Rising.{first-append, or_else-assoc}
use Rattle.cjc_world.proofs.Joined.{first-joined, any-joined}
use Rattle.cjc_world.proofs.ByPlace.{AreNamed, class-place, place-class, place-none}
use Rattle.cjc_world.proofs.Adding.{named-upwards, named-known, named-fields, any-places}

-- ---- one place further

module _ (own : ℕ → Option Found) (ps : List ℕ) (i : ℕ) where
  next : (d : ℕ) → i < length ps → first_place own (drop i ps) ≡ or_else (own (get_or ps i d))
      (first_place own (drop (i + 1) ps))
  unfolding first_place
  next d l = ap (first_place own) (drop-cons ps i d l)
      ∙ ap (λ n. or_else (own (get_or ps i d)) (first_place own (drop n ps))) (sym (add-one i))

  pub first-here : (d : ℕ) (f : Found) → i < length ps → Some f ≡ own (get_or ps i d) → first_place own (drop i ps)
      ≡ first_place own ps → Some f ≡ first_place own ps
  first-here d f l e kept = ap (λ o. or_else o (first_place own (drop (i + 1) ps))) e ∙ sym (next d l) ∙ kept

  pub first-on : (d : ℕ) → i < length ps → None ≡ own (get_or ps i d) → first_place own (drop i ps) ≡ first_place own ps
      → first_place own (drop (i + 1) ps) ≡ first_place own ps
  first-on d l e kept = ap (λ o. or_else o (first_place own (drop (i + 1) ps))) e ∙ sym (next d l) ∙ kept

  pub first-end : length ps ≤ i → first_place own (drop i ps) ≡ first_place own ps → None ≡ first_place own ps
  unfolding first_place
  first-end l kept = let e : drop i ps ≡ [] = grind (arith, common_steps) in sym (ap (first_place own) e) ∙ kept

-- ---- the classes of a tree, and the places of a table

module _ (w : List Class) where
  first-places : (f : ℕ → Option Found) (g : Class → Option Found) (cs : List Class) → AreNamed w cs
      → ((d : Class) (q : ℕ) → slice_get w q ≡ Some d → f q ≡ g d) → first_place f (places_of w cs) ≡ first g cs
  unfolding AreNamed places_of first_place first
  first-places f g [] a same = refl
  first-places f g (d ∷ cs) a same =
      let p = class-place w d.name d a.0 in
      ap (λ o. first_place f (option_to_list o ++ places_of w cs)) p.1
      ∙ ap (λ o. or_else o (first_place f (places_of w cs))) (same d p.0 p.2)
      ∙ ap (or_else (g d)) (first-places f g cs a.1 same)

  first-told : (f : ℕ → Option Found) (g : Class → Option Found) (cs : List Class) → AreNamed w cs
      → ((d : Class) (q : ℕ) → slice_get w q ≡ Some d → f q ≡ g d) → first_place f (joined [] (places_of w cs))
      ≡ first g cs
  unfolding first_place
  first-told f g cs a same = first-joined f [] (places_of w cs) ∙ first-places f g cs a same

  any-told : (f : ℕ → Bool) (g : Class → Bool) (cs : List Class) → AreNamed w cs → ((d : Class) (q : ℕ)
      → slice_get w q ≡ Some d → f q ≡ g d) → list_any f (joined [] (places_of w cs)) ≡ list_any g cs
  any-told f g cs a same = any-joined f [] (places_of w cs) ∙ any-places w f g cs a (λ d q _ _ e. same d q e)

fields-first : (own : Class → Option Found) (k : Supertypes) → field_in own k ≡ first own (in_field_order k)
unfolding first
fields-first own End = refl
fields-first own (Unknown x next) = fields-first own next
fields-first own (Known c s i next) =
    ap (λ o. or_else (or_else (own c) (or_else o (field_in own s))) (field_in own next)) (fields-first own i)
    ∙ ap (λ o. or_else (or_else (own c) (or_else (first own (in_field_order i)) o)) (field_in own next))
    (fields-first own s)
    ∙ ap (λ o. or_else (or_else (own c) (or_else (first own (in_field_order i)) (first own (in_field_order s)))) o)
    (fields-first own next)
    ∙ or_else-assoc (own c) (or_else (first own (in_field_order i)) (first own (in_field_order s)))
    (first own (in_field_order next))
    ∙ ap (λ o. or_else (own c) (or_else o (first own (in_field_order next))))
    (sym (first-append own (in_field_order i) (in_field_order s)))
    ∙ ap (or_else (own c)) (sym (first-append own (in_field_order i ++ in_field_order s) (in_field_order next)))

-- ---- names in the tree: those of its classes, and those that they list

regroup : (n a s b i c l : Bool) → (((n || (a || s)) || (b || i)) || (c || l)) ≡ ((n || c)
    || ((n || (a || b)) || ((i || s) || l)))
regroup true a s b i c l = refl
regroup false true s b i true l = refl
regroup false true s b i false l = refl
regroup false false true b i true l = refl
regroup false false true true i false l = refl
regroup false false true false true false l = refl
regroup false false true false false false l = refl
regroup false false false true i true l = refl
regroup false false false true i false l = refl
regroup false false false false true true l = refl
regroup false false false false true false l = refl
regroup false false false false false true l = refl
regroup false false false false false false l = refl

pub or-assoc : (a b c : Bool) → (a || (b || c)) ≡ ((a || b) || c)
or-assoc true b c = refl
or-assoc false b c = refl

stands-listed : (w : List Class) (y : List ℕ) (xs : List (List ℕ)) (k : Supertypes) → AreSupertypes w xs k
    → stands y k ≡ (list_any (λ x. bytes_eq x y) xs || list_any (names y) (in_field_order k))
stands-listed w y xs k ends = refl
stands-listed w y (x ∷ xs) k (unknown_here {next = next} e n) =
    ap (λ b. bytes_eq x y || b) (stands-listed w y xs next n)
    ∙ or-assoc (bytes_eq x y) (list_any (λ x. bytes_eq x y) xs) (list_any (names y) (in_field_order next))
stands-listed w y (x ∷ xs) k (known_here {c = c} {supers = s} {interfaces = i} {next = next} e sk ik n) =
    let I = list_any (names y) (in_field_order i) in
    let S = list_any (names y) (in_field_order s) in
    let N = list_any (names y) (in_field_order next) in
    let A = list_any (λ x. bytes_eq x y) c.supers in
    let B = list_any (λ x. bytes_eq x y) c.interfaces in
    let C = list_any (λ x. bytes_eq x y) xs in
    ap (λ b. ((bytes_eq c.name y || b) || stands y i) || stands y next) (stands-listed w y c.supers s sk)
    ∙ ap (λ b. ((bytes_eq c.name y || (A || S)) || b) || stands y next) (stands-listed w y c.interfaces i ik)
    ∙ ap (λ b. ((bytes_eq c.name y || (A || S)) || (B || I)) || b) (stands-listed w y xs next n)
    ∙ regroup (bytes_eq c.name y) A S B I C N
    ∙ ap (λ z. (bytes_eq z y || C) || ((bytes_eq c.name y || (A || B)) || ((I || S) || N))) (class_named-name w x c e)
    ∙ ap (λ b. (bytes_eq x y || C) || ((bytes_eq c.name y || (A || B)) || (b || N)))
    (sym (list_any-append (names y) (in_field_order i) (in_field_order s)))
    ∙ ap (λ b. (bytes_eq x y || C) || ((bytes_eq c.name y || (A || B)) || b))
    (sym (list_any-append (names y) (in_field_order i ++ in_field_order s) (in_field_order next)))

-- the same of names on ways by supers alone

together : (n a s c l : Bool) → ((n || (a || s)) || (c || l)) ≡ ((n || c) || ((n || a) || (s || l)))
together true a s c l = refl
together false true s true l = refl
together false true s false l = refl
together false false true true l = refl
together false false true false l = refl
together false false false true l = refl
together false false false false l = refl

below-listed : (w : List Class) (y : List ℕ) (xs : List (List ℕ)) (k : Supertypes) → AreSupertypes w xs k
    → stands_by_supers y k ≡ (list_any (λ x. bytes_eq x y) xs || list_any (names_super y) (upwards k))
below-listed w y xs k ends = refl
below-listed w y (x ∷ xs) k (unknown_here {next = next} e n) =
    ap (λ b. bytes_eq x y || b) (below-listed w y xs next n) ∙ or-assoc (bytes_eq x y) (list_any (λ x. bytes_eq x y) xs)
    (list_any (names_super y) (upwards next))
below-listed w y (x ∷ xs) k (known_here {c = c} {supers = s} {interfaces = i} {next = next} e sk ik n) =
    let S = list_any (names_super y) (upwards s) in
    let N = list_any (names_super y) (upwards next) in
    let A = list_any (λ x. bytes_eq x y) c.supers in
    let C = list_any (λ x. bytes_eq x y) xs in
    ap (λ b. (bytes_eq c.name y || b) || stands_by_supers y next) (below-listed w y c.supers s sk)
    ∙ ap (λ b. (bytes_eq c.name y || (A || S)) || b) (below-listed w y xs next n)
    ∙ together (bytes_eq c.name y) A S C N
    ∙ ap (λ z. (bytes_eq z y || C) || ((bytes_eq c.name y || A) || (S || N))) (class_named-name w x c e)
    ∙ ap (λ b. (bytes_eq x y || C) || ((bytes_eq c.name y || A) || b)) (sym (list_any-append (names_super y) (upwards s)
    (upwards next)))

-- ---- by the table

module _ (w : List Class) (rows : List (Option Above)) (table : IsTable w rows) (x : List ℕ) where
  tree : Supertypes
  tree = supertypes w (x ∷ [])

  is_tree : AreSupertypes w (x ∷ []) (supertypes w (x ∷ []))
  is_tree = supertypes-AreSupertypes w table.acyclic (x ∷ [])

  nowhere : place_named w x ≡ None → supertypes w (x ∷ []) ≡ Unknown x End
  unfolding supertypes supertypes_within
  nowhere e = ap (λ o. known_as (supertypes_within w (length w)) x o End) (place-none w x e)

  module _ (p : ℕ) (place : place_named w x ≡ Some p) where
    pub line-row : row_at orders.Line (slice_get rows p) ≡ joined [] (places_of w (upwards (supertypes w (x ∷ []))))
    unfolding told
    line-row = ap (row_at orders.Line) (table.tells x p place)

    interfaces-row : row_at orders.Interfaces (slice_get rows p)
        ≡ joined [] (places_of w (known (gathered false (supertypes w (x ∷ [])))))
    unfolding told
    interfaces-row = ap (row_at orders.Interfaces) (table.tells x p place)

    fields-row : row_at orders.Fields (slice_get rows p)
        ≡ joined [] (places_of w (in_field_order (supertypes w (x ∷ []))))
    unfolding told
    fields-row = ap (row_at orders.Fields) (table.tells x p place)

    pub line-walks : IsWalk w (line w x) (row_at orders.Line (slice_get rows p))
    unfolding line
    line-walks own =
        ap (first_place (λ q. option_and_then own (slice_get w q))) line-row
        ∙ first-told w (λ q. option_and_then own (slice_get w q)) own (upwards (supertypes w (x ∷ [])))
        (named-upwards w (x ∷ []) (supertypes w (x ∷ [])) is_tree) (λ d q e. ap (option_and_then own) e)

    pub interfaces-walk : IsWalk w (known (gathered false (supertypes w (x ∷ []))))
        (row_at orders.Interfaces (slice_get rows p))
    interfaces-walk own =
        ap (first_place (λ q. option_and_then own (slice_get w q))) interfaces-row
        ∙ first-told w (λ q. option_and_then own (slice_get w q)) own (known (gathered false (supertypes w (x ∷ []))))
        (named-known w false (x ∷ []) (supertypes w (x ∷ [])) is_tree) (λ d q e. ap (option_and_then own) e)

    pub line-finds : (selecting : Bool) (name desc : List ℕ)
        → first_place (λ q. method_of selecting name desc (slice_get w q)) (row_at orders.Line (slice_get rows p))
        ≡ first (own_method selecting name desc) (line w x)
    unfolding line
    line-finds selecting name desc =
        ap (first_place (λ q. method_of selecting name desc (slice_get w q))) line-row
        ∙ first-told w (λ q. method_of selecting name desc (slice_get w q)) (own_method selecting name desc)
        (upwards (supertypes w (x ∷ []))) (named-upwards w (x ∷ []) (supertypes w (x ∷ [])) is_tree)
        (λ d q e. ap (method_of selecting name desc) e)

    pub interfaces-find : (name desc : List ℕ) → first_place (λ q. method_of false name desc (slice_get w q))
        (row_at orders.Interfaces (slice_get rows p)) ≡ first (own_method false name desc)
        (known (gathered false (supertypes w (x ∷ []))))
    interfaces-find name desc =
        ap (first_place (λ q. method_of false name desc (slice_get w q))) interfaces-row
        ∙ first-told w (λ q. method_of false name desc (slice_get w q)) (own_method false name desc)
        (known (gathered false (supertypes w (x ∷ [])))) (named-known w false (x ∷ []) (supertypes w (x ∷ []))
        is_tree) (λ d q e. ap (method_of false name desc) e)

    pub fields-find : (name desc : List ℕ) → first_place (λ q. field_of name desc (slice_get w q))
        (row_at orders.Fields (slice_get rows p)) ≡ find_field w x name desc
    unfolding find_field
    fields-find name desc =
        ap (first_place (λ q. field_of name desc (slice_get w q))) fields-row
        ∙ first-told w (λ q. field_of name desc (slice_get w q)) (own_field name desc)
        (in_field_order (supertypes w (x ∷ []))) (named-fields w (x ∷ []) (supertypes w (x ∷ [])) is_tree)
        (λ d q e. ap (field_of name desc) e)
        ∙ sym (fields-first (own_field name desc) (supertypes w (x ∷ [])))

    pub line-below : (y : List ℕ) → list_any (λ q. names_super_of y (slice_get w q))
        (row_at orders.Line (slice_get rows p)) ≡ is_below w x y
    unfolding is_below
    line-below y =
        let c = place-class w x p place in
        ap (list_any (λ q. names_super_of y (slice_get w q))) line-row
        ∙ any-told w (λ q. names_super_of y (slice_get w q)) (names_super y) (upwards (supertypes w (x ∷ [])))
        (named-upwards w (x ∷ []) (supertypes w (x ∷ [])) is_tree) (λ d q e. ap (names_super_of y) e)
        ∙ itself c.0 c.2
        ∙ sym (below-listed w y (x ∷ []) (supertypes w (x ∷ [])) is_tree)
      where
        absorbs : (a b r : Bool) → ((a || b) || r) ≡ ((a || false) || ((a || b) || r))
        absorbs true b r = refl
        absorbs false b r = refl

        itself : (c : Class) → class_named w x ≡ Some c → list_any (names_super y) (upwards (supertypes w (x ∷ [])))
            ≡ ((bytes_eq x y || false) || list_any (names_super y) (upwards (supertypes w (x ∷ []))))
        itself c e =
            ap (λ k. list_any (names_super y) (upwards k)) (supertypes-known w table.acyclic x c e)
            ∙ absorbs (bytes_eq c.name y) (list_any (λ x. bytes_eq x y) c.supers) (list_any (names_super y)
            (upwards (supertypes w c.supers) ++ []))
            ∙ ap (λ z. (bytes_eq z y || false)
            || list_any (names_super y) (upwards (Known c (supertypes w c.supers) (supertypes w c.interfaces) End)))
            (class_named-name w x c e)
            ∙ ap (λ k. (bytes_eq x y || false) || list_any (names_super y) (upwards k))
            (sym (supertypes-known w table.acyclic x c e))

    pub interfaces-have : (y : List ℕ) → list_any (λ q. has_name y (slice_get w q)) (row_at orders.Interfaces
        (slice_get rows p)) ≡ has_interface w x y
    unfolding has_interface
    interfaces-have y =
        ap (list_any (λ q. has_name y (slice_get w q))) interfaces-row
        ∙ any-told w (λ q. has_name y (slice_get w q)) (λ c. bytes_eq c.name y)
        (known (gathered false (supertypes w (x ∷ [])))) (named-known w false (x ∷ []) (supertypes w (x ∷ []))
        is_tree) (λ d q e. ap (has_name y) e)

    pub fields-stand : (y : List ℕ)
        → list_any (λ q. names_of y (slice_get w q)) (row_at orders.Fields (slice_get rows p)) ≡ is_subclass w x y
    unfolding is_subclass
    fields-stand y =
        let c = place-class w x p place in
        ap (list_any (λ q. names_of y (slice_get w q))) fields-row
        ∙ any-told w (λ q. names_of y (slice_get w q)) (names y) (in_field_order (supertypes w (x ∷ [])))
        (named-fields w (x ∷ []) (supertypes w (x ∷ [])) is_tree) (λ d q e. ap (names_of y) e)
        ∙ itself y c.0 c.2
        ∙ sym (stands-listed w y (x ∷ []) (supertypes w (x ∷ [])) is_tree)
      where
        again : (a b : Bool) → (a || b) ≡ ((a || false) || (a || b))
        again true b = refl
        again false b = refl

        absorbs : (a b r : Bool) → ((a || b) || r) ≡ ((a || false) || ((a || b) || r))
        absorbs true b r = refl
        absorbs false b r = refl

        itself : (y : List ℕ) (c : Class) → class_named w x ≡ Some c
            → list_any (names y) (in_field_order (supertypes w (x ∷ []))) ≡ ((bytes_eq x y || false)
            || list_any (names y) (in_field_order (supertypes w (x ∷ []))))
        itself y c e =
            ap (λ k. list_any (names y) (in_field_order k)) (supertypes-known w table.acyclic x c e)
            ∙ absorbs (bytes_eq c.name y) (list_any (λ x. bytes_eq x y) c.supers
            || list_any (λ x. bytes_eq x y) c.interfaces)
            (list_any (names y) (in_field_order (supertypes w c.interfaces)
            ++ in_field_order (supertypes w c.supers) ++ []))
            ∙ ap (λ z. (bytes_eq z y || false)
            || list_any (names y) (in_field_order (Known c (supertypes w c.supers) (supertypes w c.interfaces)
            End))) (class_named-name w x c e)
            ∙ ap (λ k. (bytes_eq x y || false) || list_any (names y) (in_field_order k))
            (sym (supertypes-known w table.acyclic x c e))

  -- ---- of no class

  pub none-stands : (y : List ℕ) → place_named w x ≡ None → bytes_eq x y ≡ is_subclass w x y
  unfolding is_subclass
  none-stands y e = sym (ap (stands y) (nowhere e) ∙ or-none (bytes_eq x y))
    where
      or-none : (b : Bool) → (b || false) ≡ b
      or-none true = refl
      or-none false = refl

  pub none-below : (y : List ℕ) → place_named w x ≡ None → bytes_eq x y ≡ is_below w x y
  unfolding is_below
  none-below y e = sym (ap (stands_by_supers y) (nowhere e) ∙ or-none (bytes_eq x y))
    where
      or-none : (b : Bool) → (b || false) ≡ b
      or-none true = refl
      or-none false = refl

  pub none-has : (y : List ℕ) → place_named w x ≡ None → false ≡ has_interface w x y
  unfolding has_interface gathered known
  none-has y e = sym (ap (λ k. list_any (λ c. bytes_eq c.name y) (known (gathered false k))) (nowhere e))

  pub none-field : (name desc : List ℕ) → place_named w x ≡ None → None ≡ find_field w x name desc
  unfolding find_field
  none-field name desc e = sym (ap (field_in (own_field name desc)) (nowhere e))

  pub none-walks : place_named w x ≡ None → IsWalk w (line w x) []
  unfolding line first first_place
  none-walks e own = sym (ap (λ k. first own (upwards k)) (nowhere e))

  pub none-walk : place_named w x ≡ None → IsWalk w (known (gathered false (supertypes w (x ∷ [])))) []
  unfolding gathered known first first_place
  none-walk e own = sym (ap (λ k. first own (known (gathered false k))) (nowhere e))

  pub none-interfaces : (name desc : List ℕ) → place_named w x ≡ None
      → None ≡ first (own_method false name desc) (known (gathered false (supertypes w (x ∷ []))))
  unfolding gathered known first
  none-interfaces name desc e = sym (ap (λ k. first (own_method false name desc) (known (gathered false k)))
      (nowhere e))

  pub none-line : (selecting : Bool) (name desc : List ℕ) → place_named w x ≡ None
      → None ≡ first (own_method selecting name desc) (line w x)
  unfolding line first
  none-line selecting name desc e = sym (ap (λ k. first (own_method selecting name desc) (upwards k)) (nowhere e))
