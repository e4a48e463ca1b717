-- Of which types arrays are, by the types of a cell.
use Rattle.std.proofs.Common.{◌≡◌, ◌+◌, ℕ, Bool, true, false, not, ◌&&◌, ◌||◌, List, [], ◌∷◌, ◌++◌, length, take}
use Rattle.std.proofs.Common.{Option, Some, None, refl, sym, ap, subst, ◌∙◌, inl, inr, ◌⊎◌, ⊎_elim, nat_le, arith}
use Rattle.std.proofs.lemmas.Int.{ints}
use Rattle.std.specs.Prelude.{if◌then◌else◌, ◌-◌, ◌==◌}
use Rattle.std.specs.List.{list_all, list_any}
use Rattle.std.specs.Str.{bytes_eq}
use Rattle.cjc_range.specs.Span.{Span, Within, byte_range, short_range}
use Rattle.cjc_range.proofs.Order.{within_refl}
use Rattle.cjc_script.specs.Sorts.{Shape, OfClass, OfNumbers, OfReferences, Element, Booleans, Bytes, Shorts, Ints}
use Rattle.cjc_script.specs.Sorts.{array_name, shape_name}
use Rattle.cjc_bytes.specs.Descriptor.{IsClassName}
use Rattle.cjc_bytes.proofs.Gets.{all_but_last}
use Rattle.cjc_bytes.proofs.Lists.{bytes_true}
use Rattle.cjc_bytes.proofs.Bools.{or_cases}
use Rattle.cjc_world.specs.Classes.{Class, class_named}
use Rattle.cjc_world.specs.Supertypes.{End, known_as, supertypes_within, supertypes, stands}
use Rattle.cjc_world.proofs.Subtypes.{reaches}
use Rattle.cjc_narrow_proof.proofs.TablesLaws.Spelt.{class_read, held_spelt}
use Rattle.cjc_world.specs.Subtype.{starts, inner, element, array_is, is_subclass, is_element, is_subtype}
use Rattle.cjc_types.specs.declared.cell.Cell.{Cell}
use Rattle.cjc_types.specs.declared.cell.Cell.TheVariants.{Number, Refs, Unusable}
use Rattle.cjc_types.specs.Names.{In}
use Rattle.cjc_types.specs.Types.{held, held_by, with_held, elements}
use Rattle.cjc_types.specs.Cells.{refs, most_names}
use Rattle.cjc_types.specs.Working.NameLaws.{insert_new, insert_old}
use Rattle.cjc_types.specs.Rules.{is_array_by, is_some, all_types}
use Rattle.cjc_types.proofs.Greater.{member_passes}
use Rattle.cjc_ncode.specs.ByLabel.{Named}
use Rattle.cjc_intervals.specs.Values.{boolean_range, is_boolean_array, byte_element_range}
use Rattle.cjc_narrow_proof.specs.Selection.Relation.{Refers, Wider, more_types, reference_free, IsMadeOf}
use Rattle.cjc_narrow_proof.specs.Selection.Relation.{element_range}
use Rattle.cjc_narrow_proof.specs.Selection.Elements.{IsBytes, IsShorts, IsReferences, AreAll, AreArrays, ElementsLie}
use Rattle.cjc_narrow_proof.specs.Selection.Elements.{ItemsPass}
use Rattle.cjc_narrow_proof.specs.Selection.Elements as of
use Rattle.cjc_narrow_proof.specs.Selection.Replies.{is_of_some}
use Rattle.cjc_narrow_proof.specs.Tables.Kinds.{is_one_of, kind_of_cell}
use Rattle.cjc_narrow_proof.specs.Tables.Analysis.{TypesAreTold}
use Rattle.cjc_narrow_proof.specs.Tables.Arrays.{ClassesAreNamed}
use Rattle.cjc_narrow_proof.proofs.TablesLaws.Told.{one_of_in}
use Rattle.cjc_narrow_proof.proofs.TablesLaws.Values.{HasName, has_name}

-- a cell of references all of whose types pass
pub of_types : (passes : List ℕ → Bool) (c : Cell) → all_types passes c ≡ true → (names : List (List ℕ))
    × (c ≡ Refs names) × (list_all passes names ≡ true)
of_types passes Number e = cc
of_types passes (Refs names) e = (names, refl, e)
of_types passes Unusable e = cc

-- one letter holds nothing
one : (c : ℕ) → (c == 91) ≡ false → (c == 76) ≡ false → {bs item : List ℕ} → c ∷ [] ≡ bs → held_by bs ≡ Some item → ⊥
one c a b {item = item} same e = go (c == 91) (c == 76) a b (ap held_by same ∙ e)
  where
    go : (g h : Bool) → g ≡ false → h ≡ false → (if g then Some (c ∷ []) else if h then Some (inner (c ∷ [])) else None)
        ≡ Some item → ⊥
    go true h p q e = cc
    go false true p q e = cc
    go false false p q e = cc

module _ (w : List Class) where
  -- a class is no array
  no_class : (class name : List ℕ) → starts 91 class ≡ false → starts 91 name ≡ true → is_subtype w class name ≡ true
      → ⊥
  unfolding is_subtype
  no_class class name e f h = go (starts 91 class) (starts 91 name) e f h
    where
      go : (a b : Bool) → a ≡ false → b ≡ true → (if a then (if b then is_element w (element class) (element name)
          else array_is w name) else not b && is_subclass w class name) ≡ true → ⊥
      go true b e f h = cc
      go false true e f h = cc
      go false false e f h = cc

  -- what is of an array of numbers has its elements
  numbers_only : (a b : Element) → is_subtype w (array_name a) (array_name b) ≡ true → a ≡ b
  unfolding is_subtype is_element
  numbers_only Booleans Booleans e = refl
  numbers_only Booleans Bytes e = cc
  numbers_only Booleans Shorts e = cc
  numbers_only Booleans Ints e = cc
  numbers_only Bytes Booleans e = cc
  numbers_only Bytes Bytes e = refl
  numbers_only Bytes Shorts e = cc
  numbers_only Bytes Ints e = cc
  numbers_only Shorts Booleans e = cc
  numbers_only Shorts Bytes e = cc
  numbers_only Shorts Shorts e = refl
  numbers_only Shorts Ints e = cc
  numbers_only Ints Booleans e = cc
  numbers_only Ints Bytes e = cc
  numbers_only Ints Shorts e = cc
  numbers_only Ints Ints e = refl

  no_references : (class : List ℕ) (b : Element) → is_subtype w (shape_name (OfReferences class)) (array_name b) ≡ true
      → ⊥
  unfolding is_subtype is_element
  no_references class Booleans e = cc
  no_references class Bytes e = cc
  no_references class Shorts e = cc
  no_references class Ints e = cc

  -- an array of numbers holds no references
  spelt : (a : Element) (bs item : List ℕ) → held_by bs ≡ Some item → is_element w (element (array_name a)) bs ≡ true
      → ⊥
  unfolding is_element
  spelt Booleans bs item e h = ⊎_elim (λ same. one 90 refl refl (bytes_true (90 ∷ []) bs same) e) (λ no. cc)
      (or_cases (bytes_eq (90 ∷ []) bs) false h)
  spelt Bytes bs item e h = ⊎_elim (λ same. one 66 refl refl (bytes_true (66 ∷ []) bs same) e) (λ no. cc)
      (or_cases (bytes_eq (66 ∷ []) bs) false h)
  spelt Shorts bs item e h = ⊎_elim (λ same. one 83 refl refl (bytes_true (83 ∷ []) bs same) e) (λ no. cc)
      (or_cases (bytes_eq (83 ∷ []) bs) false h)
  spelt Ints bs item e h = ⊎_elim (λ same. one 73 refl refl (bytes_true (73 ∷ []) bs same) e) (λ no. cc)
      (or_cases (bytes_eq (73 ∷ []) bs) false h)

  no_numbers : (a : Element) (name item : List ℕ) → held name ≡ Some item → is_subtype w (array_name a) name ≡ true → ⊥
  unfolding is_subtype
  no_numbers a [] item e h = cc
  no_numbers a (b ∷ bs) item e h = by_array a (b == 91) e h
    where
      by_array : (a : Element) (g : Bool) → (if g then held_by bs else None) ≡ Some item → (if starts 91 (array_name a)
          then (if g then is_element w (element (array_name a)) bs else array_is w (b ∷ bs)) else not g
          && is_subclass w (array_name a) (b ∷ bs)) ≡ true → ⊥
      by_array a false e h = cc
      by_array Booleans true e h = spelt Booleans bs item e h
      by_array Bytes true e h = spelt Bytes bs item e h
      by_array Shorts true e h = spelt Shorts bs item e h
      by_array Ints true e h = spelt Ints bs item e h

  -- what an array of references is of holds what its items are of
  subclass_held : (class item name : List ℕ) → held name ≡ Some item → is_subtype w (shape_name (OfReferences class))
      name ≡ true → is_subclass w class item ≡ true
  unfolding is_subtype is_element is_subclass
  subclass_held class item [] e h = cc
  subclass_held class item (b ∷ bs) e h = by_array (b == 91) e h
    where
      word : List ℕ
      word = class ++ 59 ∷ []

      below : (inner bs ≡ item) → is_subclass w (take (length word - 1) word) (inner bs) ≡ true
          → is_subclass w class item ≡ true
      below same is = sym (ap (λ c. is_subclass w c item) (all_but_last class))
          ∙ ap (λ i. is_subclass w (take (length word - 1) word) i) (sym same) ∙ is

      by_start : (g u : Bool) → starts 91 bs ≡ g → starts 76 bs ≡ u → (if g then Some bs else if u then Some (inner bs)
          else None) ≡ Some item
          → (bytes_eq (76 ∷ word) bs || (u && is_subclass w (take (length word - 1) word) (inner bs))) ≡ true
          → is_subclass w class item ≡ true
      by_start true true r v e h = absurd (two bs r v)
        where
          two : (bs : List ℕ) → starts 91 bs ≡ true → starts 76 bs ≡ true → ⊥
          two [] r v = cc
          two (c ∷ cs) r v = grind arith
      by_start true false r v e h = ⊎_elim (λ same. (let f : false ≡ true = sym v
          ∙ ap (starts 76) (sym (bytes_true (76 ∷ word) bs same)) in cc)) (λ no. cc) (or_cases (bytes_eq (76 ∷ word) bs)
          false h)
      by_start false false r v e h = cc
      by_start false true r v e h = ⊎_elim
          (λ same. (let is : inner bs ≡ class = ap inner (sym (bytes_true (76 ∷ word) bs same)) ∙ all_but_last class
          in subst (λ i. is_subclass w class i ≡ true) (sym is ∙ told e) (reaches w class class (inl refl))))
          (λ is. below (told e) is)
          (or_cases (bytes_eq (76 ∷ word) bs) (is_subclass w (take (length word - 1) word) (inner bs)) h)
        where
          told : Some (inner bs) ≡ Some item → inner bs ≡ item
          told e = cc

      by_array : (g : Bool) → (if g then held_by bs else None) ≡ Some item → (if g then is_element w (76 ∷ word) bs
          else array_is w (b ∷ bs)) ≡ true → is_subclass w class item ≡ true
      by_array false e h = cc
      by_array true e h = by_start (starts 91 bs) (starts 76 bs) refl refl e h

  items_below : (class item name : List ℕ) → starts 91 class ≡ false → starts 91 item ≡ false → held name ≡ Some item
      → is_subtype w (shape_name (OfReferences class)) name ≡ true → is_subtype w class item ≡ true
  unfolding is_subtype
  items_below class item name p q e h = go (starts 91 class) (starts 91 item) p q (subclass_held class item name e h)
    where
      go : (x y : Bool) → x ≡ false → y ≡ false → is_subclass w class item ≡ true
          → (if x then (if y then is_element w (element class) (element item) else array_is w item) else not y
          && is_subclass w class item) ≡ true
      go true y p q is = cc
      go false true p q is = cc
      go false false p q is = is

  -- a subclass of a name is that name, or a class of some file
  subclass_known : (class item : List ℕ) → is_subclass w class item ≡ true → (class ≡ item)
      ⊎ ((c : Class) × (class_named w class ≡ Some c))
  unfolding is_subclass supertypes supertypes_within
  subclass_known class item h = go (class_named w class) refl h
    where
      go : (o : Option Class) → class_named w class ≡ o
          → stands item (known_as (supertypes_within w (length w)) class o End) ≡ true → (class ≡ item)
          ⊎ ((c : Class) × (class_named w class ≡ Some c))
      go None none h = ⊎_elim (λ same. inl (bytes_true class item same)) (λ no. cc) (or_cases
          (bytes_eq class item) false
          h)
      go (Some c) is h = inr (c, is)

-- the held types are among those that a cell's arrays hold
among_elements : (xs more : List (List ℕ)) (n : List ℕ) → In n more → In n (elements xs more)
among_elements [] more n h = h
among_elements (x ∷ xs) more n h = among_elements xs (with_held (held x) more) n (go (held x))
  where
    go : (o : Option (List ℕ)) → In n (with_held o more)
    go None = h
    go (Some m) = insert_old m n more h

pub held_among : (xs more : List (List ℕ)) (name item : List ℕ) → In name xs → held name ≡ Some item
    → In item (elements xs more)
held_among [] more name item h e = absurd h
held_among (x ∷ xs) more name item (inl same) e = among_elements xs (with_held (held x) more) item
    (subst (λ o. In item (with_held o more)) (sym (ap held same ∙ e)) (insert_new item more))
held_among (x ∷ xs) more name item (inr later) e = held_among xs (with_held (held x) more) name item later e

-- an item is told where it is there
pub item_of : (name : List ℕ) → is_some (held name) ≡ true → (item : List ℕ) × (held name ≡ Some item)
item_of name e = go (held name) refl e
  where
    go : (o : Option (List ℕ)) → held name ≡ o → is_some o ≡ true → (item : List ℕ) × (held name ≡ Some item)
    go None is e = cc
    go (Some item) is e = (item, is)

element_is : (a b : Element) → ◌≡◌ {A = Shape (List ℕ)} (OfNumbers a) (OfNumbers b) → a ≡ b
element_is a b e = cc

module _ (w : List Class) (l : Named) (types : TypesAreTold w l) (named : ClassesAreNamed w l) where
  below_name : (names : List (List ℕ)) (kind : Shape (List ℕ)) → (h : HasName l names kind)
      → is_subtype w (shape_name kind) h.name ≡ true
  below_name names kind h = sym (types.tells h.name h.shape h.is_name kind) ∙ h.is_of

  is_no_array : {class : List ℕ} → IsClassName class → starts 91 class ≡ false
  is_no_array {class = class} spelt = let h = class_read class spelt in h.no_array

  -- what an array below a named one holds has the name of a class
  item_named : (class item name : List ℕ) → starts 91 item ≡ false → IsClassName item → held name ≡ Some item
      → is_subtype w (shape_name (OfReferences class)) name ≡ true → IsClassName class
  item_named class item name open_name spelt e below = ⊎_elim (λ same. subst IsClassName (sym same) spelt)
      (λ known. named.classes class known.0 known.1) (subclass_known w class item (subclass_held w class item name e
      below))

  -- no object is of types that are all arrays
  pub arrays_only : (names : List (List ℕ)) → list_all (starts 91) names ≡ true → AreArrays l (is_one_of l names)
  arrays_only names all class e made =
      let h = has_name l names (OfClass class) e in
      no_class w class h.name (is_no_array (named.objects class made)) (member_passes
      (starts 91) names h.name all h.among)
      (below_name names (OfClass class) h)

  -- what is of an array of numbers
  of_numbers : (b : Element) (kind : Shape (List ℕ)) → IsMadeOf l kind → is_subtype w (shape_name kind) (array_name b)
      ≡ true → kind ≡ OfNumbers b
  of_numbers b (OfClass class) made e = absurd (no_class w class (array_name b) (is_no_array (named.objects class made))
      (starts_array b) e)
    where
      starts_array : (b : Element) → starts 91 (array_name b) ≡ true
      starts_array Booleans = refl
      starts_array Bytes = refl
      starts_array Shorts = refl
      starts_array Ints = refl
  of_numbers b (OfNumbers a) made e = ap OfNumbers (numbers_only w a b e)
  of_numbers b (OfReferences class) made e = absurd (no_references w class b e)

  -- where each name passes a test by which it names an array of numbers
  numbers_of : (passes : List ℕ → Bool) (names : List (List ℕ)) → list_all passes names ≡ true → (kind : Shape (List ℕ))
      → is_one_of l names kind ≡ true → IsMadeOf l kind
      → (Is : Shape (List ℕ) → Type 0) → ((name : List ℕ) → In name names → passes name ≡ true
      → is_subtype w (shape_name kind) name ≡ true → Is kind) → Is kind
  numbers_of passes names all kind e made Is go = let h = has_name l names kind e
      in go h.name h.among (member_passes passes names h.name all h.among) (below_name names kind h)

  is_kind : (b : Element) (letter : ℕ) → array_name b ≡ 91 ∷ letter ∷ [] → (kind : Shape (List ℕ)) → IsMadeOf l kind
      → (name : List ℕ) → is_array_by letter name ≡ true → is_subtype w (shape_name kind) name ≡ true
      → kind ≡ OfNumbers b
  is_kind b letter spelt kind made name is e =
      let same = bytes_true name (91 ∷ letter ∷ []) is in
      of_numbers b kind made (ap (is_subtype w (shape_name kind)) (spelt ∙ sym same) ∙ e)

  pub bytes_only : (names : List (List ℕ)) → list_all (λ name. is_array_by 66 name || is_array_by 90 name) names ≡ true
      → AreAll l IsBytes (is_one_of l names)
  bytes_only names all kind e made = numbers_of (λ name. is_array_by 66 name || is_array_by 90 name) names all kind e
      made IsBytes (λ name among passes below. ⊎_elim
      (λ is. subst IsBytes (sym (is_kind Bytes 66 refl kind made name is below)) of.bytes)
      (λ is. subst IsBytes (sym (is_kind Booleans 90 refl kind made name is below)) of.booleans)
      (or_cases (is_array_by 66 name) (is_array_by 90 name) passes))

  pub shorts_only : (names : List (List ℕ)) → list_all (is_array_by 83) names ≡ true
      → AreAll l IsShorts (is_one_of l names)
  shorts_only names all kind e made = numbers_of (is_array_by 83) names all kind e made IsShorts
      (λ name among passes below. subst IsShorts (sym (is_kind Shorts 83 refl kind made name passes below)) of.shorts)

  pub references_only : (names : List (List ℕ)) → list_all (λ name. is_some (held name)) names ≡ true
      → AreAll l IsReferences (is_one_of l names)
  references_only names all kind e made =
      let h = has_name l names kind e in
      let item = item_of h.name (member_passes (λ name. is_some (held name)) names h.name all h.among) in
      go kind refl made h item
    where
      go : (k : Shape (List ℕ)) → kind ≡ k → IsMadeOf l k → (h : HasName l names kind) → (item : List ℕ)
          × (held h.name ≡ Some item) → IsReferences kind
      go (OfClass class) same made h item = absurd (no_class w class h.name (is_no_array (named.objects class made))
          (starts_array h.name item.0 item.1) (ap (λ k. is_subtype w (shape_name k) h.name) (sym same)
          ∙ below_name names kind h))
        where
          starts_array : (name item : List ℕ) → held name ≡ Some item → starts 91 name ≡ true
          starts_array [] item e = cc
          starts_array (b ∷ bs) item e = by (b == 91) e
            where
              by : (g : Bool) → (if g then held_by bs else None) ≡ Some item → g ≡ true
              by true e = refl
              by false e = cc
      go (OfNumbers element) same made h item =
          absurd (no_numbers w element h.name item.0 item.1 (ap (λ k. is_subtype w (shape_name k) h.name) (sym same)
          ∙ below_name names kind h))
      go (OfReferences class) same made h item =
          let holds = class_read item.0 (held_spelt h.name item.0 h.shape h.is_name item.1) in
          let is = class_read class (item_named class item.0 h.name holds.no_array (held_spelt h.name item.0 h.shape
          h.is_name item.1) item.1 (ap (λ k. is_subtype w (shape_name k) h.name) (sym same)
          ∙ below_name names kind h)) in
          subst IsReferences (sym same) (of.references class is.array)

  -- what an array holds is of what the cell's arrays hold
  pub items_pass : (names : List (List ℕ)) → list_all (λ name. is_some (held name)) names ≡ true
      → ItemsPass l (is_one_of l names) (is_one_of l (elements names []))
  items_pass names all class e kind is =
      let h = has_name l names (OfReferences class) e in
      let item = item_of h.name (member_passes (λ name. is_some (held name)) names h.name all h.among) in
      let below = below_name names (OfReferences class) h in
      let spelt = held_spelt h.name item.0 h.shape h.is_name item.1 in
      let holds = class_read item.0 spelt in
      let own = class_read class (item_named class item.0 h.name holds.no_array spelt item.1 below) in
      let first : is_subtype w (shape_name kind) class ≡ true = sym (types.tells class (OfClass class) own.class kind)
      ∙ is in
      let second = items_below w class item.0 h.name own.no_array holds.no_array item.1 below in
      let through = types.through (shape_name kind) class item.0 first second in
      one_of_in l (elements names []) item.0 kind (held_among names [] h.name item.0 h.among item.1)
      (ap (is_of_some l kind) holds.class ∙ types.tells item.0 (OfClass item.0) holds.class kind ∙ through)

  -- ---- numbers of elements

  booleans_below : Within (element_range Booleans) byte_range
  booleans_below = record { low = omega (arith, ints); high = omega (arith, ints) }

  pub byte_elements : (names : List (List ℕ)) → list_all (λ name. is_array_by 66 name || is_array_by 90 name) names
      ≡ true → ElementsLie (is_one_of l names) (byte_element_range (Refs names))
  byte_elements names all kind e = by (list_all is_boolean_array names) refl
    where
      by : (b : Bool) → list_all is_boolean_array names ≡ b → Within (element_range kind) (if b then boolean_range
          else byte_range)
      by true booleans = numbers_of is_boolean_array names booleans (OfNumbers kind) e tt
          (λ k. Within (element_range kind) boolean_range) (λ name among passes below. (let same : OfNumbers kind
          ≡ OfNumbers Booleans = is_kind Booleans 90 refl (OfNumbers kind) tt name passes below
          in subst (λ x. Within (element_range x) boolean_range) (sym (element_is kind Booleans same))
          (within_refl boolean_range)))
      by false other = go kind (bytes_only names all (OfNumbers kind) e tt)
        where
          go : (x : Element) → IsBytes (OfNumbers x) → Within (element_range x) byte_range
          go Booleans of.booleans = booleans_below
          go Bytes of.bytes = within_refl byte_range
          go Shorts is = elim is [ ]
          go Ints is = elim is [ ]

  pub short_elements : (names : List (List ℕ)) → list_all (is_array_by 83) names ≡ true
      → ElementsLie (is_one_of l names) short_range
  short_elements names all kind e = go kind (shorts_only names all (OfNumbers kind) e tt)
    where
      go : (x : Element) → IsShorts (OfNumbers x) → Within (element_range x) short_range
      go Shorts of.shorts = within_refl short_range
      go Booleans is = elim is [ ]
      go Bytes is = elim is [ ]
      go Ints is = elim is [ ]

  -- an array of booleans is among those that a cell may hold
  pub may_be_booleans : (names : List (List ℕ)) → list_all (λ name. is_array_by 66 name || is_array_by 90 name) names
      ≡ true → is_one_of l names (OfNumbers Booleans) ≡ true → list_any is_boolean_array names ≡ true
  may_be_booleans names all e = numbers_of (λ name. is_array_by 66 name || is_array_by 90 name) names all
      (OfNumbers Booleans) e tt (λ k. list_any is_boolean_array names ≡ true) (λ name among passes below. ⊎_elim
      (λ is. (let same : OfNumbers Booleans ≡ OfNumbers Bytes = is_kind Bytes 66 refl (OfNumbers Booleans) tt name is
      below in cc))
      (λ is. any_in is_boolean_array names name is among)
      (or_cases (is_array_by 66 name) (is_array_by 90 name) passes))
    where
      any_in : (p : List ℕ → Bool) (names : List (List ℕ)) (n : List ℕ) → p n ≡ true → In n names
          → list_any p names ≡ true
      any_in p [] n e h = absurd h
      any_in p (x ∷ names) n e (inl same) = ap (λ b. b || list_any p names) (ap p same ∙ e)
      any_in p (x ∷ names) n e (inr later) = ap (λ b. p x || b) (any_in p names n e later) ∙ or_right (p x)
        where
          or_right : (b : Bool) → (b || true) ≡ true
          or_right true = refl
          or_right false = refl

-- a set that is cut off is known as less
pub refs_wider : (l : Named) (names : List (List ℕ)) (s : Span)
    → Wider (Refers (is_one_of l names)) (kind_of_cell l (refs names) s)
refs_wider l names s = go (nat_le (length names) most_names)
  where
    go : (b : Bool) → Wider (Refers (is_one_of l names)) (kind_of_cell l (if b then Refs names else Unusable) s)
    go true = more_types (λ kind e. e)
    go false = reference_free
