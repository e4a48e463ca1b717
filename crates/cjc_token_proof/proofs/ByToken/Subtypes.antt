-- What is a kind of what is the same by name and by token.
use Rattle.std.proofs.Common.{◌≡◌, ℕ, suc, ◌+◌, refl, sym, ap, subst, ◌∙◌, arith, Bool, true, false, List, [], ◌∷◌}
use Rattle.std.proofs.Common.{◌++◌, length, take, map, inl, inr, ⊎_elim}
use Rattle.std.specs.Prelude.{Option, Some, None, is_some, if◌then◌else◌, ◌&&◌, ◌||◌, ◌⊎◌, ◌-◌, not, flat_map}
use Rattle.std.specs.Prelude.{option_to_list, codes}
use Rattle.std.specs.List.{list_any}
use Rattle.std.specs.Str.{bytes_eq}
use Rattle.cjc_world.specs.ExportFile.declared.tree.ExportClass.{ExportClass}
use Rattle.cjc_script.specs.Sorts.{Element, Booleans, Bytes, Shorts, Ints, OfClass, OfNumbers, OfReferences, shape_name}
use Rattle.cjc_card_semantics.specs.Machine.Classes.{Own, External, Info, same_class, is_in, is_of, info_of}
use Rattle.cjc_card_semantics.specs.Machine.Classes.{info_supers, all_supers, class_of, external, external_named}
use Rattle.cjc_card_semantics.specs.Machine.Classes.{object_class, object_above, some_of, supers, is_kind_of, is_object}
use Rattle.cjc_card_semantics.specs.Machine.Classes as card
use Rattle.cjc_world.specs.Classes.{Class, class_named}
use Rattle.cjc_world.specs.Supertypes.{Lists, foremost, after, Above, directly, onwards, supertypes}
use Rattle.cjc_world.specs.Lookup.{object}
use Rattle.cjc_world.specs.Subtype.{is_subclass, is_subtype, is_element, array_is, element, starts}
use Rattle.cjc_world.proofs.Cycles.{From, tree-above}
use Rattle.cjc_world.proofs.Subtypes.{reaches}
use Rattle.cjc_ncode.specs.Lowering.Naming.{Naming, IsClass}
use Rattle.cjc_token_proof.specs.ByToken.Above.{IsAtOrAbove, itself, upwards}
use Rattle.cjc_token_proof.specs.ByToken.Supers.{has_class, IsToldOf, listed_there, above_each, SaysSupers, of_package}
use Rattle.cjc_token_proof.specs.ByToken.Supers.{of_file, SaysKinds, SaysSteps, IsAboveByName, KindsAgree}
use Rattle.cjc_token_proof.proofs.ByToken.Members.{bytes_tell}
use Rattle.cjc_card_semantics.proofs.MachineLaws.Upwards.{head_in, later_in, first_or_later, front_in, behind_in}
use Rattle.cjc_card_semantics.proofs.MachineLaws.Upwards.{either_in}
use Rattle.cjc_token_proof.proofs.ByToken.Above.{told_above, above_told}

abbrev CardClass : Type 0
CardClass = card.Class

-- ---- lists of names

module _ (n : Naming) where
  -- the classes of names that mean something
  named_in : (y : List ℕ) (ys : List (List ℕ)) → Lists y ys → is_in (n.class y) (map n.class ys) ≡ true
  named_in y [] i = elim i [ ]
  named_in y (_ ∷ ys) foremost = head_in (n.class y) (map n.class ys)
  named_in y (x ∷ ys) (after i) = later_in (n.class y) (n.class x) (map n.class ys) (named_in y ys i)

  from_named : (b : CardClass) (ys : List (List ℕ)) → is_in b (map n.class ys) ≡ true → (y : List ℕ) × Lists y ys
      × (n.class y ≡ b)
  from_named b [] e = cc
  from_named b (y ∷ ys) e = ⊎_elim (λ is. (y, foremost, sym is)) (λ h. let r = from_named b ys h
      in (r.0, after r.1, r.2)) (first_or_later b (n.class y) (map n.class ys) e)

  all_refs : (ys : List (List ℕ)) → ((y : List ℕ) → Lists y ys → IsClass n y)
      → some_of (map (class_of n.loaded n.part) (map n.class_ref ys)) ≡ map n.class ys
  all_refs [] h = refl
  all_refs (y ∷ ys) h =
      ap (λ o. option_to_list o ++ some_of (map (class_of n.loaded n.part) (map n.class_ref ys))) (h y foremost)
      ∙ ap (λ cs. n.class y ∷ cs) (all_refs ys (λ x i. h x (after i)))

  -- the names among some that some file has
  module _ (w : List Class) where
    all_files : (ys : List (List ℕ)) → ((y : List ℕ) → Lists y ys → external_named n.loaded y ≡ (if has_class w y
        then Some (n.class y) else None)) → (y : List ℕ) → Lists y ys → has_class w y ≡ true
        → is_in (n.class y) (some_of (map (external_named n.loaded) ys)) ≡ true
    all_files [] h y i is = elim i [ ]
    all_files (x ∷ ys) h _ foremost is =
        ap (λ o. is_in (n.class x) (option_to_list o ++ some_of (map (external_named n.loaded) ys))) (h x foremost
        ∙ ap (λ t. if t then Some (n.class x) else None) is)
        ∙ head_in (n.class x) (some_of (map (external_named n.loaded) ys))
    all_files (x ∷ ys) h y (after i) is = behind_in (n.class y) (option_to_list (external_named n.loaded x))
        (some_of (map (external_named n.loaded) ys)) (all_files ys (λ z j. h z (after j)) y i is)

    record FromFile (b : CardClass) (ys : List (List ℕ)) : Type 0 where
      name : List ℕ
      among : Lists name ys
      there : has_class w name ≡ true
      is : n.class name ≡ b

    from_files : (b : CardClass) (ys : List (List ℕ)) → ((y : List ℕ) → Lists y ys → external_named n.loaded y
        ≡ (if has_class w y then Some (n.class y) else None)) → is_in b (some_of (map (external_named n.loaded) ys))
        ≡ true → FromFile b ys
    from_files b [] h e = cc
    from_files b (x ∷ ys) h e = ⊎_elim
        (λ here. by (has_class w x) refl here)
        (λ more. let r = from_files b ys (λ z j. h z (after j)) more in record {
          name = r.name;
          among = after r.among;
          there = r.there;
          is = r.is;
        })
        (either_in b (option_to_list (external_named n.loaded x)) (some_of (map (external_named n.loaded) ys)) e)
      where
        by : (t : Bool) → has_class w x ≡ t → is_in b (option_to_list (external_named n.loaded x)) ≡ true
            → FromFile b (x ∷ ys)
        by true is f =
            let found : external_named n.loaded x ≡ Some (n.class x) = h x foremost
            ∙ ap (λ t. if t then Some (n.class x) else None) is in
            let g : is_in b (n.class x ∷ []) ≡ true = sym (ap (λ o. is_in b (option_to_list o)) found) ∙ f in
            ⊎_elim (λ same. record { name = x; among = foremost; there = is; is = sym same }) (λ no. cc)
            (first_or_later b (n.class x) [] g)
        by false is f =
            let found : external_named n.loaded x ≡ None = h x foremost ∙ ap (λ t. if t then Some (n.class x)
            else None) is in
            let g : is_in b [] ≡ true = sym (ap (λ o. is_in b (option_to_list o)) found) ∙ f in cc

-- ---- one step upwards

nothing_more : (b : CardClass) (cs : List CardClass) → is_in b (cs ++ []) ≡ is_in b cs
nothing_more b [] = refl
nothing_more b (c ∷ cs) = ap (λ t. same_class b c || t) (nothing_more b cs)

-- of a class of a package, by what its class_refs mean, and of one of an export file
module _ (w : List Class) (n : Naming) (top : object_class n.loaded ≡ Some (n.class object)) where
  module _ (x : List ℕ) (offset : ℕ) (info : Info) (listed : List (List ℕ)) (at : n.class x ≡ Own n.part offset)
      (there : info_of n.loaded n.part offset ≡ Some info) (refs : info_supers info ≡ map n.class_ref listed)
      (mean : (y : List ℕ) → Lists y listed → IsClass n y) where
    package_supers : supers n.loaded (n.class x) ≡ map n.class listed ++ object_above n.loaded (Some info)
    package_supers =
        ap (supers n.loaded) at
        ∙ (ap (λ o. some_of (map (class_of n.loaded n.part) (all_supers o)) ++ object_above n.loaded o) there
        ∙ (ap (λ rs. some_of (map (class_of n.loaded n.part) rs) ++ object_above n.loaded (Some info)) refs
        ∙ ap (λ cs. cs ++ object_above n.loaded (Some info)) (all_refs n listed mean)))

    pub up_in_package : (y : List ℕ) → IsToldOf n info listed y
        → is_in (n.class y) (supers n.loaded (n.class x)) ≡ true
    up_in_package y told = ap (is_in (n.class y)) package_supers ∙ by y told
      where
        by : (y : List ℕ) → IsToldOf n info listed y → is_in (n.class y) (map n.class listed
            ++ object_above n.loaded (Some info)) ≡ true
        by y (listed_there j) = front_in (n.class y) (map n.class listed) (object_above n.loaded (Some info))
            (named_in n y listed j)
        by _ (above_each e) = behind_in (n.class object) (map n.class listed) (object_above n.loaded (Some info))
            (ap (is_in (n.class object)) (e ∙ ap option_to_list top) ∙ head_in (n.class object) [])

    pub down_in_package : (b : CardClass) → ((y : List ℕ) → IsToldOf n info listed y → (has_class w y ≡ true)
        × Above w x y) → is_in b (supers n.loaded (n.class x)) ≡ true → IsAboveByName w n x b
    down_in_package b all e =
        ⊎_elim
        (λ h. let r = from_named n b listed h in let a = all r.0 (listed_there r.1) in record {
          name = r.0;
          there = a.0;
          is = r.2;
          above = a.1;
        })
        (λ h. by_object info all h)
        (either_in b (map n.class listed) (object_above n.loaded (Some info)) (sym (ap (is_in b) package_supers) ∙ e))
      where
        found : (info : Info) → ((y : List ℕ) → IsToldOf n info listed y → (has_class w y ≡ true) × Above w x y)
            → object_above n.loaded (Some info) ≡ option_to_list (object_class n.loaded)
            → is_in b (option_to_list (object_class n.loaded)) ≡ true → IsAboveByName w n x b
        found info all same h =
            let a = all object (above_each same) in
            let g : is_in b (n.class object ∷ []) ≡ true = sym (ap (λ o. is_in b (option_to_list o)) top) ∙ h in
            ⊎_elim (λ is. record { name = object; there = a.0; is = sym is; above = a.1 }) (λ no. cc)
            (first_or_later b (n.class object) [] g)

        by_object : (info : Info) → ((y : List ℕ) → IsToldOf n info listed y → (has_class w y ≡ true) × Above w x y)
            → is_in b (object_above n.loaded (Some info)) ≡ true → IsAboveByName w n x b
        by_object (card.IsInterface i) all h = found (card.IsInterface i) all refl h
        by_object (card.IsClass i) all h = cc

  module _ (x : List ℕ) (c : Class) (tree token : ℕ) (e : ExportClass) (at : n.class x ≡ External tree token)
      (there : external n.loaded tree token ≡ Some e) (supers_same : e.supers ≡ c.supers)
      (interfaces_same : e.interfaces ≡ c.interfaces)
      (named : (y : List ℕ) → Lists y (c.supers ++ c.interfaces) → external_named n.loaded y ≡ (if has_class w y
      then Some (n.class y) else None)) where
    file_supers : (b : CardClass) → is_in b (supers n.loaded (n.class x))
        ≡ is_in b (some_of (map (external_named n.loaded) (c.supers ++ c.interfaces)))
    file_supers b =
        ap (λ d. is_in b (supers n.loaded d)) at
        ∙ (ap (λ o. is_in b (flat_map (λ (d : ExportClass). some_of (map (external_named n.loaded) (d.supers
        ++ d.interfaces))) (option_to_list o))) there
        ∙ (nothing_more b (some_of (map (external_named n.loaded) (e.supers ++ e.interfaces)))
        ∙ (ap (λ ys. is_in b (some_of (map (external_named n.loaded) (ys ++ e.interfaces)))) supers_same
        ∙ ap (λ ys. is_in b (some_of (map (external_named n.loaded) (c.supers ++ ys)))) interfaces_same)))

    pub up_in_file : (y : List ℕ) → Lists y (c.supers ++ c.interfaces) → has_class w y ≡ true
        → is_in (n.class y) (supers n.loaded (n.class x)) ≡ true
    up_in_file y i is = file_supers (n.class y) ∙ all_files n w (c.supers ++ c.interfaces) named y i is

    pub down_in_file : (b : CardClass) → class_named w x ≡ Some c → is_in b (supers n.loaded (n.class x)) ≡ true
        → IsAboveByName w n x b
    down_in_file b known h =
        let r = from_files n w b (c.supers ++ c.interfaces) named (sym (file_supers b) ∙ h) in
        record { name = r.name; there = r.there; is = r.is; above = directly c known r.among }

module _ (w : List Class) (n : Naming) (says : SaysKinds w n) where
  -- what a class lists stands above it on the card
  supers_in : (x : List ℕ) (c : Class) (y : List ℕ) → SaysSupers w n x c → Lists y (c.supers ++ c.interfaces)
      → has_class w y ≡ true → is_in (n.class y) (supers n.loaded (n.class x)) ≡ true
  supers_in x c y (of_package offset info listed at there refs all each) i is =
      up_in_package w n says.object_class x offset info listed at there refs
      (λ z j. says.class_ref z (all z (listed_there j)).0) y (each y i is)
  supers_in x c y (of_file tree token e at there s f named) i is =
      up_in_file w n says.object_class x c tree token e at there s f named y i is

  -- what stands directly above a class on the card stands above it by name
  pub supers_from : (x : List ℕ) (c : Class) (b : CardClass) → class_named w x ≡ Some c → SaysSupers w n x c
      → is_in b (supers n.loaded (n.class x)) ≡ true → IsAboveByName w n x b
  supers_from x c b known (of_package offset info listed at there refs all each) h =
      down_in_package w n says.object_class x offset info listed at there refs
      (λ z j. says.class_ref z (all z (listed_there j)).0) b all h
  supers_from x c b known (of_file tree token e at there s f named) h =
      down_in_file w n says.object_class x c tree token e at there s f named b known h

  says_steps : SaysSteps w n
  says_steps = record {
    object_there = says.object_there;
    object_class = says.object_class;
    once = says.once;
    no_array = says.no_array;
    up = λ x y c e i is. supers_in x c y (says.supers x c e) i is;
    down = λ x c b e h. supers_from x c b e (says.supers x c e) h;
  }

-- ---- all steps

module _ (w : List Class) (n : Naming) (says : SaysSteps w n) where
  found_class : (x : List ℕ) → has_class w x ≡ true → (c : Class) × (class_named w x ≡ Some c)
  found_class x e = by (class_named w x) refl e
    where
      by : (o : Option Class) → class_named w x ≡ o → is_some o ≡ true → (c : Class) × (class_named w x ≡ Some c)
      by None h is = cc
      by (Some c) h is = (c, h)

  first_class : (x y : List ℕ) → Above w x y → has_class w x ≡ true
  first_class x y (directly c e i) = ap is_some e
  first_class x y (onwards c e i more) = ap is_some e

  to_card : (x y : List ℕ) → Above w x y → has_class w y ≡ true → IsAtOrAbove n.loaded (n.class x) (n.class y)
  to_card x y (directly c e i) is = upwards (says.up x y c e i is) itself
  to_card x y (onwards {y = z} c e i more) is = upwards (says.up x z c e i (first_class z y more)) (to_card z y more is)

  trans : (x y z : List ℕ) → Above w x y → Above w y z → Above w x z
  trans x y z (directly c e i) far = onwards c e i far
  trans x y z (onwards {y = m} c e i rest) far = onwards c e i (trans m y z rest far)

  from_card : (a d : CardClass) (x y : List ℕ) → IsAtOrAbove n.loaded a d → a ≡ n.class x → d ≡ n.class y
      → has_class w x ≡ true → has_class w y ≡ true → (x ≡ y) ⊎ Above w x y
  from_card a _ x y itself at to is there = inl (says.once x y is there (sym at ∙ to))
  from_card a d x y (upwards {b = b} direct more) at to is there =
      let c = found_class x is in
      let r = says.down x c.0 b c.1 (ap (λ e. is_in b (supers n.loaded e)) (sym at) ∙ direct) in
      ⊎_elim (λ same. inr (subst (Above w x) same r.above)) (λ far. inr (trans x r.name y r.above far))
      (from_card b d r.name y more (sym r.is) to r.there there)

  -- a name in the tree is the name, or stands above it
  subclass_above : (x y : List ℕ) → is_subclass w x y ≡ true → (x ≡ y) ⊎ Above w x y
  unfolding is_subclass supertypes From
  subclass_above x y e = by (tree-above w (suc (length w)) y (x ∷ []) e)
    where
      by : (z : List ℕ) × Lists z (x ∷ []) × ((z ≡ y) ⊎ Above w z y) → (x ≡ y) ⊎ Above w x y
      by (z, foremost, way) = way
      by (z, after i, way) = elim i [ ]

  above_subclass : (x y : List ℕ) → (x ≡ y) ⊎ Above w x y → is_subclass w x y ≡ true
  unfolding is_subclass
  above_subclass x y way = reaches w x y way

  pub kind_same : (x y : List ℕ) → has_class w x ≡ true → has_class w y ≡ true
      → is_kind_of n.loaded (n.class x) (n.class y) ≡ is_subclass w x y
  kind_same x y is there = by (is_kind_of n.loaded (n.class x) (n.class y)) (is_subclass w x y) up down
    where
      up : is_kind_of n.loaded (n.class x) (n.class y) ≡ true → is_subclass w x y ≡ true
      up e = above_subclass x y (from_card (n.class x) (n.class y) x y (told_above n.loaded (n.class x) (n.class y) e)
          refl refl is there)

      down : is_subclass w x y ≡ true → is_kind_of n.loaded (n.class x) (n.class y) ≡ true
      down e = above_told n.loaded (n.class x) (n.class y)
          (⊎_elim (λ same. subst (λ z. IsAtOrAbove n.loaded (n.class x) (n.class z)) same itself)
          (λ far. to_card x y far there) (subclass_above x y e))

      by : (s t : Bool) → (s ≡ true → t ≡ true) → (t ≡ true → s ≡ true) → s ≡ t
      by true t f g = sym (f refl)
      by false true f g = g refl
      by false false f g = refl

  -- ---- arrays

  or_nothing : (t : Bool) → (t || false) ≡ t
  or_nothing true = refl
  or_nothing false = refl

  object_same : (d : List ℕ) → has_class w d ≡ true → is_object n.loaded (n.class d) ≡ is_subclass w object d
  object_same d is = ap (λ o. list_any (λ c. is_kind_of n.loaded c (n.class d)) (option_to_list o)) says.object_class
      ∙ (or_nothing (is_kind_of n.loaded (n.class object) (n.class d)) ∙ kind_same object d says.object_there is)

  front_taken : (c d : List ℕ) → take (length c) (c ++ d) ≡ c
  front_taken [] d = refl
  front_taken (b ∷ c) d = ap (λ x. b ∷ x) (front_taken c d)

  one_behind : (c : List ℕ) → length (c ++ codes ";") ≡ length c + 1
  one_behind [] = refl
  one_behind (b ∷ c) = let h = one_behind c in omega (arith, h)

  inner_name : (c : List ℕ) → take (length (c ++ codes ";") - 1) (c ++ codes ";") ≡ c
  inner_name c =
      let h = one_behind c in
      let e : length (c ++ codes ";") - 1 ≡ length c = omega (arith, h) in
      ap (λ k. take k (c ++ codes ";")) e ∙ front_taken c (codes ";")

  array_of_class : (a : List ℕ) (d : List ℕ) → starts 91 a ≡ true → starts 91 d ≡ false
      → is_subtype w a d ≡ is_subclass w object d
  unfolding is_subtype
  array_of_class a d array class =
      ap (λ t. if t then (if starts 91 d then is_element w (element a) (element d) else array_is w d)
      else (not (starts 91 d) && is_subclass w a d)) array
      ∙ ap (λ t. if t then is_element w (element a) (element d) else array_is w d) class

  references_same : (c d : List ℕ) → is_subtype w (shape_name (OfReferences c)) (shape_name (OfReferences d))
      ≡ is_subclass w c d
  unfolding is_subtype is_element
  references_same c d =
      ap (λ x. bytes_eq (c ++ codes ";") (d ++ codes ";") || is_subclass w x (take (length (d ++ codes ";") - 1) (d
      ++ codes ";"))) (inner_name c)
      ∙ (ap (λ x. bytes_eq (c ++ codes ";") (d ++ codes ";") || is_subclass w c x) (inner_name d)
      ∙ by (bytes_eq (c ++ codes ";") (d ++ codes ";")) refl)
    where
      by : (t : Bool) → bytes_eq (c ++ codes ";") (d ++ codes ";") ≡ t → (t || is_subclass w c d) ≡ is_subclass w c d
      by false e = refl
      by true e =
          let same : c ≡ d = sym (inner_name c) ∙ (ap (λ x. take (length x - 1) x) (bytes_tell (c ++ codes ";") (d
          ++ codes ";") e) ∙ inner_name d) in
          sym (above_subclass c d (inl same))

  numbers_same : (a b : Element) → is_of n.loaded (OfNumbers a) (OfNumbers b) ≡ is_subtype w (shape_name (OfNumbers a))
      (shape_name (OfNumbers b))
  unfolding is_subtype is_element
  numbers_same Booleans Booleans = refl
  numbers_same Booleans Bytes = refl
  numbers_same Booleans Shorts = refl
  numbers_same Booleans Ints = refl
  numbers_same Bytes Booleans = refl
  numbers_same Bytes Bytes = refl
  numbers_same Bytes Shorts = refl
  numbers_same Bytes Ints = refl
  numbers_same Shorts Booleans = refl
  numbers_same Shorts Bytes = refl
  numbers_same Shorts Shorts = refl
  numbers_same Shorts Ints = refl
  numbers_same Ints Booleans = refl
  numbers_same Ints Bytes = refl
  numbers_same Ints Shorts = refl
  numbers_same Ints Ints = refl

  class_of_class : (c d : List ℕ) → starts 91 c ≡ false → starts 91 d ≡ false → is_subtype w c d ≡ is_subclass w c d
  unfolding is_subtype
  class_of_class c d e f =
      ap (λ t. if t then (if starts 91 d then is_element w (element c) (element d) else array_is w d)
      else (not (starts 91 d) && is_subclass w c d)) e
      ∙ ap (λ t. not t && is_subclass w c d) f

  class_of_array : (c a : List ℕ) → starts 91 c ≡ false → starts 91 a ≡ true → is_subtype w c a ≡ false
  unfolding is_subtype
  class_of_array c a e f =
      ap (λ t. if t then (if starts 91 a then is_element w (element c) (element a) else array_is w a)
      else (not (starts 91 a) && is_subclass w c a)) e
      ∙ ap (λ t. not t && is_subclass w c a) f

  numbers_are_none : (a : Element) (d : List ℕ) → is_subtype w (shape_name (OfNumbers a)) (shape_name (OfReferences d))
      ≡ false
  unfolding is_subtype is_element
  numbers_are_none Booleans d = refl
  numbers_are_none Bytes d = refl
  numbers_are_none Shorts d = refl
  numbers_are_none Ints d = refl

  none_are_numbers : (c : List ℕ) (b : Element) → is_subtype w (shape_name (OfReferences c)) (shape_name (OfNumbers b))
      ≡ false
  unfolding is_subtype is_element
  none_are_numbers c Booleans = refl
  none_are_numbers c Bytes = refl
  none_are_numbers c Shorts = refl
  none_are_numbers c Ints = refl

  numbers_are_arrays : (a : Element) → starts 91 (shape_name (OfNumbers a)) ≡ true
  numbers_are_arrays Booleans = refl
  numbers_are_arrays Bytes = refl
  numbers_are_arrays Shorts = refl
  numbers_are_arrays Ints = refl

  pub steps_agree : KindsAgree w n
  steps_agree (OfClass c) (OfClass d) is there = kind_same c d is there
      ∙ sym (class_of_class c d (says.no_array c is) (says.no_array d there))
  steps_agree (OfClass c) (OfNumbers b) is there = sym (class_of_array c (shape_name (OfNumbers b)) (says.no_array c is)
      (numbers_are_arrays b))
  steps_agree (OfClass c) (OfReferences d) is there =
      sym (class_of_array c (shape_name (OfReferences d)) (says.no_array c is) refl)
  steps_agree (OfNumbers a) (OfNumbers b) is there = numbers_same a b
  steps_agree (OfNumbers a) (OfClass d) is there = object_same d there
      ∙ sym (array_of_class (shape_name (OfNumbers a)) d (numbers_are_arrays a) (says.no_array d there))
  steps_agree (OfNumbers a) (OfReferences d) is there = sym (numbers_are_none a d)
  steps_agree (OfReferences c) (OfReferences d) is there = kind_same c d is there ∙ sym (references_same c d)
  steps_agree (OfReferences c) (OfClass d) is there = object_same d there
      ∙ sym (array_of_class (shape_name (OfReferences c)) d refl (says.no_array d there))
  steps_agree (OfReferences c) (OfNumbers b) is there = sym (none_are_numbers c b)

pub kinds_agree : (w : List Class) (n : Naming) → SaysKinds w n → KindsAgree w n
kinds_agree w n says = steps_agree w n (says_steps w n says)
