-- Where 403 is not broken, a class has at most 15 interfaces and an interface at most 14 superinterfaces: each is
-- listed by it or by a class or interface above it.
use Rattle.std.proofs.Common.{◌≡◌, ℕ, suc, ◌≤◌, refl, sym, ap, subst, ◌∙◌, arith, Bool, true, false, List, [], ◌∷◌}
use Rattle.std.proofs.Common.{◌++◌, length, map, flat_map, not, Option, Some, None, inl, inr, ⊎_elim}
use Rattle.std.specs.Prelude.{◌&&◌, ◌||◌, ◌⊎◌, option_to_list, slice_get, if◌then◌else◌}
use Rattle.std.specs.List.{list_any}
use Rattle.std.specs.Str.{bytes_eq}
use Rattle.cjc_bytes.specs.AccessFlags.{is_interface}
use Rattle.cjc_bytes.proofs.Lists.{name_is, bytes_true}
use Rattle.cjc_world.specs.ClassFile.declared.tree.ClassTree.{ClassTree}
use Rattle.cjc_world.specs.ExportFile.declared.tree.ExportClass.{ExportClass}
use Rattle.cjc_world.specs.ExportFile.declared.tree.ExportTree.{ExportTree}
use Rattle.cjc_components.specs.Class.{interfaces_of}
use Rattle.cjc_classes.specs.ClassOrder.Supers.Supers.{interfaces}
use Rattle.cjc_classes.specs.Subset.Limits.{listed_above, listed_by_declared, listed_by_imported, listed_names, noted}
use Rattle.cjc_classes.specs.Subset.Members.{imports}
use Rattle.cjc_narrow_proof.proofs.LawsLaws.Own.{class_by_name}
use Rattle.cjc_check_proof.proofs.WorldProofRules.{listed_interface}
use Rattle.cjc_check_proof.proofs.TokenProofClean.{has_named}
use Rattle.cjc_check_proof.proofs.TokenProofFiled.{import_filed, own_filed, has-front}
use Rattle.cjc_classes.specs.ClassOrder.Classes.Numbers.{class_count}
use Rattle.cjc_check_proof.specs.TokenProof.Tables.Sound.{export_count}
use Rattle.cjc_world.specs.Rules.{breaks}
use Rattle.cjc_tokens.specs.Methods.{interfaces_at}
use Rattle.cjc_world.proofs.UpwardLaws.Lines.{below_subclass}
use Rattle.cjc_vtable.proofs.Filed.{Has, at_front, behind, get-has, of-imports, has-either}
use Rattle.cjc_world.specs.Classes.{Class, all_classes, class_named, declared, imported}
use Rattle.cjc_world.specs.Files.{Files}
use Rattle.cjc_world.specs.Interfaces.{Interface, each_once, gathered, is_among, known, where_listed}
use Rattle.cjc_world.specs.Supertypes.{Above, End, IsAcyclic, AreSupertypes, Supertypes, Known, Lists, Unknown, after}
use Rattle.cjc_world.specs.Supertypes.{directly, ends, foremost, supertypes, known_here, onwards, unknown_here}
use Rattle.cjc_world.specs.Subtype.{is_subclass}
use Rattle.cjc_world.proofs.Settled.{lists-front, lists-behind}
use Rattle.cjc_shape_proof.proofs.WrittenLaws.FittingLaws.Lists.{Apart, sum_within}
use Rattle.cjc_shape_proof.proofs.WrittenLaws.FittingLaws.Order.{has_cons, has_none, ones}
use Rattle.cjc_check_proof.proofs.ClassesLaws.Lists.{has-back, has-flat}

-- ---- lists

listed_has : (x : List ℕ) (xs : List (List ℕ)) → Lists x xs → Has x xs
listed_has x [] l = elim l [ ]
listed_has x (y ∷ xs) foremost = at_front
listed_has x (y ∷ xs) (after l) = behind (listed_has x xs l)

-- ---- names that are noted once

noted_known : (before xs : List (List ℕ)) (x : List ℕ) → Has x before → Has x (noted before xs)
unfolding noted
noted_known before [] x h = h
noted_known before (y ∷ xs) x h = noted_known (if list_any (λ z. bytes_eq z y) before then before else before
    ++ y ∷ []) xs x (by (list_any (λ z. bytes_eq z y) before))
  where
    by : (b : Bool) → Has x (if b then before else before ++ y ∷ [])
    by true = h
    by false = has-front x before (y ∷ []) h

any_has : (y : List ℕ) (before : List (List ℕ)) → list_any (λ z. bytes_eq z y) before ≡ true → Has y before
any_has y [] e = cc
any_has y (x ∷ before) e = by (bytes_eq x y) refl e (any_has y before)
  where
    by : (b : Bool) → bytes_eq x y ≡ b → (b || list_any (λ z. bytes_eq z y) before) ≡ true
        → (list_any (λ z. bytes_eq z y) before ≡ true → Has y before) → Has y (x ∷ before)
    by true f g rest = subst (λ z. Has z (x ∷ before)) (bytes_true x y f) at_front
    by false f g rest = behind (rest g)

noted_has : (before xs : List (List ℕ)) (x : List ℕ) → Has x xs → Has x (noted before xs)
unfolding noted
noted_has before [] x h = has_none x h
noted_has before (y ∷ xs) x h =
    ⊎_elim
    (λ same. noted_known (if list_any (λ z. bytes_eq z y) before then before else before
    ++ y ∷ []) xs x (by (list_any (λ z. bytes_eq z y) before) refl same))
    (λ g. noted_has (if list_any (λ z. bytes_eq z y) before then before else before ++ y ∷ []) xs x g)
    (has_cons x y xs h)
  where
    by : (b : Bool) → list_any (λ z. bytes_eq z y) before ≡ b → x ≡ y → Has x (if b then before else before ++ y ∷ [])
    by true e same = subst (λ z. Has z before) (sym same) (any_has y before e)
    by false e same = has-back x before (y ∷ []) (subst (λ z. Has x (z ∷ [])) same at_front)

-- ---- interfaces that stand once

names_of : List Interface → List (List ℕ)
names_of is = map (λ (i : Interface). i.name) is

name_has : (is : List Interface) (x : List ℕ) → Has x (names_of is) → (i : Interface) × Has i is × (i.name ≡ x)
unfolding names_of
name_has [] x h = has_none x h
name_has (i ∷ is) x h = ⊎_elim (λ same. (i, at_front, sym same)) (λ g. let r = name_has is x g
    in (r.0, behind r.1, r.2)) (has_cons x i.name (names_of is) h)

among_front : (a : List Interface) (i j : Interface) → is_among (a ++ i ∷ []) j.name ≡ false
    → (is_among a j.name ≡ false) × (bytes_eq i.name j.name ≡ false)
among_front [] i j e = (refl, first (bytes_eq i.name j.name) e)
  where
    first : (b : Bool) → (b || false) ≡ false → b ≡ false
    first true e = cc
    first false e = refl
among_front (k ∷ a) i j e = by (bytes_eq k.name j.name) e (among_front a i j)
  where
    by : (b : Bool) → (b || is_among (a ++ i ∷ []) j.name) ≡ false → (is_among (a ++ i ∷ []) j.name ≡ false
        → (is_among a j.name ≡ false) × (bytes_eq i.name j.name ≡ false)) → ((b || is_among a j.name) ≡ false)
        × (bytes_eq i.name j.name ≡ false)
    by true f rest = cc
    by false f rest = rest f

-- those that are kept have other names than those before
once_new : (before is : List Interface) (j : Interface) → Has j (each_once before is) → (is_among before j.name ≡ false)
    × Has j is
once_new before [] j h = has_none j h
once_new before (i ∷ is) j h = by (is_among before i.name) refl h (once_new before is j) (once_new (before
    ++ i ∷ []) is j)
  where
    here : is_among before i.name ≡ false → Has j (i ∷ each_once (before ++ i ∷ []) is)
        → (Has j (each_once (before ++ i ∷ []) is) → (is_among (before ++ i ∷ []) j.name ≡ false) × Has j is)
        → (is_among before j.name ≡ false) × Has j (i ∷ is)
    here e g new =
        ⊎_elim
        (λ same. (
          subst (λ (k : Interface). is_among before k.name ≡ false) (sym same) e,
          subst (λ (k : Interface). Has k (i ∷ is)) (sym same) at_front,
        ))
        (λ later. let r = new later in ((among_front before i j r.0).0, behind r.1))
        (has_cons j i (each_once (before ++ i ∷ []) is) g)

    by : (b : Bool) → is_among before i.name ≡ b → Has j (if b then each_once before is else i ∷ each_once (before
        ++ i ∷ []) is)
        → (Has j (each_once before is) → (is_among before j.name ≡ false) × Has j is)
        → (Has j (each_once (before ++ i ∷ []) is) → (is_among (before ++ i ∷ []) j.name ≡ false) × Has j is)
        → (is_among before j.name ≡ false) × Has j (i ∷ is)
    by true e g old new = let r = old g in (r.0, behind r.1)
    by false e g old new = here e g new

once_apart : (before is : List Interface) → Apart (names_of (each_once before is))
unfolding Apart names_of
once_apart before [] = tt
once_apart before (i ∷ is) = by (is_among before i.name) (once_apart before is) (once_apart (before ++ i ∷ []) is)
  where
    other : Has i.name (names_of (each_once (before ++ i ∷ []) is)) → ⊥
    other h =
        let r = name_has (each_once (before ++ i ∷ []) is) i.name h in
        let n = once_new (before ++ i ∷ []) is r.0 r.1 in
        let differs = (among_front before i r.0 n.0).1 in
        let equal : bytes_eq i.name r.0.name ≡ true = ap (bytes_eq i.name) r.2 ∙ name_is i.name in
        clash (bytes_eq i.name r.0.name) equal differs
      where
        clash : (b : Bool) → b ≡ true → b ≡ false → ⊥
        clash true e f = cc
        clash false e f = cc

    by : (b : Bool) → Apart (names_of (each_once before is)) → Apart (names_of (each_once (before ++ i ∷ []) is))
        → Apart (names_of (if b then each_once before is else i ∷ each_once (before ++ i ∷ []) is))
    by true old new = old
    by false old new = (other, new)

known_few : (is : List Interface) → length (known is) ≤ length (names_of is)
unfolding known names_of
known_few [] = let z : 0 ≤ 0 = omega arith in z
known_few (i ∷ is) = by i.class (known_few is)
  where
    by : (o : Option Class) → length (known is) ≤ length (names_of is)
        → length (option_to_list o ++ known is) ≤ suc (length (names_of is))
    by None le = omega (arith, le)
    by (Some c) le = omega (arith, le)

-- ---- who lists one

module _ (list : List ℕ) (files : Files) (own_listed : length files.classes ≤ class_count files.lines) (imports_listed :
    length files.exports ≤ export_count files.lines) (unbroken : breaks list files ≡ [])
    (acyclic : IsAcyclic (all_classes files)) (are_supertypes : (xs : List (List ℕ))
    → AreSupertypes (all_classes files) xs (supertypes (all_classes files) xs)) where
  abbrev w : List Class
  w = all_classes files

  -- a class or interface that stands above the first, or is it, lists the name among its interfaces
  abbrev IsListed : (xs : List (List ℕ)) → (name : List ℕ) → Type 0
  IsListed xs name = (x : List ℕ) × (y : List ℕ) × (d : Class) × Lists x xs × ((x ≡ y) ⊎ Above w x y)
      × (class_named w y ≡ Some d) × Lists name d.interfaces

  further : (xs : List (List ℕ)) (c : Class) (x name : List ℕ) (ys : List (List ℕ)) → class_named w x ≡ Some c
      → Lists x xs → ((y : List ℕ) → Lists y ys → Lists y (c.supers ++ c.interfaces)) → IsListed ys name
      → IsListed xs name
  further xs c x name ys e l up i = (
    x,
    i.1,
    i.2,
    l,
    inr (⊎_elim (λ same. subst (λ y. Above w x y) same (directly c e (up i.0 i.3)))
        (λ above. onwards c e (up i.0 i.3) above) i.4),
    i.5,
    i.6,
  )

  later : (x : List ℕ) (xs : List (List ℕ)) (name : List ℕ) → IsListed xs name → IsListed (x ∷ xs) name
  later x xs name i = (i.0, i.1, i.2, after i.3, i.4, i.5, i.6)

  named_as : (cs : List Class) (x : List ℕ) (c : Class) → class_named cs x ≡ Some c → c.name ≡ x
  unfolding class_named
  named_as [] x c e = cc
  named_as (b ∷ cs) x c e = by (bytes_eq b.name x) refl e (named_as cs x c)
    where
      by : (q : Bool) → bytes_eq b.name x ≡ q → (if q then Some b else class_named cs x) ≡ Some c
          → (class_named cs x ≡ Some c → c.name ≡ x) → c.name ≡ x
      by true f g rest = let is : b ≡ c = cc in ap (λ (y : Class). y.name) (sym is) ∙ bytes_true b.name x f
      by false f g rest = rest g

  -- each gathered interface is one of the names themselves, where these are interfaces, or is listed
  gathered_listed : (listed : Bool) (xs : List (List ℕ)) (k : Supertypes) (j : Interface) → AreSupertypes w xs k
      → Has j (gathered listed k) → ((listed ≡ true) × Lists j.name xs) ⊎ IsListed xs j.name
  unfolding gathered
  gathered_listed listed xs End j ends h = has_none j h
  gathered_listed listed xs (Unknown x next) j (unknown_here {xs = rest} e n) h =
      ⊎_elim
      (λ g. inl (here listed g))
      (λ g. ⊎_elim (λ r. inl (r.0, after r.1)) (λ i. inr (later x rest j.name i)) (gathered_listed listed rest next j n
      g))
      (has-either j (where_listed listed (record { name = x; class = None })) (gathered listed next) h)
    where
      here : (b : Bool) → Has j (where_listed b (record { name = x; class = None })) → (b ≡ true)
          × Lists j.name (x ∷ rest)
      here true g = ⊎_elim (λ same. (refl, subst (λ (i : Interface). Lists i.name (x ∷ rest)) (sym same) foremost))
          (λ later. has_none j later) (has_cons j (record { name = x; class = None }) [] g)
      here false g = has_none j g
  gathered_listed listed xs (Known c supers interfaces next) j (known_here {x = x} {xs = rest} e s i n) h =
      let A = gathered false supers in
      let B = gathered true interfaces in
      let C = where_listed listed (record { name = c.name; class = Some c }) in
      let D = gathered listed next in
      first A B C D (gathered_listed false c.supers supers j s) (gathered_listed true c.interfaces interfaces j i)
      (gathered_listed listed rest next j n) h
    where
      here : (b : Bool) → Has j (where_listed b (record { name = c.name; class = Some c })) → (b ≡ true)
          × Lists j.name (x ∷ rest)
      here true g = ⊎_elim (λ same. (
        refl,
        subst (λ (i : Interface). Lists i.name (x ∷ rest)) (sym same)
            (subst (λ y. Lists y (x ∷ rest)) (sym (named_as w x c e)) foremost),
      )) (λ later. has_none j later)
          (has_cons j (record { name = c.name; class = Some c }) [] g)
      here false g = has_none j g

      never : {B : Type 0} → false ≡ true → B
      never f = cc

      first : (A B C D : List Interface) → (Has j A → ((false ≡ true) × Lists j.name c.supers)
          ⊎ IsListed c.supers j.name) → (Has j B → ((true ≡ true) × Lists j.name c.interfaces)
          ⊎ IsListed c.interfaces j.name)
          → (Has j D → ((listed ≡ true) × Lists j.name rest) ⊎ IsListed rest j.name)
          → Has j (A ++ B ++ where_listed listed (record { name = c.name; class = Some c }) ++ D)
          → ((listed ≡ true) × Lists j.name (x ∷ rest)) ⊎ IsListed (x ∷ rest) j.name
      first A B C D a b d g =
          ⊎_elim
          (λ abc. ⊎_elim
          (λ ab. ⊎_elim
          (λ h. ⊎_elim (λ r. never r.0) (λ i. inr (further (x ∷ rest) c x j.name c.supers e foremost
          (λ y l. lists-front y c.supers c.interfaces l) i)) (a h))
          (λ h. ⊎_elim (λ r. inr (x, x, c, foremost, inl refl, e, r.1))
          (λ i. inr (further (x ∷ rest) c x j.name c.interfaces e foremost (λ y l. lists-behind y c.supers
          c.interfaces l) i)) (b h))
          (has-either j A B ab))
          (λ h. inl (here listed h))
          (has-either j (A ++ B) (where_listed listed (record { name = c.name; class = Some c })) abc))
          (λ h. ⊎_elim (λ r. inl (r.0, after r.1)) (λ i. inr (later x rest j.name i)) (d h))
          (has-either j (A ++ B ++ where_listed listed (record { name = c.name; class = Some c })) D g)

  -- what is gathered and some file has is an interface
  abbrev AreInterfaces : Bool → List (List ℕ) → Type 0
  AreInterfaces listed xs = listed ≡ true → (y : List ℕ) (c : Class) → Lists y xs → class_named w y ≡ Some c
      → is_interface c.flags ≡ true

  gathered_interface : (listed : Bool) (xs : List (List ℕ)) (k : Supertypes) (j : Interface) (d : Class)
      → AreSupertypes w xs k → AreInterfaces listed xs → Has j (gathered listed k) → j.class ≡ Some d
      → (is_interface d.flags ≡ true) × ((x : List ℕ) × (class_named w x ≡ Some d))
  unfolding gathered
  gathered_interface listed xs End j d ends all h f = has_none j h
  gathered_interface listed xs (Unknown x next) j d (unknown_here {xs = rest} e n) all h f =
      ⊎_elim
      (λ g. here listed g)
      (λ g. gathered_interface listed rest next j d n (λ is y c l. all is y c (after l)) g f)
      (has-either j (where_listed listed (record { name = x; class = None })) (gathered listed next) h)
    where
      clash : None ≡ Some d → ⊥
      clash e = cc

      here : (b : Bool) → Has j (where_listed b (record { name = x; class = None })) → (is_interface d.flags ≡ true)
          × ((x : List ℕ) × (class_named w x ≡ Some d))
      here true g = ⊎_elim (λ same. absurd (clash (sym (ap (λ (i : Interface). i.class) same) ∙ f)))
          (λ later. has_none j later) (has_cons j (record { name = x; class = None }) [] g)
      here false g = has_none j g
  gathered_interface listed xs (Known c supers interfaces next) j d (known_here {x = x} {xs = rest} e s i n) all h f =
      ⊎_elim
      (λ abc. ⊎_elim
      (λ ab. ⊎_elim
      (λ g. gathered_interface false c.supers supers j d s (λ is y v l. never is) g f)
      (λ g. gathered_interface true c.interfaces interfaces j d i (λ is y v l m. listed_interface list files unbroken x
      y c v e l m) g f)
      (has-either j (gathered false supers) (gathered true interfaces) ab))
      (λ g. here listed refl g f)
      (has-either j (gathered false supers ++ gathered true interfaces) (where_listed listed (record {
        name = c.name;
        class = Some c;
      })) abc))
      (λ g. gathered_interface listed rest next j d n (λ is y v l. all is y v (after l)) g f)
      (has-either j (gathered false supers ++ gathered true interfaces ++ where_listed listed (record {
        name = c.name;
        class = Some c;
      })) (gathered listed next) h)
    where
      never : {B : Type 0} → false ≡ true → B
      never f = cc

      itself : Some c ≡ Some d → listed ≡ true → (is_interface d.flags ≡ true)
          × ((x : List ℕ) × (class_named w x ≡ Some d))
      itself is g =
          let same : c ≡ d = cc in (
            ap (λ (v : Class). is_interface v.flags) (sym same) ∙ all g x c foremost e,
            (x, e ∙ ap (λ (v : Class). Some v) same),
          )

      here : (b : Bool) → listed ≡ b → Has j (where_listed b (record { name = c.name; class = Some c }))
          → j.class ≡ Some d → (is_interface d.flags ≡ true) × ((x : List ℕ) × (class_named w x ≡ Some d))
      here true g h is = ⊎_elim (λ same. itself (sym (ap (λ (i : Interface). i.class) same) ∙ is) g)
          (λ later. has_none j later) (has_cons j (record { name = c.name; class = Some c }) [] h)
      here false g h is = has_none j h

  known_has : (is : List Interface) (d : Class) → Has d (known is) → (j : Interface) × Has j is × (j.class ≡ Some d)
  unfolding known
  known_has [] d h = has_none d h
  known_has (i ∷ is) d h = by i.class refl h (known_has is d)
    where
      one : (c : Class) → i.class ≡ Some c → Has d (c ∷ known is) → (Has d (known is) → (j : Interface) × Has j is
          × (j.class ≡ Some d)) → (j : Interface) × Has j (i ∷ is) × (j.class ≡ Some d)
      one c e g rest = ⊎_elim (λ same. (i, at_front, e ∙ ap (λ (v : Class). Some v) (sym same))) (λ later. let r = rest
          later in (r.0, behind r.1, r.2)) (has_cons d c (known is) g)

      by : (o : Option Class) → i.class ≡ o → Has d (option_to_list o ++ known is) → (Has d (known is) → (j : Interface)
          × Has j is × (j.class ≡ Some d)) → (j : Interface) × Has j (i ∷ is) × (j.class ≡ Some d)
      by None e g rest = let r = rest g in (r.0, behind r.1, r.2)
      by (Some c) e g rest = one c e g rest

  -- what is gathered for a class
  at_gathered : (x : List ℕ) (c : Class) (j : Interface) (d : Class) → class_named w x ≡ Some c
      → Has j (gathered false (supertypes w c.supers) ++ gathered true (supertypes w c.interfaces)) → j.class ≡ Some d
      → (is_interface d.flags ≡ true) × ((y : List ℕ) × (class_named w y ≡ Some d))
  at_gathered x c j d e h f =
      ⊎_elim
      (λ g. gathered_interface false c.supers (supertypes w c.supers) j d (are_supertypes c.supers)
      (λ is y v l. never is) g f)
      (λ g. gathered_interface true c.interfaces (supertypes w c.interfaces) j d (are_supertypes c.interfaces)
      (λ is y v l m. listed_interface list files unbroken x y c v e l m) g f)
      (has-either j (gathered false (supertypes w c.supers)) (gathered true (supertypes w c.interfaces)) h)
    where
      never : {B : Type 0} → false ≡ true → B
      never f = cc

  -- the interfaces of a class or interface are interfaces
  pub are_interfaces : (x : List ℕ) (c d : Class) → class_named w x ≡ Some c → Has d (interfaces_of w c)
      → (is_interface d.flags ≡ true) × ((y : List ℕ) × (class_named w y ≡ Some d))
  unfolding interfaces_at
  are_interfaces x c d e h =
      let all = gathered false (supertypes w c.supers) ++ gathered true (supertypes w c.interfaces) in
      let r = known_has (each_once [] all) d h in
      at_gathered x c r.0 d e (once_new [] all r.0 r.1).1 r.2

  -- so are those whose methods a class may get
  pub are_asked : (x : List ℕ) (c d : Class) → class_named w x ≡ Some c
      → Has d (known (gathered false (supertypes w c.supers) ++ gathered true (supertypes w c.interfaces)))
      → (is_interface d.flags ≡ true) × ((y : List ℕ) × (class_named w y ≡ Some d))
  are_asked x c d e h = let r = known_has (gathered false (supertypes w c.supers)
      ++ gathered true (supertypes w c.interfaces)) d h in at_gathered x c r.0 d e r.1 r.2

  -- ---- the names that a class lists with all that stands above it

  module _ (n : ℕ) (t : ClassTree) (is : slice_get files.classes n ≡ Some t) where
    abbrev c : Class
    c = declared n t

    there : class_named w t.name ≡ Some c
    there = class_by_name files list own_listed unbroken n t is

    is_other : (y : List ℕ) → Above w t.name y → (is_subclass w t.name y && not (bytes_eq t.name y)) ≡ true
    is_other y above = both (is_subclass w t.name y) (bytes_eq t.name y) (below_subclass w t.name y (inr above))
        (off (bytes_eq t.name y) refl)
      where
        off : (b : Bool) → bytes_eq t.name y ≡ b → b ≡ false
        off true e = absurd (acyclic t.name (subst (λ z. Above w t.name z) (sym (bytes_true t.name y e)) above))
        off false e = refl

        both : (a b : Bool) → a ≡ true → b ≡ false → (a && not b) ≡ true
        both true false e f = refl
        both true true e f = cc
        both false b e f = cc

    above_lists : (y name : List ℕ) (d : Class) → Above w t.name y → class_named w y ≡ Some d → Lists name d.interfaces
        → Has name (listed_names files t)
    unfolding listed_names
    above_lists y name d above e l = by d.is_imported refl
      where
        own_name_is : d.name ≡ y
        own_name_is = named_as w y d e

        has : Has d w
        has = has_named w y d e

        other : (f : Class) → f.name ≡ d.name → f.interfaces ≡ d.interfaces → Has name (listed_above w t f)
        other f same equal =
            let yes_it : (is_subclass w t.name f.name && not (bytes_eq t.name f.name)) ≡ true =
            ap (λ z. is_subclass w t.name z && not (bytes_eq t.name z)) (same ∙ own_name_is) ∙ is_other y above in
            subst (λ b. Has name (if b then f.interfaces else [])) (sym yes_it) (subst (λ xs. Has name xs) (sym equal)
            (listed_has name d.interfaces l))

        by : (b : Bool) → d.is_imported ≡ b → Has name (t.interfaces ++ listed_by_declared w t files.classes
            ++ flat_map (λ (s : ExportTree). listed_by_imported w t s.classes) files.exports)
        by false im =
            let r = own_filed files own_listed imports_listed d has im in
            let u = r.1 in
            let here = other (declared 0 u) (ap (λ (x : Class). x.name) (sym r.3)) (ap (λ (x : Class). x.interfaces)
            (sym r.3)) in
            has-front name (t.interfaces ++ listed_by_declared w t files.classes)
            (flat_map (λ (s : ExportTree). listed_by_imported w t s.classes) files.exports)
            (has-back name t.interfaces (listed_by_declared w t files.classes)
            (has-flat (λ (v : ClassTree). listed_above w t (declared 0 v)) u name files.classes
            (get-has u files.classes r.0 r.2) here))
        by true im =
            let r = import_filed files own_listed imports_listed d has im in
            let u = r.1 in
            let f = of-imports u files.exports (get-has u (imports files.exports) r.0 r.2) in
            let here = other (imported 0 u) (ap (λ (x : Class). x.name) (sym r.3)) (ap (λ (x : Class). x.interfaces)
            (sym r.3)) in
            has-back name (t.interfaces ++ listed_by_declared w t files.classes)
            (flat_map (λ (s : ExportTree). listed_by_imported w t s.classes) files.exports)
            (has-flat (λ (s : ExportTree). listed_by_imported w t s.classes) f.0 name files.exports f.1
            (has-flat (λ (v : ExportClass). listed_above w t (imported 0 v)) u name (let s = f.0 in s.classes) f.2
            here))

    listed_in : (xs : List (List ℕ)) (name : List ℕ) → ((y : List ℕ) → Lists y xs → Lists y (c.supers ++ c.interfaces))
        → IsListed xs name → Has name (listed_names files t)
    listed_in xs name up i =
        let y = i.1 in
        above_lists y name i.2 (⊎_elim (λ same. subst (λ z. Above w t.name z) same (directly c there (up i.0 i.3)))
        (λ above. onwards c there (up i.0 i.3) above) i.4) i.5 i.6

    own_lists : (name : List ℕ) → Lists name t.interfaces → Has name (listed_names files t)
    unfolding listed_names
    own_lists name l =
        has-front name (t.interfaces ++ listed_by_declared w t files.classes)
        (flat_map (λ (s : ExportTree). listed_by_imported w t s.classes) files.exports)
        (has-front name t.interfaces (listed_by_declared w t files.classes) (listed_has name t.interfaces l))

    abbrev all : List Interface
    all = gathered false (supertypes w c.supers) ++ gathered true (supertypes w c.interfaces)

    in_listed : (j : Interface) → Has j all → Has j.name (listed_names files t)
    in_listed j h =
        ⊎_elim
        (λ g. ⊎_elim (λ r. never r.0) (λ i. listed_in c.supers j.name (λ y l. lists-front y c.supers c.interfaces l) i)
        (gathered_listed false c.supers (supertypes w c.supers) j (are_supertypes c.supers) g))
        (λ g. ⊎_elim (λ r. own_lists j.name r.1) (λ i. listed_in c.interfaces j.name (λ y l. lists-behind y c.supers
        c.interfaces l) i) (gathered_listed true c.interfaces (supertypes w c.interfaces) j
        (are_supertypes c.interfaces) g))
        (has-either j (gathered false (supertypes w c.supers)) (gathered true (supertypes w c.interfaces)) h)
      where
        never : {B : Type 0} → false ≡ true → B
        never f = cc

    few_noted : length (names_of (each_once [] all)) ≤ length (noted [] (listed_names files t))
    few_noted =
        let names = names_of (each_once [] all) in
        let within = sum_within (λ (x : List ℕ). 1) names (noted [] (listed_names files t)) (once_apart [] all) in_noted
        in
        let a = ones names in
        let b = ones (noted [] (listed_names files t)) in
        omega (arith, within, a, b)
      where
        in_noted : (x : List ℕ) → Has x (names_of (each_once [] all)) → Has x (noted [] (listed_names files t))
        in_noted x h =
            let r = name_has (each_once [] all) x h in
            let n = once_new [] all r.0 r.1 in
            noted_has [] (listed_names files t) x (subst (λ y. Has y (listed_names files t)) r.2 (in_listed r.0 n.1))

    -- as many interfaces that some file has as names that are noted, at most
    pub few_named : length (interfaces_of w c) ≤ length (noted [] (listed_names files t))
    unfolding interfaces_at
    few_named = let some = known_few (each_once [] all) in let few = few_noted in omega (arith, some, few)

    -- those that no file has too
    pub few_listed : length (interfaces w c) ≤ length (noted [] (listed_names files t))
    unfolding names_of
    few_listed = few_noted
