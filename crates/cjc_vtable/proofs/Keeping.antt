-- A package that breaks no rule keeps what dispatch rests on.
use Rattle.std.proofs.Common.{◌≡◌, ℕ, zero, suc, ◌+◌, arith, refl, sym, ap, subst, ◌∙◌, Bool, true, false, List, []}
use Rattle.std.proofs.Common.{◌∷◌, ◌++◌, inl, inr, ⊎_elim}
use Rattle.std.specs.Prelude.{map, length, take, drop, not, ◌==◌, ◌&&◌, ◌||◌, ◌⊎◌, Option, Some, None, is_some}
use Rattle.std.specs.Prelude.{if◌then◌else◌, codes}
use Rattle.std.specs.List.{list_any}
use Rattle.std.specs.Str.{bytes_eq}
use Rattle.std.proofs.lemmas.List.{append-nil}
use Rattle.cjc_world.specs.Bytes.declared.settings.Settings.{Settings}
use Rattle.cjc_subset.specs.LowerBytecode.declared.method_code.MethodCode.{MethodCode}
use Rattle.cjc_world.specs.Files.{Files}
use Rattle.cjc_world.specs.Classes.{Member, Class, declared, imported, method_of_class, method_of_export, all_classes}
use Rattle.cjc_world.specs.Classes.{class_named}
use Rattle.cjc_world.specs.Bytes.AccessFlags.{has, is_abstract, is_interface, is_private, is_protected, is_public}
use Rattle.cjc_world.specs.Bytes.AccessFlags.{is_static}
use Rattle.cjc_world.proofs.BytesLists.{bytes_true}
use Rattle.cjc_world.proofs.BytesBools.{or_left, or_right}
use Rattle.cjc_world.specs.Supertypes.{Supertypes, End, Known, Lists, supertypes, AreSupertypes, IsAcyclic, Above}
use Rattle.cjc_world.specs.Supertypes.{directly, onwards, stands, stands_by_supers, upwards, is_one_named, is_below}
use Rattle.cjc_world.specs.Supertypes.{line}
use Rattle.cjc_world.specs.Interfaces.{gathered, has_interface, known}
use Rattle.cjc_world.specs.Lookup.{first, own_method, is_called, receiver, selected}
use Rattle.cjc_world.specs.Added.{without_initialiser, with_token, by_token, own_methods, asked_by}
use Rattle.cjc_world.specs.Rules.{is_of_package, is_part, is_slash_part}
use Rattle.cjc_world.specs.Subtype.{starts}
use Rattle.cjc_world.proofs.Settled.{lists-front, lists-behind}
use Rattle.cjc_world.proofs.Cycles.{class_named-name, tree-above, From}
use Rattle.cjc_subset.specs.Flags.{has_two_accesses, is_unfit_method_kind}
use Rattle.cjc_subset.specs.Members.{ResolvedMember, hit, imports}
use Rattle.cjc_subset.specs.Overriding.{is_out_of_sight, hides_one, asks_for_code, is_unfit_selection}
use Rattle.cjc_tokens.specs.Members.{Signature, signature_of, is_exposed, is_constructor, is_initialiser, all_methods}
use Rattle.cjc_tokens.specs.Members.{In, first_of, later, chosen}
use Rattle.cjc_tokens.proofs.Facts.{same-refl}
use Rattle.cjc_tokens.proofs.Walks.{supertypes-known}
use Rattle.cjc_vtable.specs.Calls.{is_special, selects, is_package_visible, is_clash}
use Rattle.cjc_vtable.specs.Kept.{IsKept, Keeps}
use Rattle.cjc_world.proofs.Rising.{known-append}
use Rattle.cjc_vtable.proofs.Asked.{Among, among-split}
use Rattle.cjc_vtable.proofs.Filed.{Has, at_front, behind, has-get, get-has, of-imports, IsFiled, in_class_file}
use Rattle.cjc_vtable.proofs.Filed.{in_export_file, filed, at-number}
use Rattle.cjc_vtable.proofs.Ruled.{of-package, lists-classes, lists-interfaces, lists-imported}
use Rattle.cjc_vtable.proofs.Clean.{fit-method, seen-declared, seen-imported, coded-declared, coded-imported}
use Rattle.cjc_vtable.proofs.Stood.{in-class, in-interface, upwards-stands, upwards-below, among-named, gathered-stands}
use Rattle.cjc_vtable.proofs.Stood.{upwards-named, gathered-named, gathered-interface, line-imported}
use Rattle.cjc_vtable.proofs.Read.{has-code, plain-interface}
use Rattle.cjc_vtable.proofs.Selected.{hit-selected}
use Rattle.cjc_vtable.proofs.Worlds.{In-either}

-- ---- lists of members

pub any-false : (p : Member → Bool) (ms : List Member) (m : Member) → list_any p ms ≡ false → In m ms → p m ≡ false
any-false p [] m e i = elim i [ ]
any-false p (n ∷ ms) m e first_of = by (p m) e
  where
    by : (b : Bool) → (b || list_any p ms) ≡ false → b ≡ false
    by true e = cc
    by false e = refl
any-false p (n ∷ ms) m e (later i) = any-false p ms m (by (p n) e) i
  where
    by : (b : Bool) → (b || list_any p ms) ≡ false → list_any p ms ≡ false
    by true e = cc
    by false e = e

in-mapped : {A : Type 0} (f : A → Member) (xs : List A) (m : Member) → In m (map f xs) → (x : A) × Has x xs × (m ≡ f x)
in-mapped f [] m i = elim i [ ]
in-mapped f (x ∷ xs) m first_of = (x, at_front, refl)
in-mapped f (x ∷ xs) m (later i) = let r = in-mapped f xs m i in (r.0, behind r.1, r.2)

in-cons : (m n : Member) (ms : List Member) → In m (n ∷ ms) → (m ≡ n) ⊎ In m ms
in-cons m n ms first_of = inl refl
in-cons m n ms (later i) = inr i

in-one : (m n : Member) → In m (n ∷ []) → m ≡ n
in-one m n first_of = refl
in-one m n (later i) = elim i [ ]

plain-in : (ms : List Member) (m : Member) → In m (without_initialiser ms) → In m ms × (is_initialiser m.name ≡ false)
plain-in [] m i = elim i [ ]
plain-in (n ∷ ms) m i = by (is_initialiser n.name) refl i (plain-in ms m)
  where
    by : (b : Bool) → is_initialiser n.name ≡ b → In m (if b then without_initialiser ms
        else n ∷ without_initialiser ms) → (In m (without_initialiser ms) → In m ms × (is_initialiser m.name ≡ false))
        → In m (n ∷ ms) × (is_initialiser m.name ≡ false)
    by true e i rest = let r = rest i in (later r.0, r.1)
    by false e i rest = ⊎_elim
        (λ is. subst (λ (v : Member). In v (n ∷ ms) × (is_initialiser v.name ≡ false)) (sym is) (first_of, e))
        (λ j. let r = rest j in (later r.0, r.1))
        (in-cons m n (without_initialiser ms) i)

pub with_token-in : (t : ℕ) (ms : List Member) (m : Member) → In m (with_token t ms) → In m ms
with_token-in t [] m i = elim i [ ]
with_token-in t (n ∷ ms) m i = by (n.token == t) i (with_token-in t ms m)
  where
    by : (b : Bool) → In m (if b then n ∷ [] else with_token t ms) → (In m (with_token t ms) → In m ms) → In m (n ∷ ms)
    by true i rest = subst (λ (v : Member). In v (n ∷ ms)) (sym (in-one m n i)) first_of
    by false i rest = later (rest i)

pub by_token-in : (count t : ℕ) (ms : List Member) (m : Member) → In m (by_token count t ms) → In m ms
by_token-in zero t ms m i = elim i [ ]
by_token-in (suc count) t ms m i = In-either m (with_token t ms) (by_token count (t + 1) ms) ms (λ j. with_token-in t ms
    m j) (λ j. by_token-in count (t + 1) ms m j) i

-- an interface's own methods are methods of it
own-in : (c : Class) (m : Member) → In m (own_methods c) → In m c.methods × (is_initialiser m.name ≡ false)
unfolding own_methods
own-in c m i = let r = plain-in (if c.is_imported then by_token (length c.methods) 0 c.methods else c.methods) m i
    in (by c.is_imported r.0, r.1)
  where
    by : (b : Bool) → In m (if b then by_token (length c.methods) 0 c.methods else c.methods) → In m c.methods
    by true j = by_token-in (length c.methods) 0 c.methods m j
    by false j = j

-- ---- names

-- a class of the package is no array by its name
no_array : (p name : List ℕ) → starts 91 p ≡ false → is_of_package p name ≡ true → starts 91 name ≡ false
unfolding is_of_package
no_array [] [] e f = refl
no_array [] (b ∷ bs) e f = by (b == 47) (b == 91) (λ g h. grind arith) (slash (bytes_eq (take 0 (b ∷ bs)) []) (b == 47)
    (is_part bs) f)
  where
    slash : (t u v : Bool) → (t && (u && v)) ≡ true → u ≡ true
    slash true true v e = refl
    slash true false v e = cc
    slash false u v e = cc

    by : (u v : Bool) → ((b == 47) ≡ true → (b == 91) ≡ true → ⊥) → (b == 47) ≡ true → (b == 91) ≡ false
    by u v off e = split (b == 91) refl
      where
        split : (v : Bool) → (b == 91) ≡ v → (b == 91) ≡ false
        split true g = absurd (off e g)
        split false g = g
no_array (q ∷ qs) [] e f = refl
no_array (q ∷ qs) (b ∷ bs) e f =
    let front = bytes_true (b ∷ take (length qs) bs) (q ∷ qs) (left (bytes_eq (b ∷ take (length qs) bs) (q ∷ qs))
    (is_slash_part (drop (length qs) bs)) f) in
    let is : b ≡ q = cc in
    ap (λ v. v == 91) is ∙ e
  where
    left : (t u : Bool) → (t && u) ≡ true → t ≡ true
    left true u e = refl
    left false u e = cc

receiver-itself : (name : List ℕ) → starts 91 name ≡ false → receiver name ≡ name
receiver-itself [] e = refl
receiver-itself (b ∷ bs) e = ap (λ v. if v then codes "java/lang/Object" else b ∷ bs) e

-- ---- access

pub visible : (p q r : Bool) → (not p && not q && not r) ≡ (not (p || q) && not r)
visible true q r = refl
visible false true r = refl
visible false false r = refl

module _ (mine inherited : ℕ) where
  M : Bool
  M = not (is_public mine) && not (is_protected mine) && not (is_private mine)

  N : Bool
  N = not (is_public inherited) && not (is_protected inherited) && not (is_private inherited)

  mine-is : M ≡ is_package_visible mine
  unfolding M
  mine-is = visible (is_public mine) (is_protected mine) (is_private mine)

  inherited-is : N ≡ is_package_visible inherited
  unfolding N
  inherited-is = visible (is_public inherited) (is_protected inherited) (is_private inherited)

  no-clash : (far : Bool) → is_out_of_sight far mine inherited ≡ false → is_clash mine inherited ≡ false
  unfolding M N
  no-clash far e =
      ap (λ (v : Bool). (v && is_exposed inherited) || (is_exposed mine && is_package_visible inherited)) (sym mine-is)
      ∙ ap (λ (v : Bool). (M && is_exposed inherited) || (is_exposed mine && v)) (sym inherited-is)
      ∙ or_left ((M && is_exposed inherited) || (is_exposed mine && N)) (M && N && far) e

  not-both : is_out_of_sight true mine inherited ≡ false → (is_package_visible mine && is_package_visible inherited)
      ≡ false
  unfolding M N
  not-both e =
      ap (λ (v : Bool). v && is_package_visible inherited) (sym mine-is)
      ∙ ap (λ (v : Bool). M && v) (sym inherited-is)
      ∙ both M N (or_right ((M && is_exposed inherited) || (is_exposed mine && N)) (M && N && true) e)
    where
      both : (a b : Bool) → (a && b && true) ≡ false → (a && b) ≡ false
      both true true e = cc
      both true false e = refl
      both false b e = refl

-- against one method of a class above
sees : (d : Class) (m n : Member) → In n d.methods → signature_of m ≡ signature_of n → is_special (signature_of m)
    ≡ false
    → (not (is_special (signature_of m)) && hides_one d m.flags m.name m.desc) ≡ false
    → is_out_of_sight d.is_imported m.flags n.flags ≡ false
sees d m n i one plain off =
    let none = open_up (is_special (signature_of m)) (hides_one d m.flags m.name m.desc) plain off in
    let here = any-false (λ k. is_called m.name m.desc k && is_out_of_sight d.is_imported m.flags k.flags) d.methods n
    none i in
    let called : is_called m.name m.desc n ≡ true = ap (λ (v : Signature). bytes_eq n.name v.name
    && bytes_eq n.desc v.desc) one ∙ same-refl (signature_of n) in
    behind_test (is_called m.name m.desc n) (is_out_of_sight d.is_imported m.flags n.flags) called here
  where
    open_up : (s h : Bool) → s ≡ false → (not s && h) ≡ false → h ≡ false
    open_up false h e f = f
    open_up true h e f = cc

    behind_test : (a b : Bool) → a ≡ true → (a && b) ≡ false → b ≡ false
    behind_test true b e f = f
    behind_test false b e f = cc

-- ---- methods for those of interfaces

-- a selection that is fit for an interface's method gives a public one
fit-selection : (o : Option ResolvedMember) → is_unfit_selection true o ≡ false → (h : ResolvedMember) × (o ≡ Some h)
    × (is_public h.flags ≡ true)
fit-selection None e = cc
fit-selection (Some h) e = (h, refl, by (is_abstract h.flags) (is_public h.flags) e)
  where
    by : (a p : Bool) → (a || (true && not p)) ≡ false → p ≡ true
    by true p e = cc
    by false true e = refl
    by false false e = cc

-- a fit method of an interface is no constructor
fit-name : (A C N S I H K : Bool) → N ≡ false → I ≡ true → (K || (A && (C || N)) || (N && not S) || (I && H && not N))
    ≡ false → (K ≡ false → A ≡ false → H ≡ true) → C ≡ false
fit-name A false N S I H K e f off code = refl
fit-name A true N S I H true e f off code = cc
fit-name true true N S I H false e f off code = cc
fit-name false true true S I H false e f off code = cc
fit-name false true false S false H false e f off code = cc
fit-name false true false S true true false e f off code = cc
fit-name false true false S true false false e f off code = let no = code refl refl in cc

module _ (list : List ℕ) (files : Files) (codes : List MethodCode) (settings : Settings) (kept : IsKept list files codes
    settings) (acyclic : IsAcyclic (all_classes files))
    (are_supertypes : (xs : List (List ℕ)) → AreSupertypes (all_classes files) xs (supertypes (all_classes files) xs))
    (one_supertypes : (xs : List (List ℕ)) (j k : Supertypes) → AreSupertypes (all_classes files) xs j
    → AreSupertypes (all_classes files) xs k → j ≡ k) where
  no-array : (x : List ℕ) (c : Class) → class_named (all_classes files) x ≡ Some c → c.is_imported ≡ false
      → starts 91 c.name ≡ false
  no-array x c e im = no_array files.package_name c.name kept.read.package_name (of-package list files
      kept.unbroken.world x c e im)

  itself : (x : List ℕ) (c : Class) → class_named (all_classes files) x ≡ Some c
      → class_named (all_classes files) c.name ≡ Some c
  itself x c e = ap (class_named (all_classes files)) (class_named-name (all_classes files) x c e) ∙ e

  -- ---- a class above

  other-name : (x : List ℕ) (c d : Class) → class_named (all_classes files) x ≡ Some c
      → (stands d.name (supertypes (all_classes files) c.supers) ≡ true)
      ⊎ (stands d.name (supertypes (all_classes files) c.interfaces) ≡ true) → bytes_eq c.name d.name ≡ false
  unfolding supertypes From
  other-name x c d e way = by (bytes_eq c.name d.name) refl
    where
      above : Above (all_classes files) c.name d.name
      above = ⊎_elim
          (λ h. let r = tree-above (all_classes files) (suc (length (all_classes files))) d.name c.supers h in
          let l = lists-front r.0 c.supers c.interfaces r.1 in
          ⊎_elim (λ is. directly c (itself x c e) (subst (λ q. Lists q (c.supers ++ c.interfaces)) is l))
          (λ far. onwards c (itself x c e) l far) r.2)
          (λ h. let r = tree-above (all_classes files) (suc (length (all_classes files))) d.name c.interfaces h in
          let l = lists-behind r.0 c.supers c.interfaces r.1 in
          ⊎_elim (λ is. directly c (itself x c e) (subst (λ q. Lists q (c.supers ++ c.interfaces)) is l))
          (λ far. onwards c (itself x c e) l far) r.2)
          way

      by : (b : Bool) → bytes_eq c.name d.name ≡ b → bytes_eq c.name d.name ≡ false
      by true f = absurd (acyclic c.name (subst (λ q. Above (all_classes files) c.name q)
          (sym (bytes_true c.name d.name f)) above))
      by false f = f

  apart : (x : List ℕ) (c d : Class) (b : Bool) → class_named (all_classes files) x ≡ Some c
      → (stands d.name (supertypes (all_classes files) c.supers) ≡ true)
      ⊎ (stands d.name (supertypes (all_classes files) c.interfaces) ≡ true)
      → b ≡ true → (b && not (bytes_eq c.name d.name)) ≡ true
  apart x c d b e way h = by (bytes_eq c.name d.name) b (other-name x c d e way) h
    where
      by : (u q : Bool) → u ≡ false → q ≡ true → (q && not u) ≡ true
      by false true g h = refl
      by false false g h = cc
      by true q g h = cc

  either : (a b : Bool) → (a ≡ true) ⊎ (b ≡ true) → (a || b) ≡ true
  either true b h = refl
  either false true h = refl
  either false false h = ⊎_elim (λ g. cc) (λ g. cc) h

  tree-of : (x : List ℕ) (c : Class) → class_named (all_classes files) x ≡ Some c
      → supertypes (all_classes files) (c.name ∷ []) ≡ Known c (supertypes (all_classes files) c.supers)
      (supertypes (all_classes files) c.interfaces) End
  tree-of x c e = supertypes-known (all_classes files) are_supertypes one_supertypes c.name c (itself x c e)

  -- a superclass
  super-of : (x : List ℕ) (c d : Class) → class_named (all_classes files) x ≡ Some c
      → Among d (upwards (supertypes (all_classes files) c.supers))
      → ((is_below (all_classes files) c.name d.name || has_interface (all_classes files) c.name d.name)
      && not (bytes_eq c.name d.name)) ≡ true
  unfolding is_below
  super-of x c d e a =
      let w = all_classes files in
      let below : is_below w c.name d.name ≡ true =
      ap (stands_by_supers d.name) (tree-of x c e)
      ∙ ap (λ v. (bytes_eq c.name d.name || v) || false) (upwards-below (supertypes w c.supers) d a)
      ∙ last (bytes_eq c.name d.name) in
      apart x c d (is_below w c.name d.name || has_interface w c.name d.name) e
      (inl (upwards-stands (supertypes w c.supers) d a)) (either (is_below w c.name d.name) (has_interface w c.name
      d.name) (inl below))
    where
      last : (b : Bool) → ((b || true) || false) ≡ true
      last true = refl
      last false = refl

  -- a superinterface
  interface-of : (x : List ℕ) (c d : Class) → class_named (all_classes files) x ≡ Some c
      → Among d (known (gathered false (supertypes (all_classes files) c.supers)
      ++ gathered true (supertypes (all_classes files) c.interfaces)))
      → ((is_below (all_classes files) c.name d.name || has_interface (all_classes files) c.name d.name)
      && not (bytes_eq c.name d.name)) ≡ true
  unfolding has_interface gathered
  interface-of x c d e a =
      let w = all_classes files in
      let S = gathered false (supertypes w c.supers) in
      let I = gathered true (supertypes w c.interfaces) in
      let has : has_interface w c.name d.name ≡ true =
      ap (λ k. is_one_named (known (gathered false k)) d.name) (tree-of x c e)
      ∙ ap (λ is. is_one_named (known is) d.name) (append-nil (S ++ I ++ []) ∙ append-nil (S ++ I))
      ∙ among-named d (known (S ++ I)) a in
      let way = ⊎_elim (λ j. inl (gathered-stands false (supertypes w c.supers) d j))
      (λ j. inr (gathered-stands true (supertypes w c.interfaces) d j)) (among-split d (known S) (known I)
      (subst (Among d) (known-append S I) a)) in
      apart x c d (is_below w c.name d.name || has_interface w c.name d.name) e way (either (is_below w c.name d.name)
      (has_interface w c.name d.name) (inr has))

  -- ---- 305

  out-of-sight : (c d : Class) → IsFiled files c → IsFiled files d → c.is_imported ≡ false
      → ((is_below (all_classes files) c.name d.name || has_interface (all_classes files) c.name d.name)
      && not (bytes_eq c.name d.name)) ≡ true
      → (m n : Member) → In m c.methods → In n d.methods → signature_of m ≡ signature_of n → is_special (signature_of m)
      ≡ false → is_out_of_sight d.is_imported m.flags n.flags ≡ false
  out-of-sight c d (in_export_file k t g) filed_above im above m n i j one plain = cc
  out-of-sight c d (in_class_file k t g) (in_class_file l u h) im above m n i j one plain =
      let r = in-mapped method_of_class t.methods m i in
      let off = seen-declared list files codes settings kept.unbroken.access t u r.0 (get-has t files.classes k g)
      (get-has u files.classes l h) above r.1 in
      sees (declared l u) m n j one plain (subst (λ (v : Member). (not (is_special (signature_of v))
      && hides_one (declared 0 u) v.flags v.name v.desc) ≡ false) (sym r.2) off)
  out-of-sight c d (in_class_file k t g) (in_export_file l u h) im above m n i j one plain =
      let r = in-mapped method_of_class t.methods m i in
      let s = of-imports u files.exports (get-has u (imports files.exports) l h) in
      let off = seen-imported list files codes settings kept.unbroken.access t s.0 u r.0 (get-has t files.classes k g)
      s.1 s.2 above r.1 in
      sees (imported l u) m n j one plain (subst (λ (v : Member). (not (is_special (signature_of v))
      && hides_one (imported 0 u) v.flags v.name v.desc) ≡ false) (sym r.2) off)

  -- against a class of its superclasses
  sight : (x : List ℕ) (c d : Class) (m n : Member) → class_named (all_classes files) x ≡ Some c → c.is_imported ≡ false
      → In m c.methods → Among d (upwards (supertypes (all_classes files) c.supers)) → In n d.methods
      → signature_of m ≡ signature_of n → is_special (signature_of m) ≡ false
      → is_out_of_sight d.is_imported m.flags n.flags ≡ false
  sight x c d m n e im i a j one plain =
      let named = upwards-named (all_classes files) c.supers (supertypes (all_classes files) c.supers) d
      (are_supertypes c.supers) a in
      out-of-sight c d (filed files x c e) (filed files d.name d named) im (super-of x c d e a) m n i j one plain

  -- ---- 307

  no-code : (c d : Class) → IsFiled files c → IsFiled files d → c.is_imported ≡ false → is_abstract c.flags ≡ false
      → ((is_below (all_classes files) c.name d.name || has_interface (all_classes files) c.name d.name)
      && not (bytes_eq c.name d.name)) ≡ true
      → (m : Member) → In m d.methods
      → (asks_for_code d m && is_unfit_selection (is_interface d.flags) (hit (all_classes files) false
      (selected (all_classes files) c.name m.name m.desc))) ≡ false
  no-code c d (in_export_file k t g) filed_above im concrete above m j = cc
  no-code c d (in_class_file k t g) (in_class_file l u h) im concrete above m j =
      let off = coded-declared list files codes settings kept.unbroken.code t u (get-has t files.classes k g)
      (get-has u files.classes l h) above in
      any-false (λ v. asks_for_code (declared 0 u) v && is_unfit_selection (is_interface u.flags)
      (hit (all_classes files) false (selected (all_classes files) t.name v.name v.desc)))
      (map method_of_class u.methods) m (concrete_one (is_abstract t.flags) concrete off) j
    where
      concrete_one : (a : Bool) {b : Bool} → a ≡ false → (not a && b) ≡ false → b ≡ false
      concrete_one false e f = f
      concrete_one true e f = cc
  no-code c d (in_class_file k t g) (in_export_file l u h) im concrete above m j =
      let s = of-imports u files.exports (get-has u (imports files.exports) l h) in
      let off = coded-imported list files codes settings kept.unbroken.code t s.0 u (get-has t files.classes k g) s.1
      s.2 above in
      any-false (λ v. asks_for_code (imported 0 u) v && is_unfit_selection (is_interface u.flags)
      (hit (all_classes files) false (selected (all_classes files) t.name v.name v.desc)))
      (map method_of_export u.methods) m (concrete_one (is_abstract t.flags) concrete off) j
    where
      concrete_one : (a : Bool) {b : Bool} → a ≡ false → (not a && b) ≡ false → b ≡ false
      concrete_one false e f = f
      concrete_one true e f = cc

  -- an interface of the class
  asked-interface : (x : List ℕ) (c d : Class) → class_named (all_classes files) x ≡ Some c
      → Among d (known (gathered false (supertypes (all_classes files) c.supers)
      ++ gathered true (supertypes (all_classes files) c.interfaces)))
      → (class_named (all_classes files) d.name ≡ Some d) × (is_interface d.flags ≡ true)
      × (((is_below (all_classes files) c.name d.name || has_interface (all_classes files) c.name d.name)
      && not (bytes_eq c.name d.name)) ≡ true)
  asked-interface x c d e a =
      let w = all_classes files in
      let A = gathered false (supertypes w c.supers) in
      let B = gathered true (supertypes w c.interfaces) in
      let rule = lists-interfaces list files kept.unbroken.world in
      ⊎_elim
      (λ j. let named = gathered-named w false c.supers (supertypes w c.supers) d (are_supertypes c.supers) j in (
        named,
        gathered-interface w rule false c.supers (supertypes w c.supers) d (are_supertypes c.supers)
            (λ l y g v h. cc) j,
        interface-of x c d e a,
      ))
      (λ j. let named = gathered-named w true c.interfaces (supertypes w c.interfaces) d (are_supertypes c.interfaces) j
      in (
        named,
        gathered-interface w rule true c.interfaces (supertypes w c.interfaces) d (are_supertypes c.interfaces)
            (λ l y g v h. rule x y c g e v h) j,
        interface-of x c d e a,
      ))
      (among-split d (known A) (known B) (subst (Among d) (known-append A B) a))

  has-method : (x : List ℕ) (c : Class) (m : Member) → class_named (all_classes files) x ≡ Some c
      → c.is_imported ≡ false → is_abstract c.flags ≡ false
      → In m (asked_by (supertypes (all_classes files) c.supers) (supertypes (all_classes files) c.interfaces))
      → (n : Member) × (chosen selects (signature_of m) (all_methods (line (all_classes files) x)) ≡ Some n)
      × (is_public n.flags ≡ true)
  unfolding asked_by selected line
  has-method x c m e im concrete i =
      let w = all_classes files in
      let a = in-interface m (known (gathered false (supertypes w c.supers)
      ++ gathered true (supertypes w c.interfaces))) i in
      let d = a.0 in
      let is = asked-interface x c d e a.1 in
      let own = own-in d m a.2 in
      let off = no-code c d (filed files x c e) (filed files d.name d is.0) im concrete is.2 m own.0 in
      let fit = asked (is_abstract m.flags) (is_interface d.flags) d.is_imported (is_initialiser m.name) is.1 own.1 off
      in
      let off2 : is_unfit_selection true (hit w false (selected w c.name m.name m.desc)) ≡ false =
      ap (λ (v : Bool). is_unfit_selection v (hit w false (selected w c.name m.name m.desc))) (sym is.1) ∙ fit in
      let h = fit-selection (hit w false (selected w c.name m.name m.desc)) off2 in
      let at_x : receiver c.name ≡ x = receiver-itself c.name (no-array x c e im) ∙ class_named-name w x c e in
      let named = λ (g : Class) (j : Among g (upwards (supertypes (all_classes files) (x ∷ [])))). at-number files
      g.name g (upwards-named (all_classes files) (x ∷ []) (supertypes (all_classes files) (x ∷ [])) g
      (are_supertypes (x ∷ [])) j) in
      let told : hit (all_classes files) false (first (own_method true m.name m.desc)
      (upwards (supertypes (all_classes files) (x ∷ [])))) ≡ Some h.0 =
      ap (λ q. hit (all_classes files) false (first (own_method true m.name m.desc)
      (upwards (supertypes (all_classes files) (q ∷ []))))) (sym at_x) ∙ h.1
      in
      let r = hit-selected (all_classes files) (upwards (supertypes (all_classes files) (x ∷ []))) (signature_of m) h.0
      named told in
      (r.0, r.1, ap (λ v. is_public v) (sym r.2) ∙ h.2)
    where
      asked : (a i f n : Bool) {u : Bool} → i ≡ true → n ≡ false → (((a || i) && not (not f && n)) && u) ≡ false
          → u ≡ false
      asked true true true n e f g = g
      asked true true false true e f g = cc
      asked true true false false e f g = g
      asked false true true n e f g = g
      asked false true false true e f g = cc
      asked false true false false e f g = g
      asked a false f n e h g = cc

  -- ---- constructors

  no-constructor : (c : Class) → IsFiled files c → (m : Member) → In m c.methods → is_initialiser m.name ≡ false
      → is_interface c.flags ≡ true → is_constructor m.name ≡ false
  no-constructor c (in_class_file k t g) m i initial inter =
      let r = in-mapped method_of_class t.methods m i in
      let off = fit-method list files codes settings kept.unbroken.flags t r.0 (get-has t files.classes k g) r.1 in
      ap (λ (v : Member). is_constructor v.name) r.2
      ∙ fit-name (is_abstract r.0.flags) (is_constructor r.0.name) (is_initialiser r.0.name) (is_static r.0.flags)
      (is_interface t.flags) (is_some r.0.code) (is_unfit_method_kind r.0.flags)
      (ap (λ (v : Member). is_initialiser v.name) (sym r.2) ∙ initial) inter off
      (λ kind abstract. let spelt = kept.read.classes k t g in has-code t spelt.0 r.0 spelt.1 r.1 abstract
      (native (has r.0.flags 0x0100) (has r.0.flags 0x0020) (has r.0.flags 0x0800) (has_two_accesses r.0.flags)
      (is_abstract r.0.flags && (is_static r.0.flags || is_private r.0.flags)) kind))
    where
      native : (a b c d e : Bool) → (a || b || c || d || e) ≡ false → a ≡ false
      native true b c d e f = cc
      native false b c d e f = refl
  no-constructor c (in_export_file k d g) m i initial inter =
      let r = in-mapped method_of_export d.methods m i in
      let s = of-imports d files.exports (get-has d (imports files.exports) k g) in
      let e = has-get s.0 files.exports s.1 in
      ap (λ (v : Member). is_constructor v.name) r.2 ∙ plain-interface s.0 d r.0 (kept.read.exports e.0 s.0 e.1) s.2 r.1
      inter

  -- ---- all

  pub keeps : Keeps (all_classes files)
  keeps = record {
    rules = record {
      acyclic = acyclic;
      single = λ x c e im. single c (filed files x c e) im;
      apart = lists-imported list files kept.unbroken.world;
      superclasses = lists-classes list files kept.unbroken.world;
      told = kept.agree;
      access = λ x c m n e im i j one plain.
          let a = in-class n (upwards (supertypes (all_classes files) c.supers)) j in
          no-clash m.flags n.flags a.0.is_imported (sight x c a.0 m n e im i a.1 a.2 one plain);
    };
    interfaces = record {
      methods = has-method;
      plain = λ x c m e i inter. let own = own-in c m i in special (is_constructor m.name) (is_initialiser m.name)
          (no-constructor c (filed files x c e) m own.0 own.1 inter) own.1;
      listed = lists-interfaces list files kept.unbroken.world;
    };
    imported = λ x c m n e im i j one plain.
        let a = line-imported (all_classes files) (lists-imported list files kept.unbroken.world) c.supers
        (supertypes (all_classes files) c.supers) n (are_supertypes c.supers) j in
        not-both m.flags n.flags (subst (λ (v : Bool). is_out_of_sight v m.flags n.flags ≡ false) a.2
        (sight x c a.0 m n e im i a.1 a.3 one plain));
  }
    where
      single : (c : Class) → IsFiled files c → c.is_imported ≡ false → (s : List ℕ) × (c.supers ≡ s ∷ [])
      single c (in_class_file n t e) im = (t.superclass, refl)
      single c (in_export_file n t e) im = cc

      special : (a b : Bool) → a ≡ false → b ≡ false → (a || b) ≡ false
      special false false e f = refl
      special true b e f = cc
      special false true e f = cc
