-- The export files of an imported class and of its supers have each virtual method by its token.
use Rattle.std.proofs.Common.{◌≡◌, ℕ, zero, suc, ◌+◌, ◌-◌, refl, sym, ap, subst, ◌∙◌, arith, Bool, true, false, List}
use Rattle.std.proofs.Common.{[], ◌∷◌, ◌++◌, length, ⊎_elim}
use Rattle.std.specs.Prelude.{Option, Some, None, slice_get, map, option_map, option_and_then, position, cond, get_or}
use Rattle.std.specs.Prelude.{find, not, nat_lt, ◌==◌, ◌&&◌, ◌||◌, if◌then◌else◌}
use Rattle.std.specs.List.{AllByRecursion}
use Rattle.std.specs.Str.{bytes_eq}
use Rattle.std.proofs.lemmas.Bool.Decides.{nat_tests}
use Rattle.std.proofs.lemmas.List.Quantifiers.{position-Some}
use Rattle.std.proofs.lemmas.Option.{slice_get-get_or}
use Rattle.std.proofs.lemmas.Bool.{and_from}
use Rattle.cjc_bytes.specs.AccessFlags.{is_interface, is_private, is_static}
use Rattle.cjc_bytes.proofs.Bools.{and_true}
use Rattle.cjc_bytes.proofs.Gets.{find_got, in_front as get_front}
use Rattle.cjc_bytes.proofs.Numbers.{number_same, number_same_number}
use Rattle.cjc_token_proof.specs.Calls.Dispatching.{SaysFile, event}
use Rattle.cjc_card_semantics.specs.Machine.Dispatch.{Outward, dispatched_outward, exported_line, in_files, outward}
use Rattle.cjc_components.specs.Names.{class_at as card_class}
use Rattle.cjc_components.specs.Package.{Package, world}
use Rattle.cjc_world.specs.ExportFile.declared.tree.ExportClass.{ExportClass}
use Rattle.cjc_world.specs.ExportFile.declared.tree.ExportMethod.{ExportMethod}
use Rattle.cjc_world.specs.ExportFile.Supers.{IsAtOrAbove, at, above, is_one_of, upwards, virtual_method}
use Rattle.cjc_world.specs.ExportFile.Supers as exports
use Rattle.cjc_world.proofs.ExportFileUpwards.{all_found, each_own, found_is}
use Rattle.cjc_token_proof.specs.Tables.Infos.{HasEntry}
use Rattle.cjc_token_proof.specs.Tables.Loading.{loaded, naming}
use Rattle.cjc_tokens.specs.Members.{In, Signature, all_methods, first_of, is_constructor, is_initialiser, is_virtual}
use Rattle.cjc_tokens.specs.Members.{later, signature_of}
use Rattle.cjc_vtable.specs.Calls.{IsOneToOne}
use Rattle.cjc_vtable.specs.Dispatch.{own_by_token}
use Rattle.cjc_vtable.specs.Naming.{member_named, method_named, named}
use Rattle.cjc_vtable.proofs.Told.{In-front, In-behind}
use Rattle.cjc_vtable.proofs.Given.{In-split}
use Rattle.cjc_world.specs.declared.found.Found.{Found}
use Rattle.cjc_world.specs.Added.{added}
use Rattle.cjc_world.specs.Classes.{Class, Member, class_at, class_named, imported, method_of_export}
use Rattle.cjc_world.specs.Supertypes.{AreSupertypes, Supertypes, Lists, after, ends, foremost, supertypes}
use Rattle.cjc_world.specs.Supertypes.{known_here, unknown_here}
use Rattle.cjc_world.specs.Supertypes as supertype_trees
use Rattle.cjc_world.specs.Lookup.{first, member_at, or_else}
use Rattle.cjc_world.proofs.Cycles.{class_named-name}
use Rattle.cjc_token_proof.proofs.ByToken.Members.{bytes_same, bytes_tell}
use Rattle.cjc_token_proof.proofs.WrittenCalls.Facts.{Facts, exported}

-- ---- names and members in lists

pub lists_one : (y : List ℕ) (xs : List (List ℕ)) → Lists y xs → is_one_of xs y ≡ true
lists_one y [] h = elim h [ ]
lists_one y (x ∷ xs) foremost = ap (λ t. t || is_one_of xs y) (bytes_same y)
lists_one y (x ∷ xs) (after h) = by (bytes_eq x y) (lists_one y xs h)
  where
    by : (t : Bool) → is_one_of xs y ≡ true → (t || is_one_of xs y) ≡ true
    by true e = refl
    by false e = e

one_lists : (y : List ℕ) (xs : List (List ℕ)) → is_one_of xs y ≡ true → Lists y xs
one_lists y [] e = absurd (cc)
one_lists y (x ∷ xs) e = by (bytes_eq x y) refl e (one_lists y xs)
  where
    by : (t : Bool) → bytes_eq x y ≡ t → (t || is_one_of xs y) ≡ true → (is_one_of xs y ≡ true → Lists y xs)
        → Lists y (x ∷ xs)
    by true is h rest = subst (λ z. Lists y (z ∷ xs)) (sym (bytes_tell x y is)) foremost
    by false is h rest = after (rest h)

methods_front : (m : Member) (cs ds : List Class) → In m (all_methods cs) → In m (all_methods (cs ++ ds))
methods_front m [] ds h = elim h [ ]
methods_front m (c ∷ cs) ds h = ⊎_elim (λ a. In-front m c.methods (all_methods (cs ++ ds)) a)
    (λ b. In-behind m c.methods
    (all_methods (cs ++ ds)) (methods_front m cs ds b)) (In-split m c.methods (all_methods cs) h)

methods_back : (m : Member) (cs ds : List Class) → In m (all_methods ds) → In m (all_methods (cs ++ ds))
methods_back m [] ds h = h
methods_back m (c ∷ cs) ds h = In-behind m c.methods (all_methods (cs ++ ds)) (methods_back m cs ds h)

pub in_at : (ms : List Member) (k : ℕ) (m : Member) → slice_get ms k ≡ Some m → In m ms
in_at [] k m e = absurd (cc)
in_at (n ∷ ms) zero m e = let same : n ≡ m = cc in subst (λ q. In m (q ∷ ms)) (sym same) first_of
in_at (n ∷ ms) (suc k) m e = later (in_at ms k m e)

pub place_in : (ms : List Member) (m : Member) → In m ms → (k : ℕ) × (slice_get ms k ≡ Some m)
place_in [] m i = elim i [ ]
place_in (n ∷ ms) m first_of = (0, refl)
place_in (n ∷ ms) m (later i) = let r = place_in ms m i in (suc r.0, r.1)

pub position_has : {A : Type 0} (test : A → Bool) (xs : List A) (i : ℕ) (d : A) → position test xs ≡ Some i → (x : A)
    × (slice_get xs i ≡ Some x) × (test x ≡ true)
position_has test xs i d e =
    let r = position-Some test xs i d e in
    (get_or xs i d, slice_get-get_or xs i d r.0, r.1)

find_there : {A : Type 0} (test : A → Bool) (xs : List A) (k : ℕ) (x : A) → slice_get xs k ≡ Some x → test x ≡ true
    → (y : A) × (find test xs ≡ Some y)
find_there test [] k x e is = absurd (cc)
find_there test (z ∷ xs) zero x e is = let same : z ≡ x = cc
    in (z, ap (λ t. cond t (Some z) (find test xs)) (ap test same ∙ is))
find_there {A = A} test (z ∷ xs) (suc k) x e is = by (test z) (find_there test xs k x e is)
  where
    by : (t : Bool) → (y : A) × (find test xs ≡ Some y) → (y : A) × (cond t (Some z) (find test xs) ≡ Some y)
    by true r = (z, refl)
    by false r = r

-- ---- virtual methods of export files

pub export_virtual : (m : ExportMethod) → (is_initialiser m.name ≡ true → is_static m.flags ≡ true)
    → exports.is_virtual m ≡ is_virtual (method_of_export m)
export_virtual m plain = by (is_static m.flags) (is_private m.flags) (is_constructor m.name) (is_initialiser m.name)
    plain
  where
    by : (s q c i : Bool) → (i ≡ true → s ≡ true) → not (s || q || c) ≡ ((not q && not s) && not (c || i))
    by true true c i h = refl
    by true false c i h = refl
    by false true c i h = refl
    by false false true i h = refl
    by false false false false h = refl
    by false false false true h = let no_way = h refl in absurd (cc)

pub export_at : (ms : List ExportMethod) (k : ℕ) (m : ExportMethod) → slice_get ms k ≡ Some m
    → slice_get (map method_of_export ms) k ≡ Some (method_of_export m)
export_at [] k m e = absurd (cc)
export_at (n ∷ ms) zero m e = let same : n ≡ m = cc in ap (λ q. Some (method_of_export q)) same
export_at (n ∷ ms) (suc k) m e = export_at ms k m e

pub export_from : (ms : List ExportMethod) (k : ℕ) (m : Member) → slice_get (map method_of_export ms) k ≡ Some m
    → (x : ExportMethod) × (slice_get ms k ≡ Some x) × (method_of_export x ≡ m)
export_from [] k m e = absurd (cc)
export_from (n ∷ ms) zero m e = (n, refl, cc)
export_from (n ∷ ms) (suc k) m e = export_from ms k m e

pub some_member : Member
some_member = record { flags = 0; name = []; desc = []; token = 0 }

-- what a name has among the names of classes
class_of_name : (y : List ℕ) (us : List ExportClass) → is_one_of (map (λ (e : ExportClass). e.name) us) y ≡ true
    → (k : ℕ) × (e : ExportClass) × (slice_get us k ≡ Some e) × (e.name ≡ y)
class_of_name y [] h = absurd (cc)
class_of_name y (u ∷ us) h = by (bytes_eq u.name y) refl h (class_of_name y us)
  where
    by : (t : Bool) → bytes_eq u.name y ≡ t → (t || is_one_of (map (λ (e : ExportClass). e.name) us) y) ≡ true
        → (is_one_of (map (λ (e : ExportClass). e.name) us) y ≡ true → (k : ℕ) × (e : ExportClass)
        × (slice_get us k ≡ Some e) × (e.name ≡ y)) → (k : ℕ) × (e : ExportClass) × (slice_get (u ∷ us) k ≡ Some e)
        × (e.name ≡ y)
    by true is h rest = (0, u, refl, bytes_tell u.name y is)
    by false is h rest = let r = rest h in (suc r.0, r.1, r.2, r.3)

own_at : (classes us : List ExportClass) → AllByRecursion (λ (c : ExportClass). exports.class_named classes c.name
    ≡ Some c) us → (k : ℕ) (e : ExportClass) → slice_get us k ≡ Some e → exports.class_named classes e.name ≡ Some e
own_at classes [] all k e h = absurd (cc)
own_at classes (u ∷ us) all zero e h = let same : u ≡ e = cc
    in subst (λ (c : ExportClass). exports.class_named classes c.name ≡ Some c) same all.0
own_at classes (u ∷ us) all (suc k) e h = own_at classes us all.1 k e h

own_kind : (t : ℕ) (d : Class) (f : Found) → own_by_token t d ≡ Some f → f.imported ≡ d.is_imported
unfolding own_by_token
own_kind t d f e = by (position (λ (m : Member). is_virtual m && (m.token == t)) d.methods) e
  where
    by : (o : Option ℕ) → option_map (λ i. member_at d (length d.fields + i)) o ≡ Some f → f.imported ≡ d.is_imported
    by None h = absurd (cc)
    by (Some i) h = let same : member_at d (length d.fields + i) ≡ f = cc in sym (ap (λ (g : Found). g.imported) same)

-- ---- classes above

module _ (p : Package) (facts : Facts p) where
  abbrev w : List Class
  w = world p

  abbrev es : List ExportClass
  es = exported p

  -- a class that is reached over supers from some names, and that is imported
  pub record Reached (names : List (List ℕ)) (d : Class) : Type 0 where
    pub imported : d.is_imported ≡ true
    pub known : class_named w d.name ≡ Some d
    pub above : IsAtOrAbove es names d.name

  abbrev AllReached : (names : List (List ℕ)) → List Class → Type 0
  AllReached names [] = Unit {0}
  AllReached names (d ∷ ds) = Reached names d × AllReached names ds

  reached_both : (names : List (List ℕ)) (ds fs : List Class) → AllReached names ds → AllReached names fs
      → AllReached names (ds ++ fs)
  reached_both names [] fs a b = b
  reached_both names (d ∷ ds) fs a b = (a.0, reached_both names ds fs a.1 b)

  all_reached : (names xs : List (List ℕ)) (k : Supertypes) → AreSupertypes w xs k → ((x : List ℕ) → Lists x xs
      → IsAtOrAbove es names x) → ((x : List ℕ) (d : Class) → Lists x xs → class_named w x ≡ Some d
      → d.is_imported ≡ true) → AllReached names (supertype_trees.upwards k)
  all_reached names xs k ends start own = tt
  all_reached names xs k (unknown_here e next) start own = all_reached names _ _ next (λ x h. start x (after h))
      (λ x d h. own x d (after h))
  all_reached names xs k (known_here {x = x} {xs = xs'} {c = c} {supers = supers} {interfaces = interfaces}
      {next = next} e ks ki kn) start own =
      let is = own x c foremost e in
      let file = facts.in_file x c e is in
      let name = class_named-name w x c e in (
        record {
          imported = is;
          known = ap (class_named w) name ∙ e;
          above = subst (IsAtOrAbove es names) (sym name)
              (start x foremost);
        },
        reached_both names (supertype_trees.upwards supers) (supertype_trees.upwards next)
            (all_reached names c.supers supers ks (λ y h. above file.1 (start x foremost) file.2
            (ap (λ (q : Class). is_one_of q.supers y) (sym file.3) ∙ lists_one y c.supers h))
            (λ y d h named_y. facts.rules.apart x y c d e is h named_y))
            (all_reached names xs' next kn (λ y h. start y (after h)) (λ y d h. own y d (after h))),
      )

  -- what is reached from a listed class is reached from the list
  within : (xs : List (List ℕ)) (k : Supertypes) → AreSupertypes w xs k → (y : List ℕ) (d : Class) → Lists y xs
      → class_named w y ≡ Some d → (m : Member)
      → In m (d.methods ++ all_methods (supertype_trees.upwards (supertypes w d.supers)))
      → In m (all_methods (supertype_trees.upwards k))
  within xs k ends y d h e m there = elim h [ ]
  within xs k (unknown_here {x = x} none next) y d foremost e m there = absurd (cc)
  within xs k (unknown_here none next) y d (after h) e m there = within _ _ next y d h e m there
  within xs k (known_here {c = c} {supers = supers} {next = next} known ks ki kn) y d foremost e m there =
      let same : d ≡ c = cc in
      let supertypes_same : supertypes w c.supers ≡ supers = facts.one_supertypes c.supers (supertypes w c.supers)
      supers (facts.are_supertypes c.supers) ks in
      let here : In m (c.methods ++ all_methods (supertype_trees.upwards supers)) =
      subst (λ q. In m (c.methods ++ all_methods (supertype_trees.upwards q))) supertypes_same
      (subst (λ (q : Class). In m (q.methods ++ all_methods (supertype_trees.upwards (supertypes w q.supers)))) same
      there) in
      ⊎_elim (λ a. In-front m c.methods (all_methods (supertype_trees.upwards supers ++ supertype_trees.upwards next))
      a) (λ b. In-behind m c.methods (all_methods (supertype_trees.upwards supers ++ supertype_trees.upwards next))
      (methods_front m (supertype_trees.upwards supers) (supertype_trees.upwards next) b)) (In-split m c.methods
      (all_methods (supertype_trees.upwards supers)) here)
  within xs k (known_here {c = c} {supers = supers} {next = next} known ks ki kn) y d (after h) e m there =
      In-behind m c.methods (all_methods (supertype_trees.upwards supers ++ supertype_trees.upwards next))
      (methods_back m (supertype_trees.upwards supers) (supertype_trees.upwards next) (within _ _ kn y d h e m
      there))

  -- what is reached over steps is among what stands above
  reached_in : (names : List (List ℕ)) (y : List ℕ) → IsAtOrAbove es names y → ((x : List ℕ) (d : Class) → Lists x names
      → class_named w x ≡ Some d → d.is_imported ≡ true) → (d : Class) → class_named w y ≡ Some d
      → (d.is_imported ≡ true) × ((m : Member)
      → In m (d.methods ++ all_methods (supertype_trees.upwards (supertypes w d.supers)))
      → In m (all_methods (supertype_trees.upwards (supertypes w names))))
  reached_in names y (at is) own d e = (
    own y d (one_lists y names is) e,
    λ m h. within names (supertypes w names)
        (facts.are_supertypes names) y d (one_lists y names is) e m h,
  )
  reached_in names y (above {x = x} u below named_x is) own d e =
      let up = facts.of_file x u named_x in
      let r = reached_in names x below own (imported up.0 u) up.1 in
      let listed : Lists y u.supers = one_lists y u.supers is in (
        facts.rules.apart x y (imported up.0 u) d up.1 refl listed e,
        λ m h. r.1 m (In-behind m (imported up.0 u).methods
            (all_methods (supertype_trees.upwards (supertypes w u.supers))) (within u.supers (supertypes w u.supers)
            (facts.are_supertypes u.supers) y d listed e m h)),
      )

  -- ---- the first that has a method

  first_reached : (own : Class → Option Found) (names : List (List ℕ)) (cs : List Class) (f : Found)
      → AllReached names cs → first own cs ≡ Some f → (d : Class) × Reached names d × (own d ≡ Some f) × ((m : Member)
      → In m d.methods → In m (all_methods cs))
  unfolding first
  first_reached own names [] f all e = absurd (cc)
  first_reached own names (c ∷ cs) f all e = by (own c) refl e (first_reached own names cs f all.1)
    where
      by : (o : Option Found) → own c ≡ o → or_else o (first own cs) ≡ Some f → (first own cs ≡ Some f → (d : Class)
          × Reached names d × (own d ≡ Some f) × ((m : Member) → In m d.methods → In m (all_methods cs)))
          → (d : Class) × Reached names d × (own d ≡ Some f) × ((m : Member) → In m d.methods
          → In m (c.methods ++ all_methods cs))
      by None is h rest = let r = rest h in (r.0, r.1, r.2, λ m i. In-behind m c.methods (all_methods cs) (r.3 m i))
      by (Some g) is h rest = let same : g ≡ f = cc in (
        c,
        all.0,
        is ∙ ap Some same,
        λ m i. In-front m c.methods (all_methods cs) i,
      )

  -- ---- one export file after the other

  -- what a class lists by the token is of this name and descriptor
  abbrev Says : (t : ℕ) (s : Signature) → ExportClass → Type 0
  Says t s e = (m : ExportMethod) → virtual_method t e ≡ Some m → signature_of (method_of_export m) ≡ s

  abbrev AllSay : (t : ℕ) (s : Signature) → List ExportClass → Type 0
  AllSay t s [] = Unit {0}
  AllSay t s (e ∷ cs) = Says t s e × AllSay t s cs

  outward_first : (t : ℕ) (s : Signature) (name : List ℕ) (cs : List ExportClass) → AllSay t s cs
      → (k : ℕ) (e : ExportClass) (m : ExportMethod) → slice_get cs k ≡ Some e → virtual_method t e ≡ Some m
      → dispatched_outward name cs t ≡ Outward (event name s)
  outward_first t s name [] say k e m at_k is = absurd (cc)
  outward_first t s name (c ∷ cs) say k e m at_k is = by (virtual_method t c) refl k at_k (λ j h. outward_first t s name
      cs say.1 j e m h is)
    where
      by : (o : Option ExportMethod) → virtual_method t c ≡ o → (k : ℕ) → slice_get (c ∷ cs) k ≡ Some e
          → ((j : ℕ) → slice_get cs j ≡ Some e → dispatched_outward name cs t ≡ Outward (event name s))
          → outward name o (dispatched_outward name cs t) ≡ Outward (event name s)
      by None own zero h rest =
          let same : c ≡ e = cc in
          let clash : None ≡ Some m = sym own ∙ ap (virtual_method t) same ∙ is in absurd (cc)
      by None own (suc j) h rest = rest j h
      by (Some o) own k h rest = ap (λ (q : Signature). Outward (event name q)) (say.0 o own)

  -- its initialisers are static
  abbrev pub IsPlain : ExportClass → Type 0
  IsPlain e = (k : ℕ) (m : ExportMethod) → slice_get e.methods k ≡ Some m → is_initialiser m.name ≡ true
      → is_static m.flags ≡ true

  -- the class of a method and the class of an export file say the same
  method_says : (t : ℕ) (k : ℕ) (e : ExportClass) (m : ExportMethod) → IsPlain e → virtual_method t e ≡ Some m
      → In (method_of_export m) (imported k e).methods × (is_virtual (method_of_export m) ≡ true) × (m.token ≡ t)
  method_says t k e m plain is =
      let r = find_got (λ (x : ExportMethod). exports.is_virtual x && (x.token == t)) e.methods m is in
      let two = and_true (exports.is_virtual m) (m.token == t) r.2 in (
        in_at (map method_of_export e.methods) r.0 (method_of_export m) (export_at e.methods r.0 m r.1),
        sym (export_virtual m (plain r.0 m r.1)) ∙ two.0,
        number_same m.token t two.1,
      )

  module _ (x : List ℕ) (c : Class) (is : class_named w x ≡ Some c) (import : c.is_imported ≡ true) where
    abbrev line : List Class
    line = c ∷ supertype_trees.upwards (supertypes w c.supers)

    pub has : HasEntry p c
    has = facts.file x c is import

    own_supers : (y : List ℕ) (d : Class) → Lists y c.supers → class_named w y ≡ Some d → d.is_imported ≡ true
    own_supers y d h e = facts.rules.apart x y c d is import h e

    above_all : AllReached c.supers (supertype_trees.upwards (supertypes w c.supers))
    above_all = all_reached c.supers c.supers (supertypes w c.supers) (facts.are_supertypes c.supers)
        (λ y h. at (lists_one y c.supers h)) own_supers

    -- a method of a class by its token
    own_token : (t : ℕ) (d : Class) (f : Found) (s : Signature) → own_by_token t d ≡ Some f
        → class_at w d.is_imported d.number ≡ Some d → named w f ≡ Some s
        → (i : ℕ) × (m : Member) × (slice_get d.methods i ≡ Some m) × (is_virtual m ≡ true) × (m.token ≡ t)
        × (signature_of m ≡ s)
    unfolding own_by_token named
    own_token t d f s e placed names = by (position (λ (m : Member). is_virtual m && (m.token == t)) d.methods) refl e
      where
        by : (o : Option ℕ) → position (λ (m : Member). is_virtual m && (m.token == t)) d.methods ≡ o
            → option_map (λ i. member_at d (length d.fields + i)) o ≡ Some f
            → (i : ℕ) × (m : Member) × (slice_get d.methods i ≡ Some m) × (is_virtual m ≡ true) × (m.token ≡ t)
            × (signature_of m ≡ s)
        by None pos h = absurd (cc)
        by (Some i) pos h =
            let r = position_has (λ (m : Member). is_virtual m && (m.token == t)) d.methods i some_member pos in
            let two = and_true (is_virtual r.0) (r.0.token == t) r.2 in
            let same : member_at d (length d.fields + i) ≡ f = cc in
            let past : nat_lt (length d.fields + i) (length d.fields) ≡ false = grind (arith, nat_tests) in
            let left : length d.fields + i - length d.fields ≡ i = omega arith in
            let told_name : named w (member_at d (length d.fields + i)) ≡ Some (signature_of r.0) =
            ap (option_and_then (member_named w (length d.fields + i))) placed
            ∙ ap (λ b. if b then None else method_named w d (length d.fields + i - length d.fields)) past
            ∙ ap (method_named w d) left
            ∙ ap (option_map signature_of) (get_front d.methods (added w d) i r.0 r.1) in
            let both : Some (signature_of r.0) ≡ Some s = sym told_name ∙ ap (named w) same ∙ names in
            (i, r.0, r.1, two.0, number_same r.0.token t two.1, cc)

    supers_same : c.supers ≡ has.entry.supers
    supers_same = ap (λ (q : Class). q.supers) has.class

    abbrev ups : List ExportClass
    ups = upwards es has.entry.supers

    pub entry_plain : IsPlain has.entry
    entry_plain k m e init =
        let file = facts.in_file x c is import in
        let same : map method_of_export has.entry.methods ≡ map method_of_export file.1.methods =
        sym (ap (λ (q : Class). q.methods) has.class) ∙ ap (λ (q : Class). q.methods) file.3 in
        let r = export_from file.1.methods k (method_of_export m) (sym (ap (λ ms. slice_get ms k) same)
        ∙ export_at has.entry.methods k m e) in
        ap (λ (q : Member). is_static q.flags) (sym r.2)
        ∙ facts.plain x file.1 file.2 k r.0 r.1 (ap (λ (q : Member). is_initialiser q.name) r.2 ∙ init)

    exported_method : (t i k : ℕ) (e : ExportClass) (m : Member) → IsPlain e → slice_get (imported k e).methods i
        ≡ Some m → is_virtual m ≡ true → m.token ≡ t → (o : ExportMethod) × (virtual_method t e ≡ Some o)
    exported_method t i k e m plain at_i virtual token =
        let r = export_from e.methods i m at_i in
        find_there (λ (q : ExportMethod). exports.is_virtual q && (q.token == t)) e.methods i r.0 r.1
        (and_from (exports.is_virtual r.0) (r.0.token == t) (export_virtual r.0 (plain i r.0 r.1) ∙ ap is_virtual r.2
        ∙ virtual) (number_same_number r.0.token t (ap (λ (q : Member). q.token) r.2 ∙ token)))

    -- what is found from an imported class is imported
    pub first_imported_found : (own : Class → Option Found) → ((d : Class) (f : Found) → own d ≡ Some f
        → f.imported ≡ d.is_imported) → (f : Found) → first own line ≡ Some f → f.imported ≡ true
    unfolding first
    first_imported_found own kind f e = by (own c) refl e
      where
        by : (o : Option Found) → own c ≡ o → or_else o (first own (supertype_trees.upwards (supertypes w c.supers)))
            ≡ Some f → f.imported ≡ true
        by (Some g) is_own h = let same : g ≡ f = cc in kind c f (is_own ∙ ap Some same) ∙ import
        by None is_own h = let d = first_reached own c.supers (supertype_trees.upwards (supertypes w c.supers)) f
            above_all h in kind d.0 f d.2 ∙ d.1.imported

    -- a class that is no interface: along it and its supers a virtual token has one name and descriptor
    module _ (class_here : is_interface c.flags ≡ false) where
      told : IsOneToOne (all_methods line)
      told = facts.rules.told x c is import class_here

      -- what any class of the export files above says is what is found
      says_same : (t : ℕ) (m : Member) → In m (all_methods line) → is_virtual m ≡ true → m.token ≡ t
          → (k : ℕ) (e : ExportClass) → IsPlain e
          → ((o : Member) → In o (imported k e).methods → In o (all_methods line)) → Says t (signature_of m) e
      says_same t m there virtual token k e plain sub o is =
          let r = method_says t k e o plain is in
          let both = told (method_of_export o) m (sub (method_of_export o) r.0) there r.1 virtual in
          both.0 (r.2 ∙ sym token)

      all_say : (t : ℕ) (m : Member) → In m (all_methods line) → is_virtual m ≡ true → m.token ≡ t
          → (us : List ExportClass) → ((k : ℕ) (e : ExportClass) → slice_get us k ≡ Some e
          → exports.class_named es e.name ≡ Some e)
          → ((y : List ℕ) → is_one_of (map (λ (e : ExportClass). e.name) us) y ≡ true → IsAtOrAbove es c.supers y)
          → AllSay t (signature_of m) us
      all_say t m there virtual token [] own up = tt
      all_say t m there virtual token (e ∷ us) own up =
          let known = own 0 e refl in
          let d = facts.of_file e.name e known in
          let r = reached_in c.supers e.name (up e.name (ap (λ q. q || is_one_of (map (λ (u : ExportClass). u.name) us)
          e.name) (bytes_same e.name))) own_supers (imported d.0 e) d.1 in (
            says_same t m there virtual token d.0 e (facts.plain e.name e known) (λ o h. In-behind o c.methods
                (all_methods (supertype_trees.upwards (supertypes w c.supers)))
                (r.1 o (In-front o (imported d.0 e).methods
                (all_methods (supertype_trees.upwards (supertypes w e.supers))) h))),
            all_say t m there virtual token us (λ k u h. own (suc k) u h) (λ y h. up y (later_name y h)),
          )
        where
          later_name : (y : List ℕ) → is_one_of (map (λ (u : ExportClass). u.name) us) y ≡ true
              → (bytes_eq e.name y || is_one_of (map (λ (u : ExportClass). u.name) us) y) ≡ true
          later_name y h = by (bytes_eq e.name y)
            where
              by : (q : Bool) → (q || is_one_of (map (λ (u : ExportClass). u.name) us) y) ≡ true
              by true = refl
              by false = h

      -- where one class of these lists a virtual method by the token, the first that does says what is found
      event_by : (t : ℕ) (s : Signature) (m : Member) → In m (all_methods line) → is_virtual m ≡ true → m.token ≡ t
          → signature_of m ≡ s → (k : ℕ) (e : ExportClass) (o : ExportMethod) → slice_get (has.entry ∷ ups) k ≡ Some e
          → virtual_method t e ≡ Some o
          → dispatched_outward has.entry.name (has.entry ∷ ups) t ≡ Outward (event x s)
      event_by t s m there virtual token names k e o at_k finds =
          let head : Says t (signature_of m) has.entry = says_same t m there virtual token has.number has.entry
          entry_plain
          (λ q h. In-front q c.methods (all_methods (supertype_trees.upwards (supertypes w c.supers)))
          (subst (λ (d : Class). In q d.methods) (sym has.class) h)) in
          let tail : AllSay t (signature_of m) ups = all_say t m there virtual token ups
          (own_at es ups (each_own es has.entry.supers))
          (λ y h. subst (λ ns. IsAtOrAbove es ns y) (sym supers_same) (found_is es has.entry.supers y h).0) in
          outward_first t (signature_of m) has.entry.name (has.entry ∷ ups) (head, tail) k e o at_k finds
          ∙ ap (λ q. Outward (event q (signature_of m))) (sym (ap (λ (q : Class). q.name) has.class)
          ∙ class_named-name w x c is)
          ∙ ap (λ q. Outward (event x q)) names

      found_event : (t : ℕ) (f : Found) (s : Signature) → first (own_by_token t) line ≡ Some f → named w f ≡ Some s
          → in_files (exported_line (loaded p) (Some has.entry)) t ≡ Outward (event x s)
      unfolding first
      found_event t f s e names = by (own_by_token t c) refl e
        where
          by : (o : Option Found) → own_by_token t c ≡ o
              → or_else o (first (own_by_token t) (supertype_trees.upwards (supertypes w c.supers))) ≡ Some f
              → dispatched_outward has.entry.name (has.entry ∷ ups) t ≡ Outward (event x s)
          by (Some g) own h =
              let same : g ≡ f = cc in
              let r = own_token t c f s (own ∙ ap Some same) (facts.placed x c is) names in
              let o = exported_method t r.0 has.number has.entry r.1 entry_plain
              (ap (λ (q : Class). slice_get q.methods r.0) (sym has.class) ∙ r.2) r.3 r.4 in
              event_by t s r.1 (In-front r.1 c.methods (all_methods (supertype_trees.upwards (supertypes w c.supers)))
              (in_at c.methods r.0 r.1 r.2)) r.3 r.4 r.5 0 has.entry o.0 refl o.1
          by None own h =
              let d = first_reached (own_by_token t) c.supers (supertype_trees.upwards (supertypes w c.supers)) f
              above_all h in
              let known = d.1.known in
              let r = own_token t d.0 f s d.2 (facts.placed d.0.name d.0 known) names in
              let file = facts.in_file d.0.name d.0 known d.1.imported in
              let name = all_found es has.entry.supers d.0.name file.1 (subst (λ ns. IsAtOrAbove es ns d.0.name)
              supers_same d.1.above) file.2 in
              let u = class_of_name d.0.name ups name in
              let same : u.1 ≡ file.1 =
              let both : Some u.1 ≡ Some file.1 = sym (own_at es ups (each_own es has.entry.supers) u.0 u.1 u.2)
              ∙ ap (exports.class_named es) u.3 ∙ file.2 in cc in
              let o = exported_method t r.0 file.0 file.1 r.1 (facts.plain d.0.name file.1 file.2)
              (ap (λ (q : Class). slice_get q.methods r.0) (sym file.3) ∙ r.2) r.3 r.4 in
              event_by t s r.1 (In-behind r.1 c.methods (all_methods (supertype_trees.upwards (supertypes w c.supers)))
              (d.3 r.1 (in_at d.0.methods r.0 r.1 r.2))) r.3 r.4 r.5 (suc u.0) u.1 o.0 u.2 (ap (virtual_method t)
              same ∙ o.1)

      pub file_says : SaysFile w (naming p) x c
      file_says = record {
        tree = has.file;
        token = has.entry.token;
        entry = has.entry;
        on_card = sym (ap (card_class p) (class_named-name w x c is)) ∙ has.on_card;
        there = has.there;
        imported = λ t f e. first_imported_found (own_by_token t) (own_kind t) f e;
        methods = found_event;
      }
