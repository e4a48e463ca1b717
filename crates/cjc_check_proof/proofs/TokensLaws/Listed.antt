-- Export files list the virtual methods that an imported class has by its token.
use Rattle.std.proofs.Common.{◌≡◌, ℕ, ◌+◌, ◌==◌, refl, sym, ap, subst, ◌∙◌, arith, Bool, true, false, List, [], ◌∷◌}
use Rattle.std.proofs.Common.{◌++◌, length, map, ⊎_elim}
use Rattle.std.specs.Prelude.{Option, Some, None, option_map, position, not, ◌&&◌, ◌||◌}
use Rattle.std.specs.List.{AllByRecursion, list_any}
use Rattle.std.specs.Str.{bytes_eq}
use Rattle.std.proofs.lemmas.Bool.Decides.{nat_tests}
use Rattle.std.proofs.lemmas.Map.Keys.{any_passes_from_place}
use Rattle.cjc_bytes.specs.AccessFlags.{is_interface, is_private, is_static}
use Rattle.cjc_bytes.proofs.Bools.{and_true}
use Rattle.cjc_bytes.proofs.Lists.{bytes_true}
use Rattle.cjc_bytes.proofs.Numbers.{like_number}
use Rattle.cjc_capread.specs.declared.tree.ClassRef.TheVariants.{Outside}
use Rattle.cjc_world.specs.ExportFile.declared.tree.ExportClass.{ExportClass}
use Rattle.cjc_world.specs.ExportFile.declared.tree.ExportMethod.{ExportMethod}
use Rattle.cjc_world.specs.ExportFile.Supers.{IsAtOrAbove, above, at, classes_of, has_virtual, inherits_virtual}
use Rattle.cjc_world.specs.ExportFile.Supers.{is_one_of}
use Rattle.cjc_world.specs.ExportFile.Supers.{lists_virtual, upwards}
use Rattle.cjc_world.specs.ExportFile.Supers as exports
use Rattle.cjc_world.proofs.ExportFileUpwards.{all_found, each_own}
use Rattle.cjc_check_rules.specs.Members.{class_has, in_imported}
use Rattle.cjc_world.specs.declared.found.Found.{Found}
use Rattle.cjc_world.specs.Classes.{Class, Member, class_named, imported, method_of_export}
use Rattle.cjc_world.specs.Supertypes.{AreSupertypes, Supertypes, Lists, after, ends, foremost, supertypes, known_here}
use Rattle.cjc_world.specs.Supertypes.{unknown_here}
use Rattle.cjc_world.specs.Supertypes as supertype_trees
use Rattle.cjc_world.specs.Lookup.{first, member_at, or_else}
use Rattle.cjc_world.proofs.Cycles.{class_named-name}
use Rattle.cjc_tokens.specs.Members.{In, all_methods, is_constructor, is_initialiser, is_virtual}
use Rattle.cjc_vtable.specs.Dispatch.{own_by_token}
use Rattle.cjc_vtable.specs.Laws.{KeepsRules}
use Rattle.cjc_vtable.proofs.Calls.{In-behind, In-front}
use Rattle.cjc_vtable.proofs.Given.{In-split, all_methods-append}
use Rattle.cjc_vtable.proofs.SlotNames.{position-at}
use Rattle.cjc_components.specs.Package.{Package, world}
use Rattle.cjc_components.specs.Names.{class_ref}
use Rattle.cjc_token_proof.specs.Components.Whole.{exports_of}
use Rattle.cjc_token_proof.specs.Tables.Infos.{HasEntry}
use Rattle.cjc_token_proof.specs.Tables.Sound.{IsSound}
use Rattle.cjc_token_proof.proofs.TablesLaws.Clean.{has_named}
use Rattle.cjc_token_proof.proofs.TablesLaws.Named.{has_entry}
use Rattle.cjc_check_proof.proofs.ClassesLaws.Supers.{entry_there}
use Rattle.cjc_token_proof.proofs.WrittenCalls.Files.{export_from, in_at, lists_one, place_in}
use Rattle.cjc_token_proof.proofs.WrittenCalls.Known.{in_file}

-- ---- methods by token

-- what is found by a token going upwards is a virtual method that has it
first_by_token : (t : ℕ) (cs : List Class) (f : Found) → first (own_by_token t) cs ≡ Some f → (m : Member)
    × In m (all_methods cs) × (is_virtual m ≡ true) × (m.token ≡ t)
unfolding first own_by_token
first_by_token t [] f e = absurd (cc)
first_by_token t (c ∷ cs) f e = by (position (λ (m : Member). is_virtual m && (m.token == t)) c.methods) refl e
    (first_by_token t cs f)
  where
    by : (o : Option ℕ) → position (λ (m : Member). is_virtual m && (m.token == t)) c.methods ≡ o
        → or_else (option_map (λ i. member_at c (length c.fields + i)) o) (first (own_by_token t) cs) ≡ Some f
        → (first (own_by_token t) cs ≡ Some f → (m : Member) × In m (all_methods cs) × (is_virtual m ≡ true)
        × (m.token ≡ t)) → (m : Member) × In m (c.methods ++ all_methods cs) × (is_virtual m ≡ true) × (m.token ≡ t)
    by None g h rest = let r = rest h in (r.0, In-behind r.0 c.methods (all_methods cs) r.1, r.2, r.3)
    by (Some i) g h rest =
        let r = position-at (λ (m : Member). is_virtual m && (m.token == t)) c.methods i g in
        let two = and_true (is_virtual r.0) (r.0.token == t) r.2 in
        (r.0, In-front r.0 c.methods (all_methods cs) (in_at c.methods i r.0 r.1), two.0, number_same r.0.token t two.1)
      where
        number_same : (a b : ℕ) → (a == b) ≡ true → a ≡ b
        number_same a b e = grind (arith, nat_tests, e)

export_virtual : (x : ExportMethod) → is_virtual (method_of_export x) ≡ true → exports.is_virtual x ≡ true
export_virtual x e = by (is_static x.flags) (is_private x.flags) (is_constructor x.name) (is_initialiser x.name) e
  where
    by : (s q c i : Bool) → ((not q && not s) && not (c || i)) ≡ true → not (s || q || c) ≡ true
    by false false false i f = refl
    by false false true i f = absurd (cc)
    by s true c i f = absurd (cc)
    by true false c i f = absurd (cc)

-- a class that an export file describes lists its virtual methods by their tokens
listed : (t k : ℕ) (e : ExportClass) (m : Member) → In m (imported k e).methods → is_virtual m ≡ true → m.token ≡ t
    → lists_virtual t e ≡ true
listed t k e m i virtual token =
    let j = place_in (map method_of_export e.methods) m i in
    let x = export_from e.methods j.0 m j.1 in
    let its : (x.0.token == t) ≡ true = ap (λ (q : Member). q.token == t) x.2 ∙ ap (λ n. n == t) token ∙ like_number t
    in
    any_passes_from_place (λ (y : ExportMethod). exports.is_virtual y && (y.token == t)) e.methods j.0 x.0 x.1
    (ap (λ b. b && (x.0.token == t)) (export_virtual x.0 (ap is_virtual x.2 ∙ virtual)) ∙ its)

-- ---- classes above an imported class

-- where one of these has the name, and the class of the name passes
any_named : (es : List ExportClass) (test : ExportClass → Bool) (us : List ExportClass) (y : List ℕ)
    → is_one_of (map (λ (u : ExportClass). u.name) us) y ≡ true
    → AllByRecursion (λ (u : ExportClass). exports.class_named es u.name ≡ Some u) us
    → ((u : ExportClass) → exports.class_named es y ≡ Some u → test u ≡ true) → list_any test us ≡ true
any_named es test [] y e all passes = absurd (cc)
any_named es test (u ∷ us) y e all passes = by (bytes_eq u.name y) refl e (λ h. any_named es test us y h all.1 passes)
  where
    second : (a b : Bool) → b ≡ true → (a || b) ≡ true
    second true b f = refl
    second false b f = f

    by : (b : Bool) → bytes_eq u.name y ≡ b → (b || is_one_of (map (λ (v : ExportClass). v.name) us) y) ≡ true
        → (is_one_of (map (λ (v : ExportClass). v.name) us) y ≡ true → list_any test us ≡ true)
        → (test u || list_any test us) ≡ true
    by true f g rest =
        ap (λ b. b || list_any test us) (passes u (ap (exports.class_named es) (sym (bytes_true u.name y f)) ∙ all.0))
    by false f g rest = second (test u) (list_any test us) (rest g)

module _ (list : List ℕ) (p : Package) (sound : IsSound list p.files) (are_supertypes : (xs : List (List ℕ))
    → AreSupertypes (world p) xs (supertypes (world p) xs)) (rules : KeepsRules (world p)) where
  abbrev w : List Class
  w = world p

  abbrev es : List ExportClass
  es = classes_of (exports_of p)

  -- a class that stands above some names over the supers of imported classes
  record IsFar (names : List (List ℕ)) (m : Member) : Type 0 where
    class : Class
    import : class.is_imported ≡ true
    known : class_named w class.name ≡ Some class
    stands : IsAtOrAbove es names class.name
    lists : In m class.methods

  far : (names xs : List (List ℕ)) (k : Supertypes) → AreSupertypes w xs k → ((x : List ℕ) → Lists x xs
      → IsAtOrAbove es names x) → ((x : List ℕ) (d : Class) → Lists x xs → class_named w x ≡ Some d
      → d.is_imported ≡ true) → (m : Member) → In m (all_methods (supertype_trees.upwards k)) → IsFar names m
  far names xs k ends start own m i = elim i [ ]
  far names xs k (unknown_here e next) start own m i = far names _ _ next (λ x h. start x (after h))
      (λ x d h. own x d (after h)) m i
  far names xs k (known_here {x = x} {xs = xs'} {c = c} {supers = supers} {interfaces = interfaces} {next = next} e ks
      ki kn) start own m i =
      let is = own x c foremost e in
      let name = class_named-name w x c e in
      let file = in_file list p sound x c e is in
      ⊎_elim
      (λ j. record {
        class = c;
        import = is;
        known = ap (class_named w) name ∙ e;
        stands = subst (IsAtOrAbove es names) (sym name) (start x foremost);
        lists = j;
      })
      (λ j. ⊎_elim
      (λ h. far names c.supers supers ks (λ y l. above file.1 (start x foremost) file.2
      (ap (λ (q : Class). is_one_of q.supers y) (sym file.3) ∙ lists_one y c.supers l)) (λ y d l n. rules.apart x y
      c d e is l n) m h)
      (λ h. far names xs' next kn (λ y l. start y (after l)) (λ y d l. own y d (after l)) m h)
      (all_methods-append (supertype_trees.upwards supers) (supertype_trees.upwards next) m j))
      (In-split m c.methods (all_methods (supertype_trees.upwards supers ++ supertype_trees.upwards next)) i)

  -- an imported class has each virtual method that it or a super lists
  module _ (x : List ℕ) (c : Class) (e : class_named w x ≡ Some c) (im : c.is_imported ≡ true) where
    pub entry : HasEntry p c
    entry = has_entry list p sound c (has_named w x c e) im

    pub has_listed : (t : ℕ) (m : Member) → In m (all_methods (c ∷ supertype_trees.upwards (supertypes w c.supers)))
        → is_virtual m ≡ true → m.token ≡ t → has_virtual es t entry.entry ≡ true
    has_listed t m i virtual token = ⊎_elim
        (λ j. ap (λ b. b || inherits_virtual es t entry.entry) (listed t entry.number entry.entry m
        (subst (λ (q : Class). In m q.methods) entry.class j) virtual token))
        (λ j. second (lists_virtual t entry.entry) (inherits_virtual es t entry.entry)
        (inherited (far c.supers c.supers (supertypes w c.supers) (are_supertypes c.supers)
        (λ y l. at (lists_one y c.supers l)) (λ y d l n. rules.apart x y c d e im l n) m j)))
        (In-split m c.methods (all_methods (supertype_trees.upwards (supertypes w c.supers))) i)
      where
        second : (a b : Bool) → b ≡ true → (a || b) ≡ true
        second true b f = refl
        second false b f = f

        inherited : IsFar c.supers m → inherits_virtual es t entry.entry ≡ true
        inherited f =
            let d = f.class in
            let file = in_file list p sound d.name d f.known f.import in
            let stands : IsAtOrAbove es entry.entry.supers d.name =
            subst (λ (q : Class). IsAtOrAbove es q.supers d.name) entry.class f.stands in
            any_named es (lists_virtual t) (upwards es entry.entry.supers) d.name (all_found es entry.entry.supers
            d.name file.1 stands file.2) (each_own es entry.entry.supers)
            (λ u n. (let both_one : Some u ≡ Some file.1 = sym n ∙ file.2 in
            let one : file.1 ≡ u = cc in
            ap (lists_virtual t) (sym one) ∙ listed t file.0 file.1 m (subst (λ (q : Class). In m q.methods) file.3
            f.lists) virtual token))

    -- so where it is no interface, its class_ref has it
    pub imported_has : is_interface c.flags ≡ false → (t : ℕ) (f : Found)
        → first (own_by_token t) (c ∷ supertype_trees.upwards (supertypes w c.supers)) ≡ Some f
        → in_imported (exports_of p) (class_ref p x) t ≡ true
    imported_has class_here t f found =
        let m = first_by_token t (c ∷ supertype_trees.upwards (supertypes w c.supers)) f found in
        ap (λ y. in_imported (exports_of p) (class_ref p y) t) (sym (class_named-name w x c e))
        ∙ ap (λ q. in_imported (exports_of p) q t) entry.ref
        ∙ ap (λ o. class_has (exports_of p) o t) (entry_there list p sound c entry)
        ∙ ap (λ b. not b && has_virtual es t entry.entry) (sym (ap (λ (q : Class). is_interface q.flags) entry.class)
        ∙ class_here)
        ∙ has_listed t m.0 m.1 m.2 m.3

    pub is_outside : (o : ℕ) × (n : ℕ) × (class_ref p x ≡ Outside o n)
    is_outside = (entry.file, entry.entry.token, ap (class_ref p) (sym (class_named-name w x c e)) ∙ entry.ref)
