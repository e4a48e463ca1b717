-- Methods that classes have by their files, got, or inherit, as an export file has them: their texts fit, and a method
-- that a slot means is not static.
use Rattle.std.proofs.Common.{◌≡◌, ℕ, zero, suc, ◌+◌, ◌-◌, ◌<◌, ◌^◌, refl, sym, ap, subst, ◌∙◌, arith, Bool, true}
use Rattle.std.proofs.Common.{false, List, [], ◌∷◌, ◌++◌, length, map, ⊎_elim, Option, Some, None}
use Rattle.std.specs.Prelude.{not, ◌&&◌, ◌||◌, ◌==◌, codes, option_and_then, option_map, position, slice_get, unwrap_or}
use Rattle.std.specs.Prelude.{if◌then◌else◌}
use Rattle.std.specs.Str.{bytes_eq}
use Rattle.std.proofs.lemmas.Option.{slice_get-map}
use Rattle.cjc_bytes.specs.AccessFlags.{is_interface, is_private, is_static}
use Rattle.cjc_bytes.specs.Descriptor.{Parts}
use Rattle.cjc_bytes.proofs.Gets.{all_at, in_front, get_behind, mapped_at}
use Rattle.cjc_bytes.proofs.Lists.{bytes_true}
use Rattle.cjc_bytes.proofs.Bools.{both_front}
use Rattle.cjc_world.proofs.ClassFileFitting.{spelt_fits}
use Rattle.cjc_world.specs.ClassFile.Fits as fits
use Rattle.cjc_world.specs.ClassFile.declared.tree.ClassTree.{ClassTree}
use Rattle.cjc_world.specs.ClassFile.declared.tree.MethodTree.{MethodTree}
use Rattle.cjc_components.specs.Descriptor.{as_added, method_in, methods_with_added, no_member}
use Rattle.cjc_components.specs.Package.{Package, world}
use Rattle.cjc_world.specs.ExportFile.Members.{as_desc, is_unbound, not_special}
use Rattle.cjc_world.specs.ExportFile.Writable.{ClassFits, IsText, MethodFits, MethodStands}
use Rattle.cjc_world.specs.ExportFile.declared.tree.ExportClass.{ExportClass}
use Rattle.cjc_world.specs.ExportFile.declared.tree.ExportMethod.{ExportMethod}
use Rattle.cjc_shape.specs.LowerJudge.Rules.{settings_of}
use Rattle.cjc_shape.specs.LowerJudge.declared.judged.Judged.{Judged}
use Rattle.cjc_classes.specs.List.Listed.{ListTree}
use Rattle.cjc_narrow_proof.proofs.BytecodeMembers.{read_class}
use Rattle.cjc_components.specs.Bytecode.ReadLaws.Members.{IsDescOf}
use Rattle.cjc_classes.specs.Subset.Members.{imports}
use Rattle.cjc_tokens.specs.Lines.{Declared, Imported, line_in}
use Rattle.cjc_tokens.specs.Members.{Signature, is_constructor, is_initialiser, is_shown, is_virtual}
use Rattle.cjc_tokens.specs.Slots.{got, implementing, own}
use Rattle.cjc_world.proofs.UpwardLaws.Lines.{first_has, has-cons, line_named, listed_line}
use Rattle.cjc_vtable.proofs.Filed.{Has, IsFiled, at-number, at_front, behind, filed, get-has, has-get, in_class_file}
use Rattle.cjc_vtable.proofs.Filed.{in_export_file, of-imports, has-either}
use Rattle.cjc_vtable.proofs.SlotNames.{position-at}
use Rattle.cjc_vtable.proofs.Read.{each-after}
use Rattle.cjc_world.proofs.Cycles.{class_named-name}
use Rattle.cjc_world.specs.Added.{added, asked_by, by_token, declares_open, has_open, lacking, methods_of}
use Rattle.cjc_world.specs.Added.{own_methods, takes_added, with_token, without_initialiser}
use Rattle.cjc_world.specs.Classes.{Class, Member, class_at, class_named, method_of_class, method_of_export}
use Rattle.cjc_world.specs.Interfaces.{gathered, known}
use Rattle.cjc_world.specs.Supertypes.{End, AreSupertypes, Supertypes, Known, Unknown, ends, supertypes, known_here}
use Rattle.cjc_world.specs.Supertypes.{unknown_here, upwards}
use Rattle.cjc_world.specs.Lookup.{is_called, member_at, or_else}
use Rattle.cjc_world.specs.declared.found.Found.{Found}
use Rattle.cjc_shape_proof.proofs.WrittenLaws.FittingLaws.Exported.{is_bare}
use Rattle.cjc_shape_proof.proofs.WrittenLaws.FittingLaws.Flags.{HasMethodFlags, small_flags}
use Rattle.cjc_shape_proof.proofs.WrittenLaws.FittingLaws.Interfaces.{are_asked}
use Rattle.cjc_shape_proof.proofs.WrittenLaws.FittingLaws.Limited.{acyclic, class_in_bytes, few_imports, are_supertypes}
use Rattle.cjc_shape_proof.proofs.WrittenLaws.FittingLaws.Limited.{unbroken, writable}
use Rattle.cjc_shape_proof.proofs.WrittenLaws.FittingLaws.Order.{has_cons, has_none}
use Rattle.cjc_shape_proof.proofs.WrittenLaws.FittingLaws.Rules as Rules
use Rattle.cjc_shape_proof.specs.Written.LaidOut.{IsLaidOut}
use Rattle.cjc_shape_proof.proofs.WritingLaws.Lacking.{lacking_has}

-- a method as a file gives it: flags of two bytes, texts, and the descriptor of a method
pub record IsMethodRead (m : Member) : Type 0 where
  pub flags : m.flags < 2 ^ 16
  pub name : IsText m.name
  pub desc : IsText m.desc
  pub is_desc : as_desc true m.desc ≡ Some m.desc

-- ---- what an abstract class is asked for

without_has : (ms : List Member) (m : Member) → Has m (without_initialiser ms) → Has m ms
    × (bytes_eq m.name (codes "<clinit>") ≡ false)
without_has [] m h = has_none m h
without_has (x ∷ ms) m h = by (bytes_eq x.name (codes "<clinit>")) refl h (without_has ms m)
  where
    by : (b : Bool) → bytes_eq x.name (codes "<clinit>") ≡ b → Has m (if b then without_initialiser ms
        else x ∷ without_initialiser ms) → (Has m (without_initialiser ms) → Has m ms
        × (bytes_eq m.name (codes "<clinit>") ≡ false)) → Has m (x ∷ ms) × (bytes_eq m.name (codes "<clinit>") ≡ false)
    by true e g rest = let r = rest g in (behind r.0, r.1)
    by false e g rest = ⊎_elim
        (λ same. (
          subst (λ (y : Member). Has y (x ∷ ms)) (sym same) at_front,
          ap (λ (y : Member). bytes_eq y.name (codes "<clinit>")) same ∙ e,
        ))
        (λ i. let r = rest i in (behind r.0, r.1))
        (has_cons m x (without_initialiser ms) g)

with_has : (t : ℕ) (ms : List Member) (m : Member) → Has m (with_token t ms) → Has m ms
with_has t [] m h = has_none m h
with_has t (x ∷ ms) m h = by (x.token == t) h (with_has t ms m)
  where
    by : (b : Bool) → Has m (if b then x ∷ [] else with_token t ms) → (Has m (with_token t ms) → Has m ms)
        → Has m (x ∷ ms)
    by true g rest = ⊎_elim (λ same. subst (λ (y : Member). Has y (x ∷ ms)) (sym same) at_front) (λ i. has_none m i)
        (has_cons m x [] g)
    by false g rest = behind (rest g)

by_has : (n t : ℕ) (ms : List Member) (m : Member) → Has m (by_token n t ms) → Has m ms
by_has zero t ms m h = has_none m h
by_has (suc n) t ms m h = ⊎_elim (λ g. with_has t ms m g) (λ g. by_has n (t + 1) ms m g) (has-either m (with_token t ms)
    (by_token n (t + 1) ms) h)

own_has : (d : Class) (m : Member) → Has m (own_methods d) → Has m d.methods × (bytes_eq m.name (codes "<clinit>")
    ≡ false)
unfolding own_methods
own_has d m h = let r = without_has (if d.is_imported then by_token (length d.methods) 0 d.methods else d.methods) m h
    in (by d.is_imported r.0, r.1)
  where
    by : (b : Bool) → Has m (if b then by_token (length d.methods) 0 d.methods else d.methods) → Has m d.methods
    by true g = by_has (length d.methods) 0 d.methods m g
    by false g = g

asked_has : (ds : List Class) (m : Member) → Has m (methods_of ds) → (d : Class) × Has d ds × Has m (own_methods d)
unfolding methods_of
asked_has [] m h = has_none m h
asked_has (d ∷ ds) m h = ⊎_elim (λ g. (d, at_front, g)) (λ g. let r = asked_has ds m g in (r.0, behind r.1, r.2))
    (has-either m (own_methods d) (methods_of ds) h)

added_asked : (w : List Class) (c : Class) (k : ℕ) (m : Member) → slice_get (added w c) k ≡ Some m → (d : Class)
    × Has d (known (gathered false (supertypes w c.supers) ++ gathered true (supertypes w c.interfaces)))
    × Has m (own_methods d)
unfolding added asked_by
added_asked w c k m e = by (takes_added c) e
  where
    test : Member → Bool
    test q = declares_open q.name q.desc c || has_open q.name q.desc (supertypes w c.supers)

    by : (b : Bool)
        → slice_get (if b then lacking test [] (asked_by (supertypes w c.supers) (supertypes w c.interfaces)) else []) k
        ≡ Some m
        → (d : Class) × Has d (known (gathered false (supertypes w c.supers)
        ++ gathered true (supertypes w c.interfaces))) × Has m (own_methods d)
    by true f = asked_has (known (gathered false (supertypes w c.supers) ++ gathered true (supertypes w c.interfaces)))
        m (lacking_has test [] (asked_by (supertypes w c.supers) (supertypes w c.interfaces)) k m f)
    by false f = cc

-- ---- the package

module _ (list : ListTree) (files : List (List ℕ)) (judged : Judged) (p : Package) (is : IsLaidOut list files judged p)
  where
    abbrev w : List Class
    w = world p

    pub class_method : (n : ℕ) (t : ClassTree) → (let v = p.files in slice_get v.classes n ≡ Some t)
        → (k : ℕ) (m : MethodTree) → slice_get t.methods k ≡ Some m → IsMethodRead (method_of_class m)
    class_method n t e k m at =
        let r = class_in_bytes list files judged p is n t e in
        let fit = spelt_fits t r.0 r.1 r.2 in
        let flags = small_flags t r.0 r.1 r.2 in
        let one = all_at fits.MethodFits t.methods k m fit.methods at in
        let read = read_class t r.0 r.1 r.2 in
        let desc = read.methods k m at in
        let a = one.name in
        let b = one.desc in
        record {
          flags = all_at HasMethodFlags t.methods k m flags.methods at;
          name = omega (arith, a);
          desc = omega (arith, b);
          is_desc = kept desc;
        }
      where
        kept : IsDescOf true m.desc → as_desc true m.desc ≡ Some m.desc
        kept d = ap (option_and_then (λ (x : Parts). if x.is_method then Some m.desc else None)) d.1
            ∙ ap (λ b. if b then Some m.desc else None) d.2

    pub export_method : (k : ℕ) (c : ExportClass) → (let v = p.files in slice_get (imports v.exports) k ≡ Some c)
        → (m : ExportMethod) → Has m c.methods → IsMethodRead (method_of_export m) × (is_interface c.flags ≡ true
        → is_constructor m.name ≡ false)
    export_method k c e m h =
        let v = p.files in
        let o = of-imports c v.exports (get-has c (imports v.exports) k e) in
        let u = o.0 in
        let place = has-get u v.exports o.1 in
        let fits_one = writable list files judged p is place.0 u place.1 in
        let f = (each-after ClassFits [] u.classes c fits_one.classes o.2).1 in
        let r = each-after (MethodStands (is_interface c.flags) (length c.methods)) [] c.methods m f.methods h in
        by (is_interface c.flags) refl r.0 r.1
      where
        read : MethodFits m → IsMethodRead (method_of_export m)
        read f = record { flags = f.flags; name = f.name; desc = f.desc; is_desc = f.is_desc }

        plain : not_special m.name ≡ Some m.name → (b : Bool) → is_constructor m.name ≡ b → b ≡ false
        plain s false g = refl
        plain s true g = let name = bytes_true m.name (codes "<init>") g
            in absurd (let z : None ≡ Some m.name = sym (ap not_special name) ∙ s in cc)

        by : (b : Bool) → is_interface c.flags ≡ b → (before : List ExportMethod)
            → MethodStands b (length c.methods) before m → IsMethodRead (method_of_export m)
            × (is_interface c.flags ≡ true → is_constructor m.name ≡ false)
        by true g before s = (read s.0, λ i. plain s.2 (is_constructor m.name) refl)
        by false g before s = (read s.0, λ i. absurd (let z : true ≡ false = sym i ∙ g in cc))

    -- a method of a class of the world; one of an interface is no constructor
    pub named_method : (x : List ℕ) (d : Class) → class_named w x ≡ Some d → (m : Member) → Has m d.methods
        → IsMethodRead m × (is_interface d.flags ≡ true → is_initialiser m.name ≡ false → is_constructor m.name ≡ false)
    named_method x d e m h = by (filed p.files x d e) h
      where
        by : {c : Class} → IsFiled p.files c → Has m c.methods → IsMethodRead m × (is_interface c.flags ≡ true
            → is_initialiser m.name ≡ false → is_constructor m.name ≡ false)
        by (in_class_file n t at) g =
            let place = has-get m (map method_of_class t.methods) g in
            let k = mapped_at method_of_class t.methods place.0 m place.1 in
            let u = unbroken list files judged p is in
            let r = class_in_bytes list files judged p is n t at in (
              subst IsMethodRead k.2 (class_method n t at place.0 k.0 k.1),
              λ interface start. ap (λ (y : Member). is_constructor y.name) (sym k.2)
                  ∙ (is_bare t r.0 k.0 r.2 (get-has k.0 t.methods place.0 k.1) (Rules.fit_method list.name p.files
                  judged.codes (settings_of list) u.checks n t at place.0 k.0 k.1) interface
                  (ap (λ (y : Member). is_initialiser y.name) k.2 ∙ start)).3,
            )
        by (in_export_file n c at) g =
            let place = has-get m (map method_of_export c.methods) g in
            let k = mapped_at method_of_export c.methods place.0 m place.1 in
            let r = export_method n c at k.0 (get-has k.0 c.methods place.0 k.1) in (
              subst IsMethodRead k.2 r.0,
              λ interface start. ap (λ (y : Member). is_constructor y.name) (sym k.2)
                  ∙ r.1 interface,
            )

    -- a method that a class of the package got
    pub added_method : (x : List ℕ) (c : Class) → class_named w x ≡ Some c → (k : ℕ) (m : Member)
        → slice_get (added w c) k ≡ Some m → IsMethodRead (as_added m)
        × (is_unbound (let a = as_added m in a.flags) m.name ≡ false)
    added_method x c e k m at = let u = unbroken list files judged p is in
        let r = added_asked w c k m at in
        let d = are_asked list.name p.files u.listed (few_imports list files judged p is) u.world
        (acyclic list files judged p is) (are_supertypes list files judged p is) x c r.0 e r.1 in
        let own_one = own_has r.0 m r.2 in
        let n = named_method d.1.0 r.0 d.1.1 m own_one.0 in
        let read = n.0 in
        (record { flags = omega arith; name = read.name; desc = read.desc; is_desc = read.is_desc }, n.1 d.0 own_one.1)

    -- ---- what a slot means

    -- the method that is found, by the class that declares or got it
    pub record IsMeant (f : Found) : Type 0 where
      pub class : Class
      pub is_class : class_at w f.imported f.class ≡ Some class
      pub read : IsMethodRead (method_in w class f.member)
      pub bound : (let m = method_in w class f.member in is_unbound m.flags m.name ≡ false)

    place_meant : (d : Class) → class_named w d.name ≡ Some d → (i : ℕ) (m : Member)
        → slice_get (methods_with_added w d) i ≡ Some m → IsMethodRead m → is_unbound m.flags m.name ≡ false
        → IsMeant (member_at d (length d.fields + i))
    place_meant d named i m at read bound =
        let sub : length d.fields + i - length d.fields ≡ i = omega arith in
        let same : method_in w d (length d.fields + i) ≡ m = ap (λ j. unwrap_or (slice_get (methods_with_added w d) j)
        no_member) sub ∙ ap (λ o. unwrap_or o no_member) at in
        record {
          class = d;
          is_class = at-number p.files d.name d named;
          read = subst IsMethodRead (sym same) read;
          bound = ap (λ (x : Member). is_unbound x.flags x.name) same ∙ bound;
        }

    own_meant : (d : Class) → class_named w d.name ≡ Some d → (test : Member → Bool) → ((m : Member) → test m ≡ true
        → is_unbound m.flags m.name ≡ false) → (s : Signature) (f : Found) → own test s d ≡ Some f → IsMeant f
    unfolding own
    own_meant d named test bound s f e = by (position (λ m. test m && is_called s.name s.desc m) d.methods) refl e
      where
        by : (o : Option ℕ) → position (λ m. test m && is_called s.name s.desc m) d.methods ≡ o
            → option_map (λ i. member_at d (length d.fields + i)) o ≡ Some f → IsMeant f
        by None g h = cc
        by (Some i) g h =
            let same : member_at d (length d.fields + i) ≡ f = cc in
            let r = position-at (λ m. test m && is_called s.name s.desc m) d.methods i g in
            let n = named_method d.name d named r.0 (get-has r.0 d.methods i r.1) in
            subst IsMeant same (place_meant d named i r.0 (in_front d.methods (map as_added (added w d)) i r.0 r.1) n.0
            (bound r.0 (both_front (test r.0) (is_called s.name s.desc r.0) r.2)))

    got_meant : (d : Class) → class_named w d.name ≡ Some d → (s : Signature) (f : Found) → got (added w d) s d ≡ Some f
        → IsMeant f
    unfolding got
    got_meant d named s f e = by (position (λ m. is_called s.name s.desc m) (added w d)) refl e
      where
        by : (o : Option ℕ) → position (λ m. is_called s.name s.desc m) (added w d) ≡ o
            → option_map (λ i. member_at d (length d.fields + length d.methods + i)) o ≡ Some f → IsMeant f
        by None g h = cc
        by (Some i) g h =
            let same : member_at d (length d.fields + length d.methods + i) ≡ f = cc in
            let moved : length d.fields + (length d.methods + i) ≡ length d.fields + length d.methods + i = omega arith
            in
            let r = position-at (λ m. is_called s.name s.desc m) (added w d) i g in
            let n = added_method d.name d named i r.0 r.1 in
            let there : slice_get (methods_with_added w d) (length d.methods + i) ≡ Some (as_added r.0) =
            get_behind d.methods (map as_added (added w d)) i ∙ slice_get-map as_added (added w d) i
            ∙ ap (option_map as_added) r.1 in
            subst IsMeant (ap (member_at d) moved ∙ same) (place_meant d named (length d.methods + i) (as_added r.0)
            there
            n.0 n.1)

    virtual_bound : (m : Member) → is_virtual m ≡ true → is_unbound m.flags m.name ≡ false
    virtual_bound m e = by (is_private m.flags) (is_static m.flags) (is_constructor m.name) (is_initialiser m.name) e
      where
        by : (q s c i : Bool) → ((not q && not s) && not (c || i)) ≡ true → (s || c) ≡ false
        by true s c i e = cc
        by false true c i e = cc
        by false false true i e = cc
        by false false false i e = refl

    shown_bound : (m : Member) → is_shown m ≡ true → is_unbound m.flags m.name ≡ false
    shown_bound m e = virtual_bound m (second _ (is_virtual m) e)
      where
        second : (a b : Bool) → (a && b) ≡ true → b ≡ true
        second true b e = e
        second false b e = cc

    pub line_meant : (xs : List (List ℕ)) (k : Supertypes) → AreSupertypes w xs k → (s : Signature) (f : Found)
        → implementing (line_in w k) s ≡ Some f → IsMeant f
    line_meant xs End ends s f e = cc
    line_meant xs (Unknown x next) (unknown_here g n) s f e = cc
    line_meant xs (Known c supers interfaces next) (known_here {x = x} {xs = rest} g sk ik n) s f e =
        by c.is_imported e (line_meant c.supers supers sk s f)
      where
        named : class_named w c.name ≡ Some c
        named = ap (class_named w) (class_named-name w x c g) ∙ g

        by : (b : Bool) → implementing (if b then Imported (c ∷ upwards supers)
            else Declared c (added w c) (line_in w supers)) s ≡ Some f → (implementing (line_in w supers) s ≡ Some f
            → IsMeant f) → IsMeant f
        by true h above =
            let r = first_has (own is_virtual s) (c ∷ upwards supers) f h in
            ⊎_elim
            (λ same. own_meant r.0 (ap (λ (d : Class). class_named w d.name) same ∙ named
            ∙ ap (λ (d : Class). Some d) (sym same)) is_virtual virtual_bound s f r.2)
            (λ i. let l = listed_line w c.supers supers r.0 sk i in own_meant r.0 (line_named w l.0 r.0 l.2) is_virtual
            virtual_bound s f r.2)
            (has-cons r.0 c (upwards supers) r.1)
        by false h above = own_first (own is_shown s c) refl h
          where
            got_first : (o : Option Found) → got (added w c) s c ≡ o → or_else o (implementing (line_in w supers) s)
                ≡ Some f → IsMeant f
            got_first (Some d) i j = got_meant c named s f (i ∙ j)
            got_first None i j = above j

            own_first : (o : Option Found) → own is_shown s c ≡ o
                → or_else o (or_else (got (added w c) s c) (implementing (line_in w supers) s)) ≡ Some f → IsMeant f
            own_first (Some d) i j = own_meant c named is_shown shown_bound s f (i ∙ j)
            own_first None i j = got_first (got (added w c) s c) refl j
