-- The export file of a package lists of each interface the methods that it declares, or an interface above it: its own
-- under their tokens, and those that it inherits under the tokens that it has for them.
use Rattle.std.proofs.Common.{◌≡◌, ℕ, ◌+◌, refl, sym, ap, subst, ◌∙◌, Bool, true, false, List, [], ◌∷◌, ◌++◌, Some}
use Rattle.std.proofs.Common.{Contains, cond, inl, inr, ⊎_elim, length}
use Rattle.std.specs.Prelude.{◌&&◌, ◌||◌, not, option_map, slice_get}
use Rattle.std.proofs.lemmas.Option.{slice_get-map}
use Rattle.cjc_bytes.specs.AccessFlags.{is_interface}
use Rattle.cjc_bytes.proofs.Gets.{contained}
use Rattle.cjc_components.specs.ExportFile.{declares, export_class, method_entry, methods_from, supers_from}
use Rattle.cjc_components.specs.Exports.{exported_classes}
use Rattle.cjc_components.specs.Names.{member_token}
use Rattle.cjc_components.specs.Package.{Package, world}
use Rattle.cjc_jvm_semantics.specs.Group.{is_exposed, is_open}
use Rattle.cjc_jvm_semantics.specs.OnePackage.{is_constructor, is_initialiser}
use Rattle.cjc_shape_proof.proofs.WritingLaws.Entries.{listed_has, supers_has}
use Rattle.cjc_shape_proof.proofs.WritingLaws.Interfaces.{declared_at}
use Rattle.cjc_theorem.proofs.AlikeLaws.VirtualCalls.MethodKinds.{in_get}
use Rattle.cjc_theorem.proofs.AlikeLaws.VirtualCalls.Places.{own_in}
use Rattle.cjc_token_proof.proofs.TablesLaws.Filed.{has-front as front_of}
use Rattle.cjc_token_proof.proofs.TablesLaws.Filed.{has-back as back_of}
use Rattle.cjc_tokens.proofs.TokenLaws.Meant.{found_method, has_token}
use Rattle.cjc_tokens.specs.Members.{Signature, signature_of}
use Rattle.cjc_tokens.specs.Methods.{interface_methods, interface_row}
use Rattle.cjc_vtable.proofs.Filed.{Has as Stands, filed, get-has, has-get}
use Rattle.cjc_world.proofs.Rising.{known-append}
use Rattle.cjc_world.proofs.Settled.{supertypes-AreSupertypes}
use Rattle.cjc_world.proofs.Trees.{lists-split}
use Rattle.cjc_world.proofs.UpwardLaws.Lines.{gathered_has, has-back, has-front}
use Rattle.cjc_world.specs.Added.{asked_by, methods_of, own_methods}
use Rattle.cjc_world.specs.Classes.{Class, Member as WorldMember, class_named}
use Rattle.cjc_world.specs.ExportFile.declared.tree.ExportMethod.{ExportMethod}
use Rattle.cjc_world.specs.Interfaces.{Interface, gathered, known}
use Rattle.cjc_world.specs.Lookup.{member_at, method_of_interface}
use Rattle.cjc_world.specs.Supertypes.{Above, AreSupertypes, Lists, directly, onwards, supertypes}
use Rattle.cjc_world.specs.Upwards.{Below, Has, IsOrdered, foremost}
use Rattle.cjc_world.specs.Upwards as upwards_of
use Rattle.cjc_joint_whole.specs.Told.{FacesListAbove, HasOpenEntry, IsDeclaredAbove}
use Rattle.cjc_joint_whole.proofs.WholeLaws.DeclaredAbove.{exported_named, interface_methods_are, of_interface}
use Rattle.cjc_joint_whole.proofs.WholeLaws.HiddenStands.{no_static}
use Rattle.cjc_joint_whole.proofs.WholeLaws.OwnKept.{IsKeptBy, interface_open, no_initialiser}
use Rattle.cjc_joint_whole.proofs.WholeLaws.Shown.{open_parts}

same_class : {c d : Class} → Some c ≡ Some d → c ≡ d
same_class e = cc

-- each method of an interface but an initialiser is listed
listed_face : (i x s : Bool) → i ≡ true → s ≡ false → ((i || x) && not s) ≡ true
listed_face true x false e f = refl
listed_face true x true e f = absurd cc
listed_face false x s e f = absurd cc

-- what an interface has by tokens, classes that are gathered with it have
asked_there : (cs : List Class) (z : Class) (m : WorldMember) → Has z cs → Stands m (own_methods z)
    → Stands m (methods_of cs)
unfolding methods_of
asked_there [] z m h own = elim h [ ]
asked_there (d ∷ cs) _ m foremost own = front_of m (own_methods d) (methods_of cs) own
asked_there (d ∷ cs) z m (upwards_of.after h) own = back_of m (own_methods d) (methods_of cs) (asked_there cs z m h own)

module _ (p : Package) (kept : IsKeptBy p.files) where
  abbrev w : List Class
  w = world p

  order : IsOrdered w
  order = let s = kept.solid in s.ordered

  are : (xs : List (List ℕ)) → AreSupertypes w xs (supertypes w xs)
  are = supertypes-AreSupertypes w order.acyclic

  module _ (k : ℕ) (c : Class) (name desc : List ℕ) (at : slice_get (exported_classes p) k ≡ Some c)
      (face : is_interface c.flags ≡ true) (ordinary : is_constructor name ≡ false)
      (d : IsDeclaredAbove w c.name name desc) (above_face : (let x = d.class in is_interface x.flags) ≡ true) where
    abbrev z : Class
    z = d.class

    abbrev m : WorldMember
    m = d.method

    abbrev s : Signature
    s = signature_of m

    abbrev its_methods : List ExportMethod
    its_methods = methods_from p c (length c.fields) c.methods

    abbrev its_supers : List ExportMethod
    its_supers = supers_from w c 0 (interface_methods w c) (interface_row w c)

    abbrev asked : List WorldMember
    asked = asked_by (supertypes w c.supers) (supertypes w c.interfaces)

    named_c : class_named w c.name ≡ Some c
    named_c = let o = exported_named p kept k c at in o.0

    own_c : c.is_imported ≡ false
    own_c = let o = exported_named p kept k c at in o.1

    start : is_initialiser m.name ≡ false
    start = no_initialiser p.files kept z.name z d.place m d.named d.there (no_static m.flags (open_parts m.flags
        d.opened).0)

    abbrev faces : List Interface
    faces = gathered true (supertypes w c.interfaces)

    abbrev over_supers : List Interface
    over_supers = gathered false (supertypes w c.supers)

    abbrev Entry : Type 0
    Entry = (let e = export_class p c in HasOpenEntry e.methods name desc)

    entry_there : (x : ExportMethod) → Stands x (its_methods ++ its_supers) → x.name ≡ name → x.desc ≡ desc
        → is_open x.flags ≡ true → Entry
    entry_there x h has_name has_desc opened =
        let i = has-get x (let e = export_class p c in e.methods) (subst (Stands x) (sym (interface_methods_are p kept c
        face)) h) in
        record { place = i.0; entry = x; there = i.1; has_name = has_name; has_desc = has_desc; opened = opened }

    -- ---- of its own

    own_entry : (j : ℕ) (n : WorldMember) → slice_get c.methods j ≡ Some n → n.name ≡ name → n.desc ≡ desc → Entry
    own_entry j n there has_name has_desc =
        let plain : is_initialiser n.name ≡ false = ap is_initialiser (has_name ∙ sym d.has_name) ∙ start in
        let x : ExportMethod = method_entry (member_token p (Some (member_at c (length c.fields + j)))) n in
        entry_there x (front_of x its_methods its_supers (listed_has p c (length c.fields) c.methods j n there
        (listed_face (is_interface c.flags) (is_exposed n.flags) (is_initialiser n.name) face plain))) has_name has_desc
        (interface_open p.files kept c.name c j n named_c face there plain)

    of_itself : c.name ≡ z.name → Entry
    of_itself same =
        let one : z ≡ c = same_class (sym d.named ∙ ap (class_named w) (sym same) ∙ named_c) in
        own_entry d.place m (ap (λ (y : Class). slice_get y.methods d.place) (sym one) ∙ d.there) d.has_name d.has_desc

    -- ---- of an interface above

    -- that interface is among those that stand above
    gathered_there : Above w c.name z.name → Has z (known (over_supers ++ faces))
    gathered_there far = by c.name z.name far refl refl
      where
        over : (y : List ℕ) → Lists y (c.supers ++ c.interfaces) → Below w y z.name
            → Has z (known (over_supers ++ faces))
        over y l way = subst (Has z) (sym (known-append over_supers faces)) (⊎_elim
            (λ a. has-front z (known over_supers) (known faces) (gathered_has w order false y c.supers
            (supertypes w c.supers) z.name z (are c.supers) a way d.named above_face
            (λ v h. inr (order.supers c.name y c v named_c a h))))
            (λ b. has-back z (known over_supers) (known faces) (gathered_has w order true y c.interfaces
            (supertypes w c.interfaces) z.name z (are c.interfaces) b way d.named above_face (λ v h. inl refl)))
            (lists-split y c.supers c.interfaces l))

        by : (x y : List ℕ) → Above w x y → x ≡ c.name → y ≡ z.name → Has z (known (over_supers ++ faces))
        by x y (directly b e l) is_x is_y =
            let one : b ≡ c = same_class (sym e ∙ ap (class_named w) is_x ∙ named_c) in
            over y (subst (λ (u : Class). Lists y (u.supers ++ u.interfaces)) one l) (inl is_y)
        by x y (onwards {y = g} b e l far) is_x is_y =
            let one : b ≡ c = same_class (sym e ∙ ap (class_named w) is_x ∙ named_c) in
            over g (subst (λ (u : Class). Lists g (u.supers ++ u.interfaces)) one l) (inr (subst (Above w g) is_y far))

    has_asked : Above w c.name z.name → Stands m asked
    unfolding asked_by
    has_asked far =
        let own = own_in p.files kept.read z (filed p.files z.name z d.named) above_face d.place m d.there start in
        let i = in_get m (own_methods z) own in
        asked_there (known (over_supers ++ faces)) z m (gathered_there far) (get-has m (own_methods z) i.0 i.1)

    its_token : Above w c.name z.name → (t : ℕ) × (slice_get (interface_methods w c) t ≡ Some s)
    its_token far =
        let i = has-get m (asked ++ own_methods c) (front_of m asked (own_methods c) (has_asked far)) in
        has_token w c m (subst (λ b. Contains (cond b (own_methods c) (asked ++ own_methods c)) m) (sym own_c)
        (contained (asked ++ own_methods c) i.0 m i.1))

    inherited_one : Above w c.name z.name → declares c s ≡ false → Entry
    inherited_one far other =
        let t = its_token far in
        let f = found_method w order.acyclic c named_c t.0 s t.1 in
        let o = of_interface p kept c named_c face m.name m.desc f.0 f.1 in
        let y = o.class in
        let n = o.method in
        let row : slice_get (interface_row w c) t.0 ≡ Some (Some f.0) = slice_get-map (λ (u : Signature).
        method_of_interface w c.name u.name u.desc) (interface_methods w c) t.0 ∙ ap (option_map (λ (u : Signature).
        method_of_interface w c.name u.name u.desc)) t.1 ∙ ap Some f.1 in
        let x : ExportMethod = method_entry (0 + t.0) n in
        entry_there x (back_of x its_methods its_supers (supers_has w c 0 (interface_methods w c) (interface_row w c)
        t.0 s f.0 n t.1 row other o.meant)) (o.has_name ∙ d.has_name) (o.has_desc ∙ d.has_desc)
        (interface_open p.files kept y.name y o.place n o.named o.it o.there (ap is_initialiser o.has_name ∙ start))

    over_one : Above w c.name z.name → Entry
    over_one far = by (declares c s) refl
      where
        by : (b : Bool) → declares c s ≡ b → Entry
        by true e =
            let r = declared_at c.methods s e in
            own_entry r.0 r.1 r.2 (ap (λ (u : Signature). u.name) r.3 ∙ d.has_name) (ap (λ (u : Signature). u.desc) r.3
            ∙ d.has_desc)
        by false e = inherited_one far e

    listed_above : Entry
    listed_above = ⊎_elim of_itself over_one d.below

  pub faces_list_above : FacesListAbove p
  faces_list_above = listed_above
