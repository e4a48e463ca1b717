-- Public and protected methods that selection gives in the joint world: the world of each package on the way gives one
-- with the same flags. So no abstract one is selected on a class of which objects may be (307).
use Rattle.std.proofs.Common.{◌≡◌, ℕ, ◌+◌, refl, sym, ap, subst, ◌∙◌, Bool, true, false, List, length, Option, Some, None}
use Rattle.std.proofs.Common.{inl, ⊎_elim}
use Rattle.std.specs.Prelude.{option_map, position, slice_get}
use Rattle.std.proofs.lemmas.Option.{slice_get-map}
use Rattle.cjc_bytes.specs.AccessFlags.{is_abstract, is_interface}
use Rattle.cjc_bytes.specs.declared.fault.MemberId.{MemberId}
use Rattle.cjc_bytes.proofs.Bools.{true_not_false, true_or_false}
use Rattle.cjc_bytes.proofs.Gets.{mapped_at}
use Rattle.cjc_components.specs.Class.{is_shareable}
use Rattle.cjc_components.specs.ExportFile.{export_class}
use Rattle.cjc_components.specs.Exports.{exported_classes}
use Rattle.cjc_components.specs.Package.{Package, world}
use Rattle.cjc_jvm_semantics.specs.Group.{is_open, own_where}
use Rattle.cjc_jvm_semantics.specs.OnePackage.{ResolvedMember, is_initialiser, method_hit}
use Rattle.cjc_tokens.specs.Members.{Signature}
use Rattle.cjc_vtable.specs.Calls.{is_special}
use Rattle.cjc_world.specs.ClassFile.declared.tree.ClassTree.{ClassTree}
use Rattle.cjc_world.specs.Classes.{Class, Member as WorldMember, all_classes, class_named, declared, imported}
use Rattle.cjc_world.specs.Classes.{method_of_export}
use Rattle.cjc_world.specs.ExportFile.declared.tree.ExportClass.{ExportClass}
use Rattle.cjc_world.specs.ExportFile.declared.tree.ExportMethod.{ExportMethod}
use Rattle.cjc_world.specs.ExportFile.declared.tree.ExportTree.{ExportTree}
use Rattle.cjc_world.specs.Files.{Files}
use Rattle.cjc_world.specs.Lookup.{first, is_called, member_at, own_method, receiver, selected}
use Rattle.cjc_world.specs.Supertypes.{IsAcyclic, line}
use Rattle.cjc_world.specs.declared.found.Found.{Found}
use Rattle.cjc_world.proofs.Cycles.{class_named-name}
use Rattle.cjc_world.proofs.UpwardLaws.Lines.{below_abroad, first_has, line_below, line_named, of_line}
use Rattle.cjc_shape_proof.specs.WorldProof.Calls.Solid.{IsConcrete, IsSolid}
use Rattle.cjc_shape_proof.proofs.ExportedOwn.{IsOwn as IsOwnClass, own_class}
use Rattle.cjc_shape_proof.proofs.WritingLaws.Flags.{interface_kept}
use Rattle.cjc_token_proof.proofs.TablesLaws.Clean.{has_named, kept}
use Rattle.cjc_token_proof.proofs.TablesLaws.Fields.{first_here}
use Rattle.cjc_token_proof.proofs.WorldProofOwn.{hit_is}
use Rattle.cjc_token_proof.proofs.WorldProofSelects.{called_by}
use Rattle.cjc_token_proof.proofs.WorldProofTypes.{receiver_class}
use Rattle.cjc_joint_proof.specs.Worlds.{AreApart, IsOwn, before, found_in, outside_classes}
use Rattle.cjc_joint_proof.proofs.SoundLaws.{apart}
use Rattle.cjc_joint_proof.proofs.WorldLaws.{outside_is_found, own_at_number, own_is_found}
use Rattle.cjc_joint_theorem.specs.Members.{Member, files_of}
use Rattle.cjc_joint_theorem.specs.Together.Homes.{joint_world}
use Rattle.cjc_joint_theorem.proofs.MembersLaws.Worlds.{files_at}
use Rattle.cjc_joint_theorem.proofs.OrderedLaws.Ordered.{ordered}
use Rattle.cjc_joint_theorem.proofs.OrderedLaws.Selected.{where_moves, where_tells}
use Rattle.cjc_joint_whole.specs.Entries.{MeantAreListed}
use Rattle.cjc_joint_whole.specs.Whole.{AreWholeWith, IsWrittenFor}
use Rattle.cjc_joint_whole.proofs.WholeLaws.Climbing.{climbing}
use Rattle.cjc_joint_whole.proofs.WholeLaws.Exposed.{named_here, own_here, stands_once}
use Rattle.cjc_joint_whole.proofs.WholeLaws.Members.{ordered_together}
use Rattle.cjc_joint_whole.proofs.WholeLaws.Shown.{SelectsBy, Shows, called_parts, parts_open, search_from, search_up}
use Rattle.cjc_joint_whole.proofs.WholeLaws.Shown.{shown_listed, shows_above, shows_at, shows_here, where_at}
use Rattle.cjc_joint_whole.proofs.WholeLaws.Solid.{solid_at}
use Rattle.cjc_joint_whole.proofs.WholeLaws.ToldTested.{meant_of, tested_at}

module _ {K : _} (members : List Member) (is : AreWholeWith K members) where
  abbrev group : List Files
  group = files_of members

  abbrev w : List Class
  w = joint_world group

  are_apart : AreApart group
  are_apart = apart group is.sound

  -- what selection in a package's own world rests on
  pub selects_at : (q : ℕ) (p : Member) → slice_get members q ≡ Some p → SelectsBy (all_classes p.files)
  selects_at q p at =
      let k = tested_at members is q p at in
      let solid = k.solid in
      let order = solid.ordered in
      let all = k.keeps in
      record { acyclic = order.acyclic; rules = all.rules; numbered = solid.numbered }

  -- 202: a method is the only one of its name and descriptor in its class
  pub once_called : (q : ℕ) (p : Member) → slice_get members q ≡ Some p → (x : List ℕ) (c : Class)
      → class_named (all_classes p.files) x ≡ Some c → (i : ℕ) (m : WorldMember) → slice_get c.methods i ≡ Some m
      → (name desc : List ℕ) → m.name ≡ name → m.desc ≡ desc
      → position (λ (k : WorldMember). is_called name desc k) c.methods ≡ Some i
  once_called q p at x c named i m there name desc is_name is_desc =
      let s = is.sound.each q p.files (files_at members q p at) in
      let its = kept s.list p.files s.sound c (has_named (all_classes p.files) x c named) in
      first_here (λ (k : WorldMember). is_called name desc k) c.methods i m there (called_by name desc m is_name is_desc)
      (stands_once c.methods i m name desc is_name is_desc (its.methods i m there))

  module _ (id : MemberId) (plain : is_special (record { name = id.name; desc = id.desc }) ≡ false) where
    abbrev s : Signature
    s = record { name = id.name; desc = id.desc }

    abbrev opened : Class → Option Found
    opened = own_where is_open id.name id.desc

    same_found : {a b : Found} → Some a ≡ Some b → a ≡ b
    same_found e = cc

    same_hit : {a b : ResolvedMember} → Some a ≡ Some b → a ≡ b
    same_hit e = cc

    both : {b : Bool} → b ≡ true → b ≡ false → ⊥
    both e g = let no : true ≡ false = sym e ∙ g in cc

    module _ (f : Found) (h : ResolvedMember) (mine : f.imported ≡ false) (told : method_hit w f ≡ Some h) where
      -- the world of a package, from a class of it on
      abbrev ShowsIn : Member → List ℕ → Type 0
      ShowsIn p x = Shows (all_classes p.files) x s h.flags

      module _ (q : ℕ) (p : Member) (at : slice_get members q ≡ Some p) where
        abbrev v : List Class
        v = all_classes p.files

        by_rules : SelectsBy v
        by_rules = selects_at q p at

        -- ---- of a class file of the package

        of_own : (x : List ℕ) (k : ℕ) (t : ClassTree) → (let g = p.files in slice_get g.classes k ≡ Some t)
            → class_named v x ≡ Some (declared k t) → first opened (line w x) ≡ Some f
            → (first opened (line w t.superclass) ≡ Some f → ShowsIn p t.superclass) → ShowsIn p x
        of_own x k t file named found above = by (opened (declared k t)) refl
          where
            c : Class
            c = declared k t

            own : IsOwn group q k p.files t
            own = own_here members is q p at k t file

            b : ℕ
            b = before group q

            d : Class
            d = declared (b + k) t

            in_joint : class_named w x ≡ Some d
            in_joint = ap (class_named w) (sym (class_named-name v x c named)) ∙ own_is_found group are_apart q k
                p.files t own

            acyclic : IsAcyclic w
            acyclic = let o = is.order in o.acyclic

            moved : (o : Option Found) → opened c ≡ o → opened d ≡ option_map (found_in b) o
            moved o e = where_moves is_open id.name id.desc b k t ∙ ap (option_map (found_in b)) e

            by : (o : Option Found) → opened c ≡ o → ShowsIn p x
            by None none = shows_above v by_rules s plain x t.superclass c named refl refl none h.flags
                (above (sym (search_up w acyclic opened x t.superclass d in_joint refl (moved None none)) ∙ found))
            by (Some g) e =
                let a = where_at is_open id.name id.desc c g e in
                let m = a.method in
                let names = called_parts id.name id.desc m a.called in
                let here = search_from w acyclic opened x d in_joint (found_in b g) (moved (Some g) e) in
                let place_is : f ≡ member_at d (length c.fields + a.place) = same_found (sym found ∙ here)
                ∙ ap (found_in b) a.is in
                let hit : h ≡ record { owner = d; flags = m.flags } = same_hit (sym told ∙ ap (method_hit w) place_is
                ∙ hit_is w d a.place m (own_at_number group q k p.files t own) a.there) in
                let once = once_called q p at x c named a.place m a.there id.name id.desc names.0 names.1 in
                subst (Shows v x s) (sym (ap (λ (y : ResolvedMember). y.flags) hit)) (shows_here v by_rules s plain x c
                named a.place m a.there a.called once a.passing)

        -- ---- of a class of an export file

        -- a class from outside has none that is of a class file
        of_outside : (j : ℕ) (e : ExportClass) → slice_get (outside_classes group) j ≡ Some e → (x : List ℕ)
            → e.name ≡ x → first opened (line w x) ≡ Some f → ⊥
        of_outside j e kept_one x name found =
            let order = ordered group (ordered_together members is) in
            let there : class_named w x ≡ Some (imported j e) = ap (class_named w) (sym name)
            ∙ outside_is_found group are_apart is.outside j e kept_one in
            let one = first_has opened (line w x) f found in
            let d = one.0 in
            let on = of_line w order.acyclic x d one.1 in
            both (where_tells is_open id.name id.desc d f one.2 ∙ below_abroad w order x d.name (imported j e) d
            (line_below w x d on) there refl (line_named w x d on)) mine

        module _ (n : ℕ) (e : ExportClass) (x : List ℕ) (named : class_named v x ≡ Some (imported n e))
            (ground : is_interface e.flags ≡ false) where
          -- an entry of the class is a method of it
          of_entry : (i : ℕ) (y : ExportMethod) → slice_get e.methods i ≡ Some y → y.name ≡ id.name → y.desc ≡ id.desc
              → is_open y.flags ≡ true → y.flags ≡ h.flags → ShowsIn p x
          of_entry i y there is_name is_desc open_one is_flags =
              let m = method_of_export y in
              let in_it : slice_get (imported n e).methods i ≡ Some m = slice_get-map method_of_export e.methods i
              ∙ ap (option_map method_of_export) there in
              let once = once_called q p at x (imported n e) named i m in_it id.name id.desc is_name is_desc in
              subst (Shows v x s) is_flags (shows_here v by_rules s plain x (imported n e) named i m in_it (called_by
              id.name id.desc m is_name is_desc) once open_one)

          -- a class of a package before, whose export file lists what is selected there
          module _ (j : ℕ) (m : Member) (there : slice_get members j ≡ Some m) (rest : (y : List ℕ) (c : Class)
              → class_named (all_classes m.files) y ≡ Some c → is_interface c.flags ≡ false → y ≡ x → ShowsIn m y) where
            of_class : (o : Package) → o.files ≡ m.files → MeantAreListed o → (k : ℕ) (d : Class)
                → slice_get (exported_classes o) k ≡ Some d → export_class o d ≡ e → IsOwnClass o d → ShowsIn p x
            of_class o same meant k d at_d is_d c =
                let tree = c.tree in
                let file : (let g = m.files in slice_get g.classes c.number ≡ Some tree) = ap (λ (g : Files). slice_get
                g.classes c.number) (sym same) ∙ c.is_tree in
                let one : d ≡ declared c.number tree = c.is in
                let names : d.name ≡ tree.name = ap (λ (y : Class). y.name) one in
                let tree_named = named_here members is j m there c.number tree file in
                let d_named : class_named (all_classes m.files) d.name ≡ Some d = ap (class_named
                (all_classes m.files)) names ∙ tree_named ∙ ap Some (sym one) in
                let d_ground : is_interface d.flags ≡ false = sym (interface_kept d.flags (is_shareable (world o) d))
                ∙ ap (λ (y : ExportClass). is_interface y.flags) is_d ∙ ground in
                let d_name : d.name ≡ x = ap (λ (y : ExportClass). y.name) is_d ∙ class_named-name v x (imported n e)
                named in
                let shows = rest d.name d d_named d_ground d_name in
                let entry = shown_listed o (subst (λ (g : Files). SelectsBy (all_classes g)) (sym same) (selects_at j m
                there)) meant s plain k d at_d d_ground (subst (λ (g : Files). class_named (all_classes g) d.name
                ≡ Some d) (sym same) d_named) h.flags (subst (λ (g : Files). Shows (all_classes g) d.name s h.flags)
                (sym same) shows) in
                let y = entry.entry in
                let flags : (let k = shows.hit in k.flags) ≡ y.flags = shows.has_flags ∙ sym entry.same_flags in
                of_entry entry.place y (sym (ap (λ (z : ExportClass). slice_get z.methods entry.place) is_d)
                ∙ entry.there) entry.has_name entry.has_desc (ap is_open (sym flags) ∙ parts_open (let k = shows.hit in
                k.flags) shows.selectable shows.exposed) entry.same_flags

            of_listed : (t : ExportTree) → IsWrittenFor m.files t → (k : ℕ) → slice_get t.classes k ≡ Some e
                → ShowsIn p x
            of_listed t written k listed =
                let o = written.exporter in
                let r = mapped_at (export_class o) (exported_classes o) k e (sym (ap (λ (u : ExportTree). slice_get
                u.classes k) written.is) ∙ listed) in
                of_class o written.same_files (meant_of members is j m there t written) k r.0 r.1 r.2
                (own_class o k r.0 r.1)

      -- ---- upwards

      -- What a search for one gives from a class of a package on, which is of a class file, is what selection in the
      -- package's own world gives, a method with these flags.
      pub shown_alone : (q : ℕ) (p : Member) → slice_get members q ≡ Some p → (x : List ℕ) (c : Class)
          → class_named (all_classes p.files) x ≡ Some c → is_interface c.flags ≡ false → first opened (line w x)
          ≡ Some f → ShowsIn p x
      shown_alone q p at x c named ground = climbing members is (λ q p x. first opened (line w x) ≡ Some f
          → ShowsIn p x)
          (λ q p at x k t file named above found. of_own q p at x k t file named found above)
          (λ q p at x n e named ground j m less there t written k listed rest found. of_listed q p at n e x named
          ground j m there (λ y b g plain_one same. rest y b g plain_one (ap (λ z. first opened (line w z)) same
          ∙ found)) t written k listed)
          (λ q p at x n k e named kept_one found. absurd (of_outside q p at k e kept_one x
          (class_named-name (all_classes p.files) x (imported n e) named) found))
          q p at x c named ground

      -- ---- a class of which objects may be

      -- 307
      pub opened_has_code : (q : ℕ) (p : Member) → slice_get members q ≡ Some p → (k : ℕ) (t : ClassTree)
          → (let g = p.files in slice_get g.classes k ≡ Some t) → is_interface t.flags ≡ false → is_abstract t.flags
          ≡ false → is_initialiser id.name ≡ false → first opened (line w t.name) ≡ Some f → is_abstract h.flags ≡ false
      unfolding selected
      opened_has_code q p at k t file ground concrete initial found =
          ⊎_elim (λ bare. absurd (clash bare)) (λ no. no) (true_or_false (is_abstract h.flags))
        where
          v : List Class
          v = all_classes p.files

          solid : IsSolid p.files
          solid = solid_at members is q p at

          named : class_named v t.name ≡ Some (declared k t)
          named = named_here members is q p at k t file

          shows : ShowsIn p t.name
          shows = shown_alone q p at t.name (declared k t) named ground found

          clash : is_abstract h.flags ≡ true → ⊥
          clash bare =
              let a = shows_at v (selects_at q p at) s plain t.name h.flags shows in
              let m = a.method in
              let d = a.class in
              let is_it : IsConcrete (declared k t) = record {
                own = refl;
                no_interface = ground;
                no_abstract = concrete;
              } in
              let name : m.name ≡ id.name = ap (λ (y : Signature). y.name) a.one in
              let desc : m.desc ≡ id.desc = ap (λ (y : Signature). y.desc) a.one in
              let code = solid.implemented t.name (declared k t) d a.number m named is_it (line_named v t.name d a.on)
              (inl a.on) a.there (inl (ap is_abstract a.same_flags ∙ bare)) (ap is_initialiser name ∙ initial) in
              let itself : receiver t.name ≡ t.name = receiver_class t.name (solid.plain t.name (declared k t) named) in
              let place : Some shows.place ≡ Some code.place = sym shows.found
              ∙ ap (λ n. first (own_method true n id.desc) (line v t.name)) (sym name)
              ∙ ap (λ n. first (own_method true m.name n) (line v t.name)) (sym desc)
              ∙ ap (λ y. first (own_method true m.name m.desc) (line v y)) (sym itself) ∙ code.found in
              let hit : shows.hit ≡ code.hit = same_hit (sym shows.is_hit ∙ ap (method_hit v) (same_found place)
              ∙ code.is_hit) in
              true_not_false (is_abstract h.flags) bare (ap is_abstract (sym shows.has_flags)
              ∙ ap (λ (y : ResolvedMember). is_abstract y.flags) hit ∙ code.is_concrete)
