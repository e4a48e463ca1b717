-- What the joint world has for a public or protected method that a package finds and that can be selected: it is of a
-- class file of the package, of a class from outside, or of a class of a package before or what stands above that.
use Rattle.std.proofs.Common.{◌≡◌, ℕ, ◌+◌, refl, sym, ap, subst, ◌∙◌, Bool, true, false, List, [], ◌∷◌, length, Option}
use Rattle.std.proofs.Common.{Some, None, inl, inr, ⊎_elim}
use Rattle.std.specs.Prelude.{◌&&◌, not, option_and_then, option_map, slice_get, if◌then◌else◌}
use Rattle.cjc_bytes.specs.AccessFlags.{is_interface}
use Rattle.cjc_bytes.specs.declared.fault.MemberId.{MemberId}
use Rattle.cjc_bytes.proofs.Bools.{true_not_false, true_or_false}
use Rattle.cjc_jvm_semantics.specs.Group.{find_exposed, is_exposed, is_open, is_package_visible}
use Rattle.cjc_jvm_semantics.specs.Group.{joint_method, own_where}
use Rattle.cjc_jvm_semantics.specs.OnePackage.{ResolvedMember, is_constructor, is_initialiser, method_hit}
use Rattle.cjc_world.specs.ClassFile.declared.tree.ClassTree.{ClassTree}
use Rattle.cjc_world.specs.Classes.{Class, Member as WorldMember, all_classes, class_at, class_named, declared, imported}
use Rattle.cjc_world.specs.ExportFile.declared.tree.ExportClass.{ExportClass}
use Rattle.cjc_world.specs.ExportFile.declared.tree.ExportTree.{ExportTree}
use Rattle.cjc_world.specs.Files.{Files}
use Rattle.cjc_world.specs.Interfaces.{gathered, known}
use Rattle.cjc_world.specs.Lookup.{first, is_called, is_selectable, member_at, or_else, own_method}
use Rattle.cjc_world.specs.Supertypes.{Lists, foremost, line, supertypes}
use Rattle.cjc_world.specs.Upwards.{Below, IsOrdered}
use Rattle.cjc_world.specs.declared.found.Found.{Found}
use Rattle.cjc_world.proofs.Settled.{supertypes-AreSupertypes}
use Rattle.cjc_world.proofs.UpwardLaws.Lines.{first_has, first_some, gathered_above, gathered_has, in_line, line_below}
use Rattle.cjc_world.proofs.UpwardLaws.Lines.{line_named, of_line, on_line}
use Rattle.cjc_token_proof.proofs.WorldProofOwn.{IsAt, hit_is, is_found}
use Rattle.cjc_token_proof.proofs.WorldProofSelects.{called_by}
use Rattle.cjc_token_proof.specs.Subset.Members.{imports}
use Rattle.cjc_joint_proof.specs.Worlds.{AreApart, before, found_at, hit_at, outside_classes}
use Rattle.cjc_joint_proof.proofs.ForeignLaws.{foreign_hit_at, foreign_method}
use Rattle.cjc_joint_proof.proofs.SoundLaws.{apart}
use Rattle.cjc_joint_proof.proofs.WorldLaws.{outside_at_number, outside_is_found, own_at_number, own_is_found}
use Rattle.cjc_joint_theorem.specs.Members.{Member, files_of}
use Rattle.cjc_joint_theorem.specs.Together.Homes.{joint_world}
use Rattle.cjc_joint_theorem.proofs.OrderedLaws.Ordered.{IsJoint, joint_class, ordered, outside_file, own_file}
use Rattle.cjc_joint_whole.specs.Told.{IsDeclaredAbove, IsToldAbove}
use Rattle.cjc_joint_whole.specs.Whole.{AreWholeWith, IsWrittenFor}
use Rattle.cjc_joint_whole.proofs.WholeLaws.Coded.{class_there, found_there, hit_there}
use Rattle.cjc_joint_whole.proofs.WholeLaws.Exposed.{own_here}
use Rattle.cjc_joint_whole.proofs.WholeLaws.Imports.{exported}
use Rattle.cjc_joint_whole.proofs.WholeLaws.Members.{ordered_together}
use Rattle.cjc_joint_whole.proofs.WholeLaws.Nearest.{only}
use Rattle.cjc_joint_whole.proofs.WholeLaws.Owners.{MetInFile, own_met}
use Rattle.cjc_joint_whole.proofs.WholeLaws.Shown.{IsWhere, called_parts, open_parts, parts_open, where_at}
use Rattle.cjc_joint_whole.proofs.WholeLaws.Solid.{solid_at}
use Rattle.cjc_joint_whole.proofs.WholeLaws.Sources.{source}
use Rattle.cjc_joint_whole.proofs.WholeLaws.ToldKinds.{above_kept, faces_open}

-- What the joint world has for a method that a package finds: one that can be selected, which is public or protected, in
-- the class of the name or in a class or interface above it, for one of an interface in an interface.
pub record IsMetOpen (members : List Member) (id : MemberId) (hit : ResolvedMember) : Type 0 where
  pub there : Found
  pub met : ResolvedMember
  pub stands : joint_method (joint_world (files_of members)) hit.owner id ≡ Some there
  pub is_met : method_hit (joint_world (files_of members)) there ≡ Some met
  pub may : is_selectable met.flags ≡ true
  pub shown : is_package_visible met.flags ≡ false
  pub class : Class
  pub named : class_named (joint_world (files_of members)) class.name ≡ Some class
  pub owner : is_interface (let c = met.owner in c.flags) ≡ is_interface class.flags
  pub place : ℕ
  pub method : WorldMember
  pub is_method : slice_get class.methods place ≡ Some method
  pub has_name : method.name ≡ id.name
  pub has_desc : method.desc ≡ id.desc
  pub opened : is_open method.flags ≡ true
  pub below : Below (joint_world (files_of members)) (let c = hit.owner in c.name) class.name
  pub top : Class
  pub top_named : class_named (joint_world (files_of members)) (let c = hit.owner in c.name) ≡ Some top
  pub same_kind : is_interface top.flags ≡ is_interface (let c = hit.owner in c.flags)
  pub kind : is_interface (let c = hit.owner in c.flags) ≡ true → is_interface class.flags ≡ true

same_class : {c d : Class} → Some c ≡ Some d → c ≡ d
same_class e = cc

-- public or protected is not package-visible
pub seen_by : (flags : ℕ) → is_open flags ≡ true → is_package_visible flags ≡ false
seen_by flags e = by (is_selectable flags) (is_package_visible flags) e
  where
    by : (s v : Bool) → (s && not v) ≡ true → v ≡ false
    by true false e = refl
    by true true e = absurd cc
    by false v e = absurd cc

module _ {K : _} (members : List Member) (is : AreWholeWith K members) where
  abbrev group : List Files
  group = files_of members

  abbrev w : List Class
  w = joint_world group

  order : IsOrdered w
  order = ordered group (ordered_together members is)

  are_apart : AreApart group
  are_apart = apart group is.sound

  pub numbered_there : (x : List ℕ) (c : Class) → class_named w x ≡ Some c → class_at w c.is_imported c.number ≡ Some c
  numbered_there x c named = by c (joint_class group x c named)
    where
      by : (c : Class) → IsJoint group c → class_at w c.is_imported c.number ≡ Some c
      by _ (own_file q k p t own) = own_at_number group q k p t own
      by _ (outside_file n e kept) = outside_at_number group n e kept

  module _ (q : ℕ) (p : Member) (at : slice_get members q ≡ Some p) (id : MemberId)
      (initial : is_initialiser id.name ≡ false) (ordinary : is_constructor id.name ≡ false) (place : Found)
      (hit : ResolvedMember) (is_hit : method_hit (all_classes p.files) place ≡ Some hit)
      (wanted : is_open hit.flags ≡ true) where
    abbrev v : List Class
    v = all_classes p.files

    -- of a class file of the package
    pub own_open : (n : ℕ) (t : ClassTree) → (let f = p.files in slice_get f.classes n ≡ Some t)
        → own_method false id.name id.desc (declared n t) ≡ Some place → (a : IsAt false id.name id.desc (declared n t)
        place) → hit ≡ record { owner = declared n t; flags = (let m = a.member in m.flags) } → IsMetOpen members id hit
    own_open n t file own a told = record {
      there = found_there x.it;
      met = record { owner = class_there x.it; flags = (let y = x.it in let z = y.method in z.flags) };
      stands = x.stands;
      is_met = hit_there members is id x.it;
      may = parts.0;
      shown = seen_by (let y = x.it in let z = y.method in z.flags) its_open;
      class = class_there x.it;
      named = named;
      owner = refl;
      place = (let y = x.it in y.place);
      method = (let y = x.it in y.method);
      is_method = (let y = x.it in y.is_method);
      has_name = (let y = x.it in y.has_name);
      has_desc = (let y = x.it in y.has_desc);
      opened = its_open;
      below = inl (sym x.same_class);
      top = class_there x.it;
      top_named = ap (class_named w) (sym x.same_class) ∙ named;
      same_kind = ap (λ (c : Class). is_interface c.flags) one ∙ owner_kind;
      kind = λ it. ap (λ (c : Class). is_interface c.flags) one ∙ owner_kind ∙ it;
    }
      where
        x : MetInFile members id hit
        x = own_met members is q p at id initial place hit is_hit n t file own a told

        its_open : is_open (let y = x.it in let z = y.method in z.flags) ≡ true
        its_open = ap is_open x.has_flags ∙ wanted

        parts : (is_selectable (let y = x.it in let z = y.method in z.flags) ≡ true) × (is_exposed (let y = x.it in let z =
            y.method in z.flags) ≡ true)
        parts = open_parts (let y = x.it in let z = y.method in z.flags) its_open

        named : class_named w (let c = class_there x.it in c.name) ≡ Some (class_there x.it)
        named = let y = x.it in let g = y.member in own_is_found group are_apart y.part y.number g.files y.class
            (own_here members is y.part y.member y.at y.number y.class y.file)

        hit_name : t.name ≡ (let c = hit.owner in c.name)
        hit_name = sym (ap (λ (h : ResolvedMember). let c = h.owner in c.name) told)

        owner_kind : is_interface t.flags ≡ is_interface (let c = hit.owner in c.flags)
        owner_kind = sym (ap (λ (h : ResolvedMember). let c = h.owner in is_interface c.flags) told)

        one : class_there x.it ≡ declared (before group q + n) t
        one = same_class (sym named ∙ ap (class_named w) (x.same_class ∙ sym hit_name) ∙ own_is_found group are_apart q n
            p.files t (own_here members is q p at n t file))

    -- of a class from outside
    pub outside_open : (n : ℕ) (e : ExportClass) → (let f = p.files in slice_get (imports f.exports) n ≡ Some e)
        → class_named v e.name ≡ Some (imported n e) → own_method false id.name id.desc (imported n e) ≡ Some place
        → (a : IsAt false id.name id.desc (imported n e) place)
        → hit ≡ record { owner = imported n e; flags = (let m = a.member in m.flags) } → (k : ℕ)
        → slice_get (outside_classes group) k ≡ Some e → IsMetOpen members id hit
    outside_open n e file named own a told k kept =
        let s = solid_at members is q p at in
        let foreign = s.numbered e.name (imported n e) named in
        let parts = open_parts hit.flags wanted in
        let there = outside_is_found group are_apart is.outside k e kept in
        let owner_name : e.name ≡ (let c = hit.owner in c.name) = sym (ap (λ (h : ResolvedMember). let c = h.owner in
        c.name) told) in
        let owner_kind : is_interface (let c = hit.owner in c.flags) ≡ is_interface e.flags =
        ap (λ (h : ResolvedMember). let c = h.owner in is_interface c.flags) told in
        record {
          there = found_at k place;
          met = hit_at k hit;
          stands = ap (λ (h : ResolvedMember). joint_method w h.owner id) told
              ∙ foreign_method group are_apart is.outside k n p.files e kept foreign id place own;
          is_met = foreign_hit_at group are_apart is.outside k n p.files e kept foreign id place own hit is_hit;
          may = parts.0;
          shown = seen_by hit.flags wanted;
          class = imported k e;
          named = there;
          owner = owner_kind;
          place = a.place;
          method = a.member;
          is_method = a.is_member;
          has_name = a.has_name;
          has_desc = a.has_desc;
          opened = sym (ap (λ (h : ResolvedMember). is_open h.flags) told) ∙ wanted;
          below = inl (sym owner_name);
          top = imported k e;
          top_named = ap (class_named w) (sym owner_name) ∙ there;
          same_kind = sym owner_kind;
          kind = λ it. sym owner_kind ∙ it;
        }

    -- of a class of a package before
    module _ (tell : IsToldAbove members) (n : ℕ) (e : ExportClass)
        (named : class_named v e.name ≡ Some (imported n e)) (a : IsAt false id.name id.desc (imported n e) place)
        (told : hit ≡ record { owner = imported n e; flags = (let m = a.member in m.flags) })
        (ground : is_interface e.flags ≡ false) (j : ℕ) (g : Member) (there : slice_get members j ≡ Some g)
        (t : ExportTree) (written : IsWrittenFor g.files t) (k : ℕ) (listed : slice_get t.classes k ≡ Some e) where
      abbrev exposed : Class → Option Found
      exposed = own_where is_exposed id.name id.desc

      abbrev all_interfaces : List Class
      all_interfaces = known (gathered false (supertypes w (e.name ∷ [])))

      -- The class of the joint world, and the method above it.
      record IsHere : Type 0 where
        class : Class
        at_name : class_named w e.name ≡ Some class
        own : class.is_imported ≡ false
        ground_here : is_interface class.flags ≡ false

      is_here : IsHere
      is_here =
          let o = exported g.files t written k e listed in
          let kind = o.kind in
          record {
            class = declared (before group j + o.number) o.class;
            at_name = ap (class_named w) (sym o.same_name) ∙ own_is_found group are_apart j o.number g.files o.class
                (own_here members is j g there o.number o.class o.file);
            own = refl;
            ground_here = kind.interface ∙ ground;
          }

      member_open : is_open (let m = a.member in m.flags) ≡ true
      member_open = sym (ap (λ (h : ResolvedMember). is_open h.flags) told) ∙ wanted

      above : IsDeclaredAbove w e.name id.name id.desc
      above =
          let s = source members is tell q p at e.name (imported n e) named a.place a.member a.is_member member_open
          (ap is_constructor a.has_name ∙ ordinary) in
          let m = a.member in
          subst (λ y. IsDeclaredAbove w e.name y id.desc) a.has_name (subst (λ y. IsDeclaredAbove w e.name m.name y)
          a.has_desc s.0)

      -- What is found is of a class or interface above it.
      record IsExposedAbove : Type 0 where
        place_there : Found
        found : find_exposed w e.name id ≡ Some place_there
        owner_there : Class
        below : Below w e.name owner_there.name
        owner_named : class_named w owner_there.name ≡ Some owner_there
        where_it_is : IsWhere is_exposed id.name id.desc owner_there place_there
        -- one of a class is found on the line
        on_line_first : is_interface owner_there.flags ≡ false → first exposed (line w e.name) ≡ Some place_there

      own_exposed : (g : Found) × (exposed (let d = above in d.class) ≡ Some g)
      own_exposed =
          let d = above in
          let c = d.class in
          let m = d.method in
          let parts = open_parts m.flags d.opened in
          let passes : (is_exposed m.flags && is_called id.name id.desc m) ≡ true = ap (λ b. b && is_called id.name
          id.desc m) parts.1 ∙ called_by id.name id.desc m d.has_name d.has_desc in
          let r = is_found (λ (y : WorldMember). is_exposed y.flags && is_called id.name id.desc y) c.methods d.place m
          d.there passes in
          (member_at c (length c.fields + r.0), ap (option_map (λ y. member_at c (length c.fields + y))) r.1)

      on_its_line : (f : Found) → first exposed (line w e.name) ≡ Some f → IsExposedAbove
      on_its_line f found =
          let one = first_has exposed (line w e.name) f found in
          let d = one.0 in
          let on = of_line w order.acyclic e.name d one.1 in
          record {
            place_there = f;
            found = ap (λ o. or_else o (first exposed all_interfaces)) found;
            owner_there = d;
            below = line_below w e.name d on;
            owner_named = line_named w e.name d on;
            where_it_is = where_at is_exposed id.name id.desc d f one.2;
            on_line_first = λ plain. found;
          }

      in_interfaces : first exposed (line w e.name) ≡ None → IsExposedAbove
      in_interfaces none =
          let d = above in
          let c = d.class in
          let h = is_here in
          let its = own_exposed in
          let are = supertypes-AreSupertypes w order.acyclic (e.name ∷ []) in
          let it : is_interface c.flags ≡ true = ⊎_elim (λ e. e) (λ plain. absurd (on_line_too plain)) (true_or_false
          (is_interface c.flags)) in
          let has = gathered_has w order false e.name (e.name ∷ []) (supertypes w (e.name ∷ [])) c.name c are foremost
          d.below d.named it (λ b f. inr (ap (λ (y : Class). is_interface y.flags) (same_class (sym f ∙ h.at_name))
          ∙ h.ground_here)) in
          let f = first_some exposed all_interfaces c its.0 has its.1 in
          let one = first_has exposed all_interfaces f.0 f.1 in
          let up = gathered_above w order false (e.name ∷ []) (supertypes w (e.name ∷ [])) one.0 are (λ no. absurd
          (clash no)) one.1 in
          record {
            place_there = f.0;
            found = ap (λ o. or_else o (first exposed all_interfaces)) none ∙ f.1;
            owner_there = one.0;
            below = from up.0 up.1 (let y = one.0 in y.name) up.2;
            owner_named = up.3;
            where_it_is = where_at is_exposed id.name id.desc one.0 f.0 one.2;
            on_line_first = λ plain. absurd (true_not_false (let y = one.0 in is_interface y.flags) up.4 plain);
          }
        where
          clash : false ≡ true → ⊥
          clash e = cc

          no_found : {f : Found} → Some f ≡ None → ⊥
          no_found e = cc

          from : (x : List ℕ) → Lists x (e.name ∷ []) → (y : List ℕ) → Below w x y → Below w e.name y
          from x l y way = subst (λ a. Below w a y) (only x e.name l) way

          on_line_too : (let d = above in let c = d.class in is_interface c.flags) ≡ false → ⊥
          on_line_too plain =
              let d = above in
              let c = d.class in
              let h = is_here in
              let its = own_exposed in
              let on = on_line w order e.name c.name h.class c d.below h.at_name h.ground_here d.named plain in
              let f = first_some exposed (line w e.name) c its.0 (in_line w order.acyclic e.name c on) its.1 in
              no_found (sym f.1 ∙ none)

      found_above : IsExposedAbove
      found_above = by (first exposed (line w e.name)) refl
        where
          by : (o : Option Found) → first exposed (line w e.name) ≡ o → IsExposedAbove
          by (Some f) found = on_its_line f found
          by None none = in_interfaces none

      pub shared_open : IsMetOpen members id hit
      shared_open =
          let x = found_above in
          let h = is_here in
          let d = above in
          let c = x.owner_there in
          let b = x.where_it_is in
          let m = b.method in
          let names = called_parts id.name id.desc m b.called in
          let is_m = ap (method_hit w) b.is ∙ hit_is w c b.place m (numbered_there c.name c x.owner_named) b.there in
          let may : is_selectable m.flags ≡ true = ⊎_elim
          (λ it. (open_parts m.flags (faces_open members is c x.owner_named it b.place m b.there (ap is_initialiser names.0
          ∙ initial))).0)
          (λ plain. above_kept members is tell id initial ordinary x.place_there (record { owner = c; flags = m.flags })
          is_m q p at e.name (imported n e) named ground h.class h.at_name h.own h.ground_here (x.on_line_first plain) d)
          (true_or_false (is_interface c.flags)) in
          let open_one = parts_open m.flags may b.passing in
          let owner_name : (let c = hit.owner in c.name) ≡ e.name = ap (λ (h : ResolvedMember). let c = h.owner in c.name)
          told in
          let owner_kind : is_interface (let c = hit.owner in c.flags) ≡ is_interface e.flags =
          ap (λ (h : ResolvedMember). let c = h.owner in is_interface c.flags) told in
          record {
            there = x.place_there;
            met = record { owner = c; flags = m.flags };
            stands = ap (λ (h : ResolvedMember). joint_method w h.owner id) told
                ∙ ap (option_and_then (λ (y : Class). if true && not y.is_imported then find_exposed w e.name id
                else own_method false id.name id.desc y)) h.at_name
                ∙ ap (λ b. if true && not b then find_exposed w e.name id else own_method false id.name id.desc h.class)
                h.own ∙ x.found;
            is_met = is_m;
            may = may;
            shown = seen_by m.flags open_one;
            class = c;
            named = x.owner_named;
            owner = refl;
            place = b.place;
            method = m;
            is_method = b.there;
            has_name = names.0;
            has_desc = names.1;
            opened = open_one;
            below = subst (λ y. Below w y c.name) (sym owner_name) x.below;
            top = h.class;
            top_named = ap (class_named w) owner_name ∙ h.at_name;
            same_kind = h.ground_here ∙ sym ground ∙ sym owner_kind;
            kind = λ it. absurd (true_not_false (is_interface e.flags) (sym owner_kind ∙ it) ground);
          }
