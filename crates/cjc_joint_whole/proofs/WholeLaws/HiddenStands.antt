-- Calls by invokevirtual of package-visible methods: each is of a class file of the package, and on each object there the
-- joint world selects a method with code of the package.
use Rattle.std.proofs.Common.{◌≡◌, ℕ, ◌+◌, refl, sym, ap, subst, ◌∙◌, Bool, true, false, List, Some, ⊎_elim}
use Rattle.std.specs.Prelude.{◌&&◌, ◌||◌, not, option_and_then, slice_get, if◌then◌else◌}
use Rattle.cjc_bytes.specs.AccessFlags.{is_interface, is_private, is_static}
use Rattle.cjc_bytes.specs.declared.fault.MemberId.{MemberId}
use Rattle.cjc_bytes.proofs.Bools.{true_not_false, true_or_false}
use Rattle.cjc_bytes.proofs.Gets.{mapped_at}
use Rattle.cjc_components.specs.Bytecode.declared.insn.JOp.TheVariants as jop
use Rattle.cjc_components.specs.Bytecode.declared.method_code.MethodCode.{MethodCode}
use Rattle.cjc_components.specs.Class.{is_shareable}
use Rattle.cjc_components.specs.ExportFile.{export_class}
use Rattle.cjc_components.specs.Exports.{exported_classes}
use Rattle.cjc_components.specs.Package.{world}
use Rattle.cjc_jvm_semantics.specs.Group.{is_exposed, is_open, is_package_visible, joint, joint_exports}
use Rattle.cjc_jvm_semantics.specs.Group.{own_where, own_within, package_of, selection_for}
use Rattle.cjc_jvm_semantics.specs.Linked.{Callee, Method}
use Rattle.cjc_jvm_semantics.specs.OnePackage.{ResolvedMember, callee_at, first_imported, is_constructor}
use Rattle.cjc_jvm_semantics.specs.OnePackage.{is_initialiser}
use Rattle.cjc_vtable.specs.Calls.{is_special}
use Rattle.cjc_vtable.proofs.Filed.{IsFiled, filed, get-has, has-get, in_class_file, in_export_file, of-imports}
use Rattle.cjc_world.specs.ClassFile.declared.tree.ClassTree.{ClassTree}
use Rattle.cjc_world.specs.Classes.{Class, Member as WorldMember, all_classes, class_named, declared, imported}
use Rattle.cjc_world.specs.Classes.{method_of_export}
use Rattle.cjc_world.specs.ExportFile.declared.tree.ExportClass.{ExportClass}
use Rattle.cjc_world.specs.ExportFile.declared.tree.ExportMethod.{ExportMethod}
use Rattle.cjc_world.specs.ExportFile.declared.tree.ExportTree.{ExportTree}
use Rattle.cjc_world.specs.Files.{Files}
use Rattle.cjc_world.specs.Lookup.{first, is_selectable, own_method, receiver}
use Rattle.cjc_world.specs.Subtype.{is_subtype, starts}
use Rattle.cjc_world.specs.Supertypes.{line}
use Rattle.cjc_world.specs.Upwards.{Below}
use Rattle.cjc_world.proofs.Subtypes.{transitive}
use Rattle.cjc_world.proofs.UpwardLaws.Lines.{line_below, line_named, on_line}
use Rattle.cjc_narrow_proof.specs.Script.Sorts.{shape_name}
use Rattle.cjc_shape_proof.specs.WorldProof.Calls.Targets.{IsReceiver}
use Rattle.cjc_shape_proof.proofs.WritingLaws.Flags.{interface_kept}
use Rattle.cjc_token_proof.proofs.WorldProofOwn.{IsAt}
use Rattle.cjc_token_proof.proofs.WorldProofOwn as world_own
use Rattle.cjc_token_proof.proofs.WorldProofTypes.{below_type, type_below}
use Rattle.cjc_token_proof.specs.Subset.Members.{imports}
use Rattle.cjc_token_proof.specs.Types.declared.cell.Cell.{Cell}
use Rattle.cjc_token_proof.specs.Types.declared.state.State.{State}
use Rattle.cjc_token_proof.specs.Types.Search.{cells_of}
use Rattle.cjc_joint_proof.specs.Worlds.{AreApart, before}
use Rattle.cjc_joint_proof.proofs.AboveLaws.{flat_at}
use Rattle.cjc_joint_proof.proofs.PackageNames.{package_is}
use Rattle.cjc_joint_proof.proofs.SoundLaws.{apart}
use Rattle.cjc_joint_proof.proofs.WorldLaws.{own_is_found}
use Rattle.cjc_joint_theorem.specs.Members.{Member, files_of}
use Rattle.cjc_joint_theorem.specs.Together.Calls.{selected_together}
use Rattle.cjc_joint_theorem.specs.Together.Calls as together
use Rattle.cjc_joint_theorem.specs.Together.Homes.{joint_world}
use Rattle.cjc_joint_theorem.proofs.MembersLaws.Worlds.{files_at}
use Rattle.cjc_joint_theorem.proofs.OrderedLaws.Ordered.{ordered}
use Rattle.cjc_joint_whole.specs.ModesCalls.{IsChosenIn, IsNamedCallee, IsReceiverIn, chooses_import, chooses_method}
use Rattle.cjc_joint_whole.specs.Whole.{AreWholeWith, IsExport, from_outside, of_member}
use Rattle.cjc_joint_whole.proofs.WholeLaws.Accepted.{receiver_is}
use Rattle.cjc_joint_whole.proofs.WholeLaws.Coded.{IsReachedOf, class_there, code_reached, found_there, hit_there}
use Rattle.cjc_joint_whole.proofs.WholeLaws.Coded as coded
use Rattle.cjc_joint_whole.proofs.WholeLaws.Exposed.{own_here}
use Rattle.cjc_joint_whole.proofs.WholeLaws.Hidden.{hidden_selected}
use Rattle.cjc_joint_whole.proofs.WholeLaws.Members.{ordered_together, plain_together, supers_together, type_together}
use Rattle.cjc_joint_whole.proofs.WholeLaws.Owners.{MetInFile, own_met, owner_of}
use Rattle.cjc_joint_whole.proofs.WholeLaws.Reached.{IsReached}
use Rattle.cjc_joint_whole.proofs.WholeLaws.Receivers.{receiver_in}
use Rattle.cjc_joint_whole.proofs.WholeLaws.Solid.{solid_at}
use Rattle.cjc_joint_whole.proofs.WholeLaws.ToldTested.{virtuals_of}

-- what can be selected is not static
pub no_static : (flags : ℕ) → is_selectable flags ≡ true → is_static flags ≡ false
no_static flags e = by (is_private flags) (is_static flags) e
  where
    by : (p t : Bool) → (not p && not t) ≡ true → t ≡ false
    by p false e = refl
    by true true e = absurd cc
    by false true e = absurd cc

special_off : (a b : Bool) → a ≡ false → b ≡ false → (a || b) ≡ false
special_off false false e f = refl
special_off true b e f = absurd cc
special_off false true e f = absurd cc

-- public or protected is not package-visible
seen_by : (flags : ℕ) → is_exposed flags ≡ true → is_package_visible flags ≡ false
seen_by flags e = by (is_exposed flags) (is_private flags) e
  where
    by : (x p : Bool) → x ≡ true → (not x && not p) ≡ false
    by true p e = refl
    by false p e = absurd cc

module _ {K : _} (members : List Member) (is : AreWholeWith K members) where
  abbrev group : List Files
  group = files_of members

  abbrev w : List Class
  w = joint_world group

  are_apart : AreApart group
  are_apart = apart group is.sound

  -- ---- no class of an export file has one

  module _ (q : ℕ) (p : Member) (at : slice_get members q ≡ Some p) (n : ℕ) (e : ExportClass)
      (file : (let f = p.files in slice_get (imports f.exports) n ≡ Some e)) (ground : is_interface e.flags ≡ false)
      (i : ℕ) (y : ExportMethod) (there : slice_get e.methods i ≡ Some y) (may : is_selectable y.flags ≡ true)
      (ordinary : is_constructor y.name ≡ false) (initial : is_initialiser y.name ≡ false) where
    of_export : (t : ExportTree) (k : ℕ) → slice_get t.classes k ≡ Some e → IsExport members q t
        → is_package_visible y.flags ≡ false
    of_export t k listed (of_member j m less at_m written) =
        let x = written.exporter in
        let r = mapped_at (export_class x) (exported_classes x) k e (sym (ap (λ (u : ExportTree). slice_get u.classes k)
        written.is) ∙ listed) in
        let d = r.0 in
        let d_ground : is_interface d.flags ≡ false = sym (interface_kept d.flags (is_shareable (world x) d))
        ∙ ap (λ (u : ExportClass). is_interface u.flags) r.2 ∙ ground in
        let own = virtuals_of members is j m at_m t written k i d y r.1 d_ground (ap (λ (u : ExportClass).
        slice_get u.methods i) r.2 ∙ there)
        (special_off (is_static y.flags) (is_constructor y.name) (no_static y.flags may) ordinary) in
        let flags : (let z = own.member in z.flags) ≡ y.flags = ap (λ (u : ExportMethod). u.flags) own.is in
        seen_by y.flags (sym (ap is_exposed flags) ∙ own.exposed)
    of_export t k listed (from_outside r kept) =
        let all = flat_at (λ (u : ExportTree). u.classes) (joint_exports group) r k t e kept listed in
        is.shown all.0 i e y all.1 there initial

    pub shown_entry : is_package_visible y.flags ≡ false
    shown_entry =
        let f = p.files in
        let of = of-imports e f.exports (get-has e (imports f.exports) n file) in
        let k = has-get of.0 f.exports of.1 in
        let place = has-get e (let u = of.0 in u.classes) of.2 in
        of_export of.0 place.0 place.1 (is.written q k.0 p of.0 at k.1)

  -- ---- the call

  module _ (q : ℕ) (p : Member) (at : slice_get members q ≡ Some p) (codes : List MethodCode) (m : Method) (t : State)
      (id : MemberId) (r : IsReached p.files codes m (jop.Call 0xB6 id) t) (c : IsNamedCallee p.files id)
      (ordinary : is_constructor id.name ≡ false) (wanted : (let hit = c.hit in is_selectable hit.flags) ≡ true)
      (hidden : (let hit = c.hit in is_package_visible hit.flags) ≡ true) where
    abbrev v : List Class
    v = all_classes p.files

    abbrev hit : ResolvedMember
    hit = c.hit

    abbrev stack : List Cell
    stack = cells_of t.stack

    plain : is_special (record { name = id.name; desc = id.desc }) ≡ false
    plain = special_off (is_constructor id.name) (is_initialiser id.name) ordinary c.no_initialiser

    chosen : (type : List ℕ) (callee : Callee) (y : List ℕ) → IsReachedOf members is id true y callee
        → Below w (receiver type) y → starts 91 y ≡ false → IsChosenIn members id type callee
    chosen type _ y (coded.inside own same) way name = chooses_method own (subst (λ z. is_subtype w type z ≡ true) (sym same)
        (below_type w type y name way))
    chosen type _ y (coded.abroad e) way name = chooses_import e

    -- of a class of the package
    of_class : (holder : List ℕ) (n : ℕ) (o : ClassTree) → (let f = p.files in slice_get f.classes n ≡ Some o)
        → own_method false id.name id.desc (declared n o) ≡ Some c.place → (a : IsAt false id.name id.desc (declared n o)
        c.place) → hit ≡ record { owner = declared n o; flags = (let x = a.member in x.flags) } → is_interface o.flags
        ≡ false → IsReceiverIn members id p.files holder stack 0xB6
    of_class holder n o file own a told ground = record {
      method = record {
        place = c.place;
        hit = c.hit;
        found = c.found;
        is_hit = c.is_hit;
        again = c.again;
        there = found_there x.it;
        met = met;
        stands = x.stands;
        is_met = hit_there members is id x.it;
        is_above = above;
        no_initialiser = c.no_initialiser;
        result = λ kind e. type_together members is q p.files (files_at members q p at) kind (c.result kind e);
      };
      class = id.class;
      choice = λ type. selected_together group met type id;
      form = together.on_class ordinary (ap is_selectable x.has_flags ∙ wanted);
      choices = λ names on kind some made.
          (let of = receiver_is members is q p at codes m t 0xB6 id r refl id.class refl names on kind some in
          let to = selected (shape_name kind) of (receiver_in members is q p at kind made) in
          record { is_of = of; callee = to.0; chooses = to.1; is_chosen = to.2 });
    }
      where
        x : MetInFile members id c.hit
        x = own_met members is q p at id c.no_initialiser c.place c.hit c.is_hit n o file own a told

        met : ResolvedMember
        met = record { owner = class_there x.it; flags = (let y = x.it in let z = y.method in z.flags) }

        a_there : Class
        a_there = declared (before group q + n) o

        home : List ℕ
        home = let f = p.files in f.package_name

        hit_name : o.name ≡ (let u = hit.owner in u.name)
        hit_name = sym (ap (λ (h : ResolvedMember). let u = h.owner in u.name) told)

        member_flags : (let z = a.member in z.flags) ≡ hit.flags
        member_flags = sym (ap (λ (h : ResolvedMember). h.flags) told)

        above : (let u = hit.owner in is_subtype w id.class u.name) ≡ true
        above = supers_together members is q p.files (files_at members q p at) id.class (let u = hit.owner in u.name)
            c.above

        unseen_one : is_package_visible met.flags ≡ true
        unseen_one = ap is_package_visible x.has_flags ∙ hidden

        named_there : class_named w o.name ≡ Some a_there
        named_there = own_is_found group are_apart q n p.files o (own_here members is q p at n o file)

        home_is : package_of (let u = met.owner in u.name) ≡ home
        home_is = ap package_of (x.same_class ∙ sym hit_name) ∙ package_is home o.name (are_apart.own q n p.files o
            (own_here members is q p at n o file))

        selected : (type : List ℕ) → is_subtype w type id.class ≡ true → IsReceiver w (receiver type) → (callee : Callee)
            × (selected_together group met type id ≡ Some callee) × IsChosenIn members id type callee
        selected type of receiver_there =
            let y = receiver type in
            let order = ordered group (ordered_together members is) in
            let open_name = plain_together members is o.name a_there named_there in
            let below : is_subtype w type o.name ≡ true = transitive w type id.class o.name of (ap (is_subtype w id.class)
            hit_name ∙ above) in
            let way : Below w y o.name = type_below w type o.name open_name below in
            let on = on_line w order y o.name receiver_there.class a_there way receiver_there.named
            receiver_there.no_interface named_there ground in
            let u = hidden_selected members is q p at id c.no_initialiser plain n o file a.place a.member a.is_member
            a.has_name a.has_desc (ap is_selectable member_flags ∙ wanted) (ap is_package_visible member_flags ∙ hidden)
            y receiver_there on in
            let event = first_imported (line w y) in
            let selects : selection_for w met type id ≡ Some (found_there u.it) = ap (λ b. let owner = met.owner in if b
            then first (own_within (package_of owner.name) id.name id.desc) (line w y)
            else first (own_where is_open id.name id.desc) (line w y)) unseen_one
            ∙ ap (λ z. first (own_within z id.name id.desc) (line w y)) home_is ∙ u.found in
            let to = code_reached members is id u.it c.no_initialiser true (no_static (let g = u.it in let z = g.method in
            z.flags) u.selectable) u.concrete event in (
              to.0,
              ap (option_and_then (λ k. callee_at (joint group) event id k)) selects ∙ to.1,
              chosen type to.0 (let g = u.it in let z = g.class in z.name) to.2 (line_below w y (class_there u.it) u.on)
                  (plain_together members is (let z = class_there u.it in z.name) (class_there u.it)
                  (line_named w y (class_there u.it) u.on)),
            )

    pub hidden_stands : (holder : List ℕ) → IsReceiverIn members id p.files holder stack 0xB6
    hidden_stands holder =
        let o = owner_of p.files (solid_at members is q p at) id c.place c.hit c.found c.is_hit in
        by (filed p.files (let d = o.class in d.name) o.class o.named) o.named o.own o.at o.is_hit
      where
        of_interface : (d : Class) → class_named v d.name ≡ Some d → is_interface d.flags ≡ true
            → (a : IsAt false id.name id.desc d c.place)
            → hit ≡ record { owner = d; flags = (let x = a.member in x.flags) } → ⊥
        of_interface d named it a told =
            let one = is.each q p at in
            true_not_false (is_package_visible hit.flags) hidden (ap (λ (h : ResolvedMember). is_package_visible h.flags)
            told ∙ one.interfaces d.name d a.place a.member named it a.is_member (ap is_initialiser a.has_name
            ∙ c.no_initialiser))

        of_entry : (n : ℕ) (e : ExportClass) → (let f = p.files in slice_get (imports f.exports) n ≡ Some e)
            → is_interface e.flags ≡ false → (a : IsAt false id.name id.desc (imported n e) c.place)
            → hit ≡ record { owner = imported n e; flags = (let x = a.member in x.flags) } → ⊥
        of_entry n e file ground a told =
            let y = world_own.mapped_at method_of_export e.methods a.place a.member a.is_member in
            let x = y.0 in
            let flags : hit.flags ≡ x.flags = ap (λ (h : ResolvedMember). h.flags) told
            ∙ ap (λ (k : WorldMember). k.flags) y.2 in
            let name : x.name ≡ id.name = sym (ap (λ (k : WorldMember). k.name) y.2) ∙ a.has_name in
            true_not_false (is_package_visible hit.flags) hidden (ap is_package_visible flags ∙ shown_entry q p at n e
            file ground a.place x y.1 (sym (ap is_selectable flags) ∙ wanted) (ap is_constructor name ∙ ordinary)
            (ap is_initialiser name ∙ c.no_initialiser))

        by : {d : Class} → IsFiled p.files d → class_named v d.name ≡ Some d
            → own_method false id.name id.desc d ≡ Some c.place → (a : IsAt false id.name id.desc d c.place)
            → hit ≡ record { owner = d; flags = (let x = a.member in x.flags) }
            → IsReceiverIn members id p.files holder stack 0xB6
        by (in_class_file n o file) named own a told =
            ⊎_elim (λ it. absurd (of_interface (declared n o) named it a told))
            (λ ground. of_class holder n o file own a told ground) (true_or_false (is_interface o.flags))
        by (in_export_file n e file) named own a told =
            ⊎_elim (λ it. absurd (of_interface (imported n e) named it a told))
            (λ ground. absurd (of_entry n e file ground a told)) (true_or_false (is_interface e.flags))
