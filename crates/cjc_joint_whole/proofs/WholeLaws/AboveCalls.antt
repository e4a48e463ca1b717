-- Calls by invokespecial of what stands above the class that holds the code, whichever class or interface declares it: the
-- joint world selects a method with code from the superclass on (206), also for the method that the superclass has.
use Rattle.std.proofs.Common.{◌≡◌, ℕ, ◌+◌, refl, sym, ap, subst, ◌∙◌, Bool, true, false, List, [], ◌∷◌, Option}
use Rattle.std.proofs.Common.{Some, None, ⊎_elim}
use Rattle.std.specs.Prelude.{◌&&◌, ◌||◌, not, option_and_then, slice_get, if◌then◌else◌}
use Rattle.cjc_bytes.specs.AccessFlags.{is_interface, is_private, is_static}
use Rattle.cjc_bytes.specs.declared.fault.MemberId.{MemberId}
use Rattle.cjc_bytes.proofs.Bools.{not_false, or_left, or_right, true_not_false, true_or_false}
use Rattle.cjc_components.specs.Bytecode.declared.insn.JOp.TheVariants as jop
use Rattle.cjc_jvm_semantics.specs.Group.{is_exposed, is_open, is_package_visible, joint, joint_method}
use Rattle.cjc_jvm_semantics.specs.Group.{package_of}
use Rattle.cjc_jvm_semantics.specs.Linked.{Callee, Method}
use Rattle.cjc_jvm_semantics.specs.OnePackage.{ResolvedMember, first_super, is_constructor, is_initialiser, method_hit}
use Rattle.cjc_jvm_semantics.specs.OnePackage.{of_class}
use Rattle.cjc_narrow_proof.specs.Runs.Tables.{narrow_codes}
use Rattle.cjc_narrow_proof.specs.Script.Sorts.{shape_name}
use Rattle.cjc_shape_proof.specs.WorldProof.Calls.Solid.{HasCode, IsSolid}
use Rattle.cjc_shape_proof.proofs.FindsLaws.Calls.{code_above, named_call}
use Rattle.cjc_shape_proof.proofs.FindsLaws.Receivers.{root_of}
use Rattle.cjc_token_proof.proofs.WorldProofOwn.{IsAt, hit_is, mapped_at, own_at, own_is}
use Rattle.cjc_token_proof.proofs.WorldProofSelects.{called_by}
use Rattle.cjc_token_proof.proofs.WorldProofTypes.{below_type, type_below}
use Rattle.cjc_token_proof.specs.Subset.Members as subset
use Rattle.cjc_token_proof.specs.Subset.Members.{imports}
use Rattle.cjc_token_proof.specs.Subset.Names.{is_bodiless, is_unfit_super}
use Rattle.cjc_token_proof.specs.Types.declared.cell.Cell.{Cell}
use Rattle.cjc_token_proof.specs.Types.declared.state.State.{State}
use Rattle.cjc_token_proof.specs.Types.Rules.{names_private, receiver_class as taken_class}
use Rattle.cjc_token_proof.specs.Types.Search.{cells_of}
use Rattle.cjc_vtable.specs.Calls.{is_special}
use Rattle.cjc_vtable.proofs.Filed.{IsFiled, filed, in_class_file, in_export_file}
use Rattle.cjc_world.specs.ClassFile.declared.tree.ClassTree.{ClassTree}
use Rattle.cjc_world.specs.Classes.{Class, Member as WorldMember, all_classes, class_named, declared, imported}
use Rattle.cjc_world.specs.Classes.{method_of_export}
use Rattle.cjc_world.specs.ExportFile.declared.tree.ExportClass.{ExportClass}
use Rattle.cjc_world.specs.Files.{Files}
use Rattle.cjc_world.specs.Interfaces.{gathered, known}
use Rattle.cjc_world.specs.Lookup.{find_method, first, is_selectable, or_else, own_method, receiver, selected}
use Rattle.cjc_world.specs.Subtype.{is_subtype, starts}
use Rattle.cjc_world.specs.Supertypes.{Lists, foremost, is_below, line, supertypes}
use Rattle.cjc_world.specs.Upwards.{Below, IsOrdered, OnLine, here, up}
use Rattle.cjc_world.specs.declared.found.Found.{Found}
use Rattle.cjc_world.proofs.Cycles.{above-class, class_named-name}
use Rattle.cjc_world.proofs.Settled.{supertypes-AreSupertypes}
use Rattle.cjc_world.proofs.UpwardLaws.Lines.{below_line, below_on, first_has, first_some, gathered_above, in_line}
use Rattle.cjc_world.proofs.UpwardLaws.Lines.{line_below, line_named, line_on, of_line, on_line}
use Rattle.cjc_joint_proof.specs.JointNames.{above, selected as joint_selected}
use Rattle.cjc_joint_proof.specs.Worlds.{before}
use Rattle.cjc_joint_proof.proofs.PackageNames.{package_is}
use Rattle.cjc_joint_proof.proofs.SoundLaws.{apart}
use Rattle.cjc_joint_proof.proofs.WorldLaws.{own_is_found}
use Rattle.cjc_joint_theorem.specs.Members.{Member, files_of}
use Rattle.cjc_joint_theorem.specs.Together.Calls.{above_together, selected_together}
use Rattle.cjc_joint_theorem.specs.Together.Calls as together
use Rattle.cjc_joint_theorem.specs.Together.Homes.{joint_world}
use Rattle.cjc_joint_theorem.proofs.MembersLaws.Worlds.{files_at}
use Rattle.cjc_joint_theorem.proofs.OrderedLaws.Ordered.{super_there}
use Rattle.cjc_joint_theorem.proofs.OrderedLaws.Standing.{HasStanding, class_stands}
use Rattle.cjc_joint_whole.specs.ModesCalls.{IsChosenIn, IsNamedCallee, IsReceiverIn, chooses_import, chooses_method}
use Rattle.cjc_joint_whole.specs.Told.{IsToldAbove}
use Rattle.cjc_joint_whole.specs.Whole.{AreWholeWith}
use Rattle.cjc_joint_whole.proofs.WholeLaws.AboveFinds.{IsAbove, open_above}
use Rattle.cjc_joint_whole.proofs.WholeLaws.AboveHidden.{hidden_above}
use Rattle.cjc_joint_whole.proofs.WholeLaws.AboveLines.{either_over}
use Rattle.cjc_joint_whole.proofs.WholeLaws.AboveSights.{IsNamedIn, below_interface, beside_class, single_here}
use Rattle.cjc_joint_whole.proofs.WholeLaws.AboveStanding.{met_open}
use Rattle.cjc_joint_whole.proofs.WholeLaws.Accepted.{receiver_is}
use Rattle.cjc_joint_whole.proofs.WholeLaws.Coded.{IsReachedOf, class_there, found_there, hit_there}
use Rattle.cjc_joint_whole.proofs.WholeLaws.Coded as coded
use Rattle.cjc_joint_whole.proofs.WholeLaws.Exposed.{named_here, own_here}
use Rattle.cjc_joint_whole.proofs.WholeLaws.HiddenStands.{shown_entry}
use Rattle.cjc_joint_whole.proofs.WholeLaws.Implemented.{open_by}
use Rattle.cjc_joint_whole.proofs.WholeLaws.Members.{ordered_together, plain_together, supers_together, type_together}
use Rattle.cjc_joint_whole.proofs.WholeLaws.Nearest.{line_ground, only}
use Rattle.cjc_joint_whole.proofs.WholeLaws.Owners.{HasOwner, own_met, owner_of}
use Rattle.cjc_joint_whole.proofs.WholeLaws.Reached.{IsReached}
use Rattle.cjc_joint_whole.proofs.WholeLaws.Shown.{open_parts}
use Rattle.cjc_joint_whole.proofs.WholeLaws.Solid.{solid_at, spelt as spelt_of}
use Rattle.cjc_joint_whole.proofs.WholeLaws.Specials.{private_is}

-- ---- tests

-- neither private nor static can be selected
may_by : (c : Bool) (flags : ℕ) → is_static flags ≡ false → (c || is_private flags) ≡ false → is_selectable flags ≡ true
may_by c flags e f = by c (is_private flags) (is_static flags) e f
  where
    by : (c p t : Bool) → t ≡ false → (c || p) ≡ false → (not p && not t) ≡ true
    by false false false e f = refl
    by false true t e f = absurd cc
    by false false true e f = absurd cc
    by true p t e f = absurd cc

-- what can be selected is neither
bound_off : (c : Bool) (flags : ℕ) → c ≡ false → is_selectable flags ≡ true → (is_static flags ≡ false)
    × ((c || is_private flags) ≡ false)
bound_off c flags e f = by c (is_private flags) (is_static flags) e f
  where
    by : (c p t : Bool) → c ≡ false → (not p && not t) ≡ true → (t ≡ false) × ((c || p) ≡ false)
    by false false false e f = (refl, refl)
    by false false true e f = absurd cc
    by false true t e f = absurd cc
    by true p t e f = absurd cc

special_off : (a b : Bool) → a ≡ false → b ≡ false → (a || b) ≡ false
special_off false false e f = refl
special_off true b e f = absurd cc
special_off false true e f = absurd cc

last_test : (c p u : Bool) → (c || p) ≡ false → (true && not c && not p && u) ≡ false → u ≡ false
last_test false false u e f = f
last_test true p u e f = absurd cc
last_test false true u e f = absurd cc

same_hit : {a b : ResolvedMember} → Some a ≡ Some b → a ≡ b
same_hit e = cc

-- What the joint world has for a method that a package finds: it is neither static nor private.
record IsMet (members : List Member) (id : MemberId) (hit : ResolvedMember) : Type 0 where
  there : Found
  met : ResolvedMember
  stands : joint_method (joint_world (files_of members)) hit.owner id ≡ Some there
  is_met : method_hit (joint_world (files_of members)) there ≡ Some met
  may : is_selectable met.flags ≡ true

module _ {K : _} (members : List Member) (is : AreWholeWith K members) (tell : IsToldAbove members) (q : ℕ)
    (p : Member)
    (at : slice_get members q ≡ Some p) (m : Method) (t : State) (id : MemberId)
    (r : IsReached p.files (let one = is.each q p at in one.codes) m (jop.Call 0xB7 id) t) (c : IsNamedCallee p.files id)
    (static : (let hit = c.hit in is_static hit.flags) ≡ false)
    (special : (let hit = c.hit in is_constructor id.name || is_private hit.flags) ≡ false) where
  abbrev group : List Files
  group = files_of members

  abbrev w : List Class
  w = joint_world group

  abbrev v : List Class
  v = all_classes p.files

  abbrev stack : List Cell
  stack = cells_of t.stack

  abbrev holder : List ℕ
  holder = let n = m.id in n.class

  abbrev u : ClassTree
  u = r.class

  abbrev number : ℕ
  number = let i = r.insn in let k = i.code in k.class

  file_u : (let f = p.files in slice_get f.classes number ≡ Some u)
  file_u = let i = r.insn in let o = i.of_package in o.is_class

  solid : IsSolid p.files
  solid = solid_at members is q p at

  order : IsOrdered v
  order = solid.ordered

  ordinary : is_constructor id.name ≡ false
  ordinary = let hit = c.hit in or_left (is_constructor id.name) (is_private hit.flags) special

  plain : is_special (record { name = id.name; desc = id.desc }) ≡ false
  plain = special_off (is_constructor id.name) (is_initialiser id.name) ordinary c.no_initialiser

  wanted : (let hit = c.hit in is_selectable hit.flags) ≡ true
  wanted = let hit = c.hit in may_by (is_constructor id.name) hit.flags static special

  single : (x : List ℕ) (d : Class) → class_named v x ≡ Some d → d.is_imported ≡ false → (s : List ℕ)
      × (d.supers ≡ s ∷ [])
  single = single_here members is q p at id plain

  owned : HasOwner p.files id c.place c.hit
  owned = owner_of p.files solid id c.place c.hit c.found c.is_hit

  -- ---- the superclass

  super_one : (d : Class) × (class_named v u.superclass ≡ Some d)
  super_one = super_there group (ordered_together members is) q number p.files u (own_here members is q p at
      number u file_u) u.superclass foremost

  super_ground : (let d = super_one in is_interface (let k = d.0 in k.flags)) ≡ false
  super_ground =
      let d = super_one in
      order.supers u.name u.superclass (declared number u) d.0 (named_here members is q p at number u file_u) foremost d.1

  named_holder : class_named w holder ≡ Some (declared (before group q + number) u)
  named_holder = ap (class_named w) r.holder ∙ own_is_found group (apart group is.sound) q number p.files u
      (own_here members is q p at number u file_u)

  -- 206: the superclass has code for it, and is the named class or below it
  has_code : HasCode v u.superclass id.name id.desc × (is_below v u.superclass id.class ≡ true)
  has_code =
      let one = is.each q p at in
      let whole = one.whole in
      let un = whole.unbroken in
      let spelt = spelt_of one.list p.files one.codes one.settings whole in
      let root = root_of p.files whole.sound in
      let written = narrow_codes p.files p.near p.tables in
      let n = named_call one.list p.files one.codes one.settings un spelt whole.read solid root
      p.image written u 0xB7 id r.insn in
      let o = owned in
      let k = n.at in
      let member = k.member in
      let private_n = private_is p one id n.owner n.place n.at n.found (solid.numbered (let d = n.owner in d.name)
      n.owner n.named) in
      let private_o = private_is p one id o.class c.place o.at c.found (solid.numbered (let d = o.class in d.name)
      o.class o.named) in
      let both : (is_constructor id.name || is_private member.flags) ≡ false = ap (λ b. is_constructor id.name || b)
      (sym private_n ∙ private_o ∙ sym (ap (λ (h : ResolvedMember). is_private h.flags) o.is_hit)) ∙ special in
      let unfit = last_test (is_constructor id.name) (is_private member.flags) (is_unfit_super v u id) both
      n.fit_class in
      let bodiless = is_bodiless (subset.hit v false (selected v u.superclass id.name id.desc)) in (
        code_above one.list p.files one.codes one.settings un spelt whole.read solid root p.image
            written u.superclass id.name id.desc (or_right (not (is_below v u.superclass id.class)) bodiless
            unfit),
        not_false (is_below v u.superclass id.class) (or_left (not (is_below v u.superclass
            id.class)) bodiless unfit),
      )

  -- the named class stands on its line
  named_class : (k : Class) × (class_named v id.class ≡ Some k)
  named_class =
      let o = owned in
      ⊎_elim
      (λ same. (o.class, ap (class_named v) same ∙ o.named))
      (λ far. above-class v id.class (let k = o.class in k.name) far) o.below

  on_named : (let k = named_class in OnLine v u.superclass k.0)
  on_named = let k = named_class in below_line v order.acyclic u.superclass id.class k.0 has_code.1 k.1

  named_name : (let k = named_class in let d = k.0 in d.name) ≡ id.class
  named_name = let k = named_class in class_named-name v id.class k.0 k.1

  below_named : Below v u.superclass id.class
  below_named = let k = named_class in subst (Below v u.superclass) named_name (line_below v u.superclass k.0 on_named)

  -- ---- a public or protected method: no class file on the line of the superclass has a package-visible one

  module _ (shown : (let hit = c.hit in is_package_visible hit.flags) ≡ false) where
    abbrev any : Class → Option Found
    any = own_method false id.name id.desc

    abbrev interfaces : List Class
    interfaces = known (gathered false (supertypes v (id.class ∷ [])))

    abbrev Sight : Type 0
    Sight = (d : Class) → OnLine v u.superclass d → d.is_imported ≡ false → (i : ℕ) (k : WorldMember)
        → slice_get d.methods i ≡ Some k → k.name ≡ id.name → k.desc ≡ id.desc → is_package_visible k.flags ≡ false

    opened : (let hit = c.hit in is_open hit.flags) ≡ true
    opened = let hit = c.hit in open_by hit.flags wanted shown

    exposed_at : (o : Class) → class_named v o.name ≡ Some o → (a : IsAt false id.name id.desc o c.place)
        → is_exposed (let y = a.member in y.flags) ≡ true
    exposed_at o named a =
        let y = a.member in
        let hit : c.hit ≡ record { owner = o; flags = y.flags } = same_hit (sym c.is_hit ∙ ap (method_hit v) a.is
        ∙ hit_is v o a.place y (solid.numbered o.name o named) a.is_member) in
        (open_parts y.flags (sym (ap (λ (h : ResolvedMember). is_open h.flags) hit) ∙ opened)).1

    named_at : (o : Class) (a : IsAt false id.name id.desc o c.place) → IsNamedIn members is q p at id plain o
    named_at o a = record {
      place = a.place;
      method = a.member;
      there = a.is_member;
      has_name = a.has_name;
      has_desc = a.has_desc;
    }

    -- where a class declares it
    of_class_one : first any (line v id.class) ≡ Some c.place → Sight
    unfolding named_at
    of_class_one found d on mine i k there has_name has_desc =
        let one = first_has any (line v id.class) c.place found in
        let o = one.0 in
        let on_o = of_line v order.acyclic id.class o one.1 in
        let a = own_at false id.name id.desc o c.place one.2 in
        let n = named_class in
        let on_super = line_on v u.superclass n.0 o on_named (subst (λ x. OnLine v x o) (sym named_name) on_o) in
        beside_class members is q p at id plain u.superclass d o on mine on_super (record {
          place = i;
          method = k;
          there = there;
          has_name = has_name;
          has_desc = has_desc;
        }) (named_at o a) (exposed_at o (line_named v id.class o on_o) a)

    -- where an interface does: no class on the line of the named one has one
    of_interface_one : first any (line v id.class) ≡ None → first any interfaces ≡ Some c.place → Sight
    unfolding named_at
    of_interface_one none found d on mine i k there has_name has_desc =
        let one = first_has any interfaces c.place found in
        let z = one.0 in
        let above_z = gathered_above v order false (id.class ∷ []) (supertypes v (id.class ∷ [])) z
        (supertypes-AreSupertypes v order.acyclic (id.class ∷ [])) (λ no. absurd (clash no)) one.1 in
        let way : Below v id.class z.name = from above_z.0 above_z.1 z.name above_z.2 in
        let a = own_at false id.name id.desc z c.place one.2 in
        let n = named_class in
        let s = super_one in
        ⊎_elim
        (λ over. below_interface members is q p at id plain d z (line_named v u.superclass d on) mine
        (line_ground v order single u.superclass d on s.0 s.1 super_ground) above_z.3 above_z.4
        (below_on v d.name id.class z.name (subst (Below v d.name) named_name (line_below v d.name n.0 over)) way)
        (record { place = i; method = k; there = there; has_name = has_name; has_desc = has_desc })
        (named_at z a) (exposed_at z above_z.3 a))
        (λ under. absurd (no_other (subst (λ x. OnLine v x d) named_name under)))
        (either_over v order single u.superclass d n.0 on mine on_named)
      where
        clash : false ≡ true → ⊥
        clash e = cc

        no_found : {f : Found} → Some f ≡ None → ⊥
        no_found e = cc

        from : (x : List ℕ) → Lists x (id.class ∷ []) → (y : List ℕ) → Below v x y → Below v id.class y
        from x l y way = subst (λ b. Below v b y) (only x id.class l) way

        no_other : OnLine v id.class d → ⊥
        no_other on_d =
            let has = own_is false id.name id.desc d i k there refl (called_by id.name id.desc k has_name has_desc) in
            let f = first_some any (line v id.class) d has.0 (in_line v order.acyclic id.class d on_d) has.1 in
            no_found (sym f.1 ∙ none)

    sight : Sight
    unfolding find_method
    sight = by (first any (line v id.class)) refl c.found
      where
        by : (o : Option Found) → first any (line v id.class) ≡ o → or_else o (first any interfaces) ≡ Some c.place
            → Sight
        by (Some g) found e = of_class_one (found ∙ e)
        by None found e = of_interface_one found e

    above_shown : (met : ResolvedMember) → is_package_visible met.flags ≡ false
        → IsAbove members is p id u.superclass met
    above_shown met shown_met = let s = super_one in open_above members is tell q p at id c.no_initialiser ordinary plain
        u.superclass s.0 s.1 super_ground has_code.0 sight met shown_met

    -- What the joint world has for it, and what is selected above.
    met_shown : (x : IsMet members id c.hit) × IsAbove members is p id u.superclass x.met
    met_shown =
        let o = owned in
        let s = met_open members is tell q p at id c.no_initialiser ordinary c.place c.hit c.is_hit opened o.class o.named
        o.own o.at o.is_hit in (
          record { there = s.there; met = s.met; stands = s.stands; is_met = s.is_met; may = s.may },
          above_shown s.met s.shown,
        )

  -- ---- a package-visible one is of a class file of the package

  module _ (hidden : (let hit = c.hit in is_package_visible hit.flags) ≡ true) where
    of_interface : (d : Class) → class_named v d.name ≡ Some d → is_interface d.flags ≡ true
        → (a : IsAt false id.name id.desc d c.place)
        → c.hit ≡ record { owner = d; flags = (let x = a.member in x.flags) } → ⊥
    of_interface d named it a told =
        let one = is.each q p at in
        true_not_false (let hit = c.hit in is_package_visible hit.flags) hidden (ap (λ (h : ResolvedMember).
        is_package_visible h.flags) told ∙ one.interfaces d.name d a.place a.member named it a.is_member
        (ap is_initialiser a.has_name ∙ c.no_initialiser))

    of_entry : (n : ℕ) (e : ExportClass) → (let f = p.files in slice_get (imports f.exports) n ≡ Some e)
        → is_interface e.flags ≡ false → (a : IsAt false id.name id.desc (imported n e) c.place)
        → c.hit ≡ record { owner = imported n e; flags = (let x = a.member in x.flags) } → ⊥
    of_entry n e file ground a told =
        let y = mapped_at method_of_export e.methods a.place a.member a.is_member in
        let x = y.0 in
        let flags : (let hit = c.hit in hit.flags) ≡ x.flags = ap (λ (h : ResolvedMember). h.flags) told
        ∙ ap (λ (k : WorldMember). k.flags) y.2 in
        let name : x.name ≡ id.name = sym (ap (λ (k : WorldMember). k.name) y.2) ∙ a.has_name in
        true_not_false (let hit = c.hit in is_package_visible hit.flags) hidden (ap is_package_visible flags
        ∙ shown_entry members is q p at n e file ground a.place x y.1 (sym (ap is_selectable flags) ∙ wanted)
        (ap is_constructor name ∙ ordinary) (ap is_initialiser name ∙ c.no_initialiser))

    of_own : (n : ℕ) (o : ClassTree) → (let f = p.files in slice_get f.classes n ≡ Some o)
        → class_named v o.name ≡ Some (declared n o) → Below v id.class o.name
        → own_method false id.name id.desc (declared n o) ≡ Some c.place
        → (a : IsAt false id.name id.desc (declared n o) c.place)
        → c.hit ≡ record { owner = declared n o; flags = (let x = a.member in x.flags) } → is_interface o.flags ≡ false
        → (x : IsMet members id c.hit) × IsAbove members is p id u.superclass x.met
    of_own n o file named way own a told ground =
        let s = super_one in
        let y = a.member in
        let on = on_line v order u.superclass o.name s.0 (declared n o) (below_on v u.superclass id.class o.name
        below_named way) s.1 super_ground named ground in
        let x = own_met members is q p at id c.no_initialiser c.place c.hit c.is_hit n o file own a told in
        let flags : y.flags ≡ (let hit = c.hit in hit.flags) = sym (ap (λ (h : ResolvedMember). h.flags) told) in
        let met : ResolvedMember = record {
          owner = class_there x.it;
          flags = (let i = x.it in let z = i.method in z.flags);
        } in
        let home = let f = p.files in f.package_name in
        let of_home : package_of (let d = class_there x.it in d.name) ≡ home = ap package_of (x.same_class
        ∙ ap (λ (h : ResolvedMember). let d = h.owner in d.name) told) ∙ package_is home o.name (let apart_one = apart
        group is.sound in apart_one.own q n p.files o (own_here members is q p at n o file)) in (
          record {
            there = found_there x.it;
            met = met;
            stands = x.stands;
            is_met = hit_there members is id x.it;
            may = ap is_selectable x.has_flags ∙ wanted;
          },
          hidden_above members is q p at id c.no_initialiser plain u.superclass s.0 s.1 has_code.0 n o file on a.place y
              a.is_member a.has_name a.has_desc (ap is_selectable flags ∙ wanted) (ap is_package_visible flags ∙ hidden)
              met (ap is_package_visible x.has_flags ∙ hidden) of_home,
        )

    met_hidden : (x : IsMet members id c.hit) × IsAbove members is p id u.superclass x.met
    met_hidden =
        let o = owned in
        by (filed p.files (let d = o.class in d.name) o.class o.named) o.named o.below o.own o.at o.is_hit
      where
        by : {d : Class} → IsFiled p.files d → class_named v d.name ≡ Some d → Below v id.class d.name
            → own_method false id.name id.desc d ≡ Some c.place → (a : IsAt false id.name id.desc d c.place)
            → c.hit ≡ record { owner = d; flags = (let x = a.member in x.flags) }
            → (x : IsMet members id c.hit) × IsAbove members is p id u.superclass x.met
        by (in_class_file n o file) named way own a told =
            ⊎_elim (λ it. absurd (of_interface (declared n o) named it a told))
            (λ ground. of_own n o file named way own a told ground) (true_or_false (is_interface o.flags))
        by (in_export_file n e file) named way own a told =
            ⊎_elim (λ it. absurd (of_interface (imported n e) named it a told))
            (λ ground. absurd (of_entry n e file ground a told)) (true_or_false (is_interface e.flags))

  -- ---- the call

  above_hit : (let o = c.hit in let k = o.owner in is_subtype w id.class k.name) ≡ true
  above_hit = supers_together members is q p.files (files_at members q p at) id.class (let o = c.hit in let k = o.owner
      in k.name) c.above

  -- the receiver is of the class that holds the code
  taken : taken_class v r.body 0xB7 id ≡ holder
  taken =
      let o = owned in
      let one = is.each q p at in
      let private_o = private_is p one id o.class c.place o.at c.found (solid.numbered (let d = o.class in d.name)
      o.class o.named) in
      by (is_constructor id.name) (names_private v id) (ap (λ b. is_constructor id.name || b) (private_o
      ∙ sym (ap (λ (h : ResolvedMember). is_private h.flags) o.is_hit)) ∙ special) ∙ r.of_holder ∙ sym r.holder
    where
      by : (a b : Bool) → (a || b) ≡ false → (if true && not a && not b then (let y = r.body in y.class)
          else id.class) ≡ (let y = r.body in y.class)
      by false false e = refl
      by true b e = absurd cc
      by false true e = absurd cc

  top_here : HasStanding group q p.files u.superclass (let s = super_one in s.0)
  top_here = let s = super_one in class_stands group (ordered_together members is) q p.files (files_at members q p at)
      u.superclass s.0 s.1

  -- receivers are of a class below the superclass
  below_super : (type : List ℕ) → is_subtype w type holder ≡ true → Below w (receiver type) u.superclass
  below_super type of =
      let open_name = plain_together members is holder (declared (before group q + number) u) named_holder in
      let h = top_here in
      let step : Below w holder u.superclass = subst (Below w holder) (class_named-name w u.superclass h.class h.named)
      (line_below w holder h.class (up (declared (before group q + number) u) named_holder foremost (here h.named))) in
      below_on w (receiver type) holder u.superclass (type_below w type holder open_name of) step

  chosen : (type : List ℕ) → Below w (receiver type) u.superclass → (callee : Callee) (y : List ℕ)
      → IsReachedOf members is id true y callee → Below w u.superclass y → starts 91 y ≡ false
      → IsChosenIn members id type callee
  chosen type way _ y (coded.inside own same) on name = chooses_method own (subst (λ z. is_subtype w type z ≡ true)
      (sym same) (below_type w type y name (below_on w (receiver type) u.superclass y way on)))
  chosen type way _ y (coded.abroad e) on name = chooses_import e

  call_stands : (x : IsMet members id c.hit) → IsAbove members is p id u.superclass x.met
      → IsReceiverIn members id p.files holder stack 0xB7
  call_stands x h =
      let met = x.met in
      let bound = bound_off (is_constructor id.name) met.flags ordinary x.may in
      let chooses : above_together group met holder id ≡ Some h.callee = ap (λ k. option_and_then
      (λ y. selected_together group met y id) (first_super k)) named_holder ∙ h.selects in
      let is_above : above (joint group) w p.files (of_class holder id) ≡ Some h.callee = ap (λ k. option_and_then
      (λ y. joint_selected (joint group) w p.files (of_class y (of_class holder id)) y) (first_super k)) named_holder
      ∙ h.looks_up in
      record {
        method = record {
          place = c.place;
          hit = c.hit;
          found = c.found;
          is_hit = c.is_hit;
          again = c.again;
          there = x.there;
          met = met;
          stands = x.stands;
          is_met = x.is_met;
          is_above = above_hit;
          no_initialiser = c.no_initialiser;
          result = λ kind e. type_together members is q p.files (files_at members q p at) kind (c.result kind e);
        };
        class = holder;
        choice = λ type. above_together group met holder id;
        form = together.above_holder h.callee bound.0 special bound.1 chooses is_above;
        choices = λ names on kind some made.
            (let of = receiver_is members is q p at (let one = is.each q p at in one.codes) m t 0xB7 id r refl holder taken
            names on kind some in
            record {
              is_of = of;
              callee = h.callee;
              chooses = chooses;
              is_chosen = chosen (shape_name kind) (below_super (shape_name kind) of) h.callee h.class h.is_reached
                  h.below h.open_name;
            });
      }

  -- it stands
  pub above_stands : IsReceiverIn members id p.files holder stack 0xB7
  above_stands = ⊎_elim
      (λ hidden. (let x = met_hidden hidden in call_stands x.0 x.1))
      (λ shown. (let x = met_shown shown in call_stands x.0 x.1))
      (true_or_false (let hit = c.hit in is_package_visible hit.flags))
