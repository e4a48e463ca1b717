-- What is selected above a class of a package that holds code, from its superclass on, where the superclass has code for
-- it (206), and no class file on its line has a package-visible method of that name and descriptor: the joint world
-- selects a public or protected method with code there, also for the method that a look-up from the superclass finds.
use Rattle.std.proofs.Common.{◌≡◌, ℕ, ◌+◌, refl, sym, ap, ◌∙◌, Bool, true, false, List, [], ◌∷◌, length, Option, Some}
use Rattle.std.proofs.Common.{inl, inr, ⊎_elim}
use Rattle.std.specs.Prelude.{◌&&◌, not, option_and_then, option_map, slice_get, if◌then◌else◌}
use Rattle.cjc_bytes.specs.AccessFlags.{is_abstract, is_interface, is_private, is_static}
use Rattle.cjc_bytes.specs.declared.fault.MemberId.{MemberId}
use Rattle.cjc_bytes.proofs.Bools.{true_not_false, true_or_false}
use Rattle.cjc_jvm_semantics.specs.Group.{find_exposed, is_open, is_package_visible, joint, joint_exports, joint_method}
use Rattle.cjc_jvm_semantics.specs.Group.{own_where, own_within, package_of, selection_for}
use Rattle.cjc_jvm_semantics.specs.Linked.{Abroad, Callee, Inside}
use Rattle.cjc_jvm_semantics.specs.OnePackage.{ResolvedMember, callee_at, first_imported, is_constructor, is_initialiser}
use Rattle.cjc_jvm_semantics.specs.OnePackage.{method_at, method_hit, of_class, selected_from}
use Rattle.cjc_shape_proof.specs.WorldProof.Calls.Solid.{HasCode, IsSolid}
use Rattle.cjc_token_proof.proofs.WorldProofOwn.{IsAt, hit_is, is_found, mapped_at, own_at, own_is}
use Rattle.cjc_token_proof.proofs.WorldProofSelects.{called_by}
use Rattle.cjc_token_proof.proofs.WorldProofTypes.{receiver_class}
use Rattle.cjc_token_proof.specs.Subset.Members.{imports}
use Rattle.cjc_vtable.specs.Calls.{is_special}
use Rattle.cjc_vtable.proofs.Filed.{IsFiled, filed, get-has, has-get, in_class_file, in_export_file, of-imports}
use Rattle.cjc_world.specs.Classes.{Class, Member as WorldMember, all_classes, class_named, imported, declared}
use Rattle.cjc_world.specs.Classes.{method_of_export}
use Rattle.cjc_world.specs.ExportFile.declared.tree.ExportClass.{ExportClass}
use Rattle.cjc_world.specs.ExportFile.declared.tree.ExportTree.{ExportTree}
use Rattle.cjc_world.specs.Files.{Files}
use Rattle.cjc_world.specs.Interfaces.{gathered, known}
use Rattle.cjc_world.specs.Lookup.{find_method, first, is_called, is_selectable, member_at, or_else, own_method, receiver}
use Rattle.cjc_world.specs.Lookup.{selected}
use Rattle.cjc_world.specs.Subtype.{starts}
use Rattle.cjc_world.specs.Supertypes.{line, supertypes}
use Rattle.cjc_world.specs.Upwards.{Below, IsOrdered, OnLine}
use Rattle.cjc_world.specs.declared.found.Found.{Found}
use Rattle.cjc_world.proofs.UpwardLaws.Lines.{below_on, first_has, first_some, in_line, line_below, line_named, of_line}
use Rattle.cjc_world.proofs.UpwardLaws.Lines.{on_line}
use Rattle.cjc_joint_proof.specs.JointNames.{selected as joint_selected}
use Rattle.cjc_joint_proof.specs.Worlds.{AreApart, outside_classes}
use Rattle.cjc_joint_proof.proofs.AboveLaws.{flat_at}
use Rattle.cjc_joint_proof.proofs.SoundLaws.{apart}
use Rattle.cjc_joint_proof.proofs.WorldLaws.{own_is_found}
use Rattle.cjc_joint_theorem.specs.Members.{Member, files_of}
use Rattle.cjc_joint_theorem.specs.Together.Calls.{selected_together}
use Rattle.cjc_joint_theorem.specs.Together.Homes.{joint_world}
use Rattle.cjc_joint_theorem.proofs.MembersLaws.Worlds.{files_at, member_at as member_of_files}
use Rattle.cjc_joint_theorem.proofs.OrderedLaws.Ordered.{IsJoint, joint_class, ordered, outside_file, own_file}
use Rattle.cjc_joint_theorem.proofs.OrderedLaws.Standing.{HasStanding, class_stands, same_kind}
use Rattle.cjc_joint_whole.specs.Told.{IsToldAbove}
use Rattle.cjc_joint_whole.specs.Whole.{AreWholeWith, IsExport, IsWrittenFor, from_outside, of_member}
use Rattle.cjc_joint_whole.proofs.WholeLaws.AboveSights.{single_here}
use Rattle.cjc_joint_whole.proofs.WholeLaws.AboveStanding.{exposed_seen}
use Rattle.cjc_joint_whole.proofs.WholeLaws.Coded.{InFile, IsReachedOf, class_there, code_reached, found_there, hit_there}
use Rattle.cjc_joint_whole.proofs.WholeLaws.Coded as coded
use Rattle.cjc_joint_whole.proofs.WholeLaws.Exposed.{own_here}
use Rattle.cjc_joint_whole.proofs.WholeLaws.HiddenStands.{no_static}
use Rattle.cjc_joint_whole.proofs.WholeLaws.Implemented.{open_abroad, open_by}
use Rattle.cjc_joint_whole.proofs.WholeLaws.Imports.{exported}
use Rattle.cjc_joint_whole.proofs.WholeLaws.Members.{ordered_together, plain_together}
use Rattle.cjc_joint_whole.proofs.WholeLaws.Nearest.{line_ground}
use Rattle.cjc_joint_whole.proofs.WholeLaws.Opened.{shown_alone}
use Rattle.cjc_joint_whole.proofs.WholeLaws.Owners.{HasOwner, IsFixed, IsMet, in_file, met_of, outside, outside_met}
use Rattle.cjc_joint_whole.proofs.WholeLaws.Owners.{own_met}
use Rattle.cjc_joint_whole.proofs.WholeLaws.Shown.{IsWhere, called_parts, open_parts, where_at}
use Rattle.cjc_joint_whole.proofs.WholeLaws.Solid.{solid_at}
use Rattle.cjc_joint_whole.proofs.WholeLaws.Sources.{below_stays, source}
use Rattle.cjc_joint_whole.proofs.WholeLaws.Standing.{shared_open}

-- a method that can't be selected is static or private
fixed_by : (flags : ℕ) (name : List ℕ) → is_selectable flags ≡ false → IsFixed flags name
fixed_by flags name e = by (is_private flags) (is_static flags) refl refl e
  where
    by : (a b : Bool) → is_private flags ≡ a → is_static flags ≡ b → (not a && not b) ≡ false → IsFixed flags name
    by true b f g e = inr (inl f)
    by false true f g e = inl g
    by false false f g e = absurd cc

same_hit : {a b : ResolvedMember} → Some a ≡ Some b → a ≡ b
same_hit e = cc

same_found : {f g : Found} → Some f ≡ Some g → f ≡ g
same_found e = cc

-- What is selected from a class on, for a method that the joint world has, and for that which a look-up from the class
-- finds: a method with code of a class above it, or one of a class from outside.
pub record IsAbove {K : _} (members : List Member) (is : AreWholeWith K members) (p : Member) (id : MemberId)
    (super : List ℕ)
    (met : ResolvedMember) : Type 0 where
  pub callee : Callee
  pub selects : selected_together (files_of members) met super id ≡ Some callee
  pub looks_up : joint_selected (joint (files_of members)) (joint_world (files_of members)) p.files (of_class super id)
      super ≡ Some callee
  pub class : List ℕ
  pub is_reached : IsReachedOf members is id true class callee
  pub below : Below (joint_world (files_of members)) super class
  pub open_name : starts 91 class ≡ false

module _ {K : _} (members : List Member) (is : AreWholeWith K members) (q : ℕ) (p : Member)
    (at : slice_get members q ≡ Some p)
    (id : MemberId) (super : List ℕ) where
  abbrev group : List Files
  group = files_of members

  abbrev w : List Class
  w = joint_world group

  abbrev v : List Class
  v = all_classes p.files

  solid : IsSolid p.files
  solid = solid_at members is q p at

  abbrev any_own : Class → Option Found
  any_own = own_method false id.name id.desc

  -- What a look-up from the class finds in a class of its line, and what the joint world has for that.
  pub record IsLookedUp : Type 0 where
    pub place : Found
    pub found : first any_own (line v super) ≡ Some place
    pub hit : ResolvedMember
    pub is_hit : method_hit v place ≡ Some hit
    pub there : Found
    pub met : ResolvedMember
    pub stands : joint_method w hit.owner id ≡ Some there
    pub is_met : method_hit w there ≡ Some met

  abbrev above_id : MemberId
  above_id = of_class super id

  abbrev select_above : Option ResolvedMember → Option Callee
  select_above k = option_and_then (λ (h : ResolvedMember). selected_from (joint group) w (selection_for w h) super
      above_id) k

  abbrev meet : Option Found → Option Callee
  meet k = select_above (option_and_then (method_hit w) k)

  abbrev stand_for : Option ResolvedMember → Option Callee
  stand_for k = meet (option_and_then (λ (h : ResolvedMember). joint_method w h.owner above_id) k)

  abbrev look_up : Option Found → Option Callee
  look_up k = stand_for (option_and_then (method_hit v) k)

  -- what is selected for it is what is selected above
  pub looked_up : (l : IsLookedUp) (callee : Callee) → selected_together group l.met super id ≡ Some callee
      → joint_selected (joint group) w p.files above_id super ≡ Some callee
  unfolding find_method
  looked_up l callee selects =
      ap look_up (ap (λ o. or_else o (first any_own (known (gathered false (supertypes v (super ∷ [])))))) l.found)
      ∙ ap stand_for l.is_hit
      ∙ ap meet l.stands
      ∙ ap select_above l.is_met
      ∙ selects

module _ {K : _} (members : List Member) (is : AreWholeWith K members) (tell : IsToldAbove members) (q : ℕ)
    (p : Member)
    (at : slice_get members q ≡ Some p) (id : MemberId) (initial : is_initialiser id.name ≡ false)
    (ordinary : is_constructor id.name ≡ false)
    (plain : is_special (record { name = id.name; desc = id.desc }) ≡ false) (super : List ℕ) (s : Class)
    (at_super : class_named (all_classes p.files) super ≡ Some s) (ground : is_interface s.flags ≡ false)
    (code : HasCode (all_classes p.files) super id.name id.desc)
    (sight : (d : Class) → OnLine (all_classes p.files) super d → d.is_imported ≡ false → (i : ℕ) (k : WorldMember)
    → slice_get d.methods i ≡ Some k → k.name ≡ id.name → k.desc ≡ id.desc → is_package_visible k.flags ≡ false) where
  abbrev files : List Files
  files = files_of members

  abbrev world : List Class
  world = joint_world files

  abbrev own_world : List Class
  own_world = all_classes p.files

  order : IsOrdered world
  order = ordered files (ordered_together members is)

  are_apart : AreApart files
  are_apart = apart files is.sound

  is_solid : IsSolid p.files
  is_solid = solid_at members is q p at

  order_here : IsOrdered own_world
  order_here = is_solid.ordered

  top : HasStanding files q p.files super s
  top = class_stands files (ordered_together members is) q p.files (files_at members q p at) super s at_super

  top_ground : (let c = top in let d = c.class in is_interface d.flags) ≡ false
  top_ground = let c = top in same_kind files q p.files s c.class c.stands ∙ ground

  itself : receiver super ≡ super
  itself = let c = top in receiver_class super (plain_together members is super c.class c.named)

  abbrev opened : Class → Option Found
  opened = own_where is_open id.name id.desc

  abbrev any : Class → Option Found
  any = own_method false id.name id.desc

  abbrev selecting : Class → Option Found
  selecting = own_method true id.name id.desc

  -- ---- the code in the package's own world

  found_selecting : first selecting (line own_world super) ≡ Some code.place
  unfolding selected
  found_selecting = ap (λ y. first selecting (line own_world y)) (sym (receiver_class super (is_solid.plain super s
      at_super))) ∙ code.found

  -- The class that has it.
  record HoldsCode : Type 0 where
    class : Class
    on : OnLine own_world super class
    named : class_named own_world class.name ≡ Some class
    at_class : IsAt true id.name id.desc class code.place
    bare : is_abstract (let m = at_class.member in m.flags) ≡ false

  holds : HoldsCode
  holds =
      let one = first_has selecting (line own_world super) code.place found_selecting in
      let d = one.0 in
      let on = of_line own_world order_here.acyclic super d one.1 in
      let named = line_named own_world super d on in
      let a = own_at true id.name id.desc d code.place one.2 in
      let m = a.member in
      let hit : code.hit ≡ record { owner = d; flags = m.flags } = same_hit (sym code.is_hit ∙ ap (method_hit own_world)
      a.is ∙ hit_is own_world d a.place m (is_solid.numbered d.name d named) a.is_member) in
      record {
        class = d;
        on = on;
        named = named;
        at_class = a;
        bare = sym (ap (λ (h : ResolvedMember). is_abstract h.flags) hit) ∙ code.is_concrete;
      }

  code_ground : (let h = holds in let d = h.class in is_interface d.flags) ≡ false
  code_ground = let h = holds in line_ground own_world order_here (single_here members is q p at id plain) super h.class
      h.on s at_super ground

  -- it is public or protected
  code_open : (let h = holds in let a = h.at_class in let m = a.member in is_open m.flags) ≡ true
  code_open =
      let h = holds in
      let d = h.class in
      let a = h.at_class in
      let m = a.member in
      ⊎_elim
      (λ imp. open_abroad members is tell id initial ordinary plain q p at d.name d h.named imp code_ground a.place m
      a.is_member a.has_name a.wanted)
      (λ mine. open_by m.flags a.wanted (sight d h.on mine a.place m a.is_member a.has_name a.has_desc))
      (true_or_false d.is_imported)

  -- ---- what selection gives in the joint world

  found_opened : (f : Found) × (first opened (line world super) ≡ Some f)
  found_opened =
      let h = holds in
      let d = h.class in
      let a = h.at_class in
      let m = a.member in
      let src = source members is tell q p at d.name d h.named a.place m a.is_member code_open (ap is_constructor
      a.has_name ∙ ordinary) in
      let e = src.0 in
      let c = e.class in
      let k = e.method in
      let plain_c : is_interface c.flags ≡ false = ⊎_elim (λ same. same.1 ∙ code_ground) (λ no. absurd (true_not_false
      (is_abstract m.flags) no.1 h.bare)) src.1 in
      let t = top in
      let on = on_line world order super c.name t.class c (below_on world super d.name c.name (below_stays members is
      tell q p at super d.name (line_below own_world super d h.on)) e.below) t.named top_ground e.named plain_c in
      let passes : (is_open k.flags && is_called id.name id.desc k) ≡ true = ap (λ b. b && is_called id.name id.desc k)
      e.opened ∙ called_by id.name id.desc k (e.has_name ∙ a.has_name) (e.has_desc ∙ a.has_desc) in
      let r = is_found (λ (y : WorldMember). is_open y.flags && is_called id.name id.desc y) c.methods e.place k e.there
      passes in
      first_some opened (line world super) c (member_at c (length c.fields + r.0)) (in_line world order.acyclic super c
      on) (ap (option_map (λ y. member_at c (length c.fields + y))) r.1)

  -- What it reaches.
  record IsReachedAbove (event : List ℕ) (f : Found) : Type 0 where
    callee : Callee
    reaches : callee_at (joint files) event id f ≡ Some callee
    class : List ℕ
    is_reached : IsReachedOf members is id true class callee
    below : Below world super class
    open_name : starts 91 class ≡ false

  -- it has code, or makes the event of a class from outside
  reach : (event : List ℕ) (f : Found) → first opened (line world super) ≡ Some f → IsReachedAbove event f
  reach event f found =
      let one = first_has opened (line world super) f found in
      let d = one.0 in
      let on = of_line world order.acyclic super d one.1 in
      by (joint_class files d.name d (line_named world super d on)) on (line_named world super d on)
      (where_at is_open id.name id.desc d f one.2)
    where
      bare : (h : ResolvedMember) → f.imported ≡ false → method_hit world f ≡ Some h → is_abstract h.flags ≡ false
      bare h mine told =
          let shows = shown_alone members is id plain f h mine told q p at super s at_super ground found in
          let place : Some shows.place ≡ Some code.place = sym shows.found ∙ found_selecting in
          let hit : shows.hit ≡ code.hit = same_hit (sym shows.is_hit ∙ ap (method_hit own_world) (same_found place)
          ∙ code.is_hit) in
          ap is_abstract (sym shows.has_flags) ∙ ap (λ (y : ResolvedMember). is_abstract y.flags) hit
          ∙ code.is_concrete

      by : {d : Class} → IsJoint files d → OnLine world super d → class_named world d.name ≡ Some d
          → IsWhere is_open id.name id.desc d f → IsReachedAbove event f
      by {d = d} (outside_file n e kept) on named at_d = record {
        callee = Abroad (of_class event id);
        reaches = ap (λ b. if b then Some (Abroad (of_class event id)) else option_map Inside (method_at
            (joint files) f)) (ap (λ (g : Found). g.imported) at_d.is);
        class = d.name;
        is_reached = coded.abroad refl;
        below = line_below world super d on;
        open_name = plain_together members is d.name d named;
      }
      by {d = d} (own_file j k o t own) on named at_d =
          let m = member_of_files members j o own.member in
          let names = called_parts id.name id.desc at_d.method at_d.called in
          let it : InFile members id = record {
            part = j;
            member = m.0;
            at = m.1;
            number = k;
            class = t;
            file = ap (λ (g : Files). slice_get g.classes k) m.2 ∙ own.file;
            place = at_d.place;
            method = at_d.method;
            is_method = at_d.there;
            has_name = names.0;
            has_desc = names.1;
          } in
          let hit : method_hit world f ≡ Some (record { owner = d; flags = (let y = at_d.method in y.flags) }) =
          ap (method_hit world) at_d.is ∙ hit_there members is id it in
          let no_code = bare (record { owner = d; flags = (let y = at_d.method in y.flags) })
          (ap (λ (g : Found). g.imported) at_d.is) hit in
          let flags = open_parts (let y = at_d.method in y.flags) at_d.passing in
          let to = code_reached members is id it initial true (no_static (let y = at_d.method in y.flags) flags.0)
          no_code event in
          record {
            callee = to.0;
            reaches = ap (callee_at (joint files) event id) at_d.is ∙ to.1;
            class = t.name;
            is_reached = to.2;
            below = line_below world super d on;
            open_name = plain_together members is d.name d named;
          }

  abbrev event : List ℕ
  event = first_imported (line world (receiver super))

  reached : IsReachedAbove event (let g = found_opened in g.0)
  reached = let g = found_opened in reach event g.0 g.1

  selected_so : (met : ResolvedMember) → is_package_visible met.flags ≡ false
      → selected_together files met super id ≡ Some (let r = reached in r.callee)
  selected_so met shown =
      let g = found_opened in
      let r = reached in
      let selects : selection_for world met super id ≡ Some g.0 = ap (λ b. let owner = met.owner in if b
      then first (own_within (package_of owner.name) id.name id.desc) (line world (receiver super))
      else first opened (line world (receiver super))) shown
      ∙ ap (λ z. first opened (line world z)) itself ∙ g.1 in
      ap (option_and_then (λ k. callee_at (joint files) event id k)) selects ∙ r.reaches

  -- ---- what a look-up finds

  found_first : (f : Found) × (first any (line own_world super) ≡ Some f)
  found_first =
      let h = holds in
      let d = h.class in
      let a = h.at_class in
      let has = own_is false id.name id.desc d a.place a.member a.is_member refl (called_by id.name id.desc a.member
      a.has_name a.has_desc) in
      first_some any (line own_world super) d has.0 (in_line own_world order_here.acyclic super d h.on) has.1

  abbrev found_place : Found
  found_place = let g = found_first in g.0

  -- What the joint world has for it: no package-visible method.
  record IsSeen (hit : ResolvedMember) : Type 0 where
    there : Found
    met : ResolvedMember
    stands : joint_method world hit.owner id ≡ Some there
    is_met : method_hit world there ≡ Some met
    shown : is_package_visible met.flags ≡ false

  module _ (n : ℕ) (e : ExportClass) (file : (let f = p.files in slice_get (imports f.exports) n ≡ Some e))
      (named : class_named (all_classes p.files) e.name ≡ Some (imported n e))
      (on : OnLine (all_classes p.files) super (imported n e)) (own : any (imported n e) ≡ Some found_place)
      (z : IsAt false id.name id.desc (imported n e) found_place) where
    abbrev hit_abroad : ResolvedMember
    hit_abroad = record { owner = imported n e; flags = (let k = z.member in k.flags) }

    is_hit_abroad : method_hit own_world found_place ≡ Some hit_abroad
    is_hit_abroad = ap (method_hit own_world) z.is ∙ hit_is own_world (imported n e) z.place z.member (is_solid.numbered
        e.name (imported n e) named) z.is_member

    ground_abroad : is_interface e.flags ≡ false
    ground_abroad = line_ground own_world order_here (single_here members is q p at id plain) super (imported n e) on s
        at_super ground

    -- of a class from outside
    of_outside : (k : ℕ) → slice_get (outside_classes files) k ≡ Some e → IsSeen hit_abroad
    of_outside k kept =
        let x = outside_met members is q p at id initial found_place hit_abroad is_hit_abroad n e file named own z refl
        k kept in
        let y = mapped_at method_of_export e.methods z.place z.member z.is_member in
        let flags : (let m = z.member in m.flags) ≡ (let u = y.0 in u.flags) = ap (λ (u : WorldMember). u.flags) y.2 in
        record {
          there = x.there;
          met = x.met;
          stands = x.stands;
          is_met = x.is_met;
          shown = ap is_package_visible (x.has_flags ∙ flags) ∙ is.shown k z.place e y.0 kept y.1
              (sym (ap (λ (u : WorldMember). is_initialiser u.name) y.2) ∙ ap is_initialiser z.has_name ∙ initial);
        }

    -- of a class of a package before
    module _ (j : ℕ) (g : Member) (at_g : slice_get members j ≡ Some g) (t : ExportTree) (written : IsWrittenFor g.files
        t) (k : ℕ) (listed : slice_get t.classes k ≡ Some e) where
      -- what is looked up there
      looks_exposed : joint_method world (imported n e) id ≡ find_exposed world e.name id
      looks_exposed =
          let x = exported g.files t written k e listed in
          ap (option_and_then (λ (c : Class). if true && not c.is_imported then find_exposed world e.name id else any c))
          (ap (class_named world) (sym x.same_name) ∙ own_is_found files are_apart j x.number g.files x.class (own_here
          members is j g at_g x.number x.class x.file))

      of_exposed : (there : Found) (met : ResolvedMember) → joint_method world (imported n e) id ≡ Some there
          → method_hit world there ≡ Some met → IsSeen hit_abroad
      of_exposed there met stands is_met = record {
        there = there;
        met = met;
        stands = stands;
        is_met = is_met;
        shown = exposed_seen members is e.name id there met (sym looks_exposed ∙ stands) is_met;
      }

      of_fixed : IsMet members (of_class super id) hit_abroad → IsSeen hit_abroad
      of_fixed (in_file x) = of_exposed (found_there x.it) (record {
        owner = class_there x.it;
        flags = (let u = x.it in let m = u.method in m.flags);
      }) x.stands (hit_there members is (of_class super id) x.it)
      of_fixed (outside x) = of_exposed x.there x.met x.stands x.is_met

      of_shared : IsSeen hit_abroad
      of_shared =
          let m = z.member in
          ⊎_elim
          (λ may. (let x = shared_open members is q p at id initial ordinary found_place hit_abroad is_hit_abroad
          (open_abroad members is tell id initial ordinary plain q p at e.name (imported n e) named refl ground_abroad
          z.place m z.is_member z.has_name may) tell n e named z refl ground_abroad j g at_g t written k listed in
          record { there = x.there; met = x.met; stands = x.stands; is_met = x.is_met; shown = x.shown }))
          (λ fixed. (let o : HasOwner p.files (of_class super id) found_place hit_abroad = record {
            class = imported n e;
            below = line_below own_world super (imported n e) on;
            named = named;
            own = own;
            at = z;
            is_hit = refl;
          } in
          of_fixed (met_of members is q p at (of_class super id) initial found_place hit_abroad is_hit_abroad o
          (fixed_by m.flags id.name fixed))))
          (true_or_false (is_selectable m.flags))

    of_export : (t : ExportTree) (k : ℕ) → slice_get t.classes k ≡ Some e → IsExport members q t → IsSeen hit_abroad
    of_export t k listed (of_member j g less at_g written) = of_shared j g at_g t written k listed
    of_export t k listed (from_outside r kept) =
        let all = flat_at (λ (u : ExportTree). u.classes) (joint_exports files) r k t e kept listed in
        of_outside all.0 all.1

  seen : (d : Class) → IsFiled p.files d → class_named own_world d.name ≡ Some d → OnLine own_world super d
      → any d ≡ Some found_place → (z : IsAt false id.name id.desc d found_place)
      → IsSeen (record { owner = d; flags = (let k = z.member in k.flags) })
  seen _ (in_class_file n t file) named on own z =
      let k = z.member in
      let hit : ResolvedMember = record { owner = declared n t; flags = k.flags } in
      let is_hit : method_hit own_world found_place ≡ Some hit = ap (method_hit own_world) z.is ∙ hit_is own_world
      (declared n t) z.place k (is_solid.numbered t.name (declared n t) named) z.is_member in
      let x = own_met members is q p at id initial found_place hit is_hit n t file own z refl in
      record {
        there = found_there x.it;
        met = record { owner = class_there x.it; flags = (let u = x.it in let m = u.method in m.flags) };
        stands = x.stands;
        is_met = hit_there members is id x.it;
        shown = ap is_package_visible x.has_flags ∙ sight (declared n t) on refl z.place k z.is_member z.has_name
            z.has_desc;
      }
  seen _ (in_export_file n e file) named on own z =
      let f = p.files in
      let of = of-imports e f.exports (get-has e (imports f.exports) n file) in
      let k = has-get of.0 f.exports of.1 in
      let listed = has-get e (let u = of.0 in u.classes) of.2 in
      of_export n e file named on own z of.0 listed.0 listed.1 (is.written q k.0 p of.0 at k.1)

  -- ---- both

  pub open_above : (met : ResolvedMember) → is_package_visible met.flags ≡ false → IsAbove members is p id super met
  open_above met shown =
      let r = reached in
      let g = found_first in
      let one = first_has any (line own_world super) g.0 g.1 in
      let d = one.0 in
      let on = of_line own_world order_here.acyclic super d one.1 in
      let named = line_named own_world super d on in
      let z = own_at false id.name id.desc d g.0 one.2 in
      let x = seen d (filed p.files d.name d named) named on one.2 z in
      let hit : ResolvedMember = record { owner = d; flags = (let k = z.member in k.flags) } in
      record {
        callee = r.callee;
        selects = selected_so met shown;
        looks_up = looked_up members is q p at id super (record {
          place = g.0;
          found = g.1;
          hit = hit;
          is_hit = ap (method_hit own_world) z.is ∙ hit_is own_world d z.place z.member (is_solid.numbered d.name d
              named) z.is_member;
          there = x.there;
          met = x.met;
          stands = x.stands;
          is_met = x.is_met;
        }) r.callee (selected_so x.met x.shown);
        class = r.class;
        is_reached = r.is_reached;
        below = r.below;
        open_name = r.open_name;
      }
