-- Calls that select a method on each object, whichever class or interface declares it: what the joint world has for it is
-- selected there, with code.
use Rattle.std.proofs.Common.{◌≡◌, ℕ, refl, sym, ap, subst, ◌∙◌, Bool, true, false, List, Option, Some, inl, ⊎_elim}
use Rattle.std.specs.Prelude.{◌&&◌, ◌||◌, option_map, slice_get}
use Rattle.std.proofs.lemmas.Option.{slice_get-map}
use Rattle.cjc_bytes.specs.AccessFlags.{is_interface}
use Rattle.cjc_bytes.specs.declared.fault.MemberId.{MemberId}
use Rattle.cjc_bytes.proofs.Bools.{true_not_false, true_or_false}
use Rattle.cjc_components.specs.Bytecode.declared.insn.JOp.{JOp}
use Rattle.cjc_components.specs.Bytecode.declared.insn.JOp.TheVariants as jop
use Rattle.cjc_components.specs.Bytecode.declared.method_code.MethodCode.{MethodCode}
use Rattle.cjc_jvm_semantics.specs.Group.{is_open, is_package_visible, joint, joint_image, selection_for}
use Rattle.cjc_jvm_semantics.specs.Linked.{Callee, Method}
use Rattle.cjc_jvm_semantics.specs.OnePackage.{ResolvedMember, interface_callee, is_constructor, is_initialiser}
use Rattle.cjc_vtable.specs.Calls.{is_special}
use Rattle.cjc_world.specs.Classes.{Class, Member as WorldMember, all_classes, class_named, imported}
use Rattle.cjc_world.specs.Classes.{method_of_export}
use Rattle.cjc_world.specs.Files.{Files}
use Rattle.cjc_world.specs.Lookup.{is_selectable, receiver}
use Rattle.cjc_world.specs.Subtype.{is_subtype}
use Rattle.cjc_world.specs.Upwards.{Below}
use Rattle.cjc_world.proofs.Cycles.{class_named-name}
use Rattle.cjc_world.proofs.Subtypes.{transitive}
use Rattle.cjc_world.proofs.UpwardLaws.Lines.{below_on}
use Rattle.cjc_narrow_proof.specs.Runs.Calls as alone
use Rattle.cjc_narrow_proof.specs.Runs.Calls.{Chooses, IsReceiverOn}
use Rattle.cjc_narrow_proof.specs.Runs.Names.{IsNamed}
use Rattle.cjc_narrow_proof.specs.Runs.Names as named_alone
use Rattle.cjc_narrow_proof.specs.Runs.Tables.{look_ups}
use Rattle.cjc_narrow_proof.specs.Script.Sorts.{shape_name}
use Rattle.cjc_shape_proof.specs.WorldProof.Calls.Targets.{IsReceiver}
use Rattle.cjc_token_proof.proofs.WorldProofTypes.{type_below}
use Rattle.cjc_token_proof.specs.Types.declared.cell.Cell.{Cell}
use Rattle.cjc_token_proof.specs.Types.declared.state.State.{State}
use Rattle.cjc_token_proof.specs.Types.Search.{cells_of}
use Rattle.cjc_joint_theorem.specs.Members.{Member, files_of, homes_of, images_of, member_of, number_of, tables_of}
use Rattle.cjc_joint_theorem.specs.Together.Calls.{selected_together}
use Rattle.cjc_joint_theorem.specs.Together.Calls as together
use Rattle.cjc_joint_theorem.specs.Together.Homes.{joint_world}
use Rattle.cjc_joint_theorem.specs.Together.Names.{IsNamedIn}
use Rattle.cjc_joint_theorem.specs.Together.Names as names
use Rattle.cjc_joint_theorem.proofs.MembersLaws.Worlds.{files_at}
use Rattle.cjc_joint_theorem.proofs.OrderedLaws.Ordered.{IsJoint, joint_class, outside_file, own_file}
use Rattle.cjc_joint_whole.specs.ModesCalls.{IsNamedCallee, IsReceiverIn, IsStandingCallee, joint_look_ups, named_callee}
use Rattle.cjc_joint_whole.specs.Told.{IsToldAbove}
use Rattle.cjc_joint_whole.specs.Whole.{AreWhole, AreWholeWith, IsSelectingCall}
use Rattle.cjc_joint_whole.specs.Whole.{SelectionsStand}
use Rattle.cjc_joint_whole.proofs.WholeLaws.AboveCalls.{above_stands}
use Rattle.cjc_joint_whole.proofs.WholeLaws.AboveStanding.{met_open}
use Rattle.cjc_joint_whole.proofs.WholeLaws.Accepted.{receiver_is}
use Rattle.cjc_joint_whole.proofs.WholeLaws.Begun.{receiver_of}
use Rattle.cjc_joint_whole.proofs.WholeLaws.Fields.{files_are}
use Rattle.cjc_joint_whole.proofs.WholeLaws.FixedCalls.{itself_stands}
use Rattle.cjc_joint_whole.proofs.WholeLaws.HiddenStands.{hidden_stands}
use Rattle.cjc_joint_whole.proofs.WholeLaws.Implemented.{open_by}
use Rattle.cjc_joint_whole.proofs.WholeLaws.Members.{plain_together, reached_at, supers_together, type_together}
use Rattle.cjc_joint_whole.proofs.WholeLaws.Owners.{owner_of}
use Rattle.cjc_joint_whole.proofs.WholeLaws.Reached.{IsReached}
use Rattle.cjc_joint_whole.proofs.WholeLaws.Receivers.{receiver_in}
use Rattle.cjc_joint_whole.proofs.WholeLaws.Selected.{selects_open}
use Rattle.cjc_joint_whole.proofs.WholeLaws.Selecting.{Selects, selects_any, selects_by_interface}
use Rattle.cjc_joint_whole.proofs.WholeLaws.Solid.{solid_at}
use Rattle.cjc_joint_whole.proofs.WholeLaws.Standing.{IsMetOpen}
use Rattle.cjc_joint_whole.proofs.WholeLaws.ToldOutside.{lists_above}

special_off : (a b : Bool) → a ≡ false → b ≡ false → (a || b) ≡ false
special_off false false e f = refl
special_off true b e f = absurd cc
special_off false true e f = absurd cc

both_parts : (a b : Bool) → (a && b) ≡ true → (a ≡ true) × (b ≡ true)
both_parts true true e = (refl, refl)
both_parts true false e = absurd cc
both_parts false b e = absurd cc

module _ {K : _} (members : List Member) (is : AreWholeWith K members) (tell : IsToldAbove members) where
  abbrev group : List Files
  group = files_of members

  abbrev w : List Class
  w = joint_world group

  module _ (id : MemberId) (initial : is_initialiser id.name ≡ false) (ordinary : is_constructor id.name ≡ false)
      (plain : is_special (record { name = id.name; desc = id.desc }) ≡ false) where
    -- a method of a class or an interface, on each object: classes from outside list it
    selects_all : (met : ResolvedMember) → is_package_visible met.flags ≡ false → (d : Class)
        → class_named w d.name ≡ Some d → (i : ℕ) (m : WorldMember) → slice_get d.methods i ≡ Some m → m.name ≡ id.name
        → m.desc ≡ id.desc → is_open m.flags ≡ true → (type : List ℕ) (r : IsReceiver w (receiver type))
        → Below w (receiver type) d.name → Selects members is tell id initial ordinary plain met type
    selects_all met shown d named i m there name desc open_one type r way =
        ⊎_elim of_interface (λ ground. selects_any members is tell id initial ordinary plain met shown d named i m there
        name desc open_one type r way (λ it. absurd (true_not_false (is_interface d.flags) it ground)))
        (true_or_false (is_interface d.flags))
      where
        x : List ℕ
        x = receiver type

        abroad : is_interface d.flags ≡ true → {c : Class} → IsJoint group c → class_named w x ≡ Some c
            → is_interface c.flags ≡ false → c.is_imported ≡ true
            → Selects members is tell id initial ordinary plain met type
        abroad it (own_file q k p t own) at_x ground imp = absurd cc
        abroad it (outside_file n e kept) at_x ground imp =
            let name_e : e.name ≡ x = class_named-name w x (imported n e) at_x in
            let h = lists_above members is tell.asked n i e d m kept named it (subst (λ a. Below w a d.name) (sym name_e)
            way) there open_one in
            let y = h.entry in
            selects_open members is id plain initial met shown (imported n e) (ap (class_named w) name_e ∙ at_x) ground
            h.place (method_of_export y) (slice_get-map method_of_export e.methods h.place
            ∙ ap (option_map method_of_export) h.there) (h.has_name ∙ name) (h.has_desc ∙ desc) h.opened type r
            (inl (sym name_e))

        of_interface : is_interface d.flags ≡ true → Selects members is tell id initial ordinary plain met type
        of_interface it =
            let c = r.class in
            ⊎_elim (λ imp. abroad it (joint_class group x c r.named) r.named r.no_interface imp)
            (λ own. selects_any members is tell id initial ordinary plain met shown d named i m there name desc open_one
            type r way (λ f. own)) (true_or_false c.is_imported)

  module _ (q : ℕ) (p : Member) (at : slice_get members q ≡ Some p) (codes : List MethodCode) (m : Method) (t : State)
      (id : MemberId) (c : IsNamedCallee p.files id) (ordinary : is_constructor id.name ≡ false)
      (wanted : (let hit = c.hit in is_selectable hit.flags) ≡ true)
      (shown : (let hit = c.hit in is_package_visible hit.flags) ≡ false) where
    abbrev v : List Class
    v = all_classes p.files

    abbrev hit : ResolvedMember
    hit = c.hit

    abbrev stack : List Cell
    stack = cells_of t.stack

    abbrev Receives : (holder : List ℕ) (op : ℕ) → Type 0
    Receives holder op = IsReceiverIn members id p.files holder stack op

    plain : is_special (record { name = id.name; desc = id.desc }) ≡ false
    plain = special_off (is_constructor id.name) (is_initialiser id.name) ordinary c.no_initialiser

    opened : is_open hit.flags ≡ true
    opened = open_by hit.flags wanted shown

    above : (let o = hit.owner in is_subtype w id.class o.name) ≡ true
    above = supers_together members is q p.files (files_at members q p at) id.class (let o = hit.owner in o.name) c.above

    -- a receiver stands below the class that declares it
    below : (s : IsMetOpen members id c.hit) (type : List ℕ) → is_subtype w type id.class ≡ true → Below w (receiver type)
        (let d = s.class in d.name)
    below s type of =
        let o = hit.owner in
        let d = s.class in
        let top = s.top in
        let open_name = plain_together members is o.name top s.top_named in
        below_on w (receiver type) o.name d.name (type_below w type o.name open_name (transitive w type id.class o.name of
        above)) s.below

    method_in : (s : IsMetOpen members id c.hit) → IsStandingCallee group p.files id
    method_in s = record {
      place = c.place;
      hit = c.hit;
      found = c.found;
      is_hit = c.is_hit;
      again = c.again;
      there = s.there;
      met = s.met;
      stands = s.stands;
      is_met = s.is_met;
      is_above = above;
      no_initialiser = c.no_initialiser;
      result = λ kind e. type_together members is q p.files (files_at members q p at) kind (c.result kind e);
    }

    pub on_object : IsReached p.files codes m (jop.Call 0xB6 id) t → (holder : List ℕ) → IsMetOpen members id c.hit
        → Receives holder 0xB6
    unfolding method_in
    on_object r holder s = record {
      method = method_in s;
      class = id.class;
      choice = λ type. selected_together group s.met type id;
      form = together.on_class ordinary s.may;
      choices = λ kinds on kind some made.
          (let of = receiver_is members is q p at codes m t 0xB6 id r refl id.class refl kinds on kind some in
          let type = shape_name kind in
          let to = selects_all id c.no_initialiser ordinary plain s.met s.shown s.class s.named s.place s.method
          s.is_method s.has_name s.has_desc s.opened type (receiver_in members is q p at kind made) (below s type of) in
          record { is_of = of; callee = to.0; chooses = to.1; is_chosen = to.2 });
    }

    pub on_interface : (let o = hit.owner in is_interface o.flags) ≡ true → IsReached p.files codes m (jop.Call 0xB9 id) t
        → (holder : List ℕ) → IsMetOpen members id c.hit → Receives holder 0xB9
    unfolding method_in
    on_interface it r holder s = record {
      method = method_in s;
      class = id.class;
      choice = λ type. (let met = s.met in let owner = met.owner in interface_callee (joint group) w
          (selection_for w met) owner.name type id (class_named w (receiver type)));
      form = together.by_interface ordinary (ap (λ b. b && (let met = s.met in is_selectable met.flags)) (s.owner
          ∙ s.kind it) ∙ s.may);
      choices = λ kinds on kind some made.
          (let of = receiver_is members is q p at codes m t 0xB9 id r refl id.class refl kinds on kind some in
          let type = shape_name kind in
          let to = selects_by_interface members is tell id c.no_initialiser ordinary plain s.met s.shown s.class s.named
          s.place s.method s.is_method s.has_name s.has_desc s.opened type (receiver_in members is q p at kind made)
          (below s type of) in
          record { is_of = of; callee = to.0; chooses = to.1; is_chosen = to.2 });
    }

    -- it has one
    pub stands_open : IsMetOpen members id c.hit
    stands_open =
        let o = owner_of p.files (solid_at members is q p at) id c.place c.hit c.found c.is_hit in
        met_open members is tell q p at id c.no_initialiser ordinary c.place c.hit c.is_hit opened o.class o.named o.own
        o.at o.is_hit

  -- a method of an interface is not package-visible
  pub seen_of : (q : ℕ) (p : Member) → slice_get members q ≡ Some p → (id : MemberId) (c : IsNamedCallee p.files id)
      → (let hit = c.hit in let o = hit.owner in is_interface o.flags) ≡ true
      → (let hit = c.hit in is_package_visible hit.flags) ≡ false
  seen_of q p at id c it =
      let o = owner_of p.files (solid_at members is q p at) id c.place c.hit c.found c.is_hit in
      let one = is.each q p at in
      let d = o.class in
      let a = o.at in
      ap (λ (h : ResolvedMember). is_package_visible h.flags) o.is_hit ∙ one.interfaces d.name d a.place a.member o.named
      (sym (ap (λ (h : ResolvedMember). let y = h.owner in is_interface y.flags) o.is_hit) ∙ it) a.is_member
      (ap is_initialiser a.has_name ∙ c.no_initialiser)

  -- ---- a call on a receiver

  -- by how it chooses
  pub choices_stand : (q : ℕ) (p : Member) (at : slice_get members q ≡ Some p) (m : Method) (t : State) (id : MemberId)
      (c : IsNamedCallee p.files id) {op : ℕ} {class : List ℕ} {choice : List ℕ → Option Callee}
      → (f : Chooses p.files (let n = m.id in n.class) id c.place c.hit op class choice)
      → (let one = is.each q p at in IsReached p.files one.codes m (jop.Call op id) t)
      → IsReceiverIn members id p.files (let n = m.id in n.class) (cells_of t.stack) op
  choices_stand q p at m t id c (alone.on_class ordinary wanted) r =
      let codes = (let one = is.each q p at in one.codes) in
      ⊎_elim
      (λ hidden. hidden_stands members is q p at codes m t id r c ordinary wanted hidden (let n = m.id in n.class))
      (λ shown. on_object q p at codes m t id c ordinary wanted shown r (let n = m.id in n.class)
      (stands_open q p at codes m t id c ordinary wanted shown))
      (true_or_false (let hit = c.hit in is_package_visible hit.flags))
  choices_stand q p at m t id c (alone.itself ground special) r = itself_stands members is q p at (let one = is.each q p
      at in one.codes) m t id r c ground special (let n = m.id in n.class)
  choices_stand q p at m t id c (alone.above_holder callee ground ordinary chosen) r =
      above_stands members is tell q p at m t id r c ground ordinary
  choices_stand q p at m t id c (alone.by_interface ordinary wanted) r =
      let codes = (let one = is.each q p at in one.codes) in
      let hit = c.hit in
      let o = hit.owner in
      let parts = both_parts (is_interface o.flags) (is_selectable hit.flags) wanted in
      let shown = seen_of q p at id c parts.0 in
      on_interface q p at codes m t id c ordinary parts.1 shown parts.0 r (let n = m.id in n.class)
      (stands_open q p at codes m t id c ordinary parts.1 shown)

-- ---- where no method works on int

module _ (members : List Member) (is : AreWhole members) (tell : IsToldAbove members) where
  module _ (p : Member) (m : Method) (at : member_of members m ≡ Some p) (t : State) where
    abbrev part : ℕ
    part = number_of members m

    abbrev Alone : JOp → Type 0
    Alone op = IsNamed p.files p.image p.near p.tables m (cells_of t.stack) op

    abbrev Together : JOp → Type 0
    Together op = IsNamedIn (files_of members) (joint_image (images_of members)) (homes_of members) (tables_of members) m
        (cells_of t.stack) op

    abbrev code_list : List MethodCode
    code_list = let one = is.each part p at in one.codes

    call : (op : ℕ) (id : MemberId) → IsReached p.files code_list m (jop.Call op id) t
        → (h : IsReceiverOn p.files (look_ups p.files p.image p.near p.tables) p.tables (let n = m.id in n.class)
        (cells_of t.stack) op id) → Together (jop.Call op id)
    call op id r h = names.a_call_on_receiver (subst (λ f. together.IsReceiverIn (files_of members)
        (joint_look_ups members) (homes_of members) (tables_of members) f (let n = m.id in n.class) (cells_of t.stack)
        op id) (sym (files_are members is p m at)) (receiver_of members is id (let c = h.method in c.desc) p.files
        (let n = m.id in n.class) (cells_of t.stack) op (choices_stand members is tell part p at m t id (named_callee
        h.method) h.form r)))

    select : (op : JOp) → IsReached p.files code_list m op t → (h : Alone op) → IsSelectingCall members h
        → Together op
    select _ r (named_alone.a_call_on_receiver {op = op} {id = id} h) selects = call op id r h
    select _ r (named_alone.a_field f h) selects = elim selects [ ]
    select _ r (named_alone.a_put_field f h) selects = elim selects [ ]
    select _ r (named_alone.a_static f h) selects = elim selects [ ]
    select _ r (named_alone.a_class fields made are) selects = elim selects [ ]
    select _ r (named_alone.a_static_call h) selects = elim selects [ ]
    select _ r (named_alone.names_nothing off) selects = elim selects [ ]
    select _ r (named_alone.is_on_array on) selects = elim selects [ ]
    select _ r (named_alone.returns is_one) selects = elim selects [ ]
    select _ r named_alone.throws selects = elim selects [ ]
    select _ r (named_alone.a_constant z number holds found) selects = elim selects [ ]
    select _ r (named_alone.an_array c there) selects = elim selects [ ]
    select _ r named_alone.booleans selects = elim selects [ ]
    select _ r named_alone.bytes selects = elim selects [ ]
    select _ r named_alone.shorts selects = elim selects [ ]
    select _ r (named_alone.a_cast kind named there) selects = elim selects [ ]
    select _ r (named_alone.a_test kind named there) selects = elim selects [ ]

  pub selections_stand : SelectionsStand members
  selections_stand p m at place i t there row h selects =
      select p m at t i.op (reached_at members is (number_of members m) p at m place i t there row) h selects
