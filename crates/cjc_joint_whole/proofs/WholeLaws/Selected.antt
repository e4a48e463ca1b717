-- Public and protected methods of classes that are selected in the joint world: on each object there the call reaches a
-- method with code, or it makes the event of a class from outside.
use Rattle.std.proofs.Common.{◌≡◌, ℕ, ◌+◌, refl, sym, ap, subst, ◌∙◌, Bool, true, false, List, Option, Some, length, ⊎_elim}
use Rattle.std.specs.Prelude.{◌&&◌, not, option_and_then, option_map, slice_get, if◌then◌else◌}
use Rattle.cjc_bytes.specs.AccessFlags.{is_abstract, is_interface, is_private, is_static}
use Rattle.cjc_bytes.specs.declared.fault.MemberId.{MemberId}
use Rattle.cjc_bytes.proofs.Bools.{true_or_false}
use Rattle.cjc_jvm_semantics.specs.Group.{is_open, is_package_visible, joint, own_where, own_within, package_of}
use Rattle.cjc_jvm_semantics.specs.Group.{selection_for}
use Rattle.cjc_jvm_semantics.specs.Linked.{Abroad, Callee, Inside}
use Rattle.cjc_jvm_semantics.specs.OnePackage.{ResolvedMember, callee_at, first_imported, is_initialiser, method_at}
use Rattle.cjc_jvm_semantics.specs.OnePackage.{method_hit, of_class}
use Rattle.cjc_vtable.specs.Calls.{is_special}
use Rattle.cjc_world.specs.Classes.{Class, Member as WorldMember, class_named, declared}
use Rattle.cjc_world.specs.Files.{Files}
use Rattle.cjc_world.specs.Lookup.{first, is_called, is_selectable, member_at, receiver}
use Rattle.cjc_world.specs.Subtype.{is_subtype, starts}
use Rattle.cjc_world.specs.Supertypes.{line}
use Rattle.cjc_world.specs.Upwards.{Below, IsOrdered, OnLine}
use Rattle.cjc_world.specs.declared.found.Found.{Found}
use Rattle.cjc_world.proofs.Cycles.{class_named-name}
use Rattle.cjc_world.proofs.UpwardLaws.Lines.{below_abroad, first_has, first_some, in_line, line_below, line_named}
use Rattle.cjc_world.proofs.UpwardLaws.Lines.{of_line, on_line}
use Rattle.cjc_shape_proof.specs.WorldProof.Calls.Targets.{IsReceiver}
use Rattle.cjc_token_proof.proofs.WorldProofOwn.{is_found}
use Rattle.cjc_token_proof.proofs.WorldProofSelects.{called_by}
use Rattle.cjc_token_proof.proofs.WorldProofTypes.{below_type}
use Rattle.cjc_joint_proof.specs.Worlds.{before}
use Rattle.cjc_joint_theorem.specs.Members.{Member, files_of}
use Rattle.cjc_joint_theorem.specs.Together.Calls.{selected_together}
use Rattle.cjc_joint_theorem.specs.Together.Homes.{joint_world}
use Rattle.cjc_joint_theorem.proofs.MembersLaws.Worlds.{member_at as member_of_files}
use Rattle.cjc_joint_theorem.proofs.OrderedLaws.Ordered.{IsJoint, joint_class, ordered, outside_file, own_file}
use Rattle.cjc_joint_whole.specs.ModesCalls.{IsChosenIn, chooses_import, chooses_method}
use Rattle.cjc_joint_whole.specs.Whole.{AreWholeWith}
use Rattle.cjc_joint_whole.proofs.WholeLaws.Coded.{InFile, IsReachedOf, code_reached, hit_there}
use Rattle.cjc_joint_whole.proofs.WholeLaws.Coded as coded
use Rattle.cjc_joint_whole.proofs.WholeLaws.Members.{ordered_together, plain_together}
use Rattle.cjc_joint_whole.proofs.WholeLaws.Opened.{opened_has_code}
use Rattle.cjc_joint_whole.proofs.WholeLaws.Shown.{IsWhere, called_parts, open_parts, where_at}

module _ {K : _} (members : List Member) (is : AreWholeWith K members) (id : MemberId)
    (plain : is_special (record { name = id.name; desc = id.desc }) ≡ false)
    (initial : is_initialiser id.name ≡ false) where
  abbrev group : List Files
  group = files_of members

  abbrev w : List Class
  w = joint_world group

  abbrev opened : Class → Option Found
  opened = own_where is_open id.name id.desc

  order : IsOrdered w
  order = ordered group (ordered_together members is)

  both : {b : Bool} → b ≡ true → b ≡ false → ⊥
  both e g = let no : true ≡ false = sym e ∙ g in cc

  no_static : (flags : ℕ) → is_selectable flags ≡ true → is_static flags ≡ false
  no_static flags e = by (is_private flags) (is_static flags) e
    where
      by : (p t : Bool) → (not p && not t) ≡ true → t ≡ false
      by p false e = refl
      by true true e = absurd cc
      by false true e = absurd cc

  -- ---- what a search from a class of objects finds

  module _ (x : List ℕ) (r : IsReceiver w x) (f : Found) (found : first opened (line w x) ≡ Some f) where
    -- The class that has it, on the line.
    pub record Holds : Type 0 where
      pub class : Class
      pub on : OnLine w x class
      pub named : class_named w class.name ≡ Some class
      pub at : IsWhere is_open id.name id.desc class f

    pub holds : Holds
    holds =
        let one = first_has opened (line w x) f found in
        let d = one.0 in
        let on = of_line w order.acyclic x d one.1 in
        record {
          class = d;
          on = on;
          named = line_named w x d on;
          at = where_at is_open id.name id.desc d f one.2;
        }

    abbrev c : Class
    c = r.class

    -- one of a class file has code
    pub concrete : (h : ResolvedMember) → f.imported ≡ false → method_hit w f ≡ Some h → (d : Class) → OnLine w x d
        → class_named w d.name ≡ Some d → d.is_imported ≡ false → is_abstract h.flags ≡ false
    concrete h mine told d on named own =
        let low : c.is_imported ≡ false = ⊎_elim (λ imp. absurd (both (below_abroad w order x d.name c d
        (line_below w x d on) r.named imp named) own)) (λ e. e) (true_or_false c.is_imported) in
        by (joint_class group x c r.named) r.named low r.no_interface (⊎_elim (λ imp. absurd (both imp low)) (λ e. e)
        r.made)
      where
        by : {c : Class} → IsJoint group c → class_named w x ≡ Some c → c.is_imported ≡ false
            → is_interface c.flags ≡ false → is_abstract c.flags ≡ false → is_abstract h.flags ≡ false
        by (outside_file n e at) named low ground made = absurd cc
        by (own_file q k p t own) named low ground made =
            let m = member_of_files members q p own.member in
            let name : t.name ≡ x = class_named-name w x (declared (before group q + k) t) named in
            opened_has_code members is id plain f h mine told q m.0 m.1 k t (ap (λ (g : Files). slice_get g.classes k)
            m.2 ∙ own.file) ground made initial (ap (λ y. first opened (line w y)) name ∙ found)

    -- A call reaches what is found: a method with code of a class which the receiver is of, or the event of a class from
    -- outside.
    pub reaches_found : (event : List ℕ) → (callee : Callee) × (callee_at (joint group) event id f ≡ Some callee)
        × (y : List ℕ) × IsReachedOf members is id true y callee × Below w x y × (starts 91 y ≡ false)
    reaches_found event =
        let o = holds in
        by (joint_class group (let d = o.class in d.name) o.class o.named) o.on o.named o.at
      where
        by : {d : Class} → IsJoint group d → OnLine w x d → class_named w d.name ≡ Some d
            → IsWhere is_open id.name id.desc d f → (callee : Callee) × (callee_at (joint group) event id f
            ≡ Some callee) × (y : List ℕ) × IsReachedOf members is id true y callee × Below w x y × (starts 91 y ≡ false)
        by {d = d} (outside_file n e there) on named at = (
          Abroad (of_class event id),
          ap (λ b. if b then Some (Abroad (of_class event id)) else option_map Inside (method_at (joint group) f))
              (ap (λ (g : Found). g.imported) at.is),
          d.name,
          coded.abroad refl,
          line_below w x d on,
          plain_together members is d.name d named,
        )
        by {d = d} (own_file q k p t own) on named at =
            let m = member_of_files members q p own.member in
            let names = called_parts id.name id.desc at.method at.called in
            let it : InFile members id = record {
              part = q;
              member = m.0;
              at = m.1;
              number = k;
              class = t;
              file = ap (λ (g : Files). slice_get g.classes k) m.2 ∙ own.file;
              place = at.place;
              method = at.method;
              is_method = at.there;
              has_name = names.0;
              has_desc = names.1;
            } in
            let hit : method_hit w f ≡ Some (record { owner = d; flags = (let y = at.method in y.flags) }) =
            ap (method_hit w) at.is ∙ hit_there members is id it in
            let no_code = concrete (record { owner = d; flags = (let y = at.method in y.flags) })
            (ap (λ (g : Found). g.imported) at.is) hit d on named refl in
            let flags = open_parts (let y = at.method in y.flags) at.passing in
            let to = code_reached members is id it initial true (no_static (let y = at.method in y.flags) flags.0)
            no_code event in (
              to.0,
              ap (callee_at (joint group) event id) at.is ∙ to.1,
              t.name,
              to.2,
              line_below w x d on,
              plain_together members
                  is d.name d named,
            )

  -- ---- a call

  -- on a receiver of a class that declares such a method, or of one below it
  pub selects_open : (met : ResolvedMember) → is_package_visible met.flags ≡ false → (d : Class)
      → class_named w d.name ≡ Some d → is_interface d.flags ≡ false → (i : ℕ) (m : WorldMember)
      → slice_get d.methods i ≡ Some m → m.name ≡ id.name → m.desc ≡ id.desc → is_open m.flags ≡ true
      → (type : List ℕ) → IsReceiver w (receiver type) → Below w (receiver type) d.name → (callee : Callee)
      × (selected_together group met type id ≡ Some callee) × IsChosenIn members id type callee
  selects_open met shown d named ground i m there name desc open_one type r below =
      let x = receiver type in
      let on = on_line w order x d.name r.class d below r.named r.no_interface named ground in
      let passes : (is_open m.flags && is_called id.name id.desc m) ≡ true = ap (λ b. b && is_called id.name id.desc m)
      open_one ∙ called_by id.name id.desc m name desc in
      let at = is_found (λ (k : WorldMember). is_open k.flags && is_called id.name id.desc k) d.methods i m there passes
      in
      let own : opened d ≡ Some (member_at d (length d.fields + at.0)) = ap (option_map (λ n. member_at d
      (length d.fields + n))) at.1 in
      let g = first_some opened (line w x) d (member_at d (length d.fields + at.0)) (in_line w order.acyclic x d on) own
      in
      let selects : selection_for w met type id ≡ Some g.0 = ap (λ b. let owner = met.owner in if b
      then first (own_within (package_of owner.name) id.name id.desc) (line w x) else first opened (line w x)) shown
      ∙ g.1 in
      let event = first_imported (line w x) in
      let to = reaches_found x r g.0 g.1 event in (
        to.0,
        ap (option_and_then (λ k. callee_at (joint group) event id k)) selects ∙ to.1,
        chosen to.0 to.2 to.3 to.4 to.5,
      )
    where
      chosen : (callee : Callee) (y : List ℕ) → IsReachedOf members is id true y callee → Below w (receiver type) y
          → starts 91 y ≡ false → IsChosenIn members id type callee
      chosen _ y (coded.inside own same) way name = chooses_method own (subst (λ z. is_subtype w type z ≡ true) (sym same)
          (below_type w type y name way))
      chosen _ y (coded.abroad e) way name = chooses_import e
