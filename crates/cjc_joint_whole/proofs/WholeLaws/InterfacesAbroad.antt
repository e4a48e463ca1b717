-- A call of an interface's method on an object of a class from outside, or on an array, makes the event of the
-- interface, which is from outside too.
use Rattle.std.proofs.Common.{◌≡◌, ℕ, ◌+◌, refl, sym, ap, ◌∙◌, Bool, true, false, List, Option, Some, None, length}
use Rattle.std.proofs.Common.{⊎_elim}
use Rattle.std.specs.Prelude.{map, not, option_and_then, option_map, position, slice_get, unwrap_or, ◌&&◌, ◌==◌}
use Rattle.std.specs.Prelude.{if◌then◌else◌}
use Rattle.std.specs.Str.{bytes_eq}
use Rattle.cjc_bytes.proofs.Bools.{and_true}
use Rattle.cjc_bytes.proofs.Gets.{find_got}
use Rattle.cjc_bytes.specs.AccessFlags.{is_interface}
use Rattle.cjc_bytes.specs.declared.fault.MemberId.{MemberId}
use Rattle.cjc_components.specs.Names.{interface_token, token_in_interface}
use Rattle.cjc_components.specs.Package.{Package, world}
use Rattle.cjc_joint_proof.specs.JointAlike.{callee_at as callee_there}
use Rattle.cjc_joint_proof.specs.JointCode.{of_package}
use Rattle.cjc_joint_proof.specs.JointNames.{hit_for}
use Rattle.cjc_joint_proof.specs.JointPackages.{IsLinked, class_together, files_together, to_outside, to_package}
use Rattle.cjc_joint_proof.specs.JointTables.{world_together}
use Rattle.cjc_joint_proof.specs.JointTogether.{cell_together, field_together, names_by, naming_together}
use Rattle.cjc_joint_proof.specs.JointTowers.{loaded_together}
use Rattle.cjc_joint_proof.proofs.ClassLaws.{entry_in, exported, named_in, number_in, together_at}
use Rattle.cjc_joint_proof.proofs.StandLaws.{Inside, Outside, stands}
use Rattle.cjc_joint_theorem.specs.Ordered.{AreOrdered}
use Rattle.cjc_joint_theorem.proofs.OrderedLaws.Ordered.{ordered}
use Rattle.cjc_joint_theorem.proofs.OrderedLaws.Standing.{Stands, class_stands, from_outside, of_member}
use Rattle.cjc_joint_theorem.proofs.OrderedLaws.Standing.{own_class}
use Rattle.cjc_jvm_semantics.specs.Group.{find_exposed, is_of_group, joint, joint_method}
use Rattle.cjc_jvm_semantics.specs.OnePackage.{ResolvedMember, method_hit, of_class}
use Rattle.cjc_theorem.proofs.AlikeLaws.VirtualCalls.Chosen.{own_first}
use Rattle.cjc_token_proof.proofs.ByToken.Members.{bytes_tell}
use Rattle.cjc_token_proof.proofs.BytesGets.{get_mapped}
use Rattle.cjc_token_proof.proofs.WorldProofOwn.{hit_is, is_found}
use Rattle.cjc_token_proof.proofs.WorldProofSelects.{called_by}
use Rattle.cjc_token_proof.proofs.WrittenCalls.Facts.{Facts}
use Rattle.cjc_token_proof.proofs.WrittenCalls.Files.{position_has}
use Rattle.cjc_token_proof.proofs.WrittenCalls.Reached.{find_first}
use Rattle.cjc_token_proof.proofs.WrittenCalls.Receivers.{first_step}
use Rattle.cjc_token_proof.proofs.WrittenCalls.Towers.{line_is}
use Rattle.cjc_token_proof.proofs.WrittenSends.Operations.{call_named}
use Rattle.cjc_token_proof.specs.Calls.Selecting.{signature}
use Rattle.cjc_token_proof.specs.CardSemantics.Machine.Calls as card
use Rattle.cjc_token_proof.specs.CardSemantics.Machine.Classes.{External, Own}
use Rattle.cjc_token_proof.specs.CardSemantics.Machine.Dispatch.{NotFound, Outward, dispatched_interface}
use Rattle.cjc_token_proof.specs.CardSemantics.Machine.Dispatch.{interface_method, of_file, outward}
use Rattle.cjc_token_proof.specs.CardSemantics.Machine.Loaded.{Loaded}
use Rattle.cjc_token_proof.specs.CardSemantics.Machine.Operations as operations
use Rattle.cjc_token_proof.specs.NCode.ByLabel.{OnInterface}
use Rattle.cjc_token_proof.specs.NCode.Lowering.Naming.{callee}
use Rattle.cjc_token_proof.specs.Narrow.Rows.Resolved.{method_found}
use Rattle.cjc_token_proof.specs.Tables.Infos.{HasEntry}
use Rattle.cjc_token_proof.specs.WrittenCalls.Calls.{ExportsKeep, IsNamed, on_interface}
use Rattle.cjc_token_proof.specs.WrittenSends.Named.{is_called}
use Rattle.cjc_tokens.specs.Members.{Signature, same, signature_of}
use Rattle.cjc_tokens.specs.Methods.{interface_methods}
use Rattle.cjc_vtable.proofs.Filed.{at-number}
use Rattle.cjc_vtable.specs.Tables.{or_zero}
use Rattle.cjc_world.proofs.Cycles.{class_named-name}
use Rattle.cjc_world.proofs.UpwardLaws.Lines.{below_abroad}
use Rattle.cjc_world.specs.Classes.{Class, Member, class_named, method_of_export}
use Rattle.cjc_world.specs.ExportFile.Supers as exports
use Rattle.cjc_world.specs.ExportFile.declared.tree.ExportMethod.{ExportMethod}
use Rattle.cjc_world.specs.Files.{Files}
use Rattle.cjc_world.specs.Lookup.{find_method, first, is_called as is_named, is_wanted, member_at, or_else, own_method}
use Rattle.cjc_world.specs.Supertypes.{supertypes, upwards}
use Rattle.cjc_world.specs.Upwards.{Below, IsOrdered}
use Rattle.cjc_world.specs.declared.found.Found.{Found}
use Rattle.cjc_joint_whole.specs.Selected.{SelectTogether, face_selection}
use Rattle.cjc_joint_whole.proofs.WholeLaws.FixedNamed.{AloneLaws}
use Rattle.cjc_joint_whole.proofs.WholeLaws.OpenHits.{first_flags}

clash : {b : Bool} → b ≡ true → b ≡ false → ⊥
clash e g = let no : true ≡ false = sym e ∙ g in cc

-- a class file of a package is one in the joint world
pub stays_own : (group : List Files) (q : ℕ) (p : Files) (c d : Class) → Stands group q p c d → c.is_imported ≡ false
    → d.is_imported ≡ false
stays_own group q p _ _ (own_class k t own) e = refl
stays_own group q p _ _ (of_member n x j k m t lt own name kind) e = refl
stays_own group q p _ _ (from_outside n k x at) e = e

module _ (packages : List Package) (is : SelectTogether packages) (each : (q : ℕ) (p : Package)
    → slice_get packages q ≡ Some p → AloneLaws p) where
  abbrev l : Loaded
  l = loaded_together packages

  abbrev group : List Files
  group = files_together packages

  abbrev w : List Class
  w = world_together packages

  all : AreOrdered group
  all = is.ordered

  order : IsOrdered w
  order = ordered group all

  -- a class from outside is one on the card
  outside_on_card : (x : List ℕ) (c : Class) → class_named w x ≡ Some c → c.is_imported ≡ true → (tree : ℕ)
      × (number : ℕ) × (class_together packages x ≡ External tree number)
  outside_on_card x c named import = ⊎_elim inside outside (stands packages is.linked x c named)
    where
      inside : Inside packages is.linked x c → (tree : ℕ) × (number : ℕ)
          × (class_together packages x ≡ External tree number)
      inside i = absurd (clash import (ap (λ (v : Class). v.is_imported) i.is))

      outside : Outside packages is.linked x c → (tree : ℕ) × (number : ℕ)
          × (class_together packages x ≡ External tree number)
      outside o = (_, _, o.on_card)

  module _ (q n : ℕ) (p : Package) (it : slice_get packages q ≡ Some p) (m : MemberId) (i : Class) (k : ℕ)
      (known : class_named (world p) m.class ≡ Some i) (face : is_interface i.flags ≡ true)
      (placed : position (λ s. same s (signature m)) (interface_methods (world p) i) ≡ Some k) where
    abbrev v : List Class
    v = world p

    abbrev tok : ℕ
    tok = interface_token p m

    facts : Facts p
    facts = let a = each q p it in a.facts

    keep : ExportsKeep p
    keep = let a = each q p it in let r = a.runs in let j = r.joined in j.exports

    token_is : tok ≡ k
    token_is = ap (token_in_interface v (signature m)) known ∙ ap or_zero placed

    pub method_there : slice_get (interface_methods v i) tok ≡ Some (signature m)
    method_there =
        let r = position_has (λ s. same s (signature m)) (interface_methods v i) k (signature m) placed in
        let two = and_true (bytes_eq r.0.name m.name) (bytes_eq r.0.desc m.desc) r.2 in
        ap (slice_get (interface_methods v i)) token_is ∙ r.1
        ∙ ap (λ x. Some (record { name = x; desc = r.0.desc })) (bytes_tell r.0.name m.name two.0)
        ∙ ap (λ x. Some (record { name = m.name; desc = x })) (bytes_tell r.0.desc m.desc two.1)

    pub callee_is : callee_there (naming_together packages) (of_package q (OnInterface n m))
        ≡ operations.OnInterface n (class_together packages m.class) tok
    callee_is =
        ap (λ o. callee (record (names_by l q o) {
          loaded = l;
          part = q;
          class = class_together packages;
          field_token = field_together packages;
          cell = cell_together packages;
        }) (OnInterface n m)) it

    module _ (y : Class) (named : class_named w m.class ≡ Some y) (abroad : y.is_imported ≡ true) where
      -- what stands for an own class of a package is no class from outside
      no_own : (r : ℕ) (e : Package) → slice_get packages r ≡ Some e → (d : Class)
          → class_named (world e) m.class ≡ Some d → d.is_imported ≡ false → ⊥
      no_own r e there d known_d own =
          let s = class_stands group all r e.files (together_at packages is.linked r e there) m.class d known_d in
          let both : Some s.class ≡ Some y = sym s.named ∙ named in
          let one : s.class ≡ y = cc in
          clash (ap (λ (c : Class). c.is_imported) one ∙ abroad) (stays_own group r e.files d s.class s.stands own)

      imports : i.is_imported ≡ true
      imports = by i.is_imported refl
        where
          by : (b : Bool) → i.is_imported ≡ b → i.is_imported ≡ true
          by true e = e
          by false e = absurd (no_own q p it i known e)

      entry_of : HasEntry p i
      entry_of = let f = facts in f.file m.class i known imports

      is_outside : (h : HasEntry p i) → is_of_group group (let t = h.tree in t.name) ≡ false
      is_outside h =
          let linked = is.linked in
          by (linked.imports q h.file p h.tree (record { member = it; file = h.in_list }))
        where
          by : IsLinked packages q h.tree → is_of_group group (let t = h.tree in t.name) ≡ false
          by (to_outside out) = out
          by (to_package j e less before_it same_tree) =
              let o = exported packages is.linked q p it m.class i known h j e before_it same_tree in
              absurd (no_own j e before_it o.class o.there o.own)

      module _ (h : HasEntry p i) (out : is_of_group group (let t = h.tree in t.name) ≡ false) where
        listed : (o : ExportMethod) × (let e = h.entry in exports.virtual_method tok e ≡ Some o)
            × (signature_of (method_of_export o) ≡ signature m)
        listed =
            let x = keep in
            x.methods m.class h.number h.entry (known ∙ ap Some h.class) (sym (ap (λ (c : Class). is_interface c.flags)
            h.class) ∙ face) tok (signature m) (ap (λ c. slice_get (interface_methods v c) tok) (sym h.class)
            ∙ method_there)

        entry_name : (let e = h.entry in e.name) ≡ m.class
        entry_name = sym (ap (λ (c : Class). c.name) h.class) ∙ class_named-name v m.class i known

        class_is : class_together packages m.class ≡ External (number_in packages is.linked q p it m.class i known h out)
            (let e = h.entry in e.token)
        class_is = ap (λ o. unwrap_or o (Own 0 0)) (named_in packages is.linked q p it m.class i known h out)

        -- the event by token
        pub selects : (x : List ℕ) (c : Class) → class_named w x ≡ Some c → c.is_imported ≡ true
            → face_selection packages q n m x ≡ Outward m
        selects x c named_x import =
            let a = outside_on_card x c named_x import in
            let o = listed in
            let e = h.entry in
            ap (λ f. card.selected l f (Some (class_together packages x))) callee_is
            ∙ ap (λ d. dispatched_interface l (Some d) (class_together packages m.class) tok) a.2
            ∙ ap (λ d. interface_method l d tok) class_is
            ∙ ap (λ u. of_file u tok) (entry_in packages is.linked q p it m.class i known h out)
            ∙ ap (λ u. outward e.name u NotFound) o.1
            ∙ ap (λ (s : Signature). Outward (record { class = e.name; name = s.name; desc = s.desc })) o.2
            ∙ ap (λ z. Outward (record { class = z; name = m.name; desc = m.desc })) entry_name

        -- the interface lists the method itself
        declares : (f : Found) × (own_method false m.name m.desc i ≡ Some f)
        unfolding own_method
        declares =
            let o = listed in
            let e = h.entry in
            let r = find_got (λ (u : ExportMethod). exports.is_virtual u && (u.token == tok)) e.methods o.0 o.1 in
            let there : slice_get (map method_of_export e.methods) r.0 ≡ Some (method_of_export o.0) = get_mapped
            method_of_export e.methods r.0 ∙ ap (option_map method_of_export) r.1 in
            let at_i : slice_get i.methods r.0 ≡ Some (method_of_export o.0) = ap (λ (c : Class). slice_get c.methods r.0)
            h.class ∙ there in
            let called : (is_wanted false (let u = o.0 in u.flags) && is_named m.name m.desc (method_of_export o.0))
            ≡ true = called_by m.name m.desc (method_of_export o.0) (ap (λ (s : Signature). s.name) o.2) (ap (λ (s
            : Signature). s.desc) o.2) in
            let at = is_found (λ (u : Member). is_wanted false u.flags && is_named m.name m.desc u) i.methods r.0
            (method_of_export o.0) at_i called in
            (_, ap (option_map (λ j. member_at i (length i.fields + j))) at.1)

        -- so it is its own in the joint world
        pub owner_is : (hit : ResolvedMember) → hit_for (joint group) w p.files m ≡ Some hit
            → (let o = hit.owner in o.name) ≡ m.class
        owner_is hit is_hit =
            let r = hits (own_method false m.name m.desc y) refl (sym (ap (option_and_then (method_hit w)) (met
            ∙ ap (option_and_then (λ (z : Class). if i.is_imported && not z.is_imported then find_exposed w i.name m
            else own_method false m.name m.desc z)) (ap (class_named w) i_name ∙ named)
            ∙ ap (λ b. if b && not y.is_imported then find_exposed w i.name m else own_method false m.name m.desc y)
            imports
            ∙ ap (λ b. if not b then find_exposed w i.name m else own_method false m.name m.desc y) abroad)) ∙ is_hit) in
            let t = first_flags w (signature m) y r.0 hit (at-number (joint group) m.class y named) r.1 r.2 in
            ap (λ (c : Class). c.name) t.3 ∙ class_named-name w m.class y named
          where
            i_name : i.name ≡ m.class
            i_name = class_named-name v m.class i known

            found : find_method v m.class m.name m.desc ≡ Some declares.0
            found =
                let d = declares in
                find_first v m.class m.name m.desc d.0 (ap (first (own_method false m.name m.desc)) (line_is p facts
                m.class i known) ∙ first_step (own_method false m.name m.desc) i (upwards (supertypes v i.supers))
                ∙ ap (λ u. or_else u (first (own_method false m.name m.desc) (upwards (supertypes v i.supers)))) d.1)

            met : option_and_then (λ (z : ResolvedMember). let owner = z.owner in joint_method w owner m) (method_found
                v m) ≡ joint_method w i m
            met =
                let d = declares in
                let a = own_first false (signature m) i d.0 d.1 in
                ap (option_and_then (λ (z : ResolvedMember). let owner = z.owner in joint_method w owner m)) (ap
                (option_and_then (method_hit v)) found ∙ ap (method_hit v) a.is ∙ hit_is v i a.place a.method ((let f =
                facts in f.placed) m.class i known) a.there)

            hits : (o : Option Found) → own_method false m.name m.desc y ≡ o → option_and_then (method_hit w) o ≡ Some hit
                → (f : Found) × (own_method false m.name m.desc y ≡ Some f) × (method_hit w f ≡ Some hit)
            hits None f e = cc
            hits (Some k) f e = (k, f, e)

  -- the event of a call
  pub face_abroad : (q n : ℕ) (p : Package) → slice_get packages q ≡ Some p → (m : MemberId)
      → is_called p (OnInterface n m) ≡ true → (x : List ℕ) (c : Class) → class_named w x ≡ Some c
      → c.is_imported ≡ true → ((y : Class) → class_named w m.class ≡ Some y → Below w x m.class)
      → (hit : ResolvedMember) → hit_for (joint group) w p.files m ≡ Some hit
      → face_selection packages q n m x ≡ Outward (let o = hit.owner in of_class o.name m)
  face_abroad q n p it m called x c named import below hit is_hit =
      let a = each q p it in
      let r = a.runs in
      let both = call_named p r.named (OnInterface n m) called in
      by both.0
    where
      by : IsNamed (world p) (OnInterface n m)
          → face_selection packages q n m x ≡ Outward (let o = hit.owner in of_class o.name m)
      by (on_interface i k known face plain placed) =
          let s = class_stands group all q p.files (together_at packages is.linked q p it) m.class i known in
          let abroad = below_abroad w order x m.class c s.class (below s.class s.named) named import s.named in
          let h = entry_of q n p it m i k known face placed s.class s.named abroad in
          let out = is_outside q n p it m i k known face placed s.class s.named abroad h in
          selects q n p it m i k known face placed s.class s.named abroad h out x c named import
          ∙ ap (λ z. Outward (of_class z m)) (sym (owner_is q n p it m i k known face placed s.class s.named abroad h
          out hit is_hit))
