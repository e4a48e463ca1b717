-- What is found over superclasses from a class of an export file from outside, by name in the joint world and by token
-- in the export files that the group has.
use Rattle.std.proofs.Common.{◌≡◌, ℕ, suc, ◌+◌, refl, sym, ap, subst, ◌∙◌, Bool, true, false, List, [], ◌∷◌, ◌++◌}
use Rattle.std.proofs.Common.{Option, Some, None, length}
use Rattle.std.specs.Prelude.{◌&&◌, ◌||◌, not, option_map, slice_get, if◌then◌else◌}
use Rattle.cjc_bytes.specs.AccessFlags.{is_interface, is_static}
use Rattle.cjc_bytes.specs.declared.fault.MemberId.{MemberId}
use Rattle.cjc_bytes.proofs.Bools.{and_true}
use Rattle.cjc_components.specs.Package.{Package, world}
use Rattle.cjc_jvm_semantics.specs.Group.{is_of_group, is_open, joint, own_where}
use Rattle.cjc_jvm_semantics.specs.Linked.{Method}
use Rattle.cjc_jvm_semantics.specs.OnePackage.{is_constructor, is_initialiser, is_sendable, method_hit}
use Rattle.cjc_joint_proof.specs.JointCalled.{StandByPackage}
use Rattle.cjc_joint_proof.specs.JointPackages.{IsLinked, class_together, files_together, to_outside, to_package}
use Rattle.cjc_joint_proof.specs.JointTables.{world_together}
use Rattle.cjc_joint_proof.specs.JointTowers.{loaded_together}
use Rattle.cjc_joint_proof.specs.Loading.{AllLead, group_of, member_of}
use Rattle.cjc_joint_proof.specs.Worlds.{before, outside_classes}
use Rattle.cjc_joint_proof.proofs.ClassLaws.{exported}
use Rattle.cjc_joint_proof.proofs.StandLaws.{Outside, own_together, stands_outside}
use Rattle.cjc_joint_theorem.proofs.OrderedLaws.Ordered.{ordered}
use Rattle.cjc_theorem.proofs.AlikeLaws.VirtualCalls.Chosen.{first_found, has_methods}
use Rattle.cjc_theorem.proofs.AlikeLaws.VirtualCalls.Ways.{line_class}
use Rattle.cjc_token_proof.proofs.WorldProofOwn.{hit_is, is_found}
use Rattle.cjc_token_proof.proofs.WorldProofSelects.{called_by}
use Rattle.cjc_token_proof.proofs.WrittenCalls.Facts.{Facts}
use Rattle.cjc_token_proof.proofs.WrittenCalls.Held.{FormsLaw, OffsetsLaw}
use Rattle.cjc_token_proof.proofs.WrittenSends.Order.{HasFiles, class_token, classes_token, files_token, listed_is}
use Rattle.cjc_token_proof.specs.Calls.Selecting.{signature}
use Rattle.cjc_token_proof.specs.CardSemantics.Machine.Calls.{found_token, token_in_files}
use Rattle.cjc_token_proof.specs.CardSemantics.Machine.Classes.{or_else}
use Rattle.cjc_token_proof.specs.CardSemantics.Machine.Dispatch.{Open, Token, exported_line}
use Rattle.cjc_token_proof.specs.CardSemantics.Machine.Loaded.{Loaded}
use Rattle.cjc_token_proof.specs.NCode.Lowering.Placed.{Placed}
use Rattle.cjc_token_proof.specs.Tables.Infos.{HasEntry}
use Rattle.cjc_tokens.specs.Lines.{line_of}
use Rattle.cjc_tokens.specs.Members.{In, Signature, all_methods, chosen, is_exposed, is_shown, is_virtual}
use Rattle.cjc_tokens.specs.Members.{signature_of}
use Rattle.cjc_tokens.specs.Slots.{slots, token}
use Rattle.cjc_tokens.proofs.Facts.{chosen-In, chosen-passes}
use Rattle.cjc_vtable.specs.Calls.{any_method, is_special}
use Rattle.cjc_vtable.proofs.Agrees.{virtual_plain}
use Rattle.cjc_vtable.proofs.Asked.{chosen-behind, chosen-front}
use Rattle.cjc_vtable.proofs.Filed.{at-number}
use Rattle.cjc_world.proofs.Settled.{AreSupertypes-one, lists-front, supertypes-AreSupertypes}
use Rattle.cjc_world.proofs.UpwardLaws.Lines.{below_abroad, first_some, line_below, line_named, of_line, same_class}
use Rattle.cjc_world.specs.Classes.{Class, Member, class_named, declared, imported}
use Rattle.cjc_world.specs.ExportFile.Supers as exports
use Rattle.cjc_world.specs.ExportFile.declared.tree.ExportClass.{ExportClass}
use Rattle.cjc_world.specs.ExportFile.declared.tree.ExportMethod.{ExportMethod}
use Rattle.cjc_world.specs.Files.{Files}
use Rattle.cjc_world.specs.Lookup.{first, is_called, is_selectable, member_at, own_method}
use Rattle.cjc_world.specs.Lookup as lookup
use Rattle.cjc_world.specs.Supertypes.{line, supertypes, upwards}
use Rattle.cjc_world.specs.Upwards.{IsOrdered, OnLine}
use Rattle.cjc_world.specs.declared.found.Found.{Found}
use Rattle.cjc_joint_whole.specs.Selected.{IsOutside, OutsideClassesAgree, SelectTogether}
use Rattle.cjc_joint_whole.specs.Sent.{FoundAlike, TokenSends, bears, bound, nowhere}
use Rattle.cjc_joint_whole.proofs.WholeLaws.FixedNamed.{AloneLaws}
use Rattle.cjc_joint_whole.proofs.WholeLaws.OpenFinds.{line_from}
use Rattle.cjc_joint_whole.proofs.WholeLaws.OpenHits.{none_chosen, seen_so}
use Rattle.cjc_joint_whole.proofs.WholeLaws.OutsideTokens.{in_exports, in_world, listed_token, plain_entry}
use Rattle.cjc_joint_whole.proofs.WholeLaws.SentBy.{shown_sends}
use Rattle.cjc_joint_whole.proofs.WholeLaws.Shown.{parts_open}
use Rattle.cjc_joint_whole.proofs.WholeLaws.TokenMeans.{ImportsAreExposed}

-- ---- a method, as scripts send it

-- where the class has the method by this name, a script may send it where it is virtual
pub sendable_is : (id : MemberId) (d : Class) (m : Member) → m.name ≡ id.name
    → is_sendable id (record { owner = d; flags = m.flags }) ≡ is_virtual m
sendable_is id d m name =
    by (is_selectable m.flags) (is_constructor id.name) (is_initialiser id.name)
    ∙ ap (λ x. is_selectable m.flags && not (is_constructor x || is_initialiser x)) (sym name)
  where
    by : (a b c : Bool) → ((a && not b) && not c) ≡ (a && not (b || c))
    by true true c = refl
    by true false c = refl
    by false b c = refl

-- a virtual method may be selected
pub virtual_selects : (m : Member) → is_virtual m ≡ true → is_selectable m.flags ≡ true
virtual_selects m e = (and_true (is_selectable m.flags) (not (is_special (signature_of m))) e).0

-- a class that declares a public or protected method that may be selected has one
pub open_own : (id : MemberId) (d : Class) (i : ℕ) (m : Member) → slice_get d.methods i ≡ Some m
    → signature_of m ≡ signature id → is_virtual m ≡ true → is_exposed m.flags ≡ true → (g : Found)
    × (own_where is_open id.name id.desc d ≡ Some g)
open_own id d i m there names virtual exposed =
    let called = called_by id.name id.desc m (ap (λ (u : Signature). u.name) names) (ap (λ (u : Signature). u.desc)
    names) in
    let opened = parts_open m.flags (virtual_selects m virtual) exposed in
    let r = is_found (λ (q : Member). is_open q.flags && is_called id.name id.desc q) d.methods i m there (ap (λ b. b
    && is_called id.name id.desc m) opened ∙ called) in
    (member_at d (length d.fields + r.0), ap (option_map (λ n. member_at d (length d.fields + n))) r.1)

-- it is neither a constructor nor an initialiser
pub virtual_ordinary : (id : MemberId) (m : Member) → signature_of m ≡ signature id → is_virtual m ≡ true
    → is_special (signature id) ≡ false
virtual_ordinary id m names virtual = ap is_special (sym names) ∙ virtual_plain m virtual

-- ---- what classes say of a method

abbrev token_of : Member → Option ℕ
token_of m = if is_virtual m then Some m.token else None

-- the first that has one is the first of the methods of all
classes_chosen : (id : MemberId) (ds : List Class) → classes_token id ds ≡ option_map token_of (chosen any_method
    (signature id) (all_methods ds))
classes_chosen id [] = refl
classes_chosen id (d ∷ ds) = by (chosen any_method (signature id) d.methods) refl (classes_chosen id ds)
  where
    by : (o : Option Member) → chosen any_method (signature id) d.methods ≡ o
        → classes_token id ds ≡ option_map token_of (chosen any_method (signature id) (all_methods ds))
        → or_else (class_token id d) (classes_token id ds)
        ≡ option_map token_of (chosen any_method (signature id) (d.methods ++ all_methods ds))
    by None e rest =
        ap (λ q. or_else (option_map token_of q) (classes_token id ds)) e ∙ rest
        ∙ sym (ap (option_map token_of) (chosen-behind any_method (signature id) d.methods (all_methods ds) e))
    by (Some m) e rest =
        ap (λ q. or_else (option_map token_of q) (classes_token id ds)) e
        ∙ sym (ap (option_map token_of) (chosen-front any_method (signature id) d.methods (all_methods ds) m e))

-- where a look-up finds nothing, no class has one
none_first : (s : Signature) (ds : List Class) → first (own_method false s.name s.desc) ds ≡ None
    → chosen any_method s (all_methods ds) ≡ None
unfolding first
none_first s [] e = refl
none_first s (d ∷ ds) e = by (own_method false s.name s.desc d) refl e (none_first s ds)
  where
    by : (o : Option Found) → own_method false s.name s.desc d ≡ o
        → lookup.or_else o (first (own_method false s.name s.desc) ds) ≡ None
        → (first (own_method false s.name s.desc) ds ≡ None → chosen any_method s (all_methods ds) ≡ None)
        → chosen any_method s (d.methods ++ all_methods ds) ≡ None
    by None own e rest = chosen-behind any_method s d.methods (all_methods ds) (none_chosen s d own) ∙ rest e
    by (Some f) own e rest = absurd (cc)

-- ---- a group

module _ (forms : FormsLaw) (offsets : OffsetsLaw) (packages : List Package) (is : SelectTogether packages)
    (each : (q : ℕ) (p : Package) → slice_get packages q ≡ Some p → AloneLaws p) (at : Method → Placed)
    (stand : StandByPackage packages at)
    (exposed : (q : ℕ) (p : Package) → slice_get packages q ≡ Some p → ImportsAreExposed p)
    (outside : OutsideClassesAgree packages)
    (leads : (q : ℕ) (p : Package) → slice_get packages q ≡ Some p → AllLead (group_of packages) (member_of p)) where
  abbrev l : Loaded
  l = loaded_together packages

  abbrev group : List Files
  group = files_together packages

  abbrev w : List Class
  w = world_together packages

  abbrev es : List ExportClass
  es = outside_classes group

  order : IsOrdered w
  order = ordered group is.ordered

  facts : (q : ℕ) (p : Package) → slice_get packages q ≡ Some p → Facts p
  facts q p it = let a = each q p it in a.facts

  -- ---- the classes of export files from outside, as the group has them

  has_files : HasFiles w es
  has_files = record {
    are_supertypes = supertypes-AreSupertypes w order.acyclic;
    one_supertypes = AreSupertypes-one w;
    acyclic = order.acyclic;
    apart = λ x y c d e import i f. order.abroad x y c d e import (lists-front y c.supers c.interfaces i) f;
    of_file = λ y e named. in_world packages is each y e named;
    in_file = λ y d e import. (let o = in_exports packages is each y d e import in
        (o.number, o.entry, o.in_files_so, o.is_class));
  }

  -- an initialiser is static there
  plain_there : (y : List ℕ) (e : ExportClass) → exports.class_named es y ≡ Some e → (k : ℕ) (m : ExportMethod)
      → slice_get e.methods k ≡ Some m → is_initialiser m.name ≡ true → is_static m.flags ≡ true
  plain_there y e named =
      let n = in_world packages is each y e named in
      let o = stands_outside packages is.linked y (imported n.0 e) n.1 refl in
      plain_entry o.importer (facts o.part o.importer o.here) y e (imported o.import_number o.class) o.imported_there
      refl (sym (ap (λ (q : Class). q.methods) o.is))

  -- such a class is from outside to a package that knows it
  outside_of : (q : ℕ) (p : Package) (it : slice_get packages q ≡ Some p) (y : List ℕ) (c k : Class)
      → class_named (world p) y ≡ Some c → c.is_imported ≡ true → class_named w y ≡ Some k → k.is_imported ≡ true
      → IsOutside packages p c
  outside_of q p it y c k known import named far = (
    h,
    by (let a = is.linked in a.imports q h.file p h.tree (record {
      member = it;
      file = h.in_list;
    })),
  )
    where
      h : HasEntry p c
      h = (let f = facts q p it in f.file) y c known import

      by : IsLinked packages q h.tree → is_of_group group (let t = h.tree in t.name) ≡ false
      by (to_package r e less there same) =
          let o = exported packages is.linked q p it y c known h r e there same in
          let t = own_together packages is.linked r e there y o.class o.there o.own in
          let one : declared (before group r + t.place) t.tree ≡ k = same_class (sym t.together ∙ named) in
          let no : false ≡ true = ap (λ (b : Class). b.is_imported) one ∙ far in
          absurd (cc)
      by (to_outside out) = out

  -- ---- what is found by token

  module _ (id : MemberId) (y : List ℕ) (k : Class) (named : class_named w y ≡ Some k)
      (o : Outside packages is.linked y k) where
    abbrev s : Signature
    s = signature id

    far : k.is_imported ≡ true
    far = ap (λ (q : Class). q.is_imported) o.is

    its_entry : imported o.number o.entry ≡ k
    its_entry = o.alike o.number ∙ sym o.is

    plain_own : (j : ℕ) (m : ExportMethod) → (let e = o.entry in slice_get e.methods j ≡ Some m)
        → is_initialiser m.name ≡ true → is_static m.flags ≡ true
    plain_own = plain_entry o.importer (facts o.part o.importer o.here) y o.entry (imported o.import_number o.class)
        o.imported_there refl (ap (λ (q : Class). q.methods) (sym (o.alike o.import_number)))

    listed : token_in_files (exported_line l (Some o.entry)) id ≡ classes_token id (k ∷ upwards (supertypes w k.supers))
    listed =
        let e = o.entry in
        ap (λ a. or_else a (token_in_files (exports.upwards es e.supers) id)) (listed_is id o.number e plain_own
        ∙ ap (class_token id) its_entry)
        ∙ ap (λ ss. or_else (class_token id k) (token_in_files (exports.upwards es ss) id)) (ap (λ (q : Class).
        q.supers) its_entry)
        ∙ ap (or_else (class_token id k)) (files_token w es has_files id plain_there k.supers (λ x d i e. order.abroad y
        x k d named far (lists-front x k.supers k.interfaces i) e))

    -- what the first method says that the classes above have
    pub outside_token : (n : ℕ) → found_token l (suc n) (Some (class_together packages y)) id
        ≡ option_map (option_map Open) (option_map token_of (chosen any_method s (all_methods (line w y))))
    outside_token n =
        ap (λ q. found_token l (suc n) (Some q) id) o.on_card
        ∙ ap (λ e. option_map (option_map Open) (token_in_files (exported_line l e) id)) o.there
        ∙ ap (option_map (option_map Open)) (listed ∙ ap (classes_token id) (sym (line_from w order.acyclic y k named))
        ∙ classes_chosen id (line w y))

    -- it has no token for a constructor or an initialiser
    pub outside_bound : is_special s ≡ true → (n : ℕ) (t : Token) → found_token l (suc n) (Some (class_together packages
        y)) id ≡ Some (Some t) → ⊥
    outside_bound special n t e = by (chosen any_method s (all_methods (line w y))) refl (sym (outside_token n) ∙ e)
      where
        of_kind : (m : Member) → signature_of m ≡ s → (b : Bool) → is_virtual m ≡ b
            → option_map (option_map Open) (Some (if b then Some m.token else None)) ≡ Some (Some t) → ⊥
        of_kind m names true virtual h =
            let no : false ≡ true = sym (virtual_ordinary id m names virtual) ∙ special in
            absurd (cc)
        of_kind m names false virtual h = absurd (cc)

        by : (q : Option Member) → chosen any_method s (all_methods (line w y)) ≡ q
            → option_map (option_map Open) (option_map token_of q) ≡ Some (Some t) → ⊥
        by None g h = absurd (cc)
        by (Some m) g h = of_kind m (chosen-passes any_method s (all_methods (line w y)) m g).0 (is_virtual m) refl h

    -- ---- beside what is found by name

    module _ (plain : is_interface k.flags ≡ false) where
      abbrev finds : Class → Option Found
      finds = own_method false id.name id.desc

      abbrev Alike : Option Found → Option (Option Token) → Type 0
      Alike f t = FoundAlike packages at y id f t

      -- a public or protected one that is first has its token
      sends : (m : Member) (b : Class) → signature_of m ≡ s → is_virtual m ≡ true → is_exposed m.flags ≡ true
          → (g : Found) → first (own_where is_open id.name id.desc) (line w y) ≡ Some g
          → token (slots (line_of (world o.importer) y)) (signature_of m) ≡ Some m.token
          → TokenSends packages at y id (record { owner = b; flags = m.flags }) (Open m.token)
      sends m b names virtual seen g found its =
          shown_sends forms offsets packages is each at stand exposed outside leads o.part o.importer o.here id
          (virtual_ordinary id m names virtual) y (imported o.import_number o.class) k o.imported_there
          (ap (λ (q : Class). is_interface q.flags) (sym o.is) ∙ plain) named plain m.token
          (ap (token (slots (line_of (world o.importer) y))) (sym names) ∙ its) g found (record {
            owner = b;
            flags = m.flags;
          }) (seen_so m.flags seen)

      pub outside_alike : (n : ℕ) → Alike (first finds (line w y)) (found_token l (suc n) (Some (class_together packages
          y)) id)
      outside_alike n = subst (Alike (first finds (line w y))) (sym (outside_token n)) (by (first finds (line w y))
          refl)
        where
          of_first : (f : Found) → first finds (line w y) ≡ Some f
              → Alike (Some f) (option_map (option_map Open) (option_map token_of (chosen any_method s (all_methods
              (line
              w y)))))
          of_first f e =
              let r = first_found false s (line w y) f e in
              let a = r.at in
              subst (λ q. Alike (Some f) (option_map (option_map Open) (option_map token_of q))) (sym r.of_all)
              (of_kind r.class (of_line w order.acyclic y r.class r.among) a.method a.place a.is_first a.there a.is
              (has_methods r.class (line w y) a.method r.among (chosen-In any_method s (let b = r.class in b.methods)
              a.method a.is_first)) (is_virtual a.method) refl (λ g own. first_some (own_where is_open id.name id.desc)
              (line w y) r.class g r.among own))
            where
              of_kind : (b : Class) → OnLine w y b → (m : Member) (i : ℕ) → chosen any_method s b.methods ≡ Some m
                  → slice_get b.methods i ≡ Some m → f ≡ member_at b (length b.fields + i)
                  → In m (all_methods (line w y)) → (t : Bool) → is_virtual m ≡ t
                  → ((g : Found) → own_where is_open id.name id.desc b ≡ Some g → (h : Found)
                  × (first (own_where is_open id.name id.desc) (line w y) ≡ Some h))
                  → Alike (Some f) (option_map (option_map Open) (Some (token_of m)))
              of_kind b on m i is_first there is_at among t kind opens = of_it t kind
                where
                  names : signature_of m ≡ s
                  names = (chosen-passes any_method s b.methods m is_first).0

                  named_b : class_named w b.name ≡ Some b
                  named_b = line_named w y b on

                  hit_there : method_hit w f ≡ Some (record { owner = b; flags = m.flags })
                  hit_there = ap (method_hit w) is_at ∙ hit_is w b i m (at-number (joint group) b.name b named_b) there

                  may_send : is_sendable id (record { owner = b; flags = m.flags }) ≡ is_virtual m
                  may_send = sendable_is id b m (ap (λ (u : Signature). u.name) names)

                  -- what export files from outside list of classes is public or protected
                  seen : is_virtual m ≡ true → is_exposed m.flags ≡ true
                  seen virtual =
                      let import = below_abroad w order y b.name k b (line_below w y b on) named far named_b in
                      let u = stands_outside packages is.linked b.name b named_b import in
                      exposed u.part u.importer u.here b.name (imported u.import_number u.class) i m u.imported_there
                      refl (ap (λ (q : Class). is_interface q.flags) (sym u.is) ∙ line_class w order y k b on named
                      plain) (ap (λ (q : Class). slice_get q.methods i) (sym u.is) ∙ there) virtual

                  its_token : is_virtual m ≡ true → is_exposed m.flags ≡ true
                      → token (slots (line_of (world o.importer) y)) (signature_of m) ≡ Some m.token
                  its_token virtual open_one =
                      let c = imported o.import_number o.class in
                      let shown : is_shown m ≡ true = ap (λ b. b && is_virtual m) open_one ∙ virtual in
                      listed_token packages is each o.part o.importer o.here y c o.imported_there (ap (λ (q : Class).
                      is_interface q.flags) (sym o.is) ∙ plain) (outside_of o.part o.importer o.here y c k
                      o.imported_there refl named far) m among shown

                  of_it : (t : Bool) → is_virtual m ≡ t → Alike (Some f) (option_map (option_map Open) (Some (token_of
                      m)))
                  of_it false not_one =
                      subst (λ b. Alike (Some f) (option_map (option_map Open) (Some (if b then Some m.token
                      else None)))) (sym not_one) (bound (record { owner = b; flags = m.flags }) hit_there (may_send
                      ∙ not_one))
                  of_it true virtual =
                      let open_one = seen virtual in
                      let own = open_own id b i m there names virtual open_one in
                      let g = opens own.0 own.1 in
                      subst (λ b. Alike (Some f) (option_map (option_map Open) (Some (if b then Some m.token
                      else None)))) (sym virtual) (bears (record { owner = b; flags = m.flags }) hit_there (may_send
                      ∙ virtual) (sends m b names virtual open_one g.0 g.1 (its_token virtual open_one)))

          by : (q : Option Found) → first finds (line w y) ≡ q → Alike (first finds (line w y)) (option_map (option_map
              Open) (option_map token_of (chosen any_method s (all_methods (line w y)))))
          by None e =
              subst (λ q. Alike q (option_map (option_map Open) (option_map token_of (chosen any_method s (all_methods
              (line w y)))))) (sym e) (subst (λ q. Alike None (option_map (option_map Open) (option_map token_of q)))
              (sym (none_first s (line w y) e)) nowhere)
          by (Some f) e =
              subst (λ q. Alike q (option_map (option_map Open) (option_map token_of (chosen any_method s (all_methods
              (line w y)))))) (sym e) (of_first f e)
