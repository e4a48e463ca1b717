-- What scripts name in packages together: each method that is found for `call` or `send` is one of a class file with code,
-- which is begun by the tables of its package, or there is none.
use Rattle.std.proofs.Common.{◌≡◌, ℕ, ◌+◌, zero, suc, refl, sym, ap, subst, ◌∙◌, Bool, true, false, List, []}
use Rattle.std.proofs.Common.{◌∷◌, length, Option, Some, None, inl, inr, ⊎_elim}
use Rattle.std.specs.Prelude.{◌⊎◌, ◌&&◌, ◌||◌, is_some, not, option_and_then, option_map, slice_get, if◌then◌else◌}
use Rattle.std.specs.List.{AllByRecursion, list_any}
use Rattle.std.specs.Str.{bytes_eq}
use Rattle.std.proofs.lemmas.Option.{slice_get-map}
use Rattle.cjc_bytes.specs.AccessFlags.{is_abstract, is_interface, is_static}
use Rattle.cjc_bytes.specs.declared.fault.MemberId.{MemberId}
use Rattle.cjc_bytes.proofs.Bools.{both_back, both_front, not_true, true_not_false, true_or_false}
use Rattle.cjc_bytes.proofs.Gets.{any_at, any_off}
use Rattle.cjc_bytes.proofs.Lists.{bytes_true, name_is}
use Rattle.cjc_bytes.proofs.Options.{not_far, some_shape, then_some, where_true}
use Rattle.cjc_bytes.proofs.Quantified.{each_weaker}
use Rattle.cjc_jvm_semantics.specs.Group.{group_sent, is_open, is_package_visible, joint, joint_classes}
use Rattle.cjc_jvm_semantics.specs.Group.{own_where, own_within, package_of, selection_for}
use Rattle.cjc_jvm_semantics.specs.Linked.{Callee, Inside, Method}
use Rattle.cjc_jvm_semantics.specs.OnePackage.{ResolvedMember, entry_in, entry_named, is_constructor}
use Rattle.cjc_jvm_semantics.specs.OnePackage.{is_initialiser, is_sendable, method_at, method_by, method_hit, method_in}
use Rattle.cjc_jvm_semantics.specs.OnePackage.{sent_by}
use Rattle.cjc_narrow_proof.specs.NCode.ByLabel.{Named}
use Rattle.cjc_narrow_proof.specs.Runs.Tables.{Tables}
use Rattle.cjc_narrow_proof.specs.Runs.Types.{IsThere}
use Rattle.cjc_narrow_proof.specs.Script.Sorts.{Reference, Shape, shape_name}
use Rattle.cjc_narrow_proof.specs.Selection.Relation.{IsMadeOf}
use Rattle.cjc_narrow_proof.specs.Tables.Calls.{IsWordDesc, types_of}
use Rattle.cjc_narrow_proof.proofs.LawsLaws.Own.{own_kept}
use Rattle.cjc_shape_proof.specs.WorldProof.Calls.Targets.{IsOwnCode, IsReceiver, IsTarget}
use Rattle.cjc_shape_proof.specs.WorldProof.Calls.Targets as targets
use Rattle.cjc_shape_proof.proofs.FindsLaws.Callees.{params_there}
use Rattle.cjc_shape_proof.proofs.FindsLaws.Descs.{member_desc, parts_are}
use Rattle.cjc_token_proof.proofs.WorldProofOwn.{hit_is, mapped_at, own_at}
use Rattle.cjc_token_proof.proofs.WorldProofScripts.{called_method}
use Rattle.cjc_token_proof.proofs.WorldProofSelects.{reaches}
use Rattle.cjc_token_proof.proofs.WorldProofTypes.{below_type, type_below}
use Rattle.cjc_vtable.specs.Calls.{is_special}
use Rattle.cjc_world.specs.ClassFile.Code.{CodeTree}
use Rattle.cjc_world.specs.ClassFile.declared.tree.ClassTree.{ClassTree}
use Rattle.cjc_world.specs.ClassFile.declared.tree.MethodTree.{MethodTree}
use Rattle.cjc_world.specs.Classes.{Class, Member as WorldMember, all_classes, class_named, declared, imported}
use Rattle.cjc_world.specs.Classes.{method_of_class, method_of_export}
use Rattle.cjc_world.specs.Files.{Files}
use Rattle.cjc_world.specs.Lookup.{find_method, first, is_selectable, member_at, own_method, receiver}
use Rattle.cjc_world.specs.Subtype.{is_subtype}
use Rattle.cjc_world.specs.Supertypes.{line}
use Rattle.cjc_world.specs.Upwards.{Below, IsOrdered, OnLine}
use Rattle.cjc_world.specs.declared.found.Found.{Found}
use Rattle.cjc_world.proofs.Cycles.{above-class, class_named-name}
use Rattle.cjc_world.proofs.UpwardLaws.Lines.{below_on, line_below, line_named, method_found_above, on_line}
use Rattle.cjc_joint_proof.specs.Worlds.{AreApart, before}
use Rattle.cjc_joint_proof.proofs.MemberLaws.{entry_named_stays, method_stays}
use Rattle.cjc_joint_proof.proofs.PackageNames.{package_is}
use Rattle.cjc_joint_proof.proofs.SoundLaws.{apart, listed}
use Rattle.cjc_joint_proof.proofs.WorldLaws.{joint_from, outside_at_number, own_at_number}
use Rattle.cjc_joint_theorem.specs.Members.{AreScripted, Member, files_of, homes_of, tables_of}
use Rattle.cjc_joint_theorem.specs.Together.Converted.{IsFoundIn, IsMemberIn, a_member, no_method}
use Rattle.cjc_joint_theorem.specs.Together.Homes.{Homes, joint_world}
use Rattle.cjc_joint_theorem.proofs.MembersLaws.Worlds.{files_at, member_at as member_of_files}
use Rattle.cjc_joint_theorem.proofs.OrderedLaws.Ordered.{IsJoint, joint_class, ordered, outside_file, own_file}
use Rattle.cjc_joint_whole.specs.ModesCalls.{IsOwnOf, joint_look_ups}
use Rattle.cjc_joint_whole.specs.Whole.{AreWhole, AreWholeWith}
use Rattle.cjc_joint_whole.proofs.WholeLaws.Begun.{begun_alone, begun_of}
use Rattle.cjc_joint_whole.proofs.WholeLaws.Coded.{InFile, class_there, found_there, hit_there}
use Rattle.cjc_joint_whole.proofs.WholeLaws.Exposed.{named_here, own_here}
use Rattle.cjc_joint_whole.proofs.WholeLaws.Hidden.{hidden_selected}
use Rattle.cjc_joint_whole.proofs.WholeLaws.HiddenStands.{no_static}
use Rattle.cjc_joint_whole.proofs.WholeLaws.Members.{ordered_together, plain_together, type_together}
use Rattle.cjc_joint_whole.proofs.WholeLaws.Receivers.{receiver_in}
use Rattle.cjc_joint_whole.proofs.WholeLaws.Selected.{concrete, holds}
use Rattle.cjc_joint_whole.proofs.WholeLaws.Shown.{IsWhere, called_parts, open_parts}
use Rattle.cjc_joint_whole.proofs.WholeLaws.Solid.{solid_at}

-- nothing, where something is impossible
none_where : {A : Type 0} (o : Option A) → ((a : A) → o ≡ Some a → ⊥) → o ≡ None
none_where None h = refl
none_where (Some a) h = absurd (h a refl)

-- what a test lets through
test_holds : {A : Type 0} (b : Bool) (o : Option A) (a : A) → (if b then o else None) ≡ Some a → b ≡ true
test_holds true o a e = refl
test_holds false o a e = absurd cc

behind_test : {A : Type 0} (b : Bool) (o : Option A) (a : A) → (if b then None else o) ≡ Some a → o ≡ Some a
behind_test true o a e = absurd cc
behind_test false o a e = e

special_off : (a b : Bool) → a ≡ false → b ≡ false → (a || b) ≡ false
special_off false false e f = refl
special_off true b e f = absurd cc
special_off false true e f = absurd cc

same_callee : {m n : Method} → Some (Inside m) ≡ Some (Inside n) → m ≡ n
same_callee e = cc

same_hit : {a b : ResolvedMember} → Some a ≡ Some b → a ≡ b
same_hit e = cc

same_place_found : {f g : Found} → Some f ≡ Some g → f ≡ g
same_place_found e = cc

-- ---- methods with code of some package

abbrev is_coded_as : MemberId → MethodTree → Bool
is_coded_as id k = is_some k.code && (bytes_eq k.name id.name && bytes_eq k.desc id.desc)

abbrev has_coded : MemberId → ClassTree → Bool
has_coded id t = list_any (λ k. is_coded_as id k) t.methods

-- A method of this name and descriptor with code, in a package at a place.
pub record IsCodedIn (members : List Member) (id : MemberId) : Type 0 where
  pub part : ℕ
  pub member : Member
  pub at : slice_get members part ≡ Some member
  pub number : ℕ
  pub class : ClassTree
  pub is_class : (let f = member.files in slice_get f.classes number ≡ Some class)
  pub place : ℕ
  pub method : MethodTree
  pub is_method : slice_get class.methods place ≡ Some method
  pub tree : CodeTree
  pub is_code : method.code ≡ Some tree
  pub has_name : method.name ≡ id.name
  pub has_desc : method.desc ≡ id.desc

-- one of the packages has such a method, or none
scan : (id : MemberId) (ms : List Member) → IsCodedIn ms id ⊎ ((q : ℕ) (p : Member) → slice_get ms q ≡ Some p → (m : Method)
    → IsOwnCode p.files id m → ⊥)
scan id [] = inr (λ q p at m code. absurd cc)
scan id (p ∷ ms) = ⊎_elim
    (λ yes. inl (here yes))
    (λ no. ⊎_elim (λ r. inl (later r)) (λ none. inr (λ q g at m code. neither no none q g at m code)) (scan id ms))
    (true_or_false (list_any (λ t. has_coded id t) (let f = p.files in f.classes)))
  where
    here : list_any (λ t. has_coded id t) (let f = p.files in f.classes) ≡ true → IsCodedIn (p ∷ ms) id
    here e =
        let c = any_at (λ t. has_coded id t) (let f = p.files in f.classes) e in
        let t = c.1 in
        let m = any_at (λ k. is_coded_as id k) t.methods c.3 in
        let k = m.1 in
        let called = both_back (is_some k.code) (bytes_eq k.name id.name && bytes_eq k.desc id.desc) m.3 in
        let tree = some_shape k.code (both_front (is_some k.code) (bytes_eq k.name id.name && bytes_eq k.desc id.desc)
        m.3) in
        record {
          part = 0;
          member = p;
          at = refl;
          number = c.0;
          class = t;
          is_class = c.2;
          place = m.0;
          method = k;
          is_method = m.2;
          tree = tree.0;
          is_code = tree.1;
          has_name = bytes_true k.name id.name (both_front (bytes_eq k.name id.name) (bytes_eq k.desc id.desc) called);
          has_desc = bytes_true k.desc id.desc (both_back (bytes_eq k.name id.name) (bytes_eq k.desc id.desc) called);
        }

    later : IsCodedIn ms id → IsCodedIn (p ∷ ms) id
    later r = record {
      part = suc r.part;
      member = r.member;
      at = r.at;
      number = r.number;
      class = r.class;
      is_class = r.is_class;
      place = r.place;
      method = r.method;
      is_method = r.is_method;
      tree = r.tree;
      is_code = r.is_code;
      has_name = r.has_name;
      has_desc = r.has_desc;
    }

    none_here : list_any (λ t. has_coded id t) (let f = p.files in f.classes) ≡ false → (g : Member) → p ≡ g
        → (m : Method) → IsOwnCode g.files id m → ⊥
    none_here off g same m code =
        let own = code.own in
        let t = code.class in
        let k = code.method in
        let file : (let f = p.files in slice_get f.classes own.number ≡ Some t) = ap (λ (o : Member). let f = o.files in
        slice_get f.classes own.number) same ∙ own.is_class in
        let a = any_off (λ t. has_coded id t) (let f = p.files in f.classes) own.number t off file in
        let b = any_off (λ k. is_coded_as id k) t.methods own.place k a own.is_method in
        let yes : is_coded_as id k ≡ true = ap (λ o. is_some o && (bytes_eq k.name id.name && bytes_eq k.desc id.desc))
        code.is_code ∙ ap (λ n. bytes_eq n id.name && bytes_eq k.desc id.desc) code.name
        ∙ ap (λ b. b && bytes_eq k.desc id.desc) (name_is id.name) ∙ ap (λ n. bytes_eq n id.desc) code.desc
        ∙ name_is id.desc in
        true_not_false (is_coded_as id k) yes b

    neither : list_any (λ t. has_coded id t) (let f = p.files in f.classes) ≡ false → ((q : ℕ) (g : Member)
        → slice_get ms q ≡ Some g → (m : Method) → IsOwnCode g.files id m → ⊥) → (q : ℕ) (g : Member)
        → slice_get (p ∷ ms) q ≡ Some g → (m : Method) → IsOwnCode g.files id m → ⊥
    neither off none zero g at m code = let same : p ≡ g = cc in none_here off g same m code
    neither off none (suc q) g at m code = none q g at m code

module _ {K : _} (members : List Member) (is : AreWholeWith K members) where
  abbrev group : List Files
  group = files_of members

  abbrev w : List Class
  w = joint_world group

  abbrev l : Named
  l = joint_look_ups members

  order : IsOrdered w
  order = ordered group (ordered_together members is)

  are_apart : AreApart group
  are_apart = apart group is.sound

  -- ---- methods with code

  -- what stands at a method of a class file that is not abstract
  code_of : (id : MemberId) (x : InFile members id) (on : Bool) → is_static (let k = x.method in k.flags) ≡ not on
      → is_abstract (let k = x.method in k.flags) ≡ false → (m : Method) → method_at (joint group) (found_there x)
      ≡ Some m → IsOwnOf members id on m × ((let n = m.id in n.class) ≡ (let t = x.class in t.name))
  code_of id x on static bare m e =
      let p = x.member in
      let d = declared x.number x.class in
      let to = reaches p.files (solid_at members is x.part p x.at) [] id (λ t k. (is_static k.flags
      ≡ is_static (let y = x.method in y.flags)) × (t.name ≡ d.name)) d x.place x.method
      (member_at d (length d.fields + x.place)) (named_here members is x.part p x.at x.number x.class x.file)
      x.is_method refl x.has_name x.has_desc (inr bare) (λ t k a b same_class same_one. (
        sym (ap (λ (v : WorldMember). is_static v.flags) same_one),
        sym (ap (λ (v : Class). v.name) same_class),
      )) in
      let stays = method_stays group x.part x.number p.files x.class (own_here members is x.part p x.at x.number x.class
      x.file) (length d.fields + x.place) in
      by to.0 to.2 (sym to.1 ∙ ap (option_map Inside) (sym stays ∙ e))
    where
      by : (callee : Callee) → IsTarget (let p = x.member in p.files) id (λ t k. (is_static k.flags
          ≡ is_static (let y = x.method in y.flags)) × (t.name ≡ (let u = x.class in u.name))) callee
          → Some callee ≡ Some (Inside m)
          → IsOwnOf members id on m × ((let n = m.id in n.class) ≡ (let t = x.class in t.name))
      by _ (targets.inside {m = n} code holds) same =
          let is_m : n ≡ m = same_callee same in
          let owner : (let i = n.id in i.class) ≡ (let t = x.class in t.name) = ap (λ (g : Method). let i = g.id in
          i.class) code.is ∙ holds.1 in
          let own : IsOwnOf members id on n = record {
            part = x.part;
            member = x.member;
            at = x.at;
            code = code;
            flags = holds.0 ∙ static;
          } in
          subst (λ (g : Method). IsOwnOf members id on g × ((let i = g.id in i.class) ≡ (let t = x.class in t.name)))
          is_m (own, owner)
      by _ (targets.abroad e) same = absurd cc

  -- ---- what is called

  pub called_of : (id : MemberId) (m : Method) → entry_named (joint group) w id ≡ Some m → IsOwnOf members id false m
  called_of id m e =
      let inner = behind_test (is_initialiser id.name) (option_and_then (entry_in (joint group) id)
      (class_named w id.class)) m e in
      let two = then_some (entry_in (joint group) id) (class_named w id.class) m inner in
      by two.0 (joint_class group id.class two.0 two.1) two.1 two.2
    where
      by : (d : Class) → IsJoint group d → class_named w id.class ≡ Some d → entry_in (joint group) id d ≡ Some m
          → IsOwnOf members id false m
      by _ (own_file q k p t own) named entry =
          let from = member_of_files members q p own.member in
          let g = from.0 in
          let file : (let f = g.files in slice_get f.classes k ≡ Some t) = ap (λ (f : Files). slice_get f.classes k)
          from.2 ∙ own.file in
          let mine = own_here members is q g from.1 k t file in
          let name : id.class ≡ t.name = sym (class_named-name w id.class (declared (before group q + k) t) named) in
          let stays = entry_named_stays group q k g.files t mine are_apart (listed group is.sound q k g.files t mine) id
          name in
          let found = called_method g.files (solid_at members is q g from.1) id m (sym stays ∙ e) in
          record { part = q; member = g; at = from.1; code = found.0; flags = found.1 }
      by _ (outside_file n y kept) named entry =
          let three = then_some (λ f. option_and_then (λ (hit : ResolvedMember). if is_static hit.flags
          then method_at (joint group) f else None) (method_hit (imported n y ∷ []) f)) (own_method false id.name id.desc
          (imported n y)) m entry in
          let f = three.0 in
          let four = then_some (λ (hit : ResolvedMember). if is_static hit.flags then method_at (joint group) f
          else None) (method_hit (imported n y ∷ []) f) m three.2 in
          let five = where_true (is_static (let h = four.0 in h.flags)) (method_at (joint group) f) m four.2 in
          let at = own_at false id.name id.desc (imported n y) f three.1 in
          absurd (true_not_false f.imported (ap (λ (g : Found). g.imported) at.is) (not_far f.imported _ m five))

  pub called_plain : (id : MemberId) (m : Method) → entry_named (joint group) w id ≡ Some m → is_initialiser id.name ≡ false
  called_plain id m e = not_far (is_initialiser id.name) (option_and_then (entry_in (joint group) id)
      (class_named w id.class)) m e

  -- ---- what is selected on an object

  -- A method with code of a class file on the line of an object's class.
  record IsSentAt (id : MemberId) (x : List ℕ) (f : Found) : Type 0 where
    it : InFile members id
    is_there : f ≡ found_there it
    may : is_selectable (let q = it in let k = q.method in k.flags) ≡ true
    bare : is_abstract (let q = it in let k = q.method in k.flags) ≡ false
    on : OnLine w x (class_there it)

  module _ (id : MemberId) (initial : is_initialiser id.name ≡ false)
      (plain : is_special (record { name = id.name; desc = id.desc }) ≡ false) (type : List ℕ)
      (r : IsReceiver w (receiver type)) (f : Found) (mine : f.imported ≡ false) where
    abbrev x : List ℕ
    x = receiver type

    open_sent : first (own_where is_open id.name id.desc) (line w x) ≡ Some f → IsSentAt id x f
    open_sent found =
        let h = holds members is id plain initial x r f found in
        by (joint_class group (let d = h.class in d.name) h.class h.named) h.on h.named h.at
      where
        by : {d : Class} → IsJoint group d → OnLine w x d → class_named w d.name ≡ Some d
            → IsWhere is_open id.name id.desc d f → IsSentAt id x f
        by (outside_file n e kept) on named at = absurd (true_not_false f.imported (ap (λ (g : Found). g.imported) at.is)
            mine)
        by {d = d} (own_file q k p t own) on named at =
            let m = member_of_files members q p own.member in
            let names = called_parts id.name id.desc at.method at.called in
            let it : InFile members id = record {
              part = q;
              member = m.0;
              at = m.1;
              number = k;
              class = t;
              file = ap (λ (g : Files). slice_get g.classes k) m.2 ∙ own.file;
              place = at.place;
              method = at.method;
              is_method = at.there;
              has_name = names.0;
              has_desc = names.1;
            } in
            let hit : method_hit w f ≡ Some (record { owner = d; flags = (let y = at.method in y.flags) }) =
            ap (method_hit w) at.is ∙ hit_there members is id it in
            let no_code = concrete members is id plain initial x r f found (record {
              owner = d;
              flags = (let y = at.method in y.flags);
            }) mine hit d on named refl in
            let flags = open_parts (let y = at.method in y.flags) at.passing in
            record { it = it; is_there = at.is; may = flags.0; bare = no_code; on = on }

    hidden_sent : (h : ResolvedMember) (f0 : Found) → find_method w id.class id.name id.desc ≡ Some f0
        → method_hit w f0 ≡ Some h → is_selectable h.flags ≡ true → is_package_visible h.flags ≡ true
        → is_subtype w type id.class ≡ true → first (own_within (package_of (let owner = h.owner in owner.name)) id.name
        id.desc) (line w x) ≡ Some f → IsSentAt id x f
    hidden_sent h f0 found0 told may hidden sub found =
        let above = method_found_above w order id.class id.name id.desc f0 found0 in
        let d = above.0 in
        by (joint_class group d.name d above.2) above.1 above.2 above.3
      where
        by : {d : Class} → IsJoint group d → Below w id.class d.name → class_named w d.name ≡ Some d
            → own_method false id.name id.desc d ≡ Some f0 → IsSentAt id x f
        by (own_file q k p t own) way named own0 =
            let from = member_of_files members q p own.member in
            let g = from.0 in
            let file : (let f = g.files in slice_get f.classes k ≡ Some t) = ap (λ (f : Files). slice_get f.classes k)
            from.2 ∙ own.file in
            let t_there = declared (before group q + k) t in
            let at0 = own_at false id.name id.desc t_there f0 own0 in
            let m0 = at0.member in
            let hit0 : h ≡ record { owner = t_there; flags = m0.flags } = same_hit (sym told ∙ ap (method_hit w) at0.is
            ∙ hit_is w t_there at0.place m0 (own_at_number group q k p t own) at0.is_member) in
            let flags : m0.flags ≡ h.flags = sym (ap (λ (z : ResolvedMember). z.flags) hit0) in
            let owner : (let u = h.owner in u.name) ≡ t.name = ap (λ (z : ResolvedMember). let u = z.owner in u.name)
            hit0 in
            let one = is.each q g from.1 in
            let seen = ap is_package_visible flags ∙ hidden in
            let ground : is_interface t.flags ≡ false = ⊎_elim (λ it. absurd (true_not_false
            (is_package_visible m0.flags) seen (one.interfaces t.name (declared k t) at0.place m0 (named_here members is
            q g from.1 k t file) it at0.is_member (ap is_initialiser at0.has_name ∙ initial)))) (λ no. no)
            (true_or_false (is_interface t.flags)) in
            let top : (c : Class) × (class_named w id.class ≡ Some c) = ⊎_elim (λ same. (
              t_there,
              ap (class_named w) same ∙ named,
            )) (λ far. above-class w id.class t.name far) way in
            let below = type_below w type id.class (plain_together members is id.class top.0 top.1) sub in
            let on = on_line w order x t.name r.class t_there (below_on w x id.class t.name below way) r.named
            r.no_interface named ground in
            let u = hidden_selected members is q g from.1 id initial plain k t file at0.place m0 at0.is_member
            at0.has_name at0.has_desc (ap is_selectable flags ∙ may) seen x r on in
            let home : package_of (let u = h.owner in u.name) ≡ (let f = g.files in f.package_name) = ap package_of owner
            ∙ package_is (let f = g.files in f.package_name) t.name (are_apart.own q k g.files t (own_here members is q g
            from.1 k t file)) in
            record {
              it = u.it;
              is_there = same_place_found (sym found ∙ ap (λ z. first (own_within z id.name id.desc) (line w x)) home
                  ∙ u.found);
              may = u.selectable;
              bare = u.concrete;
              on = u.on;
            }
        by (outside_file n e kept) way named own0 =
            let at0 = own_at false id.name id.desc (imported n e) f0 own0 in
            let m0 = at0.member in
            let hit0 : h ≡ record { owner = imported n e; flags = m0.flags } = same_hit (sym told
            ∙ ap (method_hit w) at0.is ∙ hit_is w (imported n e) at0.place m0 (outside_at_number group n e kept)
            at0.is_member) in
            let y = mapped_at method_of_export e.methods at0.place m0 at0.is_member in
            let flags : h.flags ≡ (let z = y.0 in z.flags) = ap (λ (z : ResolvedMember). z.flags) hit0
            ∙ ap (λ (z : WorldMember). z.flags) y.2 in
            absurd (true_not_false (is_package_visible h.flags) hidden (ap is_package_visible flags
            ∙ is.shown n at0.place e y.0 kept y.1 (sym (ap (λ (z : WorldMember). is_initialiser z.name) y.2)
            ∙ ap is_initialiser at0.has_name ∙ initial)))

  -- ---- what is sent

  -- A method with code that is sent to an object of a type, of a class that the type is of.
  pub record IsSent (id : MemberId) (type : List ℕ) (m : Method) : Type 0 where
    pub own : IsOwnOf members id true m
    pub initial : is_initialiser id.name ≡ false
    pub below : is_subtype w type (let n = m.id in n.class) ≡ true

  -- where the group has a method, it has a package
  some_member : (f : Found) (m : Method) → method_at (joint group) f ≡ Some m → (q : ℕ) × (p : Member)
      × (slice_get members q ≡ Some p)
  some_member f m e =
      let inner = behind_test f.imported (option_and_then (method_in f.member) (slice_get (joint_classes group) f.class))
      m e in
      let one = then_some (method_in f.member) (slice_get (joint_classes group) f.class) m inner in
      let at = joint_from group f.class one.0 one.1 in
      let own = at.own in
      let from = member_of_files members at.part at.files own.member in
      (at.part, from.0, from.1)

  pub sent_of : (id : MemberId) (kind : Shape (List ℕ)) → IsMadeOf l kind → (m : Method)
      → group_sent (joint group) w (shape_name kind) id ≡ Some m → IsSent id (shape_name kind) m
  sent_of id kind made m e = record { own = code.0; initial = initial; below = below }
    where
      type : List ℕ
      type = shape_name kind

      x : List ℕ
      x = receiver type

      one : (f0 : Found) × (find_method w id.class id.name id.desc ≡ Some f0)
          × (option_and_then (λ (hit : ResolvedMember). sent_by (joint group) w (selection_for w hit) type id hit)
          (method_hit w f0) ≡ Some m)
      one = then_some (λ f. option_and_then (λ (hit : ResolvedMember). sent_by (joint group) w (selection_for w hit) type
          id hit) (method_hit w f)) (find_method w id.class id.name id.desc) m e

      two : (h : ResolvedMember) × (method_hit w one.0 ≡ Some h)
          × (sent_by (joint group) w (selection_for w h) type id h ≡ Some m)
      two = then_some (λ (hit : ResolvedMember). sent_by (joint group) w (selection_for w hit) type id hit)
          (method_hit w one.0) m one.2

      h : ResolvedMember
      h = two.0

      tested : (is_sendable id h && is_subtype w type id.class) ≡ true
      tested = test_holds (is_sendable id h && is_subtype w type id.class) (option_and_then (method_at (joint group))
          (selection_for w h type id)) m two.2

      four : (f : Found) × (selection_for w h type id ≡ Some f) × (method_at (joint group) f ≡ Some m)
      four = then_some (method_at (joint group)) (selection_for w h type id) m (where_true (is_sendable id h
          && is_subtype w type id.class) (option_and_then (method_at (joint group)) (selection_for w h type id)) m two.2)

      f : Found
      f = four.0

      sub : is_subtype w type id.class ≡ true
      sub = both_back (is_sendable id h) (is_subtype w type id.class) tested

      sendable : is_sendable id h ≡ true
      sendable = both_front (is_sendable id h) (is_subtype w type id.class) tested

      front : (is_selectable h.flags && not (is_constructor id.name)) ≡ true
      front = both_front (is_selectable h.flags && not (is_constructor id.name)) (not (is_initialiser id.name)) sendable

      initial : is_initialiser id.name ≡ false
      initial = not_true (is_initialiser id.name) (both_back (is_selectable h.flags && not (is_constructor id.name))
          (not (is_initialiser id.name)) sendable)

      may : is_selectable h.flags ≡ true
      may = both_front (is_selectable h.flags) (not (is_constructor id.name)) front

      plain : is_special (record { name = id.name; desc = id.desc }) ≡ false
      plain = special_off (is_constructor id.name) (is_initialiser id.name) (not_true (is_constructor id.name)
          (both_back (is_selectable h.flags) (not (is_constructor id.name)) front)) initial

      mine : f.imported ≡ false
      mine = not_far f.imported (option_and_then (method_in f.member) (slice_get (joint_classes group) f.class)) m four.2

      receiver_there : IsReceiver w x
      receiver_there = let s = some_member f m four.2 in receiver_in members is s.0 s.1 s.2 kind made

      at_test : (b : Bool) → is_package_visible h.flags ≡ b → (let owner = h.owner in if b
          then first (own_within (package_of owner.name) id.name id.desc) (line w x)
          else first (own_where is_open id.name id.desc) (line w x)) ≡ Some f
      at_test b is_b = sym (ap (λ b. let owner = h.owner in if b
          then first (own_within (package_of owner.name) id.name id.desc) (line w x)
          else first (own_where is_open id.name id.desc) (line w x)) is_b) ∙ four.1

      by : (b : Bool) → is_package_visible h.flags ≡ b → IsSentAt id x f
      by false is_b = open_sent id initial plain type receiver_there f mine (at_test false is_b)
      by true is_b = hidden_sent id initial plain type receiver_there f mine h one.0 one.1 two.1 may is_b sub
          (at_test true is_b)

      s : IsSentAt id x f
      s = by (is_package_visible h.flags) refl

      code : IsOwnOf members id true m × ((let n = m.id in n.class) ≡ (let q = s.it in let t = q.class in t.name))
      code = code_of id s.it true (no_static (let q = s.it in let k = q.method in k.flags) s.may) s.bare m
          (ap (method_at (joint group)) (sym s.is_there) ∙ four.2)

      below : is_subtype w type (let n = m.id in n.class) ≡ true
      below = subst (λ n. is_subtype w type n ≡ true) (sym code.1) (below_type w type (let q = s.it in let t = q.class in
          t.name) (plain_together members is (let c = class_there s.it in c.name) (class_there s.it) (line_named w x
          (class_there s.it) s.on)) (line_below w x (class_there s.it) s.on))

  -- ---- members of scripts

  module _ (id : MemberId) (r : IsCodedIn members id) where
    abbrev p : Member
    p = r.member

    abbrev v : List Class
    v = all_classes p.files

    -- it is one that is called or sent
    pub code_there : IsOwnCode p.files id (method_by r.class r.method (Some r.tree))
    code_there = record {
      class = r.class;
      method = r.method;
      tree = r.tree;
      own = record { number = r.number; place = r.place; is_class = r.is_class; is_method = r.is_method };
      is_code = r.is_code;
      is = refl;
      name = r.has_name;
      desc = r.has_desc;
    }

    pub own_there : (on : Bool) × IsOwnOf members id on (method_by r.class r.method (Some r.tree))
    own_there = (
      not (is_static (let c = code_there in let k = c.method in k.flags)),
      record {
        part = r.part;
        member = p;
        at = r.at;
        code = code_there;
        flags = sym (not_not (is_static (let c = code_there in let k = c.method in k.flags)));
      },
    )
      where
        not_not : (b : Bool) → not (not b) ≡ b
        not_not true = refl
        not_not false = refl

    abbrev AreThere : List Class → List ℕ → Type 0
    AreThere classes desc = AllByRecursion (λ type. (kind : Shape (List ℕ)) → type ≡ Reference kind
        → IsThere classes kind) (let types = types_of desc in types.params)

    known_alone : AreThere v id.desc
    known_alone =
        let one = is.each r.part p r.at in
        let whole = one.whole in
        let u = whole.unbroken in
        let k = r.method in
        let there : slice_get (declared r.number r.class).methods r.place ≡ Some (method_of_class k) =
        slice_get-map method_of_class (let t = r.class in t.methods) r.place ∙ ap (option_map method_of_class)
        r.is_method in
        let written = member_desc p.files whole.read (declared r.number r.class) (named_here members is r.part p r.at
        r.number r.class r.is_class) r.place (method_of_class k) there in
        let parsed = written.0 in
        let kept = own_kept p.files one.list u.listed u.world r.number r.class r.is_class in
        let missing = (kept.methods r.place k r.is_method).1 in
        subst (AreThere v) r.has_desc (params_there v k.desc written.1 (parts_are k.desc parsed.0 written.1 parsed.1)
        missing)

    -- its parameters are of types that are there
    pub known_together : AreThere w id.desc
    known_together = each_weaker (λ type. (kind : Shape (List ℕ)) → type ≡ Reference kind → IsThere v kind)
        (λ type. (kind : Shape (List ℕ)) → type ≡ Reference kind → IsThere w kind)
        (let types = types_of id.desc in types.params) (λ type there kind e. type_together members is r.part p.files
        (files_at members r.part p r.at) kind (there kind e)) known_alone

  -- Nothing is called or sent, or a method of this name and descriptor has code.
  pub data IsNoneOr (id : MemberId) : Type 0 where
    none_at_all : entry_named (joint group) w id ≡ None → ((kind : Shape (List ℕ)) → IsMadeOf l kind
        → group_sent (joint group) w (shape_name kind) id ≡ None) → IsNoneOr id
    some_one : is_initialiser id.name ≡ false → IsCodedIn members id → IsNoneOr id

  pub none_or : (id : MemberId) → IsNoneOr id
  none_or id = ⊎_elim
      (λ it. none_at_all
      (none_where (entry_named (joint group) w id) (λ m e. true_not_false (is_initialiser id.name) it
      (called_plain id m e)))
      (λ kind made. none_where (group_sent (joint group) w (shape_name kind) id) (λ m e. true_not_false
      (is_initialiser id.name) it (let s = sent_of id kind made m e in s.initial))))
      (λ initial. ⊎_elim
      (λ r. some_one initial r)
      (λ none. none_at_all
      (none_where (entry_named (joint group) w id) (λ m e. (let o = called_of id m e in none o.part o.member o.at m
      o.code)))
      (λ kind made. none_where (group_sent (joint group) w (shape_name kind) id) (λ m e. (let s = sent_of id kind made m e
      in let o = s.own in none o.part o.member o.at m o.code))))
      (scan id members))
      (true_or_false (is_initialiser id.name))

-- ---- where no method works on int

module _ (members : List Member) (is : AreWhole members) where
  abbrev homes : Homes
  homes = homes_of members

  abbrev tables : Tables
  tables = tables_of members

  member_is : (id : MemberId) → is_initialiser id.name ≡ false → IsCodedIn members id
      → IsMemberIn (files_of members) (joint_look_ups members) homes tables id
  member_is id initial r = record {
    desc = word_desc;
    known = known_together members is id r;
    is_called = λ m e. begun_of members is id false m initial (called_of members is id m e);
    is_sent = λ kind m made e. (let s = sent_of members is id kind made m e in begun_of members is id true m initial
        s.own);
    receives = λ kind m made e. (let s = sent_of members is id kind made m e in s.below);
  }
    where
      word_desc : IsWordDesc id.desc
      word_desc =
          let o = own_there members is id r in
          let own = o.1 in
          let b = begun_alone members is own.part own.member own.at id initial o.0 (method_by r.class r.method
          (Some r.tree)) own.code own.flags in
          let h = b.has_tables in
          subst IsWordDesc (sym (ap (λ (g : Method). let i = g.id in i.desc) h.is) ∙ b.desc) h.desc

  pub scripted : AreScripted members
  scripted id = by (none_or members is id)
    where
      by : IsNoneOr members is id → IsFoundIn (files_of members) (joint_look_ups members) homes tables id
      by (none_at_all not_called not_sent) = no_method not_called not_sent
      by (some_one initial r) = a_member (member_is id initial r)
