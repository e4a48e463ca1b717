-- The methods that scripts call and send.
use Rattle.std.proofs.Common.{◌≡◌, ℕ, ◌+◌, refl, sym, ap, subst, ◌∙◌, Bool, true, false, List, [], ◌∷◌, length}
use Rattle.std.proofs.Common.{⊎_elim}
use Rattle.std.specs.Prelude.{◌==◌, ◌&&◌, not, Option, Some, None, option_and_then, option_map, slice_get}
use Rattle.std.specs.Prelude.{if◌then◌else◌}
use Rattle.cjc_bytes.specs.AccessFlags.{is_abstract, is_static}
use Rattle.cjc_bytes.specs.declared.fault.MemberId.{MemberId}
use Rattle.cjc_bytes.proofs.Options.{then_some, not_far}
use Rattle.cjc_bytes.proofs.Bools.{both_front, both_back, not_true, true_or_false, true_not_false}
use Rattle.cjc_bytes.proofs.Numbers.{like_number}
use Rattle.cjc_world.specs.declared.found.Found.{Found}
use Rattle.cjc_world.specs.Classes.{Class, Member, all_classes, class_at, class_named}
use Rattle.cjc_world.specs.Files.{Files}
use Rattle.cjc_world.specs.Lookup.{find_method, is_selectable, member_at, own_method, receiver, selected}
use Rattle.cjc_world.specs.Subtype.{is_subtype}
use Rattle.cjc_world.proofs.Cycles.{class_named-name}
use Rattle.cjc_jvm_semantics.specs.Linked.{Abroad, Callee, Inside, Method}
use Rattle.cjc_jvm_semantics.specs.OnePackage.{ResolvedMember, callee_at, entry_in, entry_named, is_constructor}
use Rattle.cjc_jvm_semantics.specs.OnePackage.{is_initialiser, is_sendable, method_at, method_by, method_hit, of_class}
use Rattle.cjc_jvm_semantics.specs.OnePackage.{select_in, sent_by, sent_named}
use Rattle.cjc_world_proof.specs.Calls.Solid.{IsOwn, IsSolid}
use Rattle.cjc_world_proof.specs.Calls.Targets.{IsOwnCode, IsReceiver, IsSentTo, IsTarget, abroad, inside}
use Rattle.cjc_world_proof.proofs.CallsLaws.Own.{IsAt, hit_is, method_is, own_at}
use Rattle.cjc_world_proof.proofs.CallsLaws.Selects.{own_tree, selected_callee, selected_whole}
use Rattle.cjc_world.specs.Upwards.{Below}

where_true : {A : Type 0} (b : Bool) (o : Option A) (a : A) → (if b then o else None) ≡ Some a → (b ≡ true)
    × (o ≡ Some a)
where_true true o a e = (refl, e)
where_true false o a e = absurd cc

where_false : {A : Type 0} (b : Bool) (o : Option A) (a : A) → (if b then None else o) ≡ Some a → (b ≡ false)
    × (o ≡ Some a)
where_false true o a e = absurd cc
where_false false o a e = (refl, e)

-- a class is the one of its number among itself
pub alone : (d : Class) → class_at (d ∷ []) d.is_imported d.number ≡ Some d
unfolding class_at
alone d = by d.is_imported (d.number == d.number) (like_number d.number)
  where
    by : (x y : Bool) → y ≡ true → (if (if x then x else not x) && y then Some d else None) ≡ Some d
    by true true e = refl
    by false true e = refl
    by x false e = absurd cc

same_method : {m n : Method} → Some m ≡ Some n → m ≡ n
same_method e = cc

same_callee : {m n : Method} → Some (Inside m) ≡ Some (Inside n) → m ≡ n
same_callee e = cc

module _ (files : Files) (solid : IsSolid files) where
  abbrev w : List Class
  w = all_classes files

  of_target : (x : List ℕ) (id : MemberId) (m : Method) (event : List ℕ) (f : Found) → f.imported ≡ false
      → method_at files f ≡ Some m
      → (callee : Callee) × (callee_at files event id f ≡ Some callee)
      × IsTarget files id (λ t k. (is_static k.flags ≡ false) × Below w x t.name) callee → IsSentTo files x id m
  of_target x id m event f own at (callee, e, target) = by callee target (sym e
      ∙ ap (λ b. if b then Some (Abroad (of_class event id)) else option_map Inside (method_at files f)) own
      ∙ ap (option_map Inside) at)
    where
      by : (callee : Callee) → IsTarget files id (λ t k. (is_static k.flags ≡ false) × Below w x t.name) callee
          → Some callee ≡ Some (Inside m) → IsSentTo files x id m
      by _ (inside {m = n} code holds) same = let is : n ≡ m = same_callee same
          in subst (IsSentTo files x id) is (record { code = code; on_object = holds.0; below = holds.1 })
      by _ (abroad e) same = absurd cc

  -- what is sent to an object
  pub sent_method : (type : List ℕ) (r : IsReceiver w (receiver type)) (id : MemberId) (m : Method)
      → sent_named files w type id ≡ Some m → IsSentTo files (receiver type) id m
  unfolding selected
  sent_method type r id m e =
      let x = receiver type in
      let one = then_some (λ f. option_and_then (sent_by files w (select_in w) type id) (method_hit w f))
      (find_method w id.class id.name id.desc) m e in
      let two = then_some (sent_by files w (select_in w) type id) (method_hit w one.0) m one.2 in
      let h = two.0 in
      let three = where_true (is_sendable id h && is_subtype w type id.class) (option_and_then (method_at files)
      (select_in w type id)) m two.2 in
      let sendable = both_front (is_sendable id h) (is_subtype w type id.class) three.0 in
      let plain = not_true (is_initialiser id.name) (both_back (is_selectable h.flags && not (is_constructor id.name))
      (not (is_initialiser id.name)) sendable) in
      let four = then_some (method_at files) (select_in w type id) m three.1 in
      let s = selected_whole files solid x r id plain four.0 four.1 in
      let same : four.0 ≡ s.place = same_place (sym four.1 ∙ s.found) in
      of_target x id m [] s.place (ap (λ (f : Found). f.imported) (sym same) ∙ not_far (let f = four.0 in f.imported) _
      m four.2) (ap (method_at files) (sym same) ∙ four.2) (selected_callee files solid x [] id s)
    where
      same_place : {f g : Found} → Some f ≡ Some g → f ≡ g
      same_place e = cc

  -- what a script calls: a static method of the package
  called_at : (d : Class) → class_named w d.name ≡ Some d
      → (id : MemberId) (f : Found) (at : IsAt false id.name id.desc d f) (h : ResolvedMember) (m : Method)
      → method_hit (d ∷ []) f ≡ Some h → is_static h.flags ≡ true → method_at files f ≡ Some m
      → (code : IsOwnCode files id m) × (is_static (let k = code.method in k.flags) ≡ true)
  called_at d named id f at h m hit static found =
      let n = at.member in
      let flags : h.flags ≡ n.flags = same_flags (sym hit ∙ ap (method_hit (d ∷ [])) at.is
      ∙ hit_is (d ∷ []) d at.place n (alone d) at.is_member) in
      by n at.is_member at.has_name at.has_desc (sym (ap is_static flags) ∙ static)
    where
      same_flags : {a b : ResolvedMember} → Some a ≡ Some b → a.flags ≡ b.flags
      same_flags e = cc

      own : d.is_imported ≡ false
      own = sym (ap (λ (v : Found). v.imported) at.is) ∙ not_far f.imported _ m found

      by : (n : Member) → slice_get d.methods at.place ≡ Some n → n.name ≡ id.name → n.desc ≡ id.desc
          → is_static n.flags ≡ true → (code : IsOwnCode files id m) × (is_static (let k = code.method in k.flags)
          ≡ true)
      by n there name desc static =
          let k = own_tree files solid d at.place n named own there in
          let t = k.0 in
          let method = k.1 in
          let mine : IsOwn files t method = record {
            number = d.number;
            place = at.place;
            is_class = k.2;
            is_method = k.3;
          } in
          let still : is_static method.flags ≡ true = sym (ap (λ (v : Member). is_static v.flags) k.5) ∙ static in
          let concrete : is_abstract method.flags ≡ false =
          ⊎_elim (λ bare. absurd (true_not_false (is_static method.flags) still (solid.bound t method mine bare).0))
          (λ c. c) (true_or_false (is_abstract method.flags)) in
          let tree = solid.coded t method mine concrete in
          let is : m ≡ method_by t method (Some tree.0) = same_method (sym found ∙ ap (method_at files) (at.is
          ∙ ap (λ (v : Class). member_at v (length v.fields + at.place)) k.4)
          ∙ method_is files d.number t at.place method k.2 k.3 ∙ ap (λ o. Some (method_by t method o)) tree.1) in (
            record {
              class = t;
              method = method;
              tree = tree.0;
              own = mine;
              is_code = tree.1;
              is = is;
              name = sym (ap (λ (v : Member). v.name) k.5) ∙ name;
              desc = sym (ap (λ (v : Member). v.desc) k.5)
                  ∙ desc;
            },
            still,
          )

  pub called_method : (id : MemberId) (m : Method) → entry_named files w id ≡ Some m → (code : IsOwnCode files id m)
      × (is_static (let k = code.method in k.flags) ≡ true)
  called_method id m e =
      let one = where_false (is_initialiser id.name) (option_and_then (entry_in files id) (class_named w id.class)) m e
      in
      let two = then_some (entry_in files id) (class_named w id.class) m one.1 in
      let d = two.0 in
      let three = then_some (λ f. option_and_then (λ hit. if is_static hit.flags then method_at files f
      else None) (method_hit (d ∷ []) f)) (own_method false id.name id.desc d) m two.2 in
      let f = three.0 in
      let four = then_some (λ (hit : ResolvedMember). if is_static hit.flags then method_at files f
      else None) (method_hit (d ∷ []) f) m three.2 in
      let five = where_true (is_static (let h = four.0 in h.flags)) (method_at files f) m four.2 in
      called_at d (ap (class_named w) (class_named-name w id.class d two.1) ∙ two.1) id f (own_at false id.name id.desc
      d f three.1) four.0 m four.1 five.0 five.1
