-- What an invokespecial reaches, and a static call.
use Rattle.std.proofs.Common.{◌≡◌, ℕ, refl, sym, ap, subst, ◌∙◌, Bool, true, false, List, [], ◌∷◌, ◌++◌, inl, inr}
use Rattle.std.proofs.Common.{⊎_elim}
use Rattle.std.specs.Prelude.{◌⊎◌, not, ◌&&◌, Some, option_and_then, slice_get}
use Rattle.cjc_bytes.specs.AccessFlags.{is_abstract, is_private, is_static}
use Rattle.cjc_bytes.specs.declared.fault.MemberId.{MemberId}
use Rattle.cjc_bytes.proofs.Bools.{true_or_false, true_not_false}
use Rattle.cjc_jvm_semantics.specs.Linked.{Callee}
use Rattle.cjc_jvm_semantics.specs.OnePackage.{ResolvedMember, callee_at, first_imported, first_super, is_constructor}
use Rattle.cjc_jvm_semantics.specs.OnePackage.{method_hit, select_in, selected_from}
use Rattle.cjc_world_proof.specs.Calls.Solid.{HasCode, IsOwn, IsSolid}
use Rattle.cjc_world_proof.specs.Calls.Targets.{IsTarget}
use Rattle.cjc_world_proof.proofs.CallsLaws.Own.{IsAt, hit_is, own_at}
use Rattle.cjc_world_proof.proofs.CallsLaws.Selects.{own_tree, reaches}
use Rattle.cjc_world_proof.proofs.CallsLaws.Types.{receiver_class}
use Rattle.cjc_world.specs.Upwards.{Below}
use Rattle.cjc_world.proofs.UpwardLaws.Lines.{first_has, line_below, line_named, listed_below, of_line}
use Rattle.cjc_world.specs.declared.found.Found.{Found}
use Rattle.cjc_world.specs.Classes.{Class, Member, all_classes, class_named}
use Rattle.cjc_world.specs.Files.{Files}
use Rattle.cjc_world.specs.Supertypes.{Lists, foremost, line}
use Rattle.cjc_world.specs.Supertypes as supertypes
use Rattle.cjc_world.specs.Lookup.{is_selectable, own_method, receiver, selected}
use Rattle.cjc_world.proofs.Settled.{lists-front}

module _ (files : Files) (solid : IsSolid files) where
  abbrev w : List Class
  w = all_classes files

  -- a method that cannot be abstract has code, or is imported
  pub bound_whole : (d : Class) (i : ℕ) (m : Member) → class_named w d.name ≡ Some d → slice_get d.methods i ≡ Some m
      → (is_static m.flags ≡ true) ⊎ ((is_private m.flags ≡ true) ⊎ (is_constructor m.name ≡ true))
      → (d.is_imported ≡ true) ⊎ (is_abstract m.flags ≡ false)
  bound_whole d i m named e fixed = ⊎_elim (λ imp. inl imp) (λ own. ⊎_elim (λ bare. absurd (clash own bare))
      (λ ground. inr ground) (true_or_false (is_abstract m.flags))) (true_or_false d.is_imported)
    where
      clash : d.is_imported ≡ false → is_abstract m.flags ≡ true → ⊥
      clash own bare =
          let k = own_tree files solid d i m named own e in
          let mine : IsOwn files k.0 k.1 = record { number = d.number; place = i; is_class = k.2; is_method = k.3 } in
          let off = solid.bound k.0 k.1 mine (sym (ap (λ (v : Member). is_abstract v.flags) k.5) ∙ bare) in
          ⊎_elim
          (λ s. true_not_false (is_static m.flags) s (ap (λ (v : Member). is_static v.flags) k.5 ∙ off.0))
          (λ h. ⊎_elim
          (λ p. true_not_false (is_private m.flags) p (ap (λ (v : Member). is_private v.flags) k.5 ∙ off.1))
          (λ c. true_not_false (is_constructor m.name) c (ap (λ (v : Member). is_constructor v.name) k.5 ∙ off.2))
          h)
          fixed

  -- a method itself: a static one, a constructor or a private one
  pub itself_callee : (event : List ℕ) (id : MemberId) (d : Class) (f : Found) (at : IsAt false id.name id.desc d f)
      → class_named w d.name ≡ Some d
      → (is_static (let m = at.member in m.flags) ≡ true) ⊎ ((is_private (let m = at.member in m.flags) ≡ true)
      ⊎ (is_constructor id.name ≡ true))
      → (callee : Callee) × (callee_at files event id f ≡ Some callee)
      × IsTarget files id (λ t k. (is_static k.flags ≡ is_static (let m = at.member in m.flags))
      × (t.name ≡ d.name)) callee
  itself_callee event id d f at named fixed =
      let m = at.member in
      reaches files solid event id (λ t k. (is_static k.flags ≡ is_static (let m = at.member in m.flags))
      × (t.name ≡ d.name)) d at.place m f named at.is_member at.is at.has_name at.has_desc
      (bound_whole d at.place m named at.is_member
      (⊎_elim (λ s. inl s) (λ h. inr (⊎_elim (λ p. inl p) (λ c. inr (ap is_constructor at.has_name ∙ c)) h)) fixed))
      (λ t k a b same_class same_member. (
        sym (ap (λ (v : Member). is_static v.flags) same_member),
        sym (ap (λ (v : Class). v.name) same_class),
      ))

  -- what is selected above the class that holds the code
  pub above_callee : (holder : Class) (super : List ℕ) (s : Class) → class_named w holder.name ≡ Some holder
      → holder.supers ≡ super ∷ [] → class_named w super ≡ Some s → (id : MemberId) → HasCode w super id.name id.desc
      → (callee : Callee) × (option_and_then (λ super. selected_from files w (select_in w) super id)
      (first_super (class_named w holder.name)) ≡ Some callee)
      × IsTarget files id (λ t k. (is_static k.flags ≡ false) × Below w holder.name t.name) callee
  unfolding selected
  above_callee holder super s named one there id code =
      let plain = receiver_class super (solid.plain super s there) in
      let x = receiver super in
      let r = first_has (own_method true id.name id.desc) (line w x) code.place code.found in
      let e = r.0 in
      let on = of_line w solid.ordered.acyclic x e r.1 in
      let e_named = line_named w x e on in
      let at = own_at true id.name id.desc e code.place r.2 in
      let m = at.member in
      let hit : Some (record { owner = e; flags = m.flags }) ≡ Some code.hit =
      sym (hit_is w e at.place m (solid.numbered e.name e e_named) at.is_member) ∙ ap (method_hit w) (sym at.is)
      ∙ code.is_hit in
      let below : Below w holder.name e.name = listed_below w holder.name super e.name holder named
      (subst (Lists super) (sym (ap (λ xs. xs ++ holder.interfaces) one)) (lists-front super (super
      ∷ []) holder.interfaces supertypes.foremost)) (subst (λ y. Below w y e.name) plain (line_below w x e on)) in
      let target = reaches files solid (first_imported (line w x)) id (λ t k. (is_static k.flags ≡ false)
      × Below w holder.name t.name) e at.place m code.place e_named at.is_member at.is at.has_name at.has_desc
      (inr (same_flags hit ∙ code.is_concrete))
      (λ t k a b same_class same_member. (
        sym (ap (λ (v : Member). is_static v.flags) same_member)
            ∙ no_static m.flags at.wanted,
        subst (λ n. Below w holder.name n) (ap (λ (v : Class). v.name) same_class)
            below,
      )) in (
        target.0,
        ap (λ o. option_and_then (λ super. selected_from files w (select_in w) super id) (first_super o)) named
            ∙ ap (λ xs. option_and_then (λ super. selected_from files w (select_in w) super id) (slice_get xs 0)) one
            ∙ ap (option_and_then (λ f. callee_at files (first_imported (line w x)) id f)) code.found ∙ target.1,
        target.2,
      )
    where
      same_flags : {a b : ResolvedMember} → Some a ≡ Some b → is_abstract a.flags ≡ is_abstract b.flags
      same_flags e = cc

      no_static : (flags : ℕ) → is_selectable flags ≡ true → is_static flags ≡ false
      no_static flags e = by (is_private flags) (is_static flags) e
        where
          by : (p s : Bool) → (not p && not s) ≡ true → s ≡ false
          by p false e = refl
          by true true e = absurd cc
          by false true e = absurd cc
