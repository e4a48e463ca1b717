-- What calls select on a receiver.
use Rattle.std.proofs.Common.{◌≡◌, ℕ, ◌+◌, refl, sym, ap, subst, ◌∙◌, Bool, true, false, List, [], length, inl}
use Rattle.std.proofs.Common.{inr, ⊎_elim}
use Rattle.std.specs.Prelude.{◌⊎◌, ◌&&◌, not, Some, option_map, option_and_then, slice_get, if◌then◌else◌}
use Rattle.std.specs.Str.{bytes_eq}
use Rattle.cjc_bytes.specs.AccessFlags.{is_abstract, is_interface, is_private, is_static}
use Rattle.cjc_bytes.specs.declared.fault.MemberId.{MemberId}
use Rattle.cjc_bytes.proofs.Lists.{name_is}
use Rattle.cjc_bytes.proofs.Bools.{true_or_false, true_not_false}
use Rattle.cjc_world.specs.ClassFile.declared.tree.ClassTree.{ClassTree}
use Rattle.cjc_world.specs.ClassFile.declared.tree.MethodTree.{MethodTree}
use Rattle.cjc_world.specs.declared.found.Found.{Found}
use Rattle.cjc_world.specs.Classes.{Class, Member, all_classes, class_named, declared, method_of_class}
use Rattle.cjc_world.specs.Files.{Files}
use Rattle.cjc_world.specs.Supertypes.{line}
use Rattle.cjc_world.specs.Lookup.{first, is_called, is_selectable, member_at, own_method, receiver, selected}
use Rattle.cjc_jvm_semantics.specs.Linked.{Abroad, Callee, Inside}
use Rattle.cjc_jvm_semantics.specs.OnePackage.{ResolvedMember, callee_at, first_imported, interface_callee}
use Rattle.cjc_jvm_semantics.specs.OnePackage.{is_initialiser, method_at, method_by, method_hit, of_class, select_in}
use Rattle.cjc_jvm_semantics.specs.OnePackage.{selected_from}
use Rattle.cjc_world_proof.specs.Calls.Solid.{IsConcrete, IsOwn, IsSolid}
use Rattle.cjc_world_proof.specs.Calls.Targets.{IsReceiver, IsTarget, abroad, inside}
use Rattle.cjc_world_proof.proofs.CallsLaws.Own.{IsAt, hit_is, mapped_at, method_is, own_at, own_is}
use Rattle.cjc_world_proof.proofs.CallsLaws.Types.{receiver_class}
use Rattle.cjc_world.specs.Upwards.{Below, OnLine}
use Rattle.cjc_world.proofs.UpwardLaws.Lines.{below_abroad, first_has, first_some, in_line, line_below, line_named}
use Rattle.cjc_world.proofs.UpwardLaws.Lines.{of_line, on_line, same_class}

pub called_by : (name desc : List ℕ) (m : Member) → m.name ≡ name → m.desc ≡ desc → is_called name desc m ≡ true
called_by name desc m e f = ap (λ n. bytes_eq n name && bytes_eq m.desc desc) e
    ∙ ap (λ b. b && bytes_eq m.desc desc) (name_is name) ∙ ap (λ n. bytes_eq n desc) f ∙ name_is desc

selectable_static : (flags : ℕ) → is_selectable flags ≡ true → is_static flags ≡ false
selectable_static flags e = by (is_private flags) (is_static flags) e
  where
    by : (p s : Bool) → (not p && not s) ≡ true → s ≡ false
    by p false e = refl
    by true true e = absurd cc
    by false true e = absurd cc

module _ (files : Files) (solid : IsSolid files) where
  abbrev w : List Class
  w = all_classes files

  -- a method of a class of the package, and its tree
  pub own_tree : (d : Class) (i : ℕ) (m : Member) → class_named w d.name ≡ Some d → d.is_imported ≡ false
      → slice_get d.methods i ≡ Some m
      → (t : ClassTree) × (k : MethodTree) × (slice_get files.classes d.number ≡ Some t)
      × (slice_get t.methods i ≡ Some k) × (d ≡ declared d.number t) × (m ≡ method_of_class k)
  own_tree d i m named own e =
      let t = solid.own d.name d named own in
      let k = mapped_at method_of_class (let c = t.0 in c.methods) i m (ap (λ (v : Class). slice_get v.methods i)
      (sym t.2) ∙ e) in
      (t.0, k.0, t.1, k.1, t.2, k.2)

  -- what a look-up of a method that has code reaches
  pub reaches : (event : List ℕ) (id : MemberId) (P : ClassTree → MethodTree → Type 0) (d : Class) (i : ℕ) (m : Member)
      (f : Found) → class_named w d.name ≡ Some d → slice_get d.methods i ≡ Some m
      → f ≡ member_at d (length d.fields + i)
      → m.name ≡ id.name → m.desc ≡ id.desc → (d.is_imported ≡ true) ⊎ (is_abstract m.flags ≡ false)
      → ((t : ClassTree) (k : MethodTree) → slice_get files.classes d.number ≡ Some t → slice_get t.methods i ≡ Some k
      → d ≡ declared d.number t → m ≡ method_of_class k → P t k)
      → (callee : Callee) × (callee_at files event id f ≡ Some callee) × IsTarget files id P callee
  reaches event id P d i m f named e is name desc whole holds = by d.is_imported refl
    where
      by : (b : Bool) → d.is_imported ≡ b → (callee : Callee) × (callee_at files event id f ≡ Some callee)
          × IsTarget files id P callee
      by true imp = (
        Abroad (of_class event id),
        ap (callee_at files event id) is
            ∙ ap (λ b. if b then Some (Abroad (of_class event id))
            else option_map Inside (method_at files (member_at d (length d.fields + i)))) imp,
        abroad refl,
      )
      by false own =
          let k = own_tree d i m named own e in
          let t = k.0 in
          let method = k.1 in
          let there : IsOwn files t method = record { number = d.number; place = i; is_class = k.2; is_method = k.3 } in
          let concrete : is_abstract method.flags ≡ false =
          ⊎_elim (λ imp. absurd (true_not_false d.is_imported imp own))
          (λ c. sym (ap (λ (v : Member). is_abstract v.flags) k.5) ∙ c) whole in
          let tree = solid.coded t method there concrete in
          let at : method_at files f ≡ Some (method_by t method method.code) = ap (method_at files) (is
          ∙ ap (λ (v : Class). member_at v (length v.fields + i)) k.4) ∙ method_is files d.number t i method k.2 k.3
          in
          let far : f.imported ≡ false = ap (λ (v : Found). v.imported) is ∙ own in
          let m = method_by t method (Some tree.0) in (
            Inside m,
            ap (λ b. if b then Some (Abroad (of_class event id)) else option_map Inside (method_at files f)) far
                ∙ ap (option_map Inside) (at ∙ ap (λ o. Some (method_by t method o)) tree.1),
            inside (record {
              class = t;
              method = method;
              tree = tree.0;
              own = there;
              is_code = tree.1;
              is = refl;
              name = sym (ap (λ (v : Member). v.name) k.5) ∙ name;
              desc = sym (ap (λ (v : Member). v.desc) k.5)
                  ∙ desc;
            }) (holds t method k.2 k.3 k.4 k.5),
          )

  -- ---- selection on a receiver

  -- A method that selection gives on a class: of a class on its line, imported or not abstract.
  pub record IsSelected (x : List ℕ) (id : MemberId) : Type 0 where
    pub place : Found
    pub found : first (own_method true id.name id.desc) (line w x) ≡ Some place
    pub owner : Class
    pub on : OnLine w x owner
    pub at : IsAt true id.name id.desc owner place
    pub whole : (owner.is_imported ≡ true) ⊎ (is_abstract (let a = at in let m = a.member in m.flags) ≡ false)

  module _ (x : List ℕ) (r : IsReceiver w x) where
    abbrev c : Class
    c = r.class

    pub itself : receiver x ≡ x
    itself = receiver_class x (solid.plain x c r.named)

    concrete : c.is_imported ≡ false → IsConcrete c
    concrete own = record {
      own = own;
      no_interface = r.no_interface;
      no_abstract = ⊎_elim (λ imp. absurd (true_not_false c.is_imported imp own)) (λ e. e) r.made;
    }

    -- what is selected is one that has code
    pub selected_whole : (id : MemberId) → is_initialiser id.name ≡ false → (g : Found)
        → first (own_method true id.name id.desc) (line w x) ≡ Some g → IsSelected x id
    unfolding selected
    selected_whole id plain g e =
        let one = first_has (own_method true id.name id.desc) (line w x) g e in
        let d = one.0 in
        let on = of_line w solid.ordered.acyclic x d one.1 in
        let at = own_at true id.name id.desc d g one.2 in
        record {
          place = g;
          found = e;
          owner = d;
          on = on;
          at = at;
          whole = by d on at (true_or_false d.is_imported)
              (true_or_false (is_abstract (let m = at.member in m.flags)));
        }
      where
        by : (d : Class) → OnLine w x d → (at : IsAt true id.name id.desc d g) → (d.is_imported ≡ true)
            ⊎ (d.is_imported ≡ false) → (is_abstract (let m = at.member in m.flags) ≡ true)
            ⊎ (is_abstract (let m = at.member in m.flags) ≡ false) → (d.is_imported ≡ true)
            ⊎ (is_abstract (let m = at.member in m.flags) ≡ false)
        by d on at (inl imp) o = inl imp
        by d on at (inr own) (inr ground) = inr ground
        by d on at (inr own) (inl bare) =
            let named = line_named w x d on in
            let mine : c.is_imported ≡ false =
            ⊎_elim (λ imp. absurd (true_not_false d.is_imported (below_abroad w solid.ordered x d.name c d
            (line_below w x d on) r.named imp named) own)) (λ e. e) (true_or_false c.is_imported) in
            let m = at.member in
            let code = solid.implemented x c d at.place m r.named (concrete mine) named (inl on) at.is_member (inl bare)
            (ap is_initialiser at.has_name ∙ plain) in
            let same : Some g ≡ Some code.place = sym e ∙ ap (λ y. first (own_method true id.name id.desc) (line w y))
            (sym itself) ∙ ap (λ n. first (own_method true n id.desc) (line w (receiver x))) (sym at.has_name)
            ∙ ap (λ n. first (own_method true m.name n) (line w (receiver x))) (sym at.has_desc) ∙ code.found in
            let place_is : g ≡ code.place = cc in
            let hit : Some (record { owner = d; flags = m.flags }) ≡ Some code.hit =
            sym (hit_is w d at.place m (solid.numbered d.name d named) at.is_member) ∙ ap (method_hit w) (sym at.is
            ∙ place_is) ∙ code.is_hit in
            let flags : m.flags ≡ (let h = code.hit in h.flags) = same_flags hit in
            absurd (true_not_false (is_abstract m.flags) bare (ap is_abstract flags ∙ code.is_concrete))
          where
            same_flags : {a b : ResolvedMember} → Some a ≡ Some b → a.flags ≡ b.flags
            same_flags e = cc

    -- a method that can be selected, and that is declared at or above the class, is selected or overridden there
    pub is_selected : (id : MemberId) → is_initialiser id.name ≡ false → (d : Class) (i : ℕ) (m : Member)
        → Below w x d.name → class_named w d.name ≡ Some d → slice_get d.methods i ≡ Some m → m.name ≡ id.name
        → m.desc ≡ id.desc → is_selectable m.flags ≡ true
        → (is_interface d.flags ≡ true → c.is_imported ≡ false) → IsSelected x id
    unfolding selected
    is_selected id plain d i m below named e name desc wanted far =
        ⊎_elim by_interface by_class (true_or_false (is_interface d.flags))
      where
        by_class : is_interface d.flags ≡ false → IsSelected x id
        by_class ground =
            let on = on_line w solid.ordered x d.name c d below r.named r.no_interface named ground in
            let own = own_is true id.name id.desc d i m e wanted (called_by id.name id.desc m name desc) in
            let g = first_some (own_method true id.name id.desc) (line w x) d own.0 (in_line w solid.ordered.acyclic x d
            on) own.1 in
            selected_whole id plain g.0 g.1

        by_interface : is_interface d.flags ≡ true → IsSelected x id
        by_interface is =
            let code = solid.implemented x c d i m r.named (concrete (far is)) named (inr (below, is)) e (inr is)
            (ap is_initialiser name ∙ plain) in
            let found : first (own_method true id.name id.desc) (line w x) ≡ Some code.place =
            ap (λ y. first (own_method true id.name id.desc) (line w y)) (sym itself)
            ∙ ap (λ n. first (own_method true n id.desc) (line w (receiver x))) (sym name)
            ∙ ap (λ n. first (own_method true m.name n) (line w (receiver x))) (sym desc) ∙ code.found in
            selected_whole id plain code.place found

  -- what is selected on a type: a method with a receiver, of a class that the type is of
  abbrev pub Suits : (x : List ℕ) → ClassTree → MethodTree → Type 0
  Suits x t k = (is_static k.flags ≡ false) × Below w x t.name

  pub selected_target : (type x event : List ℕ) (id : MemberId) (s : IsSelected x id) → receiver type ≡ x
      → selected_from files w (select_in w) type id ≡ callee_at files (first_imported (line w x)) id s.place
  unfolding selected
  selected_target type x event id s is =
      ap (λ y. option_and_then (λ f. callee_at files (first_imported (line w y)) id f)
      (first (own_method true id.name id.desc) (line w y))) is
      ∙ ap (option_and_then (λ f. callee_at files (first_imported (line w x)) id f)) s.found

  pub selected_callee : (x event : List ℕ) (id : MemberId) (s : IsSelected x id) → (callee : Callee)
      × (callee_at files event id s.place ≡ Some callee) × IsTarget files id (Suits x) callee
  selected_callee x event id s =
      let at = s.at in
      let d = s.owner in
      let m = at.member in
      reaches event id (Suits x) d at.place m s.place (line_named w x d s.on) at.is_member at.is at.has_name at.has_desc
      s.whole
      (λ t k a b same_class same_member. (
        sym (ap (λ (v : Member). is_static v.flags) same_member) ∙ selectable_static m.flags at.wanted,
        subst (λ n. Below w x n) (ap (λ (v : Class). v.name) same_class) (line_below w x d s.on),
      ))

  -- ---- calls on a receiver

  -- invokevirtual, and of what stands above a class
  pub on_object : (type : List ℕ) → IsReceiver w (receiver type) → (id : MemberId) → IsSelected (receiver type) id
      → (callee : Callee) × (selected_from files w (select_in w) type id ≡ Some callee)
      × IsTarget files id (Suits (receiver type)) callee
  on_object type r id s =
      let c = selected_callee (receiver type) (first_imported (line w (receiver type))) id s in
      (c.0, selected_target type (receiver type) [] id s refl ∙ c.1, c.2)

  -- invokeinterface
  pub on_interface : (type interface : List ℕ) → (r : IsReceiver w (receiver type)) → (id : MemberId)
      → ((let c = r.class in c.is_imported) ≡ false → IsSelected (receiver type) id)
      → (callee : Callee) × (interface_callee files w (select_in w) interface type id (class_named w (receiver type))
      ≡ Some callee) × IsTarget files id (Suits (receiver type)) callee
  on_interface type interface r id s = by (true_or_false (let c = r.class in c.is_imported))
    where
      c : Class
      c = r.class

      at : interface_callee files w (select_in w) interface type id (class_named w (receiver type))
          ≡ (if (let c = r.class in c.is_imported) then Some (Abroad (of_class interface id))
          else selected_from files w (select_in w) type id)
      at = ap (interface_callee files w (select_in w) interface type id) r.named

      by : ((let c = r.class in c.is_imported) ≡ true) ⊎ ((let c = r.class in c.is_imported) ≡ false)
          → (callee : Callee)
          × (interface_callee files w (select_in w) interface type id (class_named w (receiver type)) ≡ Some callee)
          × IsTarget files id (Suits (receiver type)) callee
      by (inl imp) = (
        Abroad (of_class interface id),
        at ∙ ap (λ b. if b then Some (Abroad (of_class interface id))
            else selected_from files w (select_in w) type id) imp,
        abroad refl,
      )
      by (inr own) = let one = on_object type r id (s own)
          in (
            one.0,
            at ∙ ap (λ b. if b then Some (Abroad (of_class interface id))
                else selected_from files w (select_in w) type id) own ∙ one.1,
            one.2,
          )
