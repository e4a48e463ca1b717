-- What a call of a class's method finds stands at or above the class as a public or protected method, or as a
-- package-visible one of the package.
use Rattle.std.proofs.Common.{◌≡◌, ℕ, ◌+◌, refl, sym, ap, ◌∙◌, arith, Bool, true, false, List, [], ◌∷◌, length, inl}
use Rattle.std.proofs.Common.{inr}
use Rattle.std.specs.Prelude.{◌⊎◌, ◌&&◌, ◌||◌, not, Option, Some, None, slice_get, if◌then◌else◌}
use Rattle.cjc_bytes.specs.AccessFlags.{is_interface, is_private, is_protected, is_public, is_static}
use Rattle.cjc_bytes.specs.declared.fault.MemberId.{MemberId}
use Rattle.cjc_jvm_semantics.specs.OnePackage.{ResolvedMember, is_constructor, method_hit}
use Rattle.cjc_token_proof.proofs.WorldProofOwn.{hit_is, own_at}
use Rattle.cjc_shape_proof.specs.WorldProof.Calls.Solid.{IsSolid}
use Rattle.cjc_token_proof.specs.Calls.Selecting.{signature}
use Rattle.cjc_world.specs.ClassFile.declared.tree.ClassTree.{ClassTree}
use Rattle.cjc_components.specs.Bytecode.declared.method_code.MethodCode.{MethodCode}
use Rattle.cjc_components.specs.Package.{Package, world}
use Rattle.cjc_token_proof.specs.List.Listed.{ListTree}
use Rattle.cjc_theorem.proofs.AlikeLaws.NamedLaws.Names.{Calls_method}
use Rattle.cjc_tokens.specs.Members.{chosen, is_exposed, is_initialiser, is_virtual, signature_of}
use Rattle.cjc_tokens.proofs.Facts.{chosen-In}
use Rattle.cjc_world.specs.Upwards.{IsOrdered, OnLine}
use Rattle.cjc_world.proofs.UpwardLaws.Lines.{line_named, of_line}
use Rattle.cjc_vtable.specs.Calls.{any_method}
use Rattle.cjc_world.specs.declared.found.Found.{Found}
use Rattle.cjc_world.specs.Access.{is_accessible}
use Rattle.cjc_world.specs.Classes.{Class, Member}
use Rattle.cjc_world.specs.Interfaces.{gathered, known}
use Rattle.cjc_world.specs.Supertypes.{supertypes, line}
use Rattle.cjc_world.specs.Lookup.{find_method, first, is_selectable, member_at, or_else, own_method}
use Rattle.cjc_shape_proof.proofs.WrittenLaws.Checked.{own_solid}
use Rattle.cjc_shape_proof.specs.Written.Checked.{IsOfFiles}
use Rattle.cjc_theorem.proofs.AlikeLaws.VirtualCalls.Chosen.{any_selects, first_found, own_first}
use Rattle.cjc_theorem.proofs.AlikeLaws.VirtualCalls.Lines.{HasHidden, HasShown}
use Rattle.cjc_theorem.proofs.AlikeLaws.VirtualCalls.Ways.{line_class}

-- a method that is found is the first of the signature in the class that declares it
pub first_there : (c : Class) (f : Found) (s : MemberId) (i : ℕ) (m : Member) → slice_get c.methods i ≡ Some m
    → f ≡ member_at c (length c.fields + i)
    → (j : ℕ) (n : Member) → slice_get c.methods j ≡ Some n → f ≡ member_at c (length c.fields + j) → n ≡ m
first_there c f s i m e is j n g has =
    let places : length c.fields + j ≡ length c.fields + i = ap (λ (q : Found). q.member) (sym has ∙ is) in
    let same : j ≡ i = omega (arith, places) in
    let both : Some n ≡ Some m = sym g ∙ ap (slice_get c.methods) same ∙ e in
    cc

module _ (list : ListTree) (codes : List MethodCode) (p : Package) (is : IsOfFiles list codes p) (class : ClassTree)
    (op : ℕ) (id : MemberId) (n : Calls_method list codes p is class op id) where
  abbrev w : List Class
  w = world p

  abbrev pub called : Member
  called = let a = n.at in a.member

  pub called_signature : signature_of called ≡ signature id
  called_signature = let a = n.at in ap (λ x. record { name = x; desc = (let m = called in m.desc) }) a.has_name
      ∙ ap (λ x. record { name = id.name; desc = x }) a.has_desc

  pub called_first : chosen any_method (signature id) (let d = n.owner in d.methods) ≡ Some called
  called_first =
      let a = n.at in
      let r = own_first false (signature id) n.owner n.place n.own in
      r.is_first ∙ ap Some (first_there n.owner n.place id a.place called a.is_member a.is r.place r.method r.there
      r.is)

  -- where it is of an interface, no class of the line has one
  pub none_on_line : (let c = n.named_class in is_interface c.flags) ≡ false → (let d = n.owner in is_interface d.flags)
      ≡ true → first (own_method false id.name id.desc) (line w id.class) ≡ None
  unfolding find_method
  none_on_line plain interface = by (first (own_method false id.name id.desc) (line w id.class)) refl n.found
    where
      solid : IsSolid p.files
      solid = own_solid list codes p is.checked

      ordered : IsOrdered w
      ordered = (let s = own_solid list codes p is.checked in s.ordered)

      by : (o : Option Found) → first (own_method false id.name id.desc) (line w id.class) ≡ o
          → or_else o (first (own_method false id.name id.desc) (known (gathered false (supertypes w (id.class ∷ [])))))
          ≡ Some n.place
          → first (own_method false id.name id.desc) (line w id.class) ≡ None
      by None g e = g
      by (Some f) g e =
          let same : f ≡ n.place = cc in
          let r = first_found false (signature id) (line w id.class) f g in
          let c = r.class in
          let on = of_line w (let o = ordered in o.acyclic) id.class c r.among in
          let a = own_at false id.name id.desc c f r.own in
          let told = ap (method_hit w) a.is ∙ hit_is w c a.place a.member ((let s = solid in s.numbered) c.name c
          (line_named w id.class c on)) a.is_member in
          let here : ResolvedMember = record { owner = c; flags = (let m = a.member in m.flags) } in
          let there : ResolvedMember = record { owner = n.owner; flags = (let m = called in m.flags) } in
          let both : Some here ≡ Some there = sym told ∙ ap (method_hit w) same ∙ n.hit in
          let one : here ≡ there = cc in
          let clash : false ≡ true = sym (line_class w ordered id.class n.named_class c on n.names_class plain)
          ∙ ap (λ (h : ResolvedMember). let o = h.owner in is_interface o.flags) one ∙ interface in
          absurd cc

  -- code sees a method of an imported class only where it is public or protected
  pub exposed_abroad : is_private (let m = called in m.flags) ≡ false → (let d = n.owner in d.is_imported) ≡ true
      → is_exposed (let m = called in m.flags) ≡ true
  unfolding is_accessible
  exposed_abroad visible import =
      let flags = (let m = called in m.flags) in
      let d = n.owner in
      by (is_public flags) (is_private flags) (is_protected flags) d.is_imported _ _ _ visible import (may _ n.seen)
    where
      may : (a : Bool) → not a ≡ false → a ≡ true
      may true e = refl
      may false e = absurd cc

      by : (a p t i q r v : Bool) → p ≡ false → i ≡ true → (a || (if p then not i && q else not i || (t && r && v)))
          ≡ true → (a || t) ≡ true
      by true p t i q r v e f g = refl
      by false true t i q r v e f g = absurd cc
      by false false true i q r v e f g = refl
      by false false false true q r v e f g = absurd cc
      by false false false false q r v e f g = absurd cc

  -- so what is found from a class stands there in one way or the other
  pub stands_there : is_selectable (let m = called in m.flags) ≡ true → is_constructor id.name ≡ false → (x : List ℕ)
      → OnLine w x n.owner → HasShown w x (signature id) ⊎ HasHidden w x (signature id)
  stands_there selectable plain x on = by (is_exposed (let m = called in m.flags)) refl
    where
      d : Class
      d = n.owner

      virtual : is_virtual called ≡ true
      virtual =
          let a = n.at in
          let f = n.fits in
          of (is_selectable (let m = called in m.flags)) (is_constructor (let m = called in m.name))
          (is_initialiser (let m = called in m.name)) selectable (ap is_constructor a.has_name
          ∙ plain) (ap is_initialiser a.has_name ∙ f.no_initialiser)
        where
          of : (a b c : Bool) → a ≡ true → b ≡ false → c ≡ false → (a && not (b || c)) ≡ true
          of true false false e f g = refl
          of true false true e f g = absurd cc
          of true true c e f g = absurd cc
          of false b c e f g = absurd cc

      visible : is_private (let m = called in m.flags) ≡ false
      visible = of (is_private (let m = called in m.flags)) (is_static (let m = called in m.flags)) selectable
        where
          of : (a b : Bool) → (not a && not b) ≡ true → a ≡ false
          of false b e = refl
          of true b e = absurd cc

      by : (b : Bool) → is_exposed (let m = called in m.flags) ≡ b → HasShown w x (signature id)
          ⊎ HasHidden w x (signature id)
      by true e = inl (record {
        class = n.owner;
        on = on;
        method = called;
        among = chosen-In any_method (signature id) (let c = n.owner in c.methods) called called_first;
        shown = ap (λ b. b && is_virtual called) e ∙ virtual;
        one = called_signature;
        is_first = λ own. any_selects (signature id) (let c = n.owner in c.methods) called called_first selectable;
      })
      by false e = inr (record {
        class = n.owner;
        on = on;
        own = apart (let c = n.owner in c.is_imported) refl;
        method = called;
        hidden_one = ap (λ b. not b && is_virtual called) e ∙ virtual;
        is_first = called_first;
      })
        where
          apart : (b : Bool) → (let c = n.owner in c.is_imported) ≡ b → (let c = n.owner in c.is_imported) ≡ false
          apart false f = f
          apart true f = let clash : true ≡ false = sym (exposed_abroad visible f) ∙ e in absurd cc
