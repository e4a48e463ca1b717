-- The code of a package names fields of its own classes alone, and where it selects by no receiver it names of imported
-- classes static methods and constructors alone.
use Rattle.std.proofs.Common.{◌≡◌, ℕ, zero, suc, ◌+◌, refl, sym, ap, subst, ◌∙◌, arith, Bool, true, false, List, [], ◌∷◌}
use Rattle.std.proofs.Common.{inl, inr, length, ⊎_elim}
use Rattle.std.specs.Prelude.{◌||◌, ◌⊎◌, Option, Some, None, option_and_then, slice_get, if◌then◌else◌}
use Rattle.cjc_bytes.specs.AccessFlags.{is_private, is_static}
use Rattle.cjc_bytes.specs.declared.fault.MemberId.{MemberId}
use Rattle.cjc_bytes.proofs.Bools.{clash as true_not_false}
use Rattle.cjc_bytes.proofs.Gets.{any_at}
use Rattle.cjc_components.specs.Bytecode.declared.insn.JOp.TheVariants as jop
use Rattle.cjc_components.specs.Bytecode.declared.method_code.MethodCode.{MethodCode}
use Rattle.cjc_components.specs.Methods.{first_method, method_size, placed_from}
use Rattle.cjc_components.specs.Package.{LaidMethod, Package, world}
use Rattle.cjc_joint_proof.specs.JointTogether.{IsOwnClass, NamesOwnFields}
use Rattle.cjc_jvm_semantics.specs.OnePackage.{ResolvedMember, is_constructor, method_hit, of_class}
use Rattle.cjc_narrow_proof.specs.Laws.Unbroken.{IsInsnOf}
use Rattle.cjc_shape_proof.proofs.WrittenLaws.Checked.{own_names, own_solid}
use Rattle.cjc_shape_proof.specs.LowerJudge.Rules.{settings_of}
use Rattle.cjc_shape_proof.specs.Written.Checked.{IsOfFiles}
use Rattle.cjc_theorem.proofs.AlikeLaws.MetLaws.KeySources as met
use Rattle.cjc_theorem.proofs.AlikeLaws.MetLaws.KeySources.{IsMet, insn_met}
use Rattle.cjc_theorem.proofs.AlikeLaws.MetLaws.Own.{field_own}
use Rattle.cjc_theorem.proofs.AlikeLaws.NamedCalls.Operations.{is_that_call, no_call, no_test}
use Rattle.cjc_theorem.proofs.AlikeLaws.NamedLaws.Members.{field_named, static_named, static_own}
use Rattle.cjc_theorem.proofs.AlikeLaws.NamedLaws.Names.{called, private_own}
use Rattle.cjc_theorem.specs.Alike.Opcodes.{CallsHaveOpcodes}
use Rattle.cjc_token_proof.proofs.ByToken.Members.{member_tells}
use Rattle.cjc_token_proof.proofs.WrittenSends.Operations.{flat_from}
use Rattle.cjc_token_proof.specs.CardSemantics.Bytecode.Effects.{Call}
use Rattle.cjc_token_proof.specs.CardSemantics.Bytecode.Meanings.{Calls, Gets, GetsStatic, Makes, MakesReferences, Meaning}
use Rattle.cjc_token_proof.specs.CardSemantics.Bytecode.Meanings.{Puts, PutsStatic, Special, Static, Uses, Virtual}
use Rattle.cjc_token_proof.specs.CardSemantics.Bytecode.Meanings.{meaning}
use Rattle.cjc_token_proof.specs.List.Listed.{ListTree}
use Rattle.cjc_token_proof.specs.NCode.ByLabel.{Callee, Fixed, OnInterface, OnObject, OnSuper, naming, operation}
use Rattle.cjc_token_proof.specs.NCode.Lowering.Placed.{Placed}
use Rattle.cjc_token_proof.specs.NCode.PoolOrder.{insn_keys}
use Rattle.cjc_token_proof.specs.NCode.declared.narrow.NInsn.{NInsn}
use Rattle.cjc_token_proof.specs.NCode.declared.narrow.NInsn.TheVariants as insns
use Rattle.cjc_token_proof.specs.NCode.declared.narrow.PoolKey.{PoolKey}
use Rattle.cjc_token_proof.specs.NCode.declared.narrow.PoolKey.TheVariants as keys
use Rattle.cjc_token_proof.specs.Narrow.Rows.Package.{flags_of}
use Rattle.cjc_token_proof.specs.Narrow.Rows.Resolved.{by_owner, method_found, resolved_field, resolved_method}
use Rattle.cjc_token_proof.specs.Narrow.Rows.Resolved.{special_by}
use Rattle.cjc_token_proof.specs.WrittenSends.Named.{callee_in, calls_in, calls_of, is_called, same_call}
use Rattle.cjc_vtable.proofs.Filed.{Has, at_front}
use Rattle.cjc_world.specs.ClassFile.declared.tree.ClassTree.{ClassTree}
use Rattle.cjc_world.specs.Classes.{Class, Member, class_named}
use Rattle.cjc_world.specs.ExportFile.Members.{is_unbound}
use Rattle.cjc_world.specs.Lookup.{member_at, own_method}
use Rattle.cjc_world.specs.declared.found.Found.{Found}
use Rattle.cjc_joint_whole.specs.Whole.{IsBound}

-- ---- keys of instructions

-- a method at its offset is one of the package
placed_is : (at : ℕ) (ms : List LaidMethod) (j : ℕ) (m : Placed) → slice_get (placed_from at ms) j ≡ Some m
    → (t : LaidMethod) × (slice_get ms j ≡ Some t) × ((let n = m.method in n.insns) ≡ (let c = t.code in c.insns))
placed_is at [] j m e = cc
placed_is at (t ∷ ms) zero m e = (t, refl, same_insns e)
  where
    some_same : {a b : Placed} → Some a ≡ Some b → b ≡ a
    some_same e = cc

    same_insns : slice_get (placed_from at (t ∷ ms)) 0 ≡ Some m → (let n = m.method in n.insns)
        ≡ (let c = t.code in c.insns)
    same_insns e = ap (λ (q : Placed). let n = q.method in n.insns) (some_same e)
placed_is at (t ∷ ms) (suc j) m e = placed_is (at + method_size t) ms j m e

-- an instruction that calls a fixed method names it
fixed_key : (how : Meaning) (key : PoolKey) (on : Bool) (id : MemberId) → naming how key ≡ Call (Fixed on id)
    → key ≡ keys.StaticMethod id
fixed_key (Uses (Calls Virtual)) (keys.Virtual m) on id e = absurd (cc)
fixed_key (Uses (Calls Special)) (keys.Super m) on id e = absurd (cc)
fixed_key (Uses (Calls Special)) (keys.StaticMethod m) on id e = let same : Fixed true m ≡ Fixed on id = cc in
    ap keys.StaticMethod (let is : m ≡ id = cc in is)
fixed_key (Uses (Calls Static)) (keys.StaticMethod m) on id e = let same : Fixed false m ≡ Fixed on id = cc in
    ap keys.StaticMethod (let is : m ≡ id = cc in is)
fixed_key (Uses (Gets this letter)) (keys.Field f) on id e = absurd (cc)
fixed_key (Uses (Puts this letter)) (keys.Field f) on id e = absurd (cc)
fixed_key (Uses (GetsStatic letter)) (keys.StaticField f) on id e = absurd (cc)
fixed_key (Uses (PutsStatic letter)) (keys.StaticField f) on id e = absurd (cc)
fixed_key (Uses Makes) (keys.Class c) on id e = absurd (cc)
fixed_key (Uses MakesReferences) (keys.Class c) on id e = absurd (cc)
fixed_key how key on id e = absurd (cc)

fixed_insn : (i : NInsn) (on : Bool) (id : MemberId) → operation i ≡ Call (Fixed on id)
    → Has (keys.StaticMethod id) (insn_keys i)
fixed_insn (insns.Op op) on id e = absurd (no_call (insns.Op op) (Fixed on id) refl e)
fixed_insn (insns.Push op value) on id e = absurd (no_call (insns.Push op value) (Fixed on id) refl e)
fixed_insn (insns.Local op index) on id e = absurd (no_call (insns.Local op index) (Fixed on id) refl e)
fixed_insn (insns.Inc op index by) on id e = absurd (no_call (insns.Inc op index by) (Fixed on id) refl e)
fixed_insn (insns.Words op a b) on id e = absurd (no_call (insns.Words op a b) (Fixed on id) refl e)
fixed_insn (insns.Jump op target) on id e = absurd (no_call (insns.Jump op target) (Fixed on id) refl e)
fixed_insn (insns.Switch op other low cases) on id e = absurd (no_call (insns.Switch op other low cases) (Fixed on id)
    refl e)
fixed_insn (insns.Named op key) on id e = subst (λ (k : PoolKey). Has (keys.StaticMethod id) (k ∷ []))
    (sym (fixed_key (meaning op) key on id e)) at_front
fixed_insn (insns.Interface nargs m) on id e = absurd (cc)
fixed_insn (insns.NewArray number) on id e = absurd (no_call (insns.NewArray number) (Fixed on id) refl e)
fixed_insn (insns.TypeTest op number None) on id e = absurd (no_call (insns.TypeTest op number None) (Fixed on id) refl
    e)
fixed_insn (insns.TypeTest op number (Some c)) on id e = absurd (no_test _ _ (Fixed on id) e)

fixed_tells : (on : Bool) (id : MemberId) (m : Callee) → same_call (Fixed on id) m ≡ true → m ≡ Fixed on id
fixed_tells true id (Fixed true k) e = ap (Fixed true) (sym (member_tells id k e))
fixed_tells false id (Fixed false k) e = ap (Fixed false) (sym (member_tells id k e))
fixed_tells true id (Fixed false k) e = absurd (cc)
fixed_tells false id (Fixed true k) e = absurd (cc)
fixed_tells on id (OnObject k) e = absurd (cc)
fixed_tells on id (OnSuper k) e = absurd (cc)
fixed_tells on id (OnInterface n k) e = absurd (cc)

-- an invokespecial names no field
no_field_key : (holder : List ℕ) (id f : MemberId) (o : Option ResolvedMember) → special_by holder id o ≡ keys.Field f
    → ⊥
no_field_key holder id f None e = cc
no_field_key holder id f (Some hit) e = by (is_constructor id.name || is_private hit.flags) e
  where
    by : (b : Bool) → (if b then keys.StaticMethod (by_owner id (Some hit)) else keys.Super (of_class holder id))
        ≡ keys.Field f → ⊥
    by true e = cc
    by false e = cc

no_cell_key : (holder : List ℕ) (id f : MemberId) (o : Option ResolvedMember) → special_by holder id o
    ≡ keys.StaticField f → ⊥
no_cell_key holder id f None e = cc
no_cell_key holder id f (Some hit) e = by (is_constructor id.name || is_private hit.flags) e
  where
    by : (b : Bool) → (if b then keys.StaticMethod (by_owner id (Some hit)) else keys.Super (of_class holder id))
        ≡ keys.StaticField f → ⊥
    by true e = cc
    by false e = cc

module _ (list : ListTree) (codes : List MethodCode) (p : Package) (is : IsOfFiles list codes p)
    (opcodes : CallsHaveOpcodes codes) where
  abbrev w : List Class
  w = world p

  -- ---- fields

  -- the class of a field by the class that declares it
  own_of : (id f : MemberId) (d : Class) → class_named w d.name ≡ Some d → d.is_imported ≡ false
      → of_class d.name id ≡ f → IsOwnClass p f.class
  own_of id f d named own same = record {
    class = d;
    there = ap (λ (q : MemberId). class_named w q.class) (sym same) ∙ named;
    own = own;
  }

  field_met : (key : PoolKey) (f : MemberId) → IsMet p.files codes key → key ≡ keys.Field f → IsOwnClass p f.class
  field_met _ f (met.of_class c known) e = absurd (cc)
  field_met _ f (met.of_field class put id of) e =
      let n = field_named list.name p.files codes (settings_of list) (own_names list codes p is.checked) (own_solid list
      codes p is.checked) class put id of in
      let d = n.owner in
      own_of id f d n.named (field_own list codes p is id n) (sym n.resolved ∙ (let same : resolved_field w id ≡ f = cc
      in same))
  field_met _ f (met.of_static class put id of none) e = absurd (cc)
  field_met _ f (met.of_virtual class id of) e = absurd (cc)
  field_met _ f (met.of_special n class id named plain of) e = absurd (no_field_key class.name id f (method_found w id)
      e)
  field_met _ f (met.of_call class id of) e = absurd (cc)

  cell_met : (key : PoolKey) (f : MemberId) → IsMet p.files codes key → key ≡ keys.StaticField f
      → IsOwnClass p f.class
  cell_met _ f (met.of_class c known) e = absurd (cc)
  cell_met _ f (met.of_field class put id of) e = absurd (cc)
  cell_met _ f (met.of_static class put id of none) e =
      let n = static_named list.name p.files codes (settings_of list) (own_names list codes p is.checked) (own_solid list
      codes p is.checked) class put id of in
      let d = n.owner in
      own_of id f d n.named (static_own list.name p.files codes (settings_of list) (own_names list codes p is.checked)
      (own_solid list codes p is.checked) id n none) (sym n.resolved ∙ (let same : resolved_field w id ≡ f = cc in same))
  cell_met _ f (met.of_virtual class id of) e = absurd (cc)
  cell_met _ f (met.of_special n class id named plain of) e = absurd (no_cell_key class.name id f (method_found w id) e)
  cell_met _ f (met.of_call class id of) e = absurd (cc)

  pub own_fields : NamesOwnFields p
  own_fields = record {
    fields = λ j k op m f at insn. (let t = placed_is (first_method p.methods) p.methods j m at in
        field_met (keys.Field f) f (insn_met list codes p is opcodes j t.0 t.1 k (insns.Named op (keys.Field f)) (ap
        (λ is. slice_get is k) (sym t.2) ∙ insn) (keys.Field f) at_front) refl);
    statics = λ j k op m f at insn. (let t = placed_is (first_method p.methods) p.methods j m at in
        cell_met (keys.StaticField f) f (insn_met list codes p is opcodes j t.0 t.1 k (insns.Named op (keys.StaticField
        f)) (ap (λ is. slice_get is k) (sym t.2) ∙ insn) (keys.StaticField f) at_front) refl);
  }

  -- ---- methods

  -- what the class of a name declares first under a name and descriptor
  abbrev pub Binds : MemberId → Type 0
  Binds id = (c : Class) (f : Found) → class_named w id.class ≡ Some c → c.is_imported ≡ true
      → own_method false id.name id.desc c ≡ Some f → IsBound c f

  -- by the class that declares it, where it is static or a constructor, or the class is the package's
  binds : (id : MemberId) (d : Class) (f : Found) (i : ℕ) (m : Member) → class_named w d.name ≡ Some d
      → own_method false id.name id.desc d ≡ Some f → f ≡ member_at d (length d.fields + i)
      → slice_get d.methods i ≡ Some m → (d.is_imported ≡ true → is_unbound m.flags m.name ≡ true)
      → Binds (of_class d.name id)
  binds id d f i m named own at there bound c g known import own' j x x_there x_at =
      let both : Some d ≡ Some c = sym named ∙ known in
      let same : d ≡ c = cc in
      let one : Some f ≡ Some g = sym own ∙ ap (own_method false id.name id.desc) same ∙ own' in
      let found : f ≡ g = cc in
      let places : length d.fields + i ≡ length c.fields + j = ap (λ (q : Found). q.member) (sym at ∙ found ∙ x_at) in
      let long : length d.fields ≡ length c.fields = ap (λ (q : Class). length q.fields) same in
      let place : i ≡ j = omega (arith, places, long) in
      let members : Some m ≡ Some x = sym there ∙ ap (slice_get d.methods) place ∙ ap (λ (q : Class). slice_get
      q.methods j) same ∙ x_there in
      let is_it : m ≡ x = cc in
      ap (λ (q : Member). is_unbound q.flags q.name) (sym is_it) ∙ bound (ap (λ (q : Class). q.is_imported) same
      ∙ import)

  either : (a b : Bool) → b ≡ true → (a || b) ≡ true
  either true b e = refl
  either false b e = e

  static_binds : (class : ClassTree) (id : MemberId) → IsInsnOf p.files codes class (jop.Call 0xB8 id)
      → Binds (resolved_method w id)
  static_binds class id of =
      let n = called list codes p is class 0xB8 id of in
      let a = n.at in
      let d = n.owner in
      let fits = n.fits in
      let m = a.member in
      subst Binds (sym n.resolved) (binds id d n.place a.place m n.named n.own a.is a.is_member (λ import. ap (λ b. b
      || is_constructor m.name) (fits.of_class refl)))

  special_binds : (class : ClassTree) (id : MemberId) → IsInsnOf p.files codes class (jop.Call 0xB7 id)
      → (is_constructor id.name ≡ true) ⊎ (is_private (flags_of (method_found w id)) ≡ true)
      → Binds (resolved_method w id)
  special_binds class id of kind =
      let n = called list codes p is class 0xB7 id of in
      let a = n.at in
      let d = n.owner in
      let m = a.member in
      let told : method_found w id ≡ Some (record { owner = d; flags = m.flags }) = ap (option_and_then (method_hit w))
      n.found ∙ n.hit in
      subst Binds (sym n.resolved) (binds id d n.place a.place m n.named n.own a.is a.is_member (λ import. ⊎_elim
      (λ constructor. either (is_static m.flags) (is_constructor m.name) (ap is_constructor a.has_name ∙ constructor))
      (λ private. true_not_false d.is_imported import (private_own list codes p is class 0xB7 id n
      (ap (λ o. is_private (flags_of o)) (sym told) ∙ private))) kind))

  special_met : (class : ClassTree) (id f : MemberId) → IsInsnOf p.files codes class (jop.Call 0xB7 id)
      → (o : Option ResolvedMember) → method_found w id ≡ o → special_by class.name id o ≡ keys.StaticMethod f
      → Binds f
  special_met class id f of None none e =
      let n = called list codes p is class 0xB7 id of in
      let told = ap (option_and_then (method_hit w)) n.found ∙ n.hit in
      let clash : None ≡ Some (record { owner = n.owner; flags = (let a = n.at in let m = a.member in m.flags) }) =
      sym none ∙ told in
      absurd (cc)
  special_met class id f of (Some hit) found e = by (is_constructor id.name) refl (is_private hit.flags) refl e
    where
      same_key : {a b : MemberId} → keys.StaticMethod a ≡ keys.StaticMethod b → a ≡ b
      same_key e = cc

      is_it : by_owner id (Some hit) ≡ f → resolved_method w id ≡ f
      is_it same = ap (by_owner id) found ∙ same

      by : (a : Bool) → is_constructor id.name ≡ a → (b : Bool) → is_private hit.flags ≡ b → (if a || b
          then keys.StaticMethod (by_owner id (Some hit)) else keys.Super (of_class class.name id))
          ≡ keys.StaticMethod f → Binds f
      by true g b h e = subst Binds (is_it (same_key e)) (special_binds class id of (inl g))
      by false g true h e = subst Binds (is_it (same_key e)) (special_binds class id of (inr (ap (λ o. is_private
          (flags_of o)) found ∙ h)))
      by false g false h e = absurd (cc)

  fixed_met : (key : PoolKey) (f : MemberId) → IsMet p.files codes key → key ≡ keys.StaticMethod f → Binds f
  fixed_met _ f (met.of_class c known) e = absurd (cc)
  fixed_met _ f (met.of_field class put id of) e = absurd (cc)
  fixed_met _ f (met.of_static class put id of none) e = absurd (cc)
  fixed_met _ f (met.of_virtual class id of) e = absurd (cc)
  fixed_met _ f (met.of_special n class id named plain of) e = special_met class id f of (method_found w id) refl e
  fixed_met _ f (met.of_call class id of) e = subst Binds (let same : resolved_method w id ≡ f = cc in same)
      (static_binds class id of)

  pub fixed_bound : (on : Bool) (id : MemberId) → is_called p (Fixed on id) ≡ true → Binds id
  fixed_bound on id called =
      let r = any_at (same_call (Fixed on id)) (calls_of p) called in
      let same = fixed_tells on id r.1 r.3 in
      let m = flat_from (λ (x : LaidMethod). let code = x.code in calls_in code.insns) p.methods r.0 (Fixed on id) (r.2
      ∙ ap Some same) in
      let insns = (let x = m.1 in let code = x.code in code.insns) in
      let i = flat_from (λ (i : NInsn). callee_in (operation i)) insns m.3.0 (Fixed on id) m.3.1 in
      let calls = is_that_call (operation i.1) i.3.0 (Fixed on id) i.3.1 in
      fixed_met (keys.StaticMethod id) id (insn_met list codes p is opcodes m.0 m.1 m.2 i.0 i.1 i.2
      (keys.StaticMethod id) (fixed_insn i.1 on id calls)) refl
