-- What the code of a package calls by invokevirtual it finds by itself: a method at which selection may end, and
-- neither a constructor nor an initialiser.
use Rattle.std.proofs.Common.{◌≡◌, ℕ, refl, sym, ap, subst, ◌∙◌, Bool, true, false, List, [], ◌∷◌}
use Rattle.std.specs.Prelude.{◌||◌, Option, Some, None, if◌then◌else◌}
use Rattle.cjc_bytes.specs.AccessFlags.{is_private}
use Rattle.cjc_bytes.specs.declared.fault.MemberId.{MemberId}
use Rattle.cjc_bytes.proofs.Gets.{any_at}
use Rattle.cjc_components.specs.Bytecode.declared.insn.JOp.TheVariants as jop
use Rattle.cjc_components.specs.Bytecode.declared.method_code.MethodCode.{MethodCode}
use Rattle.cjc_components.specs.Package.{LaidMethod, Package, world}
use Rattle.cjc_jvm_semantics.specs.OnePackage.{ResolvedMember, is_constructor, is_initialiser, of_class}
use Rattle.cjc_narrow_proof.specs.Laws.Unbroken.{IsInsnOf}
use Rattle.cjc_shape_proof.specs.Written.Checked.{IsOfFiles}
use Rattle.cjc_theorem.proofs.AlikeLaws.MetLaws.KeySources as met
use Rattle.cjc_theorem.proofs.AlikeLaws.MetLaws.KeySources.{IsMet, insn_met}
use Rattle.cjc_theorem.proofs.AlikeLaws.NamedCalls.Operations.{is_that_call, no_call, no_test}
use Rattle.cjc_theorem.proofs.AlikeLaws.NamedLaws.Names.{Calls_method, called}
use Rattle.cjc_theorem.specs.Alike.Opcodes.{CallsHaveOpcodes}
use Rattle.cjc_token_proof.proofs.ByToken.Members.{member_tells}
use Rattle.cjc_token_proof.proofs.WrittenSends.Operations.{flat_from}
use Rattle.cjc_token_proof.specs.CardSemantics.Bytecode.Effects.{Call}
use Rattle.cjc_token_proof.specs.CardSemantics.Bytecode.Meanings.{Calls, Gets, GetsStatic, Makes, MakesReferences}
use Rattle.cjc_token_proof.specs.CardSemantics.Bytecode.Meanings.{Meaning, Puts, PutsStatic, Special, Static, Uses}
use Rattle.cjc_token_proof.specs.CardSemantics.Bytecode.Meanings.{Virtual, meaning}
use Rattle.cjc_token_proof.specs.List.Listed.{ListTree}
use Rattle.cjc_token_proof.specs.NCode.ByLabel.{Callee, Fixed, OnInterface, OnObject, OnSuper, naming, operation}
use Rattle.cjc_token_proof.specs.NCode.PoolOrder.{insn_keys}
use Rattle.cjc_token_proof.specs.NCode.declared.narrow.NInsn.{NInsn}
use Rattle.cjc_token_proof.specs.NCode.declared.narrow.NInsn.TheVariants as insns
use Rattle.cjc_token_proof.specs.NCode.declared.narrow.PoolKey.{PoolKey}
use Rattle.cjc_token_proof.specs.NCode.declared.narrow.PoolKey.TheVariants as keys
use Rattle.cjc_token_proof.specs.Narrow.Rows.Resolved.{by_owner, method_found, resolved_method, special_by, virtual_by}
use Rattle.cjc_token_proof.specs.WrittenSends.Named.{callee_in, calls_in, calls_of, is_called, same_call}
use Rattle.cjc_vtable.proofs.Filed.{Has, at_front}
use Rattle.cjc_world.specs.ClassFile.declared.tree.ClassTree.{ClassTree}
use Rattle.cjc_world.specs.Classes.{Class, class_named}
use Rattle.cjc_joint_whole.specs.Selected.{NamesVirtual}

-- an instruction that calls a virtual method names it
virtual_key : (how : Meaning) (key : PoolKey) (m : MemberId) → naming how key ≡ Call (OnObject m)
    → key ≡ keys.Virtual m
virtual_key (Uses (Calls Virtual)) (keys.Virtual k) m e = let same : OnObject k ≡ OnObject m = cc in
    ap keys.Virtual (let is : k ≡ m = cc in is)
virtual_key (Uses (Calls Special)) (keys.Super k) m e = absurd (cc)
virtual_key (Uses (Calls Special)) (keys.StaticMethod k) m e = absurd (cc)
virtual_key (Uses (Calls Static)) (keys.StaticMethod k) m e = absurd (cc)
virtual_key (Uses (Gets this letter)) (keys.Field f) m e = absurd (cc)
virtual_key (Uses (Puts this letter)) (keys.Field f) m e = absurd (cc)
virtual_key (Uses (GetsStatic letter)) (keys.StaticField f) m e = absurd (cc)
virtual_key (Uses (PutsStatic letter)) (keys.StaticField f) m e = absurd (cc)
virtual_key (Uses Makes) (keys.Class c) m e = absurd (cc)
virtual_key (Uses MakesReferences) (keys.Class c) m e = absurd (cc)
virtual_key how key m e = absurd (cc)

virtual_insn : (i : NInsn) (m : MemberId) → operation i ≡ Call (OnObject m) → Has (keys.Virtual m) (insn_keys i)
virtual_insn (insns.Op op) m e = absurd (no_call (insns.Op op) (OnObject m) refl e)
virtual_insn (insns.Push op value) m e = absurd (no_call (insns.Push op value) (OnObject m) refl e)
virtual_insn (insns.Local op index) m e = absurd (no_call (insns.Local op index) (OnObject m) refl e)
virtual_insn (insns.Inc op index by) m e = absurd (no_call (insns.Inc op index by) (OnObject m) refl e)
virtual_insn (insns.Words op a b) m e = absurd (no_call (insns.Words op a b) (OnObject m) refl e)
virtual_insn (insns.Jump op target) m e = absurd (no_call (insns.Jump op target) (OnObject m) refl e)
virtual_insn (insns.Switch op other low cases) m e = absurd (no_call (insns.Switch op other low cases) (OnObject m)
    refl e)
virtual_insn (insns.Named op key) m e = subst (λ (k : PoolKey). Has (keys.Virtual m) (k ∷ []))
    (sym (virtual_key (meaning op) key m e)) at_front
virtual_insn (insns.Interface nargs k) m e = absurd (cc)
virtual_insn (insns.NewArray number) m e = absurd (no_call (insns.NewArray number) (OnObject m) refl e)
virtual_insn (insns.TypeTest op number None) m e = absurd (no_call (insns.TypeTest op number None) (OnObject m) refl e)
virtual_insn (insns.TypeTest op number (Some c)) m e = absurd (no_test _ _ (OnObject m) e)

virtual_tells : (m : MemberId) (c : Callee) → same_call (OnObject m) c ≡ true → c ≡ OnObject m
virtual_tells m (Fixed on k) e = absurd (cc)
virtual_tells m (OnObject k) e = ap OnObject (sym (member_tells m k e))
virtual_tells m (OnSuper k) e = absurd (cc)
virtual_tells m (OnInterface n k) e = absurd (cc)

-- an invokespecial names none
no_virtual_key : (holder : List ℕ) (id m : MemberId) (o : Option ResolvedMember) → special_by holder id o
    ≡ keys.Virtual m → ⊥
no_virtual_key holder id m None e = cc
no_virtual_key holder id m (Some hit) e = by (is_constructor id.name || is_private hit.flags) e
  where
    by : (b : Bool) → (if b then keys.StaticMethod (by_owner id (Some hit)) else keys.Super (of_class holder id))
        ≡ keys.Virtual m → ⊥
    by true e = cc
    by false e = cc

module _ (list : ListTree) (codes : List MethodCode) (p : Package) (is : IsOfFiles list codes p)
    (opcodes : CallsHaveOpcodes codes) where
  abbrev w : List Class
  w = world p

  names_virtual : (class : ClassTree) (id : MemberId) → IsInsnOf p.files codes class (jop.Call 0xB6 id)
      → NamesVirtual w (virtual_by w id (class_named w id.class))
  names_virtual class id of = by (let c = n.named_class in c.is_imported) refl
    where
      n : Calls_method list codes p is class 0xB6 id
      n = called list codes p is class 0xB6 id of

      neither : (a b : Bool) → a ≡ false → b ≡ false → (a || b) ≡ false
      neither false false e f = refl
      neither true b e f = absurd cc
      neither false true e f = absurd cc

      ordinary_name : (is_constructor id.name || is_initialiser id.name) ≡ false
      ordinary_name = let f = n.fits in
          neither (is_constructor id.name) (is_initialiser id.name) (f.no_constructor refl) f.no_initialiser

      by : (b : Bool) → (let c = n.named_class in c.is_imported) ≡ b
          → NamesVirtual w (virtual_by w id (class_named w id.class))
      by false e = subst (NamesVirtual w) (sym (ap (virtual_by w id) n.names_class ∙ ap (λ b. if b
          then resolved_method w id else id) e)) (let f = n.fits in record {
            place = n.place;
            found = n.found;
            hit = record { owner = n.owner; flags = (let a = n.at in let m = a.member in m.flags) };
            is_hit = n.hit;
            selectable = f.selectable refl refl;
            ordinary = ordinary_name;
          })
      by true e = subst (NamesVirtual w) (sym (ap (virtual_by w id) n.names_class ∙ ap (λ b. if b
          then resolved_method w id else id) e ∙ n.resolved)) (let f = n.fits in record {
            place = n.place;
            found = n.again;
            hit = record { owner = n.owner; flags = (let a = n.at in let m = a.member in m.flags) };
            is_hit = n.hit;
            selectable = f.selectable refl refl;
            ordinary = ordinary_name;
          })

  virtual_met : (key : PoolKey) (m : MemberId) → IsMet p.files codes key → key ≡ keys.Virtual m → NamesVirtual w m
  virtual_met _ m (met.of_class c known) e = absurd (cc)
  virtual_met _ m (met.of_field class put id of) e = absurd (cc)
  virtual_met _ m (met.of_static class put id of none) e = absurd (cc)
  virtual_met _ m (met.of_virtual class id of) e =
      subst (NamesVirtual w) (let same : virtual_by w id (class_named w id.class) ≡ m = cc in same) (names_virtual class
      id of)
  virtual_met _ m (met.of_special n class id named plain of) e = absurd (no_virtual_key class.name id m (method_found w
      id) e)
  virtual_met _ m (met.of_call class id of) e = absurd (cc)

  pub virtuals_named : (m : MemberId) → is_called p (OnObject m) ≡ true → NamesVirtual w m
  virtuals_named m calls =
      let r = any_at (same_call (OnObject m)) (calls_of p) calls in
      let same = virtual_tells m r.1 r.3 in
      let k = flat_from (λ (x : LaidMethod). let code = x.code in calls_in code.insns) p.methods r.0 (OnObject m) (r.2
      ∙ ap Some same) in
      let insns = (let x = k.1 in let code = x.code in code.insns) in
      let i = flat_from (λ (i : NInsn). callee_in (operation i)) insns k.3.0 (OnObject m) k.3.1 in
      let call = is_that_call (operation i.1) i.3.0 (OnObject m) i.3.1 in
      virtual_met (keys.Virtual m) m (insn_met list codes p is opcodes k.0 k.1 k.2 i.0 i.1 i.2 (keys.Virtual m)
      (virtual_insn i.1 m call)) refl
