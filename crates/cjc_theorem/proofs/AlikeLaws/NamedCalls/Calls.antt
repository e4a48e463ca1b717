-- Each call that the code of a converted package makes is one that calls can name.
use Rattle.std.proofs.Common.{◌≡◌, ℕ, refl, sym, ap, subst, ◌∙◌, Bool, true, false, List}
use Rattle.std.specs.Prelude.{◌||◌, Some, option_and_then, if◌then◌else◌}
use Rattle.cjc_token_proof.specs.CardSemantics.Bytecode.Effects.{Call}
use Rattle.cjc_token_proof.specs.CardSemantics.Bytecode.Meanings.{meaning}
use Rattle.cjc_bytes.specs.AccessFlags.{is_interface, is_private}
use Rattle.cjc_bytes.specs.declared.fault.MemberId.{MemberId}
use Rattle.cjc_jvm_semantics.specs.OnePackage.{ResolvedMember, is_constructor, method_hit, of_class}
use Rattle.cjc_world.specs.ClassFile.declared.tree.ClassTree.{ClassTree}
use Rattle.cjc_components.specs.Bytecode.declared.method_code.MethodCode.{MethodCode}
use Rattle.cjc_components.specs.Bytecode.declared.insn.JOp.{JOp}
use Rattle.cjc_components.specs.Bytecode.declared.insn.JOp.TheVariants as jop
use Rattle.cjc_narrow_proof.specs.Sources as sources
use Rattle.cjc_narrow_proof.specs.Sources.{IsWrittenFor}
use Rattle.cjc_components.specs.Package.{LaidMethod, Package, pool, world}
use Rattle.cjc_token_proof.specs.List.Listed.{ListTree}
use Rattle.cjc_theorem.proofs.AlikeLaws.NamedLaws.Names.{called}
use Rattle.cjc_theorem.proofs.AlikeLaws.NamedLaws.Sources.{HasSource, has_source, holder, no_source, of_insn}
use Rattle.cjc_theorem.specs.Alike.Opcodes.{CallsHaveOpcodes}
use Rattle.cjc_token_proof.specs.Narrow.Rows.Resolved.{by_owner, method_found, resolution, resolved_method, special_by}
use Rattle.cjc_token_proof.specs.Narrow.Rows.Resolved.{virtual_by}
use Rattle.cjc_token_proof.specs.Narrow.Rows.Selected.{near_fields}
use Rattle.cjc_narrow_proof.specs.Laws.Unbroken.{IsInsnOf}
use Rattle.cjc_ncode.specs.ByLabel.{Callee, Fixed, OnInterface, OnObject, OnSuper, Resolved, naming, operation}
use Rattle.cjc_ncode.specs.declared.narrow.NInsn.{NInsn}
use Rattle.cjc_ncode.specs.declared.narrow.PoolKey.TheVariants as keys
use Rattle.cjc_world.specs.Classes.{Class, class_named}
use Rattle.cjc_token_proof.specs.WrittenCalls.Calls.{IsNamed, TakesWords}
use Rattle.cjc_shape_proof.specs.Written.Checked.{IsOfFiles}
use Rattle.cjc_token_proof.specs.WrittenSends.Named.{CallsAreNamed, callee_in, calls_in}
use Rattle.cjc_theorem.proofs.AlikeLaws.NamedCalls.Operations.{is_that_call, no_call, no_class, no_field}
use Rattle.cjc_token_proof.proofs.WrittenSends.Operations.{flat_from}
use Rattle.cjc_theorem.proofs.AlikeLaws.NamedCalls.Operations.{no_static, no_test}

-- What is promised of the calls of a package by their opcodes, as laws on each kind say it.
pub record KindsAreNamed (codes : List MethodCode) (p : Package) : Type 0 where
  pub virtuals : (class : ClassTree) (id : MemberId) → IsInsnOf p.files codes class (jop.Call 0xB6 id)
      → IsNamed (world p) (OnObject (virtual_by (world p) id (class_named (world p) id.class)))
  pub virtual_takes : (class : ClassTree) (id : MemberId) → IsInsnOf p.files codes class (jop.Call 0xB6 id)
      → TakesWords (world p) (OnObject (virtual_by (world p) id (class_named (world p) id.class)))
  pub supers : (class : ClassTree) (id : MemberId) → IsInsnOf p.files codes class (jop.Call 0xB7 id)
      → is_interface class.flags ≡ false → is_constructor id.name ≡ false → (hit : ResolvedMember)
      → method_found (world p) id ≡ Some hit → is_private hit.flags ≡ false
      → IsNamed (world p) (OnSuper (of_class class.name id))
  pub super_takes : (class : ClassTree) (id : MemberId) → IsInsnOf p.files codes class (jop.Call 0xB7 id)
      → TakesWords (world p) (OnSuper (of_class class.name id))
  pub privates : (class : ClassTree) (id : MemberId) → IsInsnOf p.files codes class (jop.Call 0xB7 id)
      → (hit : ResolvedMember) → method_found (world p) id ≡ Some hit → is_private hit.flags ≡ true
      → IsNamed (world p) (Fixed true (resolved_method (world p) id))
  pub constructors : (class : ClassTree) (id : MemberId) → IsInsnOf p.files codes class (jop.Call 0xB7 id)
      → is_constructor id.name ≡ true → IsNamed (world p) (Fixed true (resolved_method (world p) id))
  pub special_takes : (class : ClassTree) (id : MemberId) → IsInsnOf p.files codes class (jop.Call 0xB7 id)
      → TakesWords (world p) (Fixed true (resolved_method (world p) id))
  pub statics : (class : ClassTree) (id : MemberId) → IsInsnOf p.files codes class (jop.Call 0xB8 id)
      → IsNamed (world p) (Fixed false (resolved_method (world p) id))
  pub static_takes : (class : ClassTree) (id : MemberId) → IsInsnOf p.files codes class (jop.Call 0xB8 id)
      → TakesWords (world p) (Fixed false (resolved_method (world p) id))
  pub interfaces : (class : ClassTree) (id : MemberId) → IsInsnOf p.files codes class (jop.Call 0xB9 id)
      → (words : ℕ) → IsNamed (world p) (OnInterface words (resolved_method (world p) id))
  pub interface_takes : (class : ClassTree) (id : MemberId) → IsInsnOf p.files codes class (jop.Call 0xB9 id)
      → (words : ℕ) → TakesWords (world p) (OnInterface words (resolved_method (world p) id))

module _ (list : ListTree) (codes : List MethodCode) (p : Package) (is : IsOfFiles list codes p) (opcodes :
    CallsHaveOpcodes codes) (kinds : KindsAreNamed codes p) where
  abbrev w : List Class
  w = world p

  -- a call is named and takes its words
  abbrev IsFine : Callee → Type 0
  IsFine m = IsNamed w m × TakesWords w m

  fine : (m k : Callee) (o : Resolved) → o ≡ Call m → o ≡ Call k → IsFine k → IsFine m
  fine m k o e f h = let both : Call k ≡ Call m = sym f ∙ e in let same : k ≡ m = cc in subst IsFine same h

  virtual_is : (q : MemberId) → naming (meaning 0x8B) (keys.Virtual q) ≡ Call (OnObject q)
  unfolding meaning
  virtual_is q = refl

  super_is : (q : MemberId) → naming (meaning 0x8C) (keys.Super q) ≡ Call (OnSuper q)
  unfolding meaning
  super_is q = refl

  special_is : (q : MemberId) → naming (meaning 0x8C) (keys.StaticMethod q) ≡ Call (Fixed true q)
  unfolding meaning
  special_is q = refl

  static_is : (q : MemberId) → naming (meaning 0x8D) (keys.StaticMethod q) ≡ Call (Fixed false q)
  unfolding meaning
  static_is q = refl

  module _ (class : ClassTree) (class_here : is_interface class.flags ≡ false) where
    -- what an invokespecial calls
    special_fine : (id : MemberId) → IsInsnOf p.files codes class (jop.Call 0xB7 id) → (m : Callee)
        → naming (meaning 0x8C) (special_by class.name id (method_found w id)) ≡ Call m → IsFine m
    special_fine id of m e =
        let n = called list codes p is class 0xB7 id of in
        let hit : ResolvedMember = record { owner = n.owner; flags = (let a = n.at in let x = a.member in x.flags) } in
        let told : method_found w id ≡ Some hit = ap (option_and_then (method_hit w)) n.found ∙ n.hit in
        by hit told (is_constructor id.name) (is_private hit.flags) refl refl
        (ap (λ o. naming (meaning 0x8C) (special_by class.name id o)) (sym told) ∙ e)
      where
        by : (hit : ResolvedMember) → method_found w id ≡ Some hit → (a b : Bool) → is_constructor id.name ≡ a
            → is_private hit.flags ≡ b → naming (meaning 0x8C) (if a || b
            then keys.StaticMethod (by_owner id (Some hit)) else keys.Super (of_class class.name id)) ≡ Call m
            → IsFine m
        by hit told true b f g h =
            fine m (Fixed true (resolved_method w id)) _ h
            (ap (λ o. naming (meaning 0x8C) (keys.StaticMethod (by_owner id o))) (sym told)
            ∙ special_is (resolved_method w id))
            (kinds.constructors class id of f, kinds.special_takes class id of)
        by hit told false true f g h =
            fine m (Fixed true (resolved_method w id)) _ h
            (ap (λ o. naming (meaning 0x8C) (keys.StaticMethod (by_owner id o))) (sym told)
            ∙ special_is (resolved_method w id))
            (kinds.privates class id of hit told g, kinds.special_takes class id of)
        by hit told false false f g h =
            fine m (OnSuper (of_class class.name id)) _ h (super_is (of_class class.name id))
            (kinds.supers class id of class_here f hit told g, kinds.super_takes class id of)

    by_source : (near : List MemberId) (op : JOp) (i : NInsn) → IsInsnOf p.files codes class op
        → IsWrittenFor (resolution p.files near class.name) op i → (m : Callee) → operation i ≡ Call m → IsFine m
    unfolding resolution
    by_source near op i of (sources.plain none) m e = absurd (no_call i m none e)
    by_source near op i of (sources.of_static none) m e = absurd (no_static _ _ m e)
    by_source near op i of sources.of_field m e = absurd (no_field _ _ m e)
    by_source near op i of sources.of_own_field m e = absurd (no_field _ _ m e)
    by_source near op i of (sources.virtual_call {op = opcode} {m = id} is_virtual) m e =
        let at = subst (λ o. IsInsnOf p.files codes class (jop.Call o id)) is_virtual of in
        fine m (OnObject (virtual_by w id (class_named w id.class))) _ e (virtual_is _) (
          kinds.virtuals class id at,
          kinds.virtual_takes class id at,
        )
    by_source near op i of (sources.special_call {op = opcode} {m = id} is_special) m e =
        special_fine id (subst (λ o. IsInsnOf p.files codes class (jop.Call o id)) is_special of) m e
    by_source near op i of (sources.static_call {op = opcode} {m = id} no_virtual no_special no_interface) m e =
        let is_static_call = opcodes of.code of.place of.insn opcode id of.listed of.is_insn of.is_op no_virtual
        no_special no_interface in
        let at = subst (λ o. IsInsnOf p.files codes class (jop.Call o id)) is_static_call of in
        fine m (Fixed false (resolved_method w id)) _ e (static_is _) (
          kinds.statics class id at,
          kinds.static_takes class id at,
        )
    by_source near op i of (sources.interface_call {op = opcode} {m = id} is_interface_call) m e =
        let at = subst (λ o. IsInsnOf p.files codes class (jop.Call o id)) is_interface_call of in
        fine m (OnInterface _ (resolved_method w id)) _ e refl (
          kinds.interfaces class id at _,
          kinds.interface_takes class id at _,
        )
    by_source near op i of sources.of_class m e = absurd (no_class _ _ m e)
    by_source near op i of sources.of_array m e = absurd (no_class _ _ m e)
    by_source near op i of (sources.of_cast names) m e = absurd (no_test _ _ m e)
    by_source near op i of (sources.of_test names) m e = absurd (no_test _ _ m e)

    by_kind : (near : List MemberId) (i : NInsn) (m : Callee) → operation i ≡ Call m
        → HasSource p.files codes near class i → IsFine m
    by_kind near i m e (no_source none) = absurd (no_call i m none e)
    by_kind near i m e (of_insn op of written) = by_source near op i of written m e

  pub calls_named : CallsAreNamed p
  calls_named k m e =
      let method = flat_from (λ (x : LaidMethod). let code = x.code in calls_in code.insns) p.methods k m e in
      let insns = (let x = method.1 in let code = x.code in code.insns) in
      let insn = flat_from (λ (i : NInsn). callee_in (operation i)) insns method.3.0 m method.3.1 in
      let h = holder list codes p is method.0 method.1 method.2 in
      let called = is_that_call (operation insn.1) insn.3.0 m insn.3.1 in
      by_kind h.class h.no_interface (near_fields (pool p)) insn.1 m called
      (has_source list codes p is method.0 method.1 method.2 insn.0 insn.1 insn.2)
