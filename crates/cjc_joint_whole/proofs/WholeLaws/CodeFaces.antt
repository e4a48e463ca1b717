-- What the code of a package calls by invokeinterface it finds by itself, by the interface that declares it: a method
-- at which selection may end, and neither a constructor nor an initialiser.
use Rattle.std.proofs.Common.{◌≡◌, ℕ, refl, sym, ap, subst, ◌∙◌, Bool, true, false, List}
use Rattle.std.specs.Prelude.{◌||◌, ◌==◌, Some}
use Rattle.cjc_bytes.specs.declared.fault.MemberId.{MemberId}
use Rattle.cjc_bytes.proofs.Bools.{both_back}
use Rattle.cjc_bytes.proofs.Gets.{any_at}
use Rattle.cjc_components.specs.Bytecode.declared.insn.JOp.{JOp}
use Rattle.cjc_components.specs.Bytecode.declared.insn.JOp.TheVariants as jop
use Rattle.cjc_components.specs.Bytecode.declared.method_code.MethodCode.{MethodCode}
use Rattle.cjc_components.specs.Package.{LaidMethod, Package, pool, world}
use Rattle.cjc_jvm_semantics.specs.OnePackage.{is_constructor, is_initialiser}
use Rattle.cjc_narrow_proof.specs.Laws.Unbroken.{IsInsnOf}
use Rattle.cjc_narrow_proof.specs.Sources as sources
use Rattle.cjc_narrow_proof.specs.Sources.{IsWrittenFor}
use Rattle.cjc_shape_proof.specs.Written.Checked.{IsOfFiles}
use Rattle.cjc_theorem.proofs.AlikeLaws.NamedCalls.Operations.{is_that_call, no_call, no_class, no_field}
use Rattle.cjc_theorem.proofs.AlikeLaws.NamedCalls.Operations.{no_static, no_test}
use Rattle.cjc_theorem.proofs.AlikeLaws.NamedLaws.Names.{Calls_method, called}
use Rattle.cjc_theorem.proofs.AlikeLaws.NamedLaws.Sources.{HasSource, has_source, holder, no_source, of_insn}
use Rattle.cjc_token_proof.proofs.ByToken.Members.{member_tells}
use Rattle.cjc_token_proof.proofs.WrittenSends.Operations.{flat_from}
use Rattle.cjc_token_proof.specs.CardSemantics.Bytecode.Effects.{Call}
use Rattle.cjc_token_proof.specs.CardSemantics.Bytecode.Meanings.{Calls, Gets, GetsStatic, Makes, MakesReferences}
use Rattle.cjc_token_proof.specs.CardSemantics.Bytecode.Meanings.{Meaning, Puts, PutsStatic, Special, Static, Uses}
use Rattle.cjc_token_proof.specs.CardSemantics.Bytecode.Meanings.{Virtual}
use Rattle.cjc_token_proof.specs.List.Listed.{ListTree}
use Rattle.cjc_token_proof.specs.NCode.ByLabel.{Callee, Fixed, OnInterface, OnObject, OnSuper, naming, operation}
use Rattle.cjc_token_proof.specs.NCode.PoolOrder.{same_member}
use Rattle.cjc_token_proof.specs.NCode.declared.narrow.NInsn.{NInsn}
use Rattle.cjc_token_proof.specs.NCode.declared.narrow.PoolKey.{PoolKey}
use Rattle.cjc_token_proof.specs.NCode.declared.narrow.PoolKey.TheVariants as keys
use Rattle.cjc_token_proof.specs.Narrow.Rows.Resolved.{resolution, resolved_method}
use Rattle.cjc_token_proof.specs.Narrow.Rows.Selected.{near_fields}
use Rattle.cjc_token_proof.specs.WrittenSends.Named.{callee_in, calls_in, calls_of, is_called, same_call}
use Rattle.cjc_world.specs.ClassFile.declared.tree.ClassTree.{ClassTree}
use Rattle.cjc_world.specs.Classes.{Class}
use Rattle.cjc_joint_whole.specs.Selected.{NamesVirtual}

-- no key of an instruction names one
no_face_key : (how : Meaning) (key : PoolKey) (n : ℕ) (m : MemberId) → naming how key ≡ Call (OnInterface n m) → ⊥
no_face_key (Uses (Calls Virtual)) (keys.Virtual k) n m e = cc
no_face_key (Uses (Calls Special)) (keys.Super k) n m e = cc
no_face_key (Uses (Calls Special)) (keys.StaticMethod k) n m e = cc
no_face_key (Uses (Calls Static)) (keys.StaticMethod k) n m e = cc
no_face_key (Uses (Gets this letter)) (keys.Field f) n m e = cc
no_face_key (Uses (Puts this letter)) (keys.Field f) n m e = cc
no_face_key (Uses (GetsStatic letter)) (keys.StaticField f) n m e = cc
no_face_key (Uses (PutsStatic letter)) (keys.StaticField f) n m e = cc
no_face_key (Uses Makes) (keys.Class c) n m e = cc
no_face_key (Uses MakesReferences) (keys.Class c) n m e = cc
no_face_key how key n m e = cc

face_tells : (n : ℕ) (m : MemberId) (c : Callee) → same_call (OnInterface n m) c ≡ true → (k : ℕ)
    × (c ≡ OnInterface k m)
face_tells n m (Fixed on k) e = absurd (cc)
face_tells n m (OnObject k) e = absurd (cc)
face_tells n m (OnSuper k) e = absurd (cc)
face_tells n m (OnInterface k o) e =
    (k, ap (OnInterface k) (sym (member_tells m o (both_back (n == k) (same_member m o) e))))

neither : (a b : Bool) → a ≡ false → b ≡ false → (a || b) ≡ false
neither false false e f = refl
neither true b e f = absurd cc
neither false true e f = absurd cc

module _ (list : ListTree) (codes : List MethodCode) (p : Package) (is : IsOfFiles list codes p) where
  abbrev w : List Class
  w = world p

  names_face : (class : ClassTree) (id : MemberId) → IsInsnOf p.files codes class (jop.Call 0xB9 id)
      → NamesVirtual w (resolved_method w id)
  names_face class id of =
      let n : Calls_method list codes p is class 0xB9 id = called list codes p is class 0xB9 id of in
      let f = n.fits in
      subst (NamesVirtual w) (sym n.resolved) (record {
        place = n.place;
        found = n.again;
        hit = record { owner = n.owner; flags = (let a = n.at in let m = a.member in m.flags) };
        is_hit = n.hit;
        selectable = f.selectable refl refl;
        ordinary = neither (is_constructor id.name) (is_initialiser id.name) (f.no_constructor refl) f.no_initialiser;
      })

  module _ (class : ClassTree) (near : List MemberId) where
    by_source : (op : JOp) (i : NInsn) → IsInsnOf p.files codes class op
        → IsWrittenFor (resolution p.files near class.name) op i → (n : ℕ) (m : MemberId)
        → operation i ≡ Call (OnInterface n m) → NamesVirtual w m
    unfolding resolution
    by_source op i of (sources.plain none) n m e = absurd (no_call i (OnInterface n m) none e)
    by_source op i of (sources.of_static none) n m e = absurd (no_static _ _ (OnInterface n m) e)
    by_source op i of sources.of_field n m e = absurd (no_field _ _ (OnInterface n m) e)
    by_source op i of sources.of_own_field n m e = absurd (no_field _ _ (OnInterface n m) e)
    by_source op i of (sources.virtual_call same) n m e = absurd (no_face_key _ _ n m e)
    by_source op i of (sources.special_call same) n m e = absurd (no_face_key _ _ n m e)
    by_source op i of (sources.static_call no_virtual no_special no_interface) n m e = absurd (no_face_key _ _ n m e)
    by_source op i of (sources.interface_call {op = opcode} {m = id} same) n m e =
        let at = subst (λ o. IsInsnOf p.files codes class (jop.Call o id)) same of in
        subst (NamesVirtual w) (let one : resolved_method w id ≡ m = cc in one) (names_face class id at)
    by_source op i of sources.of_class n m e = absurd (no_class _ _ (OnInterface n m) e)
    by_source op i of sources.of_array n m e = absurd (no_class _ _ (OnInterface n m) e)
    by_source op i of (sources.of_cast names) n m e = absurd (no_test _ _ (OnInterface n m) e)
    by_source op i of (sources.of_test names) n m e = absurd (no_test _ _ (OnInterface n m) e)

    by_kind : (i : NInsn) (n : ℕ) (m : MemberId) → operation i ≡ Call (OnInterface n m)
        → HasSource p.files codes near class i → NamesVirtual w m
    by_kind i n m e (no_source none) = absurd (no_call i (OnInterface n m) none e)
    by_kind i n m e (of_insn op of written) = by_source op i of written n m e

  pub faces_named : (n : ℕ) (m : MemberId) → is_called p (OnInterface n m) ≡ true → NamesVirtual w m
  faces_named n m calls =
      let r = any_at (same_call (OnInterface n m)) (calls_of p) calls in
      let same = face_tells n m r.1 r.3 in
      let k = flat_from (λ (x : LaidMethod). let code = x.code in calls_in code.insns) p.methods r.0 (OnInterface same.0
      m) (r.2 ∙ ap Some same.1) in
      let insns = (let x = k.1 in let code = x.code in code.insns) in
      let i = flat_from (λ (i : NInsn). callee_in (operation i)) insns k.3.0 (OnInterface same.0 m) k.3.1 in
      let call = is_that_call (operation i.1) i.3.0 (OnInterface same.0 m) i.3.1 in
      let h = holder list codes p is k.0 k.1 k.2 in
      by_kind h.class (near_fields (pool p)) i.1 same.0 m call (has_source list codes p is k.0 k.1 k.2 i.0 i.1 i.2)
