-- What is written for a call calls what narrow code names for it.
use Rattle.std.proofs.Common.{◌≡◌, ℕ, refl, ap, subst, [], ◌∷◌, true, false}
use Rattle.cjc_bytes.specs.declared.fault.MemberId.{MemberId}
use Rattle.cjc_code.specs.declared.insn.JOp.TheVariants as jop
use Rattle.cjc_card_semantics.specs.Bytecode.Meanings.{meaning, Virtual, Special, Static}
use Rattle.cjc_card_semantics.specs.Bytecode.Effects.{Call}
use Rattle.cjc_card_semantics.specs.Bytecode.Effects as narrow
use Rattle.cjc_ncode.specs.declared.narrow.NInsn.{NInsn}
use Rattle.cjc_ncode.specs.declared.narrow.NInsn.TheVariants as insns
use Rattle.cjc_ncode.specs.declared.narrow.PoolKey.TheVariants as keys
use Rattle.cjc_ncode.specs.Written.{Resolution, written, nargs_of}
use Rattle.cjc_ncode.specs.ByLabel.{Callee, Fixed, OnObject, OnSuper, OnInterface, Named, classes, operation, calling}
use Rattle.cjc_ncode.specs.ByLabel.{call_if}
use Rattle.cjc_jvm_semantics.specs.Linked.{Method, Linked}
use Rattle.cjc_jvm_semantics.specs.Effects.{effect}
use Rattle.cjc_narrow_proof.specs.Selection.Callees.{Names, a_static, a_direct, a_super, a_virtual, an_interface}
use Rattle.cjc_narrow_proof.specs.Selection.Callees.{CallIsWritten}

module _ (r : Resolution) where
  -- the instruction of each call
  static_does : (id method : MemberId) → r.static id ≡ keys.StaticMethod method
      → operation (insns.Named 0x8D (r.static id)) ≡ Call (Fixed false method)
  unfolding meaning
  static_does id method e = ap (λ k. call_if (calling Static k)) e

  direct_does : (id method : MemberId) → r.special id ≡ keys.StaticMethod method
      → operation (insns.Named 0x8C (r.special id)) ≡ Call (Fixed true method)
  unfolding meaning
  direct_does id method e = ap (λ k. call_if (calling Special k)) e

  super_does : (id method : MemberId) → r.special id ≡ keys.Super method → operation (insns.Named 0x8C (r.special id))
      ≡ Call (OnSuper method)
  unfolding meaning
  super_does id method e = ap (λ k. call_if (calling Special k)) e

  virtual_does : (id method : MemberId) → r.virtual id ≡ keys.Virtual method
      → operation (insns.Named 0x8B (r.virtual id)) ≡ Call (OnObject method)
  unfolding meaning
  virtual_does id method e = ap (λ k. call_if (calling Virtual k)) e

  same_insn : {a b : NInsn} → a ∷ [] ≡ b ∷ [] → a ≡ b
  same_insn e = cc

  pub call_does : (op : ℕ) (id : MemberId) (named : Callee) → Names r op id named → (place : ℕ → ℕ) (insn : NInsn)
      → written r place (jop.Call op id) ≡ insn ∷ [] → operation insn ≡ Call named
  call_does _ id _ (a_static {method = method} e) place insn is = subst (λ i. operation i ≡ Call (Fixed false method))
      (same_insn is) (static_does id method e)
  call_does _ id _ (a_direct {method = method} e) place insn is = subst (λ i. operation i ≡ Call (Fixed true method))
      (same_insn is) (direct_does id method e)
  call_does _ id _ (a_super {method = method} e) place insn is = subst (λ i. operation i ≡ Call (OnSuper method))
      (same_insn is) (super_does id method e)
  call_does _ id _ (a_virtual {method = method} e) place insn is = subst (λ i. operation i ≡ Call (OnObject method))
      (same_insn is) (virtual_does id method e)
  call_does _ id _ an_interface place insn is =
      subst (λ i. operation i ≡ Call (OnInterface (nargs_of id) (r.interface id))) (same_insn is) refl

pub call_written : (by : Linked) (l : Named) (r : Resolution) (m : Method) (op : ℕ) (id : MemberId) (named : Callee)
    → Names r op id named → CallIsWritten by l r m op id named
unfolding effect
call_written by l r m op id named names place insn is room at next vs ws locals words store memory = record {
  named_side = refl;
  narrow_side = ap (λ o. narrow.effect (classes l) o room next words memory ws) (call_does r op id named names place
      insn is);
}
