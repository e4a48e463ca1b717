-- A private method that code calls is one that calls can name, by the class that declares it.
use Rattle.std.proofs.Common.{◌≡◌, refl, sym, ap, subst, ◌∙◌, Bool, true, false, List}
use Rattle.std.specs.Prelude.{◌||◌, Some, option_and_then}
use Rattle.cjc_bytes.specs.AccessFlags.{is_private, is_static}
use Rattle.cjc_bytes.specs.declared.fault.MemberId.{MemberId}
use Rattle.cjc_jvm_semantics.specs.OnePackage.{ResolvedMember, is_constructor, method_hit}
use Rattle.cjc_world.specs.ClassFile.declared.tree.ClassTree.{ClassTree}
use Rattle.cjc_components.specs.Bytecode.declared.method_code.MethodCode.{MethodCode}
use Rattle.cjc_components.specs.Bytecode.declared.insn.JOp.TheVariants as jop
use Rattle.cjc_components.specs.Package.{Package, world}
use Rattle.cjc_token_proof.specs.List.Listed.{ListTree}
use Rattle.cjc_theorem.proofs.AlikeLaws.NamedLaws.Names.{called, fixed_in_class}
use Rattle.cjc_token_proof.specs.Narrow.Rows.Resolved.{method_found, resolved_method}
use Rattle.cjc_narrow_proof.specs.Laws.Unbroken.{IsInsnOf}
use Rattle.cjc_ncode.specs.ByLabel.{Fixed}
use Rattle.cjc_token_proof.specs.WrittenCalls.Calls.{IsNamed, fixed}
use Rattle.cjc_shape_proof.specs.Written.Checked.{IsOfFiles}

middle : (a b c : Bool) → b ≡ true → (a || b || c) ≡ true
middle true b c e = refl
middle false true c e = refl
middle false false c e = cc

module _ (list : ListTree) (codes : List MethodCode) (p : Package) (is : IsOfFiles list codes p) (class : ClassTree)
    (id : MemberId) where
  pub private_named : IsInsnOf p.files codes class (jop.Call 0xB7 id) → (hit : ResolvedMember)
      → method_found (world p) id ≡ Some hit → is_private hit.flags ≡ true
      → IsNamed (world p) (Fixed true (resolved_method (world p) id))
  private_named of hit found private =
      let n = called list codes p is class 0xB7 id of in
      let fits = n.fits in
      let flags = (let a = n.at in let m = a.member in m.flags) in
      let here : ResolvedMember = record { owner = n.owner; flags = flags } in
      let both : Some here ≡ Some hit = sym (ap (option_and_then (method_hit (world p))) n.found ∙ n.hit) ∙ found in
      let same : here ≡ hit = cc in
      let plain = fixed_in_class list codes p is class 0xB7 id n (middle (is_static flags) (is_private flags)
      (is_constructor id.name) (ap (λ (h : ResolvedMember). is_private h.flags) same ∙ private)) in
      subst (λ q. IsNamed (world p) (Fixed true q)) (sym n.resolved) (fixed n.owner n.place n.named plain
      fits.no_initialiser n.own)
