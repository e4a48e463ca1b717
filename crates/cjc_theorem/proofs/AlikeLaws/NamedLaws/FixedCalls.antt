-- What code calls by a class that declares it is a method that calls can name: a static method, a constructor or a
-- private one.
use Rattle.std.proofs.Common.{◌≡◌, refl, sym, ap, subst, Bool, true, false, List}
use Rattle.std.specs.Prelude.{◌||◌}
use Rattle.cjc_bytes.specs.AccessFlags.{is_private, is_static}
use Rattle.cjc_bytes.specs.declared.fault.MemberId.{MemberId}
use Rattle.cjc_jvm_semantics.specs.OnePackage.{is_constructor}
use Rattle.cjc_world.specs.ClassFile.declared.tree.ClassTree.{ClassTree}
use Rattle.cjc_components.specs.Bytecode.declared.method_code.MethodCode.{MethodCode}
use Rattle.cjc_components.specs.Bytecode.declared.insn.JOp.TheVariants as jop
use Rattle.cjc_components.specs.Package.{Package, world}
use Rattle.cjc_token_proof.specs.List.Listed.{ListTree}
use Rattle.cjc_token_proof.specs.Narrow.Rows.Resolved.{resolved_method}
use Rattle.cjc_narrow_proof.specs.Laws.Unbroken.{IsInsnOf}
use Rattle.cjc_ncode.specs.ByLabel.{Fixed}
use Rattle.cjc_theorem.proofs.AlikeLaws.NamedLaws.Names.{called, fixed_in_class}
use Rattle.cjc_token_proof.specs.WrittenCalls.Calls.{IsNamed, fixed}
use Rattle.cjc_shape_proof.specs.Written.Checked.{IsOfFiles}

module _ (list : ListTree) (codes : List MethodCode) (p : Package) (is : IsOfFiles list codes p) (class : ClassTree)
    (id : MemberId) where
  pub static_named : IsInsnOf p.files codes class (jop.Call 0xB8 id)
      → IsNamed (world p) (Fixed false (resolved_method (world p) id))
  static_named of =
      let n = called list codes p is class 0xB8 id of in
      let fits = n.fits in
      let static : is_static (let a = n.at in let m = a.member in m.flags) ≡ true = fits.of_class refl in
      let plain = fixed_in_class list codes p is class 0xB8 id n (ap (λ a. a || is_private (let a = n.at
      in let m = a.member in m.flags) || is_constructor id.name) static) in
      subst (λ q. IsNamed (world p) (Fixed false q)) (sym n.resolved) (fixed n.owner n.place n.named plain
      fits.no_initialiser n.own)

  pub constructor_named : IsInsnOf p.files codes class (jop.Call 0xB7 id) → is_constructor id.name ≡ true
      → IsNamed (world p) (Fixed true (resolved_method (world p) id))
  constructor_named of constructor =
      let n = called list codes p is class 0xB7 id of in
      let fits = n.fits in
      let plain = fixed_in_class list codes p is class 0xB7 id n (last (is_static (let a = n.at
      in let m = a.member in m.flags) || is_private (let a = n.at in let m = a.member in m.flags))
      (is_constructor id.name) constructor) in
      subst (λ q. IsNamed (world p) (Fixed true q)) (sym n.resolved) (fixed n.owner n.place n.named plain
      fits.no_initialiser n.own)
    where
      last : (a b : Bool) → b ≡ true → (a || b) ≡ true
      last true b e = refl
      last false b e = e
