-- The instructions of each method that is decoded are among those of the package.
use Rattle.std.proofs.Common.{◌≡◌, ℕ, zero, suc, ◌+◌, sym, ap, subst, ◌∙◌, arith, List, [], ◌∷◌}
use Rattle.std.specs.Prelude.{Ok, Some, slice_get}
use Rattle.cjc_world.specs.ClassFile.Code.{CodeTree}
use Rattle.cjc_world.specs.ClassFile.declared.tree.ClassTree.{ClassTree}
use Rattle.cjc_world.specs.ClassFile.declared.tree.MethodTree.{MethodTree}
use Rattle.cjc_components.specs.Bytecode.Decoded.{decoding}
use Rattle.cjc_components.specs.Bytecode.PackageCodes.{code_with, of_classes, of_methods, where_code}
use Rattle.cjc_components.specs.Bytecode.declared.insn.JInsn.{JInsn}
use Rattle.cjc_components.specs.Bytecode.declared.method_code.MethodCode.{MethodCode}
use Rattle.cjc_token_proof.proofs.TablesLaws.Filed.{has-back, has-front}
use Rattle.cjc_vtable.proofs.Filed.{Has, at_front}

module _ (m : MethodTree) (tree : CodeTree) (insns : List JInsn) (is_tree : m.code ≡ Some tree) where
  abbrev code : ℕ → ℕ → MethodCode
  code n i = record { class = n; method = i; insns = insns }

  in_methods : (n first i : ℕ) (c : ClassTree) (ms : List MethodTree) → slice_get ms i ≡ Some m
      → decoding c m tree ≡ Ok insns → Has (code n (first + i)) (of_methods code_with n first c ms)
  in_methods n first i c [] e d = absurd cc
  in_methods n first zero c (x ∷ ms) e d =
      let same : x ≡ m = cc in
      let here : first + 0 ≡ first = omega arith in
      let one : where_code (code_with n first) c x x.code ≡ code n first ∷ [] =
      ap (λ (v : MethodTree). where_code (code_with n first) c v v.code) same ∙ ap (where_code (code_with n first) c m)
      is_tree ∙ ap (code_with n first) d in
      has-front (code n (first + 0)) (where_code (code_with n first) c x x.code) (of_methods code_with n (first + 1) c
      ms)
      (subst (λ k. Has (code n k) (where_code (code_with n first) c x x.code)) (sym here) (subst (Has (code n first))
      (sym one) at_front))
  in_methods n first (suc i) c (x ∷ ms) e d =
      let next : first + 1 + i ≡ first + suc i = omega arith in
      has-back (code n (first + suc i)) (where_code (code_with n first) c x x.code) (of_methods code_with n (first + 1)
      c ms)
      (subst (λ k. Has (code n k) (of_methods code_with n (first + 1) c ms)) next (in_methods n (first + 1) i c ms e d))

  pub in_classes : (first n i : ℕ) (c : ClassTree) (cs : List ClassTree) → slice_get cs n ≡ Some c
      → slice_get c.methods i ≡ Some m → decoding c m tree ≡ Ok insns
      → Has (code (first + n) i) (of_classes code_with first cs)
  in_classes first n i c [] e f d = absurd cc
  in_classes first zero i c (x ∷ cs) e f d =
      let same : x ≡ c = cc in
      let here : first + 0 ≡ first = omega arith in
      let place : 0 + i ≡ i = omega arith in
      has-front (code (first + 0) i) (of_methods code_with first 0 x x.methods) (of_classes code_with (first + 1) cs)
      (subst (λ k. Has (code k i) (of_methods code_with first 0 x x.methods)) (sym here)
      (subst (λ k. Has (code first k) (of_methods code_with first 0 x x.methods)) place
      (in_methods first 0 i x x.methods (ap (λ (v : ClassTree). slice_get v.methods i) same
      ∙ f) (ap (λ v. decoding v m tree) same ∙ d))))
  in_classes first (suc n) i c (x ∷ cs) e f d =
      let next : first + 1 + n ≡ first + suc n = omega arith in
      has-back (code (first + suc n) i) (of_methods code_with first 0 x x.methods) (of_classes code_with (first + 1) cs)
      (subst (λ k. Has (code k i) (of_classes code_with (first + 1) cs)) next (in_classes (first + 1) n i c cs e f d))
