-- Each method of a package that has code has it among those of all methods.
use Rattle.std.proofs.Common.{◌≡◌, ℕ, zero, suc, ◌+◌, ap, subst, ◌∙◌, arith, List, [], ◌∷◌, ◌++◌, length}
use Rattle.std.specs.Prelude.{Some, Result, Ok, slice_get}
use Rattle.cjc_bytes.specs.declared.breaks.BrokenAt.{BrokenAt}
use Rattle.cjc_bytes.proofs.Gets.{in_front, get_behind}
use Rattle.cjc_world.specs.ClassFile.Code.{CodeTree}
use Rattle.cjc_world.specs.ClassFile.declared.tree.ClassTree.{ClassTree}
use Rattle.cjc_world.specs.ClassFile.declared.tree.MethodTree.{MethodTree}
use Rattle.cjc_components.specs.Bytecode.Decoded.{decoding}
use Rattle.cjc_components.specs.Bytecode.PackageCodes.{code_with, of_classes, of_methods, where_code}
use Rattle.cjc_components.specs.Bytecode.declared.insn.JInsn.{JInsn}

-- ---- each method with code is there

coded_method : (class k : ℕ) (t : ClassTree) (ms : List MethodTree) (j : ℕ) (m : MethodTree) (tree : CodeTree)
    (insns : List JInsn) → slice_get ms j ≡ Some m → m.code ≡ Some tree → decoding t m tree ≡ Ok insns
    → (q : ℕ) × (slice_get (of_methods code_with class k t ms) q ≡ Some (record {
      class = class;
      method = k + j;
      insns = insns;
    }))
coded_method class k t [] j m tree insns e f g = cc
coded_method class k t (x ∷ ms) zero m tree insns e f g =
    let is : x ≡ m = cc in
    let rest = of_methods code_with class (k + 1) t ms in
    let at : k ≡ k + 0 = omega arith in (
      0,
      ap (λ (y : MethodTree). slice_get (where_code (code_with class k) t y y.code ++ rest) 0) is
          ∙ ap (λ o. slice_get (where_code (code_with class k) t m o ++ rest) 0) f
          ∙ ap (λ (r : Result (List JInsn) BrokenAt). slice_get (code_with class k r ++ rest) 0) g
          ∙ ap (λ i. Some (record { class = class; method = i; insns = insns })) at,
    )
coded_method class k t (x ∷ ms) (suc j) m tree insns e f g =
    let r = coded_method class (k + 1) t ms j m tree insns e f g in
    let at : k + 1 + j ≡ k + suc j = omega arith in
    let front = where_code (code_with class k) t x x.code in (
      length front + r.0,
      get_behind front (of_methods code_with class (k + 1) t ms) r.0 ∙ r.1
          ∙ ap (λ i. Some (record { class = class; method = i; insns = insns })) at,
    )

pub coded_there : (n : ℕ) (ts : List ClassTree) (i j : ℕ) (t : ClassTree) (m : MethodTree) (tree : CodeTree)
    (insns : List JInsn) → slice_get ts i ≡ Some t → slice_get t.methods j ≡ Some m → m.code ≡ Some tree
    → decoding t m tree ≡ Ok insns
    → (q : ℕ) × (slice_get (of_classes code_with n ts) q ≡ Some (record { class = n + i; method = j; insns = insns }))
coded_there n [] i j t m tree insns e f g h = cc
coded_there n (x ∷ ts) zero j t m tree insns e f g h =
    let is : t ≡ x = cc in
    let r = coded_method n 0 t t.methods j m tree insns f g h in
    let at : n ≡ n + 0 = omega arith in
    let place : 0 + j ≡ j = omega arith in (
      r.0,
      in_front (of_methods code_with n 0 x x.methods) (of_classes code_with (n + 1) ts) r.0 (record {
        class = n;
        method = 0 + j;
        insns = insns;
      })
          (subst (λ (u : ClassTree). slice_get (of_methods code_with n 0 u u.methods) r.0 ≡ Some (record {
            class = n;
            method = 0 + j;
            insns = insns;
          })) is r.1)
          ∙ ap (λ i. Some (record { class = n; method = i; insns = insns })) place
          ∙ ap (λ i. Some (record { class = i; method = j; insns = insns })) at,
    )
coded_there n (x ∷ ts) (suc i) j t m tree insns e f g h =
    let r = coded_there (n + 1) ts i j t m tree insns e f g h in
    let at : n + 1 + i ≡ n + suc i = omega arith in
    let front = of_methods code_with n 0 x x.methods in (
      length front + r.0,
      get_behind front (of_classes code_with (n + 1) ts) r.0 ∙ r.1
          ∙ ap (λ k. Some (record { class = k; method = j; insns = insns })) at,
    )
