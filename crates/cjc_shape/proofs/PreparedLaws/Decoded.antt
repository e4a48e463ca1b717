-- The methods of a package that breaks neither 103 nor 303 are decoded.
use Rattle.std.proofs.Common.{◌≡◌, ℕ, zero, suc, ◌+◌, ◌≤◌, refl, sym, ap, subst, ◌∙◌, arith, ⊎_elim, List, [], ◌∷◌}
use Rattle.std.proofs.Common.{◌++◌, length}
use Rattle.std.specs.Prelude.{Option, Some, None, Result, Ok, Err, slice_get, IfSome}
use Rattle.cjc_exported.specs.Bytes.declared.breaks.BrokenAt.{BrokenAt}
use Rattle.cjc_exported.specs.Bytes.declared.settings.FileLine.{FileLine}
use Rattle.cjc_exported.specs.ClassFile.Code.{CodeTree}
use Rattle.cjc_exported.specs.ClassFile.Fits.{ClassFits, CodeFits, MethodFits}
use Rattle.cjc_exported.specs.ClassFile.declared.tree.ClassTree.{ClassTree}
use Rattle.cjc_exported.specs.ClassFile.declared.tree.MethodTree.{MethodTree}
use Rattle.cjc_methods.specs.Bytecode.Decoded.{decoding, decoding_at, of_code, of_method}
use Rattle.cjc_methods.specs.Bytecode.PackageCodes.{of_classes, where_code}
use Rattle.cjc_methods.specs.Bytecode.PackageCodes as package_codes
use Rattle.cjc_methods.specs.Bytecode.declared.insn.JInsn.{JInsn}
use Rattle.cjc_judge.specs.Codes.{all_unsupported_insns, unsupported_with}
use Rattle.cjc_judge.specs.Spelt.{FileTree, classes_of, of_class, of_export}
use Rattle.cjc_judge.specs.Trees.{AllSpelt, AreInstructions}
use Rattle.cjc_judge.proofs.Decoding.{method_rule}
use Rattle.cjc_methods.proofs.BytesGets.{all_at}

-- ---- lists

-- what stands at some place of a list
In : {A : Type 0} → A → List A → Type 0
In x xs = (p : ℕ) × (slice_get xs p ≡ Some x)

in_left : {A : Type 0} (x : A) (xs ys : List A) → In x xs → In x (xs ++ ys)
unfolding In
in_left x [] ys i = absurd (none i.0 i.1)
  where
    none : (p : ℕ) → slice_get [] p ≡ Some x → ⊥
    none p e = cc
in_left x (y ∷ xs) ys i = by i.0 i.1 (in_left x xs ys)
  where
    by : (p : ℕ) → slice_get (y ∷ xs) p ≡ Some x → (In x xs → In x (xs ++ ys)) → In x (y ∷ (xs ++ ys))
    by zero e rest = (0, e)
    by (suc p) e rest = let r = rest (p, e) in (suc r.0, r.1)

in_right : {A : Type 0} (x : A) (xs ys : List A) → In x ys → In x (xs ++ ys)
unfolding In
in_right x [] ys i = i
in_right x (y ∷ xs) ys i = let r = in_right x xs ys i in (suc r.0, r.1)

-- ---- what methods with broken code give

module _ {A : Type 0} (f : ℕ → ℕ → Result (List JInsn) BrokenAt → List A) (broken : BrokenAt) where
  in_code : (class k : ℕ) (x : A) → In x (f class k (Err broken))
      → (tree : ClassTree) (m : MethodTree) (o : Option CodeTree) → of_code tree m o ≡ Err broken
      → In x (where_code (f class k) tree m o)
  in_code class k x i tree m None e = cc
  in_code class k x i tree m (Some code) e = subst (λ r. In x (f class k r)) (sym e) i

  in_methods : (class first i : ℕ) (x : A) → In x (f class (first + i) (Err broken))
      → (tree : ClassTree) (ms : List MethodTree) (m : MethodTree) → slice_get ms i ≡ Some m → of_code tree m m.code
      ≡ Err broken
      → In x (package_codes.of_methods f class first tree ms)
  in_methods class first i x there tree [] m e g = cc
  in_methods class first zero x there tree (n ∷ ms) m e g =
      let is : n ≡ m = cc in
      let here : of_code tree n n.code ≡ Err broken = ap (λ (v : MethodTree). of_code tree v v.code) is ∙ g in
      let at : In x (f class first (Err broken)) = subst (λ k. In x (f class k (Err broken))) (let z : first + 0
      ≡ first = omega arith in z) there in
      in_left x (where_code (f class first) tree n n.code) (package_codes.of_methods f class (first + 1) tree ms)
      (in_code class first x at tree n n.code here)
  in_methods class first (suc i) x there tree (n ∷ ms) m e g =
      let at : In x (f class (first + 1 + i) (Err broken)) = subst (λ k. In x (f class k (Err broken)))
      (let z : first + suc i ≡ first + 1 + i = omega arith in z) there in
      in_right x (where_code (f class first) tree n n.code) (package_codes.of_methods f class (first + 1) tree ms)
      (in_methods class (first + 1) i x at tree ms m e g)

  in_classes : (first n i : ℕ) (x : A) → In x (f (first + n) i (Err broken))
      → (trees : List ClassTree) (tree : ClassTree) (m : MethodTree) → slice_get trees n ≡ Some tree
      → slice_get tree.methods i ≡ Some m → of_code tree m m.code ≡ Err broken
      → In x (of_classes f first trees)
  in_classes first n i x there [] tree m e g h = cc
  in_classes first zero i x there (t ∷ trees) tree m e g h =
      let is : t ≡ tree = cc in
      let own : slice_get t.methods i ≡ Some m = ap (λ (v : ClassTree). slice_get v.methods i) is ∙ g in
      let here : of_code t m m.code ≡ Err broken = ap (λ v. of_code v m m.code) is ∙ h in
      let at : In x (f first (0 + i) (Err broken)) = subst (λ k. In x (f first k (Err broken))) (let z : i
      ≡ 0 + i = omega arith in z) (subst (λ c. In x (f c i (Err broken))) (let z : first + 0 ≡ first = omega arith
      in z) there) in
      in_left x (package_codes.of_methods f first 0 t t.methods) (of_classes f (first + 1) trees)
      (in_methods first 0 i x at t t.methods m own here)
  in_classes first (suc n) i x there (t ∷ trees) tree m e g h =
      let at : In x (f (first + 1 + n) i (Err broken)) = subst (λ c. In x (f c i (Err broken))) (let z : first + suc n
      ≡ first + 1 + n = omega arith in z) there in
      in_right x (package_codes.of_methods f first 0 t t.methods) (of_classes f (first + 1) trees)
      (in_classes (first + 1) n i x at trees tree m e g h)

-- a method that breaks 303 is among all that do
pub unsupported_listed : (offset n i : ℕ) (trees : List ClassTree) (tree : ClassTree) (m : MethodTree)
    → slice_get trees n ≡ Some tree → slice_get tree.methods i ≡ Some m → of_code tree m m.code
    ≡ Err (record { rule = 303; offset = offset })
    → (p : ℕ) × (slice_get (all_unsupported_insns trees) p ≡ Some (record { class = n; method = i; offset = offset }))
unfolding In
unsupported_listed offset n i trees tree m e f g =
    let zero_more : n ≡ 0 + n = omega arith in
    in_classes unsupported_with (record { rule = 303; offset = offset }) 0 n i (record {
      class = n;
      method = i;
      offset = offset;
    })
    (subst (λ c. In (record { class = n; method = i; offset = offset }) (unsupported_with c i (Err (record {
      rule = 303;
      offset = offset;
    })))) zero_more (0, refl))
    trees tree m e f g

-- ---- what was read

pub class_read : (lines : List FileLine) (files : List (List ℕ)) (trees : List FileTree) (k : ℕ) (class : ClassTree)
    → AllSpelt lines files trees → slice_get (classes_of trees) k ≡ Some class
    → AreInstructions class × ClassFits class
class_read [] files trees k class h e = let none : trees ≡ [] = h.1
    in absurd (no_class k class (sym (ap (λ ts. slice_get (classes_of ts) k) none) ∙ e))
  where
    no_class : (k : ℕ) (class : ClassTree) → slice_get (classes_of []) k ≡ Some class → ⊥
    no_class k class e = cc
class_read (line ∷ lines) [] trees k class h e = absurd h
class_read (line ∷ lines) (bytes ∷ files) [] k class h e = absurd h
class_read (line ∷ lines) (bytes ∷ files) (of_class tree ∷ trees) zero class h e =
    let same : tree ≡ class = cc in subst (λ t. AreInstructions t × ClassFits t) same (h.0.2, h.0.3)
class_read (line ∷ lines) (bytes ∷ files) (of_class tree ∷ trees) (suc k) class h e =
    class_read lines files trees k class h.1 e
class_read (line ∷ lines) (bytes ∷ files) (of_export tree ∷ trees) k class h e = class_read lines files trees k class
    h.1 e

pub code_bytes : (class : ClassTree) (i : ℕ) (method : MethodTree) (tree : CodeTree) → ClassFits class
    → slice_get class.methods i ≡ Some method → method.code ≡ Some tree → length tree.bytes ≤ 65535
code_bytes class i method tree fits e f =
    let m = all_at MethodFits class.methods i method fits.methods e in
    let c : CodeFits tree = subst (λ o. IfSome o CodeFits) f m.code in
    c.bytes

-- An answer that is neither of these breaks is a run of instructions.
pub decoded_unless : (class : ClassTree) (i : ℕ) (method : MethodTree) (tree : CodeTree) → slice_get class.methods i
    ≡ Some method → method.code ≡ Some tree → AreInstructions class
    → ((offset : ℕ) → of_code class method method.code ≡ Err (record { rule = 303; offset = offset }) → ⊥)
    → (insns : List JInsn) × (decoding class method tree ≡ Ok insns)
decoded_unless class i method tree e f unfit unsupported = by (decoding class method tree) refl
  where
    at : decoding_at class i ≡ decoding class method tree
    at = ap (of_method class) e ∙ ap (of_code class method) f

    own : of_code class method method.code ≡ decoding class method tree
    own = ap (of_code class method) f

    whole : (b : BrokenAt) (rule : ℕ) → b.rule ≡ rule → b ≡ record { rule = rule; offset = b.offset }
    whole b rule e = ap (λ r. record { rule = r; offset = b.offset }) e

    by : (r : Result (List JInsn) BrokenAt) → decoding class method tree ≡ r → (insns : List JInsn) × (r ≡ Ok insns)
    by (Ok insns) g = (insns, refl)
    by (Err b) g = absurd (⊎_elim
        (λ rule. unfit i b.offset (at ∙ g ∙ ap (λ x. Err x) (whole b 103 rule)))
        (λ rule. unsupported b.offset (own ∙ g ∙ ap (λ x. Err x) (whole b 303 rule)))
        (method_rule class (slice_get class.methods i) b (at ∙ g)))
