-- The codes of what was read are of methods of the package.
use Rattle.std.proofs.Common.{◌≡◌, ℕ, ◌+◌, ◌≤◌, List, [], ◌∷◌, Option, Some, None, Result, Ok, Err, IfSome}
use Rattle.std.proofs.Common.{All, length, drop, refl, sym, ap, subst, ◌∙◌}
use Rattle.std.specs.Prelude.{slice_get}
use Rattle.std.specs.List.{AllByRecursion}
use Rattle.std.proofs.lemmas.List.Elements.{All-nil, All-cons, All-append}
use Rattle.cjc_bytes.specs.declared.settings.FileLine.{FileLine}
use Rattle.cjc_world.specs.ClassFile.Code.{CodeTree}
use Rattle.cjc_world.specs.ClassFile.Fits.{MethodFits, CodeFits, ClassFits}
use Rattle.cjc_world.specs.ClassFile.declared.tree.ClassTree.{ClassTree}
use Rattle.cjc_world.specs.ClassFile.declared.tree.MethodTree.{MethodTree}
use Rattle.cjc_bytes.specs.declared.breaks.BrokenAt.{BrokenAt}
use Rattle.cjc_bytes.proofs.Gets.{head_at}
use Rattle.cjc_clinit.specs.Bytecode.Decoded.{decoding, of_code, of_method, decoding_at}
use Rattle.cjc_clinit.specs.Bytecode.declared.insn.JInsn.{JInsn}
use Rattle.cjc_narrow.specs.Types.Tables.{IsOfPackage}
use Rattle.cjc_world.specs.Files.{Files}
use Rattle.cjc_clinit.specs.Bytecode.PackageCodes.{code_with, where_code, of_methods, of_classes, all_codes}
use Rattle.cjc_judge.specs.Spelt.{FileTree, of_class, of_export, classes_of}
use Rattle.cjc_judge.specs.Trees.{AllSpelt}

-- each class keeps to the widths of its fields
pub all_fit : (lines : List FileLine) (files : List (List ℕ)) (trees : List FileTree) {classes : List ClassTree}
    → classes ≡ classes_of trees → AllSpelt lines files trees → AllByRecursion ClassFits classes
all_fit lines files trees {classes} is all = subst (AllByRecursion ClassFits) (sym is) (by lines files trees all)
  where
    by : (lines : List FileLine) (files : List (List ℕ)) (trees : List FileTree) → AllSpelt lines files trees
        → AllByRecursion ClassFits (classes_of trees)
    by [] files [] all = tt
    by [] files (t ∷ ts) all = absurd (let e = all.1 in cc)
    by (l ∷ ls) [] trees all = absurd all
    by (l ∷ ls) (b ∷ bs) [] all = absurd all
    by (l ∷ ls) (b ∷ bs) (of_class t ∷ ts) all = (all.0.3, by ls bs ts all.1)
    by (l ∷ ls) (b ∷ bs) (of_export t ∷ ts) all = by ls bs ts all.1

module _ (files : Files) where
  module _ (class : ℕ) (tree : ClassTree) (is_class : slice_get files.classes class ≡ Some tree) where
    code_is : (k : ℕ) (m : MethodTree) (code : CodeTree) → slice_get tree.methods k ≡ Some m → m.code ≡ Some code
        → length code.bytes ≤ 65535 → (r : Result (List JInsn) BrokenAt) → decoding tree m code ≡ r
        → All (IsOfPackage files) (code_with class k r)
    code_is k m code at has short (Err b) is = All-nil (IsOfPackage files)
    code_is k m code at has short (Ok insns) is =
        let decoded : decoding_at tree k ≡ Ok insns = ap (of_method tree) at ∙ ap (of_code tree m) has ∙ is in
        All-cons (IsOfPackage files) _ [] (
          tree,
          m,
          code,
          record {
            is_class = is_class;
            is_method = at;
            is_code = has;
            bytes = short;
            insns = decoded;
          },
        ) (All-nil (IsOfPackage files))

    method_is : (k : ℕ) (m : MethodTree) (o : Option CodeTree) → slice_get tree.methods k ≡ Some m → m.code ≡ o
        → IfSome o CodeFits → All (IsOfPackage files) (where_code (code_with class k) tree m o)
    method_is k m None at has fits = All-nil (IsOfPackage files)
    method_is k m (Some code) at has fits = code_is k m code at has fits.bytes (decoding tree m code) refl

    methods_are : (k : ℕ) (ms : List MethodTree) → drop k tree.methods ≡ ms → AllByRecursion MethodFits ms
        → All (IsOfPackage files) (of_methods code_with class k tree ms)
    methods_are k [] e fits = All-nil (IsOfPackage files)
    methods_are k (m ∷ ms) e fits =
        let b = head_at tree.methods k m ms e in
        All-append (IsOfPackage files) _ _ (method_is k m m.code b.0 refl fits.0.code) (methods_are (k + 1) ms b.1
        fits.1)

  classes_are : (n : ℕ) (cs : List ClassTree) → drop n files.classes ≡ cs → AllByRecursion ClassFits cs
      → All (IsOfPackage files) (of_classes code_with n cs)
  classes_are n [] e fits = All-nil (IsOfPackage files)
  classes_are n (c ∷ cs) e fits =
      let b = head_at files.classes n c cs e in
      All-append (IsOfPackage files) _ _ (methods_are n c b.0 0 c.methods refl fits.0.methods) (classes_are (n + 1) cs
      b.1 fits.1)

  pub all_of_package : AllByRecursion ClassFits files.classes → All (IsOfPackage files) (all_codes files.classes)
  all_of_package fits = classes_are 0 files.classes refl fits
