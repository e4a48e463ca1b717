-- The instructions of the class files' methods that are written are those that were decoded and tested.
use Rattle.std.proofs.Common.{◌≡◌, ℕ, ◌+◌, ◌-◌, refl, sym, ap, subst, ◌∙◌, arith, List, [], length}
use Rattle.std.specs.Prelude.{Option, Some, None, option_and_then, option_map, slice_get, if◌then◌else◌}
use Rattle.std.specs.List.{Contains}
use Rattle.std.proofs.lemmas.Option.{get_or_from_slice_get, slice_get_within}
use Rattle.cjc_jvm_semantics.specs.Linked.{Method}
use Rattle.cjc_jvm_semantics.specs.OnePackage.{method_at, method_by, method_in}
use Rattle.cjc_world.specs.ClassFile.Code.{CodeTree}
use Rattle.cjc_world.specs.ClassFile.declared.tree.ClassTree.{ClassTree}
use Rattle.cjc_world.specs.ClassFile.declared.tree.MethodTree.{MethodTree}
use Rattle.cjc_components.specs.Bytecode.Decoded.{decoded, insns_of, of_code, of_method}
use Rattle.cjc_components.specs.Bytecode.PackageCodes.{all_codes}
use Rattle.cjc_components.specs.Bytecode.declared.insn.JInsn.{JInsn}
use Rattle.cjc_components.specs.Bytecode.declared.method_code.MethodCode.{MethodCode}
use Rattle.cjc_components.specs.Package.{LaidMethod, Package}
use Rattle.cjc_shape_proof.specs.LowerJudge.declared.judged.Judged.{Judged}
use Rattle.cjc_token_proof.specs.List.Listed.{ListTree}
use Rattle.cjc_theorem.proofs.AlikeLaws.NamedLaws.Sources.{HasHolder, holder}
use Rattle.cjc_narrow_proof.specs.Laws.Unbroken.{IsInsnOf}
use Rattle.cjc_shape_proof.proofs.ShapeSound.{are_ready}
use Rattle.cjc_token_proof.specs.Types.Tables.{IsMethodOf}
use Rattle.cjc_world.specs.declared.found.Found.{Found}
use Rattle.cjc_world.specs.Files.{Files}
use Rattle.cjc_shape_proof.proofs.WrittenLaws.Files.{same_files}
use Rattle.cjc_shape_proof.proofs.WrittenLaws.Places.{coded_there}
use Rattle.cjc_shape_proof.specs.Written.Converted.{IsConverted}

module _ (list : ListTree) (files : List (List ℕ)) (judged : Judged) (p : Package) (is : IsConverted list files judged
    p) where
  -- the code of a method is among those of the package
  listed : (code : MethodCode) (class : ClassTree) (method : MethodTree) (tree : CodeTree)
      → IsMethodOf p.files code class method tree → Contains judged.codes code
  listed code class method tree of =
      let ready = are_ready list files judged is.sound in
      let all = all_codes (let w = p.files in w.classes) in
      let codes_are : judged.codes ≡ all = ready.codes_are
      ∙ sym (ap (λ (w : Files). all_codes w.classes) (same_files list files judged p is)) in
      let at = coded_there 0 (let w = p.files in w.classes) code.class code.method class method tree code.insns
      of.is_class of.is_method of.is_code
      (sym (ap (of_code class method) of.is_code) ∙ sym (ap (of_method class) of.is_method) ∙ of.insns) in
      let number : 0 + code.class ≡ code.class = omega arith in
      let there : slice_get all at.0 ≡ Some code = at.1
      ∙ ap (λ k. Some (record { class = k; method = code.method; insns = code.insns })) number in
      subst (λ cs. Contains cs code) (sym codes_are) (
        at.0,
        slice_get_within all at.0 code there,
        get_or_from_slice_get all at.0 code code there,
      )

  pub insn_of : (k : ℕ) (m : LaidMethod) (e : slice_get p.methods k ≡ Some m) (from : Method)
      → method_at p.files m.member ≡ Some from → (j : ℕ) (i : JInsn) → slice_get from.insns j ≡ Some i
      → IsInsnOf p.files judged.codes (let h = holder list files judged p is k m e in h.class) i.op
  unfolding decoded
  insn_of k m e from known j i there = go (slice_get (let u = h.class in u.methods) n) refl
    where
      h : HasHolder list files judged p is m
      h = holder list files judged p is k m e

      f : Found
      f = m.member

      n : ℕ
      n = f.member - length (let u = h.class in u.fields)

      at_tree : (x : Option MethodTree) → slice_get (let u = h.class in u.methods) n ≡ x
          → method_at p.files f ≡ option_map (λ (y : MethodTree). method_by h.class y y.code) x
      at_tree x g =
          ap (λ b. if b then None else option_and_then (method_in f.member) (let w = p.files
          in slice_get w.classes f.class)) h.own
          ∙ ap (option_and_then (method_in f.member)) h.is_class
          ∙ ap (option_map (λ (y : MethodTree). method_by h.class y y.code)) g

      by : (x : MethodTree) → slice_get (let u = h.class in u.methods) n ≡ Some x → (o : Option CodeTree) → x.code ≡ o
          → IsInsnOf p.files judged.codes h.class i.op
      by x g None c =
          let both : Some (method_by h.class x None) ≡ Some from = sym (at_tree (Some x) g
          ∙ ap (λ o. Some (method_by h.class x o)) c) ∙ known in
          let same : method_by h.class x None ≡ from = cc in
          let none : slice_get [] j ≡ Some i = ap (λ (q : Method). slice_get q.insns j) same ∙ there in
          cc
      by x g (Some tree) c =
          let ready = are_ready list files judged is.sound in
          let d = ready.decoded f.class n h.class x tree (ap (λ (w : Files). slice_get w.classes f.class)
          (sym (same_files list files judged p is)) ∙ h.is_class) g c in
          let both : Some (method_by h.class x (Some tree)) ≡ Some from = sym (at_tree (Some x) g
          ∙ ap (λ o. Some (method_by h.class x o)) c) ∙ known in
          let same : method_by h.class x (Some tree) ≡ from = cc in
          let code : MethodCode = record { class = f.class; method = n; insns = d.insns } in
          let of : IsMethodOf p.files code h.class x tree = record {
            is_class = h.is_class;
            is_method = g;
            is_code = c;
            bytes = d.bytes;
            insns = ap (of_method h.class) g ∙ ap (of_code h.class x) c ∙ d.decodes;
          } in
          record {
            code = code;
            method = x;
            tree = tree;
            of_package = of;
            listed = listed code h.class x tree of;
            place = j;
            insn = i;
            is_insn = ap (λ is. slice_get is j) (sym (ap insns_of d.decodes)) ∙ ap (λ (q : Method). slice_get q.insns j)
                same ∙ there;
            is_op = refl;
          }

      go : (o : Option MethodTree) → slice_get (let u = h.class in u.methods) n ≡ o
          → IsInsnOf p.files judged.codes h.class i.op
      go None g = let clash : None ≡ Some from = sym (at_tree None g) ∙ known in cc
      go (Some x) g = by x g x.code refl
