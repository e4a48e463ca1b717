-- The words that a call takes, by the descriptor of the method that it finds.
use Rattle.std.proofs.Common.{◌≡◌, ℕ, refl, sym, ap, subst, ◌∙◌, Bool, true, false, not, List, map}
use Rattle.std.specs.Prelude.{None, Some, option_and_then, if◌then◌else◌}
use Rattle.cjc_bytes.specs.AccessFlags.{is_static}
use Rattle.cjc_bytes.specs.declared.fault.MemberId.{MemberId}
use Rattle.cjc_jvm_semantics.specs.OnePackage.{method_hit}
use Rattle.cjc_world.specs.ClassFile.declared.tree.ClassTree.{ClassTree}
use Rattle.cjc_components.specs.Bytecode.declared.method_code.MethodCode.{MethodCode}
use Rattle.cjc_components.specs.Bytecode.declared.insn.JOp.TheVariants as jop
use Rattle.cjc_components.specs.Package.{Package, world}
use Rattle.cjc_token_proof.specs.List.Listed.{ListTree}
use Rattle.cjc_theorem.proofs.AlikeLaws.NamedLaws.Names.{Calls_method, called}
use Rattle.cjc_token_proof.specs.Narrow.Rows.Package.{flags_of}
use Rattle.cjc_token_proof.specs.Narrow.Rows.Resolved.{resolved_method}
use Rattle.cjc_shape_proof.proofs.FindsLaws.Descs.{member_desc}
use Rattle.cjc_narrow_proof.specs.Laws.Unbroken.{IsInsnOf}
use Rattle.cjc_ncode.specs.ByLabel.{Fixed}
use Rattle.cjc_token_proof.specs.Script.Sorts.{Signature, result_by, signature_by, signature_of, sort_of}
use Rattle.cjc_token_proof.specs.WrittenCalls.Calls.{TakesWords, fixed_words}
use Rattle.cjc_shape_proof.proofs.WrittenLaws.Checked.{read_files}
use Rattle.cjc_shape_proof.specs.Written.Checked.{IsOfFiles}

module _ (list : ListTree) (codes : List MethodCode) (p : Package) (is : IsOfFiles list codes p) (class : ClassTree)
    (id : MemberId) where
  -- what is called is named by a method's descriptor
  pub called_signature : (op : ℕ) → IsInsnOf p.files codes class (jop.Call op id) → (s : Signature)
      × (signature_of id.desc ≡ Some s)
  called_signature op of =
      let n = called list codes p is class op id of in
      let at = n.at in
      let desc = (member_desc p.files (read_files list codes p is.checked) n.owner n.named at.place at.member
      at.is_member).0 in
      let parts = desc.0 in
      let s : Signature = record {
        params = map sort_of parts.params;
        result = (let r = parts.result
            in result_by r.kind r);
      } in (
        s,
        sym (ap signature_of at.has_desc) ∙ ap (option_and_then signature_by) desc.1 ∙ ap (λ b. if b then Some s
            else None) desc.2,
      )

  fixed_takes : (op : ℕ) → IsInsnOf p.files codes class (jop.Call op id)
      → (n : Calls_method list codes p is class op id) → (on : Bool)
      → on ≡ not (is_static (let a = n.at in let m = a.member in m.flags))
      → TakesWords (world p) (Fixed on (resolved_method (world p) id))
  fixed_takes op of n on has =
      let s = called_signature op of in
      let flags = ap flags_of (ap (option_and_then (method_hit (world p))) n.again ∙ n.hit) in
      subst (λ q. TakesWords (world p) (Fixed on q)) (sym n.resolved) (fixed_words s.0 s.1 (has
      ∙ sym (ap (λ f. not (is_static f)) flags)))

  pub static_takes : IsInsnOf p.files codes class (jop.Call 0xB8 id)
      → TakesWords (world p) (Fixed false (resolved_method (world p) id))
  static_takes of =
      let n = called list codes p is class 0xB8 id of in
      let fits = n.fits in
      fixed_takes 0xB8 of n false (ap not (sym (fits.of_class refl)))

  pub special_takes : IsInsnOf p.files codes class (jop.Call 0xB7 id)
      → TakesWords (world p) (Fixed true (resolved_method (world p) id))
  special_takes of =
      let n = called list codes p is class 0xB7 id of in
      let fits = n.fits in
      fixed_takes 0xB7 of n true (ap not (sym (fits.on_object refl)))
