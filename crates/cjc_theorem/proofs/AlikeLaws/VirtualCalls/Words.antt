-- The words that a virtual call takes, by the descriptor of the method that it finds.
use Rattle.std.proofs.Common.{◌≡◌, refl, sym, ap, ◌∙◌, Bool, true, false, List, map}
use Rattle.std.specs.Prelude.{◌&&◌, Option, Some, None, if◌then◌else◌}
use Rattle.cjc_bytes.specs.AccessFlags.{is_private}
use Rattle.cjc_bytes.specs.declared.fault.MemberId.{MemberId}
use Rattle.cjc_jvm_semantics.specs.OnePackage.{ResolvedMember, of_class}
use Rattle.cjc_token_proof.proofs.WorldProofOwn.{mapped_at}
use Rattle.cjc_world.specs.ClassFile.declared.tree.ClassTree.{ClassTree}
use Rattle.cjc_components.specs.Bytecode.declared.method_code.MethodCode.{MethodCode}
use Rattle.cjc_components.specs.Bytecode.declared.insn.JOp.TheVariants as jop
use Rattle.cjc_components.specs.Package.{Package, world}
use Rattle.cjc_shape_proof.specs.LowerCheckProof.Exports.{ExportsHaveOneAccess}
use Rattle.cjc_theorem.proofs.AlikeLaws.InterfaceCalls.Words.{called_signature}
use Rattle.cjc_token_proof.specs.List.Listed.{ListTree}
use Rattle.cjc_token_proof.specs.Narrow.Rows.Resolved.{by_owner, resolved_method, virtual_by}
use Rattle.cjc_narrow_proof.specs.Laws.Unbroken.{IsInsnOf}
use Rattle.cjc_ncode.specs.ByLabel.{OnObject, OnSuper}
use Rattle.cjc_token_proof.specs.Script.Sorts.{signature_of}
use Rattle.cjc_tokens.specs.Members.{In, is_exposed}
use Rattle.cjc_vtable.proofs.Filed.{IsFiled, filed, in_class_file, in_export_file}
use Rattle.cjc_world.specs.Classes.{Class, Member, class_named, method_of_export}
use Rattle.cjc_token_proof.specs.WrittenCalls.Calls.{TakesWords, super_words, virtual_words}
use Rattle.cjc_shape_proof.specs.Written.Checked.{IsOfFiles}
use Rattle.cjc_shape_proof.specs.Written.Converted.{ExportsArePlain}
use Rattle.cjc_theorem.proofs.AlikeLaws.VirtualCalls.MethodKinds.{in_get}

apart : (a b : Bool) → (a && b) ≡ false → b ≡ true → a ≡ false
apart false b e f = refl
apart true true e f = absurd cc
apart true false e f = absurd cc

-- no method of an export file is private beside public or protected
pub exports_have_one_access : (p : Package) → ExportsArePlain p.files → ExportsHaveOneAccess (world p)
exports_have_one_access p plain x c m e import i shown = by c (filed p.files x c e) import i
  where
    by : (c : Class) → IsFiled p.files c → c.is_imported ≡ true → In m c.methods → is_private m.flags ≡ false
    by c (in_class_file n t at) import i = absurd cc
    by c (in_export_file n t at) import i =
        let k = in_get m (map method_of_export t.methods) i in
        let y = mapped_at method_of_export t.methods k.0 m k.1 in
        let q = y.0 in
        ap (λ (v : Member). is_private v.flags) y.2
        ∙ apart (is_private q.flags) (is_exposed q.flags) (plain.visible n t at k.0 q y.1)
        (ap (λ (v : Member). is_exposed v.flags) (sym y.2) ∙ shown)

module _ (list : ListTree) (codes : List MethodCode) (p : Package) (is : IsOfFiles list codes p) (class : ClassTree)
    (id : MemberId) where
  owner_desc : (o : Option ResolvedMember) → (by_owner id o).desc ≡ id.desc
  owner_desc None = refl
  owner_desc (Some hit) = refl

  key_desc : (o : Option Class) → (virtual_by (world p) id o).desc ≡ id.desc
  key_desc None = owner_desc _
  key_desc (Some c) = by c.is_imported
    where
      by : (b : Bool) → (if b then resolved_method (world p) id else id).desc ≡ id.desc
      by true = owner_desc _
      by false = refl

  pub virtual_takes : IsInsnOf p.files codes class (jop.Call 0xB6 id)
      → TakesWords (world p) (OnObject (virtual_by (world p) id (class_named (world p) id.class)))
  virtual_takes of = let s = called_signature list codes p is class id 0xB6 of in virtual_words s.0
      (ap signature_of (key_desc (class_named (world p) id.class)) ∙ s.1)

  pub super_takes : IsInsnOf p.files codes class (jop.Call 0xB7 id)
      → TakesWords (world p) (OnSuper (of_class class.name id))
  super_takes of = let s = called_signature list codes p is class id 0xB7 of in super_words s.0 s.1
