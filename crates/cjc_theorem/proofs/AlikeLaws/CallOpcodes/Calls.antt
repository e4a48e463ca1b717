-- Each call of a package was decoded from one of the four opcodes of calls.
use Rattle.std.proofs.Common.{◌≡◌, ℕ, ◌<◌, ap, ◌∙◌, sym, refl, true, false, List, [], ◌∷◌}
use Rattle.std.specs.Prelude.{All, Some, slice_get, ◌==◌}
use Rattle.std.specs.List.{AllByRecursion}
use Rattle.cjc_bytes.specs.Format.{FileSpells}
use Rattle.cjc_world.specs.ClassFile.ClassFile.{class_file}
use Rattle.cjc_world.specs.ClassFile.declared.tree.ClassTree.{ClassTree}
use Rattle.cjc_world.specs.Files.{Files}
use Rattle.std.proofs.lemmas.List.Elements.{All-contains}
use Rattle.cjc_bytes.specs.declared.fault.MemberId.{MemberId}
use Rattle.cjc_components.specs.Bytecode.declared.insn.JInsn.{JInsn}
use Rattle.cjc_components.specs.Bytecode.declared.insn.JOp.TheVariants as jop
use Rattle.cjc_components.specs.Bytecode.declared.method_code.MethodCode.{MethodCode}
use Rattle.cjc_theorem.specs.Alike.Opcodes.{CallsHaveOpcodes}
use Rattle.cjc_components.specs.Bytecode.ReadLaws.Instructions.{IsInstruction, has_opcode}
use Rattle.cjc_ncode.proofs.BytecodeDecoded.{decoded_instruction}
use Rattle.cjc_ncode.proofs.BytecodeMembers.{read_class}
use Rattle.cjc_narrow_proof.proofs.SelectedLaws.Cuts.{decoded}
use Rattle.cjc_token_proof.specs.Types.Tables.{IsOfPackage}
use Rattle.cjc_theorem.proofs.WholeRuns.Operations.{one_of}

last_is : (op : ℕ) (id : MemberId) → has_opcode (jop.Call op id) ≡ true → (op == 0xB6) ≡ false → (op == 0xB7) ≡ false
    → (op == 0xB9) ≡ false → op ≡ 0xB8
last_is op id e = one_of (λ k. (k == 0xB6) ≡ false → (k == 0xB7) ≡ false → (k == 0xB9) ≡ false → k ≡ 0xB8) op (0xB6
    ∷ 0xB7 ∷ 0xB8 ∷ 0xB9 ∷ [])
    ((λ a b c. absurd cc), ((λ a b c. absurd cc), ((λ a b c. refl), ((λ a b c. absurd cc), tt)))) e

module _ (files : Files) (codes : List MethodCode) (of_package : All (IsOfPackage files) codes)
    (classes : (n : ℕ) (c : ClassTree) → slice_get files.classes n ≡ Some c → (bytes : List ℕ)
    × AllByRecursion (λ b. b < 256) bytes × FileSpells class_file c bytes) where
  fits : (code : MethodCode) → IsOfPackage files code → (k : ℕ) (i : JInsn) → slice_get code.insns k ≡ Some i
      → IsInstruction i.op
  fits code (class, method, tree, of) k i at =
      let bytes = classes code.class class of.is_class in
      let file = read_class class bytes.0 bytes.1 bytes.2 in
      decoded_instruction class method tree code.insns (decoded files code class method tree of) file.integers
      (file.bytes code.method method tree of.is_method of.is_code) k i at

  pub have_opcodes : CallsHaveOpcodes codes
  have_opcodes code k i op id listed at call =
      let fit = fits code (All-contains (IsOfPackage files) codes code of_package listed) k i at in
      last_is op id (ap has_opcode (sym call) ∙ fit.opcode)
