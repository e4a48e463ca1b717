-- Code with a byte has an instruction.
use Rattle.std.proofs.Common.{◌≡◌, ◌<◌, refl, ap, subst, ◌∙◌, arith, List, [], ◌∷◌, length}
use Rattle.std.proofs.lemmas.List.{length-map}
use Rattle.cjc_code.specs.ClassFile.Code.{CodeTree}
use Rattle.cjc_code.specs.ClassFile.declared.tree.ClassTree.{ClassTree}
use Rattle.cjc_code.specs.ClassFile.declared.tree.MethodTree.{MethodTree}
use Rattle.cjc_code.specs.Cut.{IsCutFrom, cut}
use Rattle.cjc_code.specs.Rules.{stopped, with_names}
use Rattle.cjc_code.specs.declared.method_code.MethodCode.{MethodCode}
use Rattle.cjc_code.proofs.OneCut.{is_cut}
use Rattle.cjc_narrow_proof.proofs.SelectedLaws.Cuts.{decoded}
use Rattle.cjc_types.specs.Tables.{IsMethodOf}
use Rattle.cjc_world.specs.Files.{Files}

pub some_insns : (files : Files) (code : MethodCode) (class : ClassTree) (method : MethodTree) (tree : CodeTree)
    → IsMethodOf files code class method tree → 0 < length tree.bytes → 0 < length code.insns
unfolding IsCutFrom
some_insns files code class method tree is some = by (cut tree.bytes).insns refl
  where
    by : (insns : List _) → (cut tree.bytes).insns ≡ insns → 0 < length code.insns
    by [] e =
        let ended : IsCutFrom 0 tree.bytes [] (cut tree.bytes).stop =
        subst (λ insns. IsCutFrom 0 tree.bytes insns (cut tree.bytes).stop) e (is_cut tree.bytes) in
        let at : (cut tree.bytes).stop ≡ 0 = ended.0 in
        let told = decoded files code class method tree is in
        absurd (told.fit (cut tree.bytes).stop (stopped (omega (arith, some, at))))
    by (i ∷ insns) e =
        let told = decoded files code class method tree is in
        let many : length code.insns ≡ length (i ∷ insns) = ap length told.insns_are
        ∙ length-map (cut tree.bytes).insns (with_names class.pool) ∙ ap length e in
        omega (arith, many)
