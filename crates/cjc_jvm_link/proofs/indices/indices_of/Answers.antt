use Rattle.std.proofs.Common.{◌≡◌, ◌+◌, ◌++◌, ◌∷◌, [], ◌∙◌, ap, sym, subst, take}
use Rattle.std.proofs.lemmas.List.{take_more}
use Rattle.cjc_jvm_step.specs.Frame.Places.{IsIndex}
use Rattle.cjc_jvm_link.specs.Methods.{AreIndices}
use Rattle.cjc_jvm_link.proofs.Offsets.{more_indices}
use Rattle.std.proofs.Common.{◌<◌, ◌^◌, length}
use Rattle.cjc_jvm_link.proofs.indices.indices_of.Goals as goal

pub loop-code-preserved : goal.loop-code-preserved
loop-code-preserved c =
    let cs = c.args.codes.now in
    let i = c.loop-code.code-index in
    let code = c.code-item.result in
    let index = c.in_ok-index_of.field-0 in
    let seen : take (i + 1) cs ≡ take i cs ++ code ∷ [] = take_more cs i code c.loop-code-test.true
    ∙ ap (λ y. take i cs ++ y ∷ []) (sym c.code-item.is) in
    let is_index : IsIndex code.insns index = subst (λ xs. IsIndex xs index) c.items.ensures
    c.in_ok-index_of.ensures.index in
    let few : length code.insns < 2 ^ 32 = subst (λ xs. length xs < 2 ^ 32) c.items.ensures c.in_ok-index_of.ensures.few
    in
    subst (λ xs. AreIndices xs c.push.new.self) (sym seen)
    (subst (AreIndices (take i cs ++ code ∷ [])) (sym c.in_ok-push.ensures.ok) (more_indices (take i cs)
    c.loop-code.indices code index c.loop-code.invariant is_index few))
