use Rattle.std.proofs.Common.{ap, ◌∙◌}
use Rattle.cjc_jvm_semantics.specs.Machine.{spend, after_fetch}
use Rattle.cjc_jvm_semantics.proofs.Turns.{at_frame, as_begun}
use Rattle.cjc_jvm_semantics.proofs.turns_follow_effects.Goals as goal

pub returns-clause-made : goal.returns-clause-made
returns-clause-made c = λ l f outer s i frames there. at_frame l f outer s frames
    ∙ ap (λ o. spend l (after_fetch l o f outer s)) there

pub returns-clause-no_instruction : goal.returns-clause-no_instruction
returns-clause-no_instruction c = λ l f outer s frames there. at_frame l f outer s frames
    ∙ ap (λ o. spend l (after_fetch l o f outer s)) there

pub returns-clause-begun : goal.returns-clause-begun
returns-clause-begun c = λ l f outer s t begins frames. as_begun l f outer s t begins frames
