use Rattle.std.proofs.Common.{◌≡◌, drop}
use Rattle.cjc_world.specs.Working.Known.{class_of}
use Rattle.cjc_tokens.specs.Members.{Signature}
use Rattle.cjc_tokens.specs.Slots.{first_answer, or_next, told_in}
use Rattle.cjc_tokens.specs.Working.{token_under}
use Rattle.cjc_tokens.proofs.told.told_of.Given as goal

abbrev pub invariant-loop-class : goal.invariant-loop-class
invariant-loop-class l = (s : Signature)
    → or_next (token_under l.told s) (first_answer (λ k. told_in s (class_of k)) (drop l.class-index l.classes))
    ≡ first_answer (λ k. told_in s (class_of k)) l.classes
