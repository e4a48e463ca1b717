use Rattle.std.proofs.Common.{◌≡◌, drop}
use Rattle.cjc_world.specs.Classes.{method_of_export}
use Rattle.cjc_tokens.specs.Members.{Signature}
use Rattle.cjc_tokens.specs.Slots.{first_answer, or_next, told_by}
use Rattle.cjc_tokens.specs.Working.{token_under}
use Rattle.cjc_tokens.proofs.told.Told.note_methods.Given as goal

abbrev pub invariant-loop-method : goal.invariant-loop-method
invariant-loop-method l = (s : Signature)
    → or_next (token_under l.self s) (first_answer (λ m. told_by s (method_of_export m))
    (drop l.method-index l.methods))
    ≡ or_next (token_under l.fn.self s) (first_answer (λ m. told_by s (method_of_export m)) l.methods)
