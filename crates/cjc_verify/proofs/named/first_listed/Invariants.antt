use Rattle.std.proofs.Common.{◌≡◌, drop}
use Rattle.cjc_card_calls.specs.Files.Files.{classes_at}
use Rattle.cjc_card_acts.specs.CardFrame.Kinds.{method_id}
use Rattle.cjc_verify.specs.Named.{first_of, listed_as}
use Rattle.cjc_verify.proofs.named.first_listed.Given as goal

abbrev pub invariant-loop-class : goal.invariant-loop-class
invariant-loop-class l =
    first_of (listed_as (method_id l.id)) (classes_at (drop l.class-index l.line))
    ≡ first_of (listed_as (method_id l.id)) (classes_at l.line)
