use Rattle.std.proofs.Common.{◌≡◌, drop}
use Rattle.cjc_card_calls.specs.Files.Files.{classes_at}
use Rattle.cjc_verify.specs.Named.{first_of, instance_field}
use Rattle.cjc_verify.proofs.described.named.first_field.Given as goal

abbrev pub invariant-loop-class : goal.invariant-loop-class
invariant-loop-class l =
    first_of (instance_field l.token) (classes_at (drop l.class-index l.line)) ≡ first_of (instance_field l.token)
    (classes_at l.line)
