use Rattle.std.proofs.Common.{◌≡◌, drop}
use Rattle.cjc_card_semantics.specs.Machine.Dispatch.{dispatched_outward}
use Rattle.cjc_card_calls.specs.Files.Files.{classes_at}
use Rattle.cjc_card_calls.proofs.calls.imported.dispatched_outward.Given as goal

abbrev pub invariant-loop-class : goal.invariant-loop-class
invariant-loop-class l =
    let named = l.named in
    dispatched_outward named.name (classes_at (drop l.class-index l.line)) l.token ≡ dispatched_outward named.name
    (classes_at l.line) l.token
