use Rattle.std.proofs.Common.{◌≡◌, drop, map}
use Rattle.cjc_card_semantics.specs.Machine.Calls.{token_in_files}
use Rattle.cjc_card_calls.proofs.names.names.token_in_files.Given as goal

abbrev pub invariant-loop-k : goal.invariant-loop-k
invariant-loop-k l = token_in_files (map (λ c. c.now) (drop l.k l.classes)) l.id
    ≡ token_in_files (map (λ c. c.now) l.classes) l.id
