use Rattle.std.proofs.Common.{◌≡◌, ℕ}
use Rattle.cjc_card_acts.specs.CardSemantics.Machine.Dispatch.{Hidden}
use Rattle.cjc_verify.specs.Abstracts.{any_between, is_abstract_token}
use Rattle.cjc_verify.proofs.infos.abstracts.any_hidden.Given as goal

abbrev pub invariant-loop-token : goal.invariant-loop-token
invariant-loop-token l =
    any_between l.token 128 (λ (k : ℕ). is_abstract_token l.pair l.at (Hidden 0 k))
    ≡ any_between 0 128 (λ (k : ℕ). is_abstract_token l.pair l.at (Hidden 0 k))
