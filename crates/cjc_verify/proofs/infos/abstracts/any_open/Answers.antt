use Rattle.std.proofs.Common.{◌∙◌, ℕ, Bool, sym}
use Rattle.cjc_card_acts.specs.CardSemantics.Machine.Dispatch.{Open}
use Rattle.cjc_verify.specs.Abstracts.{any_between, is_abstract_token}
use Rattle.cjc_verify.proofs.InfosLaws.Abstracts.{any_end, any_next, any_stop}
use Rattle.cjc_verify.proofs.infos.abstracts.any_open.Goals as goal

pub loop-token-preserved : goal.loop-token-preserved
loop-token-preserved c =
    let test : ℕ → Bool = λ k. is_abstract_token c.args.pair.now c.args.at (Open k) in
    any_next test c.loop-token.token 128 (any_between 0 128 test) c.loop-token-test.true
    (sym c.is_abstract_open.ensures ∙ c.if-is_abstract_open.false) c.loop-token.invariant

pub returns-then-is_abstract_open : goal.returns-then-is_abstract_open
returns-then-is_abstract_open c =
    let test : ℕ → Bool = λ k. is_abstract_token c.args.pair.now c.args.at (Open k) in
    any_stop test c.loop-token.token 128 (any_between 0 128 test) c.loop-token-test.true
    (sym c.is_abstract_open.ensures ∙ c.if-is_abstract_open.true) c.loop-token.invariant

pub returns : goal.returns
returns c =
    let test : ℕ → Bool = λ k. is_abstract_token c.args.pair.now c.args.at (Open k) in
    any_end test c.loop-token.token 128 (any_between 0 128 test) c.loop-token-test.false c.loop-token.invariant
