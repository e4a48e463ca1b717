use Rattle.std.proofs.Common.{◌∙◌, ℕ, Bool, sym}
use Rattle.cjc_card_acts.specs.CardSemantics.Machine.Dispatch.{Hidden}
use Rattle.cjc_verify.specs.Abstracts.{any_between, is_abstract_token}
use Rattle.cjc_verify.proofs.InfosLaws.Abstracts.{any_end, any_next, any_stop}
use Rattle.cjc_verify.proofs.infos.abstracts.any_hidden.Goals as goal

pub loop-token-preserved : goal.loop-token-preserved
loop-token-preserved c =
    let test : ℕ → Bool = λ k. is_abstract_token c.args.pair.now c.args.at (Hidden 0 k) in
    any_next test c.loop-token.token 128 (any_between 0 128 test) c.loop-token-test.true
    (sym c.is_abstract_hidden.ensures ∙ c.if-is_abstract_hidden.false) c.loop-token.invariant

pub returns-then-is_abstract_hidden : goal.returns-then-is_abstract_hidden
returns-then-is_abstract_hidden c =
    let test : ℕ → Bool = λ k. is_abstract_token c.args.pair.now c.args.at (Hidden 0 k) in
    any_stop test c.loop-token.token 128 (any_between 0 128 test) c.loop-token-test.true
    (sym c.is_abstract_hidden.ensures ∙ c.if-is_abstract_hidden.true) c.loop-token.invariant

pub returns : goal.returns
returns c =
    let test : ℕ → Bool = λ k. is_abstract_token c.args.pair.now c.args.at (Hidden 0 k) in
    any_end test c.loop-token.token 128 (any_between 0 128 test) c.loop-token-test.false c.loop-token.invariant
