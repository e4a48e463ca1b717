use Rattle.std.proofs.Common.{◌≡◌, ◌∙◌, sym, ap}
use Rattle.std.specs.Prelude.{Option, Ok, Err}
use Rattle.cjc_clinit.specs.declared.stage.Wrong.{Wrong}
use Rattle.cjc_clinit.specs.Reading.{after_code}
use Rattle.cjc_clinit.specs.Working.{puts, puts_as}
use Rattle.cjc_clinit.proofs.Walks.{codes-next, codes-end}
use Rattle.cjc_clinit.proofs.puts.after_codes.Goals as goal

pub returns-in-Some : goal.returns-in-Some
returns-in-Some c =
    let before = puts c.loop-code.rows c.loop-code.arrays in
    let e : after_code c.args.world.now before c.code-item.result ≡ Err c.in-Some.wrong = c.in_ok-after_code.ensures ∙ ap (λ (q : Option Wrong). puts_as q (puts c.after_code.new.rows c.after_code.new.arrays)) c.in-Some.is in
    sym c.loop-code.invariant ∙ codes-next c.args.world.now c.args.codes.now c.loop-code.code-index c.code-item.result before (Err c.in-Some.wrong) c.loop-code-test.true c.code-item.is e

pub loop-code-preserved : goal.loop-code-preserved
loop-code-preserved c =
    let before = puts c.loop-code.rows c.loop-code.arrays in
    let later = puts c.after_code.new.rows c.after_code.new.arrays in
    let e : after_code c.args.world.now before c.code-item.result ≡ Ok later = c.in_ok-after_code.ensures ∙ ap (λ (q : Option Wrong). puts_as q later) c.in-None.is in
    sym (codes-next c.args.world.now c.args.codes.now c.loop-code.code-index c.code-item.result before (Ok later) c.loop-code-test.true c.code-item.is e) ∙ c.loop-code.invariant

pub returns : goal.returns
returns c = sym c.loop-code.invariant ∙ codes-end c.args.world.now c.args.codes.now c.loop-code.code-index (puts c.loop-code.rows c.loop-code.arrays) c.loop-code-test.false
