use Rattle.std.proofs.Common.{◌≡◌, ◌∙◌, refl, sym, take, drop}
use Rattle.std.specs.Prelude.{Ok, option_map}
use Rattle.cjc_bytes.specs.Breaks.{each}
use Rattle.cjc_bytes.specs.Told.{break_of}
use Rattle.cjc_bytes.proofs.Firsts.{each_none, each_more, each_all}
use Rattle.cjc_bytes.proofs.Options.{mapped_2}
use Rattle.cjc_subset.specs.LowerBytecode.declared.method_code.MethodCode.{MethodCode}
use Rattle.cjc_clinit.specs.Working.Reading.{after_code, after_codes, code_breaks, puts}
use Rattle.cjc_clinit.proofs.Effects.{joining}
use Rattle.cjc_clinit.proofs.Walks.{codes-next, codes-end}
use Rattle.cjc_clinit.proofs.breaks.codes_break.Goals as goal

pub loop-code-init : goal.loop-code-init
loop-code-init c = (each_none (λ _ (x : MethodCode). code_breaks c.args.world.now x) c.args.codes.now, refl)

pub loop-code-preserved : goal.loop-code-preserved
loop-code-preserved c =
    let w = c.args.world.now in
    let codes = c.args.codes.now in
    let i = c.loop-code.code-index in
    let x = c.code-item.result in
    let before = puts c.loop-code.rows c.loop-code.arrays in
    let later = puts c.code_break.new.rows c.code_break.new.arrays in
    let all = c.first-least.ensures (each (λ _ code. code_breaks w code) (take i codes)) (code_breaks w x)
    c.loop-code.invariant.0 c.in_ok-broken.ensures.first in (
      each_more (λ _ (y : MethodCode). code_breaks w y) i codes x (option_map break_of c.first-least.result)
          c.loop-code-test.true c.code-item.is all,
      joining break_of (each (λ _ code. code_breaks w code) (take i codes)) (code_breaks w x) c.loop-code.least
          c.in_ok-broken.broken c.first-least.result _ _ _ c.loop-code.invariant.0 c.in_ok-broken.ensures.first all
          (λ (p : after_codes w before (drop i codes) ≡ after_codes w (puts c.args.rows.now c.args.arrays.now) codes)
          (q : after_code w before x ≡ Ok later). sym (codes-next w codes i x before
          (Ok later) c.loop-code-test.true c.code-item.is q) ∙ p)
          c.loop-code.invariant.1 c.in_ok-broken.ensures.puts,
    )

pub returns-clause-first : goal.returns-clause-first
returns-clause-first c = each_all (λ _ (x : MethodCode). code_breaks c.args.world.now x) c.loop-code.code-index
    c.args.codes.now (option_map break_of c.loop-code.least) c.loop-code-test.false c.loop-code.invariant.0

pub returns-clause-puts : goal.returns-clause-puts
returns-clause-puts c =
    let w = c.args.world.now in
    let codes = c.args.codes.now in
    let now = puts c.loop-code.rows c.loop-code.arrays in
    mapped_2 c.loop-code.least _ _ (λ (p : after_codes w now (drop c.loop-code.code-index codes) ≡ after_codes w
    (puts c.args.rows.now c.args.arrays.now) codes). sym p
    ∙ codes-end w codes c.loop-code.code-index now c.loop-code-test.false) c.loop-code.invariant.1
