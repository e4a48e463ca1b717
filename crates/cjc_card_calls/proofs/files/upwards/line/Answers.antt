use Rattle.std.proofs.Common.{ℕ, suc, ◌+◌, ◌-◌, ◌≡◌, length, ap, ◌∙◌, sym, arith, List}
use Rattle.cjc_card_semantics.specs.ExportFile.Supers.{super_count}
use Rattle.cjc_card_calls.specs.Files.Climbs.{climbed}
use Rattle.cjc_card_calls.specs.Files.Named.{is_passed}
use Rattle.cjc_card_calls.proofs.FilesLaws.Climbing.{climb_begun, line_done, line_full}
use Rattle.cjc_card_calls.proofs.files.upwards.line.Goals as goal

pub loop-done-init : goal.loop-done-init
loop-done-init c =
    let d = c.in_ok-climb.climb in
    let class = c.args.class.now in
    let sum = c.in_ok-steps.ensures in
    let listed : length c.items.result.now ≡ length class.supers = ap (λ (ns : List (List ℕ)). length ns)
    c.items.ensures in
    let more = c.super_count.ensures in
    let steps : c.in_ok-steps.steps - 0 ≡ length class.supers + super_count c.args.names.now =
    omega (arith, sum, listed, more) in
    climb_begun c.args.names.now (c.in_ok-steps.steps - 0) (is_passed d.passed) d.line.items c.args.class d.left
    c.in_ok-climb.ensures.line c.in_ok-climb.ensures.passed (c.in_ok-climb.ensures.left, steps)

pub returns-then-len-eq0 : goal.returns-then-len-eq0
returns-then-len-eq0 c =
    let d = c.loop-done.climb in
    line_done c.args.names.now (c.in_ok-steps.steps - c.loop-done.done) (is_passed d.passed) c.into_line.result
    d.line.items d.left _ c.into_line.ensures (sym c.len.ensures ∙ c.if-len-eq0.true) c.loop-done.invariant

pub loop-done-preserved : goal.loop-done-preserved
loop-done-preserved c =
    let steps = c.in_ok-steps.steps in
    let lt = c.loop-done-test.true in
    let same : suc (steps - (c.loop-done.done + 1)) ≡ steps - c.loop-done.done = omega (arith, lt) in
    c.in_ok-step.ensures (steps - (c.loop-done.done + 1)) ∙ ap (λ (n : ℕ). climbed c.args.names.now n c.loop-done.climb)
    same ∙ c.loop-done.invariant

pub returns : goal.returns
returns c =
    let d = c.loop-done.climb in
    let le = c.loop-done-test.false in
    line_full c.args.names.now (c.in_ok-steps.steps - c.loop-done.done) (is_passed d.passed) c.into_line-2.result
    d.line.items d.left _ c.into_line-2.ensures (omega (arith, le)) c.loop-done.invariant
