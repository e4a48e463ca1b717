use Rattle.std.proofs.Common.{◌∙◌, ◌+◌, ap, sym, rules, drop}
use Rattle.std.specs.Int.{w32}
use Rattle.std.specs.Prelude.{FitsSigned}
use Rattle.std.proofs.lemmas.Int.{to_z-of_z}
use Rattle.cjc_narrow.specs.Written.Working.Switches.{any_word}
use Rattle.cjc_narrow.proofs.WrittenLaws.Cases.{any_end, any_here, any_next}
use Rattle.cjc_narrow.proofs.written.switches.has_word.Goals as goal

pub returns-then-is_word : goal.returns-then-is_word
returns-then-is_word c =
    any_here _ c.args.targets.now c.loop.index _ c.loop-test.true (sym c.is_word.ensures ∙ c.if-is_word.true)
    c.loop.invariant
    ∙ ap (λ low. any_word low c.args.targets.now) (to_z-of_z w32 c.args.low c.ranges.low)

pub returns : goal.returns
returns c =
    any_end _ c.args.targets.now c.loop.index _ c.loop-test.false c.loop.invariant
    ∙ ap (λ low. any_word low c.args.targets.now) (to_z-of_z w32 c.args.low c.ranges.low)

pub loop-preserved : goal.loop-preserved
loop-preserved c =
    let fits : FitsSigned w32 c.next_value-value.result = search rules in
    ap (λ value. any_word value (drop (c.loop.index + 1) c.args.targets.now)) (to_z-of_z w32 c.next_value-value.result
    fits ∙ c.next_value-value.ensures)
    ∙ any_next _ c.args.targets.now c.loop.index _ c.loop-test.true (sym c.is_word.ensures ∙ c.if-is_word.false)
    c.loop.invariant
