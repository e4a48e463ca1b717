use Rattle.std.proofs.Common.{ℕ, Option, sym, ap, ◌∙◌}
use Rattle.cjc_types.specs.Flow.{place_at}
use Rattle.cjc_types.specs.Marks.{is_place}
use Rattle.cjc_flow.proofs.Searching.{any_here, any_later}
use Rattle.cjc_flow.proofs.targets.leads_to.Goals as goal

pub returns-then-is_place : goal.returns-then-is_place
returns-then-is_place c =
    any_here (λ (offset : ℕ). is_place (place_at c.args.method.now.insns offset) c.args.at) c.args.offsets.now
    c.loop-offset.offset-index 0 _ c.loop-offset-test.true c.loop-offset.invariant
    (ap (λ (o : Option ℕ). is_place o c.args.at) (sym c.place_at.ensures) ∙ sym c.is_place.ensures ∙ c.if-is_place.true)

pub loop-offset-preserved : goal.loop-offset-preserved
loop-offset-preserved c =
    any_later (λ (offset : ℕ). is_place (place_at c.args.method.now.insns offset) c.args.at) c.args.offsets.now
    c.loop-offset.offset-index 0 _ c.loop-offset-test.true c.loop-offset.invariant
    (ap (λ (o : Option ℕ). is_place o c.args.at) (sym c.place_at.ensures) ∙ sym c.is_place.ensures
    ∙ c.if-is_place.false)
