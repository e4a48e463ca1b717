use Rattle.std.proofs.Common.{sym, ◌∙◌}
use Rattle.cjc_check.proofs.JumpsLaws.Apart.{past_all, starts_it, starts_none}
use Rattle.cjc_check.proofs.jumps.handlers.body_with.Goals as goal

pub returns-then-place-bodies-clause-is : goal.returns-then-place-bodies-clause-is
returns-then-place-bodies-clause-is c = past_all c.args.offset c.place_behind-place.result c.args.bodies.now
    c.requires.apart c.place_behind-place.ensures c.if-place-bodies.true

pub returns-then-has_start-clause-is : goal.returns-then-has_start-clause-is
returns-then-has_start-clause-is c =
    starts_it c.args.offset c.place_behind-place.result c.index-bodies-place.result c.args.bodies.now c.requires.apart
    c.place_behind-place.ensures c.if-place-bodies.false c.index-bodies-place.is (sym c.has_start.ensures
    ∙ c.if-has_start.true)

pub returns-else-has_start-clause-is : goal.returns-else-has_start-clause-is
returns-else-has_start-clause-is c =
    starts_none c.args.offset c.place_behind-place.result c.index-bodies-place.result c.args.bodies.now c.requires.apart
    c.place_behind-place.ensures c.if-place-bodies.false c.index-bodies-place.is (sym c.has_start.ensures
    ∙ c.if-has_start.false)
