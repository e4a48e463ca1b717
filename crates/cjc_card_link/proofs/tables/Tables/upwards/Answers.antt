use Rattle.std.proofs.Common.{ℕ, suc, ◌+◌, ◌-◌, ◌≡◌, ap, ◌∙◌, sym, arith}
use Rattle.cjc_card_link.specs.Climbs.{climbed}
use Rattle.cjc_card_link.specs.Tables.{loaded_of}
use Rattle.cjc_card_link.proofs.Climbing.{line_done}
use Rattle.cjc_card_link.proofs.tables.Tables.upwards.Goals as goal

pub returns-then-len-eq0 : goal.returns-then-len-eq0
returns-then-len-eq0 c =
    line_done (loaded_of c.args.self.now) (c.args.count - c.loop-done.done) c.loop-done.climb c.line_of.result _
    c.line_of.ensures (sym c.len.ensures ∙ c.if-len-eq0.true) c.loop-done.invariant.1

pub loop-done-preserved : goal.loop-done-preserved
loop-done-preserved c = (
  c.in_ok-step.ensures.met,
  c.in_ok-step.ensures.step (c.args.count - (c.loop-done.done + 1))
      ∙ (let lt = c.loop-done-test.true in
      let same : suc (c.args.count - (c.loop-done.done + 1)) ≡ c.args.count - c.loop-done.done = omega (arith, lt) in
      ap (λ (n : ℕ). climbed (loaded_of c.args.self.now) n c.loop-done.climb) same)
      ∙ c.loop-done.invariant.1,
)
