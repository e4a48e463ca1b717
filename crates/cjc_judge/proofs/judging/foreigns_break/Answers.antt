use Rattle.std.specs.Prelude.{option_map}
use Rattle.cjc_bytes.specs.Told.{break_of}
use Rattle.cjc_bytes.proofs.Firsts.{each_none, each_more, each_all}
use Rattle.cjc_judge.specs.declared.reading.Foreign.{Foreign}
use Rattle.cjc_judge.specs.Rules.{foreign_break, foreign_breaks}
use Rattle.cjc_judge.proofs.Typed.{read_twice}
use Rattle.cjc_judge.proofs.judging.foreigns_break.Goals as goal

pub loop-foreign-init : goal.loop-foreign-init
loop-foreign-init c = each_none (λ _ (x : Foreign). foreign_break c.args.world.now x) c.args.foreigns.now

pub loop-foreign-preserved : goal.loop-foreign-preserved
loop-foreign-preserved c =
    each_more (λ _ (x : Foreign). foreign_break c.args.world.now x) c.loop-foreign.foreign-index c.args.foreigns.now _ (option_map break_of c.first-least.result) c.loop-foreign-test.true
    (read_twice c.args.foreigns.now c.loop-foreign.foreign-index _ c.loop-foreign-test.true)
    (c.first-least.ensures _ _ c.loop-foreign.invariant c.foreign_break.ensures)

pub returns : goal.returns
unfolding foreign_breaks
returns c = each_all (λ _ (x : Foreign). foreign_break c.args.world.now x) c.loop-foreign.foreign-index c.args.foreigns.now (option_map break_of c.loop-foreign.least) c.loop-foreign-test.false c.loop-foreign.invariant
