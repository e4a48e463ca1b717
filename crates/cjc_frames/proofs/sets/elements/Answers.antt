use Rattle.std.proofs.Common.{sym, ◌∙◌, subst}
use Rattle.cjc_types.specs.Names.{IsSet}
use Rattle.cjc_frames.specs.Types.{held}
use Rattle.cjc_frames.specs.Working.GivenLaws.{set_held, elements_next}
use Rattle.cjc_frames.proofs.sets.elements.Goals as goal

pub loop-array-preserved : goal.loop-array-preserved
loop-array-preserved c = record {
  set = subst IsSet (sym c.in_ok-put_held.ensures) (set_held (held c.items.result.now) c.loop-array.set.items
      c.loop-array.invariant.set);
  elements = elements_next c.args.types.now c.loop-array.set.items c.put_held.new.set.items c.loop-array.array-index
      c.array-item.result c.items.result.now c.loop-array-test.true c.array-item.is c.items.ensures
      c.in_ok-put_held.ensures ∙ c.loop-array.invariant.elements;
}
