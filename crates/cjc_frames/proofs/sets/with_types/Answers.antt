use Rattle.std.proofs.Common.{refl, sym, ◌∙◌, subst}
use Rattle.cjc_types.specs.Names.{IsSet}
use Rattle.cjc_types.specs.Working.NameLaws.{set_insert}
use Rattle.cjc_types.specs.Working.Merging.{union_next}
use Rattle.cjc_frames.proofs.sets.with_types.Goals as goal

pub loop-name-preserved : goal.loop-name-preserved
loop-name-preserved c = record {
  set = subst IsSet (sym c.in_ok-put.ensures) (set_insert c.items.result.now c.loop-name.all.items
      c.loop-name.invariant.set);
  union = union_next c.args.names.now c.loop-name.all.items c.put.new.set.items c.loop-name.name-index
      c.name-item.result c.items.result.now c.loop-name-test.true c.name-item.is c.items.ensures c.in_ok-put.ensures
      ∙ c.loop-name.invariant.union;
}
