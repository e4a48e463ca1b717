use Rattle.std.proofs.Common.{refl, sym, ◌∙◌, subst}
use Rattle.cjc_types.specs.Names.{IsSet}
use Rattle.cjc_types.specs.Working.NameLaws.{set_insert}
use Rattle.cjc_types.specs.Working.Merging.{union_next}
use Rattle.cjc_types.proofs.names.put_all.Goals as goal

pub loop-name-preserved : goal.loop-name-preserved
loop-name-preserved c = record {
  set = subst IsSet (sym c.in_ok-put_shared.ensures) (set_insert c.name-item.result c.loop-name.set.items
      c.loop-name.invariant.set);
  union = union_next c.args.names.now c.loop-name.set.items c.put_shared.new.set.items c.loop-name.name-index
      c.name-item.result c.name-item.result c.loop-name-test.true c.name-item.is refl c.in_ok-put_shared.ensures
      ∙ c.loop-name.invariant.union;
}
