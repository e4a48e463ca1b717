use Rattle.std.proofs.Common.{sym, subst, length, ◌<◌, arith}
use Rattle.std.proofs.lemmas.Grind.{common_steps}
use Rattle.std.proofs.lemmas.List.Elements.{All-pop}
use Rattle.cjc_world.specs.Classes.{all_classes}
use Rattle.cjc_tokens.specs.Working.{IsKept}
use Rattle.cjc_tokens.proofs.Supers.{kept-set}
use Rattle.cjc_tokens.proofs.line.keep.Goals as goal

pub class_rows-requires-clause-kept : goal.class_rows-requires-clause-kept
class_rows-requires-clause-kept c = subst (IsKept (all_classes c.args.world.now) c.args.world.now.classes)
    (sym c.deref-in-Some.ensures.value) c.loop-number.invariant.kept_rows

pub loop-number-preserved-in_ok-rows : goal.loop-number-preserved-in_ok-rows
loop-number-preserved-in_ok-rows c = record {
  all = (All-pop (λ n. n < length c.args.world.now.classes) c.loop-number.numbers.items c.pop.new.self.items
      c.pop.result c.pop.ensures.items c.loop-number.invariant.all).0;
  count = grind (arith, common_steps);
  kept_rows = kept-set (all_classes c.args.world.now) c.args.world.now.classes c.loop-number.kept.items c.in-Some.number
      c.in_ok-rows.rows c.loop-number.invariant.kept_rows c.in_ok-rows.ensures;
}

pub loop-number-preserved : goal.loop-number-preserved
loop-number-preserved c = record {
  all = (All-pop (λ n. n < length c.args.world.now.classes) c.loop-number.numbers.items c.pop.new.self.items
      c.pop.result c.pop.ensures.items c.loop-number.invariant.all).0;
  count = grind (arith, common_steps);
  kept_rows = kept-set (all_classes c.args.world.now) c.args.world.now.classes c.loop-number.kept.items c.in-Some.number
      c.in_ok-rows.rows c.loop-number.invariant.kept_rows c.in_ok-rows.ensures;
}
