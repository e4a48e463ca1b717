use Rattle.std.proofs.Common.{[], ◌∷◌, length, length-append, arith, ap, ◌∙◌}
use Rattle.std.specs.Prelude.{slice_get}
use Rattle.cjc_world.specs.Classes.{all_classes}
use Rattle.cjc_world.specs.Working.Steps.{class_stands}
use Rattle.cjc_world.proofs.Stepping.{made-more}
use Rattle.cjc_world.proofs.class_index.ClassIndex.step.Goals as goal

pub loop-place-preserved : goal.loop-place-preserved
loop-place-preserved c = record {
  count = ap length c.in_ok-push.ensures.items ∙ length-append c.loop-place.next.items (c.class_stands.result ∷ [])
      ∙ (let n = c.loop-place.invariant.count in omega arith);
  made = λ p l. ap (λ xs. slice_get xs p) c.in_ok-push.ensures.items
      ∙ made-more c.loop-place.next.items c.class_stands.result c.loop-place.place
      (λ p. class_stands (all_classes c.args.self.now) c.args.by_supers c.args.name.now c.args.known.now
      (slice_get (all_classes c.args.self.now) p)) c.loop-place.invariant.count c.loop-place.invariant.made
      c.class_stands.ensures p l;
}

pub returns : goal.returns
returns c = λ p l. c.loop-place.invariant.made p (let n = c.count-place-end.ensures in let e = c.loop-place-test.false
    in omega arith)
