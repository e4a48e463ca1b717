use Rattle.std.proofs.Common.{[], ◌∷◌, length, length-append, arith, ap, ◌∙◌}
use Rattle.std.specs.Prelude.{slice_get}
use Rattle.cjc_world.specs.Classes.{all_classes}
use Rattle.cjc_world.specs.Working.Places.{has_name}
use Rattle.cjc_world.proofs.Stepping.{made-more}
use Rattle.cjc_world.proofs.class_index.ClassIndex.begun.Goals as goal

pub loop-place-preserved : goal.loop-place-preserved
loop-place-preserved c = record {
  count = ap length c.in_ok-push.ensures.items ∙ length-append c.loop-place.known.items (c.has_name.result ∷ [])
      ∙ (let n = c.loop-place.invariant.count in omega arith);
  made = λ p l. ap (λ xs. slice_get xs p) c.in_ok-push.ensures.items
      ∙ made-more c.loop-place.known.items c.has_name.result c.loop-place.place (λ p. has_name c.args.name.now
      (slice_get (all_classes c.args.self.now) p)) c.loop-place.invariant.count c.loop-place.invariant.made
      c.has_name.ensures p l;
}

pub returns : goal.returns
returns c = λ p l. c.loop-place.invariant.made p (let n = c.count-place-end.ensures in let e = c.loop-place-test.false
    in omega arith)
