use Rattle.std.proofs.Common.{arith, ap, ◌∙◌}
use Rattle.std.specs.Prelude.{slice_get}
use Rattle.std.proofs.lemmas.Option.{slice_get_within}
use Rattle.cjc_world.specs.Classes.{all_classes}
use Rattle.cjc_world.proofs.ByPlace.{place-class}
use Rattle.cjc_world.proofs.Stepping.{done-below}
use Rattle.cjc_world.proofs.class_index.ClassIndex.cycles.Goals as goal

pub returns : goal.returns
returns c =
    let w = all_classes c.args.self.now in
    record {
      own = λ x p e.
          let d = place-class w x p e in
          let l = slice_get_within w p d.0 d.1 in
          ap (λ xs. slice_get xs p) c.of.ensures ∙ c.loop-place.invariant.made x p (let n = c.count-place-end.ensures
          in let t = c.loop-place-test.false in omega arith) e;
      below = λ x p e. ap (λ xs. slice_get xs p) c.of-2.ensures ∙ done-below w c.in_ok-below.below.items
          c.in_ok-below.ensures x p e;
    }
