use Rattle.std.proofs.Common.{refl}
use Rattle.cjc_card_link.specs.Described.{bytes_among, bytes_in}
use Rattle.cjc_card_link.proofs.OrElse.{note_more, note_all}
use Rattle.cjc_card_link.proofs.described.lengths.Goals as goal

pub loop-class-preserved : goal.loop-class-preserved
loop-class-preserved c = (
  λ x. note_more (λ n ds. bytes_among c.args.infos.now ds x) (λ n d. bytes_in c.args.infos.now d x) (λ n d ds. refl)
      c.loop-class.class-index c.class-item.result c.class-item.result c.args.classes.now _ _ _ c.loop-class-test.true
      c.class-item.is (c.in_ok-note_class.ensures.kept x) (c.loop-class.invariant.0 x),
  c.in_ok-note_class.ensures.small,
)

pub returns-clause-kept : goal.returns-clause-kept
returns-clause-kept c = λ x. note_all (λ n ds. bytes_among c.args.infos.now ds x) (λ n. refl) c.loop-class.class-index
    c.args.classes.now _ _ c.loop-class-test.false (c.loop-class.invariant.0 x)
