use Rattle.std.proofs.Common.{refl}
use Rattle.std.specs.Prelude.{option_map}
use Rattle.cjc_card_semantics.specs.Machine.Methods.{method_among}
use Rattle.cjc_card_link.specs.Described.{bytes_of}
use Rattle.cjc_card_link.proofs.OrElse.{note_all}
use Rattle.cjc_card_link.proofs.Lengths.{methods_more}
use Rattle.cjc_card_link.proofs.described.note_methods.Goals as goal

pub loop-method-preserved : goal.loop-method-preserved
loop-method-preserved c = (
  λ x. methods_more x c.loop-method.method-index _ c.args.methods.now _ _ _ c.loop-method-test.true
      (c.in_ok-note_method.ensures.kept x) (c.loop-method.invariant.0 x),
  c.in_ok-note_method.ensures.small,
)

pub returns-clause-kept : goal.returns-clause-kept
returns-clause-kept c = λ x. note_all (λ n ms. option_map bytes_of (method_among ms x)) (λ n. refl)
    c.loop-method.method-index c.args.methods.now _ _ c.loop-method-test.false (c.loop-method.invariant.0 x)
