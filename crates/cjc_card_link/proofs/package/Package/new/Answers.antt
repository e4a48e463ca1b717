use Rattle.std.proofs.Common.{ap, ◌∙◌}
use Rattle.cjc_card_semantics.specs.CapRead.declared.tree.ClassInfo.{ClassInfo}
use Rattle.cjc_card_link.specs.Described.{bytes_among}
use Rattle.cjc_card_link.proofs.package.Package.new.Goals as goal

pub invariant_of-result : goal.invariant_of-result
invariant_of-result c = record {
  begins = c.in_ok-begin.ensures;
  are_infos = c.in_ok-infos.ensures;
  are_lengths = λ x. c.in_ok-lengths.ensures.kept x ∙ ap (λ (k : ClassInfo). bytes_among k c.args.part.descriptor.now x)
      c.in_ok-infos.ensures;
  are_small = c.in_ok-lengths.ensures.small;
  are_names = c.in_ok-own.ensures;
}
