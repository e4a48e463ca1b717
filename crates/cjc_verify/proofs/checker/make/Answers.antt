use Rattle.std.proofs.Common.{◌∙◌, ap, sym}
use Rattle.cjc_check_rules.specs.Complete.{Complete}
use Rattle.cjc_check_rules.specs.Described.{all_starts}
use Rattle.cjc_verify.proofs.checker.make.Goals as goal

pub returns : goal.returns
returns c = record {
  in_order = c.in_ok-order.ensures;
  begin = c.in_ok-starts.ensures;
  refs = λ p is_files is_components. c.in_ok-refs.ensures p is_files (c.items-2.ensures ∙ c.in_ok-starts.ensures
      ∙ sym (ap (λ (x : Complete). all_starts x.class) is_components));
  methods = λ p is_files is_components. c.in_ok-methods.ensures p is_files (ap (λ (x : Complete). let d = x.descriptor
      in d.classes) is_components ∙ sym c.items-described.ensures);
  classes = c.in_ok-classes.ensures;
  cells = c.in_ok-cells.ensures;
}
