use Rattle.std.proofs.Common.{ap, ◌∙◌}
use Rattle.std.specs.Prelude.{not, ◌&&◌}
use Rattle.cjc_subset.specs.Checks.{field_breaks}
use Rattle.cjc_subset.specs.Flags.{is_unfit_field}
use Rattle.cjc_subset.specs.Types.{is_unsupported_desc, is_int_desc}
use Rattle.cjc_bytes.proofs.Firsts.{at_same}
use Rattle.cjc_subset.proofs.checking.field_break.Goals as goal

pub returns : goal.returns
unfolding field_breaks
returns c = λ f e.
    let there = c.field_spot-spot.ensures f c.args.class.now e in
    let desc = c.items-desc.ensures in
    c.first-2.ensures _ _
    (c.first.ensures _ _
    (at_same 301 _ (c.is_unsupported_desc.ensures ∙ ap is_unsupported_desc desc) there c.broken-unsupported.ensures)
    (at_same 302 _ (c.has_unsettled_int.ensures ∙ ap (λ d. not c.args.settings.now.ints && is_int_desc d) desc) there
    c.broken-int.ensures))
    (at_same 304 _ (c.is_unfit_field-unfit.ensures ∙ ap (λ b. is_unfit_field b c.args.field.now.flags)
    c.is_interface.ensures) there c.broken.ensures)
