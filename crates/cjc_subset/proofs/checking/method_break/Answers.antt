use Rattle.std.proofs.Common.{ap, ◌∙◌}
use Rattle.std.specs.Prelude.{not, ◌&&◌}
use Rattle.cjc_subset.specs.Checks.{method_breaks}
use Rattle.cjc_subset.specs.Types.{is_unsupported_desc, is_int_desc}
use Rattle.cjc_bytes.proofs.Firsts.{at_same}
use Rattle.cjc_subset.proofs.checking.method_break.Goals as goal

pub returns : goal.returns
unfolding method_breaks
returns c = λ f e.
    let there = c.method_spot-spot.ensures f e in
    let desc = c.items-desc.ensures in
    c.first-4.ensures _ _
    (c.first-3.ensures _ _
    (c.first-2.ensures _ _
    (c.first.ensures _ _
    (at_same 301 _ (c.is_unsupported_desc.ensures ∙ ap is_unsupported_desc desc) there c.broken-unsupported.ensures)
    (at_same 302 _ (c.has_unsettled_int.ensures ∙ ap (λ d. not c.args.settings.now.ints && is_int_desc d) desc) there
    c.broken-int.ensures))
    (at_same 304 _ c.has_unfit_flags.ensures there c.broken-unfit.ensures))
    (at_same 404 _ c.has_many_locals.ensures there c.broken-locals.ensures))
    (at_same 405 _ c.has_deep_stack.ensures there c.broken-stack.ensures)
