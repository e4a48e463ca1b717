use Rattle.std.proofs.Common.{List, ap, ◌∙◌}
use Rattle.std.specs.Prelude.{not, ◌&&◌}
use Rattle.cjc_bytes.specs.declared.fault.MemberId.{MemberId}
use Rattle.cjc_subset.specs.Checks.{has_unsupported, has_int, own_breaks}
use Rattle.cjc_subset.specs.Overriding.{gets_hidden}
use Rattle.cjc_bytes.proofs.Firsts.{at_same}
use Rattle.cjc_subset.proofs.checking.own_break.Goals as goal

pub returns : goal.returns
unfolding own_breaks
returns c = λ f e.
    let added = c.items-added.ensures ∙ c.added.ensures in
    c.first-3.ensures _ _
    (c.first-2.ensures _ _
    (c.first-methods.ensures _ _
    (c.first.ensures _ _
    (c.first-types.ensures _ _
    (at_same 301 _ (c.has_unsupported.ensures ∙ ap (λ (ms : List MemberId). has_unsupported ms) added) e
    c.broken-unsupported.ensures)
    (at_same 302 _ (c.adds_int.ensures ∙ ap (λ (ms : List MemberId). not c.args.settings.now.ints && has_int ms) added)
    e c.broken-int.ensures))
    (at_same 304 _ c.is_unfit_class.ensures e c.broken-unfit.ensures))
    (at_same 305 _ (c.gets_hidden.ensures ∙ ap (λ (ms : List MemberId). gets_hidden c.args.world.now c.args.class.now
    ms) added) e c.broken-hidden.ensures))
    (at_same 403 _ c.in_ok-has_many_interfaces.ensures e c.broken-interfaces.ensures))
    (at_same 406 _ c.has_many_cells.ensures e c.broken-cells.ensures)
