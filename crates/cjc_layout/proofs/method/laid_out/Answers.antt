use Rattle.std.proofs.Common.{◌∙◌, ap, subst}
use Rattle.cjc_layout.specs.Sizes.{bytes_before, code_size}
use Rattle.cjc_layout.specs.Legal.{IsLeast}
use Rattle.cjc_layout.specs.Handlers.{handlers_of, table_order}
use Rattle.cjc_layout.specs.Layouts.{HasPlaces}
use Rattle.cjc_layout.specs.Working.{offset_at}
use Rattle.cjc_layout.proofs.Whole.{is_layout, same_layout}
use Rattle.cjc_layout.proofs.method.laid_out.Goals as goal

pub returns : goal.returns
returns c =
    let m = c.args.method.now in
    let p = c.in_ok-places.places in
    let least = subst (λ is. IsLeast is p.wide.items) c.items.ensures c.in_ok-places.ensures.least in
    let has = subst (λ is. HasPlaces is (bytes_before is p.wide.items) p.offsets.items) c.items.ensures
    c.in_ok-places.ensures.offsets in
    let last = c.in_ok-places.ensures.end ∙ ap (λ is. code_size is p.wide.items) c.items.ensures in
    let handlers =
    c.in_ok-handlers.ensures
    ∙ ap (λ xs. handlers_of (offset_at xs p.end) (table_order c.items-2.result.now)) c.deref.ensures.value
    ∙ ap (λ cs. handlers_of (offset_at p.offsets.items p.end) (table_order cs)) c.items-2.ensures in
    same_layout m p.offsets.items c.of.result p.wide.items c.of-2.result p.end
    (handlers_of (offset_at p.offsets.items p.end) (table_order m.catches)) c.in_ok-handlers.handlers c.of.ensures
    c.of-2.ensures handlers
    (is_layout m p.offsets.items p.wide.items p.end least has last c.requires.whole.lies)
