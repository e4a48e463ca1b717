use Rattle.std.proofs.Common.{◌≡◌, sym, ap, ◌∙◌}
use Rattle.std.specs.Prelude.{Some, option_map, slice_get, slice_set}
use Rattle.cjc_jvm_semantics.specs.Machine.{put_in}
use Rattle.cjc_jvm.proofs.ActsLaws.Puts.{put_none}
use Rattle.cjc_jvm.proofs.acts.acts.can_put.Goals as goal

pub returns-in_default-items-clause-act : goal.returns-in_default-items-clause-act
returns-in_default-items-clause-act g c =
    let l = g.L.LookUps.linked c.args.links.now in
    let heap = c.args.heap.now in
    let object = c.in-Some.object.now in
    let there : slice_get heap c.args.array ≡ Some object = sym c.in-Some.ensures in
    ap (λ t. option_map (slice_set heap c.args.array) (put_in l heap t c.args.index c.args.value)) there
    ∙ ap (λ t. option_map (slice_set heap c.args.array) t) (put_none l heap object c.args.index c.args.value
    (c.items.ensures.object c.in_default-items.is))
