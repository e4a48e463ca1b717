use Rattle.std.proofs.Common.{◌∙◌, ◌-◌, ◌≤◌, ap, sym, length, arith}
use Rattle.std.specs.Prelude.{option_map, slice_get}
use Rattle.cjc_world.specs.Working.Known.{class_of}
use Rattle.cjc_vtable.specs.Working.Naming.{ids_at, signature_by}
use Rattle.cjc_vtable.proofs.SlotNames.{added-place}
use Rattle.cjc_vtable.proofs.naming.method_at.Goals as goal

pub returns-else-place-count : goal.returns-else-place-count
returns-else-place-count c =
    let le : length (class_of c.args.class).methods ≤ c.args.place = omega arith in
    c.id_at.ensures
    ∙ ap (λ q. option_map signature_by (slice_get q (c.args.place - c.member_count-count.result))) c.ids_at.ensures
    ∙ ap (λ n. option_map signature_by (slice_get (ids_at c.args.world.now c.args.found) (c.args.place - n)))
    c.member_count-count.ensures
    ∙ sym (added-place c.args.world.now c.args.found (class_of c.args.class) c.args.place c.requires le)
