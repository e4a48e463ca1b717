use Rattle.std.proofs.Common.{◌∙◌, ◌++◌, List, ap, false, map, sym}
use Rattle.cjc_classes.specs.ClassOrder.Classes.Numbers.{declared_at}
use Rattle.cjc_classes.specs.ClassInfo.Refs.{ref_of}
use Rattle.cjc_verify.specs.Offsets.{offset_among}
use Rattle.cjc_verify.specs.WantedBy.{classes_by, interfaces_by}
use Rattle.cjc_verify.specs.declared.infos.wanted.Wanted.{Wanted}
use Rattle.cjc_verify.proofs.InfosLaws.Wants.{wants_are}
use Rattle.cjc_verify.proofs.infos.made.wanted_infos.Goals as goal

pub returns : goal.returns
returns c = λ p e refs offsets.
    let files = c.args.world.now in
    let ref = ref_of c.args.refs.now in
    let offset = offset_among c.args.methods.now in
    let ns = c.items.result.now in
    let ts = c.items-2.result.now in
    c.in_ok-put_classes.ensures
    ∙ ap (λ (row : List Wanted). row ++ classes_by ref offset files ts) (c.in_ok-put_interfaces.ensures
    ∙ ap (λ (row : List Wanted). row ++ interfaces_by ref files ns) c.new-row.ensures)
    ∙ wants_are p files e ref offset refs offsets ns ts (c.in_ok-order.ensures.order ∙ ap (map (declared_at
    files.classes)) (sym c.items.ensures)) (c.items-2.ensures ∙ c.in_ok-tables.ensures)
    (c.order_laws.ensures files false)
