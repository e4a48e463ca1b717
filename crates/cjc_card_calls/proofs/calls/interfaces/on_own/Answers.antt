use Rattle.std.proofs.Common.{◌+◌, arith}
use Rattle.cjc_card_frame.specs.Objects.{class_of}
use Rattle.cjc_card_link.specs.Tables.{loaded_of}
use Rattle.cjc_card_calls.proofs.CallsLaws.Towers.{by_map, no_map}
use Rattle.cjc_card_calls.proofs.calls.interfaces.on_own.Goals as goal

pub returns-in-Some : goal.returns-in-Some
returns-in-Some c =
    let deep = c.depth.ensures.depth in
    by_map (loaded_of c.args.tables.now) c.args.part c.args.offset (c.depth.result + 1) (class_of c.args.interface)
    c.args.token c.in-Some.map.now c.items.result.now _ c.at_map.ensures c.items.ensures c.in-Some.ensures
    (omega (arith, deep))

pub returns-in-None : goal.returns-in-None
returns-in-None c =
    let deep = c.depth.ensures.depth in
    no_map (loaded_of c.args.tables.now) c.args.part c.args.offset (c.depth.result + 1) (class_of c.args.interface)
    c.args.token c.in-None.ensures (omega (arith, deep))
