use Rattle.std.proofs.Common.{◌+◌, arith, ◌∙◌}
use Rattle.cjc_card_frame.specs.Objects.{class_of}
use Rattle.cjc_card_link.specs.Tables.{loaded_of}
use Rattle.cjc_card_semantics.specs.Machine.Dispatch.{tower}
use Rattle.cjc_card_calls.proofs.CallsLaws.Towers.{at_place, no_place}
use Rattle.cjc_card_calls.proofs.calls.interfaces.at_map.Goals as goal

pub returns-in-Some : goal.returns-in-Some
returns-in-Some c =
    let l = loaded_of c.args.tables.now in
    let deep = c.depth.ensures.depth in
    at_place l (class_of c.args.class) (c.depth.result + 1) c.args.map.now c.args.token c.in-Some.token _
    (c.found_by.ensures l c.requires.files ∙ c.walk_open-walk.ensures) (omega (arith, deep)) c.in-Some.ensures

pub returns-in-None : goal.returns-in-None
returns-in-None c = no_place (tower (loaded_of c.args.tables.now) (class_of c.args.class)) c.args.map.now c.args.token
    c.in-None.ensures
