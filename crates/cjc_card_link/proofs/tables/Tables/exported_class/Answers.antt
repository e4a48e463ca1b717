use Rattle.std.proofs.Common.{ap}
use Rattle.std.specs.Prelude.{option_and_then}
use Rattle.cjc_card_semantics.specs.Machine.Classes.{Own, where_there}
use Rattle.cjc_card_link.specs.Tables.{loaded_of}
use Rattle.cjc_card_link.proofs.Exporting.{exported_by, is_listed, is_none}
use Rattle.cjc_card_link.proofs.tables.Tables.exported_class.Goals as goal

pub returns-in-Some-exported : goal.returns-in-Some-exported
returns-in-Some-exported c =
    let l = loaded_of c.args.self.now in
    is_listed (λ e. where_there l (Own c.args.part e.class_offset)) l.parts c.args.part c.args.token
    c.in-Some.package.now c.in-Some-exported.class.now _ c.own_class.ensures c.in-Some-exported.ensures
    c.in-Some.ensures

pub returns-in-None-exported : goal.returns-in-None-exported
returns-in-None-exported c =
    let l = loaded_of c.args.self.now in
    is_none (λ e. where_there l (Own c.args.part e.class_offset)) l.parts c.args.part c.args.token
    c.in-Some.package.now c.in-None-exported.ensures c.in-Some.ensures

pub returns-in-None : goal.returns-in-None
returns-in-None c =
    let l = loaded_of c.args.self.now in
    ap (option_and_then (exported_by (λ e. where_there l (Own c.args.part e.class_offset)) c.args.token))
    c.in-None.ensures
