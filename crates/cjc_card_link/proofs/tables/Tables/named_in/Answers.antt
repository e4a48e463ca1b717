use Rattle.std.proofs.Common.{ap}
use Rattle.std.specs.Prelude.{option_and_then}
use Rattle.cjc_card_link.specs.Packages.{named_class}
use Rattle.cjc_card_link.specs.Tables.{loaded_of}
use Rattle.cjc_card_link.proofs.ByPlace.{class_by_offset}
use Rattle.cjc_card_link.proofs.tables.Tables.named_in.Goals as goal

pub returns-in-Some-offset_named : goal.returns-in-Some-offset_named
returns-in-Some-offset_named c =
    class_by_offset c.args.part c.in-Some.package.now (loaded_of c.args.self.now).parts c.args.name.now _
    c.in-Some-offset_named.ensures.offset c.in-Some.ensures

pub returns-in-None-offset_named : goal.returns-in-None-offset_named
returns-in-None-offset_named c =
    class_by_offset c.args.part c.in-Some.package.now (loaded_of c.args.self.now).parts c.args.name.now _
    c.in-None-offset_named.ensures.offset c.in-Some.ensures

pub returns-in-None : goal.returns-in-None
returns-in-None c = ap (option_and_then (λ q. named_class c.args.part q c.args.name.now)) c.in-None.ensures
