use Rattle.std.proofs.Common.{◌∙◌}
use Rattle.cjc_verify.specs.Named.{own_virtual_desc}
use Rattle.cjc_verify.proofs.DescribedLaws.Entries.{by_declared, by_none}
use Rattle.cjc_verify.proofs.described.named.own_virtual_desc.Goals as goal

pub returns-in-Some : goal.returns-in-Some
returns-in-Some c =
    c.virtual_of_number.ensures
    ∙ by_declared (own_virtual_desc c.args.pair.now c.args.token) c.args.pair.now.files.classes c.args.number
    c.in-Some.field-0.now c.in-Some.ensures

pub returns-in-None : goal.returns-in-None
returns-in-None c = by_none (own_virtual_desc c.args.pair.now c.args.token) c.args.pair.now.files.classes
    c.args.number c.in-None.ensures
