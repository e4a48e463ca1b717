use Rattle.std.proofs.Common.{◌∙◌}
use Rattle.cjc_verify.specs.Named.{own_field_desc}
use Rattle.cjc_verify.proofs.DescribedLaws.Entries.{by_declared, by_none}
use Rattle.cjc_verify.proofs.described.named.own_field_desc.Goals as goal

pub returns-in-Some : goal.returns-in-Some
returns-in-Some c =
    c.field_under.ensures
    ∙ by_declared (own_field_desc c.args.pair.now c.args.token) c.args.pair.now.files.classes c.args.number
    c.in-Some.class.now c.in-Some.ensures

pub returns-in-None : goal.returns-in-None
returns-in-None c = by_none (own_field_desc c.args.pair.now c.args.token) c.args.pair.now.files.classes c.args.number
    c.in-None.ensures
