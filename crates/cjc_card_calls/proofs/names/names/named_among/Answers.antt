use Rattle.std.proofs.Common.{◌∙◌, map}
use Rattle.cjc_card_link.specs.Names.{method_name_of}
use Rattle.cjc_card_calls.proofs.NamesLaws.Places.{named_found, named_nowhere}
use Rattle.cjc_card_calls.proofs.names.names.named_among.Goals as goal

pub returns-in-Some : goal.returns-in-Some
returns-in-Some c = c.method_at.ensures ∙ named_found (map method_name_of c.args.names.now) c.args.methods.now
    c.args.id.now _ c.in-Some.ensures

pub returns-in-None : goal.returns-in-None
returns-in-None c = named_nowhere (map method_name_of c.args.names.now) c.args.methods.now c.args.id.now
    c.in-None.ensures
