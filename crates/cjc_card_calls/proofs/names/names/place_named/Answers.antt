use Rattle.std.proofs.Common.{◌∙◌}
use Rattle.cjc_card_link.specs.Names.{method_name_of}
use Rattle.cjc_card_calls.proofs.NamesLaws.Places.{place_first}
use Rattle.cjc_card_calls.proofs.names.names.place_named.Goals as goal

pub returns : goal.returns
returns c = c.first_named.ensures ∙ place_first method_name_of c.args.names.now c.args.id.now
