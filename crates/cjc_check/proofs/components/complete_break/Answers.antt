use Rattle.cjc_check_tables.specs.CheckIndex.Lookup.Parts.{complete_of}
use Rattle.cjc_check.proofs.components.complete_break.Goals as goal

pub returns : goal.returns
returns c = c.first_break.ensures (complete_of c.args.parts.now) c.args.exports.now c.in_ok-firsts.ensures
