use Rattle.cjc_cmd_link.proofs.Parts.{script_broken, script_passes, script_refused}
use Rattle.cjc_cmd_link.proofs.members.test_script.Goals as goal

pub returns-in-Ok-clause-script : goal.returns-in-Ok-clause-script
returns-in-Ok-clause-script c =
    script_passes c.args.name.now c.args.text.now c.in-Ok.script c.unless_refused.result c.in-Ok.ensures.exact
    c.unless_refused.ensures.same

pub returns-in-Ok-clause-refused : goal.returns-in-Ok-clause-refused
returns-in-Ok-clause-refused c =
    script_refused c.args.name.now c.args.text.now c.in-Ok.script c.args.refusal c.unless_refused.result
    c.in-Ok.ensures.exact c.unless_refused.ensures.refused

pub returns-in-Err-Refused-clause-refused : goal.returns-in-Err-Refused-clause-refused
returns-in-Err-Refused-clause-refused c =
    rw c.earlier.ensures (script_broken c.args.name.now c.args.text.now _ c.in-Err-Refused.second c.args.refusal
    c.in-Err-Refused.field-0-is c.in-Err-Refused.ensures.exact)
