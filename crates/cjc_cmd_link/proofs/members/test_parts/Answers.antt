use Rattle.std.proofs.lemmas.Result.{err_from_is_err_and}
use Rattle.cjc_group.proofs.BytesOptions.{option_had}
use Rattle.cjc_cmd_link.proofs.Parts.{no_part, parts_fault}
use Rattle.cjc_cmd_link.proofs.members.test_parts.Goals as goal

pub returns-in_err-script-clause-refused : goal.returns-in_err-script-clause-refused
returns-in_err-script-clause-refused c =
    let e = err_from_is_err_and c.from_residual-in_err-script.result c.from_residual-in_err-script.ensures.1 in
    let parts = rw c.items.ensures at c.in_ok-refusal.ensures.parts in
    let stops = rw c.items-2.ensures at c.in_err-script.ensures.refused in
    rw (e.1, e.2) (parts_fault c.args.input.now c.args.name.now _ _ parts stops)

pub returns-clause-made : goal.returns-clause-made
returns-clause-made c =
    let made = rw c.items.ensures at c.in_ok-refusal.ensures.made in
    option_had _ _ c.in_ok-script.ensures.passed made

pub returns-clause-script : goal.returns-clause-script
returns-clause-script c = let script = rw c.items-2.ensures at c.in_ok-script.ensures.script in script

pub returns-clause-passed : goal.returns-clause-passed
returns-clause-passed c =
    let parts = rw c.items.ensures at c.in_ok-refusal.ensures.parts in
    let script = rw c.items-2.ensures at c.in_ok-script.ensures.script in
    no_part c.args.input.now c.args.name.now _ _ c.in_ok-script.ensures.passed parts script
