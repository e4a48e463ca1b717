use Rattle.std.proofs.Common.{sym}
use Rattle.cjc_shelf.proofs.CommandLaws.Acting.{is_decided, is_complete}
use Rattle.cjc_run.specs.Asked.{asked}
use Rattle.cjc_run.specs.Command.{command_of}
use Rattle.cjc_run.proofs.Promising.{promised}
use Rattle.cjc_run.proofs.top.run.Goals as goal

pub returns-in-Some-clause-decided : goal.returns-in-Some-clause-decided
returns-in-Some-clause-decided g c =
    let is = rw c.in-Some.is at c.asked_by.ensures.asked in
    rw (sym is) (is_decided (command_of (asked c.in-Some.command)) _ _ _ _ _ c.act.ensures)

pub returns-in-Some-clause-complete : goal.returns-in-Some-clause-complete
returns-in-Some-clause-complete g c =
    let is = rw c.in-Some.is at c.asked_by.ensures.asked in
    rw (sym is) (is_complete (command_of (asked c.in-Some.command)) _ _ _ _ _ c.act.ensures)

pub returns-in-Some-clause-alike : goal.returns-in-Some-clause-alike
returns-in-Some-clause-alike g c =
    let is = rw c.in-Some.is at c.asked_by.ensures.asked in
    rw (sym is) (λ done. promised (asked c.in-Some.command) _ _ _ _ _ c.act.ensures done)

pub returns-in-Some-clause-accepted : goal.returns-in-Some-clause-accepted
returns-in-Some-clause-accepted g c =
    let is = rw c.in-Some.is at c.asked_by.ensures.asked in
    rw (sym is) (c.written_files_pass.ensures (asked c.in-Some.command) _ _ _ _ _ c.act.ensures)

pub returns-in-Some-clause-together : goal.returns-in-Some-clause-together
returns-in-Some-clause-together g c =
    let is = rw c.in-Some.is at c.asked_by.ensures.asked in
    rw (sym is) (c.written_packages_agree.ensures (asked c.in-Some.command) _)

pub act-requires : goal.act-requires
act-requires g c = rw c.in-Some.is at c.asked_by.ensures.size
