use Rattle.cjc_run.proofs.top.gather.Goals as goal

pub returns-in-Convert : goal.returns-in-Convert
returns-in-Convert g c = rw c.in-Convert.is c.gather_convert.ensures

pub returns-in-Jvm : goal.returns-in-Jvm
returns-in-Jvm g c = rw c.in-Jvm.is c.gather_run.ensures

pub returns-in-Card : goal.returns-in-Card
returns-in-Card g c = rw c.in-Card.is c.gather_card.ensures

pub returns-in-Check : goal.returns-in-Check
returns-in-Check g c = rw c.in-Check.is c.gather_check.ensures

pub gather_make-requires-clause-least : goal.gather_make-requires-clause-least
gather_make-requires-clause-least g c = let h = rw c.in-Make.is at c.requires in h.0

pub gather_make-requires-clause-greatest : goal.gather_make-requires-clause-greatest
gather_make-requires-clause-greatest g c = let h = rw c.in-Make.is at c.requires in h.1

pub returns-in-Verify : goal.returns-in-Verify
returns-in-Verify g c = rw c.in-Verify.is c.gather_verify.ensures

pub returns-in-Link : goal.returns-in-Link
returns-in-Link g c = rw c.in-Link.is c.gather_link.ensures

pub returns-in-LinkJvm : goal.returns-in-LinkJvm
returns-in-LinkJvm g c = rw c.in-LinkJvm.is c.gather_linkjvm.ensures

pub returns-in-Compat : goal.returns-in-Compat
returns-in-Compat g c = rw c.in-Compat.is c.gather_compat.ensures

pub returns-in-Make : goal.returns-in-Make
returns-in-Make g c = rw c.in-Make.is c.gather_make.ensures
