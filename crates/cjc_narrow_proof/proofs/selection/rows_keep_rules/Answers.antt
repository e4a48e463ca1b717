use Rattle.cjc_narrow_proof.proofs.SelectionLaws.KeptRows.{row_rule, on_locals_rule, jump_rule, not_written_rule}
use Rattle.cjc_narrow_proof.proofs.SelectionLaws.KeptRows.{two_rule, return_rule}
use Rattle.cjc_narrow_proof.proofs.selection.rows_keep_rules.Goals as goal

pub returns-clause-row : goal.returns-clause-row
returns-clause-row c by l tb m at p i before after ks insn is_written there row is room never arrives catches =
    (row_rule by l tb m at p i before after ks insn is_written there row is room never arrives catches).rule

pub returns-clause-on_locals : goal.returns-clause-on_locals
returns-clause-on_locals c by l tb m at p i before after js ks insn is_written there row is room never arrives catches =
    (on_locals_rule by l tb m at p i before after js ks insn is_written there row is room never arrives catches).rule

pub returns-clause-jump : goal.returns-clause-jump
returns-clause-jump c by l tb m at p i before ks offsets insn is_written there jump is arrives behind =
    (jump_rule by l tb m at p i before ks offsets insn is_written there jump is arrives behind).rule

pub returns-clause-not_written : goal.returns-clause-not_written
returns-clause-not_written c by l tb m at p i before after ks not_written is arrives low =
    (not_written_rule by l tb m at p i before after ks not_written is arrives low).rule

pub returns-clause-two : goal.returns-clause-two
returns-clause-two c by l tb m at p i before ks offsets insn second is_written there behind_it two is arrives behind =
    (two_rule by l tb m at p i before ks offsets insn second is_written there behind_it two is arrives behind).rule

pub returns-clause-returns : goal.returns-clause-returns
returns-clause-returns c = return_rule
