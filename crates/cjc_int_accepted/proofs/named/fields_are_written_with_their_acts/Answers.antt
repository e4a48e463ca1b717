use Rattle.cjc_int_accepted.proofs.NamedLaws.{constant_acts, read_acts, static_read_acts, static_write_acts}
use Rattle.cjc_int_accepted.proofs.NamedLaws.{write_acts}
use Rattle.cjc_int_accepted.proofs.named.fields_are_written_with_their_acts.Goals as goal

pub returns-clause-constants : goal.returns-clause-constants
returns-clause-constants c = constant_acts

pub returns-clause-static_reads : goal.returns-clause-static_reads
returns-clause-static_reads c = static_read_acts

pub returns-clause-static_writes : goal.returns-clause-static_writes
returns-clause-static_writes c = static_write_acts

pub returns-clause-reads : goal.returns-clause-reads
returns-clause-reads c = read_acts

pub returns-clause-writes : goal.returns-clause-writes
returns-clause-writes c = write_acts
