use Rattle.cjc_int_accepted.proofs.RowsLaws.Objects.{field_read, field_written, static_read, static_written}
use Rattle.cjc_int_accepted.proofs.values.fields_run_in_int_mode.Goals as goal

pub returns-clause-static_reads : goal.returns-clause-static_reads
returns-clause-static_reads c = static_read

pub returns-clause-reads : goal.returns-clause-reads
returns-clause-reads c = field_read

pub returns-clause-static_writes : goal.returns-clause-static_writes
returns-clause-static_writes c = static_written

pub returns-clause-writes : goal.returns-clause-writes
returns-clause-writes c = field_written
