use Rattle.cjc_trials.proofs.tables.tables_of.Goals as goal

pub tables-requires : goal.tables-requires
tables-requires c = record { tokens = (_, c.in_ok-tokens.ensures) }
