use Rattle.cjc_tests_rules.proofs.rules.tables.tables_of.Goals as goal

pub tables-requires : goal.tables-requires
tables-requires c = record { tokens = (_, c.in_ok-tokens.ensures) }
