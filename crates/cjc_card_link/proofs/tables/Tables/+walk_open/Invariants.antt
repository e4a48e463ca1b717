use Rattle.cjc_card_link.proofs.tables.Tables.+walk_open.Given as goal

abbrev pub decreases-walk_open : goal.decreases-walk_open
decreases-walk_open l = l.depth
