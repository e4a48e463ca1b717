use Rattle.cjc_card_link.proofs.tables.Tables.+walk_hidden.Given as goal

abbrev pub decreases-walk_hidden : goal.decreases-walk_hidden
decreases-walk_hidden l = l.depth
