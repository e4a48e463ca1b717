use Rattle.cjc_card_link.proofs.tables.Tables.+map_of.Given as goal

abbrev pub decreases-map_of : goal.decreases-map_of
decreases-map_of l = l.depth
