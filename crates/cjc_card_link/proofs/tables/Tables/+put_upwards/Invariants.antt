use Rattle.cjc_card_link.proofs.tables.Tables.+put_upwards.Given as goal

abbrev pub decreases-put_upwards : goal.decreases-put_upwards
decreases-put_upwards l = l.depth
