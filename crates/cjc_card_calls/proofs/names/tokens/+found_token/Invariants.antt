use Rattle.cjc_card_calls.proofs.names.tokens.+found_token.Given as goal

abbrev pub decreases-found_token : goal.decreases-found_token
decreases-found_token l = l.depth
