use Rattle.std.proofs.Common.{refl, [], None}
use Rattle.std.proofs.lemmas.Result.{on_ok_weaker}
use Rattle.cjc_tokens.proofs.Offers.{offered-nothing, offered-slots}
use Rattle.cjc_tokens.proofs.growing.GrowingRow.put_name.Goals as goal

pub returns : goal.returns
returns c = on_ok_weaker _ offered-slots (c.put_new.ensures [] (λ _. None) c.args.self.now.items
    (offered-nothing (λ _. None) c.args.self.now.items) refl)
