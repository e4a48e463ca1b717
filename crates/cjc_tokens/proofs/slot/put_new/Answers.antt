use Rattle.std.proofs.Common.{◌≡◌, sym, subst, ◌++◌, ◌∷◌, [], arith, rules, false, true, Some}
use Rattle.cjc_tokens.specs.declared.slot.Slot.{Slot}
use Rattle.cjc_tokens.specs.Slots.{has_slot}
use Rattle.cjc_tokens.specs.Working.{Offered, signature_in, signs}
use Rattle.cjc_tokens.proofs.slot.put_new.Goals as goal
use Rattle.cjc_tokens.proofs.Offers.{offered-kept, offered-put}

pub returns-in_ok-push : goal.returns-in_ok-push
returns-in_ok-push c = λ ss m old o is.
    let slot : Slot = record { name = c.args.name; desc = c.args.desc; method = c.args.method } in
    let none : has_slot (signs c.args.row.now.items) (signature_in slot) ≡ false = grind arith in
    let items : c.push.new.self.items ≡ c.args.row.now.items ++ Some slot ∷ [] = search rules in
    subst (λ q. Offered (ss ++ signature_in slot ∷ []) m old q) (sym items) (offered-put ss slot m old
    c.args.row.now.items o none is)

pub returns-else-not-has_slot : goal.returns-else-not-has_slot
returns-else-not-has_slot c = λ ss m old o is.
    let some : has_slot (signs c.args.row.now.items) (record { name = c.args.name.now; desc = c.args.desc.now })
    ≡ true = grind arith in
    offered-kept ss (record { name = c.args.name.now; desc = c.args.desc.now }) m old c.args.row.now.items o some
