use Rattle.std.proofs.Common.{◌≡◌, ◌++◌, take, map}
use Rattle.cjc_tokens.specs.Members.{signature_of}
use Rattle.cjc_tokens.specs.Working.{member_of, slot_token}
use Rattle.cjc_tokens.proofs.methods.put_added_tokens.Given as goal

abbrev pub invariant-loop-id : goal.invariant-loop-id
invariant-loop-id l = l.tokens ≡ l.initial.tokens
    ++ map (λ m. slot_token l.shown (signature_of (member_of m))) (take l.id-index l.added)
