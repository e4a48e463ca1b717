use Rattle.std.proofs.Common.{◌≡◌, ◌+◌, ◌-◌, length}
use Rattle.std.specs.Prelude.{option_map}
use Rattle.cjc_tokens.specs.Working.{alone, overlay, signature_in, signs}
use Rattle.cjc_tokens.proofs.listed.put_at.Given as goal

abbrev pub invariant-loop-row : goal.invariant-loop-row
invariant-loop-row l = overlay (signs l.row.items) (alone l.token (option_map signature_in l.slot))
    ≡ overlay (signs l.initial.row.items) (alone l.token (option_map signature_in l.slot))

abbrev pub decreases-loop-row : goal.decreases-loop-row
decreases-loop-row l = l.token + 1 - length l.row.items
