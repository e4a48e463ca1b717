use Rattle.std.proofs.Common.{◌≡◌, map, take}
use Rattle.cjc_pool.specs.Working.Calls.{key_token}
use Rattle.cjc_pool.proofs.calls.tokens_of.Given as goal

abbrev pub invariant-loop-key : goal.invariant-loop-key
invariant-loop-key l = l.row ≡ map (key_token l.world l.tokens) (take l.key-index l.calls)
