use Rattle.std.proofs.Common.{◌≡◌, map, take}
use Rattle.cjc_world.specs.Classes.{all_classes}
use Rattle.cjc_key_tokens.specs.Found.{found_token}
use Rattle.cjc_key_tokens.proofs.key_tokens.Given as goal

abbrev pub invariant-loop-key : goal.invariant-loop-key
invariant-loop-key l = l.row ≡ map (found_token (all_classes l.world) l.tokens) (take l.key-index l.keys)
