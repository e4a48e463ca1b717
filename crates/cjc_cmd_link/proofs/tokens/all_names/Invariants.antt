use Rattle.std.proofs.Common.{◌≡◌, length, take}
use Rattle.cjc_cmd_link.specs.ByToken.{AreNamed}
use Rattle.cjc_cmd_link.proofs.tokens.all_names.Given as goal

abbrev pub invariant-loop-place : goal.invariant-loop-place
invariant-loop-place l = AreNamed (take l.place l.members) (take l.place l.images) l.names × (length l.names ≡ l.place)
