use Rattle.std.proofs.Common.{◌≡◌, map, take}
use Rattle.cjc_components.specs.Package.{Package}
use Rattle.cjc_classes.specs.Entries.{key_token}
use Rattle.cjc_classes.proofs.key_tokens.keys.key_tokens.Given as goal

abbrev pub invariant-loop-key : goal.invariant-loop-key
invariant-loop-key l = (p : Package) → p.files ≡ l.world → l.row ≡ map (key_token p) (take l.key-index l.keys)
