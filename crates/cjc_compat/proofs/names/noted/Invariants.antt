use Rattle.std.proofs.Common.{◌≡◌, ℕ, List, take}
use Rattle.cjc_compat.specs.Working.Names.{is_noted}
use Rattle.cjc_export.specs.Supers.{is_one_of}
use Rattle.cjc_compat.proofs.names.noted.Given as goal

abbrev pub invariant-loop-name : goal.invariant-loop-name
invariant-loop-name l = (x : List ℕ) → is_noted l.names x ≡ is_one_of (take l.name-index l.list) x
