use Rattle.std.proofs.Common.{◌≡◌, ℕ, List, drop}
use Rattle.std.specs.Str.{bytes_eq}
use Rattle.indexmap.specs.IndexMap.{get}
use Rattle.cjc_check_index.specs.Imported.Working.Names.{or_else, place_from}
use Rattle.cjc_check_index.proofs.imported.classes.places_of.Given as goal

abbrev pub invariant-loop-i : goal.invariant-loop-i
invariant-loop-i l = (name : List ℕ) → or_else (get bytes_eq l.places name) (place_from l.i (drop l.i l.classes) name)
    ≡ place_from 0 l.classes name
