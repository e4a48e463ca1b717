-- What a list keeps by its grammar.
use Rattle.std.proofs.Common.{◌≡◌, false}
use Rattle.cjc_judge.specs.Spelt.{IsRead}
use Rattle.cjc_list.specs.Listed.{ListTree}

pub no_ints : (list : ListTree) → IsRead list → list.ints ≡ false
no_ints list read = let spelt = read.2.0.3 in spelt.no_ints
