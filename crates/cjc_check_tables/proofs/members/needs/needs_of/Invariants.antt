use Rattle.std.proofs.Common.{◌≡◌, ℕ, drop}
use Rattle.cjc_check_tables.specs.Members.Working.Needs.{greater, need_in, need_of}
use Rattle.cjc_check_tables.proofs.members.needs.needs_of.Given as goal

abbrev pub invariant-loop-class : goal.invariant-loop-class
invariant-loop-class l = (offset : ℕ) → greater (need_in l.needs offset) (need_of (drop l.class-index l.classes) offset)
    ≡ need_of l.classes offset
