use Rattle.std.proofs.Common.{◌≡◌, take}
use Rattle.std.specs.Prelude.{option_map}
use Rattle.cjc_bytes.specs.Told.{break_of, spot_of}
use Rattle.cjc_subset.specs.Checks.{insn_breaks}
use Rattle.cjc_subset.specs.Places.{at_class}
use Rattle.cjc_bytes.specs.Order.{FilePlace}
use Rattle.cjc_bytes.specs.Breaks.{IsFirstOf, each}
use Rattle.cjc_subset.proofs.checking.insns_break.Given as goal

abbrev pub invariant-loop-insn : goal.invariant-loop-insn
invariant-loop-insn l = (f : FilePlace) → spot_of l.spot ≡ at_class f l.class
    → IsFirstOf (each (λ i x. insn_breaks l.world l.settings f l.class l.place l.method x) (take l.insn-index l.insns))
    (option_map break_of l.least)
