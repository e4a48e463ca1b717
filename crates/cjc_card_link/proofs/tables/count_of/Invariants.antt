use Rattle.std.proofs.Common.{◌≡◌, ◌+◌, ◌<◌, ◌^◌, drop}
use Rattle.cjc_card_semantics.specs.Machine.Classes.{info_count}
use Rattle.cjc_card_link.proofs.tables.count_of.Given as goal

abbrev pub invariant-loop-package : goal.invariant-loop-package
invariant-loop-package l =
    (l.count + info_count (drop l.package-index l.packages) ≡ info_count l.packages) × (l.count + 2 < 2 ^ 32)
