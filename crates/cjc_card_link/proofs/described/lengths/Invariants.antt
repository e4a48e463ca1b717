use Rattle.std.proofs.Common.{◌≡◌, ℕ, drop}
use Rattle.cjc_card_semantics.specs.Machine.Classes.{or_else}
use Rattle.cjc_card_link.specs.Indices.{number_under}
use Rattle.cjc_card_link.specs.Described.{AreSmall, bytes_among}
use Rattle.cjc_card_link.proofs.described.lengths.Given as goal

abbrev pub invariant-loop-class : goal.invariant-loop-class
invariant-loop-class l =
    ((x : ℕ) → or_else (number_under l.counts x) (bytes_among l.infos (drop l.class-index l.classes) x)
    ≡ bytes_among l.infos l.classes x)
    × AreSmall l.counts
