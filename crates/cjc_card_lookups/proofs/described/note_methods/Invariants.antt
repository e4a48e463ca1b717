use Rattle.std.proofs.Common.{◌≡◌, ℕ, drop}
use Rattle.std.specs.Prelude.{option_map}
use Rattle.cjc_card.specs.Classes.{or_else}
use Rattle.cjc_card.specs.Methods.{method_among}
use Rattle.cjc_card_lookups.specs.Indices.{number_under}
use Rattle.cjc_card_lookups.specs.Described.{AreSmall, bytes_of}
use Rattle.cjc_card_lookups.proofs.described.note_methods.Given as goal

abbrev pub invariant-loop-method : goal.invariant-loop-method
invariant-loop-method l =
    ((x : ℕ) → or_else (number_under l.counts x) (option_map bytes_of (method_among (drop l.method-index l.methods) x)) ≡ or_else (number_under l.fn.counts x) (option_map bytes_of (method_among l.methods x)))
    × AreSmall l.counts
