use Rattle.std.proofs.Common.{◌≡◌, ℕ, drop}
use Rattle.std.specs.Prelude.{option_map}
use Rattle.cjc_card_semantics.specs.Machine.Classes.{or_else}
use Rattle.cjc_card_semantics.specs.Machine.Methods.{method_among}
use Rattle.cjc_card_link.specs.Indices.{number_under}
use Rattle.cjc_card_link.specs.Described.{AreSmall, bytes_of}
use Rattle.cjc_card_link.proofs.described.note_methods.Given as goal

abbrev pub invariant-loop-method : goal.invariant-loop-method
invariant-loop-method l =
    ((x : ℕ) → or_else (number_under l.counts x) (option_map bytes_of (method_among (drop l.method-index l.methods) x))
    ≡ or_else (number_under l.fn.counts x) (option_map bytes_of (method_among l.methods x)))
    × AreSmall l.counts
