use Rattle.std.proofs.Common.{◌≡◌, ℕ, List, drop}
use Rattle.std.specs.Prelude.{option_map}
use Rattle.cjc_card_semantics.specs.Machine.Classes.{External, or_else, token_named}
use Rattle.cjc_card_link.specs.Indices.{class_under}
use Rattle.cjc_card_link.proofs.exported.note_classes.Given as goal

abbrev pub invariant-loop-class : goal.invariant-loop-class
invariant-loop-class l = (x : List ℕ)
    → or_else (class_under l.names x) (option_map (External l.tree) (token_named (drop l.class-index l.classes) x))
    ≡ or_else (class_under l.fn.names x) (option_map (External l.tree) (token_named l.classes x))
