use Rattle.std.proofs.Common.{◌≡◌, ℕ, List, drop}
use Rattle.cjc_card_semantics.specs.ExportFile.Supers.{class_named}
use Rattle.cjc_card_semantics.specs.Machine.Classes.{or_else}
use Rattle.cjc_card_calls.specs.Files.Named.{class_under}
use Rattle.cjc_card_calls.proofs.files.named.ByName.keep_all.Given as goal

abbrev pub invariant-loop-class : goal.invariant-loop-class
invariant-loop-class l = (x : List ℕ) → or_else (class_under l.self x) (class_named (drop l.class-index l.classes) x)
    ≡ or_else (class_under l.fn.self x) (class_named l.classes x)
