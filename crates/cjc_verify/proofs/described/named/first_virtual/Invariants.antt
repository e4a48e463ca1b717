use Rattle.std.proofs.Common.{◌≡◌, drop}
use Rattle.cjc_card_calls.specs.Files.Files.{classes_at}
use Rattle.cjc_world.specs.ExportFile.Supers.{virtual_method}
use Rattle.cjc_verify.specs.Named.{first_of}
use Rattle.cjc_verify.proofs.described.named.first_virtual.Given as goal

abbrev pub invariant-loop-class : goal.invariant-loop-class
invariant-loop-class l =
    first_of (virtual_method l.token) (classes_at (drop l.class-index l.line)) ≡ first_of (virtual_method l.token)
    (classes_at l.line)
