use Rattle.std.proofs.Common.{◌+◌, take}
use Rattle.std.specs.Prelude.{option_map}
use Rattle.cjc_bytes.specs.Told.{break_of, file_place_of}
use Rattle.cjc_subset.specs.Exports.{listed_class_breaks}
use Rattle.cjc_bytes.specs.Breaks.{IsFirstOf, each}
use Rattle.cjc_subset.proofs.exports.listed_break.Given as goal

abbrev pub invariant-loop-place : goal.invariant-loop-place
invariant-loop-place l = IsFirstOf (each (λ i x. listed_class_breaks (file_place_of l.file) (i + 1) x)
    (take l.place l.classes)) (option_map break_of l.least)
