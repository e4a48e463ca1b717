use Rattle.std.proofs.Common.{◌≡◌, drop, get_or}
use Rattle.cjc_subset.specs.Places.{class_files, nowhere}
use Rattle.cjc_subset.proofs.places.file_of.Given as goal

abbrev pub invariant-loop-place : goal.invariant-loop-place
invariant-loop-place l = get_or (class_files l.place (drop l.place l.lines)) l.left nowhere ≡ get_or (class_files 0 l.lines) l.class nowhere
