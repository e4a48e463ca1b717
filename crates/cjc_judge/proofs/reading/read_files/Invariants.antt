use Rattle.cjc_judge.proofs.Files.{ReadSoFar}
use Rattle.cjc_judge.proofs.reading.read_files.Given as goal

abbrev pub invariant-loop-at : goal.invariant-loop-at
invariant-loop-at l = ReadSoFar l.lines l.files l.at l.trees
