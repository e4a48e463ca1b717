use Rattle.std.proofs.Common.{◌≡◌, map, take}
use Rattle.cjc_run.specs.Convert.{below, file_line}
use Rattle.cjc_run.proofs.converting.publication_of.Given as goal

abbrev pub invariant-loop-file : goal.invariant-loop-file
invariant-loop-file l = (l.files ≡ map (below l.dir) (take l.file-index l.made)) × (l.lines ≡ map file_line (take l.file-index l.made))
