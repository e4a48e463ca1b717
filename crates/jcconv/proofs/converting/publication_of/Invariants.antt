use Rattle.std.proofs.Common.{◌≡◌, map, take}
use Rattle.jcconv.specs.Convert.{below, file_line}
use Rattle.jcconv.proofs.converting.publication_of.Given as goal

abbrev pub invariant-loop-file : goal.invariant-loop-file
invariant-loop-file l = (l.files ≡ map (below l.dir) (take l.file-index l.made)) × (l.lines ≡ map file_line (take l.file-index l.made))
