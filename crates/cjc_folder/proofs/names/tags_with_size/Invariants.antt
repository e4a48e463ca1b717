use Rattle.std.proofs.Common.{◌≡◌, ◌++◌}
use Rattle.cjc_folder.specs.Reads.{tags_with_size}
use Rattle.cjc_folder.proofs.Along.{tags_from}
use Rattle.cjc_folder.proofs.names.tags_with_size.Given as goal

abbrev pub invariant-loop-tag : goal.invariant-loop-tag
invariant-loop-tag l = l.tags ++ tags_from l.sizes l.tag ≡ tags_with_size l.sizes
