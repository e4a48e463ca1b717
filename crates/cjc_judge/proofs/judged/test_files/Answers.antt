use Rattle.cjc_judge.proofs.Files.{files_fine}
use Rattle.cjc_judge.proofs.Whole.{few_lines}
use Rattle.cjc_judge.proofs.judged.test_files.Goals as goal

pub read_files-requires-clause-few : goal.read_files-requires-clause-few
read_files-requires-clause-few c = few_lines _ _ c.items.ensures c.requires.read

pub returns-clause-unbroken : goal.returns-clause-unbroken
returns-clause-unbroken c =
    let all = rw (c.items.ensures, c.items-2.ensures) at c.in_ok-_trees.ensures in
    files_fine _ _ all.trees all.spelt
