use Rattle.std.proofs.Common.{List, subst, sym, ◌∙◌}
use Rattle.cjc_bytes.specs.Breaks.{Break, IsFirstRefusal}
use Rattle.cjc_cmd_check.proofs.CheckingLaws.Sizes.{small_cap}
use Rattle.cjc_cmd_check.proofs.CheckingLaws.Tested.{trees_break, trees_consistent}
use Rattle.cjc_cmd_check.proofs.checking.checking.test_trees.Goals as goal

pub check-requires : goal.check-requires
check-requires c = small_cap c.args.folder.now.parts c.args.trees.cap c.requires.small.parts c.requires.trees.cap

pub returns-in-Ok-clause-unbroken : goal.returns-in-Ok-clause-unbroken
returns-in-Ok-clause-unbroken c = sym (trees_break c.args.folder.now c.args.trees c.requires.trees)
    ∙ c.in-Ok.ensures.unbroken

pub returns-in-Ok-clause-consistent : goal.returns-in-Ok-clause-consistent
returns-in-Ok-clause-consistent c = trees_consistent c.args.folder.now c.args.trees c.requires.trees
    c.in-Ok.ensures.consistent
