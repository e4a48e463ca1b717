use Rattle.std.proofs.Common.{◌≡◌, None, sym, subst}
use Rattle.cjc_capwrite.specs.Files.{limit_of}
use Rattle.cjc_capwrite.specs.Writable.{IsSpelt}
use Rattle.cjc_capwrite.proofs.TreeWritten.{tree_spelt}
use Rattle.cjc_capwrite.proofs.files.write.Goals as goal

pub returns-in_ok-files_of-in-None-clause-spelt : goal.returns-in_ok-files_of-in-None-clause-spelt
returns-in_ok-files_of-in-None-clause-spelt c =
    let kept : limit_of c.args.tree.now ≡ None = sym c.in-None.ensures in
    subst (IsSpelt c.args.tree.now) (sym c.in_ok-files_of-in-None.ensures) (tree_spelt c.args.tree.now
    (c.requires.writable kept) kept c.requires.methods)
