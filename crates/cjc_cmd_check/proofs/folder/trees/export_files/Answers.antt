use Rattle.std.proofs.Common.{◌<◌, arith, length, refl}
use Rattle.std.proofs.lemmas.Result.{err_from_is_err_and}
use Rattle.cjc_cmd_check.proofs.FolderLaws.Files.{left_start, left_more, left_all, left_breaks, trees_more, trees_all}
use Rattle.cjc_cmd_check.proofs.folder.trees.export_files.Goals as goal

pub returns-in_err-read-clause-refused : goal.returns-in_err-read-clause-refused
returns-in_err-read-clause-refused c =
    let p = err_from_is_err_and c.from_residual.result c.from_residual.ensures.1 in
    let files = c.args.files.now in
    let names : c.loop-at.at < length c.args.names.now = omega (arith, c.requires.count, c.loop-at-test.true) in
    let breaks = rw c.items.ensures at c.in_err-read.ensures.refused in
    rw (p.1, p.2) (left_breaks c.loop-at.at c.args.names.now c.index-names-at.result c.index-files-at.result files _
    names c.loop-at-test.true c.index-names-at.is c.index-files-at.is (rw c.items-in-loop-at.ensures at breaks)
    c.loop-at.invariant.1)

pub loop-at-init : goal.loop-at-init
loop-at-init c = (rw c.new-trees.ensures refl, left_start c.args.names.now c.args.files.now)

pub loop-at-preserved : goal.loop-at-preserved
loop-at-preserved c =
    let files = c.args.files.now in
    let names : c.loop-at.at < length c.args.names.now = omega (arith, c.requires.count, c.loop-at-test.true) in
    let spelt = rw c.items-in-loop-at.ensures at c.in_ok-read.ensures.found in (
      rw c.in_ok-push.ensures.ok (trees_more c.loop-at.at c.index-files-at.result files _ c.loop-at.trees _
          c.loop-at-test.true c.index-files-at.is spelt c.loop-at.invariant.0),
      left_more c.loop-at.at c.args.names.now c.index-files-at.result files _ names c.loop-at-test.true
          c.index-files-at.is spelt c.loop-at.invariant.1,
    )

pub returns-clause-trees : goal.returns-clause-trees
returns-clause-trees c = trees_all c.loop-at.at c.args.files.now c.loop-at.trees _ c.loop-at-test.false
    c.loop-at.invariant.0

pub returns-clause-unbroken : goal.returns-clause-unbroken
returns-clause-unbroken c = left_all c.loop-at.at c.args.names.now c.args.files.now c.loop-at-test.false
    c.loop-at.invariant.1
