use Rattle.std.proofs.Common.{◌<◌, arith, length, ◌∙◌}
use Rattle.std.proofs.lemmas.Result.{err_from_is_err_and}
use Rattle.cjc_cmd_check.proofs.FolderLaws.Files.{component_left, component_more, component_all, foremost_in_front}
use Rattle.cjc_cmd_check.proofs.FolderLaws.Files.{with_more, with_all}
use Rattle.cjc_cmd_check.proofs.folder.trees.put_others.Goals as goal

pub returns-in_err-component-clause-refused : goal.returns-in_err-component-clause-refused
returns-in_err-component-clause-refused c =
    let p = err_from_is_err_and c.from_residual.result c.from_residual.ensures.1 in
    let tags : c.loop-at.at < length c.args.tags.now = omega (arith, c.requires.count, c.loop-at-test.true) in
    let left = c.loop-at.invariant.1 ∙ component_left c.loop-at.at c.args.tags.now c.index-files-at.result
    c.args.files.now tags c.loop-at-test.true c.index-files-at.is in
    let here = rw c.items.ensures at c.in_err-component.ensures.refused in
    rw (p.1, p.2) (foremost_in_front _ _ _ _ left here)

pub loop-at-preserved : goal.loop-at-preserved
loop-at-preserved c =
    let tags : c.loop-at.at < length c.args.tags.now = omega (arith, c.requires.count, c.loop-at-test.true) in
    let read = rw c.items.ensures at c.in_ok-component.ensures.found in (
      rw c.put.ensures (with_more c.loop-at.at c.args.tags.now c.index-files-at.result c.args.files.now
          c.in_ok-component.component c.loop-at.cap _ tags c.loop-at-test.true c.index-files-at.is read
          c.loop-at.invariant.0),
      component_more c.loop-at.at c.args.tags.now c.index-files-at.result c.args.files.now c.in_ok-component.component _
          tags c.loop-at-test.true c.index-files-at.is read c.loop-at.invariant.1,
    )

pub returns-clause-put : goal.returns-clause-put
returns-clause-put c = with_all c.loop-at.at c.args.tags.now c.args.files.now c.loop-at.cap _ c.loop-at-test.false
    c.loop-at.invariant.0

pub returns-clause-unbroken : goal.returns-clause-unbroken
returns-clause-unbroken c = component_all c.loop-at.at c.args.tags.now c.args.files.now _ c.loop-at-test.false
    c.loop-at.invariant.1
