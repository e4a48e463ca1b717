use Rattle.cjc_cmd_check.proofs.FolderLaws.Along.{names_passed, names_taken, names_all}
use Rattle.cjc_cmd_check.proofs.folder.names.export_names.Goals as goal
use Rattle.cjc_cmd_check.proofs.folder.names.export_names.Goals.{then-not-line+in_ok-copy_of+in_ok-push, else-not-line}

pub loop-line-preserved : goal.loop-line-preserved
loop-line-preserved c = elim c.if-not-line.branch [
  | then-not-line+in_ok-copy_of+in_ok-push w ↦ rw (
    w.names-is,
    w.in_ok-push.ensures.ok,
    w.in_ok-copy_of.ensures,
    w.items.ensures,
  ) (names_taken c.loop-line.line-index c.line-item.result c.args.lines.now c.loop-line.names _
      c.loop-line-test.true c.line-item.is w.if-not-line.true c.loop-line.invariant)
  | else-not-line w ↦ rw w.names-is (names_passed c.loop-line.line-index c.line-item.result c.args.lines.now
      c.loop-line.names _ c.loop-line-test.true c.line-item.is w.if-not-line.false c.loop-line.invariant)
]

pub returns : goal.returns
returns c = names_all c.loop-line.line-index c.args.lines.now c.loop-line.names _ c.loop-line-test.false
    c.loop-line.invariant
