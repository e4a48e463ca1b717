use Rattle.std.proofs.Common.{sym, ◌∙◌}
use Rattle.cjc_cmd_check.proofs.FolderLaws.Along.{tags_start, tags_taken, tags_passed, tags_all}
use Rattle.cjc_cmd_check.proofs.folder.names.tags_with_size.Goals as goal
use Rattle.cjc_cmd_check.proofs.folder.names.tags_with_size.Goals.{then-has_size+in_ok-push, else-has_size}

pub loop-tag-init : goal.loop-tag-init
loop-tag-init c = rw c.new-tags.ensures (tags_start c.args.sizes.now)

pub loop-tag-preserved : goal.loop-tag-preserved
loop-tag-preserved c = elim c.if-has_size.branch [
  | then-has_size+in_ok-push w ↦ rw (w.tags-is, w.in_ok-push.ensures.ok) (tags_taken c.args.sizes.now c.loop-tag.tag
      c.loop-tag.tags _ c.loop-tag-test.true (sym c.has_size.ensures ∙ w.if-has_size.true) c.loop-tag.invariant)
  | else-has_size w ↦ rw w.tags-is (tags_passed c.args.sizes.now c.loop-tag.tag c.loop-tag.tags _ c.loop-tag-test.true
      (sym c.has_size.ensures ∙ w.if-has_size.false) c.loop-tag.invariant)
]

pub returns : goal.returns
returns c = tags_all c.args.sizes.now c.loop-tag.tag c.loop-tag.tags _ c.loop-tag-test.false c.loop-tag.invariant
