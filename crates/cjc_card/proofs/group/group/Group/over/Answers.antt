use Rattle.cjc_card.proofs.group.group.Group.over.Goals as goal

pub invariant_of-result : goal.invariant_of-result
invariant_of-result c = record {
  are_kept = c.requires.kept;
  are_lines = c.in_ok-lines.ensures;
  are_files = c.in_ok-files.ensures;
  are_near = c.requires.near;
}
