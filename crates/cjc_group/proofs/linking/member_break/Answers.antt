use Rattle.cjc_group.proofs.linking.member_break.Goals as goal

pub returns : goal.returns
returns c = c.first.ensures _ _ c.list_break-list.ensures c.in_ok-classes.ensures
