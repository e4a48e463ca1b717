use Rattle.cjc_types.proofs.Passing.{ascend}
use Rattle.cjc_types.proofs.repeats.repeats_at.Goals as goal

pub is_marked-requires : goal.is_marked-requires
is_marked-requires c = ascend c.args.method.now c.args.marks.now c.requires
