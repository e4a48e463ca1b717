use Rattle.std.proofs.Common.{◌≡◌, ◌∙◌, sym, List, Option, length, subst}
use Rattle.std.specs.List.{range_with_len}
use Rattle.cjc_fixpoint.specs.Tables.{IsLeastClosed}
use Rattle.cjc_fixpoint.proofs.AllMarked.{all_are, all_meet, all_least}
use Rattle.cjc_types.specs.declared.state.State.{State}
use Rattle.cjc_types.specs.Flow.{Body, type_flow}
use Rattle.cjc_types.specs.Working.FlowLaws.{type_flow_stays}
use Rattle.cjc_types.proofs.inference.infer_code.Goals as goal

pub solve-requires-clause-marks : goal.solve-requires-clause-marks
solve-requires-clause-marks c = rw c.in_ok-marks.ensures (all_are (length c.args.insns.now))

pub solve-requires-clause-stays : goal.solve-requires-clause-stays
solve-requires-clause-stays c =
    let b : Body = record {
      class = c.items.result.now;
      flags = c.args.method.now.flags;
      desc = c.items-2.result.now;
      max_stack = c.tree.inside.max_stack;
      max_locals = c.tree.inside.max_locals;
      catches = c.items-3.result.now;
      insns = c.args.insns.now;
    } in
    type_flow_stays b

pub solve-requires-clause-meets : goal.solve-requires-clause-meets
solve-requires-clause-meets c =
    let b : Body = record {
      class = c.items.result.now;
      flags = c.args.method.now.flags;
      desc = c.items-2.result.now;
      max_stack = c.tree.inside.max_stack;
      max_locals = c.tree.inside.max_locals;
      catches = c.items-3.result.now;
      insns = c.args.insns.now;
    } in
    rw c.in_ok-marks.ensures (all_meet (type_flow b) (length c.args.insns.now) (type_flow_stays b))

pub judged-requires : goal.judged-requires
judged-requires c =
    let b : Body = record {
      class = c.items.result.now;
      flags = c.args.method.now.flags;
      desc = c.items-2.result.now;
      max_stack = c.tree.inside.max_stack;
      max_locals = c.tree.inside.max_locals;
      catches = c.items-3.result.now;
      insns = c.args.insns.now;
    } in
    let all : c.in_ok-table.table.marks ≡ range_with_len 0 (length c.args.insns.now) = c.in_ok-table.ensures.marks ∙ c.in_ok-marks.ensures in
    let least : IsLeastClosed (type_flow b) (length c.args.insns.now) c.in_ok-table.table.rows = all_least (type_flow b) (length c.args.insns.now) c.in_ok-table.table.marks c.in_ok-table.table.rows all c.in_ok-table.ensures.stands in
    subst (λ (rows : List (Option State)). IsLeastClosed (type_flow b) (length c.args.insns.now) rows) (sym c.into_vec.ensures) least
