use Rattle.std.proofs.Common.{◌≡◌, ◌+◌, ℕ, suc, false, Option, IfOk, sym, ◌∙◌, subst, arith}
use Rattle.cjc_types.specs.Flow.{Body}
use Rattle.cjc_types.specs.Marks.{is_marked}
use Rattle.cjc_intervals.specs.Frames.{RangeState}
use Rattle.cjc_flow.specs.Working.KeptLaws.{kept_goes}
use Rattle.cjc_types.specs.Working.MarkLaws.{leads_unmarked, unmarked_none}
use Rattle.cjc_flow.proofs.ranging.RangingRepeating.pass.Goals as goal

pub returns : goal.returns
returns c =
    let b : Body = c.args.self.now.body in
    let at = c.args.at in
    let next : at + 1 ≡ suc at = omega arith in
    let unmarked : is_marked b (suc at) ≡ false = subst (λ (k : ℕ). is_marked b k ≡ false) next (sym c.is_marked.ensures
    ∙ c.if-is_marked.false) in
    subst (λ (o : Option RangeState). IfOk c.go_on.result (λ next. next ≡ o))
    (sym (kept_goes c.args.self.now at c.args.before (leads_unmarked b at (unmarked_none b (suc at) unmarked))
    unmarked)) c.go_on.ensures
