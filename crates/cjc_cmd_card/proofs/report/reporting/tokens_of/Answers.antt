use Rattle.std.proofs.Common.{◌≡◌, ap, sym, subst, ◌∙◌}
use Rattle.std.specs.Prelude.{length, nat_lt, List}
use Rattle.cjc_judge.specs.Rules.{has_applets}
use Rattle.cjc_list.specs.Listed.{ListTree}
use Rattle.cjc_tokens.specs.Rules.{FewExported, token_breaks}
use Rattle.cjc_cmd_card.proofs.ReportLaws.Free.{few_cells, few_exported, has_tokens, none_refused}
use Rattle.cjc_cmd_card.proofs.report.reporting.tokens_of.Goals as goal

pub assign-requires-clause-exported : goal.assign-requires-clause-exported
assign-requires-clause-exported c =
    let r = c.requires in
    rw c.in_ok-settings.ensures (subst (λ (l : ListTree). FewExported (has_applets l) c.args.ready.now.judged.world) r.2
    (few_exported r.0 r.1 c.args.ready.now r.3))

pub assign-requires-clause-cells : goal.assign-requires-clause-cells
assign-requires-clause-cells c = let r = c.requires in few_cells r.0 r.1 c.args.ready.now r.3

pub unreachable-requires : goal.unreachable-requires
unreachable-requires c =
    let r = c.requires in
    let world = c.args.ready.now.judged.world in
    let none = ap (λ (l : ListTree). token_breaks (has_applets l) world) (sym r.2)
    ∙ has_tokens r.0 r.1 c.args.ready.now r.3 in
    none_refused _ _ _ c.in-Err-Refused.field-0-is c.in-Err-Refused.ensures.refused
    (ap (λ v. token_breaks (nat_lt 0 (length v.applets)) world) c.in_ok-settings.ensures ∙ none)
