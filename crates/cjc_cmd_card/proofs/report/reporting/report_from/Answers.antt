use Rattle.std.proofs.Common.{◌≡◌, ◌∙◌, IfOk, ap, map, subst, sym}
use Rattle.cjc_pairing.specs.CardSemantics.Machine.ByToken.{run as run_by_token}
use Rattle.cjc_card.specs.CardLink.Names.{class_names_of}
use Rattle.cjc_pairing.specs.CardFrame.Kinds.{cell_name_of}
use Rattle.cjc_cmd_jvm.specs.Judge.Rules.{has_applets}
use Rattle.cjc_pairing.specs.CheckIndex.Lookup.Parts.{complete_of}
use Rattle.cjc_shape.specs.Components.Paired.Naming.{class_names}
use Rattle.cjc_pairing.specs.World.Classes.{all_classes}
use Rattle.cjc_pairing.specs.World.Order.{class_order}
use Rattle.cjc_cmd_card.proofs.ReportLaws.Free.{few_cells, few_exported, has_tokens}
use Rattle.cjc_cmd_card.proofs.ReportLaws.Whole.{loaded_so}
use Rattle.cjc_cmd_check.specs.List.Listed.{ListTree}
use Rattle.cjc_shape.specs.Tokens.Rules.{FewExported, token_breaks}
use Rattle.cjc_cmd_card.proofs.report.reporting.report_from.Goals as goal

pub returns : goal.returns
returns c =
    let world = c.args.ready.now.judged.world in
    let named = ap (map class_names_of) c.items.ensures ∙ c.in_ok-classes.ensures
    ∙ ap (λ t. map (class_names world t) (class_order (all_classes world))) c.in_ok-tokens.ensures in
    let celled = ap (map cell_name_of) c.items-2.ensures ∙ c.in_ok-cells.ensures in
    let exported = c.items-3.ensures ∙ c.exports.ensures in
    let loaded = loaded_so (has_applets c.args.list.now) world c.args.image.now (complete_of c.args.parts.now) _ _ _
    named celled exported in
    subst (λ l. IfOk c.run_with.result (λ report. report ≡ run_by_token l c.args.ready.now.script c.args.n)) loaded
    c.run_with.ensures

pub tokens_of-requires-clause-exported : goal.tokens_of-requires-clause-exported
tokens_of-requires-clause-exported c =
    let r = c.requires.ready in
    subst (λ (l : ListTree). FewExported (has_applets l) c.args.ready.now.judged.world) r.2 (few_exported r.0 r.1
    c.args.ready.now r.3)

pub tokens_of-requires-clause-cells : goal.tokens_of-requires-clause-cells
tokens_of-requires-clause-cells c = let r = c.requires.ready in few_cells r.0 r.1 c.args.ready.now r.3

pub tokens_of-requires-clause-unbroken : goal.tokens_of-requires-clause-unbroken
tokens_of-requires-clause-unbroken c =
    let r = c.requires.ready in
    let world = c.args.ready.now.judged.world in
    ap (λ (l : ListTree). token_breaks (has_applets l) world) (sym r.2) ∙ has_tokens r.0 r.1 c.args.ready.now r.3
