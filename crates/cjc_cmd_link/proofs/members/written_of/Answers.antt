use Rattle.std.proofs.Common.{[], refl, sym, subst, ap, ◌∙◌}
use Rattle.cjc_cmd_card.proofs.ReportLaws.Free.{few_cells, few_exported, has_tokens}
use Rattle.cjc_cmd_card.specs.declared.running.input.Input.{Input}
use Rattle.cjc_cmd_card.specs.LowerJudge.Rules.{has_applets}
use Rattle.cjc_link_semantics.specs.Tokens.Rules.{FewExported, token_breaks}
use Rattle.cjc_cmd_link.specs.Members.{package_with}
use Rattle.cjc_cmd_link.specs.Working.{world_of}
use Rattle.cjc_cmd_link.proofs.members.written_of.Goals as goal

pub tokens_of-requires-clause-exported : goal.tokens_of-requires-clause-exported
tokens_of-requires-clause-exported c =
    let r = c.requires in
    subst (λ (x : Input). FewExported (let list = x.list in has_applets list) c.args.member.now.ready.judged.world)
    (sym r.2.input_is) (few_exported r.0 [] c.args.member.now.ready r.2.is_ready)

pub tokens_of-requires-clause-cells : goal.tokens_of-requires-clause-cells
tokens_of-requires-clause-cells c = let r = c.requires in few_cells r.0 [] c.args.member.now.ready r.2.is_ready

pub tokens_of-requires-clause-unbroken : goal.tokens_of-requires-clause-unbroken
tokens_of-requires-clause-unbroken c =
    let r = c.requires in
    ap (λ (x : Input). token_breaks (let list = x.list in has_applets list) c.args.member.now.ready.judged.world)
    r.2.input_is ∙ has_tokens r.0 [] c.args.member.now.ready r.2.is_ready

pub returns : goal.returns
returns c = c.export_of.ensures (package_with c.args.member.now.input.now.list (world_of c.args.member.now)) refl refl
