use Rattle.std.proofs.Common.{[], sym, subst, ap, ◌∙◌, map}
use Rattle.cjc_cmd_card.proofs.ReportLaws.Free.{few_cells, few_exported, has_tokens}
use Rattle.cjc_cmd_card.specs.declared.running.input.Input.{Input}
use Rattle.cjc_link_semantics.specs.Components.Paired.Naming.{class_names}
use Rattle.cjc_cmd_card.specs.LowerJudge.Rules.{has_applets}
use Rattle.cjc_link_semantics.specs.Tokens.Rules.{FewExported, token_breaks}
use Rattle.cjc_group.specs.World.Classes.{all_classes}
use Rattle.cjc_group.specs.World.Order.{class_order}
use Rattle.cjc_cmd_link.proofs.tokens.names_of.Goals as goal

pub tokens_of-requires-clause-exported : goal.tokens_of-requires-clause-exported
tokens_of-requires-clause-exported c =
    let r = c.requires in
    subst (λ (x : Input). FewExported (let list = x.list in has_applets list) c.args.member.now.ready.judged.world)
    (sym r.1.input_is) (few_exported r.0 [] c.args.member.now.ready r.1.is_ready)

pub tokens_of-requires-clause-cells : goal.tokens_of-requires-clause-cells
tokens_of-requires-clause-cells c = let r = c.requires in few_cells r.0 [] c.args.member.now.ready r.1.is_ready

pub tokens_of-requires-clause-unbroken : goal.tokens_of-requires-clause-unbroken
tokens_of-requires-clause-unbroken c =
    let r = c.requires in
    ap (λ (x : Input). token_breaks (let list = x.list in has_applets list) c.args.member.now.ready.judged.world)
    r.1.input_is ∙ has_tokens r.0 [] c.args.member.now.ready r.1.is_ready

pub returns : goal.returns
returns c =
    let world = c.args.member.now.ready.judged.world in
    record {
      classes = c.in_ok-classes.ensures ∙ ap (λ a. map (class_names world a) (class_order (all_classes world)))
          c.in_ok-tokens.ensures;
      cells = c.in_ok-cells.ensures;
    }
