use Rattle.std.proofs.Common.{List, ap, ◌∙◌, Some}
use Rattle.std.specs.Prelude.{option_map}
use Rattle.cjc_card_semantics.specs.ExportFile.declared.tree.ExportClass.{ExportClass}
use Rattle.cjc_card_semantics.specs.Machine.Calls.{token_in_files}
use Rattle.cjc_card_semantics.specs.Machine.Dispatch.{Open}
use Rattle.cjc_card_calls.proofs.names.tokens.token_abroad.Goals as goal

pub returns-in-Some : goal.returns-in-Some
returns-in-Some c =
    ap (λ t. Some t) c.open_token.ensures
    ∙ ap (option_map (option_map Open)) (c.in-Some.ensures
    ∙ ap (λ (cs : List ExportClass). token_in_files cs c.args.id.now) (c.line.ensures
    ∙ c.requires c.args.tree c.args.number))

pub returns-in-None : goal.returns-in-None
returns-in-None c =
    ap (option_map (option_map Open)) (c.in-None.ensures
    ∙ ap (λ (cs : List ExportClass). token_in_files cs c.args.id.now) (c.line.ensures
    ∙ c.requires c.args.tree c.args.number))
