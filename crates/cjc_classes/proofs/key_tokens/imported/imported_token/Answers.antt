use Rattle.std.proofs.Common.{◌≡◌, ◌∙◌}
use Rattle.std.proofs.lemmas.Result.{IfOk-weaker}
use Rattle.cjc_world.specs.Classes.{all_classes}
use Rattle.cjc_world.specs.Working.Known.{class_of}
use Rattle.cjc_tokens.specs.Lines.{line_at}
use Rattle.cjc_tokens.specs.Slots.{shown_token}
use Rattle.cjc_classes.specs.Walks.{called}
use Rattle.cjc_classes.proofs.key_tokens.imported.imported_token.Goals as goal

pub returns : goal.returns
returns c =
    let s = called c.args.name.now c.args.desc.now in
    IfOk-weaker c.as_byte.result (λ t. t ≡ c.in_ok-token.token) (λ t. t
    ≡ shown_token (line_at (all_classes c.args.world.now) (class_of c.args.class)) s)
    (λ t h. h ∙ c.in_ok-token.ensures) c.as_byte.ensures
