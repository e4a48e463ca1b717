use Rattle.cjc_tokens.proofs.Overlays.{declared-token}
use Rattle.cjc_tokens.proofs.listed.token_at.Goals as goal

pub returns-in-Declared : goal.returns-in-Declared
returns-in-Declared c = λ d. declared-token c.args.class c.in-Declared.field-0 c.in-Declared.field-1 c.args.place d
    c.in-Declared.is c.requires
