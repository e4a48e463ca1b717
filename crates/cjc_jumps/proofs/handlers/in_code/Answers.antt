use Rattle.std.proofs.Common.{◌∙◌, ap, sym}
use Rattle.std.specs.Prelude.{option_map}
use Rattle.std.specs.Option.{option_copied}
use Rattle.cjc_codes.specs.Bodies.{code_of}
use Rattle.cjc_codes.specs.declared.code.Body.{Body}
use Rattle.cjc_jumps.proofs.Stands.{none_stands}
use Rattle.cjc_jumps.proofs.handlers.in_code.Goals as goal

pub returns-in-None : goal.returns-in-None
returns-in-None c = none_stands c.args.at c.args.handler _ (ap (λ o. option_map code_of (option_copied {T = Body} o)) (sym c.in-None.is) ∙ c.body_with.ensures.is)
