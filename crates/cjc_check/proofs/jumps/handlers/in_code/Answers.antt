use Rattle.std.proofs.Common.{◌∙◌, ap, sym}
use Rattle.std.specs.Prelude.{option_map}
use Rattle.std.specs.Option.{option_copied}
use Rattle.cjc_check.specs.Codes.Bodies.{code_of}
use Rattle.cjc_check.specs.declared.codes.code.Body.{Body}
use Rattle.cjc_check.proofs.JumpsLaws.Stands.{none_stands}
use Rattle.cjc_check.proofs.jumps.handlers.in_code.Goals as goal

pub returns-in-None : goal.returns-in-None
returns-in-None c = none_stands c.args.at c.args.handler _ (ap (λ o. option_map code_of (option_copied {T = Body} o))
    (sym c.in-None.is) ∙ c.body_with.ensures.is)
