use Rattle.std.proofs.Common.{◌∙◌, ap, length}
use Rattle.cjc_convert.proofs.ConversionLaws.Handlers.{in_caps}
use Rattle.cjc_convert.proofs.sizes.handler_count.Goals as goal

pub returns-in-Some : goal.returns-in-Some
returns-in-Some c = λ p is. ap length c.items.ensures ∙ in_caps p c.args.caps.now c.in-Some.method is c.in-Some.is
