use Rattle.cjc_cmd_jvm.proofs.RunningLaws.Gathers.{is_read}
use Rattle.cjc_cmd_card.proofs.RunningLaws.Package.{text_then}
use Rattle.cjc_cmd_card.proofs.running.package.gather_text.Goals as goal

pub gather_listed-requires : goal.gather_listed-requires
gather_listed-requires g c = is_read c.args.name.now c.args.text.now c.in-Ok.list c.requires c.in-Ok.ensures.found

pub returns-in-Ok-clause-gathers : goal.returns-in-Ok-clause-gathers
returns-in-Ok-clause-gathers g c = text_then _ _ _ _ _ _ _ c.in-Ok.ensures.exact c.gather_listed.ensures.gathers
