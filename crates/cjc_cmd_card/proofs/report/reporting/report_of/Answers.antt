use Rattle.cjc_cmd_card.proofs.ReportLaws.Free.{no_initialiser_breaks}
use Rattle.cjc_cmd_card.proofs.report.reporting.report_of.Goals as goal

pub image_of-requires : goal.image_of-requires
image_of-requires c = let r = c.requires in no_initialiser_breaks c.args.input.now r.0 c.args.ready.now r.1
