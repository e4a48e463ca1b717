use Rattle.cjc_cmd_card.proofs.ReportLaws.Free.{image_refused, no_initialiser_breaks}
use Rattle.cjc_cmd_card.proofs.report.reporting.image_of.Goals as goal

pub unreachable-requires : goal.unreachable-requires
unreachable-requires c =
    let r = c.requires in
    image_refused _ _ _ _ c.in-Err-Refused.field-0-is c.in-Err-Refused.ensures.refused (no_initialiser_breaks r.0 r.1
    c.args.ready.now r.2)
