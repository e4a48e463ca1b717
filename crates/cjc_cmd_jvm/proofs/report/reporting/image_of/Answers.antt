use Rattle.cjc_cmd_jvm.proofs.ReportLaws.Free.{refused_breaks}
use Rattle.cjc_cmd_jvm.proofs.report.reporting.image_of.Goals as goal

pub unreachable-requires : goal.unreachable-requires
unreachable-requires c = refused_breaks _ _ _ _ c.in-Err-Refused.field-0-is c.in-Err-Refused.ensures.refused c.requires
