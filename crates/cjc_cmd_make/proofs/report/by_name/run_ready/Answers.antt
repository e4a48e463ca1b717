use Rattle.cjc_cmd_card.proofs.CmdJvmFree.{no_initialiser_breaks}
use Rattle.cjc_cmd_make.proofs.report.by_name.run_ready.Goals as goal

pub report_of-requires-clause-unbroken : goal.report_of-requires-clause-unbroken
report_of-requires-clause-unbroken c = no_initialiser_breaks c.args.input.now.list c.args.input.now.files
    c.args.ready.now.judged c.requires.judged
