-- From a request to the command that does it: what it reads, and what is made of that.
use Rattle.cjc_shelf.specs.Command.Answer.{Command}
use Rattle.cjc_cmd_verify.specs.CmdCard.Report.Runs as by_token
use Rattle.cjc_cmd_compat.specs.CmdCheck.Check.{Checks, plan_of_check}
use Rattle.cjc_cmd_compat.specs.Compat.{Compares, plan_of_compat}
use Rattle.cjc_cmd_verify.specs.CmdJvm.Runs.{Runs, plan_of_jvm}
use Rattle.cjc_cmd_make.specs.Report.Runs as summed
use Rattle.cjc_cmd_verify.specs.Verify.{Verifies, plan_of_verify}
use Rattle.cjc_cmd_link.specs.Runs.{RunsByName, RunsByToken, plan_of_link}
use Rattle.cjc_run.specs.Request.{Request, card, check, compat, convert, jvm, link, linkjvm, make, verify}
use Rattle.cjc_run.specs.Convert.{plan_of_convert, Makes}

-- of a request what is read, and what is made of that
abbrev pub command_of : Request → Command
command_of (convert list dir) = record { Inputs = _; plan = plan_of_convert list; Makes = Makes dir }
command_of (check list dir) = record { Inputs = _; plan = plan_of_check list dir; Makes = Checks }
command_of (jvm list script n) = record { Inputs = _; plan = plan_of_jvm list script; Makes = Runs n script }
command_of (card list dir script n) = record {
  Inputs = _;
  plan = by_token.plan_of_report list dir script;
  Makes = by_token.Runs n script;
}
command_of (make number size) = record { Inputs = _; plan = summed.plan_of_make number size; Makes = summed.Makes }
command_of (verify list dir) = record { Inputs = _; plan = plan_of_verify list dir; Makes = Verifies }
command_of (link group script n) = record {
  Inputs = _;
  plan = plan_of_link group script;
  Makes = RunsByToken n group script;
}
command_of (linkjvm group script n) = record {
  Inputs = _;
  plan = plan_of_link group script;
  Makes = RunsByName n group script;
}
command_of (compat old new) = record { Inputs = _; plan = plan_of_compat old new; Makes = Compares old new }
