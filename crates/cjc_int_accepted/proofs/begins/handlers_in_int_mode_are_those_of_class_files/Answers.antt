use Rattle.cjc_int_accepted.proofs.HandlersLaws.{handler_for}
use Rattle.cjc_int_accepted.proofs.begins.handlers_in_int_mode_are_those_of_class_files.Goals as goal

pub returns : goal.returns
returns c = handler_for
