use Rattle.cjc_int_alike.proofs.Named.{is_supported}
use Rattle.cjc_int_alike.proofs.packages.names_in_int_code_are_found_alike.Goals as goal

pub returns : goal.returns
returns c = is_supported
