use Rattle.cjc_int_theorem.proofs.Narrowed.{is_narrowed}
use Rattle.cjc_int_theorem.proofs.alike.packages_by_modes_find_their_names.Goals as goal

pub returns : goal.returns
returns c = is_narrowed
