use Rattle.std.proofs.Common.{sym, ap, ◌∙◌}
use Rattle.cjc_world.specs.Classes.{all_classes}
use Rattle.cjc_world.specs.Files.{Files}
use Rattle.cjc_world.specs.Order.{method_order}
use Rattle.cjc_check_proof.proofs.promises.packages_have_their_methods.Goals as goal

pub returns : goal.returns
returns c list files codes rows p is = is.members ∙ ap (λ (f : Files). method_order (all_classes f)) (sym is.by_files)
