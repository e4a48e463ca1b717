use Rattle.std.proofs.Common.{ap, ◌∙◌}
use Rattle.std.specs.Prelude.{flat_map}
use Rattle.cjc_check_rules.specs.Instructions.{code_spots}
use Rattle.cjc_components.specs.Methods.{first_method}
use Rattle.cjc_components.specs.Names.{names}
use Rattle.cjc_check_proof.proofs.CodeLaws.Cut.{codes_are}
use Rattle.cjc_check_proof.proofs.CodeLaws.Jumps.{codes_land}
use Rattle.cjc_check_proof.proofs.code.jumps_land_in_code.Goals as goal

pub returns : goal.returns
returns c p apart order can stays = ap (flat_map code_spots) (codes_are p apart order can)
    ∙ codes_land (names p) (first_method p.methods) p.methods can stays
