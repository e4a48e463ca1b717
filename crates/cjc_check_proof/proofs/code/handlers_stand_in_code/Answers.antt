use Rattle.std.proofs.Common.{List, ap, arith}
use Rattle.std.specs.List.{find}
use Rattle.cjc_check_rules.specs.Codes.{Code}
use Rattle.cjc_check_rules.specs.Instructions.{has_start}
use Rattle.cjc_components.specs.Methods.{first_method}
use Rattle.cjc_components.specs.Names.{names, pool_entries}
use Rattle.cjc_token_proof.specs.Components.Whole.{whole}
use Rattle.cjc_token_proof.proofs.ComponentsLaws.Tests.{none_in_both}
use Rattle.cjc_check_proof.proofs.CodeLaws.Cut.{codes_are}
use Rattle.cjc_check_proof.proofs.CodeLaws.Entries.{all_told}
use Rattle.cjc_check_proof.proofs.CodeLaws.Handlers.{handlers_stand, targets_rise}
use Rattle.cjc_check_proof.proofs.CodeLaws.Held.{keys_held}
use Rattle.cjc_check_proof.proofs.code.handlers_stand_in_code.Goals as goal

pub returns : goal.returns
returns c p apart order can lie =
    let n = names p in
    let at = first_method p.methods in
    none_in_both (targets_rise n at 0 1 p.methods (omega arith) can)
    (handlers_stand (whole p) n at 1 p.methods can lie (all_told n (pool_entries p) p.methods (keys_held p))
    (λ s le. ap (λ (cs : List Code). find (λ (code : Code). has_start code s) cs) (codes_are p apart order can)))
