use Rattle.std.proofs.Common.{List, ap, ◌∙◌}
use Rattle.std.specs.Prelude.{flat_map, slice_get}
use Rattle.cjc_check_rules.specs.Spots.{in_info, unless}
use Rattle.cjc_check_rules.specs.Codes.{Code}
use Rattle.cjc_check_rules.specs.Instructions.{IndexOperand, indices, is_entry_for}
use Rattle.cjc_components.specs.Methods.{first_method}
use Rattle.cjc_components.specs.Names.{names, pool_entries}
use Rattle.cjc_check_proof.specs.Code.Codes.{codes_of}
use Rattle.cjc_check_proof.proofs.CodeLaws.Cut.{codes_are}
use Rattle.cjc_check_proof.proofs.CodeLaws.Entries.{codes_right, none_wrong}
use Rattle.cjc_check_proof.proofs.CodeLaws.Held.{keys_held}
use Rattle.cjc_check_proof.proofs.code.indices_name_entries.Goals as goal

pub returns : goal.returns
returns c p apart order can kinds =
    let entries = pool_entries p in
    ap (λ (cs : List Code). flat_map (λ (i : IndexOperand). unless (is_entry_for (slice_get entries i.index) i.opcode)
    (in_info 7 i.at)) (flat_map (λ (code : Code). flat_map indices code.instructions) cs)) (codes_are p apart order
    can)
    ∙ none_wrong (names p) entries (flat_map (λ (code : Code). flat_map indices code.instructions) (codes_of p))
    (codes_right (names p) entries (first_method p.methods) p.methods can kinds (keys_held p))
