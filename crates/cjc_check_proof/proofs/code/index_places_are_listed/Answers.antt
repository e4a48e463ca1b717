use Rattle.std.proofs.Common.{◌≡◌, ℕ, ◌+◌, ◌<◌, ◌++◌, length, sym, ap, ◌∙◌, arith}
use Rattle.std.specs.Prelude.{flat_map}
use Rattle.cjc_check_rules.specs.Codes.{Code}
use Rattle.cjc_check_rules.specs.Instructions.{all_indices, indices}
use Rattle.cjc_check_rules.specs.Locations.{catch_places, distances, places_of, wanted_ones, wanted_twos}
use Rattle.cjc_world.specs.Order.{class_order}
use Rattle.cjc_components.specs.Package.{Package, world}
use Rattle.cjc_components.specs.Methods.{first_method, placed_methods}
use Rattle.cjc_components.specs.Names.{names}
use Rattle.cjc_components.specs.Components.{places_in}
use Rattle.cjc_token_proof.specs.Components.OwnNames.{HaveOwnNames}
use Rattle.cjc_token_proof.proofs.ComponentsLaws.Tests.{none_in_both}
use Rattle.cjc_token_proof.specs.Components.Whole.{whole}
use Rattle.cjc_check_proof.specs.Code.Written.{AllWritable}
use Rattle.cjc_token_proof.specs.Components.Methods.{HasMethods}
use Rattle.cjc_check_proof.proofs.CodeLaws.Cut.{codes_are}
use Rattle.cjc_check_proof.proofs.CodeLaws.Locations.{all_listed, codes_indexed}
use Rattle.cjc_check_proof.proofs.code.index_places_are_listed.Goals as goal

-- the places of the indices of so many bytes are those of the methods
same_places : (k : ℕ) → 0 < k → (p : Package) → HaveOwnNames (class_order (world p)) → HasMethods p
    → AllWritable (names p) p.methods
    → places_of k (all_indices (whole p)) ≡ flat_map (places_in p k) (placed_methods p)
same_places k some p apart order can =
    ap (λ cs. places_of k (flat_map (λ (c : Code). flat_map indices c.instructions) cs)) (codes_are p apart order can)
    ∙ codes_indexed k some (names p) (first_method p.methods) p.methods can

pub returns : goal.returns
returns c p apart order can =
    let w = whole p in
    let ones = same_places 1 (omega arith) p apart order can in
    let twos = same_places 2 (omega arith) p apart order can in
    none_in_both
    (all_listed 0 w.locations.one_byte (wanted_ones w) (ap (distances 0) (sym ones)))
    (all_listed (2 + length w.locations.one_byte) w.locations.two_byte (wanted_twos w)
    (ap (λ xs. distances 0 (catch_places 1 w.method.handlers ++ xs)) (sym twos)))
