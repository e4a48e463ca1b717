-- Components have as many classes, methods and static cells as the package for which they are written.
use Rattle.std.proofs.Common.{◌≡◌, ◌+◌, ◌==◌, ℕ, refl, sym, ap, ◌∙◌, Bool, true, false, List, [], ◌∷◌, ◌++◌}
use Rattle.std.proofs.Common.{length, length-append, map}
use Rattle.std.specs.Prelude.{◌&&◌, flat_map, sum_by}
use Rattle.std.specs.List.{AllByRecursion}
use Rattle.std.proofs.lemmas.List.{length-map}
use Rattle.std.proofs.lemmas.List.Sums.{sum_by-cons}
use Rattle.cjc_verified_proof.proofs.BytesNumbers.{number_same_number}
use Rattle.cjc_shape_proof.specs.LowerCheckProof.Code.Members.{CellsFit}
use Rattle.cjc_components.specs.LowerCheckRules.Complete.{described_size}
use Rattle.cjc_components.specs.LowerCheckRules.Spots.{beside, in_info, unless}
use Rattle.cjc_components.specs.LowerCheckRules.declared.spot.ComponentPlace.{ComponentPlace}
use Rattle.cjc_components.specs.Class.{class_entry, class_info, interface_entry}
use Rattle.cjc_components.specs.Descriptor.{class_descriptor, method_descriptor}
use Rattle.cjc_components.specs.Names.{class_ref}
use Rattle.cjc_components.specs.Package.{Package, world}
use Rattle.cjc_components.specs.Paired.Pairs.{ArePaired, cell_spots, count_spots, has_cells, head_of, info_count}
use Rattle.cjc_components.specs.Paired.Pairs.{methods_spots, number_bytes}
use Rattle.cjc_components.specs.Statics.{default_size, other_values, reference_count, size_of_field, static_field}
use Rattle.cjc_components.specs.Statics.{value_bytes}
use Rattle.cjc_verified_proof.specs.TokenProof.Components.Whole.{whole}
use Rattle.cjc_components.specs.World.Classes.{Class}
use Rattle.cjc_shape_proof.specs.World.Order.{class_order, in_order, methods_of_class}
use Rattle.cjc_components.specs.World.declared.image.StaticImage.{StaticImage}
use Rattle.cjc_components.specs.World.declared.image.ValueCell.{ValueCell}

-- a test that holds breaks nothing
none_where : (b : Bool) (s : ComponentPlace) → b ≡ true → unless b s ≡ []
none_where b s e = ap (λ t. unless t s) e

-- ---- cells

values_long : (vs : List ValueCell) → AllByRecursion (λ (v : ValueCell). length (value_bytes v) ≡ size_of_field v.field)
    vs → length (flat_map value_bytes vs) ≡ sum_by (λ (v : ValueCell). size_of_field v.field) vs
values_long [] all = refl
values_long (v ∷ vs) all =
    let rest = values_long vs all.1 in
    length-append (value_bytes v) (flat_map value_bytes vs)
    ∙ (λ i. all.0 i + rest i)
    ∙ sym (sum_by-cons (λ (x : ValueCell). size_of_field x.field) v vs)

cells_paired : (image : StaticImage) → CellsFit image → cell_spots image (static_field image) ≡ []
cells_paired image fit =
    let numbers : default_size image + length (other_values image) ≡ number_bytes image = ap (λ n. default_size image
    + n) (values_long image.others fit.others) in
    none_where (has_cells image (static_field image)) (in_info 8 0) (λ i.
    number_same_number (reference_count image) (reference_count image) refl i
    && number_same_number (default_size image + length (other_values image)) (number_bytes image) numbers i)

-- ---- classes

counts_paired : (p : Package) → count_spots (world p) (class_info (class_ref p) p) ≡ []
unfolding class_order
counts_paired p =
    let interfaces = in_order (world p) true in
    let classes = in_order (world p) false in
    let count = info_count (class_info (class_ref p) p) in
    let both : count ≡ length interfaces + length classes = λ i.
    length-map interfaces (interface_entry (class_ref p) (world p)) i
    + length-map classes (class_entry (class_ref p) p) i in
    let ordered : length (class_order (world p)) ≡ length interfaces + length classes = length-append interfaces classes
    in
    none_where (count == length (class_order (world p))) (in_info 11 0)
    (number_same_number count (length (class_order (world p))) (both ∙ sym ordered))

-- ---- methods

methods_paired : (p : Package) (at : ℕ) (cs : List Class) → beside described_size (methods_spots (world p)) at
    (map (class_descriptor p) cs) cs ≡ []
unfolding beside
methods_paired p at [] = refl
methods_paired p at (c ∷ cs) =
    let methods = methods_of_class (world p) c in
    let rest = methods_paired p (at + described_size (class_descriptor p c)) cs in
    let first : methods_spots (world p) at (class_descriptor p c) c ≡ [] =
    none_where (length (map (method_descriptor p c) methods) == length methods) (in_info 11 (at + 7))
    (number_same_number (length (map (method_descriptor p c) methods)) (length methods)
    (length-map methods (method_descriptor p c))) in
    λ i. first i ++ rest i

-- ---- the whole

pub are_paired : (p : Package) → CellsFit p.image → ArePaired p.files p.image (whole p)
are_paired p fit = λ i. head_of (cells_paired p.image fit i ++ (counts_paired p i ++ methods_paired p 1
    (class_order (world p)) i))
