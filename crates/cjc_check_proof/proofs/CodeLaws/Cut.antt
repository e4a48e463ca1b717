-- Method is cut into the codes of the package's methods.
use Rattle.std.proofs.Common.{◌≡◌, ◌+◌, ◌*◌, ap, ◌∙◌, false, List, [], map, Ok}
use Rattle.std.specs.Prelude.{flat_map}
use Rattle.cjc_capread.specs.declared.tree.ClassDescriptor.{ClassDescriptor}
use Rattle.cjc_capread.specs.declared.tree.MethodDescriptor.{MethodDescriptor}
use Rattle.cjc_check_rules.specs.Codes.{all_codes, codes, codes_from, cut, methods_begin, where_cut_ends, whole_spots}
use Rattle.cjc_check_rules.specs.Members.{class_methods}
use Rattle.cjc_world.specs.Order.{class_order, in_order}
use Rattle.cjc_ncode.specs.Lowering.Package.{all_bytes}
use Rattle.cjc_components.specs.Package.{Package, world}
use Rattle.cjc_components.specs.Methods.{first_method, placed_methods}
use Rattle.cjc_components.specs.Names.{names}
use Rattle.cjc_components.specs.Descriptor.{class_descriptor}
use Rattle.cjc_token_proof.specs.Components.OwnNames.{HaveOwnNames}
use Rattle.cjc_check_proof.specs.Code.Codes.{codes_of}
use Rattle.cjc_token_proof.specs.Components.Whole.{whole}
use Rattle.cjc_check_proof.specs.Code.Written.{AllWritable}
use Rattle.cjc_token_proof.specs.Components.Methods.{HasMethods}
use Rattle.cjc_check_proof.proofs.CodeLaws.Described.{all_handlers_long, classes_described}
use Rattle.cjc_check_proof.proofs.CodeLaws.OwnClasses.{own_classes}
use Rattle.cjc_check_proof.proofs.CodeLaws.Methods.{methods_cut}

module _ (p : Package) (apart : HaveOwnNames (class_order (world p))) (order : HasMethods p)
    (can : AllWritable (names p) p.methods) where
  abbrev described : List MethodDescriptor
  described = flat_map (λ (d : ClassDescriptor). d.methods) (map (class_descriptor p) (in_order (world p) false))

  begin_there : methods_begin (whole p) ≡ first_method p.methods
  begin_there = ap (λ k. 1 + 8 * k) (all_handlers_long (names p) (first_method p.methods) p.methods)

  methods_there : class_methods (whole p) ≡ described
  methods_there = ap (flat_map (λ (d : ClassDescriptor). d.methods)) (own_classes p apart)

  pub cut_is : cut (whole p) ≡ Ok (codes_of p)
  cut_is =
      let bytes = all_bytes (names p) (placed_methods p) in
      ap (λ at. codes_from at (class_methods (whole p)) bytes) begin_there
      ∙ ap (λ ds. codes_from (first_method p.methods) ds bytes) methods_there
      ∙ methods_cut (names p) (first_method p.methods) described p.methods (classes_described p order) can

  pub is_whole : whole_spots (whole p) ≡ []
  is_whole = ap where_cut_ends cut_is

  pub codes_are : codes (whole p) ≡ codes_of p
  codes_are = ap all_codes cut_is
