-- Method has as many handlers as its methods.
use Rattle.std.proofs.Common.{◌≡◌, ◌∙◌, ℕ, ◌+◌, List, [], ◌∷◌, length, suc, refl, ap, arith, sym, sum_by}
use Rattle.std.specs.Prelude.{Some}
use Rattle.std.proofs.lemmas.List.{length-append}
use Rattle.std.proofs.lemmas.List.Sums.{sum_by-cons}
use Rattle.cjc_shape_proof.specs.CapRead.declared.tree.CapTree.{CapTree}
use Rattle.cjc_shape_proof.specs.CapRead.declared.tree.Method.{Method}
use Rattle.cjc_shape_proof.specs.Components.Components.{components_of, method}
use Rattle.cjc_shape_proof.specs.Components.Methods.{first_method, handler_count, method_size, placed_at, placed_from}
use Rattle.cjc_shape_proof.specs.Components.Methods.{placed_methods}
use Rattle.cjc_shape_proof.specs.Components.Names.{names}
use Rattle.cjc_shape_proof.specs.Components.Package.{LaidMethod, Package}
use Rattle.cjc_captree.specs.Layout.Handlers.{table_order}
use Rattle.cjc_captree.specs.NCode.Lowering.Handlers.{handlers_of}
use Rattle.cjc_captree.specs.NCode.Lowering.Package.{all_handlers}
use Rattle.cjc_captree.specs.NCode.Lowering.Placed.{offset_of}
use Rattle.cjc_captree.specs.NCode.declared.narrow.NCatch.{NCatch}

module _ (p : Package) where
  of_method : (to : ℕ → ℕ) (cs : List NCatch) → length (handlers_of (names p) to cs) ≡ length cs
  of_method to [] = refl
  of_method to (c ∷ cs) = ap suc (of_method to cs)

  of_methods : (at : ℕ) (ms : List LaidMethod) → length (all_handlers (names p) (placed_from at ms))
      ≡ sum_by handler_count ms
  of_methods at [] = refl
  of_methods at (m ∷ ms) = let code = m.code in
      let to = offset_of (names p) (placed_at at m) in
      let l = sum_by-cons handler_count m ms in
      let one = of_method to (table_order code.catches) in
      let rest = of_methods (at + method_size m) ms in
      let a = length-append (handlers_of (names p) to (table_order code.catches)) (all_handlers (names p)
      (placed_from (at + method_size m) ms)) in
      omega (arith, l, one, rest, a)

  pub counted : length (all_handlers (names p) (placed_methods p)) ≡ sum_by handler_count p.methods
  counted = of_methods (first_method p.methods) p.methods

  pub in_caps : (caps : CapTree) (m : Method) → caps ≡ components_of p → caps.method ≡ Some m
      → length m.handlers ≡ sum_by handler_count p.methods
  in_caps caps m is there =
      let both : Some m ≡ Some (method p) = sym there ∙ ap (λ (t : CapTree). t.method) is in
      let same : m ≡ method p = cc in
      ap (λ (x : Method). length x.handlers) same ∙ counted
