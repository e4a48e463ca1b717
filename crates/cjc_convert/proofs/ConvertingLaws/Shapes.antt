-- A package that is laid out, by what the code has of it.
use Rattle.std.proofs.Common.{◌≡◌, ◌∙◌, ℕ, List, length, map, nat_lt, sym, ap, subst}
use Rattle.cjc_components.specs.Package.{LaidMethod, Package, codes, tokens}
use Rattle.cjc_methods.proofs.LayoutsLaws.Kept.{codes_of}
use Rattle.cjc_list.specs.Listed.{ListTree}
use Rattle.cjc_ncode.specs.declared.narrow.NMethod.{NMethod}
use Rattle.cjc_pool.specs.Pool.{IsPool, PoolView}
use Rattle.cjc_tokens.specs.Tokens.{Assigned, assigned}
use Rattle.cjc_world.specs.Files.{Files}
use Rattle.cjc_shape.specs.Whole.Conversion.{IsDraft}
use Rattle.cjc_shape.specs.Whole.Working.Shaped.{IsShaped}
use Rattle.cjc_shape.specs.declared.whole.shaping.Shaped.{Shaped}
use Rattle.cjc_shape.proofs.WholeLaws.Second.{package_is_draft}

module _ (list : ListTree) (files : List (List ℕ)) (s : Shaped) (p : Package) (h : IsShaped list files s p) where
  pub by_list : p.list ≡ list
  by_list = let whole = h.is_package in let is = whole.is_package in is.by_list

  pub its_draft : IsDraft list files p
  its_draft = package_is_draft list files p h.is_package

  pub its_codes : (let m = s.methods in m.codes ≡ codes p)
  its_codes = let m = s.methods in sym (ap (λ (ms : List LaidMethod). map (λ x. x.code) ms) h.by_methods
      ∙ codes_of m.codes m.laid h.laid.count)

  pub its_pool : (world : Files) (pool : PoolView) → (let m = s.methods in IsPool world s.tokens m.codes pool)
      → IsPool world (tokens p) (codes p) pool
  its_pool world pool is =
      subst (λ (cs : List NMethod). IsPool world (tokens p) cs pool) its_codes
      (let m = s.methods in subst (λ (t : Assigned). IsPool world t m.codes pool) h.by_tokens is)

  pub its_tokens : (world : Files) → p.files ≡ world → s.tokens ≡ assigned (nat_lt 0 (length list.applets)) world
  its_tokens world same =
      h.by_tokens
      ∙ ap (λ (l : ListTree). assigned (nat_lt 0 (length l.applets)) p.files) by_list
      ∙ ap (assigned (nat_lt 0 (length list.applets))) same
