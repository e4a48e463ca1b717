-- A package that is laid out, by what the code has of it.
use Rattle.std.proofs.Common.{◌≡◌, List, sym, subst}
use Rattle.cjc_shape_proof.specs.Components.Package.{codes, tokens}
use Rattle.cjc_shape_proof.specs.LowerJudge.Spelt.{IsRead}
use Rattle.cjc_shape_proof.specs.LowerJudge.declared.judged.Judged.{Judged}
use Rattle.cjc_captree.proofs.MethodsKept.{codes_of}
use Rattle.cjc_captree.specs.NCode.declared.narrow.NMethod.{NMethod}
use Rattle.cjc_shape_proof.specs.Pool.Pool.{IsPool, PoolView}
use Rattle.cjc_shape_proof.specs.LowerShape.Prepared.{BreaksNothing}
use Rattle.cjc_shape_proof.specs.LowerShape.Whole.Working.Shaped.{IsShaped, package_of}
use Rattle.cjc_shape_proof.specs.LowerShape.declared.whole.shaping.Shaped.{Shaped}
use Rattle.cjc_shape_proof.specs.Written.LaidOut.{AidsAreShort, IsLaidOut}
use Rattle.cjc_captree.specs.Tokens.Tokens.{Assigned}

module _ (j : Judged) (s : Shaped) (h : IsShaped j s) where
  pub its_codes : (let m = s.methods in m.codes) ≡ codes (package_of j s)
  its_codes = let m = s.methods in sym (codes_of m.codes m.laid h.laid.count)

  pub its_pool : (pool : PoolView) → (let m = s.methods in IsPool j.world s.tokens.now m.codes pool)
      → IsPool j.world (tokens (package_of j s)) (codes (package_of j s)) pool
  its_pool pool is =
      subst (λ (cs : List NMethod). IsPool j.world (tokens (package_of j s)) cs pool) its_codes
      (let m = s.methods in subst (λ (t : Assigned). IsPool j.world t m.codes pool) h.by_tokens is)

  pub laid_out : IsRead j.list.now → AidsAreShort j.list.now → BreaksNothing j
      → IsLaidOut j.list.now j.files.now j (package_of j s)
  laid_out read aids is = record {
    read = read;
    aids = aids;
    sound = is;
    is_package = h.is_package;
    words = h.words;
    forms = h.forms;
  }
