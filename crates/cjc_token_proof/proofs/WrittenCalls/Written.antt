-- What is written for a package has its methods in order, and they stand where two bytes can say.
use Rattle.std.proofs.Common.{◌≡◌, ℕ, zero, suc, ◌+◌, ◌<◌, refl, sym, ap, ◌∙◌, arith, Bool, true, false, List, [], ◌∷◌}
use Rattle.std.specs.Prelude.{Option, sum_by, if◌then◌else◌}
use Rattle.std.proofs.lemmas.List.Sums.{sum_by-cons}
use Rattle.cjc_jvm_semantics.specs.Linked.{Method}
use Rattle.cjc_world_proof.specs.Bytecode.declared.method_code.MethodCode.{MethodCode}
use Rattle.cjc_components.specs.Methods.{extent_at, extent_from, first_method, handler_count, is_member, method_offset}
use Rattle.cjc_components.specs.Methods.{method_size}
use Rattle.cjc_components.specs.Package.{LaidMethod, Package}
use Rattle.cjc_components.specs.Written.{IsPackage, is_abstract_at}
use Rattle.cjc_components.specs.LowerList.Listed.{ListTree}
use Rattle.cjc_world.specs.declared.found.Found.{Found}
use Rattle.cjc_world.specs.Classes.{all_classes}
use Rattle.cjc_world.specs.Files.{Files}
use Rattle.cjc_world.specs.Order.{method_order}
use Rattle.cjc_token_proof.specs.WrittenCalls.Standing.{AreMethods, FitsMethod, IsSmall}
use Rattle.cjc_token_proof.proofs.WrittenCalls.Extents.{offset_in, some_bytes}

pub methods_are : {A : Type 0} (list : ListTree) (files : Files) (codes : List MethodCode) (rows : Method
    → List (Option A)) (p : Package) → IsPackage list files codes rows p → AreMethods p
methods_are list files codes rows p is = record {
  members = is.members ∙ ap (λ fs. method_order (all_classes fs)) (sym is.by_files);
  is_abstract = λ k m e. let q = is.methods k m e in q.is_abstract ∙ ap (λ fs. is_abstract_at fs m.member)
      (sym is.by_files);
}

-- a method stands before the end of all
before_end : (at k : ℕ) (ms : List LaidMethod) (f : Found) → 0 < offset_in (extent_from at k ms f)
    → offset_in (extent_from at k ms f) < at + sum_by method_size ms
before_end at k [] f some = absurd (omega (arith, some))
before_end at k (m ∷ ms) f some = by (is_member f m) some (before_end (at + method_size m) (k + handler_count m) ms f)
  where
    by : (t : Bool) → 0 < offset_in (if t then extent_at at k m
        else extent_from (at + method_size m) (k + handler_count m) ms f)
        → (0 < offset_in (extent_from (at + method_size m) (k + handler_count m) ms f)
        → offset_in (extent_from (at + method_size m) (k + handler_count m) ms f) < at + method_size m + sum_by
        method_size ms)
        → offset_in (if t then extent_at at k m else extent_from (at + method_size m) (k + handler_count m) ms f) < at +
        sum_by method_size (m ∷ ms)
    by true some rest =
        let all = sum_by-cons method_size m ms in
        let long = some_bytes m in omega (arith, all, long)
    by false some rest =
        let all = sum_by-cons method_size m ms in
        let r = rest some in omega (arith, all, r)

pub methods_fit : (p : Package) → IsSmall p → FitsMethod p
methods_fit p small f = by (method_offset p f) refl
  where
    by : (n : ℕ) → method_offset p f ≡ n → method_offset p f < 0xFFFF
    by zero e = omega (arith, e)
    by (suc n) e =
        let some : 0 < method_offset p f = omega (arith, e) in
        let r = before_end (first_method p.methods) 0 p.methods f some in omega (arith, r, small)
