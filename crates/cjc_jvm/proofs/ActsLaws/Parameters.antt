-- The types of parameters, one after the other.
use Rattle.std.proofs.Common.{◌≡◌, ℕ, ◌+◌, ◌<◌, List, [], ◌∷◌, ◌++◌, length, map, take, sym, ap, ◌∙◌, arith}
use Rattle.std.proofs.lemmas.List.{get_or_append_left, get_or-map, length-map, map_push, take_more}
use Rattle.cjc_jvm_semantics.specs.LowerBytes.Descriptor.{Parts, part_at}
use Rattle.cjc_jvm_step.specs.Script.Sorts.{sort_of}
use Rattle.cjc_jvm.specs.declared.acts.sort.Sort.{Sort}
use Rattle.cjc_jvm.specs.Acts.Meant.{sort_meant}

pub types_more : (d : Parts) (sorts more : List Sort) (x : Sort) (i : ℕ) → i < length d.params → map sort_meant sorts
    ≡ take i (map sort_of d.params) → more ≡ sorts ++ x ∷ [] → sort_meant x ≡ sort_of (part_at d i)
    → map sort_meant more ≡ take (i + 1) (map sort_of d.params)
types_more d sorts more x i h begun e is =
    let len : length (map sort_of d.params) ≡ length d.params = length-map d.params sort_of in
    let inside : i < length (map sort_of d.params) = omega arith in
    ap (λ xs. map sort_meant xs) e
    ∙ map_push sort_meant sorts x
    ∙ ap (λ ys. ys ++ sort_meant x ∷ []) begun
    ∙ ap (λ s. take i (map sort_of d.params) ++ s ∷ []) (is
    ∙ ap sort_of (get_or_append_left d.params (d.result ∷ []) d.result i h)
    ∙ sym (get_or-map sort_of d.params i d.result (sort_of d.result) h))
    ∙ sym (take_more (map sort_of d.params) i (sort_of d.result) inside)
