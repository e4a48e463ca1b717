use Rattle.std.proofs.Common.{ℕ, List, ap, sym, ◌∙◌, subst, ◌==◌}
use Rattle.std.specs.List.{list_any}
use Rattle.std.specs.List.Sorted.{IsNonDecreasing}
use Rattle.std.proofs.lemmas.List.Sorted.{IsNonDecreasingBy-from_sort, list_any-IsPermutation}
use Rattle.cjc_check_index.proofs.lookup.methods.in_order.Goals as goal

pub returns-clause-rise : goal.returns-clause-rise
returns-clause-rise c = let P : List ℕ → Type 0 = IsNonDecreasing
    in subst P (sym c.of.ensures) (IsNonDecreasingBy-from_sort (λ x. x) _ c.sort_unstable.ensures.sorted)

pub returns-clause-same : goal.returns-clause-same
returns-clause-same c = λ number.
    ap (λ (ns : List ℕ). list_any (λ n. n == number) ns) c.of.ensures
    ∙ sym (list_any-IsPermutation (λ n. n == number) _ _ c.sort_unstable.ensures.permutation)
    ∙ ap (λ (ns : List ℕ). list_any (λ n. n == number) ns) c.into_vec-items.ensures
