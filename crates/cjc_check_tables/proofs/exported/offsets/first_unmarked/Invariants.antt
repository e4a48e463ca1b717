use Rattle.std.proofs.Common.{◌≡◌, ℕ, ◌+◌, ◌*◌, ◌<◌, drop, length, get_or, Bool, false}
use Rattle.cjc_check_rules.specs.Spots.{earlier, first, in_info, numbered, unless}
use Rattle.cjc_check_tables.proofs.exported.offsets.first_unmarked.Given as goal

abbrev pub invariant-loop-i : goal.invariant-loop-i
invariant-loop-i l =
    (l.at ≡ l.from + 2 * l.i)
    × ((is : ℕ → ℕ → Bool) → ((n : ℕ) → n < length l.offsets → get_or l.marks n false ≡ is n (get_or l.offsets n 0))
    → earlier l.least (first (numbered (λ o. 2) (λ n at o. unless (is n o) (in_info 10 at)) l.i l.at
    (drop l.i l.offsets))) ≡ first (numbered (λ o. 2) (λ n at o. unless (is n o) (in_info 10 at)) 0 l.from
    l.offsets))
