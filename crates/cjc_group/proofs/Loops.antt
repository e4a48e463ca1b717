-- Reading lines one after the other.
use Rattle.std.proofs.Common.{◌≡◌, ℕ, ◌+◌, ◌<◌, ◌≤◌, List, length, get_or, drop, Result, Ok, Err, refl, sym, ◌∙◌}
use Rattle.std.proofs.Common.{add-one, drop-cons}
use Rattle.std.proofs.lemmas.List.{drop_all}
use Rattle.cjc_bytes.specs.Text.{TextLine}
use Rattle.cjc_group.specs.declared.line.PackageLine.{PackageLine}
use Rattle.cjc_group.specs.Grammar.{with_line}
use Rattle.cjc_group.specs.Grouped.{said, with_lines}

pub with_lines_next : (packages more : List PackageLine) (lines : List TextLine) (i : ℕ) (d : TextLine)
    (total : Result (List PackageLine) ℕ) → i < length lines → said (with_line packages) (get_or lines i d) ≡ Ok more
    → with_lines packages (drop i lines) ≡ total → with_lines more (drop (i + 1) lines) ≡ total
unfolding with_lines
with_lines_next packages more lines i d total lt one so_far =
    let step : with_lines packages (drop i lines) ≡ with_lines more (drop (i + 1) lines) =
    rw (add-one, drop-cons lines i d lt, one) refl in
    sym step ∙ so_far

pub with_lines_breaks : (packages : List PackageLine) (lines : List TextLine) (i : ℕ) (d : TextLine) (k : ℕ)
    (total : Result (List PackageLine) ℕ) → i < length lines → said (with_line packages) (get_or lines i d) ≡ Err k
    → with_lines packages (drop i lines) ≡ total → total ≡ Err k
unfolding with_lines
with_lines_breaks packages lines i d k total lt one so_far =
    let step : with_lines packages (drop i lines) ≡ Err k = rw (drop-cons lines i d lt, one) refl in
    sym so_far ∙ step

pub with_lines_ends : (packages : List PackageLine) (lines : List TextLine) (i : ℕ)
    (total : Result (List PackageLine) ℕ) → length lines ≤ i → with_lines packages (drop i lines) ≡ total
    → total ≡ Ok packages
unfolding with_lines
with_lines_ends packages lines i total le so_far = sym so_far ∙ rw (drop_all i lines le) refl
