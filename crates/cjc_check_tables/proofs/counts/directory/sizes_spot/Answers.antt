use Rattle.std.proofs.Common.{ℕ, List, ap, ◌∙◌, arith, length}
use Rattle.cjc_check_rules.specs.Listed.{sizes_agree}
use Rattle.cjc_check_rules.specs.Spots.{first}
use Rattle.cjc_check_rules.proofs.Arrays.{two_each}
use Rattle.cjc_check_tables.proofs.counts.directory.sizes_spot.Goals as goal

pub first_beside-requires : goal.first_beside-requires
first_beside-requires c =
    let n = two_each c.items-told.result.now in
    let e = ap (λ (xs : List ℕ). length xs) c.items-told.ensures in
    let h = c.requires.directory in
    record { ready = tt; small = omega (arith, n, e, h) }

pub returns : goal.returns
returns c =
    c.first_beside.ensures
    ∙ ap (λ (told : List ℕ). first (sizes_agree told c.size_items-own.result)) c.items-told.ensures
    ∙ ap (λ (own : List ℕ). first (sizes_agree c.args.tree.now.directory.component_sizes own)) c.size_items-own.ensures
