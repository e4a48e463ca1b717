-- The words of parameters are counted one by one.
use Rattle.std.proofs.Common.{◌≡◌, ℕ, ◌+◌, ◌<◌, ◌≤◌, List, length, get_or, drop, map, ap, arith}
use Rattle.std.proofs.lemmas.List.{drop_more, drop_all}
use Rattle.cjc_card_semantics.specs.Bytes.Descriptor.{Part}
use Rattle.cjc_card_semantics.specs.Script.Sorts.{sort_of}
use Rattle.cjc_card_semantics.specs.Bytecode.Arguments.{width, widths}

pub widths_next : (words : ℕ) (parts : List Part) (i : ℕ) (d : Part) (total : ℕ) → i < length parts
    → words + widths (map sort_of (drop i parts)) ≡ total → (words + width (sort_of (get_or parts i d))) + widths
    (map sort_of (drop (i + 1) parts)) ≡ total
widths_next words parts i d total lt so_far =
    let first : widths (map sort_of (drop i parts)) ≡ width (sort_of (get_or parts i d)) + widths
    (map sort_of (drop (i + 1) parts)) = ap (λ ps. widths (map sort_of ps)) (drop_more parts i d lt) in
    omega (arith, first, so_far)

pub widths_end : (words : ℕ) (parts : List Part) (i : ℕ) (total : ℕ) → length parts ≤ i
    → words + widths (map sort_of (drop i parts)) ≡ total → words ≡ total
widths_end words parts i total le so_far =
    let none : widths (map sort_of (drop i parts)) ≡ 0 = ap (λ ps. widths (map sort_of ps)) (drop_all i parts le) in
    omega (arith, none, so_far)
