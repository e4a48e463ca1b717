-- Places of a component that stand in order: the first of them is the least.
use Rattle.std.proofs.Common.{◌≡◌, ℕ, ◌+◌, ◌*◌, ◌<◌, ◌≤◌, Bool, true, false, List, [], ◌∷◌, ◌++◌, length, refl, sym}
use Rattle.std.proofs.Common.{ap, ◌∙◌, arith, Option, Some}
use Rattle.std.proofs.lemmas.Bool.Decides.{nat_tests}
use Rattle.std.proofs.lemmas.List.Sums.{sum_by-cons}
use Rattle.std.specs.Prelude.{if◌then◌else◌, sum_by, ◌==◌}
use Rattle.cjc_capread.specs.declared.tree.ClassEntry.{ClassEntry}
use Rattle.cjc_capread.specs.declared.tree.ImplementedInterface.{ImplementedInterface}
use Rattle.cjc_capread.specs.ClassRefs.{same_class}
use Rattle.cjc_check_rules.specs.declared.spot.ComponentPlace.{ComponentPlace}
use Rattle.cjc_check_rules.specs.Spots.{beside, bytes_differ, earlier, first, in_info, is_up_to, unless}
use Rattle.cjc_check_rules.specs.Complete.{class_size, map_size}
use Rattle.cjc_check_rules.specs.ClassRefs.{maps_begin}
use Rattle.cjc_check_rules.proofs.Arrays.{one_each, two_each}
use Rattle.cjc_verify.specs.Infos.{head_of}
use Rattle.cjc_verify.specs.Wanted.{counts_differ, entries_differ, map_differs}
use Rattle.cjc_verify.specs.Wanted.{tables_differ}

-- places of a component from one offset up to another, none before the one that it stands behind
unfoldable Rising : (tag from upto : ℕ) → List ComponentPlace → Type 0
Rising tag from upto [] = from ≡ from
Rising tag from upto (s ∷ spots) = (at : ℕ) × (s ≡ in_info tag at) × (from ≤ at) × (at < upto) × Rising tag at upto
    spots

-- ---- the least

in_order : (tag a b : ℕ) → a ≤ b → is_up_to (in_info tag a) (in_info tag b) ≡ true
in_order tag a b le = grind (arith, nat_tests)

least : (tag at upto : ℕ) (spots : List ComponentPlace) → Rising tag at upto spots
    → earlier (Some (in_info tag at)) (first spots) ≡ Some (in_info tag at)
unfolding Rising first
least tag at upto [] r = refl
least tag at upto (s ∷ spots) r =
    let here = in_info tag at in
    let there = in_info tag r.0 in
    let ih = least tag r.0 upto spots r.4 in
    ap (λ (p : ComponentPlace). earlier (Some here) (earlier (Some p) (first spots))) r.1
    ∙ ap (λ (o : Option ComponentPlace). earlier (Some here) o) ih
    ∙ ap (λ (b : Bool). if b then Some here else Some there) (in_order tag at r.0 r.2)

first_of_head : (tag from upto : ℕ) (spots : List ComponentPlace) → Rising tag from upto spots
    → first spots ≡ first (head_of spots)
unfolding Rising first
first_of_head tag from upto [] r = refl
first_of_head tag from upto (s ∷ spots) r =
    let ih = least tag r.0 upto spots r.4 in
    ap (λ (p : ComponentPlace). earlier (Some p) (first spots)) r.1 ∙ ih ∙ ap (λ (p : ComponentPlace). Some p)
    (sym r.1)

-- ---- bounds

lower : (tag from mid upto : ℕ) (spots : List ComponentPlace) → from ≤ mid → Rising tag mid upto spots
    → Rising tag from upto spots
unfolding Rising
lower tag from mid upto [] le r = refl
lower tag from mid upto (s ∷ spots) le r =
    let h = r.2 in
    (r.0, r.1, omega (arith, h, le), r.3, r.4)

raise : (tag from mid upto : ℕ) (spots : List ComponentPlace) → mid ≤ upto → Rising tag from mid spots
    → Rising tag from upto spots
unfolding Rising
raise tag from mid upto [] le r = refl
raise tag from mid upto (s ∷ spots) le r =
    let h = r.3 in
    (r.0, r.1, r.2, omega (arith, h, le), raise tag r.0 mid upto spots le r.4)

-- ---- one behind the other

append : (tag from mid upto : ℕ) (xs ys : List ComponentPlace) → from ≤ mid → mid ≤ upto → Rising tag from mid xs
    → Rising tag mid upto ys → Rising tag from upto (xs ++ ys)
unfolding Rising
append tag from mid upto [] ys fm mu rx ry = lower tag from mid upto ys fm ry
append tag from mid upto (x ∷ xs) ys fm mu rx ry =
    let h = rx.3 in
    (rx.0, rx.1, rx.2, omega (arith, h, mu), append tag rx.0 mid upto xs ys (omega (arith, h)) mu rx.4 ry)

one : (tag at upto : ℕ) (b : Bool) → at < upto → Rising tag at upto (unless b (in_info tag at))
unfolding Rising
one tag at upto true lt = refl
one tag at upto false lt = (at, refl, omega arith, lt, refl)

then_more : (tag from mid at upto : ℕ) (xs ys : List ComponentPlace) → from ≤ at → mid ≤ at → at ≤ upto
    → Rising tag from mid xs → Rising tag at upto ys → Rising tag from upto (xs ++ ys)
then_more tag from mid at upto xs ys fa ma au rx ry = append tag from at upto xs ys fa au (raise tag from mid at xs ma
    rx) ry

then_one : (tag from mid at upto : ℕ) (xs : List ComponentPlace) (b : Bool) → from ≤ at → mid ≤ at → at < upto
    → Rising tag from mid xs → Rising tag from upto (xs ++ unless b (in_info tag at))
then_one tag from mid at upto xs b fa ma lt rx = then_more tag from mid at upto xs (unless b (in_info tag at)) fa ma
    (omega (arith, lt)) rx (one tag at upto b lt)

all_beside : {A B : Type 0} (tag : ℕ) (size : A → ℕ) (broken : ℕ → A → B → List ComponentPlace) (at : ℕ) (xs : List A)
    (ys : List B) → ((k : ℕ) (x : A) (y : B) → Rising tag k (k + size x) (broken k x y))
    → Rising tag at (at + sum_by size xs) (beside size broken at xs ys)
unfolding Rising beside
all_beside tag size broken at [] [] h = refl
all_beside tag size broken at [] (y ∷ ys) h = refl
all_beside tag size broken at (x ∷ xs) [] h = refl
all_beside tag size broken at (x ∷ xs) (y ∷ ys) h =
    let s = sum_by-cons size x xs in
    let rest = beside size broken (at + size x) xs ys in
    let more = all_beside tag size broken (at + size x) xs ys h in
    append tag at (at + size x) (at + sum_by size (x ∷ xs)) (broken at x y) rest (omega arith) (omega (arith, s))
    (h at x y) (raise tag (at + size x) (at + size x + sum_by size xs) (at + sum_by size (x ∷ xs)) rest
    (omega (arith, s)) more)

-- ---- tables and maps

bytes_rise : (at : ℕ) (bytes wanted : List ℕ) → Rising 6 at (at + length bytes) (bytes_differ 6 at bytes wanted)
bytes_rise at bytes wanted =
    let n = one_each bytes in
    raise 6 at (at + sum_by (λ x. 1) bytes) (at + length bytes) (bytes_differ 6 at bytes wanted) (omega (arith, n))
    (all_beside 6 (λ x. 1) (λ k b w. unless (b == w) (in_info 6 k)) at bytes wanted (λ k b w. one 6 k (k + 1) (b == w)
    (omega arith)))

entries_rise : (at : ℕ) (entries wanted : List ℕ) → Rising 6 at (at + 2 * length entries) (entries_differ at entries
    wanted)
entries_rise at entries wanted =
    let n = two_each entries in
    raise 6 at (at + sum_by (λ x. 2) entries) (at + 2 * length entries) (entries_differ at entries wanted)
    (omega (arith, n))
    (all_beside 6 (λ x. 2) (λ k e w. unless (e == w) (in_info 6 k)) at entries wanted (λ k e w. one 6 k (k + 2)
    (e == w) (omega arith)))

map_rise : (at : ℕ) (m w : ImplementedInterface) → Rising 6 at (at + map_size m) (map_differs at m w)
map_rise at m w =
    let interface = unless (same_class m.interface w.interface) (in_info 6 at) in
    let count = unless (length m.index == length w.index) (in_info 6 (at + 2)) in
    then_more 6 at (at + 3) (at + 3) (at + map_size m) (interface ++ count) (bytes_differ 6 (at + 3) m.index w.index)
    (omega arith) (omega arith) (omega arith)
    (then_one 6 at (at + 1) (at + 2) (at + 3) interface (length m.index == length w.index) (omega arith) (omega arith)
    (omega arith) (one 6 at (at + 1) (same_class m.interface w.interface) (omega arith)))
    (raise 6 (at + 3) (at + 3 + length m.index) (at + map_size m) (bytes_differ 6 (at + 3) m.index w.index)
    (omega arith) (bytes_rise (at + 3) m.index w.index))

counts_rise : (at : ℕ) (x w : ClassEntry) → Rising 6 at (at + 10) (counts_differ at x w)
counts_rise at x w =
    let b0 = length x.interfaces == length w.interfaces in
    let b6 = x.public_base == w.public_base in
    let b7 = length x.public_methods == length w.public_methods in
    let b8 = x.package_base == w.package_base in
    let b9 = length x.package_methods == length w.package_methods in
    let l0 = unless b0 (in_info 6 at) in
    let l6 = l0 ++ unless b6 (in_info 6 (at + 6)) in
    let l7 = l6 ++ unless b7 (in_info 6 (at + 7)) in
    let l8 = l7 ++ unless b8 (in_info 6 (at + 8)) in
    then_one 6 at (at + 9) (at + 9) (at + 10) l8 b9 (omega arith) (omega arith) (omega arith)
    (then_one 6 at (at + 8) (at + 8) (at + 9) l7 b8 (omega arith) (omega arith) (omega arith)
    (then_one 6 at (at + 7) (at + 7) (at + 8) l6 b7 (omega arith) (omega arith) (omega arith)
    (then_one 6 at (at + 1) (at + 6) (at + 7) l0 b6 (omega arith) (omega arith) (omega arith)
    (one 6 at (at + 1) b0 (omega arith)))))

tables_rise : (at : ℕ) (x w : ClassEntry) → Rising 6 at (at + class_size x) (tables_differ at x w)
tables_rise at x w =
    let m = 2 * length x.public_methods in
    let n = 2 * length x.package_methods in
    let s = sum_by map_size x.interfaces in
    let counts = counts_differ at x w in
    let public = entries_differ (at + 10) x.public_methods w.public_methods in
    let hidden = entries_differ (at + 10 + m) x.package_methods w.package_methods in
    let maps = beside map_size map_differs (maps_begin at x) x.interfaces w.interfaces in
    let first_two : Rising 6 at (at + 10 + m) (counts ++ public) = then_more 6 at (at + 10) (at + 10) (at + 10 + m)
    counts public (omega arith) (omega arith) (omega arith) (counts_rise at x w)
    (entries_rise (at + 10) x.public_methods w.public_methods) in
    let three : Rising 6 at (at + 10 + m + n) (counts ++ public ++ hidden) = then_more 6 at (at + 10 + m)
    (at + 10 + m) (at + 10 + m + n) (counts ++ public) hidden (omega arith) (omega arith) (omega arith) first_two
    (entries_rise (at + 10 + m) x.package_methods w.package_methods) in
    then_more 6 at (at + 10 + m + n) (maps_begin at x) (at + class_size x) (counts ++ public ++ hidden) maps
    (omega arith) (omega arith) (omega arith) three
    (raise 6 (maps_begin at x) (maps_begin at x + s) (at + class_size x) maps (omega arith)
    (all_beside 6 map_size map_differs (maps_begin at x) x.interfaces w.interfaces map_rise))

pub first_item : (at : ℕ) (x w : ClassEntry) → first (tables_differ at x w) ≡ first (head_of (tables_differ at x w))
first_item at x w = first_of_head 6 at (at + class_size x) (tables_differ at x w) (tables_rise at x w)
