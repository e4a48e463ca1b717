-- The first place of several, in a loop over classes beside numbers and where it is told.
use Rattle.std.proofs.Common.{◌≡◌, ℕ, ◌+◌, ◌<◌, ◌≤◌, true, false, List, [], ◌∷◌, ◌++◌, length, get_or, drop, map, refl}
use Rattle.std.proofs.Common.{sym, ap, subst, ◌∙◌, arith, Option, Some, None}
use Rattle.std.specs.Prelude.{◌==◌, option_to_list}
use Rattle.std.proofs.lemmas.Bool.Decides.{nat_tests}
use Rattle.std.proofs.lemmas.List.{drop_more, drop_all}
use Rattle.cjc_classes.proofs.BytesFirsts.{first_of_one}
use Rattle.cjc_card_link.specs.Bytes.Breaks.{Break, IsFirst, IsFirstOf}
use Rattle.cjc_card_link.specs.LowerCapRead.declared.tree.ClassDescriptor.{ClassDescriptor}
use Rattle.cjc_classes.specs.LowerComponents.Paired.Pairs.{head_of, methods_spots}
use Rattle.cjc_classes.specs.CheckRules.Complete.{described_size}
use Rattle.cjc_classes.specs.CheckRules.Consistent.{break_at}
use Rattle.cjc_classes.specs.CheckRules.declared.spot.ComponentPlace.{ComponentPlace}
use Rattle.cjc_classes.specs.CheckRules.Spots.{beside, in_info, unless}
use Rattle.cjc_card_link.specs.World.Classes.{Class}
use Rattle.cjc_card_link.specs.World.Order.{methods_of_class}
use Rattle.cjc_pairing.specs.Working.Heads.{count_spots_at}

-- ---- classes beside numbers

abbrev pub spots_from : (at : ℕ) → List ClassDescriptor → List ℕ → List ComponentPlace
spots_from at ds counts = beside described_size count_spots_at at ds counts

no_count : (at : ℕ) (ds : List ClassDescriptor) → spots_from at ds [] ≡ []
unfolding beside
no_count at [] = refl
no_count at (d ∷ ds) = refl

no_class : (at : ℕ) (counts : List ℕ) → spots_from at [] counts ≡ []
unfolding beside
no_class at [] = refl
no_class at (n ∷ counts) = refl

step : (at i e : ℕ) (x : ClassDescriptor) (ds : List ClassDescriptor) (counts : List ℕ) → i < length ds
    → i < length counts → x ≡ get_or ds i x
    → spots_from at (drop i ds) (drop i counts) ≡ count_spots_at at x (get_or counts i e)
    ++ spots_from (at + described_size x) (drop (i + 1) ds) (drop (i + 1) counts)
unfolding beside
step at i e x ds counts ld lc is =
    let d : drop i ds ≡ x ∷ drop (i + 1) ds = drop_more ds i x ld ∙ ap (λ (y : ClassDescriptor). y ∷ drop (i + 1) ds)
    (sym is) in
    ap (λ (zs : List ClassDescriptor). spots_from at zs (drop i counts)) d
    ∙ ap (λ (zs : List ℕ). spots_from at (x ∷ drop (i + 1) ds) zs) (drop_more counts i e lc)

-- it has so many methods
pub passed : (at next i e : ℕ) (x : ClassDescriptor) (ds : List ClassDescriptor) (counts : List ℕ)
    (total : List ComponentPlace) → i < length ds → i < length counts → x ≡ get_or ds i x
    → length x.methods ≡ get_or counts i e → next ≡ at + described_size x
    → head_of (spots_from at (drop i ds) (drop i counts)) ≡ total
    → head_of (spots_from next (drop (i + 1) ds) (drop (i + 1) counts)) ≡ total
passed at next i e x ds counts total ld lc is same n so_far =
    let t : (length x.methods == get_or counts i e) ≡ true = grind (arith, nat_tests, same) in
    let rest = spots_from (at + described_size x) (drop (i + 1) ds) (drop (i + 1) counts) in
    ap (λ k. head_of (spots_from k (drop (i + 1) ds) (drop (i + 1) counts))) n
    ∙ ap (λ b. head_of (unless b (in_info 11 (at + 7)) ++ rest)) (sym t)
    ∙ ap head_of (sym (step at i e x ds counts ld lc is))
    ∙ so_far

-- it has another number of methods
pub stopped : (at i e : ℕ) (x : ClassDescriptor) (ds : List ClassDescriptor) (counts : List ℕ)
    (total : List ComponentPlace) → i < length ds → i < length counts → x ≡ get_or ds i x
    → (length x.methods ≡ get_or counts i e → ⊥)
    → head_of (spots_from at (drop i ds) (drop i counts)) ≡ total → in_info 11 (at + 7) ∷ [] ≡ total
stopped at i e x ds counts total ld lc is other so_far =
    let t : (length x.methods == get_or counts i e) ≡ false = grind (arith, nat_tests, other) in
    let rest = spots_from (at + described_size x) (drop (i + 1) ds) (drop (i + 1) counts) in
    ap (λ b. head_of (unless b (in_info 11 (at + 7)) ++ rest)) (sym t)
    ∙ ap head_of (sym (step at i e x ds counts ld lc is))
    ∙ so_far

pub short : (at i : ℕ) (ds : List ClassDescriptor) (counts : List ℕ) (total : List ComponentPlace) → length counts ≤ i
    → head_of (spots_from at (drop i ds) (drop i counts)) ≡ total → [] ≡ total
short at i ds counts total le so_far =
    ap head_of (sym (no_count at (drop i ds)))
    ∙ ap (λ (zs : List ℕ). head_of (spots_from at (drop i ds) zs)) (sym (drop_all i counts le))
    ∙ so_far

pub all : (at i : ℕ) (ds : List ClassDescriptor) (counts : List ℕ) (total : List ComponentPlace) → length ds ≤ i
    → head_of (spots_from at (drop i ds) (drop i counts)) ≡ total → [] ≡ total
all at i ds counts total le so_far =
    ap head_of (sym (no_class at (drop i counts)))
    ∙ ap (λ (zs : List ClassDescriptor). head_of (spots_from at zs (drop i counts))) (sym (drop_all i ds le))
    ∙ so_far

-- the numbers are those of classes
pub by_classes : (w : List Class) (at : ℕ) (ds : List ClassDescriptor) (cs : List Class)
    → spots_from at ds (map (λ c. length (methods_of_class w c)) cs) ≡ beside described_size (methods_spots w) at ds cs
unfolding beside
by_classes w at [] [] = refl
by_classes w at [] (c ∷ cs) = refl
by_classes w at (d ∷ ds) [] = refl
by_classes w at (d ∷ ds) (c ∷ cs) = ap (λ ss. methods_spots w at d c ++ ss) (by_classes w (at + described_size d) ds cs)

-- ---- what is told

pub first_alone : (bs : List Break) (o : Option Break) → option_to_list o ≡ bs → IsFirstOf bs o
first_alone bs None e = sym e
first_alone bs (Some b) e = subst (IsFirst b) e (first_of_one b)

pub none_told : (spots : List ComponentPlace) → map (break_at 719) spots ≡ [] → spots ≡ []
none_told [] e = refl
none_told (s ∷ spots) e = absurd cc
