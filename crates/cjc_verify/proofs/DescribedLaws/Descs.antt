-- Which types of a descriptor the card has values of.
use Rattle.std.proofs.Common.{◌≡◌, ℕ, Bool, true, false, List, [], ◌∷◌, map, refl, sym, ap, ◌∙◌, Option, Some, None}
use Rattle.std.specs.Prelude.{◌&&◌, if◌then◌else◌, option_and_then}
use Rattle.std.specs.List.{list_all}
use Rattle.cjc_bytes.specs.Descriptor.{Part, Parts}
use Rattle.cjc_bytes.specs.Spots.{desc_of}
use Rattle.cjc_card_acts.specs.Script.Sorts.{Signature, Sort, field_sort, result_by, signature_by, signature_of}
use Rattle.cjc_card_acts.specs.Script.Sorts.{sort_of, sort_or_none}
use Rattle.cjc_verify.specs.CardTypes.{is_card_parts}
use Rattle.cjc_verify.specs.Pairs.{is_card_result, is_card_sort, is_card_type}

-- ---- parameters

pub card_next : (all rest : List Part) (p : Part) (total : Bool) → all ≡ p ∷ rest → is_card_sort (sort_of p) ≡ true
    → list_all (λ (x : Part). is_card_sort (sort_of x)) all ≡ total
    → list_all (λ (x : Part). is_card_sort (sort_of x)) rest ≡ total
card_next all rest p total is holds so_far =
    let test : Part → Bool = λ x. is_card_sort (sort_of x) in
    sym (ap (λ (b : Bool). b && list_all test rest) holds) ∙ sym (ap (list_all test) is) ∙ so_far

pub card_stop : (all rest : List Part) (p : Part) (total : Bool) → all ≡ p ∷ rest → is_card_sort (sort_of p) ≡ false
    → list_all (λ (x : Part). is_card_sort (sort_of x)) all ≡ total → false ≡ total
card_stop all rest p total is fails so_far =
    let test : Part → Bool = λ x. is_card_sort (sort_of x) in
    sym (ap (λ (b : Bool). b && list_all test rest) fails) ∙ sym (ap (list_all test) is) ∙ so_far

pub card_end : (all : List Part) (total : Bool) → all ≡ []
    → list_all (λ (x : Part). is_card_sort (sort_of x)) all ≡ total → true ≡ total
card_end all total is so_far = sym (ap (list_all (λ (x : Part). is_card_sort (sort_of x))) is) ∙ so_far

-- ---- descriptors

all_mapped : {A B : Type 0} (f : A → B) (test : B → Bool) (xs : List A) → list_all test (map f xs)
    ≡ list_all (λ x. test (f x)) xs
all_mapped f test [] = refl
all_mapped f test (x ∷ xs) = ap (λ (b : Bool). test (f x) && b) (all_mapped f test xs)

card_with : Option Signature → Sort → Bool
card_with None sort = is_card_sort sort
card_with (Some types) _ = list_all is_card_sort types.params && is_card_result types.result

by_with : (desc : List ℕ) (s : Option Signature) → is_card_type desc s ≡ card_with s (field_sort desc)
unfolding card_with
by_with desc None = refl
by_with desc (Some types) = refl

with_parts : (d : Parts) → card_with (signature_by d) (sort_of d.result) ≡ is_card_parts d
unfolding card_with
with_parts d = by d.is_method
  where
    by : (b : Bool) → card_with (if b then Some (record {
      params = map sort_of d.params;
      result = (let r = d.result in result_by r.kind r);
    }) else None) (sort_of d.result)
        ≡ (if b then list_all (λ (x : Part). is_card_sort (sort_of x)) d.params && is_card_result (let r = d.result
        in result_by r.kind r) else is_card_sort (sort_of d.result))
    by true = ap (λ (b : Bool). b && is_card_result (let r = d.result in result_by r.kind r)) (all_mapped sort_of
        is_card_sort d.params)
    by false = refl

pub card_some : (desc : List ℕ) (d : Parts) → Some d ≡ desc_of desc → is_card_type desc (signature_of desc)
    ≡ is_card_parts d
card_some desc d e =
    by_with desc (option_and_then signature_by (desc_of desc))
    ∙ ap (λ (o : Option Parts). card_with (option_and_then signature_by o) (sort_or_none o)) (sym e)
    ∙ with_parts d

pub card_none : (desc : List ℕ) → None ≡ desc_of desc → is_card_type desc (signature_of desc) ≡ false
unfolding card_with
card_none desc e =
    by_with desc (option_and_then signature_by (desc_of desc))
    ∙ ap (λ (o : Option Parts). card_with (option_and_then signature_by o) (sort_or_none o)) (sym e)
