-- What a filter makes of one item more.
use Rattle.std.proofs.Common.{◌≡◌, ◌+◌, ◌<◌, ℕ, List, [], ◌∷◌, ◌++◌, length, take, get_or, filter_map, Option, Some}
use Rattle.std.proofs.Common.{None, refl, ap, ◌∙◌, append_assoc}
use Rattle.std.proofs.lemmas.List.{take_more}
use Rattle.std.proofs.lemmas.List.Elements.{filter_map-append}
use Rattle.std.specs.List.{cons_option}
use Rattle.std.specs.Option.{option_to_list}

one_kept : {Y : Type 0} (found : Option Y) → cons_option found [] ≡ option_to_list found
one_kept None = refl
one_kept (Some y) = refl

filter_map-take_more : {X Y : Type 0} (h : X → Option Y) (xs : List X) (i : ℕ) (d : X) → i < length xs
    → filter_map h (take (i + 1) xs) ≡ filter_map h (take i xs) ++ option_to_list (h (get_or xs i d))
filter_map-take_more h xs i d lt =
    ap (filter_map h) (take_more xs i d lt) ∙ filter_map-append h (take i xs) (get_or xs i d ∷ [])
    ∙ ap (λ y. filter_map h (take i xs) ++ y) (one_kept (h (get_or xs i d)))

-- the step of a loop that puts what is found behind what was there
pub put_more : {X Y : Type 0} (h : X → Option Y) (xs : List X) (i : ℕ) (d : X) (found : Option Y) (start before after :
    List Y) → i < length xs → found ≡ h (get_or xs i d) → before ≡ start ++ filter_map h (take i xs) → after ≡ before
    ++ option_to_list found → after ≡ start ++ filter_map h (take (i + 1) xs)
put_more h xs i d found start before after lt is was now =
    let more = filter_map-take_more h xs i d lt in
    let grouped = append_assoc start (filter_map h (take i xs)) (option_to_list found) in
    let last = ap option_to_list is in
    cc

-- the same, for an item that was read
pub put_read : {X Y : Type 0} (h : X → Option Y) (xs : List X) (i : ℕ) (x : X) (found : Option Y) (start before after :
    List Y) → i < length xs → x ≡ get_or xs i x → found ≡ h x → before ≡ start ++ filter_map h (take i xs)
    → after ≡ before ++ option_to_list found → after ≡ start ++ filter_map h (take (i + 1) xs)
put_read h xs i x found start before after lt read is was now = put_more h xs i x found start before after lt (is
    ∙ ap h read) was now
