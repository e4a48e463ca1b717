-- Rows that are made item by item.
use Rattle.std.proofs.Common.{◌≡◌, ℕ, ◌+◌, ◌<◌, ◌≤◌, List, ◌∷◌, ◌++◌, length, get_or, slice_get, drop, map, sym, ap}
use Rattle.std.proofs.Common.{◌∙◌, arith, append_assoc, append-nil, None}
use Rattle.std.proofs.lemmas.List.{drop_more, drop_all, map-append}
use Rattle.cjc_world.specs.Classes.{Class}
use Rattle.cjc_world.specs.Working.Places.{at_places}
use Rattle.cjc_components.specs.LowerCapRead.declared.tree.ClassRef.{ClassRef}
use Rattle.cjc_components.specs.LowerCapRead.declared.tree.ClassDescriptor.{ClassDescriptor}
use Rattle.cjc_classes.specs.Descriptor.Working.Described.{Inputs, class_in, class_where, classes_at, each_from}

-- by their places
each_step : {A B : Type 0} (f : ℕ → A → List B) (row : List B) (xs : List A) (k i : ℕ) (d : A) → i < length xs
    → (row ++ f k (get_or xs i d)) ++ each_from f (k + 1) (drop (i + 1) xs) ≡ row ++ each_from f k (drop i xs)
each_step {A} f row xs k i d lt =
    append_assoc row (f k (get_or xs i d)) (each_from f (k + 1) (drop (i + 1) xs))
    ∙ ap (λ (ys : List A). row ++ each_from f k ys) (sym (drop_more xs i d lt))

pub each_next : {A B : Type 0} (f : ℕ → A → List B) (row : List B) (xs : List A) (i : ℕ) (d : A) (total : List B)
    → i < length xs
    → row ++ each_from f i (drop i xs) ≡ total → (row ++ f i (get_or xs i d)) ++ each_from f (i + 1) (drop (i + 1) xs)
    ≡ total
each_next f row xs i d total lt so_far = each_step f row xs i i d lt ∙ so_far

pub each_end : {A B : Type 0} (f : ℕ → A → List B) (row : List B) (xs : List A) (i : ℕ) (total : List B) → length xs ≤ i
    → row ++ each_from f i (drop i xs) ≡ total → row ≡ total
each_end {A} f row xs i total le so_far = sym (append-nil row) ∙ ap (λ (ys : List A). row ++ each_from f i ys)
    (sym (drop_all i xs le)) ∙ so_far

-- behind a first place
pub each_next_from : {A B : Type 0} (f : ℕ → A → List B) (row : List B) (xs : List A) (first i : ℕ) (d : A)
    (total : List B) → i < length xs
    → row ++ each_from f (first + i) (drop i xs) ≡ total → (row ++ f (first + i) (get_or xs i d))
    ++ each_from f (first + (i + 1)) (drop (i + 1) xs) ≡ total
each_next_from f row xs first i d total lt so_far =
    let s : first + (i + 1) ≡ first + i + 1 = omega arith in
    ap (λ k. (row ++ f (first + i) (get_or xs i d)) ++ each_from f k (drop (i + 1) xs)) s
    ∙ each_step f row xs (first + i) i d lt ∙ so_far

pub each_end_from : {A B : Type 0} (f : ℕ → A → List B) (row : List B) (xs : List A) (first i : ℕ) (total : List B)
    → length xs ≤ i → row ++ each_from f (first + i) (drop i xs) ≡ total → row ≡ total
each_end_from {A} f row xs first i total le so_far = sym (append-nil row) ∙ ap (λ (ys : List A). row
    ++ each_from f (first + i) ys) (sym (drop_all i xs le)) ∙ so_far

-- ---- the classes at places

first_place : (ref : List ℕ → ClassRef) (w : List Class) (place : ℕ) (places : List ℕ)
    → map (λ i. ref i.name) (at_places w (place ∷ places)) ≡ class_in ref w place
    ++ map (λ i. ref i.name) (at_places w places)
unfolding at_places
first_place ref w place places = map-append (λ (i : Class). ref i.name) _ (at_places w places)

pub places_next : (ref : List ℕ → ClassRef) (w : List Class) (row : List ClassRef) (places : List ℕ) (i d : ℕ)
    (total : List ClassRef) → i < length places
    → row ++ map (λ i. ref i.name) (at_places w (drop i places)) ≡ total → (row ++ class_in ref w (get_or places i d))
    ++ map (λ i. ref i.name) (at_places w (drop (i + 1) places)) ≡ total
places_next ref w row places i d total lt so_far =
    append_assoc row (class_in ref w (get_or places i d)) (map (λ (c : Class). ref c.name)
    (at_places w (drop (i + 1) places)))
    ∙ ap (λ xs. row ++ xs) (sym (first_place ref w (get_or places i d) (drop (i + 1) places)))
    ∙ ap (λ (ys : List ℕ). row ++ map (λ (c : Class). ref c.name) (at_places w ys)) (sym (drop_more places i d lt))
    ∙ so_far

pub places_end : (ref : List ℕ → ClassRef) (w : List Class) (row : List ClassRef) (places : List ℕ) (i : ℕ)
    (total : List ClassRef) → length places ≤ i
    → row ++ map (λ i. ref i.name) (at_places w (drop i places)) ≡ total → row ≡ total
unfolding at_places
places_end ref w row places i total le so_far = sym (append-nil row) ∙ ap (λ (ys : List ℕ). row
    ++ map (λ (c : Class). ref c.name) (at_places w ys)) (sym (drop_all i places le)) ∙ so_far

-- ---- a class that is not there

pub none_there : (q : Inputs) (n : ℕ) (row : List ClassDescriptor) → slice_get (let files = q.files in files.classes) n
    ≡ None → row ≡ row ++ classes_at q n
none_there q n row e = sym (append-nil row) ∙ ap (λ o. row ++ class_where q n o) (sym e)
