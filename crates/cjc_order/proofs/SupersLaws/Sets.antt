-- Names that are put behind others, each once, and walks that pass over what they are done with.
use Rattle.std.proofs.Common.{◌≡◌, ◌⊎◌, ℕ, ◌+◌, ◌<◌, ◌≤◌, Bool, true, false, cond, ◌||◌, List, [], ◌∷◌, ◌++◌, map}
use Rattle.std.proofs.Common.{append_assoc, append-nil, refl, sym, ap, subst, ◌∙◌, length, get_or, slice_get, take}
use Rattle.std.proofs.Common.{Some, drop, inl, inr, arith, not}
use Rattle.std.specs.List.{flat_map}
use Rattle.std.specs.Str.{bytes_eq}
use Rattle.std.proofs.lemmas.List.{drop_all, map-append, take_more}
use Rattle.std.proofs.lemmas.Option.{slice_get_within, get_or_from_slice_get}
use Rattle.std.proofs.lemmas.List.Folds.{list_any-append}
use Rattle.std.proofs.lemmas.Slice.Eq.{bytes_eq-Decides}
use Rattle.indexmap.specs.IndexSet.{insert_key}
use Rattle.cjc_world.specs.ExportFile.Supers.{is_one_of}
use Rattle.cjc_world.specs.Interfaces.{Interface, is_among}
use Rattle.cjc_world.specs.Interfaces
use Rattle.cjc_world.specs.Classes.{Class}
use Rattle.cjc_world.specs.Supertypes.{supertypes}
use Rattle.cjc_order.specs.Supers.Supers.{each_once, name_of}
use Rattle.cjc_order.specs.Supers.Working.Walk.{names-equivalence, has, put, with_all, AreIn, AreDone, StandAbove, size}
use Rattle.cjc_world.proofs.BytesLists.{name_is}
use Rattle.cjc_world.proofs.BytesBools.{not_false, or_true, or_cases}
use Rattle.cjc_world.proofs.BytesGets.{get_step}

-- ---- one after the other

pub all_append : (ks xs ys : List (List ℕ)) → with_all ks (xs ++ ys) ≡ with_all (with_all ks xs) ys
all_append ks [] ys = refl
all_append ks (x ∷ xs) ys = all_append (insert_key bytes_eq ks x) xs ys

pub walk_next : (f : List ℕ → List (List ℕ)) (ks : List (List ℕ)) (list : List (List ℕ)) (i : ℕ) (d : List ℕ)
    (total : List (List ℕ)) → i < length list
    → with_all ks (flat_map f (drop i list)) ≡ total → with_all (with_all ks (f (get_or list i d)))
    (flat_map f (drop (i + 1) list)) ≡ total
walk_next f ks list i d total lt so_far =
    sym (all_append ks (f (get_or list i d)) (flat_map f (drop (i + 1) list)))
    ∙ (ap (with_all ks) (sym (get_step f list i d lt)) ∙ so_far)

pub walk_end : (f : List ℕ → List (List ℕ)) (ks : List (List ℕ)) (list : List (List ℕ)) (i : ℕ) (total : List (List ℕ))
    → length list ≤ i
    → with_all ks (flat_map f (drop i list)) ≡ total → ks ≡ total
walk_end f ks list i total le so_far = ap (λ xs. with_all ks (flat_map f xs)) (sym (drop_all i list le)) ∙ so_far

-- ---- members

has_last : (ks : List (List ℕ)) (x : List ℕ) → has (ks ++ x ∷ []) x ≡ true
has_last ks x = list_any-append (bytes_eq x) ks (x ∷ []) ∙ (ap (λ b. has ks x || (b || false)) (name_is x)
    ∙ or_true (has ks x))

has_longer : (ks : List (List ℕ)) (x y : List ℕ) → has ks y ≡ true → has (ks ++ x ∷ []) y ≡ true
has_longer ks x y h = list_any-append (bytes_eq y) ks (x ∷ []) ∙ ap (λ b. b || has (x ∷ []) y) h

insert_new : (ks : List (List ℕ)) (x : List ℕ) → has (insert_key bytes_eq ks x) x ≡ true
insert_new ks x = go (has ks x) refl
  where
    go : (b : Bool) → has ks x ≡ b → has (cond b ks (ks ++ x ∷ [])) x ≡ true
    go true e = e
    go false e = has_last ks x

insert_old : (ks : List (List ℕ)) (x y : List ℕ) → has ks y ≡ true → has (insert_key bytes_eq ks x) y ≡ true
insert_old ks x y h = go (has ks x)
  where
    go : (b : Bool) → has (cond b ks (ks ++ x ∷ [])) y ≡ true
    go true = h
    go false = has_longer ks x y h

insert_cases : (ks : List (List ℕ)) (x y : List ℕ) → has (insert_key bytes_eq ks x) y ≡ true → has ks y ≡ true ⊎ (y ≡ x)
insert_cases ks x y h = go (has ks x) h
  where
    last : has (x ∷ []) y ≡ true → y ≡ x
    last e = one (or_cases (bytes_eq y x) false e)
      where
        one : (bytes_eq y x ≡ true) ⊎ (false ≡ true) → y ≡ x
        one (inl same) = (bytes_eq-Decides y x).0 same
        one (inr other) = absurd cc

    go : (b : Bool) → has (cond b ks (ks ++ x ∷ [])) y ≡ true → has ks y ≡ true ⊎ (y ≡ x)
    go true h = inl h
    go false h = pick (or_cases (has ks y) (has (x ∷ []) y) (sym (list_any-append (bytes_eq y) ks (x ∷ [])) ∙ h))
      where
        pick : (has ks y ≡ true) ⊎ (has (x ∷ []) y ≡ true) → has ks y ≡ true ⊎ (y ≡ x)
        pick (inl old) = inl old
        pick (inr new) = inr (last new)

all_old : (ks xs : List (List ℕ)) (y : List ℕ) → has ks y ≡ true → has (with_all ks xs) y ≡ true
all_old ks [] y h = h
all_old ks (x ∷ xs) y h = all_old (insert_key bytes_eq ks x) xs y (insert_old ks x y h)

pub in_more : (ks xs ns : List (List ℕ)) → AreIn ks ns → AreIn (with_all ks xs) ns
in_more ks xs [] h = tt
in_more ks xs (n ∷ ns) h = (all_old ks xs n h.0, in_more ks xs ns h.1)

pub all_in : (ks ns : List (List ℕ)) → AreIn (with_all ks ns) ns
all_in ks [] = tt
all_in ks (n ∷ ns) = (all_old (insert_key bytes_eq ks n) ns n (insert_new ks n), all_in (insert_key bytes_eq ks n) ns)

pub none_new : (ks ns : List (List ℕ)) → AreIn ks ns → with_all ks ns ≡ ks
none_new ks [] h = refl
none_new ks (n ∷ ns) h = ap (λ b. with_all (cond b ks (ks ++ n ∷ [])) ns) h.0 ∙ none_new ks ns h.1

-- ---- a walk

in_longer : (ks ls xs ns : List (List ℕ)) → ls ≡ with_all ks xs → AreIn ks ns → AreIn ls ns
in_longer ks ls xs ns same h = subst (λ ms. AreIn ms ns) (sym same) (in_more ks xs ns h)

-- a name that is not new was there
pub was_there : (ks : List (List ℕ)) (x : List ℕ) → not (has ks x) ≡ false → has ks x ≡ true
was_there ks x h = not_false (has ks x) h

-- a name that is there is not put once more
pub put_old : (ks ls : List (List ℕ)) (x : List ℕ) → ls ≡ put ks x → has ks x ≡ true → ls ≡ ks
put_old ks ls x same h = same ∙ ap (λ b. cond b ks (ks ++ x ∷ [])) h

module _ (adds : List ℕ → List (List ℕ)) where
  -- one part of a walk after another
  pub done_then : (before c d n m xs : List (List ℕ)) → m ≡ with_all n xs → AreDone adds before c n
      → AreDone adds c d m → AreDone adds before d m
  done_then before c d n m xs same first second y e = go (second y e)
    where
      pick : (has before y ≡ true) ⊎ AreIn n (adds y) → (has before y ≡ true) ⊎ AreIn m (adds y)
      pick (inl older) = inl older
      pick (inr done) = inr (in_longer n m xs (adds y) same done)

      go : (has c y ≡ true) ⊎ AreIn m (adds y) → (has before y ≡ true) ⊎ AreIn m (adds y)
      go (inl old) = pick (first y old)
      go (inr done) = inr done

  -- all that a name adds has been seen, so the walk is done with it
  pub done_one : (c begun d m : List (List ℕ)) (x : List ℕ) → begun ≡ put c x → AreDone adds begun d m
      → AreIn m (adds x) → AreDone adds c d m
  done_one c begun d m x begins done all y e = go (done y e)
    where
      pick : (has c y ≡ true) ⊎ (y ≡ x) → (has c y ≡ true) ⊎ AreIn m (adds y)
      pick (inl old) = inl old
      pick (inr same) = inr (subst (λ z. AreIn m (adds z)) (sym same) all)

      go : (has begun y ≡ true) ⊎ AreIn m (adds y) → (has c y ≡ true) ⊎ AreIn m (adds y)
      go (inl old) = pick (insert_cases c x y (sym (ap (λ ks. has ks y) begins) ∙ old))
      go (inr more) = inr more

  -- before the first step
  pub none_above : (w : List Class) (c n names : List (List ℕ)) → c ≡ [] → StandAbove w adds c n names
  none_above w c n names is y e = let no : false ≡ true = sym (ap (λ ks. has ks y) is) ∙ e in absurd cc

  -- of what stands above the same names, after a part of the walk
  pub above_then : (w : List Class) (c d n m xs names : List (List ℕ)) → m ≡ with_all n xs
      → StandAbove w adds c n names → AreDone adds c d m → StandAbove w adds d m names
  above_then w c d n m xs names same above done y e = go (done y e)
    where
      pick : AreIn n (adds y) ⊎ (size (supertypes w names) < size (supertypes w (y ∷ []))) → AreIn m (adds y)
          ⊎ (size (supertypes w names) < size (supertypes w (y ∷ [])))
      pick (inl old) = inl (in_longer n m xs (adds y) same old)
      pick (inr more) = inr more

      go : (has c y ≡ true) ⊎ AreIn m (adds y) → AreIn m (adds y)
          ⊎ (size (supertypes w names) < size (supertypes w (y ∷ [])))
      go (inl old) = pick (above y old)
      go (inr now) = inl now

  -- a step upwards, from a name to those that its class lists
  pub above_step : (w : List Class) (c begun n m xs names listed : List (List ℕ)) (x : List ℕ) → begun ≡ put c x
      → m ≡ with_all n xs
      → size (supertypes w listed) < size (supertypes w names)
      → size (supertypes w listed) < size (supertypes w (x ∷ []))
      → StandAbove w adds c n names → StandAbove w adds begun m listed
  above_step w c begun n m xs names listed x begins same less here above y e =
      go (insert_cases c x y (sym (ap (λ ks. has ks y) begins) ∙ e))
    where
      pick : AreIn n (adds y) ⊎ (size (supertypes w names) < size (supertypes w (y ∷ []))) → AreIn m (adds y)
          ⊎ (size (supertypes w listed) < size (supertypes w (y ∷ [])))
      pick (inl old) = inl (in_longer n m xs (adds y) same old)
      pick (inr more) = inr (omega (arith, less, more))

      go : (has c y ≡ true) ⊎ (y ≡ x) → AreIn m (adds y)
          ⊎ (size (supertypes w listed) < size (supertypes w (y ∷ [])))
      go (inl old) = pick (above y old)
      go (inr is) = inr (subst (λ z. size (supertypes w listed) < size (supertypes w (z ∷ []))) (sym is) here)

  -- the walk came to one of the names before: all that it adds has been seen
  pub seen_before : (w : List Class) (c n names : List (List ℕ)) (x : List ℕ) → StandAbove w adds c n names
      → has c x ≡ true → size (supertypes w (x ∷ [])) ≤ size (supertypes w names) → AreIn n (adds x)
  seen_before w c n names x above is within = go (above x is)
    where
      go : AreIn n (adds x) ⊎ (size (supertypes w names) < size (supertypes w (x ∷ []))) → AreIn n (adds x)
      go (inl old) = old
      go (inr more) = absurd (omega (arith, within, more))

-- ---- each once

one_of_has : (ks : List (List ℕ)) (x : List ℕ) → is_one_of ks x ≡ has ks x
one_of_has [] x = refl
one_of_has (k ∷ ks) x = ap (λ b. b || is_one_of ks x) (names-equivalence.symm k x) ∙ ap (λ b. bytes_eq x k
    || b) (one_of_has ks x)

-- what is put behind names that are there is what of it is new, each once
pub all_once : (ks xs : List (List ℕ)) → with_all ks xs ≡ ks ++ each_once ks xs
all_once ks [] = sym (append-nil ks)
all_once ks (x ∷ xs) = go (has ks x) refl (all_once ks xs) (all_once (ks ++ x ∷ []) xs)
  where
    go : (b : Bool) → has ks x ≡ b → with_all ks xs ≡ ks ++ each_once ks xs → with_all (ks ++ x ∷ []) xs
        ≡ (ks ++ x ∷ []) ++ each_once (ks ++ x ∷ []) xs
        → with_all (cond (has ks x) ks (ks ++ x ∷ [])) xs ≡ ks ++ cond (is_one_of ks x) (each_once ks xs) (x
        ∷ each_once (ks ++ x ∷ []) xs)
    go true e old new =
        ap (λ b. with_all (cond b ks (ks ++ x ∷ [])) xs) e
        ∙ (old
        ∙ sym (ap (λ b. ks ++ cond b (each_once ks xs) (x ∷ each_once (ks ++ x ∷ []) xs)) (one_of_has ks x ∙ e)))
    go false e old new =
        ap (λ b. with_all (cond b ks (ks ++ x ∷ [])) xs) e
        ∙ (new
        ∙ (append_assoc ks (x ∷ []) (each_once (ks ++ x ∷ []) xs)
        ∙ sym (ap (λ b. ks ++ cond b (each_once ks xs) (x ∷ each_once (ks ++ x ∷ []) xs)) (one_of_has ks x ∙ e))))

among_has : (is : List Interface) (name : List ℕ) → is_among is name ≡ is_one_of (map name_of is) name
among_has [] name = refl
among_has (i ∷ is) name = ap (λ b. bytes_eq i.name name || b) (among_has is name)

-- interfaces that stand once stand once by their names
pub interfaces_once : (ks xs : List Interface) → map name_of (Interfaces.each_once ks xs) ≡ each_once (map name_of ks)
    (map name_of xs)
interfaces_once ks [] = refl
interfaces_once ks (i ∷ is) = go (is_among ks i.name) refl (interfaces_once ks is) (interfaces_once (ks ++ i ∷ []) is)
  where
    go : (b : Bool) → is_among ks i.name ≡ b → map name_of (Interfaces.each_once ks is) ≡ each_once (map name_of ks)
        (map name_of is)
        → map name_of (Interfaces.each_once (ks ++ i ∷ []) is) ≡ each_once (map name_of (ks ++ i ∷ [])) (map name_of is)
        → map name_of (cond (is_among ks i.name) (Interfaces.each_once ks is) (i ∷ Interfaces.each_once (ks
        ++ i ∷ []) is))
        ≡ cond (is_one_of (map name_of ks) i.name) (each_once (map name_of ks) (map name_of is)) (i.name
        ∷ each_once (map name_of ks ++ i.name ∷ []) (map name_of is))
    go true e old new =
        ap (λ b. map name_of (cond b (Interfaces.each_once ks is) (i ∷ Interfaces.each_once (ks ++ i ∷ []) is))) e
        ∙ (old
        ∙ sym (ap (λ b. cond b (each_once (map name_of ks) (map name_of is)) (i.name ∷ each_once (map name_of ks
        ++ i.name ∷ []) (map name_of is))) (sym (among_has ks i.name) ∙ e)))
    go false e old new =
        ap (λ b. map name_of (cond b (Interfaces.each_once ks is) (i ∷ Interfaces.each_once (ks ++ i ∷ []) is))) e
        ∙ (ap (λ ns. i.name ∷ ns) (new ∙ ap (λ ns. each_once ns (map name_of is)) (map-append name_of ks (i ∷ [])))
        ∙ sym (ap (λ b. cond b (each_once (map name_of ks) (map name_of is)) (i.name ∷ each_once (map name_of ks
        ++ i.name ∷ []) (map name_of is))) (sym (among_has ks i.name) ∙ e)))

-- ---- copies

-- a name more has been copied
pub copied_next : (names : List (List ℕ)) (i : ℕ) (x y : List ℕ) (old new : List (List ℕ)) → slice_get names i ≡ Some y
    → x ≡ y → old ≡ take i names → new ≡ old ++ x ∷ [] → new ≡ take (i + 1) names
copied_next names i x y old new e same so_far more =
    more
    ∙ (ap (λ ns. ns ++ x ∷ []) so_far
    ∙ (ap (λ n. take i names ++ n ∷ []) (same ∙ sym (get_or_from_slice_get names i y x e))
    ∙ sym (take_more names i x (slice_get_within names i y e))))
