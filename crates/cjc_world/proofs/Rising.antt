-- Look-up and the tree of what stands above: what a row of names has is what its first has, then the rest.
use Rattle.std.proofs.Common.{◌≡◌, ℕ, zero, suc, ◌<◌, ◌≤◌, ◌+◌, ◌-◌, refl, sym, ap, ◌∙◌, arith, Bool, true, false, List}
use Rattle.std.proofs.Common.{[], ◌∷◌, ◌++◌, length, get_or, drop, add-one}
use Rattle.std.specs.Prelude.{Option, Some, None, if◌then◌else◌, option_to_list, ◌||◌}
use Rattle.std.proofs.Math.Seq.{drop-cons}
use Rattle.std.proofs.lemmas.List.{append-nil}
use Rattle.std.proofs.lemmas.Grind.{common_steps}
use Rattle.std.specs.Str.{bytes_eq}
use Rattle.std.specs.List.{list_any}
use Rattle.std.proofs.lemmas.List.Folds.{list_any-append}
use Rattle.cjc_world.specs.declared.found.Found.{Found}
use Rattle.cjc_world.specs.Classes.{Class, class_named}
use Rattle.cjc_world.specs.Supertypes.{End, known_as, in_a_row, supertypes_within, supertypes, upwards, stands}
use Rattle.cjc_world.specs.Supertypes.{stands_by_supers}
use Rattle.cjc_world.specs.Interfaces.{Interface, where_listed, gathered, known}
use Rattle.cjc_world.specs.Lookup.{or_else, first, field_in}

-- ---- a walk over a row, one item further

module _ {R X : Type 0} (answer : List X → R) (join : R → R → R) (none : R) (row : (x : X) (xs : List X)
    → answer (x ∷ xs) ≡ join (answer (x ∷ [])) (answer xs)) (empty : answer [] ≡ none) where
  next : (xs : List X) (i : ℕ) (d y : X) (r : R) → i < length xs → y ≡ get_or xs i d → r ≡ answer (y ∷ [])
      → answer (drop i xs) ≡ join r (answer (drop (i + 1) xs))
  next xs i d y r within is e =
      ap answer (drop-cons xs i d within) ∙ row (get_or xs i d) (drop (suc i) xs)
      ∙ ap (λ n. join (answer (get_or xs i d ∷ [])) (answer (drop n xs))) (sym (add-one i))
      ∙ ap (λ r. join r (answer (drop (i + 1) xs))) (sym (e ∙ ap (λ y. answer (y ∷ [])) is))

  -- the item answers nothing
  pub walk_on : (xs : List X) (i : ℕ) (d y : X) → ((r : R) → join none r ≡ r) → i < length xs → y ≡ get_or xs i d
      → none ≡ answer (y ∷ []) → answer (drop i xs) ≡ answer xs → answer (drop (i + 1) xs) ≡ answer xs
  walk_on xs i d y unit within is e kept = sym (next xs i d y none within is e ∙ unit (answer (drop (i + 1) xs))) ∙ kept

  -- the item answers for the row
  pub walk_ends : (xs : List X) (i : ℕ) (d y : X) (r : R) → ((s : R) → join r s ≡ r) → i < length xs → y ≡ get_or xs i d
      → r ≡ answer (y ∷ []) → answer (drop i xs) ≡ answer xs → r ≡ answer xs
  walk_ends xs i d y r absorbs within is e kept = sym (sym kept ∙ next xs i d y r within is e
      ∙ absorbs (answer (drop (i + 1) xs)))

  -- no item is left
  pub walk_past : (xs : List X) (i : ℕ) → length xs ≤ i → answer (drop i xs) ≡ answer xs → none ≡ answer xs
  walk_past xs i l kept = let e : drop i xs ≡ [] = grind (arith, common_steps) in sym (sym kept ∙ ap answer e ∙ empty)

pub or_else-none : (f : Option Found) → or_else f None ≡ f
or_else-none None = refl
or_else-none (Some f) = refl

pub or_else-assoc : (f g h : Option Found) → or_else (or_else f g) h ≡ or_else f (or_else g h)
or_else-assoc None g h = refl
or_else-assoc (Some f) g h = refl

pub first-append : (own : Class → Option Found) (cs ds : List Class) → first own (cs ++ ds) ≡ or_else (first own cs)
    (first own ds)
unfolding first
first-append own [] ds = refl
first-append own (c ∷ cs) ds = ap (or_else (own c)) (first-append own cs ds)
    ∙ sym (or_else-assoc (own c) (first own cs) (first own ds))

pub known-append : (is js : List Interface) → known (is ++ js) ≡ known is ++ known js
unfolding known
known-append [] js = refl
known-append (i ∷ is) js = by i.class (known-append is js)
  where
    by : (o : Option Class) → known (is ++ js) ≡ known is ++ known js → option_to_list o ++ known (is ++ js)
        ≡ (option_to_list o ++ known is) ++ known js
    by None e = e
    by (Some c) e = ap (λ cs. c ∷ cs) e

less : (n : ℕ) → suc n - 1 ≡ n
less n = omega arith

-- ---- the walks of look-up

module _ (w : List Class) where
  module _ (own : Class → Option Found) where
    -- methods upwards
    pub above : ℕ → List (List ℕ) → Option Found
    above n xs = first own (upwards (supertypes_within w n xs))

    pub above-row : (n : ℕ) (x : List ℕ) (xs : List (List ℕ)) → first own (upwards (supertypes_within w n (x ∷ xs)))
        ≡ or_else (first own (upwards (supertypes_within w n (x ∷ []))))
        (first own (upwards (supertypes_within w n xs)))
    unfolding supertypes_within first
    above-row zero x xs = refl
    above-row (suc n) x xs = by (class_named w x)
      where
        rest : List Class
        rest = upwards (in_a_row w (supertypes_within w n) xs)

        by : (o : Option Class)
            → first own (upwards (known_as (supertypes_within w n) x o (in_a_row w (supertypes_within w n) xs)))
            ≡ or_else (first own (upwards (known_as (supertypes_within w n) x o End))) (first own rest)
        by None = refl
        by (Some c) = first-append own (c ∷ upwards (supertypes_within w n c.supers)) rest
            ∙ ap (λ cs. or_else (first own cs) (first own rest))
            (sym (append-nil (c ∷ upwards (supertypes_within w n c.supers))))

    pub above-empty : (n : ℕ) → first own (upwards (supertypes_within w n [])) ≡ None
    unfolding supertypes_within first
    above-empty zero = refl
    above-empty (suc n) = refl

    pub above-zero : (n : ℕ) (x : List ℕ) → n ≡ 0 → None ≡ first own (upwards (supertypes_within w n (x ∷ [])))
    unfolding supertypes_within first
    above-zero n x e = ap (λ n. first own (upwards (supertypes_within w n (x ∷ [])))) (sym e)

    pub above-unknown : (n : ℕ) (x : List ℕ) → None ≡ class_named w x
        → None ≡ first own (upwards (supertypes_within w n (x ∷ [])))
    unfolding supertypes_within first
    above-unknown zero x e = refl
    above-unknown (suc n) x e = ap (λ o. first own (upwards (known_as (supertypes_within w n) x o End))) e

    pub above-known : (n : ℕ) (x : List ℕ) (c : Class) → 0 < n → Some c ≡ class_named w x
        → or_else (own c) (first own (upwards (supertypes_within w (n - 1) c.supers)))
        ≡ first own (upwards (supertypes_within w n (x ∷ [])))
    unfolding supertypes_within first
    above-known zero x c l e = absurd (omega arith)
    above-known (suc n) x c l e =
        ap (λ k. or_else (own c) (first own (upwards (supertypes_within w k c.supers)))) (less n)
        ∙ ap (first own) (sym (append-nil (c ∷ upwards (supertypes_within w n c.supers))))
        ∙ ap (λ o. first own (upwards (known_as (supertypes_within w n) x o End))) e

    -- methods of interfaces
    among-row : (listed : Bool) (n : ℕ) (x : List ℕ) (xs : List (List ℕ))
        → gathered listed (supertypes_within w n (x ∷ xs)) ≡ gathered listed (supertypes_within w n (x ∷ []))
        ++ gathered listed (supertypes_within w n xs)
    unfolding supertypes_within gathered
    among-row listed zero x xs = refl
    among-row listed (suc n) x xs = by (class_named w x)
      where
        rest : List Interface
        rest = gathered listed (in_a_row w (supertypes_within w n) xs)

        by : (o : Option Class)
            → gathered listed (known_as (supertypes_within w n) x o (in_a_row w (supertypes_within w n) xs))
            ≡ gathered listed (known_as (supertypes_within w n) x o End) ++ rest
        by None = ap (λ is. is ++ rest) (sym (append-nil (where_listed listed (record { name = x; class = None }))))
        by (Some c) = ap (λ is. is ++ rest) (sym (append-nil (gathered false (supertypes_within w n c.supers)
            ++ gathered true (supertypes_within w n c.interfaces) ++ where_listed listed (record {
              name = c.name;
              class = Some c;
            }))))

    pub interfaces-row : (listed : Bool) (n : ℕ) (x : List ℕ) (xs : List (List ℕ))
        → first own (known (gathered listed (supertypes_within w n (x ∷ xs))))
        ≡ or_else (first own (known (gathered listed (supertypes_within w n (x ∷ [])))))
        (first own (known (gathered listed (supertypes_within w n xs))))
    interfaces-row listed n x xs =
        ap (λ is. first own (known is)) (among-row listed n x xs)
        ∙ ap (first own) (known-append (gathered listed (supertypes_within w n (x ∷ [])))
        (gathered listed (supertypes_within w n xs)))
        ∙ first-append own (known (gathered listed (supertypes_within w n (x ∷ []))))
        (known (gathered listed (supertypes_within w n xs)))

    pub interfaces-empty : (listed : Bool) (n : ℕ) → first own (known (gathered listed (supertypes_within w n [])))
        ≡ None
    unfolding supertypes_within first gathered known
    interfaces-empty listed zero = refl
    interfaces-empty listed (suc n) = refl

    pub interfaces-zero : (listed : Bool) (n : ℕ) (x : List ℕ) → n ≡ 0
        → None ≡ first own (known (gathered listed (supertypes_within w n (x ∷ []))))
    unfolding supertypes_within first gathered known
    interfaces-zero listed n x e = ap (λ n. first own (known (gathered listed (supertypes_within w n (x ∷ [])))))
        (sym e)

    pub interfaces-unknown : (listed : Bool) (n : ℕ) (x : List ℕ) → None ≡ class_named w x
        → None ≡ first own (known (gathered listed (supertypes_within w n (x ∷ []))))
    unfolding supertypes_within first gathered known
    interfaces-unknown true zero x e = refl
    interfaces-unknown false zero x e = refl
    interfaces-unknown true (suc n) x e =
        ap (λ o. first own (known (gathered true (known_as (supertypes_within w n) x o End)))) e
    interfaces-unknown false (suc n) x e =
        ap (λ o. first own (known (gathered false (known_as (supertypes_within w n) x o End)))) e

    where_self : (listed : Bool) (c : Class)
        → first own (known (where_listed listed (record { name = c.name; class = Some c }))) ≡ (if listed then own c
        else None)
    unfolding first known
    where_self true c = or_else-none (own c)
    where_self false c = refl

    pub interfaces-known : (listed : Bool) (n : ℕ) (x : List ℕ) (c : Class) → 0 < n → Some c ≡ class_named w x
        → or_else (first own (known (gathered false (supertypes_within w (n - 1) c.supers))))
        (or_else (first own (known (gathered true (supertypes_within w (n - 1) c.interfaces)))) (if listed
        then own c else None)) ≡ first own (known (gathered listed (supertypes_within w n (x ∷ []))))
    unfolding supertypes_within gathered
    interfaces-known listed zero x c l e = absurd (omega arith)
    interfaces-known listed (suc n) x c l e =
        let s = gathered false (supertypes_within w n c.supers) in
        let t = gathered true (supertypes_within w n c.interfaces) in
        let self = where_listed listed (record { name = c.name; class = Some c }) in
        ap (λ k. or_else (first own (known (gathered false (supertypes_within w k c.supers))))
        (or_else (first own (known (gathered true (supertypes_within w k c.interfaces)))) (if listed then own c
        else None))) (less n)
        ∙ ap (λ o. or_else (first own (known s)) (or_else (first own (known t)) o)) (sym (where_self listed c))
        ∙ sym (or_else-assoc (first own (known s)) (first own (known t)) (first own (known self)))
        ∙ ap (λ o. or_else o (first own (known self))) (sym (first-append own (known s) (known t))
        ∙ ap (first own) (sym (known-append s t)))
        ∙ sym (first-append own (known (s ++ t)) (known self)) ∙ ap (first own) (sym (known-append (s ++ t) self))
        ∙ ap (λ is. first own (known is)) (sym (append-nil (s ++ t ++ self)))
        ∙ ap (λ o. first own (known (gathered listed (known_as (supertypes_within w n) x o End)))) e

    -- fields
    pub fields-row : (n : ℕ) (x : List ℕ) (xs : List (List ℕ)) → field_in own (supertypes_within w n (x ∷ xs))
        ≡ or_else (field_in own (supertypes_within w n (x ∷ []))) (field_in own (supertypes_within w n xs))
    unfolding supertypes_within
    fields-row zero x xs = refl
    fields-row (suc n) x xs = by (class_named w x)
      where
        rest : Option Found
        rest = field_in own (in_a_row w (supertypes_within w n) xs)

        by : (o : Option Class)
            → field_in own (known_as (supertypes_within w n) x o (in_a_row w (supertypes_within w n) xs))
            ≡ or_else (field_in own (known_as (supertypes_within w n) x o End)) rest
        by None = refl
        by (Some c) =
            ap (λ f. or_else f rest)
            (sym (or_else-none (or_else (own c) (or_else (field_in own (supertypes_within w n c.interfaces))
            (field_in own (supertypes_within w n c.supers))))))

    pub fields-empty : (n : ℕ) → field_in own (supertypes_within w n []) ≡ None
    unfolding supertypes_within
    fields-empty zero = refl
    fields-empty (suc n) = refl

    pub fields-zero : (n : ℕ) (x : List ℕ) → n ≡ 0 → None ≡ field_in own (supertypes_within w n (x ∷ []))
    unfolding supertypes_within
    fields-zero n x e = ap (λ n. field_in own (supertypes_within w n (x ∷ []))) (sym e)

    pub fields-unknown : (n : ℕ) (x : List ℕ) → None ≡ class_named w x
        → None ≡ field_in own (supertypes_within w n (x ∷ []))
    unfolding supertypes_within
    fields-unknown zero x e = refl
    fields-unknown (suc n) x e = ap (λ o. field_in own (known_as (supertypes_within w n) x o End)) e

    pub fields-known : (n : ℕ) (x : List ℕ) (c : Class) → 0 < n → Some c ≡ class_named w x
        → or_else (own c) (or_else (field_in own (supertypes_within w (n - 1) c.interfaces))
        (field_in own (supertypes_within w (n - 1) c.supers))) ≡ field_in own (supertypes_within w n (x ∷ []))
    unfolding supertypes_within
    fields-known zero x c l e = absurd (omega arith)
    fields-known (suc n) x c l e =
        ap (λ k. or_else (own c) (or_else (field_in own (supertypes_within w k c.interfaces))
        (field_in own (supertypes_within w k c.supers)))) (less n)
        ∙ sym (or_else-none (or_else (own c) (or_else (field_in own (supertypes_within w n c.interfaces))
        (field_in own (supertypes_within w n c.supers)))))
        ∙ ap (λ o. field_in own (known_as (supertypes_within w n) x o End)) e

  -- ---- names upwards

  module _ (y : List ℕ) where
    or-false : (b : Bool) → (b || false) ≡ b
    or-false true = refl
    or-false false = refl

    or-assoc : (a b c : Bool) → ((a || b) || c) ≡ (a || (b || c))
    or-assoc true b c = refl
    or-assoc false b c = refl

    pub stands-row : (n : ℕ) (x : List ℕ) (xs : List (List ℕ)) → stands y (supertypes_within w n (x ∷ xs))
        ≡ (stands y (supertypes_within w n (x ∷ [])) || stands y (supertypes_within w n xs))
    unfolding supertypes_within
    stands-row zero x xs = refl
    stands-row (suc n) x xs = by (class_named w x)
      where
        rest : Bool
        rest = stands y (in_a_row w (supertypes_within w n) xs)

        by : (o : Option Class)
            → stands y (known_as (supertypes_within w n) x o (in_a_row w (supertypes_within w n) xs))
            ≡ (stands y (known_as (supertypes_within w n) x o End) || rest)
        by None = ap (λ b. b || rest) (sym (or-false (bytes_eq x y)))
        by (Some c) = ap (λ b. b || rest) (sym (or-false (bytes_eq c.name y || stands y (supertypes_within w n c.supers)
            || stands y (supertypes_within w n c.interfaces))))

    pub stands-empty : (n : ℕ) → stands y (supertypes_within w n []) ≡ false
    unfolding supertypes_within
    stands-empty zero = refl
    stands-empty (suc n) = refl

    pub stands-zero : (n : ℕ) (x : List ℕ) → n ≡ 0 → false ≡ stands y (supertypes_within w n (x ∷ []))
    unfolding supertypes_within
    stands-zero n x e = ap (λ n. stands y (supertypes_within w n (x ∷ []))) (sym e)

    pub stands-unknown : (n : ℕ) (x : List ℕ) → 0 < n → None ≡ class_named w x
        → bytes_eq x y ≡ stands y (supertypes_within w n (x ∷ []))
    unfolding supertypes_within
    stands-unknown zero x l e = absurd (omega arith)
    stands-unknown (suc n) x l e = sym (or-false (bytes_eq x y))
        ∙ ap (λ o. stands y (known_as (supertypes_within w n) x o End)) e

    pub stands-known : (n : ℕ) (x : List ℕ) (c : Class) → 0 < n → Some c ≡ class_named w x
        → (bytes_eq c.name y || stands y (supertypes_within w (n - 1) c.supers)
        || stands y (supertypes_within w (n - 1) c.interfaces)) ≡ stands y (supertypes_within w n (x ∷ []))
    unfolding supertypes_within
    stands-known zero x c l e = absurd (omega arith)
    stands-known (suc n) x c l e =
        ap (λ k. bytes_eq c.name y || stands y (supertypes_within w k c.supers)
        || stands y (supertypes_within w k c.interfaces)) (less n)
        ∙ sym (or-false (bytes_eq c.name y || stands y (supertypes_within w n c.supers)
        || stands y (supertypes_within w n c.interfaces)))
        ∙ ap (λ o. stands y (known_as (supertypes_within w n) x o End)) e

    pub stands_of_both : (a b : List (List ℕ)) → stands y (supertypes w (a ++ b)) ≡ (stands y (supertypes w a)
        || stands y (supertypes w b))
    unfolding supertypes supertypes_within
    stands_of_both [] b = refl
    stands_of_both (x ∷ a) b =
        let n = suc (length w) in
        stands-row n x (a ++ b) ∙ ap (λ t. stands y (supertypes_within w n (x ∷ [])) || t) (stands_of_both a b)
        ∙ sym (or-assoc (stands y (supertypes_within w n (x ∷ []))) (stands y (supertypes w a))
        (stands y (supertypes w b)))
        ∙ ap (λ t. t || stands y (supertypes w b)) (sym (stands-row n x a))

  -- ---- names upwards by supers alone

  module _ (y : List ℕ) where
    pub below-row : (n : ℕ) (x : List ℕ) (xs : List (List ℕ)) → stands_by_supers y (supertypes_within w n (x ∷ xs))
        ≡ (stands_by_supers y (supertypes_within w n (x ∷ [])) || stands_by_supers y (supertypes_within w n xs))
    unfolding supertypes_within
    below-row zero x xs = refl
    below-row (suc n) x xs = by (class_named w x)
      where
        rest : Bool
        rest = stands_by_supers y (in_a_row w (supertypes_within w n) xs)

        by : (o : Option Class)
            → stands_by_supers y (known_as (supertypes_within w n) x o (in_a_row w (supertypes_within w n) xs))
            ≡ (stands_by_supers y (known_as (supertypes_within w n) x o End) || rest)
        by None = ap (λ b. b || rest) (sym (or-false y (bytes_eq x y)))
        by (Some c) =
            ap (λ b. b || rest) (sym (or-false y (bytes_eq c.name y
            || stands_by_supers y (supertypes_within w n c.supers))))

    pub below-empty : (n : ℕ) → stands_by_supers y (supertypes_within w n []) ≡ false
    unfolding supertypes_within
    below-empty zero = refl
    below-empty (suc n) = refl

    pub below-unknown : (n : ℕ) (x : List ℕ) → 0 < n → None ≡ class_named w x
        → bytes_eq x y ≡ stands_by_supers y (supertypes_within w n (x ∷ []))
    unfolding supertypes_within
    below-unknown zero x l e = absurd (omega arith)
    below-unknown (suc n) x l e = sym (or-false y (bytes_eq x y))
        ∙ ap (λ o. stands_by_supers y (known_as (supertypes_within w n) x o End)) e

    pub below-known : (n : ℕ) (x : List ℕ) (c : Class) → 0 < n → Some c ≡ class_named w x
        → (bytes_eq c.name y || stands_by_supers y (supertypes_within w (n - 1) c.supers))
        ≡ stands_by_supers y (supertypes_within w n (x ∷ []))
    unfolding supertypes_within
    below-known zero x c l e = absurd (omega arith)
    below-known (suc n) x c l e =
        ap (λ k. bytes_eq c.name y || stands_by_supers y (supertypes_within w k c.supers)) (less n)
        ∙ sym (or-false y (bytes_eq c.name y || stands_by_supers y (supertypes_within w n c.supers)))
        ∙ ap (λ o. stands_by_supers y (known_as (supertypes_within w n) x o End)) e
