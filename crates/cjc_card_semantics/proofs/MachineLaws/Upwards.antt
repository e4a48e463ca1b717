-- Going upwards from a class gives the classes that stand above it, and no other: its steps are enough.
use Rattle.std.proofs.Common.{◌≡◌, ℕ, zero, suc, ◌+◌, ◌≤◌, refl, sym, ap, subst, ◌∙◌, arith, Bool, true, false, List}
use Rattle.std.proofs.Common.{[], ◌∷◌, ◌++◌, length, map, inl, inr, ⊎_elim}
use Rattle.std.specs.Prelude.{Option, Some, None, if◌then◌else◌, ◌==◌, ◌||◌, ◌&&◌, ◌⊎◌, flat_map, option_and_then}
use Rattle.std.specs.Prelude.{option_map}
use Rattle.std.specs.Prelude.{option_to_list, slice_get}
use Rattle.std.proofs.lemmas.Bool.Decides.{nat_tests}
use Rattle.cjc_export.specs.declared.tree.ExportClass.{ExportClass}
use Rattle.cjc_export.specs.declared.tree.ExportTree.{ExportTree}
use Rattle.cjc_card_semantics.specs.Machine.Classes.{Class, Own, External, same_class, is_in, Info, IsInterface}
use Rattle.cjc_card_semantics.specs.Machine.Classes.{IsClass, infos, info_size, info_supers, all_supers, info_of}
use Rattle.cjc_card_semantics.specs.Machine.Classes.{info_at, number_from, with_token, external, external_named}
use Rattle.cjc_card_semantics.specs.Machine.Classes.{class_of, object_class, object_above, some_of, supers, closure}
use Rattle.cjc_card_semantics.specs.Machine.Classes.{info_steps, part_steps, class_steps, tree_steps, steps, is_kind_of}
use Rattle.cjc_card_semantics.specs.Machine.Loaded.{Part, Loaded}
use Rattle.cjc_export.proofs.BytesBools.{both_front, both_back}
use Rattle.cjc_export.proofs.BytesLists.{length_mapped}
use Rattle.cjc_export.proofs.BytesNumbers.{like_number, number_same}

-- ---- the same class

pub class_tells : (a b : Class) → same_class a b ≡ true → a ≡ b
class_tells (Own p a) (Own q b) e = ap (λ x. Own x a) (number_same p q (both_front (p == q) (a == b) e))
    ∙ ap (Own q) (number_same a b (both_back (p == q) (a == b) e))
class_tells (External p a) (External q b) e = ap (λ x. External x a) (number_same p q (both_front (p == q) (a == b) e))
    ∙ ap (External q) (number_same a b (both_back (p == q) (a == b) e))
class_tells (Own p a) (External q b) e = cc
class_tells (External p a) (Own q b) e = cc

pub class_same : (a : Class) → same_class a a ≡ true
class_same (Own p a) = ap (λ t. t && (a == a)) (like_number p) ∙ like_number a
class_same (External p a) = ap (λ t. t && (a == a)) (like_number p) ∙ like_number a

-- ---- membership

pub head_in : (c : Class) (cs : List Class) → is_in c (c ∷ cs) ≡ true
head_in c cs = ap (λ t. t || is_in c cs) (class_same c)

pub later_in : (c d : Class) (cs : List Class) → is_in c cs ≡ true → is_in c (d ∷ cs) ≡ true
later_in c d cs e = by (same_class c d)
  where
    by : (t : Bool) → (t || is_in c cs) ≡ true
    by true = refl
    by false = e

pub first_or_later : (c d : Class) (cs : List Class) → is_in c (d ∷ cs) ≡ true → (c ≡ d) ⊎ (is_in c cs ≡ true)
first_or_later c d cs e = by (same_class c d) refl e
  where
    by : (t : Bool) → same_class c d ≡ t → (t || is_in c cs) ≡ true → (c ≡ d) ⊎ (is_in c cs ≡ true)
    by true is h = inl (class_tells c d is)
    by false is h = inr h

pub front_in : (c : Class) (xs ys : List Class) → is_in c xs ≡ true → is_in c (xs ++ ys) ≡ true
front_in c [] ys e = cc
front_in c (x ∷ xs) ys e = ⊎_elim (λ is. subst (λ y. is_in c (y ∷ (xs ++ ys)) ≡ true) is (head_in c (xs ++ ys)))
    (λ h. later_in c x (xs ++ ys) (front_in c xs ys h)) (first_or_later c x xs e)

pub behind_in : (c : Class) (xs ys : List Class) → is_in c ys ≡ true → is_in c (xs ++ ys) ≡ true
behind_in c [] ys e = e
behind_in c (x ∷ xs) ys e = later_in c x (xs ++ ys) (behind_in c xs ys e)

pub either_in : (c : Class) (xs ys : List Class) → is_in c (xs ++ ys) ≡ true → (is_in c xs ≡ true) ⊎ (is_in c ys ≡ true)
either_in c [] ys e = inr e
either_in c (x ∷ xs) ys e = ⊎_elim
    (λ is. inl (subst (λ y. is_in c (y ∷ xs) ≡ true) is (head_in c xs)))
    (λ h. ⊎_elim (λ g. inl (later_in c x xs g)) inr (either_in c xs ys h))
    (first_or_later c x (xs ++ ys) e)

length_both : (xs ys : List Class) → length (xs ++ ys) ≡ length xs + length ys
length_both [] ys = omega arith
length_both (x ∷ xs) ys = let h = length_both xs ys in omega (arith, h)

-- ---- going upwards by any steps

module _ (next : Class → List Class) where
  pub data Over : Class → Class → Type 0 where
    here : {c : Class} → Over c c
    up : {c b d : Class} → is_in b (next c) ≡ true → Over b d → Over c d

  -- from one of some classes
  record FromOne (pending : List Class) (d : Class) : Type 0 where
    start : Class
    among : is_in start pending ≡ true
    over : Over start d

  -- what is found stands above
  found_above : (n : ℕ) (seen pending : List Class) (d : Class) → is_in d (closure next n seen pending) ≡ true
      → FromOne pending d
  found_above zero seen pending d e = cc
  found_above (suc n) seen [] d e = cc
  found_above (suc n) seen (c ∷ pending) d e = by (is_in c seen) e (found_above n seen pending d) (found_above n (c
      ∷ seen) (next c ++ pending) d)
    where
      later : FromOne pending d → FromOne (c ∷ pending) d
      later r = record { start = r.start; among = later_in r.start c pending r.among; over = r.over }

      by : (t : Bool) → is_in d (if t then closure next n seen pending else c ∷ closure next n (c ∷ seen) (next c
          ++ pending)) ≡ true → (is_in d (closure next n seen pending) ≡ true → FromOne pending d)
          → (is_in d (closure next n (c ∷ seen) (next c ++ pending)) ≡ true → FromOne (next c ++ pending) d)
          → FromOne (c ∷ pending) d
      by true h skip go = later (skip h)
      by false h skip go = ⊎_elim
          (λ is. record { start = c; among = head_in c pending; over = subst (Over c) (sym is) here })
          (λ more. let r = go more in ⊎_elim
          (λ direct. record { start = c; among = head_in c pending; over = up direct r.over })
          (λ waits. later (record { start = r.start; among = waits; over = r.over }))
          (either_in r.start (next c) pending r.among))
          (first_or_later d c (closure next n (c ∷ seen) (next c ++ pending)) h)

  module _ (cost : List Class → ℕ) (less : (c : Class) (seen : List Class) → is_in c seen ≡ false
      → cost (c ∷ seen) + length (next c) ≤ cost seen) where
    -- what waits is found, and what stands above what is found
    record AreFound (seen pending out : List Class) : Type 0 where
      waiting : (p : Class) → is_in p pending ≡ true → (is_in p seen ≡ true) ⊎ (is_in p out ≡ true)
      closed : (u v : Class) → is_in u out ≡ true → is_in v (next u) ≡ true → (is_in v seen ≡ true)
          ⊎ (is_in v out ≡ true)

    all_found : (n : ℕ) (seen pending : List Class) → length pending + cost seen ≤ n
        → AreFound seen pending (closure next n seen pending)
    all_found zero seen [] le = record { waiting = λ p e. cc; closed = λ u v e f. cc }
    all_found zero seen (c ∷ pending) le = absurd (omega arith)
    all_found (suc n) seen [] le = record { waiting = λ p e. cc; closed = λ u v e f. cc }
    all_found (suc n) seen (c ∷ pending) le = by (is_in c seen) refl (λ h. all_found n seen pending h)
        (λ h. all_found n (c ∷ seen) (next c ++ pending) h)
      where
        both : (v : Class) (out : List Class) → (is_in v (c ∷ seen) ≡ true) ⊎ (is_in v out ≡ true)
            → (is_in v seen ≡ true) ⊎ (is_in v (c ∷ out) ≡ true)
        both v out h = ⊎_elim
            (λ s. ⊎_elim (λ is. inr (subst (λ x. is_in v (x ∷ out) ≡ true) is (head_in v out))) inl
            (first_or_later v c seen s))
            (λ o. inr (later_in v c out o)) h

        by : (t : Bool) → is_in c seen ≡ t → (length pending + cost seen ≤ n
            → AreFound seen pending (closure next n seen pending))
            → (length (next c ++ pending) + cost (c ∷ seen) ≤ n
            → AreFound (c ∷ seen) (next c ++ pending) (closure next n (c ∷ seen) (next c ++ pending)))
            → AreFound seen (c ∷ pending) (if t then closure next n seen pending
            else c ∷ closure next n (c ∷ seen) (next c ++ pending))
        by true is skip go =
            let r = skip (omega arith) in
            record {
              waiting = λ p e. ⊎_elim (λ same. inl (subst (λ x. is_in x seen ≡ true) (sym same) is)) (r.waiting p)
                  (first_or_later p c pending e);
              closed = r.closed;
            }
        by false is skip go =
            let l = less c seen is in
            let len = length_both (next c) pending in
            let r = go (omega (arith, l, len)) in
            let out = closure next n (c ∷ seen) (next c ++ pending) in
            record {
              waiting = λ p e. ⊎_elim
                  (λ same. inr (subst (λ x. is_in x (c ∷ out) ≡ true) (sym same) (head_in c out)))
                  (λ h. both p out (r.waiting p (behind_in p (next c) pending h)))
                  (first_or_later p c pending e);
              closed = λ u v e f. ⊎_elim
                  (λ same. both v out (r.waiting v (front_in v (next c) pending (subst (λ x. is_in v (next x) ≡ true)
                  same f))))
                  (λ h. both v out (r.closed u v h f))
                  (first_or_later u c out e);
            }

    reached : (n : ℕ) (c d : Class) → 1 + cost [] ≤ n → Over c d → is_in d (closure next n [] (c ∷ [])) ≡ true
    reached n c d le over = go c d (start c (closure next n [] (c ∷ [])) (r.waiting c (head_in c []))) over
      where
        r : AreFound [] (c ∷ []) (closure next n [] (c ∷ []))
        r = all_found n [] (c ∷ []) le

        start : (p : Class) (out : List Class) → (is_in p [] ≡ true) ⊎ (is_in p out ≡ true) → is_in p out ≡ true
        start p out (inl e) = cc
        start p out (inr e) = e

        go : (a d : Class) → is_in a (closure next n [] (c ∷ [])) ≡ true → Over a d
            → is_in d (closure next n [] (c ∷ [])) ≡ true
        go a _ e here = e
        go a _ e (up {b = b} {d = d} direct more) =
            go b d (start b (closure next n [] (c ∷ [])) (r.closed a b e direct)) more

-- ---- the steps of a card

some_few : {A : Type 0} (os : List (Option A)) → length (some_of os) ≤ length os
some_few [] = omega arith
some_few (None ∷ os) = let h = some_few os in omega (arith, h)
some_few (Some x ∷ os) = let h = some_few os in omega (arith, h)

-- the info at an offset, where the first stands at this one
abbrev at_offset : (at : ℕ) → List Info → (offset : ℕ) → Option Info
at_offset at [] offset = None
at_offset at (i ∷ is) offset = if at == offset then Some i else at_offset (at + info_size i) is offset

by_number : (at : ℕ) (is : List Info) (offset : ℕ) → option_and_then (slice_get is) (number_from at is offset)
    ≡ at_offset at is offset
by_number at [] offset = refl
by_number at (i ∷ is) offset = by (at == offset) (by_number (at + info_size i) is offset)
  where
    pushed : (o : Option ℕ) → option_and_then (slice_get (i ∷ is)) (option_map suc o) ≡ option_and_then (slice_get is) o
    pushed None = refl
    pushed (Some k) = refl

    by : (t : Bool) → option_and_then (slice_get is) (number_from (at + info_size i) is offset)
        ≡ at_offset (at + info_size i) is offset
        → option_and_then (slice_get (i ∷ is)) (if t then Some 0
        else option_map suc (number_from (at + info_size i) is offset)) ≡ (if t then Some i
        else at_offset (at + info_size i) is offset)
    by true rest = refl
    by false rest = pushed (number_from (at + info_size i) is offset) ∙ rest

-- what a class that is not seen costs
abbrev unseen : Bool → ℕ → ℕ
unseen true n = 0
unseen false n = n

fewer : (t u : Bool) (n : ℕ) → unseen (t || u) n ≤ unseen u n
fewer true true n = omega arith
fewer true false n = omega arith
fewer false true n = omega arith
fewer false false n = omega arith

abbrev cost_infos : (part at : ℕ) → List Info → (seen : List Class) → ℕ
cost_infos p at [] seen = 0
cost_infos p at (i ∷ is) seen = unseen (is_in (Own p at) seen) (1 + length (info_supers i)) + cost_infos p
    (at + info_size i) is seen

abbrev cost_parts : (part : ℕ) → List Part → (seen : List Class) → ℕ
cost_parts p [] seen = 0
cost_parts p (part ∷ parts) seen = cost_infos p 2 (infos part) seen + cost_parts (p + 1) parts seen

abbrev cost_classes : (tree : ℕ) → List ExportClass → (seen : List Class) → ℕ
cost_classes t [] seen = 0
cost_classes t (c ∷ cs) seen = unseen (is_in (External t c.token) seen) (length c.supers + length c.interfaces) +
    cost_classes t cs seen

abbrev cost_trees : (tree : ℕ) → List ExportTree → (seen : List Class) → ℕ
cost_trees t [] seen = 0
cost_trees t (tree ∷ trees) seen = cost_classes t tree.classes seen + cost_trees (t + 1) trees seen

abbrev cost_of : Loaded → (seen : List Class) → ℕ
cost_of l seen = cost_parts 0 l.parts seen + cost_trees 0 l.trees seen

-- ---- what is seen costs nothing more

infos_fall : (p at : ℕ) (is : List Info) (x : Class) (seen : List Class) → cost_infos p at is (x ∷ seen) ≤ cost_infos p
    at is seen
infos_fall p at [] x seen = omega arith
infos_fall p at (i ∷ is) x seen =
    let a = fewer (same_class (Own p at) x) (is_in (Own p at) seen) (1 + length (info_supers i)) in
    let b = infos_fall p (at + info_size i) is x seen in
    omega (arith, a, b)

parts_fall : (p : ℕ) (parts : List Part) (x : Class) (seen : List Class) → cost_parts p parts (x ∷ seen) ≤ cost_parts p
    parts seen
parts_fall p [] x seen = omega arith
parts_fall p (part ∷ parts) x seen = let a = infos_fall p 2 (infos part) x seen in let b =
    parts_fall (p + 1) parts x seen in omega (arith, a, b)

classes_fall : (t : ℕ) (cs : List ExportClass) (x : Class) (seen : List Class)
    → cost_classes t cs (x ∷ seen) ≤ cost_classes t cs seen
classes_fall t [] x seen = omega arith
classes_fall t (c ∷ cs) x seen =
    let a = fewer (same_class (External t c.token) x) (is_in (External t c.token) seen) (length c.supers + length
    c.interfaces) in
    let b = classes_fall t cs x seen in
    omega (arith, a, b)

trees_fall : (t : ℕ) (trees : List ExportTree) (x : Class) (seen : List Class)
    → cost_trees t trees (x ∷ seen) ≤ cost_trees t trees seen
trees_fall t [] x seen = omega arith
trees_fall t (tree ∷ trees) x seen = let a = classes_fall t tree.classes x seen in let b =
    trees_fall (t + 1) trees x seen in omega (arith, a, b)

-- ---- a class that is seen now

cost_here : (u : Bool) (n : ℕ) → u ≡ false → unseen u n ≡ n
cost_here u n e = ap (λ t. unseen t n) e

cost_gone : (c : Class) (seen : List Class) (n : ℕ) → unseen (is_in c (c ∷ seen)) n ≡ 0
cost_gone c seen n = ap (λ t. unseen t n) (head_in c seen)

infos_less : (p at : ℕ) (is : List Info) (offset : ℕ) (i : Info) (seen : List Class) → at_offset at is offset ≡ Some i
    → is_in (Own p offset) seen ≡ false
    → cost_infos p at is (Own p offset ∷ seen) + (1 + length (info_supers i)) ≤ cost_infos p at is seen
infos_less p at [] offset i seen e new = cc
infos_less p at (j ∷ is) offset i seen e new = by (at == offset) refl e (infos_less p (at + info_size j) is offset i
    seen)
  where
    by : (t : Bool) → (at == offset) ≡ t → (if t then Some j else at_offset (at + info_size j) is offset) ≡ Some i
        → (at_offset (at + info_size j) is offset ≡ Some i → is_in (Own p offset) seen ≡ false
        → cost_infos p (at + info_size j) is (Own p offset ∷ seen) + (1 + length (info_supers i)) ≤ cost_infos p
        (at + info_size j) is seen)
        → cost_infos p at (j ∷ is) (Own p offset ∷ seen) + (1 + length (info_supers i)) ≤ cost_infos p at (j ∷ is) seen
    by true is_here h rest =
        let same : at ≡ offset = grind (arith, nat_tests) in
        let info : length (info_supers j) ≡ length (info_supers i) = cc in
        let gone = ap (λ o. unseen (is_in (Own p o) (Own p offset ∷ seen)) (1 + length (info_supers j))) same
        ∙ cost_gone (Own p offset) seen (1 + length (info_supers j)) in
        let held = cost_here (is_in (Own p at) seen) (1 + length (info_supers j)) (ap (λ o. is_in (Own p o) seen) same
        ∙ new) in
        let fall = infos_fall p (at + info_size j) is (Own p offset) seen in
        omega (arith, gone, held, fall, info)
    by false off h rest =
        let a = fewer (same_class (Own p at) (Own p offset)) (is_in (Own p at) seen) (1 + length (info_supers j)) in
        let b = rest h new in
        omega (arith, a, b)

parts_less : (p : ℕ) (parts : List Part) (k : ℕ) (part : Part) (q offset : ℕ) (i : Info) (seen : List Class) → q ≡ p + k
    → slice_get parts k ≡ Some part → at_offset 2 (infos part) offset ≡ Some i → is_in (Own q offset) seen ≡ false
    → cost_parts p parts (Own q offset ∷ seen) + (1 + length (info_supers i)) ≤ cost_parts p parts seen
parts_less p [] k part q offset i seen at e there new = cc
parts_less p (x ∷ parts) zero part q offset i seen at e there new =
    let same : x ≡ part = cc in
    let here : p ≡ q = omega arith in
    let a = infos_less q 2 (infos x) offset i seen (ap (λ y. at_offset 2 (infos y) offset) same ∙ there) new in
    let a' = subst (λ r. cost_infos r 2 (infos x) (Own q offset ∷ seen) + (1 + length (info_supers i)) ≤ cost_infos r 2
    (infos x) seen) (sym here) a in
    let b = parts_fall (p + 1) parts (Own q offset) seen in
    omega (arith, a', b)
parts_less p (x ∷ parts) (suc k) part q offset i seen at e there new =
    let a = infos_fall p 2 (infos x) (Own q offset) seen in
    let b = parts_less (p + 1) parts k part q offset i seen (omega arith) e there new in
    omega (arith, a, b)

classes_less : (t : ℕ) (cs : List ExportClass) (token : ℕ) (c : ExportClass) (seen : List Class)
    → with_token cs token ≡ Some c → is_in (External t token) seen ≡ false
    → cost_classes t cs (External t token ∷ seen) + (length c.supers + length c.interfaces) ≤ cost_classes t cs seen
classes_less t [] token c seen e new = cc
classes_less t (d ∷ cs) token c seen e new = by (d.token == token) refl e (classes_less t cs token c seen)
  where
    by : (u : Bool) → (d.token == token) ≡ u → (if u then Some d else with_token cs token) ≡ Some c
        → (with_token cs token ≡ Some c → is_in (External t token) seen ≡ false
        → cost_classes t cs (External t token ∷ seen) + (length c.supers + length c.interfaces) ≤ cost_classes t cs
        seen)
        → cost_classes t (d ∷ cs) (External t token ∷ seen) + (length c.supers + length c.interfaces) ≤ cost_classes t
        (d ∷ cs) seen
    by true is_here h rest =
        let same : d.token ≡ token = grind (arith, nat_tests) in
        let class : d ≡ c = cc in
        let size = ap (λ (x : ExportClass). length x.supers + length x.interfaces) class in
        let gone = ap (λ o. unseen (is_in (External t o) (External t token ∷ seen)) (length d.supers + length
        d.interfaces)) same ∙ cost_gone (External t token) seen (length d.supers + length d.interfaces) in
        let held = cost_here (is_in (External t d.token) seen) (length d.supers + length d.interfaces)
        (ap (λ o. is_in (External t o) seen) same ∙ new) in
        let fall = classes_fall t cs (External t token) seen in
        omega (arith, gone, held, fall, size)
    by false off h rest =
        let a = fewer (same_class (External t d.token) (External t token)) (is_in (External t d.token) seen)
        (length d.supers + length d.interfaces) in
        let b = rest h new in
        omega (arith, a, b)

trees_less : (t : ℕ) (trees : List ExportTree) (k : ℕ) (tree : ExportTree) (q token : ℕ) (c : ExportClass)
    (seen : List Class) → q ≡ t + k → slice_get trees k ≡ Some tree → with_token tree.classes token ≡ Some c
    → is_in (External q token) seen ≡ false
    → cost_trees t trees (External q token ∷ seen) + (length c.supers + length c.interfaces) ≤ cost_trees t trees seen
trees_less t [] k tree q token c seen at e there new = cc
trees_less t (x ∷ trees) zero tree q token c seen at e there new =
    let same : x ≡ tree = cc in
    let here : t ≡ q = omega arith in
    let a = classes_less q x.classes token c seen (ap (λ (y : ExportTree). with_token y.classes token) same ∙ there) new
    in
    let a' = subst (λ r. cost_classes r x.classes (External q token ∷ seen) + (length c.supers + length c.interfaces) ≤
    cost_classes r x.classes seen) (sym here) a in
    let b = trees_fall (t + 1) trees (External q token) seen in
    omega (arith, a', b)
trees_less t (x ∷ trees) (suc k) tree q token c seen at e there new =
    let a = classes_fall t x.classes (External q token) seen in
    let b = trees_less (t + 1) trees k tree q token c seen (omega arith) e there new in
    omega (arith, a, b)

-- ---- what stands directly above

module _ (l : Loaded) where
  object_few : (i : Info) → length (object_above l (Some i)) ≤ 1
  object_few (IsClass c) = omega arith
  object_few (IsInterface i) = by (object_class l)
    where
      by : (o : Option Class) → length (option_to_list o) ≤ 1
      by None = omega arith
      by (Some c) = omega arith

  own_supers : (q offset : ℕ) (i : Info) → info_of l q offset ≡ Some i → length (supers l (Own q offset)) ≤ 1 + length
      (info_supers i)
  own_supers q offset i e =
      let is = ap (λ o. length (some_of (map (class_of l q) (all_supers o)) ++ object_above l o)) e in
      let both = length_both (some_of (map (class_of l q) (info_supers i))) (object_above l (Some i)) in
      let few = some_few (map (class_of l q) (info_supers i)) in
      let len = length_mapped (class_of l q) (info_supers i) in
      let one = object_few i in
      omega (arith, is, both, few, len, one)

  listed_length : (x y : List (List ℕ)) → length (x ++ y) ≡ length x + length y
  listed_length [] y = omega arith
  listed_length (a ∷ x) y = let h = listed_length x y in omega (arith, h)

  nothing_behind : (cs : List Class) → length (cs ++ []) ≡ length cs
  nothing_behind [] = refl
  nothing_behind (c ∷ cs) = ap suc (nothing_behind cs)

  external_supers : (t token : ℕ) (c : ExportClass) → external l t token ≡ Some c
      → length (supers l (External t token)) ≤ length c.supers + length c.interfaces
  external_supers t token c e =
      let is = ap (λ o. length (flat_map (λ (c : ExportClass). some_of (map (external_named l) (c.supers
      ++ c.interfaces))) (option_to_list o))) e in
      let none = nothing_behind (some_of (map (external_named l) (c.supers ++ c.interfaces))) in
      let few = some_few (map (external_named l) (c.supers ++ c.interfaces)) in
      let len = length_mapped (external_named l) (c.supers ++ c.interfaces) in
      let both = listed_length c.supers c.interfaces in
      omega (arith, is, none, few, len, both)

  less_seen : (c : Class) (seen : List Class) → is_in c seen ≡ false → cost_of l (c ∷ seen) + length (supers l c) ≤
      cost_of l seen
  less_seen (Own q offset) seen new = by (slice_get l.parts q) refl
    where
      falls : cost_trees 0 l.trees (Own q offset ∷ seen) ≤ cost_trees 0 l.trees seen
      falls = trees_fall 0 l.trees (Own q offset) seen

      nowhere : info_of l q offset ≡ None → cost_of l (Own q offset ∷ seen) + length (supers l (Own q offset)) ≤ cost_of
          l seen
      nowhere e =
          let is = ap (λ o. length (some_of (map (class_of l q) (all_supers o)) ++ object_above l o)) e in
          let a = parts_fall 0 l.parts (Own q offset) seen in
          let b = falls in
          omega (arith, is, a, b)

      by : (o : Option Part) → slice_get l.parts q ≡ o
          → cost_of l (Own q offset ∷ seen) + length (supers l (Own q offset)) ≤ cost_of l seen
      by None e = nowhere (ap (option_and_then (λ part. info_at part offset)) e)
      by (Some part) e = split (at_offset 2 (infos part) offset) refl
        where
          there : info_of l q offset ≡ at_offset 2 (infos part) offset
          there = ap (option_and_then (λ part. info_at part offset)) e ∙ by_number 2 (infos part) offset

          split : (o : Option Info) → at_offset 2 (infos part) offset ≡ o
              → cost_of l (Own q offset ∷ seen) + length (supers l (Own q offset)) ≤ cost_of l seen
          split None h = nowhere (there ∙ h)
          split (Some i) h =
              let a = own_supers q offset i (there ∙ h) in
              let b = parts_less 0 l.parts q part q offset i seen (omega arith) e h new in
              let c = falls in
              omega (arith, a, b, c)
  less_seen (External t token) seen new = by (external l t token) refl (slice_get l.trees t) refl
    where
      falls : cost_parts 0 l.parts (External t token ∷ seen) ≤ cost_parts 0 l.parts seen
      falls = parts_fall 0 l.parts (External t token) seen

      by : (o : Option ExportClass) → external l t token ≡ o → (u : Option ExportTree) → slice_get l.trees t ≡ u
          → cost_of l (External t token ∷ seen) + length (supers l (External t token)) ≤ cost_of l seen
      by None e u h =
          let is = ap (λ o. length (flat_map (λ (c : ExportClass). some_of (map (external_named l) (c.supers
          ++ c.interfaces))) (option_to_list o))) e in
          let a = trees_fall 0 l.trees (External t token) seen in
          let b = falls in
          omega (arith, is, a, b)
      by (Some c) e None h = let clash : None ≡ Some c = sym (ap (option_and_then (λ t. with_token t.classes token)) h)
          ∙ e in cc
      by (Some c) e (Some tree) h =
          let a = external_supers t token c e in
          let b = trees_less 0 l.trees t tree t token c seen (omega arith) h
          (sym (ap (option_and_then (λ t. with_token t.classes token)) h) ∙ e) new in
          let d = falls in
          omega (arith, a, b, d)

-- ---- the steps are enough

infos_cost : (p at : ℕ) (is : List Info) → cost_infos p at is [] ≤ info_steps is
infos_cost p at [] = omega arith
infos_cost p at (i ∷ is) = let a = infos_cost p (at + info_size i) is in omega (arith, a)

parts_cost : (p : ℕ) (parts : List Part) → cost_parts p parts [] ≤ part_steps parts
parts_cost p [] = omega arith
parts_cost p (part ∷ parts) = let a = infos_cost p 2 (infos part) in let b = parts_cost (p + 1) parts
    in omega (arith, a, b)

classes_cost : (t : ℕ) (cs : List ExportClass) → cost_classes t cs [] ≤ class_steps cs
classes_cost t [] = omega arith
classes_cost t (c ∷ cs) = let a = classes_cost t cs in omega (arith, a)

trees_cost : (t : ℕ) (trees : List ExportTree) → cost_trees t trees [] ≤ tree_steps trees
trees_cost t [] = omega arith
trees_cost t (tree ∷ trees) = let a = classes_cost t tree.classes in let b = trees_cost (t + 1) trees
    in omega (arith, a, b)

-- ---- what stands above what stands above

over_over : (next : Class → List Class) {c b d : Class} → Over next c b → Over next b d → Over next c d
over_over next here more = more
over_over next (up direct over) more = up direct (over_over next over more)

pub told_over : (l : Loaded) (c d : Class) → is_kind_of l c d ≡ true → Over (supers l) c d
told_over l c d e = by (found_above (supers l) (steps l) [] (c ∷ []) d e)
  where
    by : FromOne (supers l) (c ∷ []) d → Over (supers l) c d
    by r = ⊎_elim (λ is. subst (λ x. Over (supers l) x d) is r.over) (λ no. cc) (first_or_later r.start c [] r.among)

pub over_told : (l : Loaded) (c d : Class) → Over (supers l) c d → is_kind_of l c d ≡ true
over_told l c d over =
    let a = parts_cost 0 l.parts in
    let b = trees_cost 0 l.trees in
    reached (supers l) (cost_of l) (less_seen l) (steps l) c d (omega (arith, a, b)) over

-- a class is of itself
pub kind_itself : (l : Loaded) (c : Class) → is_kind_of l c c ≡ true
kind_itself l c = over_told l c c here

-- what is of a class is of each class of which that is
pub kind_through : (l : Loaded) (c b d : Class) → is_kind_of l c b ≡ true → is_kind_of l b d ≡ true
    → is_kind_of l c d ≡ true
kind_through l c b d e f = over_told l c d (over_over (supers l) (told_over l c b e) (told_over l b d f))
