-- Each descriptor of a package has a type descriptor, whose offset is a start.
use Rattle.std.proofs.Common.{◌≡◌, ℕ, suc, ◌+◌, ◌*◌, ◌≤◌, Bool, true, false, List, [], ◌∷◌, ◌++◌, length, refl, sym, ap}
use Rattle.std.proofs.Common.{subst, ◌∙◌, arith, inl, inr, ⊎_elim}
use Rattle.std.specs.Prelude.{◌||◌, ◌⊎◌, Some, map, flat_map, slice_get, sum_by, position, option_map, option_and_then}
use Rattle.std.specs.Prelude.{unwrap_or, if◌then◌else◌}
use Rattle.std.specs.Str.{bytes_eq}
use Rattle.std.proofs.lemmas.List.{length-map}
use Rattle.std.proofs.lemmas.List.Quantifiers.{position-Some}
use Rattle.cjc_world.specs.ExportFile.Supers.{is_one_of}
use Rattle.cjc_pool.specs.ClassOrder.Supers.Supers.{each_once}
use Rattle.cjc_check_rules.specs.Spots.{placed, begins}
use Rattle.cjc_check_rules.specs.Complete.{type_size}
use Rattle.cjc_check_rules.specs.Described.{is_type}
use Rattle.cjc_components.specs.Package.{Package, pool}
use Rattle.cjc_components.specs.Types.{nibbles_of, all_descs, types_of, type_descriptor, type_starts, type_offset}
use Rattle.cjc_components.specs.Descriptor.{descriptor, pool_type}
use Rattle.cjc_vtable.proofs.Filed.{Has, at_front, behind}
use Rattle.cjc_pool.specs.CapWrite.Descriptor.{type_bytes, types_bytes}
use Rattle.cjc_components.proofs.CapWriteLengths.{types_length}
use Rattle.cjc_token_proof.proofs.ComponentsLaws.Sizes.{type_is}
use Rattle.cjc_tokens.proofs.Facts.{position-cons}
use Rattle.cjc_check_proof.proofs.ClassesLaws.Lists.{has-map, has-mapped, has-other, begins_where}
use Rattle.cjc_bytes.proofs.Lists.{name_is, bytes_sym, each_size}

-- ---- what is kept once is there

one_more : (seen : List (List ℕ)) (y x : List ℕ) → is_one_of (seen ++ y ∷ []) x ≡ true → (is_one_of seen x ≡ true)
    ⊎ (bytes_eq y x ≡ true)
one_more [] y x e = by (bytes_eq y x) e
  where
    by : (b : Bool) → (b || false) ≡ true → (false ≡ true) ⊎ (b ≡ true)
    by true e = inr refl
    by false e = absurd (cc)
one_more (z ∷ seen) y x e = by (bytes_eq z x) e (one_more seen y x)
  where
    by : (b : Bool) → (b || is_one_of (seen ++ y ∷ []) x) ≡ true → (is_one_of (seen ++ y ∷ []) x ≡ true
        → (is_one_of seen x ≡ true) ⊎ (bytes_eq y x ≡ true)) → ((b || is_one_of seen x) ≡ true) ⊎ (bytes_eq y x ≡ true)
    by true e rest = inl refl
    by false e rest = rest e

-- its place, in front of others or behind one
placed_at : (x y : List ℕ) (xs : List (List ℕ)) → bytes_eq x y ≡ true → (k : ℕ)
    × (position (bytes_eq x) (y ∷ xs) ≡ Some k)
placed_at x y xs e = (
  0,
  position-cons (bytes_eq x) y xs ∙ ap (λ b. if b then Some 0
      else option_map suc (position (bytes_eq x) xs)) e,
)

placed_behind : (x y : List ℕ) (xs : List (List ℕ)) (k : ℕ) → position (bytes_eq x) xs ≡ Some k → (j : ℕ)
    × (position (bytes_eq x) (y ∷ xs) ≡ Some j)
placed_behind x y xs k e = by (bytes_eq x y) refl
  where
    by : (b : Bool) → bytes_eq x y ≡ b → (j : ℕ) × (position (bytes_eq x) (y ∷ xs) ≡ Some j)
    by true f = placed_at x y xs f
    by false f = (
      suc k,
      position-cons (bytes_eq x) y xs ∙ ap (λ b. if b then Some 0
          else option_map suc (position (bytes_eq x) xs)) f ∙ ap (option_map suc) e,
    )

kept : (x : List ℕ) (seen xs : List (List ℕ)) → Has x xs → (is_one_of seen x ≡ true)
    ⊎ ((k : ℕ) × (position (bytes_eq x) (each_once seen xs) ≡ Some k))
kept x seen [] h = elim h [ ]
kept x seen (y ∷ xs) at_front = by (is_one_of seen x) refl
  where
    by : (b : Bool) → is_one_of seen x ≡ b → (is_one_of seen x ≡ true)
        ⊎ ((k : ℕ) × (position (bytes_eq x) (if b then each_once seen xs else x ∷ each_once (seen ++ x ∷ []) xs)
        ≡ Some k))
    by true e = inl e
    by false e = inr (placed_at x x (each_once (seen ++ x ∷ []) xs) (name_is x))
kept x seen (y ∷ xs) (behind h) = by (is_one_of seen y) (kept x seen xs h) (kept x (seen ++ y ∷ []) xs h)
  where
    by : (b : Bool) → (is_one_of seen x ≡ true) ⊎ ((k : ℕ) × (position (bytes_eq x) (each_once seen xs) ≡ Some k))
        → (is_one_of (seen ++ y ∷ []) x ≡ true) ⊎ ((k : ℕ) × (position (bytes_eq x) (each_once (seen ++ y ∷ []) xs)
        ≡ Some k))
        → (is_one_of seen x ≡ true)
        ⊎ ((k : ℕ) × (position (bytes_eq x) (if b then each_once seen xs else y ∷ each_once (seen ++ y ∷ []) xs)
        ≡ Some k))
    by true r s = r
    by false r s = ⊎_elim
        (λ e. ⊎_elim (λ f. inl f) (λ f. inr (placed_at x y (each_once (seen ++ y ∷ []) xs) (bytes_sym y x f)))
        (one_more seen y x e))
        (λ k. inr (placed_behind x y (each_once (seen ++ y ∷ []) xs) k.0 k.1))
        s

-- ---- offsets

module _ (p : Package) (desc : List ℕ) (there : Has desc (all_descs p)) where
  place : (k : ℕ) × (position (bytes_eq (nibbles_of p desc)) (types_of p) ≡ Some k)
  place = ⊎_elim (λ e. absurd (cc)) (λ k. k) (kept (nibbles_of p desc) [] (map (nibbles_of p) (all_descs p))
      (has-map (nibbles_of p) desc (all_descs p) there))

  pub type_begins : (is_type (descriptor p) (type_offset p desc) ≡ true)
      × (type_offset p desc ≤ 2 + 2 * length (pool p) + sum_by type_size (map type_descriptor (types_of p)))
  type_begins =
      let k = place in
      let types = map type_descriptor (types_of p) in
      let within = position-Some (bytes_eq (nibbles_of p desc)) (types_of p) k.0 [] k.1 in
      let long = length-map (types_of p) type_descriptor in
      let first = within.0 in
      let r = begins_where type_size (2 + 2 * length (pool p)) types k.0 (omega (arith, first, long)) in
      let is : type_offset p desc ≡ r.0 = ap (λ o. unwrap_or (option_and_then (slice_get (type_starts p)) o) 0) k.1
      ∙ ap (λ o. unwrap_or o 0) r.1 in
      let pools : 2 + 2 * length (map (pool_type p) (pool p)) ≡ 2 + 2 * length (pool p) =
      ap (λ n. 2 + 2 * n) (length-map (pool p) (pool_type p)) in
      let le = r.3 in (
        ap (λ n. begins (placed type_size n types) (type_offset p desc)) pools
            ∙ ap (λ n. begins (placed type_size (2 + 2 * length (pool p)) types) n) is
            ∙ r.2,
        subst (λ (n : ℕ). n ≤ 2 + 2 * length (pool p) + sum_by type_size types) (sym is) le,
      )

-- their bytes, the offsets of pool entries counted
pub types_long : (p : Package) → length (types_bytes (descriptor p)) ≡ 2 + 2 * length (pool p) + sum_by type_size
    (map type_descriptor (types_of p))
types_long p =
    let d = descriptor p in
    let types = map type_descriptor (types_of p) in
    let l : length (types_bytes d) ≡ 2 + 2 * length d.pool_types + length (flat_map type_bytes types) = types_length d
    in
    let n = length-map (pool p) (pool_type p) in
    let t : length (flat_map type_bytes types) ≡ sum_by type_size types = each_size type_bytes type_size type_is types
    in
    omega (arith, l, n, t)

-- ---- each is what some descriptor says

once_has : (x : List ℕ) (seen xs : List (List ℕ)) → Has x (each_once seen xs) → Has x xs
once_has x seen [] h = elim h [ ]
once_has x seen (y ∷ xs) h = by (is_one_of seen y) h (once_has x seen xs) (once_has x (seen ++ y ∷ []) xs)
  where
    by : (b : Bool) → Has x (if b then each_once seen xs else y ∷ each_once (seen ++ y ∷ []) xs)
        → (Has x (each_once seen xs) → Has x xs) → (Has x (each_once (seen ++ y ∷ []) xs) → Has x xs) → Has x (y ∷ xs)
    by true g r s = behind (r g)
    by false g r s = has-other x y (each_once (seen ++ y ∷ []) xs) xs s g

pub type_said : (p : Package) (nibbles : List ℕ) → Has nibbles (types_of p) → (desc : List ℕ) × Has desc (all_descs p)
    × (nibbles_of p desc ≡ nibbles)
type_said p nibbles h = has-mapped (nibbles_of p) nibbles (all_descs p)
    (once_has nibbles [] (map (nibbles_of p) (all_descs p)) h)
