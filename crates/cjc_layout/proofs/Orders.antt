-- Handlers in the order of the table.
use Rattle.std.proofs.Common.{◌≡◌, ℕ, zero, suc, ◌+◌, ◌≤◌, refl, sym, ap, ◌∙◌, ⊎_elim, arith, Bool, true, false}
use Rattle.std.proofs.Common.{List, [], ◌∷◌, length, map, drop}
use Rattle.std.specs.Prelude.{Some, nat_le, nat_lt, if◌then◌else◌, filter, insert, slice_index, slice_get}
use Rattle.std.proofs.lemmas.Bool.{cases_lt}
use Rattle.std.proofs.lemmas.Bool.Decides.{nat_tests}
use Rattle.cjc_ncode.specs.declared.narrow.NInsn.{NInsn}
use Rattle.cjc_ncode.specs.declared.narrow.NCatch.{NCatch}
use Rattle.cjc_layout.specs.Handlers.{has_range, inserted, by_target, table_order, handler_of, handlers_of, Lies}
use Rattle.cjc_layout.specs.Handlers.{AllLie}
use Rattle.cjc_layout.specs.Layouts.{HasPlaces}
use Rattle.cjc_layout.specs.Working.{place_for, offset_at}
use Rattle.cjc_ncode.proofs.BytesGets.{drop_at}

pub insert_place : (c : NCatch) (ds : List NCatch) → insert ds (place_for c.target ds) c ≡ inserted c ds
insert_place c [] = refl
insert_place c (d ∷ ds) = by (nat_le c.target d.target) (insert_place c ds)
  where
    by : (t : Bool) → insert ds (place_for c.target ds) c ≡ inserted c ds → insert (d ∷ ds) (if t then 0
        else suc (place_for c.target ds)) c ≡ (if t then c ∷ d ∷ ds else d ∷ inserted c ds)
    by true rest = refl
    by false rest = ap (λ es. d ∷ es) rest

pub place_inside : (target : ℕ) (ds : List NCatch) → place_for target ds ≤ length ds
place_inside target [] = omega arith
place_inside target (d ∷ ds) = by (nat_le target d.target) (place_inside target ds)
  where
    by : (t : Bool) → place_for target ds ≤ length ds → (if t then 0 else suc (place_for target ds)) ≤ suc (length ds)
    by true rest = omega arith
    by false rest = omega arith

-- ---- offsets

lie_inserted : (count : ℕ) (c : NCatch) (ds : List NCatch) → Lies count c → AllLie count ds
    → AllLie count (inserted c ds)
lie_inserted count c [] l ls = (l, tt)
lie_inserted count c (d ∷ ds) l ls = by (nat_le c.target d.target) (lie_inserted count c ds l ls.1)
  where
    by : (t : Bool) → AllLie count (inserted c ds) → AllLie count (if t then c ∷ d ∷ ds else d ∷ inserted c ds)
    by true rest = (l, ls)
    by false rest = (ls.0, rest)

pub lie_ordered : (count : ℕ) (cs : List NCatch) → AllLie count cs → AllLie count (table_order cs)
lie_ordered count [] ls = tt
lie_ordered count (c ∷ cs) ls = by (has_range c) (lie_ordered count cs ls.1)
  where
    by : (t : Bool) → AllLie count (table_order cs) → AllLie count (by_target (if t then c ∷ filter has_range cs
        else filter has_range cs))
    by true rest = lie_inserted count c (table_order cs) ls.0 rest
    by false rest = rest

-- handlers at offsets that are the same for their labels are the same
module _ (count : ℕ) (to other : ℕ → ℕ) (same : (k : ℕ) → k ≤ count → to k ≡ other k) where
  handler_same : (c : NCatch) (later : List NCatch) → Lies count c → handler_of to c later ≡ handler_of other c later
  handler_same c later l =
      let s = same c.start (omega arith) in
      let e = same c.end l.1 in
      let t = same c.target (omega arith) in
      cc

  pub handlers_same : (cs : List NCatch) → AllLie count cs → handlers_of to cs ≡ handlers_of other cs
  handlers_same [] ls = refl
  handlers_same (c ∷ cs) ls = ap (λ h. h ∷ handlers_of to cs) (handler_same c cs ls.0) ∙ ap (λ hs. handler_of other c cs
      ∷ hs) (handlers_same cs ls.1)

-- ---- lists from a place on

-- the order from a place on
module _ (cs : List NCatch) (k : ℕ) (c : NCatch) (e : slice_get cs k ≡ Some c) where
  pub order_more : has_range c ≡ true → inserted c (table_order (drop (k + 1) cs)) ≡ table_order (drop k cs)
  order_more t = sym (ap table_order (drop_at cs k c e)
      ∙ ap (λ b. by_target (if b then c ∷ filter has_range (drop (k + 1) cs) else filter has_range (drop (k + 1) cs)))
      t)

pub map_insert : {A B : Type 0} (f : A → B) (xs : List A) (p : ℕ) (x : A) → map f (insert xs p x)
    ≡ insert (map f xs) p (f x)
map_insert f [] zero x = refl
map_insert f [] (suc p) x = refl
map_insert f (y ∷ xs) zero x = refl
map_insert f (y ∷ xs) (suc p) x = ap (λ zs. f y ∷ zs) (map_insert f xs p x)

-- ---- a label's offset

pub offset_same : (insns : List NInsn) (to : ℕ → ℕ) (places : List ℕ) (end : ℕ) → HasPlaces insns to places
    → end ≡ to (length insns) → (k : ℕ) → k ≤ length insns → offset_at places end k ≡ to k
offset_same insns to places end has last k le = ⊎_elim
    (λ lt. let t : nat_lt k (length places) ≡ true = grind (arith, nat_tests) in
    ap (λ b. if b then slice_index places k else end) t ∙ has.each k (let n = has.count in omega arith))
    (λ ge. let t : nat_lt k (length places) ≡ false = grind (arith, nat_tests) in
    ap (λ b. if b then slice_index places k else end) t ∙ last ∙ ap to (let n = has.count in omega arith))
    (cases_lt k (length places))
