-- The handlers in the table of Method: their order, what they name, and their stop bits.
use Rattle.std.proofs.Common.{◌≡◌, ℕ, suc, ◌+◌, ◌-◌, ◌<◌, ◌≤◌, refl, sym, ap, ◌∙◌, ⊎_elim, arith, Bool, true, false}
use Rattle.std.proofs.Common.{List, [], ◌∷◌, ◌++◌, length, Some}
use Rattle.std.specs.Prelude.{slice_get, max, min, nat_lt, ◌==◌, ◌&&◌, ◌||◌, not, cond}
use Rattle.std.specs.List.{AllByRecursion, find, list_any}
use Rattle.std.proofs.lemmas.Bool.{cases_lt, le-leb}
use Rattle.std.proofs.lemmas.Bool.Decides.{nat_tests}
use Rattle.std.proofs.Math.Nat.{le-max_right, max-eq_left, max-eq_right, min-eq_left, min-eq_right}
use Rattle.cjc_capread.specs.declared.tree.Handler.{Handler}
use Rattle.cjc_capread.specs.declared.tree.PoolEntry.{PoolEntry}
use Rattle.cjc_world.specs.ExportFile.Members.{same_bool}
use Rattle.cjc_check_rules.specs.Spots.{along, in_info}
use Rattle.cjc_check_rules.specs.Complete.{Complete}
use Rattle.cjc_check_rules.specs.Codes.{Code, codes}
use Rattle.cjc_check_rules.specs.Instructions.{has_start}
use Rattle.cjc_check_rules.specs.Handlers.{handler_stands, in_code, is_classref, meet, stops_from, targets_from}
use Rattle.cjc_ncode.specs.declared.narrow.NCatch.{NCatch}
use Rattle.cjc_ncode.specs.Lowering.Naming.{Naming}
use Rattle.cjc_ncode.specs.Lowering.Laid.{class_index}
use Rattle.cjc_ncode.specs.Lowering.Handlers.{handler_of, handlers_of, meets, meets_any}
use Rattle.cjc_ncode.specs.Lowering.Package.{all_handlers}
use Rattle.cjc_pool.specs.Layout.Handlers.{Lies, table_order}
use Rattle.cjc_pool.specs.Emit.Emitted.{CanBeWritten}
use Rattle.cjc_pool.specs.Emit.Emitted as Emitted
use Rattle.cjc_components.specs.Package.{LaidMethod}
use Rattle.cjc_components.specs.Methods.{method_size, placed_from}
use Rattle.cjc_token_proof.proofs.ComponentsLaws.Tests.{none_in_both, passes}
use Rattle.cjc_check_proof.specs.Code.Caught.{HandlersLie}
use Rattle.cjc_check_proof.specs.Code.Codes.{code_at, codes_at}
use Rattle.cjc_check_proof.specs.Code.Written.{AllWritable}
use Rattle.cjc_check_proof.proofs.CodeLaws.Places.{count, end, label_ascends, label_grows, label_high, label_low}
use Rattle.cjc_check_proof.proofs.CodeLaws.Places.{label_order, last_label, none_behind, start_there, to}
use Rattle.cjc_check_proof.proofs.CodeLaws.Sorted.{each_lies, each_ordered, ordered_ranges, ordered_rise, Rise}
use Rattle.cjc_bytes.proofs.Numbers.{like_number}

-- it covers something
abbrev IsRanged : NCatch → Type 0
IsRanged c = c.start < c.end

-- its catch index is 0 or that of a Classref
abbrev pub IsTold : Naming → List PoolEntry → NCatch → Type 0
IsTold n entries c = (class_index n c.class == 0 || is_classref (slice_get entries (class_index n c.class))) ≡ true

abbrev pub AllTold : Naming → List PoolEntry → List LaidMethod → Type 0
AllTold n entries ms = (k : ℕ) (m : LaidMethod) → slice_get ms k ≡ Some m
    → AllByRecursion (IsTold n entries) m.code.catches

-- ---- order

module _ (n : Naming) (at : ℕ) (m : LaidMethod) (can : CanBeWritten n (Emitted.placed_at 0 m.code m.wide)) where
  targets_one : (low before pos : ℕ) (cs : List NCatch) (rest : List Handler) → before ≤ to n at m can low → Rise low cs
      → ((b q : ℕ) → b ≤ end n at m can → targets_from b q rest ≡ [])
      → targets_from before pos (handlers_of n (to n at m can) cs ++ rest) ≡ []
  unfolding targets_from
  targets_one low before pos [] rest le rise h = let high = label_high n at m can low
      in h before pos (omega (arith, le, high))
  targets_one low before pos (c ∷ cs) rest le rise h =
      let up = label_grows n at m can low c.target rise.0 in
      none_in_both (passes _ (in_info 7 (pos + 4)) (le-leb before (to n at m can c.target) (omega (arith, le, up))))
      (targets_one c.target (to n at m can c.target) (pos + 8) cs rest (omega arith) rise.1 h)

pub targets_rise : (n : Naming) (at before pos : ℕ) (ms : List LaidMethod) → before ≤ at → AllWritable n ms
    → targets_from before pos (all_handlers n (placed_from at ms)) ≡ []
unfolding targets_from
targets_rise n at before pos [] le can = refl
targets_rise n at before pos (m ∷ ms) le can =
    let c = can 0 m refl in
    let low = label_low n at m c 0 in
    targets_one n at m c 0 before pos (table_order m.code.catches) (all_handlers n (placed_from (at + method_size m)
    ms)) (omega (arith, le, low)) (ordered_rise m.code.catches)
    (λ b q less. targets_rise n (at + method_size m) b q ms less (λ k x e. can (suc k) x e))

-- ---- what a handler names

module _ (n : Naming) (at : ℕ) (m : LaidMethod) (can : CanBeWritten n (Emitted.placed_at 0 m.code m.wide)) where
  -- its range ends at the label
  range_end : (c : NCatch) → IsRanged c → to n at m can c.start + (to n at m can c.end - to n at m can c.start)
      ≡ to n at m can c.end
  range_end c some = let up = label_grows n at m can c.start c.end (omega (arith, some)) in omega (arith, up)

  ends_there : (k : ℕ) → k ≤ count n at m can → (has_start (code_at n at m) (to n at m can k)
      || (let code = code_at n at m in to n at m can k == code.end)) ≡ true
  ends_there k le = ⊎_elim
      (λ lt. ap (λ b. b || (let code = code_at n at m in to n at m can k == code.end)) (start_there n at m can k lt))
      (λ over. let same : k ≡ count n at m can = omega (arith, le, over) in
      let last = last_label n at m can in
      let code = code_at n at m in
      let here : to n at m can k ≡ code.end = ap (to n at m can) same ∙ last
      ∙ (let e : at + method_size m ≡ code.end = omega arith in e) in
      or_second (has_start code (to n at m can k)) (to n at m can k == code.end) (ap (λ x. x == code.end) here
      ∙ like_number code.end))
      (cases_lt k (count n at m can))
    where
      or_second : (a b : Bool) → b ≡ true → (a || b) ≡ true
      or_second true b e = refl
      or_second false b e = e

  module _ (c : Complete) where
    handler_one : (pos : ℕ) (x : NCatch) (later : List NCatch) → Lies (count n at m can) x → IsRanged x
        → IsTold n c.pool.entries x
        → find (λ (code : Code). has_start code (to n at m can x.start)) (codes c) ≡ Some (code_at n at m)
        → handler_stands c pos (handler_of n (to n at m can) x later) ≡ []
    handler_one pos x later lies some told found =
        let code = code_at n at m in
        let h = handler_of n (to n at m can) x later in
        none_in_both (ap (in_code pos h) found
        ∙ none_in_both (passes _ (in_info 7 (pos + 2)) (ap (λ s. has_start code s || s == code.end) (range_end x some)
        ∙ ends_there x.end lies.1))
        (passes _ (in_info 7 (pos + 4)) (start_there n at m can x.target lies.2)))
        (passes _ (in_info 7 (pos + 6)) told)

    stand_one : (pos : ℕ) (cs : List NCatch) (rest : List Handler) → AllByRecursion (Lies (count n at m can)) cs
        → AllByRecursion IsRanged cs → AllByRecursion (IsTold n c.pool.entries) cs
        → ((k : ℕ) → k < count n at m can → find (λ (code : Code). has_start code (to n at m can k)) (codes c)
        ≡ Some (code_at n at m)) → ((q : ℕ) → along (λ h. 8) (handler_stands c) q rest ≡ [])
        → along (λ h. 8) (handler_stands c) pos (handlers_of n (to n at m can) cs ++ rest) ≡ []
    unfolding along
    stand_one pos [] rest lies some told found h = h pos
    stand_one pos (x ∷ cs) rest lies some told found h =
        none_in_both (handler_one pos x cs lies.0 some.0 told.0 (found x.start (let l = lies.0 in l.0)))
        (stand_one (pos + 8) cs rest lies.1 some.1 told.1 found h)

module _ (c : Complete) (n : Naming) where
  pub handlers_stand : (at pos : ℕ) (ms : List LaidMethod) → AllWritable n ms → HandlersLie ms
      → AllTold n c.pool.entries ms
      → ((s : ℕ) → at ≤ s → find (λ (code : Code). has_start code s) (codes c)
      ≡ find (λ (code : Code). has_start code s) (codes_at n at ms))
      → along (λ h. 8) (handler_stands c) pos (all_handlers n (placed_from at ms)) ≡ []
  unfolding along
  handlers_stand at pos [] can lie told skip = refl
  handlers_stand at pos (m ∷ ms) can lie told skip =
      let w = can 0 m refl in
      let cs = m.code.catches in
      let next = at + method_size m in
      stand_one n at m w c pos (table_order cs) (all_handlers n (placed_from next ms))
      (each_ordered (Lies (length m.code.insns)) cs (each_lies (length m.code.insns) cs (lie 0 m refl)))
      (ordered_ranges cs) (each_ordered (IsTold n c.pool.entries) cs (told 0 m refl))
      (λ k lt. skip (to n at m w k) (label_low n at m w k)
      ∙ ap (λ b. cond b (Some (code_at n at m)) (find (λ (code : Code). has_start code (to n at m w k))
      (codes_at n next ms))) (start_there n at m w k lt))
      (λ q. handlers_stand next q ms (λ k x e. can (suc k) x e) (λ k x e. lie (suc k) x e) (λ k x e. told (suc k) x e)
      (λ s le. skip s (omega (arith, le))
      ∙ ap (λ b. cond b (Some (code_at n at m)) (find (λ (code : Code). has_start code s) (codes_at n next ms)))
      (none_behind n at m w s le)))

-- ---- stop bits

-- ranges with a byte in common
overlap : (p q r s : ℕ) → p < q → r < s → nat_lt (max p r) (min q s) ≡ (nat_lt p s && nat_lt r q)
overlap p q r s a b = ⊎_elim
    (λ lt. ⊎_elim
    (λ less. ap (λ x. nat_lt x (min q s)) (max-eq_right (omega (arith, lt)))
    ∙ ap (nat_lt r) (min-eq_left (omega (arith, less))) ∙ first_true lt less)
    (λ more. ap (λ x. nat_lt x (min q s)) (max-eq_right (omega (arith, lt))) ∙ ap (nat_lt r) (min-eq_right more)
    ∙ both_true lt more)
    (cases_lt q s))
    (λ le. ⊎_elim
    (λ less. ap (λ x. nat_lt x (min q s)) (max-eq_left le) ∙ ap (nat_lt p) (min-eq_left (omega (arith, less)))
    ∙ inner le less)
    (λ more. ap (λ x. nat_lt x (min q s)) (max-eq_left le) ∙ ap (nat_lt p) (min-eq_right more) ∙ last_true le more)
    (cases_lt q s))
    (cases_lt p r)
  where
    yes : (x y : ℕ) → x < y → nat_lt x y ≡ true
    yes x y lt = grind (arith, nat_tests, lt)

    and_true : (x y : Bool) → y ≡ true → x ≡ (x && y)
    and_true true y e = sym e
    and_true false y e = refl

    -- p < r and q < s
    first_true : p < r → q < s → nat_lt r q ≡ (nat_lt p s && nat_lt r q)
    first_true lt less = sym (ap (λ x. x && nat_lt r q) (yes p s (omega (arith, a, less))))

    -- p < r and s ≤ q
    both_true : p < r → s ≤ q → nat_lt r s ≡ (nat_lt p s && nat_lt r q)
    both_true lt more = yes r s b ∙ sym (ap (λ x. x && nat_lt r q) (yes p s (omega (arith, lt, b)))
        ∙ yes r q (omega (arith, b, more)))

    -- r ≤ p and q < s
    inner : r ≤ p → q < s → nat_lt p q ≡ (nat_lt p s && nat_lt r q)
    inner le less = yes p q a ∙ sym (ap (λ x. x && nat_lt r q) (yes p s (omega (arith, a, less)))
        ∙ yes r q (omega (arith, le, a)))

    -- r ≤ p and s ≤ q
    last_true : r ≤ p → s ≤ q → nat_lt p s ≡ (nat_lt p s && nat_lt r q)
    last_true le more = and_true (nat_lt p s) (nat_lt r q) (yes r q (omega (arith, b, more)))

-- a range that ends before another begins
no_overlap : (p q r s : ℕ) → q ≤ r → nat_lt (max p r) (min q s) ≡ false
no_overlap p q r s le =
    let high = le-max_right p r in
    ⊎_elim
    (λ lt. ap (nat_lt (max p r)) (min-eq_left (omega (arith, lt))) ∙ no (max p r) q (omega (arith, le, high)))
    (λ more. ap (nat_lt (max p r)) (min-eq_right more) ∙ no (max p r) s (omega (arith, le, high, more)))
    (cases_lt q s)
  where
    no : (x y : ℕ) → y ≤ x → nat_lt x y ≡ false
    no x y h = grind (arith, nat_tests, h)

any_front : {A : Type 0} (test : A → Bool) (xs ys : List A) → list_any test ys ≡ false → list_any test (xs ++ ys)
    ≡ list_any test xs
any_front test [] ys e = e
any_front test (x ∷ xs) ys e = ap (λ b. test x || b) (any_front test xs ys e)

same_itself : (b : Bool) → same_bool b b ≡ true
same_itself true = refl
same_itself false = refl

-- it begins at this offset or behind it
abbrev IsFrom : ℕ → Handler → Type 0
IsFrom at h = at ≤ h.start

module _ (n : Naming) (at : ℕ) (m : LaidMethod) (can : CanBeWritten n (Emitted.placed_at 0 m.code m.wide)) where
  meets_same : (x y : NCatch) (l k : List NCatch) → Lies (count n at m can) x → Lies (count n at m can) y → IsRanged x
      → IsRanged y
      → meet (handler_of n (to n at m can) x l) (handler_of n (to n at m can) y k) ≡ meets x y
  meets_same x y l k lx ly rx ry =
      let f = to n at m can in
      ap (λ q. nat_lt (max (f x.start) (f y.start)) (min q (f y.start + (f y.end - f y.start)))) (range_end n at m can x
      rx)
      ∙ ap (λ s. nat_lt (max (f x.start) (f y.start)) (min (f x.end) s)) (range_end n at m can y ry)
      ∙ overlap (f x.start) (f x.end) (f y.start) (f y.end) (label_ascends n at m can x.start x.end rx lx.1)
      (label_ascends n at m can y.start y.end ry ly.1)
      ∙ ap (λ b. b && nat_lt (f y.start) (f x.end)) (label_order n at m can x.start y.end (let a = lx.0
      in omega (arith, a)) ly.1)
      ∙ ap (λ b. nat_lt x.start y.end && b) (label_order n at m can y.start x.end (let a = ly.0 in omega (arith, a))
      lx.1)

  any_same : (x : NCatch) (l : List NCatch) → Lies (count n at m can) x → IsRanged x → (cs : List NCatch)
      → AllByRecursion (Lies (count n at m can)) cs → AllByRecursion IsRanged cs
      → list_any (meet (handler_of n (to n at m can) x l)) (handlers_of n (to n at m can) cs) ≡ meets_any x cs
  any_same x l lx rx [] lies some = refl
  any_same x l lx rx (y ∷ cs) lies some =
      ap (λ b. b || list_any (meet (handler_of n (to n at m can) x l)) (handlers_of n (to n at m can) cs))
      (meets_same x y l cs lx lies.0 rx some.0)
      ∙ ap (λ b. meets x y || b) (any_same x l lx rx cs lies.1 some.1)

  none_later : (x : NCatch) (l : List NCatch) → IsRanged x → (hs : List Handler)
      → AllByRecursion (IsFrom (end n at m can)) hs → list_any (meet (handler_of n (to n at m can) x l)) hs ≡ false
  none_later x l rx [] from = refl
  none_later x l rx (h ∷ hs) from =
      let f = to n at m can in
      let high = label_high n at m can x.end in
      let le = from.0 in
      let here : meet (handler_of n f x l) h ≡ false =
      ap (λ q. nat_lt (max (f x.start) h.start) (min q (h.start + h.length))) (range_end n at m can x rx)
      ∙ no_overlap (f x.start) (f x.end) h.start (h.start + h.length) (omega (arith, high, le)) in
      ap (λ b. b || list_any (meet (handler_of n f x l)) hs) here ∙ none_later x l rx hs from.1

  stops_one : (pos : ℕ) (cs : List NCatch) (rest : List Handler) → AllByRecursion (Lies (count n at m can)) cs
      → AllByRecursion IsRanged cs → AllByRecursion (IsFrom (end n at m can)) rest
      → ((q : ℕ) → stops_from q rest ≡ []) → stops_from pos (handlers_of n (to n at m can) cs ++ rest) ≡ []
  unfolding stops_from
  stops_one pos [] rest lies some from h = h pos
  stops_one pos (x ∷ cs) rest lies some from h =
      let f = to n at m can in
      let own = handler_of n f x cs in
      let all : list_any (meet own) (handlers_of n f cs ++ rest) ≡ meets_any x cs =
      any_front (meet own) (handlers_of n f cs) rest (none_later x cs some.0 rest from)
      ∙ any_same x cs lies.0 some.0 cs lies.1 some.1 in
      none_in_both (passes _ (in_info 7 (pos + 2)) (ap (λ b. same_bool (not (meets_any x cs)) (not b)) all
      ∙ same_itself (not (meets_any x cs))))
      (stops_one (pos + 8) cs rest lies.1 some.1 from h)

  -- its handlers begin in its code
  from_own : (cs : List NCatch) (rest : List Handler) → AllByRecursion (IsFrom at) rest
      → AllByRecursion (IsFrom at) (handlers_of n (to n at m can) cs ++ rest)
  from_own [] rest all = all
  from_own (c ∷ cs) rest all = (label_low n at m can c.start, from_own cs rest all)

earlier_from : (a b : ℕ) → a ≤ b → (hs : List Handler) → AllByRecursion (IsFrom b) hs → AllByRecursion (IsFrom a) hs
earlier_from a b le [] all = tt
earlier_from a b le (h ∷ hs) all = let here = all.0 in (omega (arith, le, here), earlier_from a b le hs all.1)

-- handlers begin in the code of their methods
handlers_from : (n : Naming) (at : ℕ) (ms : List LaidMethod) → AllWritable n ms
    → AllByRecursion (IsFrom at) (all_handlers n (placed_from at ms))
handlers_from n at [] can = tt
handlers_from n at (m ∷ ms) can =
    let next = at + method_size m in
    from_own n at m (can 0 m refl) (table_order m.code.catches) (all_handlers n (placed_from next ms))
    (earlier_from at next (omega arith) (all_handlers n (placed_from next ms)) (handlers_from n next ms
    (λ k x e. can (suc k) x e)))

pub stops_are : (n : Naming) (at pos : ℕ) (ms : List LaidMethod) → AllWritable n ms → HandlersLie ms
    → stops_from pos (all_handlers n (placed_from at ms)) ≡ []
unfolding stops_from
stops_are n at pos [] can lie = refl
stops_are n at pos (m ∷ ms) can lie =
    let cs = m.code.catches in
    let next = at + method_size m in
    stops_one n at m (can 0 m refl) pos (table_order cs) (all_handlers n (placed_from next ms))
    (each_ordered (Lies (length m.code.insns)) cs (each_lies (length m.code.insns) cs (lie 0 m refl)))
    (ordered_ranges cs) (handlers_from n next ms (λ k x e. can (suc k) x e))
    (λ q. stops_are n next q ms (λ k x e. can (suc k) x e) (λ k x e. lie (suc k) x e))
