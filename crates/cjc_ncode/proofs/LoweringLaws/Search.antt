-- The search through a method's handlers by offset finds what the search by label finds.
use Rattle.std.proofs.Common.{◌≡◌, ℕ, suc, ◌+◌, ◌-◌, ◌<◌, ◌≤◌, refl, sym, ap, ◌∙◌, ⊎_elim, arith, Bool, true, false}
use Rattle.std.proofs.Common.{List, [], ◌∷◌, ◌++◌}
use Rattle.std.specs.Prelude.{Option, Some, None, nat_le, nat_lt, slice_get, if◌then◌else◌, not, ◌&&◌, ◌||◌}
use Rattle.std.proofs.lemmas.Bool.{cases_lt}
use Rattle.std.proofs.lemmas.Bool.Decides.{nat_tests}
use Rattle.cjc_card_semantics.specs.CapRead.declared.tree.Handler.{Handler}
use Rattle.cjc_card_semantics.specs.CapRead.declared.tree.PoolEntry.{PoolEntry}
use Rattle.cjc_card_semantics.specs.Script.Sorts.{Shape, OfClass}
use Rattle.cjc_card_semantics.specs.Bytecode.Renaming.{option_as, shape_as}
use Rattle.cjc_card_semantics.specs.Machine.Loaded.{Loaded}
use Rattle.cjc_card_semantics.specs.Machine.Classes.{Class}
use Rattle.cjc_card_semantics.specs.Machine.Methods
use Rattle.cjc_card_semantics.specs.Machine.Operations.{class_at}
use Rattle.cjc_ncode.specs.declared.narrow.NCatch.{NCatch}
use Rattle.cjc_ncode.specs.ByLabel.{Named}
use Rattle.cjc_ncode.specs.ByLabel
use Rattle.cjc_ncode.specs.Lowering.Naming.{Naming}
use Rattle.cjc_ncode.specs.Lowering.Laid.{class_index}
use Rattle.cjc_ncode.specs.Lowering.Handlers
use Rattle.cjc_ncode.specs.Lowering.Handlers.{meets, meets_any, handler_of, handlers_of, IsAscending, Catches, any, one}
use Rattle.cjc_ncode.specs.Lowering.Handlers.{every, IsObject, AllLie, none, more, SubtypesAgree, AllElsewhere, before}
use Rattle.cjc_ncode.specs.Lowering.Handlers.{behind}

-- handlers that do not cover a place
pub data AllMiss (at : ℕ) : List Handler → Type 0 where
  miss_none : AllMiss at []
  miss_one : {h : Handler} {handlers : List Handler} → Methods.covers h at ≡ false → AllMiss at handlers
      → AllMiss at (h ∷ handlers)

module _ (n : Naming) (l : Named) (to : ℕ → ℕ) (count k : ℕ) (kind : Shape (List ℕ)) (inside : k ≤ count)
    (ascends : IsAscending count to) (agree : SubtypesAgree n l kind) (root : IsObject l kind) where
  takes_same : (o : Option (List ℕ)) → Catches n o → Methods.takes n.loaded n.part n.pool (class_index n o)
      (shape_as n.class kind) ≡ ByLabel.takes l o kind
  takes_same None any = refl
  takes_same (Some c) (one {k = j} is_suc holds is) =
      let there : slice_get n.pool (suc j) ≡ Some _ = ap (slice_get n.pool) (sym is_suc) ∙ holds.there in
      ap (λ i. Methods.takes n.loaded n.part n.pool i (shape_as n.class kind)) is_suc
      ∙ ap (λ o. Methods.is_caught n.loaded (shape_as n.class kind) (class_at n.loaded n.part o)) there
      ∙ ap (λ o. Methods.is_caught n.loaded (shape_as n.class kind) o) is
      ∙ agree c is
  takes_same (Some c) (every is at) =
      ap (λ i. Methods.takes n.loaded n.part n.pool i (shape_as n.class kind)) at
      ∙ sym (ap (λ d. l.is_of kind (OfClass d)) is ∙ root)

  -- ---- ranges

  abbrev here : NCatch → Bool
  here c = nat_le c.start k && nat_lt k c.end

  at_most : (a : ℕ) → a ≤ count → nat_le (to a) (to k) ≡ nat_le a k
  at_most a le = ⊎_elim
      (λ lt. let up = ascends k a lt le in let e : nat_le a k ≡ false = grind (arith, nat_tests)
      in let f : nat_le (to a) (to k) ≡ false = grind (arith, nat_tests) in f ∙ sym e)
      (λ not_above. let e : nat_le a k ≡ true = grind (arith, nat_tests) in below not_above ∙ sym e)
      (cases_lt k a)
    where
      below : a ≤ k → nat_le (to a) (to k) ≡ true
      below le = ⊎_elim
          (λ lt. let up = ascends a k lt (omega arith) in grind (arith, nat_tests))
          (λ ge. let same : a ≡ k = omega arith in let e : to a ≡ to k = ap to same in grind (arith, nat_tests))
          (cases_lt a k)

  above : (a : ℕ) → a ≤ count → nat_lt (to k) (to a) ≡ nat_lt k a
  above a le = ⊎_elim
      (λ lt. let up = ascends k a lt le in let e : nat_lt k a ≡ true = grind (arith, nat_tests)
      in let f : nat_lt (to k) (to a) ≡ true = grind (arith, nat_tests) in f ∙ sym e)
      (λ not_above. let e : nat_lt k a ≡ false = grind (arith, nat_tests) in below not_above ∙ sym e)
      (cases_lt k a)
    where
      below : a ≤ k → nat_lt (to k) (to a) ≡ false
      below le = ⊎_elim
          (λ lt. let up = ascends a k lt (omega arith) in grind (arith, nat_tests))
          (λ ge. let same : a ≡ k = omega arith in let e : to a ≡ to k = ap to same in grind (arith, nat_tests))
          (cases_lt a k)

  covers_same : (c : NCatch) (later : List NCatch) → c.start < c.end → c.end ≤ count
      → Methods.covers (handler_of n to c later) (to k) ≡ here c
  covers_same c later some high =
      let up = ascends c.start c.end some high in
      let whole : to c.start + (to c.end - to c.start) ≡ to c.end = omega arith in
      ap (λ x. nat_le (to c.start) (to k) && nat_lt (to k) x) whole
      ∙ ap (λ t. t && nat_lt (to k) (to c.end)) (at_most c.start (omega arith))
      ∙ ap (λ t. nat_le c.start k && t) (above c.end high)

  both_meet : (c d : NCatch) → here c ≡ true → here d ≡ true → meets c d ≡ true
  both_meet c d e f = grind (arith, nat_tests)

  -- ---- the search

  -- what meets no later one is the last that covers the place
  no_later : (c : NCatch) (catches : List NCatch) → here c ≡ true → meets_any c catches ≡ false
      → ByLabel.handler l catches k kind ≡ None
  no_later c [] e f = refl
  no_later c (d ∷ catches) e f = by (no_later c catches e) (here d) refl (meets c d) refl
    where
      by : (meets_any c catches ≡ false → ByLabel.handler l catches k kind ≡ None) → (t : Bool) → here d ≡ t
          → (m : Bool) → meets c d ≡ m → ByLabel.handler l (d ∷ catches) k kind ≡ None
      by past t h true m = let clash : true ≡ false = ap (λ m. m || meets_any c catches) (sym m) ∙ f in cc
      by past true h false m = let clash : true ≡ false = sym (both_meet c d e h) ∙ m in cc
      by past false h false m =
          let rest : meets_any c catches ≡ false = ap (λ m. m || meets_any c catches) (sym m) ∙ f in
          ap (λ t. if t && ByLabel.takes l d.class kind then Some d.target else ByLabel.handler l catches k kind) h
          ∙ past rest

  choose_same : (t taken stop : Bool) (target : ℕ) (o : Option ℕ) (o' : Option ℕ) → o' ≡ option_as to o
      → (t ≡ true → stop ≡ true → o ≡ None)
      → (if t then (if taken then Some (to target) else (if stop then None else o')) else o') ≡ option_as to (if t
      && taken then Some target else o)
  choose_same false taken stop target o o' same last = same
  choose_same true true stop target o o' same last = refl
  choose_same true false false target o o' same last = same
  choose_same true false true target o o' same last = let e = last refl refl in ap (option_as to) (sym e)

  pub handler_same : (catches : List NCatch) → AllLie n count catches → Methods.handler_among n.loaded n.part n.pool
      (handlers_of n to catches) (to k) (shape_as n.class kind) ≡ option_as to (ByLabel.handler l catches k kind)
  handler_same [] none = refl
  handler_same (c ∷ catches) (more some high known lie) =
      let rest = handler_same catches lie in
      let rest' = Methods.handler_among n.loaded n.part n.pool (handlers_of n to catches) (to k) (shape_as n.class kind)
      in
      let stop = not (meets_any c catches) in
      ap (λ t. if t then (if Methods.takes n.loaded n.part n.pool (class_index n c.class) (shape_as n.class kind)
      then Some (to c.target) else (if stop then None else rest')) else rest') (covers_same c catches some high)
      ∙ ap (λ t. if here c then (if t then Some (to c.target) else (if stop then None else rest'))
      else rest') (takes_same c.class known)
      ∙ choose_same (here c) (ByLabel.takes l c.class kind) stop c.target (ByLabel.handler l catches k kind) rest' rest
      (λ e f. no_later c catches e (stops (meets_any c catches) f))
    where
      stops : (b : Bool) → not b ≡ true → b ≡ false
      stops true e = cc
      stops false e = refl

-- ---- the whole table

pub elsewhere_misses : (first end at : ℕ) (handlers : List Handler) → first ≤ at → at ≤ end
    → AllElsewhere first end handlers → AllMiss at handlers
elsewhere_misses first end at [] low high Handlers.none = miss_none
elsewhere_misses first end at (h ∷ handlers) low high (before le off) = miss_one (grind (arith, nat_tests))
    (elsewhere_misses first end at handlers low high off)
elsewhere_misses first end at (h ∷ handlers) low high (behind lt off) = miss_one (grind (arith, nat_tests))
    (elsewhere_misses first end at handlers low high off)

module _ (l : Loaded) (part : ℕ) (pool : List PoolEntry) (at : ℕ) (kind : Shape Class) where
  abbrev search : List Handler → Option ℕ
  search handlers = Methods.handler_among l part pool handlers at kind

  abbrev choose : Handler → Bool → Option ℕ → Option ℕ
  choose h covered rest = if covered then (if Methods.takes l part pool h.catch_index kind then Some h.handler
      else (if h.stop then None else rest)) else rest

  pub skipped : (hs ks : List Handler) → AllMiss at hs → search (hs ++ ks) ≡ search ks
  skipped [] ks miss_none = refl
  skipped (h ∷ hs) ks (miss_one e off) = ap (λ t. choose h t (search (hs ++ ks))) e ∙ skipped hs ks off

  nothing_found : (ks : List Handler) → AllMiss at ks → search ks ≡ None
  nothing_found [] miss_none = refl
  nothing_found (h ∷ ks) (miss_one e off) = ap (λ t. choose h t (search ks)) e ∙ nothing_found ks off

  pub cut_off : (hs ks : List Handler) → AllMiss at ks → search (hs ++ ks) ≡ search hs
  cut_off [] ks off = nothing_found ks off
  cut_off (h ∷ hs) ks off = ap (choose h (Methods.covers h at)) (cut_off hs ks off)

-- no range covers what stands behind the code
pub none_behind : (n : Naming) (l : Named) (count k : ℕ) (kind : Shape (List ℕ)) → count ≤ k → (catches : List NCatch)
    → AllLie n count catches → ByLabel.handler l catches k kind ≡ None
none_behind n l count k kind le [] none = refl
none_behind n l count k kind le (c ∷ catches) (more some high known lie) =
    let e : nat_lt k c.end ≡ false = grind (arith, nat_tests) in
    let both : (nat_le c.start k && nat_lt k c.end) ≡ false = both_false (nat_le c.start k) (nat_lt k c.end) e in
    ap (λ t. if t && ByLabel.takes l c.class kind then Some c.target else ByLabel.handler l catches k kind) both
    ∙ none_behind n l count k kind le catches lie
  where
    both_false : (a b : Bool) → b ≡ false → (a && b) ≡ false
    both_false true b e = e
    both_false false b e = refl
