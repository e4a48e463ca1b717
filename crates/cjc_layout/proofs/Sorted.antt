-- The search for a handler finds the same in the order of the table as in that of the class file.
use Rattle.std.proofs.Common.{◌≡◌, ℕ, refl, sym, ap, ◌∙◌, arith, Bool, true, false, List, [], ◌∷◌, ◌++◌}
use Rattle.std.specs.Prelude.{Option, Some, nat_le, nat_lt, if◌then◌else◌, ◌&&◌, filter}
use Rattle.std.proofs.lemmas.Bool.Decides.{nat_tests}
use Rattle.std.proofs.lemmas.Bool.{or_parts}
use Rattle.cjc_ncode.specs.LowerScript.Sorts.{Shape}
use Rattle.cjc_ncode.specs.declared.narrow.NCatch.{NCatch}
use Rattle.cjc_ncode.specs.ByLabel.{Named, takes, handler}
use Rattle.cjc_layout.specs.Handlers.{has_range, inserted, by_target, table_order}
use Rattle.cjc_layout.specs.Refusals.{shares, overtakes, overtakes_any, overtaking}

-- none of these stands before it in the table, with an instruction under both
abbrev NoneBefore : NCatch → List NCatch → Type 0
NoneBefore c [] = Unit {0}
NoneBefore c (d ∷ ds) = (overtakes d c ≡ false) × NoneBefore c ds

-- so it is with each of these
abbrev AllBefore : List NCatch → List NCatch → Type 0
AllBefore [] ds = Unit {0}
AllBefore (c ∷ cs) ds = NoneBefore c ds × AllBefore cs ds

-- so it is with each and those behind it
abbrev IsUnbroken : List NCatch → Type 0
IsUnbroken [] = Unit {0}
IsUnbroken (c ∷ cs) = NoneBefore c cs × IsUnbroken cs

-- ---- from the list of those that are out of order

split_last : (es : List NCatch) (c : NCatch) (ds : List NCatch) → AllBefore (es ++ c ∷ []) ds → AllBefore es ds
    × NoneBefore c ds
split_last [] c ds a = (tt, a.0)
split_last (e ∷ es) c ds a = let r = split_last es c ds a.1 in ((a.0, r.0), r.1)

joined : (es : List NCatch) (c : NCatch) (ds : List NCatch) → overtakes_any c es ≡ false → AllBefore es ds
    → AllBefore es (c ∷ ds)
joined [] c ds e a = tt
joined (d ∷ es) c ds e a = let o = or_parts (overtakes c d) (overtakes_any c es) e
    in ((o.0, a.0), joined es c ds o.1 a.1)

all_empty : (es : List NCatch) → AllBefore es []
all_empty [] = tt
all_empty (e ∷ es) = (tt, all_empty es)

unbroken_of : (es cs : List NCatch) → overtaking es cs ≡ [] → IsUnbroken cs × AllBefore es cs
unbroken_of es [] e = (tt, all_empty es)
unbroken_of es (c ∷ cs) e = by (λ g. unbroken_of (es ++ c ∷ []) cs g) (overtakes_any c es) refl e
  where
    by : (overtaking (es ++ c ∷ []) cs ≡ [] → IsUnbroken cs × AllBefore (es ++ c ∷ []) cs) → (t : Bool)
        → overtakes_any c es ≡ t → (if t then c.at ∷ overtaking (es ++ c ∷ []) cs else overtaking (es ++ c ∷ []) cs)
        ≡ [] → IsUnbroken (c ∷ cs) × AllBefore es (c ∷ cs)
    by rest true f g = cc
    by rest false f g =
        let r = rest g in
        let s = split_last es c cs r.1 in
        ((s.1, r.0), joined es c cs f s.0)

-- ---- sorting

before_insert : (c d : NCatch) (ds : List NCatch) → overtakes d c ≡ false → NoneBefore c ds
    → NoneBefore c (inserted d ds)
before_insert c d [] h n = (h, tt)
before_insert c d (e ∷ ds) h n = by (nat_le d.target e.target) (before_insert c d ds h n.1)
  where
    by : (t : Bool) → NoneBefore c (inserted d ds) → NoneBefore c (if t then d ∷ e ∷ ds else e ∷ inserted d ds)
    by true rest = (h, n)
    by false rest = (n.0, rest)

before_ordered : (c : NCatch) (cs : List NCatch) → NoneBefore c cs → NoneBefore c (table_order cs)
before_ordered c [] n = tt
before_ordered c (d ∷ cs) n = by (has_range d) (before_ordered c cs n.1)
  where
    by : (t : Bool) → NoneBefore c (table_order cs) → NoneBefore c (by_target (if t then d ∷ filter has_range cs
        else filter has_range cs))
    by true rest = before_insert c d (table_order cs) n.0 rest
    by false rest = rest

module _ (l : Named) (k : ℕ) (kind : Shape (List ℕ)) where
  abbrev here : NCatch → Bool
  here c = nat_le c.start k && nat_lt k c.end

  -- what a handler does before others
  abbrev tried : NCatch → Option ℕ → Option ℕ
  tried c rest = if here c && takes l c.class kind then Some c.target else rest

  both_share : (c d : NCatch) → here c ≡ true → here d ≡ true → shares c d ≡ true
  both_share c d e f = grind (arith, nat_tests)

  here_has_range : (c : NCatch) → here c ≡ true → has_range c ≡ true
  here_has_range c e = grind (arith, nat_tests)

  swap : (c d : NCatch) (rest : Option ℕ) → (here c ≡ true → here d ≡ true → ⊥) → tried d (tried c rest)
      ≡ tried c (tried d rest)
  swap c d rest apart = by (here c) refl (here d) refl (takes l c.class kind) (takes l d.class kind)
    where
      by : (s : Bool) → here c ≡ s → (t : Bool) → here d ≡ t → (a b : Bool) → (if t && b then Some d.target
          else (if s && a then Some c.target else rest)) ≡ (if s && a then Some c.target
          else (if t && b then Some d.target else rest))
      by false e t f a b = refl
      by true e false f a b = refl
      by true e true f a b = absurd (apart e f)

  -- a lower target under a common instruction would be out of order
  no_swap : (c d : NCatch) → overtakes d c ≡ false → nat_le c.target d.target ≡ false → here c ≡ true → here d ≡ true
      → ⊥
  no_swap c d o t e f =
      let s = both_share c d e f in
      let g : nat_lt d.target c.target ≡ true = grind (arith, nat_tests) in
      let clash : true ≡ false = sym (ap (λ b. b && nat_lt d.target c.target) s ∙ g) ∙ o in cc

  insert_same : (c : NCatch) (ds : List NCatch) → NoneBefore c ds → handler l (inserted c ds) k kind
      ≡ handler l (c ∷ ds) k kind
  insert_same c [] n = refl
  insert_same c (d ∷ ds) n = by (nat_le c.target d.target) refl (insert_same c ds n.1)
    where
      by : (t : Bool) → nat_le c.target d.target ≡ t → handler l (inserted c ds) k kind ≡ handler l (c ∷ ds) k kind
          → handler l (if t then c ∷ d ∷ ds else d ∷ inserted c ds) k kind ≡ handler l (c ∷ d ∷ ds) k kind
      by true e rest = refl
      by false e rest = ap (tried d) rest ∙ swap c d (handler l ds k kind) (no_swap c d n.0 e)

  ordered_by : (cs : List NCatch) → IsUnbroken cs → handler l (table_order cs) k kind ≡ handler l cs k kind
  ordered_by [] u = refl
  ordered_by (c ∷ cs) u = by (has_range c) refl (ordered_by cs u.1)
    where
      not_here : has_range c ≡ false → (t : Bool) → here c ≡ t → here c ≡ false
      not_here e true f = let clash : true ≡ false = sym (here_has_range c f) ∙ e in cc
      not_here e false f = f

      by : (t : Bool) → has_range c ≡ t → handler l (table_order cs) k kind ≡ handler l cs k kind
          → handler l (by_target (if t then c ∷ filter has_range cs else filter has_range cs)) k kind
          ≡ handler l (c ∷ cs) k kind
      by true e rest = insert_same c (table_order cs) (before_ordered c cs u.0) ∙ ap (tried c) rest
      by false e rest = rest ∙ sym (ap (λ t. if t && takes l c.class kind then Some c.target else handler l cs k kind)
          (not_here e (here c) refl))

  pub ordered_same : (cs : List NCatch) → overtaking [] cs ≡ [] → handler l (table_order cs) k kind
      ≡ handler l cs k kind
  ordered_same cs e = ordered_by cs (unbroken_of [] cs e).0
