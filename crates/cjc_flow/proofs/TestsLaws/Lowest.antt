-- The lowest rule that is found is the lowest that is broken.
use Rattle.std.proofs.Common.{◌≡◌, ◌⊎◌, ◌≤◌, ◌<◌, ◌&&◌, ◌==◌, ◌+◌, ◌-◌, ℕ, zero, suc, Bool, true, false, cond, leb}
use Rattle.std.proofs.Common.{List, [], ◌∷◌, length, get_or, Option, Some, None, refl, sym, ◌∙◌, ap, subst, inl, inr}
use Rattle.std.proofs.Common.{arith, int_le}
use Rattle.std.specs.Prelude.{not}
use Rattle.std.proofs.lemmas.Bool.{leb-true, leb-false, eqb-true, cases_lt}
use Rattle.std.proofs.lemmas.Int.{ints}
use Rattle.std.proofs.lemmas.List.{get_or_append_left}
use Rattle.cjc_fixpoint.specs.Bytes.Descriptor.{Part, Parts, part_at}
use Rattle.cjc_fixpoint.specs.Bytes.declared.fault.MemberId.{MemberId}
use Rattle.cjc_fixpoint.specs.Bytes.declared.descriptor.Kind.{Kind}
use Rattle.cjc_fixpoint.specs.Bytes.declared.descriptor.Kind.TheVariants as kinds
use Rattle.cjc_range.specs.Span.{Span, Within, byte_range, short_range}
use Rattle.cjc_types.specs.Bytecode.declared.insn.JOp.{JOp}
use Rattle.cjc_types.specs.Bytecode.declared.insn.JOp.TheVariants as jop
use Rattle.cjc_types.specs.declared.cell.Cell.{Cell}
use Rattle.cjc_types.specs.Flow.{Body}
use Rattle.cjc_types.specs.Rules.{tests_references}
use Rattle.cjc_types.specs.Steps as typed
use Rattle.cjc_types.specs.Steps.{compares, takes}
use Rattle.cjc_types.specs.Types.{parts}
use Rattle.cjc_intervals.specs.Steps.{operand}
use Rattle.cjc_intervals.specs.Values.{boolean_range}
use Rattle.cjc_intervals.specs.Bounds.{index_range, divides, shifts_right, may_hold_booleans, parameter, IsBoundOf}
use Rattle.cjc_intervals.specs.Bounds.{a_short, a_byte, a_boolean, Bounds, a_comparison, a_division, a_shift, a_table}
use Rattle.cjc_intervals.specs.Bounds.{a_lookup, a_count, a_reference_count, a_load, a_store, a_static_field, a_field}
use Rattle.cjc_intervals.specs.Bounds.{an_argument, a_result, a_boolean_element}
use Rattle.cjc_flow.specs.Tests.Working.Search.{tested, lower, kind_rule, part_rule, arguments_rule}
use Rattle.cjc_flow.specs.Tests.Working.Search.{comparison_rule, arithmetic_rule, element_rule, put_rule, lowest_rule}
use Rattle.cjc_flow.specs.Tests.Working.Search.{low_word_rule, value_rule}
use Rattle.cjc_flow.specs.Tests.Breaches.{is_of_low_word, is_tested, lies_in}
use Rattle.cjc_flow.specs.declared.tests.passing.Tested.{Tested}
use Rattle.cjc_flow.specs.declared.tests.passing.Tested.TheVariants as tests

abbrev pub Outside : Span → Span → Type 0
Outside s bound = Within s bound → ⊥

lies_within : (s bound : Span) → lies_in s bound ≡ true → Within s bound
lies_within s bound e = go (int_le bound.low s.low) (int_le s.high bound.high) refl refl e
  where
    go : (a b : Bool) → int_le bound.low s.low ≡ a → int_le s.high bound.high ≡ b → (a && b) ≡ true → Within s bound
    go true true l h k = record { low = grind (arith, ints, l); high = grind (arith, ints, h) }
    go true false l h k = absurd cc
    go false b l h k = absurd cc

within_lies : (s bound : Span) → Within s bound → lies_in s bound ≡ true
within_lies s bound w = go (int_le bound.low s.low) (int_le s.high bound.high) refl refl
  where
    go : (a b : Bool) → int_le bound.low s.low ≡ a → int_le s.high bound.high ≡ b → (a && b) ≡ true
    go true true l h = refl
    go true false l h = let up = w.high in absurd (grind (arith, ints, h, up))
    go false b l h = let down = w.low in absurd (grind (arith, ints, l, down))

-- none of the rules is broken, or this is the lowest that is
abbrev pub IsLowest : (ℕ → Type 0) → Option ℕ → Type 0
IsLowest P None = (r : ℕ) → P r → ⊥
IsLowest P (Some q) = P q × ((r : ℕ) → P r → q ≤ r)

same_rules : (P Q : ℕ → Type 0) (o : Option ℕ) → IsLowest P o → ((r : ℕ) → P r → Q r) → ((r : ℕ) → Q r → P r)
    → IsLowest Q o
same_rules P Q None h f g = λ r q. h r (g r q)
same_rules P Q (Some m) h f g = (f m h.0, λ r q. h.1 r (g r q))

lower_is : (P Q : ℕ → Type 0) (o p : Option ℕ) → IsLowest P o → IsLowest Q p → IsLowest (λ r. P r ⊎ Q r) (lower o p)
lower_is P Q None None h k = λ r e. elim e [ inl x ↦ h r x | inr y ↦ k r y ]
lower_is P Q None (Some q) h k = (inr k.0, λ r e. elim e [ inl x ↦ absurd (h r x) | inr y ↦ k.1 r y ])
lower_is P Q (Some p) None h k = (inl h.0, λ r e. elim e [ inl x ↦ h.1 r x | inr y ↦ absurd (k r y) ])
lower_is P Q (Some p) (Some q) h k = go (leb p q) refl
  where
    go : (b : Bool) → leb p q ≡ b → IsLowest (λ r. P r ⊎ Q r) (cond b (Some p) (Some q))
    go true e = let le = leb-true p q e in (
      inl h.0,
      λ r d. elim d [
        | inl x ↦ h.1 r x
        | inr y ↦ (let lt = k.1 r y
            in omega (arith, le, lt))
      ],
    )
    go false e = let gt = leb-false p q e
        in (inr k.0, λ r d. elim d [ inl x ↦ (let lt = h.1 r x in omega (arith, gt, lt)) | inr y ↦ k.1 r y ])

when_is : (b : Bool) (P : ℕ → Type 0) (o : Option ℕ) → IsLowest P o → IsLowest (λ r. (b ≡ true) × P r) (cond b o None)
when_is true P o h = same_rules P (λ r. (true ≡ true) × P r) o h (λ r p. (refl, p)) (λ r p. p.1)
when_is false P o h = λ r p. (let e : false ≡ true = p.0 in cc)

tested_is : (rule : ℕ) (bound s : Span) → IsLowest (λ r. (r ≡ rule) × Outside s bound) (tested rule bound s)
tested_is rule bound s = go (lies_in s bound) refl
  where
    go : (b : Bool) → lies_in s bound ≡ b → IsLowest (λ r. (r ≡ rule) × Outside s bound) (cond b None (Some rule))
    go true e = λ r h. h.1 (lies_within s bound e)
    go false e = ((refl, λ w. (let yes = within_lies s bound w in cc)), λ r h. (let same = h.0 in omega (arith, same)))

-- ---- values of a type

abbrev PartBroken : Part → Span → ℕ → Type 0
PartBroken p s r = (bound : Span) × IsBoundOf p r bound × Outside s bound

bound_kind : (p : Part) (r : ℕ) (bound : Span) → IsBoundOf p r bound
    → ((p.kind ≡ kinds.Short) × ((r ≡ 607) × (bound ≡ short_range)))
    ⊎ (((p.kind ≡ kinds.Byte) × ((r ≡ 608) × (bound ≡ byte_range))) ⊎ ((p.kind ≡ kinds.Bool)
    × ((r ≡ 609) × (bound ≡ boolean_range))))
bound_kind p _ _ (a_short e) = inl (e, (refl, refl))
bound_kind p _ _ (a_byte e) = inr (inl (e, (refl, refl)))
bound_kind p _ _ (a_boolean e) = inr (inr (e, (refl, refl)))

other_kind : (p : Part) (s : Span) (k : Kind) → p.kind ≡ k → (k ≡ kinds.Short → ⊥) → (k ≡ kinds.Byte → ⊥)
    → (k ≡ kinds.Bool → ⊥) → IsLowest (PartBroken p s) None
other_kind p s k e a b c = λ r h. elim (bound_kind p r h.0 h.1) [
  | inl x ↦ a (sym e ∙ x.0)
  | inr y ↦ elim y [ inl x ↦ b (sym e ∙ x.0) | inr x ↦ c (sym e ∙ x.0) ]
]

pub part_is : (p : Part) (s : Span) → IsLowest (PartBroken p s) (part_rule p s)
part_is p s = go p.kind refl
  where
    go : (k : Kind) → p.kind ≡ k → IsLowest (PartBroken p s) (kind_rule k s)
    go kinds.Short e = same_rules (λ r. (r ≡ 607) × Outside s short_range) (PartBroken p s) (tested 607 short_range s)
        (tested_is 607 short_range s)
        (λ r h. (short_range, subst (λ (q : ℕ). IsBoundOf p q short_range) (sym h.0) (a_short e), h.1))
        (λ r h. elim (bound_kind p r h.0 h.1) [
          | inl x ↦ (x.1.0, subst (Outside s) x.1.1 h.2)
          | inr y ↦ elim y [ inl x ↦ (let f = x.0 in absurd cc) | inr x ↦ (let f = x.0 in absurd cc) ]
        ])
    go kinds.Byte e = same_rules (λ r. (r ≡ 608) × Outside s byte_range) (PartBroken p s) (tested 608 byte_range s)
        (tested_is 608 byte_range s)
        (λ r h. (byte_range, subst (λ (q : ℕ). IsBoundOf p q byte_range) (sym h.0) (a_byte e), h.1))
        (λ r h. elim (bound_kind p r h.0 h.1) [
          | inl x ↦ (let f = x.0 in absurd cc)
          | inr y ↦ elim y [ inl x ↦ (x.1.0, subst (Outside s) x.1.1 h.2) | inr x ↦ (let f = x.0 in absurd cc) ]
        ])
    go kinds.Bool e = same_rules (λ r. (r ≡ 609) × Outside s boolean_range) (PartBroken p s) (tested 609 boolean_range
        s) (tested_is 609 boolean_range s)
        (λ r h. (boolean_range, subst (λ (q : ℕ). IsBoundOf p q boolean_range) (sym h.0) (a_boolean e), h.1))
        (λ r h. elim (bound_kind p r h.0 h.1) [
          | inl x ↦ (let f = x.0 in absurd cc)
          | inr y ↦ elim y [ inl x ↦ (let f = x.0 in absurd cc) | inr x ↦ (x.1.0, subst (Outside s) x.1.1 h.2) ]
        ])
    go kinds.Int e = other_kind p s kinds.Int e (λ f. cc) (λ f. cc) (λ f. cc)
    go kinds.Other e = other_kind p s kinds.Other e (λ f. cc) (λ f. cc) (λ f. cc)
    go kinds.Ref e = other_kind p s kinds.Ref e (λ f. cc) (λ f. cc) (λ f. cc)
    go kinds.Void e = other_kind p s kinds.Void e (λ f. cc) (λ f. cc) (λ f. cc)

abbrev ArgumentBroken : MemberId → (n : ℕ) → List Span → ℕ → Type 0
ArgumentBroken id n s r = (k : ℕ) × (k < n) × PartBroken (parameter id k) (operand s k) r

arguments_are : (id : MemberId) (n : ℕ) (s : List Span) → IsLowest (ArgumentBroken id n s) (arguments_rule id n s)
arguments_are id zero s = λ r h. (let lt = h.1 in omega (arith, lt))
arguments_are id (suc n) s =
    same_rules (λ r. ArgumentBroken id n s r ⊎ PartBroken (parameter id n) (operand s n) r) (ArgumentBroken id (suc n)
    s) (lower (arguments_rule id n s) (part_rule (parameter id n) (operand s n)))
    (lower_is (ArgumentBroken id n s) (PartBroken (parameter id n) (operand s n)) (arguments_rule id n s)
    (part_rule (parameter id n) (operand s n)) (arguments_are id n s) (part_is (parameter id n) (operand s n)))
    (λ r h. elim h [ inl x ↦ (let lt = x.1 in (x.0, omega (arith, lt), x.2)) | inr y ↦ (n, omega arith, y) ])
    (λ r h. elim (cases_lt h.0 n) [
      | inl less ↦ inl (h.0, less, h.2)
      | inr more ↦ (let lt = h.1 in let same : h.0 ≡ n = omega (arith, lt, more)
          in inr (subst (λ (k : ℕ). PartBroken (parameter id k) (operand s k) r) same h.2))
    ])

-- ---- a kind of rules

abbrev Kept : (ℕ → Bool) → (ℕ → Type 0) → ℕ → Type 0
Kept wanted P r = (wanted r ≡ true) × P r

all_kept : (wanted : ℕ → Bool) (P : ℕ → Type 0) (o : Option ℕ) → IsLowest P o → ((r : ℕ) → P r → wanted r ≡ true)
    → IsLowest (Kept wanted P) o
all_kept wanted P o h f = same_rules P (Kept wanted P) o h (λ r p. (f r p, p)) (λ r q. q.1)

none_kept : (wanted : ℕ → Bool) (P : ℕ → Type 0) → ((r : ℕ) → P r → wanted r ≡ false) → IsLowest (Kept wanted P) None
none_kept wanted P f = λ r h. (let fails = f r h.1 in let holds = h.0 in cc)

value_bound : (p : Part) (r : ℕ) (t : Span) → IsBoundOf p r t → is_of_low_word r ≡ false
value_bound p _ _ (a_short e) = refl
value_bound p _ _ (a_byte e) = refl
value_bound p _ _ (a_boolean e) = refl

-- ---- instructions

module _ (b : Body) (types : List Cell) (s : List Span) where
  abbrev pub Broken : JOp → ℕ → Type 0
  Broken op r = (k : ℕ) × (bound : Span) × Bounds b op types r k bound × Outside (operand s k) bound

  single : (op : JOp) (rule j : ℕ) (bound : Span) → Bounds b op types rule j bound → ((r k : ℕ) (t : Span)
      → Bounds b op types r k t → (r ≡ rule) × ((k ≡ j) × (t ≡ bound)))
      → IsLowest (Broken op) (tested rule bound (operand s j))
  single op rule j bound is only =
      same_rules (λ r. (r ≡ rule) × Outside (operand s j) bound) (Broken op) (tested rule bound (operand s j))
      (tested_is rule bound (operand s j))
      (λ r h. (j, bound, subst (λ (q : ℕ). Bounds b op types q j bound) (sym h.0) is, h.1))
      (λ r h. (let o = only r h.0 h.1 h.2 in (
        o.0,
        subst (λ (k : ℕ). Outside (operand s k) bound) o.1.0
            (subst (λ (t : Span). Outside (operand s h.0) t) o.1.1 h.3),
      )))

  of_part : (op : JOp) (p : Part) → ((r : ℕ) (t : Span) → IsBoundOf p r t → Bounds b op types r 0 t)
      → ((r k : ℕ) (t : Span) → Bounds b op types r k t → (k ≡ 0) × IsBoundOf p r t)
      → IsLowest (Broken op) (part_rule p (operand s 0))
  of_part op p is only =
      same_rules (PartBroken p (operand s 0)) (Broken op) (part_rule p (operand s 0)) (part_is p (operand s 0))
      (λ r h. (0, h.0, is r h.0 h.1, h.2))
      (λ r h. (let o = only r h.0 h.1 h.2 in (h.1, o.1, subst (λ (k : ℕ). Outside (operand s k) h.1) o.0 h.3)))

  table_only : (other : ℕ) (low : _) (targets : List ℕ) (r k : ℕ) (t : Span)
      → Bounds b (jop.TableSwitch other low targets) types r k t → (r ≡ 604) × ((k ≡ 0) × (t ≡ short_range))
  table_only other low targets _ _ _ a_table = (refl, (refl, refl))

  lookup_only : (other : ℕ) (cases : _) (r k : ℕ) (t : Span) → Bounds b (jop.LookupSwitch other cases) types r k t
      → (r ≡ 604) × ((k ≡ 0) × (t ≡ short_range))
  lookup_only other cases _ _ _ a_lookup = (refl, (refl, refl))

  count_only : (number r k : ℕ) (t : Span) → Bounds b (jop.NewArray number) types r k t → (r ≡ 605)
      × ((k ≡ 0) × (t ≡ short_range))
  count_only number _ _ _ a_count = (refl, (refl, refl))

  reference_only : (class : List ℕ) (r k : ℕ) (t : Span) → Bounds b (jop.ANewArray class) types r k t → (r ≡ 605)
      × ((k ≡ 0) × (t ≡ short_range))
  reference_only class _ _ _ a_reference_count = (refl, (refl, refl))

  load_only : (opcode r k : ℕ) (t : Span) → Bounds b (jop.ArrayLoad opcode) types r k t → (r ≡ 606)
      × ((k ≡ 0) × (t ≡ index_range))
  load_only opcode _ _ _ a_load = (refl, (refl, refl))

  return_only : (opcode r k : ℕ) (t : Span) → Bounds b (jop.Return opcode) types r k t → (k ≡ 0)
      × IsBoundOf (parts b.desc).result r t
  return_only opcode _ _ _ (a_result is) = (refl, is)

  static_only : (field : MemberId) (r k : ℕ) (t : Span) → Bounds b (jop.Static true field) types r k t → (k ≡ 0)
      × IsBoundOf (parts field.desc).result r t
  static_only field _ _ _ (a_static_field is) = (refl, is)

  field_only : (field : MemberId) (r k : ℕ) (t : Span) → Bounds b (jop.Field true field) types r k t → (k ≡ 0)
      × IsBoundOf (parts field.desc).result r t
  field_only field _ _ _ (a_field is) = (refl, is)

  got_static : (field : MemberId) (r k : ℕ) (t : Span) → Bounds b (jop.Static false field) types r k t → ⊥
  got_static field r k t h = elim h [ ]

  got_field : (field : MemberId) (r k : ℕ) (t : Span) → Bounds b (jop.Field false field) types r k t → ⊥
  got_field field r k t h = elim h [ ]

  call_is : (opcode : ℕ) (id : MemberId)
      → IsLowest (Broken (jop.Call opcode id)) (arguments_rule id (length (parts id.desc).params) s)
  call_is opcode id =
      same_rules (ArgumentBroken id (length (parts id.desc).params) s) (Broken (jop.Call opcode id))
      (arguments_rule id (length (parts id.desc).params) s) (arguments_are id (length (parts id.desc).params) s)
      (λ r h. (h.0, (h.2).0, an_argument h.1 (h.2).1, (h.2).2))
      (λ r h. back r h.0 h.1 h.2 h.3)
    where
      back : (r k : ℕ) (t : Span) → Bounds b (jop.Call opcode id) types r k t → Outside (operand s k) t
          → ArgumentBroken id (length (parts id.desc).params) s r
      back _ k t (an_argument lt is) out = (k, lt, (t, is, out))

  abbrev Low : ℕ → (j : ℕ) → Span → ℕ → Type 0
  Low rule j bound r = (r ≡ rule) × Outside (operand s j) bound

  compare_is : (opcode target : ℕ) → IsLowest (Broken (jop.If opcode target)) (comparison_rule opcode s)
  compare_is opcode target = go (tests_references opcode) refl
    where
      back : (r k : ℕ) (t : Span) → Bounds b (jop.If opcode target) types r k t → (tests_references opcode ≡ false)
          × ((k < takes (jop.If opcode target)) × ((r ≡ 601) × (t ≡ short_range)))
      back _ _ _ (a_comparison e lt) = (e, (lt, (refl, refl)))

      two : (c : Bool) (k : ℕ) → k < cond c 2 1 → (k ≡ 0) ⊎ ((c ≡ true) × (k ≡ 1))
      two true k lt = elim (cases_lt k 1) [
        | inl less ↦ inl (omega (arith, less))
        | inr more ↦ inr (refl, omega (arith, more, lt))
      ]
      two false k lt = inl (omega (arith, lt))

      some : (c : Bool) → 0 < cond c 2 1
      some true = omega arith
      some false = omega arith

      first_of : (c : Bool) → c ≡ true → 1 < cond c 2 1
      first_of true e = omega arith
      first_of false e = absurd cc

      go : (refs : Bool) → tests_references opcode ≡ refs
          → IsLowest (Broken (jop.If opcode target)) (cond refs None (lower (tested 601 short_range (operand s 0))
          (cond (compares opcode) (tested 601 short_range (operand s 1)) None)))
      go true e = λ r h. (let f = (back r h.0 h.1 h.2).0 in cc)
      go false e =
          same_rules (λ r. Low 601 0 short_range r ⊎ ((compares opcode ≡ true) × Low 601 1 short_range r))
          (Broken (jop.If opcode target)) _
          (lower_is (Low 601 0 short_range) (λ r. (compares opcode ≡ true) × Low 601 1 short_range r)
          (tested 601 short_range (operand s 0)) (cond (compares opcode) (tested 601 short_range (operand s 1))
          None)
          (tested_is 601 short_range (operand s 0)) (when_is (compares opcode) (Low 601 1 short_range)
          (tested 601 short_range (operand s 1)) (tested_is 601 short_range (operand s 1))))
          (λ r h. elim h [
            | inl x ↦ (
              0,
              short_range,
              subst (λ (q : ℕ). Bounds b (jop.If opcode target) types q 0 short_range)
                  (sym x.0) (a_comparison e (some (compares opcode))),
              x.1,
            )
            | inr y ↦ (
              1,
              short_range,
              subst (λ (q : ℕ). Bounds b (jop.If opcode target) types q 1 short_range)
                  (sym y.1.0) (a_comparison e (first_of (compares opcode) y.0)),
              y.1.1,
            )
          ])
          (λ r h. (let f = back r h.0 h.1 h.2 in
          let out : Outside (operand s h.0) short_range = subst (λ (t : Span). Outside (operand s h.0) t) f.1.1.1 h.3 in
          elim (two (compares opcode) h.0 f.1.0) [
            | inl is ↦ inl (f.1.1.0, subst (λ (k : ℕ). Outside (operand s k) short_range) is out)
            | inr is ↦ inr (is.0, (f.1.1.0, subst (λ (k : ℕ). Outside (operand s k) short_range) is.1 out))
          ]))

  arith_is : (opcode : ℕ) → IsLowest (Broken (jop.Arith opcode)) (arithmetic_rule opcode s)
  arith_is opcode =
      same_rules (λ r. ((divides opcode ≡ true) × (Low 602 0 short_range r ⊎ Low 602 1 short_range r))
      ⊎ ((shifts_right opcode ≡ true) × Low 603 1 short_range r)) (Broken (jop.Arith opcode)) _
      (lower_is (λ r. (divides opcode ≡ true) × (Low 602 0 short_range r ⊎ Low 602 1 short_range r))
      (λ r. (shifts_right opcode ≡ true) × Low 603 1 short_range r) _ _
      (when_is (divides opcode) (λ r. Low 602 0 short_range r ⊎ Low 602 1 short_range r)
      (lower (tested 602 short_range (operand s 0)) (tested 602 short_range (operand s 1)))
      (lower_is (Low 602 0 short_range) (Low 602 1 short_range) (tested 602 short_range (operand s 0))
      (tested 602 short_range (operand s 1)) (tested_is 602 short_range (operand s 0)) (tested_is 602 short_range
      (operand s 1))))
      (when_is (shifts_right opcode) (Low 603 1 short_range) (tested 603 short_range (operand s 1))
      (tested_is 603 short_range (operand s 1))))
      (λ r h. elim h [
        | inl x ↦ elim x.1 [
          | inl y ↦ (
            0,
            short_range,
            subst (λ (q : ℕ). Bounds b (jop.Arith opcode) types q 0 short_range) (sym y.0)
                (a_division x.0 (omega arith)),
            y.1,
          )
          | inr y ↦ (
            1,
            short_range,
            subst (λ (q : ℕ). Bounds b (jop.Arith opcode) types q 1 short_range) (sym y.0)
                (a_division x.0 (omega arith)),
            y.1,
          )
        ]
        | inr y ↦ (
          1,
          short_range,
          subst (λ (q : ℕ). Bounds b (jop.Arith opcode) types q 1 short_range) (sym y.1.0)
              (a_shift y.0),
          y.1.1,
        )
      ])
      (λ r h. back r h.0 h.1 h.2 h.3)
    where
      two : (k r : ℕ) → r ≡ 602 → k < 2 → Outside (operand s k) short_range → Low 602 0 short_range r
          ⊎ Low 602 1 short_range r
      two k r is lt out = elim (cases_lt k 1) [
        | inl less ↦ (let same : k ≡ 0 = omega (arith, less)
            in inl (is, subst (λ (j : ℕ). Outside (operand s j) short_range) same out))
        | inr more ↦ (let same : k ≡ 1 = omega (arith, more, lt)
            in inr (is, subst (λ (j : ℕ). Outside (operand s j) short_range) same out))
      ]

      back : (r k : ℕ) (t : Span) → Bounds b (jop.Arith opcode) types r k t → Outside (operand s k) t
          → ((divides opcode ≡ true) × (Low 602 0 short_range r ⊎ Low 602 1 short_range r))
          ⊎ ((shifts_right opcode ≡ true) × Low 603 1 short_range r)
      back _ k _ (a_division e lt) out = inl (e, two k 602 refl lt out)
      back _ _ _ (a_shift e) out = inr (e, (refl, out))

  store_only : (opcode r k : ℕ) (t : Span) → Bounds b (jop.ArrayStore opcode) types r k t → Outside (operand s k) t
      → Low 606 1 index_range r ⊎ ((((opcode == 0x54) && may_hold_booleans (typed.operand types 2)) ≡ true)
      × Low 609 0 boolean_range r)
  store_only opcode _ _ _ a_store out = inl (refl, out)
  store_only _ _ _ _ (a_boolean_element h) out = inr (h, (refl, out))

  store_is : (opcode : ℕ) → IsLowest (Broken (jop.ArrayStore opcode)) (lower (tested 606 index_range (operand s 1))
      (element_rule opcode (typed.operand types 2) (operand s 0)))
  store_is opcode =
      same_rules (λ r. Low 606 1 index_range r ⊎ ((((opcode == 0x54) && may_hold_booleans (typed.operand types 2))
      ≡ true) × Low 609 0 boolean_range r)) (Broken (jop.ArrayStore opcode)) _
      (lower_is (Low 606 1 index_range) (λ r. (((opcode == 0x54) && may_hold_booleans (typed.operand types 2)) ≡ true)
      × Low 609 0 boolean_range r) (tested 606 index_range (operand s 1)) _ (tested_is 606 index_range
      (operand s 1))
      (when_is ((opcode == 0x54) && may_hold_booleans (typed.operand types 2)) (Low 609 0 boolean_range)
      (tested 609 boolean_range (operand s 0)) (tested_is 609 boolean_range (operand s 0))))
      (λ r h. elim h [
        | inl x ↦ (
          1,
          index_range,
          subst (λ (q : ℕ). Bounds b (jop.ArrayStore opcode) types q 1 index_range) (sym x.0)
              a_store,
          x.1,
        )
        | inr y ↦ (0, boolean_range, element r y.1.0 (opcode == 0x54) refl y.0, y.1.1)
      ])
      (λ r h. store_only opcode r h.0 h.1 h.2 h.3)
    where
      element : (r : ℕ) → r ≡ 609 → (is : Bool) → (opcode == 0x54) ≡ is
          → (is && may_hold_booleans (typed.operand types 2)) ≡ true
          → Bounds b (jop.ArrayStore opcode) types r 0 boolean_range
      element r is_r true e h = subst (λ (o : ℕ). Bounds b (jop.ArrayStore o) types r 0 boolean_range)
          (sym (eqb-true opcode 0x54 e)) (subst (λ (q : ℕ). Bounds b (jop.ArrayStore 0x54) types q 0 boolean_range)
          (sym is_r) (a_boolean_element h))
      element r is_r false e h = absurd cc

  static_is : (put : Bool) (field : MemberId) → IsLowest (Broken (jop.Static put field)) (put_rule put field s)
  static_is true field = of_part (jop.Static true field) (parts field.desc).result (λ r t is. a_static_field is)
      (static_only field)
  static_is false field = λ r h. got_static field r h.0 h.1 h.2

  field_is : (put : Bool) (field : MemberId) → IsLowest (Broken (jop.Field put field)) (put_rule put field s)
  field_is true field = of_part (jop.Field true field) (parts field.desc).result (λ r t is. a_field is)
      (field_only field)
  field_is false field = λ r h. got_field field r h.0 h.1 h.2

  -- ---- rules of one kind

  abbrev Breaks : JOp → ℕ → Type 0
  Breaks op r = Broken op r

  if_low : (opcode target r k : ℕ) (t : Span) → Bounds b (jop.If opcode target) types r k t → is_of_low_word r ≡ true
  if_low opcode target _ _ _ (a_comparison e lt) = refl

  arith_low : (opcode r k : ℕ) (t : Span) → Bounds b (jop.Arith opcode) types r k t → is_of_low_word r ≡ true
  arith_low opcode _ _ _ (a_division e lt) = refl
  arith_low opcode _ _ _ (a_shift e) = refl

  table_low : (other : ℕ) (low : _) (targets : List ℕ) (r k : ℕ) (t : Span)
      → Bounds b (jop.TableSwitch other low targets) types r k t → is_of_low_word r ≡ true
  table_low other low targets _ _ _ a_table = refl

  lookup_low : (other : ℕ) (cases : _) (r k : ℕ) (t : Span) → Bounds b (jop.LookupSwitch other cases) types r k t
      → is_of_low_word r ≡ true
  lookup_low other cases _ _ _ a_lookup = refl

  load_low : (opcode r k : ℕ) (t : Span) → Bounds b (jop.ArrayLoad opcode) types r k t → is_of_low_word r ≡ true
  load_low opcode _ _ _ a_load = refl

  count_value : (number r k : ℕ) (t : Span) → Bounds b (jop.NewArray number) types r k t → is_of_low_word r ≡ false
  count_value number _ _ _ a_count = refl

  reference_value : (class : List ℕ) (r k : ℕ) (t : Span) → Bounds b (jop.ANewArray class) types r k t
      → is_of_low_word r ≡ false
  reference_value class _ _ _ a_reference_count = refl

  static_value : (put : Bool) (field : _) (r k : ℕ) (t : Span) → Bounds b (jop.Static put field) types r k t
      → is_of_low_word r ≡ false
  static_value put field r _ t (a_static_field is) = value_bound _ r t is

  field_value : (put : Bool) (field : _) (r k : ℕ) (t : Span) → Bounds b (jop.Field put field) types r k t
      → is_of_low_word r ≡ false
  field_value put field r _ t (a_field is) = value_bound _ r t is

  call_value : (opcode : ℕ) (id : _) (r k : ℕ) (t : Span) → Bounds b (jop.Call opcode id) types r k t
      → is_of_low_word r ≡ false
  call_value opcode id r _ t (an_argument lt is) = value_bound _ r t is

  return_value : (opcode r k : ℕ) (t : Span) → Bounds b (jop.Return opcode) types r k t → is_of_low_word r ≡ false
  return_value opcode r _ t (a_result is) = value_bound _ r t is

  -- ---- the store of an element has one rule of each kind

  store_low : (opcode r k : ℕ) (t : Span) → Bounds b (jop.ArrayStore opcode) types r k t → is_of_low_word r ≡ true
      → (r ≡ 606) × ((k ≡ 1) × (t ≡ index_range))
  store_low opcode _ _ _ a_store holds = (refl, (refl, refl))
  store_low _ _ _ _ (a_boolean_element h) holds = absurd cc

  store_value : (opcode r k : ℕ) (t : Span) → Bounds b (jop.ArrayStore opcode) types r k t → is_of_low_word r ≡ false
      → (((opcode == 0x54) && may_hold_booleans (typed.operand types 2)) ≡ true)
      × ((r ≡ 609) × ((k ≡ 0) × (t ≡ boolean_range)))
  store_value opcode _ _ _ a_store fails = absurd cc
  store_value _ _ _ _ (a_boolean_element h) fails = (h, (refl, (refl, refl)))

  index_is : (opcode : ℕ) → IsLowest (Kept is_of_low_word (Breaks (jop.ArrayStore opcode))) (tested 606 index_range
      (operand s 1))
  index_is opcode =
      same_rules (Low 606 1 index_range) (Kept is_of_low_word (Breaks (jop.ArrayStore opcode))) _
      (tested_is 606 index_range (operand s 1))
      (λ r h. (
        subst (λ (q : ℕ). is_of_low_word q ≡ true) (sym h.0) refl,
        (
          1,
          index_range,
          subst (λ (q : ℕ). Bounds b (jop.ArrayStore opcode) types q 1 index_range) (sym h.0) a_store,
          h.1,
        ),
      ))
      (λ r h. (let broken = h.1 in let is = store_low opcode r broken.0 broken.1 broken.2 h.0 in (
        is.0,
        subst (λ (k : ℕ). Outside (operand s k) index_range) is.1.0
            (subst (λ (t : Span). Outside (operand s broken.0) t) is.1.1 broken.3),
      )))

  not_low : (r : ℕ) → not (is_of_low_word r) ≡ true → is_of_low_word r ≡ false
  not_low r e = go (is_of_low_word r) e
    where
      go : (l : Bool) → not l ≡ true → l ≡ false
      go true e = absurd cc
      go false e = refl

  abbrev is_value : ℕ → Bool
  is_value r = not (is_of_low_word r)

  element : (opcode r : ℕ) → r ≡ 609 → (is : Bool) → (opcode == 0x54) ≡ is
      → (is && may_hold_booleans (typed.operand types 2)) ≡ true
      → Bounds b (jop.ArrayStore opcode) types r 0 boolean_range
  element opcode r is_r true e h = subst (λ (o : ℕ). Bounds b (jop.ArrayStore o) types r 0 boolean_range)
      (sym (eqb-true opcode 0x54 e)) (subst (λ (q : ℕ). Bounds b (jop.ArrayStore 0x54) types q 0 boolean_range)
      (sym is_r) (a_boolean_element h))
  element opcode r is_r false e h = absurd cc

  boolean_is : (opcode : ℕ) → IsLowest (Kept is_value (Breaks (jop.ArrayStore opcode))) (element_rule opcode
      (typed.operand types 2) (operand s 0))
  boolean_is opcode =
      same_rules (λ r. (((opcode == 0x54) && may_hold_booleans (typed.operand types 2)) ≡ true)
      × Low 609 0 boolean_range r) (Kept is_value (Breaks (jop.ArrayStore opcode))) _
      (when_is ((opcode == 0x54) && may_hold_booleans (typed.operand types 2)) (Low 609 0 boolean_range)
      (tested 609 boolean_range (operand s 0)) (tested_is 609 boolean_range (operand s 0)))
      (λ r h. (let at = h.1 in (
        subst (λ (q : ℕ). is_value q ≡ true) (sym at.0) refl,
        (0, boolean_range, element opcode r at.0 (opcode == 0x54) refl h.0, at.1),
      )))
      (λ r h. (let broken = h.1 in
      let is = store_value opcode r broken.0 broken.1 broken.2 (not_low r h.0) in (
        is.0,
        (
          is.1.0,
          subst (λ (k : ℕ). Outside (operand s k) boolean_range) is.1.1.0
              (subst (λ (t : Span). Outside (operand s broken.0) t) is.1.1.1 broken.3),
        ),
      )))

  -- ---- each instruction

  abbrev IsLow : JOp → Type 0
  IsLow op = IsLowest (Kept is_of_low_word (Breaks op)) (low_word_rule op s)

  low : (op : JOp) → ((r k : ℕ) (t : Span) → Bounds b op types r k t → is_of_low_word r ≡ true)
      → (o : Option ℕ) → IsLowest (Breaks op) o → IsLowest (Kept is_of_low_word (Breaks op)) o
  low op f o h = all_kept is_of_low_word (Breaks op) o h (λ r p. f r p.0 p.1 p.2)

  not_of_low : (op : JOp) → ((r k : ℕ) (t : Span) → Bounds b op types r k t → is_of_low_word r ≡ false)
      → IsLowest (Kept is_of_low_word (Breaks op)) None
  not_of_low op f = none_kept is_of_low_word (Breaks op) (λ r p. f r p.0 p.1 p.2)

  lowest_low : (op : JOp) → IsLow op
  lowest_low (jop.If opcode target) = low (jop.If opcode target) (if_low opcode target) _
      (compare_is opcode target)
  lowest_low (jop.Arith opcode) = low (jop.Arith opcode) (arith_low opcode) _ (arith_is opcode)
  lowest_low (jop.TableSwitch other lo targets) = low (jop.TableSwitch other lo targets) (table_low other lo targets) _
      (single (jop.TableSwitch other lo targets) 604 0 short_range a_table (table_only other lo targets))
  lowest_low (jop.LookupSwitch other cases) = low (jop.LookupSwitch other cases) (lookup_low other cases) _
      (single (jop.LookupSwitch other cases) 604 0 short_range a_lookup (lookup_only other cases))
  lowest_low (jop.ArrayLoad opcode) = low (jop.ArrayLoad opcode) (load_low opcode) _
      (single (jop.ArrayLoad opcode) 606 0 index_range a_load (load_only opcode))
  lowest_low (jop.ArrayStore opcode) = index_is opcode
  lowest_low (jop.NewArray number) = not_of_low (jop.NewArray number) (count_value number)
  lowest_low (jop.ANewArray class) = not_of_low (jop.ANewArray class) (reference_value class)
  lowest_low (jop.Static put field) = not_of_low (jop.Static put field) (static_value put field)
  lowest_low (jop.Field put field) = not_of_low (jop.Field put field) (field_value put field)
  lowest_low (jop.Call opcode id) = not_of_low (jop.Call opcode id) (call_value opcode id)
  lowest_low (jop.Return opcode) = not_of_low (jop.Return opcode) (return_value opcode)
  lowest_low jop.Nop = λ r h. elim h.1.2 [ ]
  lowest_low jop.Null = λ r h. elim h.1.2 [ ]
  lowest_low (jop.Number z) = λ r h. elim h.1.2 [ ]
  lowest_low (jop.Load refs k) = λ r h. elim h.1.2 [ ]
  lowest_low (jop.Store refs k) = λ r h. elim h.1.2 [ ]
  lowest_low (jop.Stack opcode) = λ r h. elim h.1.2 [ ]
  lowest_low (jop.Inc k by) = λ r h. elim h.1.2 [ ]
  lowest_low (jop.Narrow opcode) = λ r h. elim h.1.2 [ ]
  lowest_low (jop.Goto target) = λ r h. elim h.1.2 [ ]
  lowest_low (jop.New class) = λ r h. elim h.1.2 [ ]
  lowest_low jop.ArrayLength = λ r h. elim h.1.2 [ ]
  lowest_low jop.Throw = λ r h. elim h.1.2 [ ]
  lowest_low (jop.CheckCast class) = λ r h. elim h.1.2 [ ]
  lowest_low (jop.InstanceOf class) = λ r h. elim h.1.2 [ ]

  abbrev IsValue : JOp → Type 0
  IsValue op = IsLowest (Kept is_value (Breaks op)) (value_rule b op types s)

  value : (op : JOp) → ((r k : ℕ) (t : Span) → Bounds b op types r k t → is_of_low_word r ≡ false)
      → (o : Option ℕ) → IsLowest (Breaks op) o → IsLowest (Kept is_value (Breaks op)) o
  value op f o h = all_kept is_value (Breaks op) o h (λ r p. ap not (f r p.0 p.1 p.2))

  not_of_value : (op : JOp) → ((r k : ℕ) (t : Span) → Bounds b op types r k t → is_of_low_word r ≡ true)
      → IsLowest (Kept is_value (Breaks op)) None
  not_of_value op f = none_kept is_value (Breaks op) (λ r p. ap not (f r p.0 p.1 p.2))

  lowest_value : (op : JOp) → IsValue op
  lowest_value (jop.If opcode target) = not_of_value (jop.If opcode target) (if_low opcode target)
  lowest_value (jop.Arith opcode) = not_of_value (jop.Arith opcode) (arith_low opcode)
  lowest_value (jop.TableSwitch other lo targets) = not_of_value (jop.TableSwitch other lo targets) (table_low other lo
      targets)
  lowest_value (jop.LookupSwitch other cases) = not_of_value (jop.LookupSwitch other cases) (lookup_low other cases)
  lowest_value (jop.ArrayLoad opcode) = not_of_value (jop.ArrayLoad opcode) (load_low opcode)
  lowest_value (jop.ArrayStore opcode) = boolean_is opcode
  lowest_value (jop.NewArray number) = value (jop.NewArray number) (count_value number) _
      (single (jop.NewArray number) 605 0 short_range a_count (count_only number))
  lowest_value (jop.ANewArray class) = value (jop.ANewArray class) (reference_value class) _
      (single (jop.ANewArray class) 605 0 short_range a_reference_count (reference_only class))
  lowest_value (jop.Static put field) = value (jop.Static put field) (static_value put field) _
      (static_is put field)
  lowest_value (jop.Field put field) = value (jop.Field put field) (field_value put field) _
      (field_is put field)
  lowest_value (jop.Call opcode id) = value (jop.Call opcode id) (call_value opcode id) _
      (call_is opcode id)
  lowest_value (jop.Return opcode) = value (jop.Return opcode) (return_value opcode) _
      (of_part (jop.Return opcode) (parts b.desc).result (λ r t is. a_result is) (return_only opcode))
  lowest_value jop.Nop = λ r h. elim h.1.2 [ ]
  lowest_value jop.Null = λ r h. elim h.1.2 [ ]
  lowest_value (jop.Number z) = λ r h. elim h.1.2 [ ]
  lowest_value (jop.Load refs k) = λ r h. elim h.1.2 [ ]
  lowest_value (jop.Store refs k) = λ r h. elim h.1.2 [ ]
  lowest_value (jop.Stack opcode) = λ r h. elim h.1.2 [ ]
  lowest_value (jop.Inc k by) = λ r h. elim h.1.2 [ ]
  lowest_value (jop.Narrow opcode) = λ r h. elim h.1.2 [ ]
  lowest_value (jop.Goto target) = λ r h. elim h.1.2 [ ]
  lowest_value (jop.New class) = λ r h. elim h.1.2 [ ]
  lowest_value jop.ArrayLength = λ r h. elim h.1.2 [ ]
  lowest_value jop.Throw = λ r h. elim h.1.2 [ ]
  lowest_value (jop.CheckCast class) = λ r h. elim h.1.2 [ ]
  lowest_value (jop.InstanceOf class) = λ r h. elim h.1.2 [ ]

  all_is : (op : JOp) → IsLowest (Kept (λ r. true) (Breaks op)) (lower (low_word_rule op s) (value_rule b op types s))
  all_is op = same_rules (λ r. Kept is_of_low_word (Breaks op) r ⊎ Kept is_value (Breaks op) r)
      (Kept (λ r. true) (Breaks op)) _
      (lower_is (Kept is_of_low_word (Breaks op)) (Kept is_value (Breaks op)) _ _ (lowest_low op) (lowest_value op))
      (λ r h. elim h [ inl x ↦ (refl, x.1) | inr y ↦ (refl, y.1) ])
      (λ r h. by_kind r (is_of_low_word r) refl h.1)
    where
      by_kind : (r : ℕ) (low : Bool) → is_of_low_word r ≡ low → Breaks op r
          → Kept is_of_low_word (Breaks op) r ⊎ Kept is_value (Breaks op) r
      by_kind r true e h = inl (e, h)
      by_kind r false e h = inr (ap not e, h)

  -- The rule of the tested kind that is found is broken, and the lowest of its kind.
  pub lowest_of : (which : Tested) (op : JOp) → IsLowest (λ r. (is_tested which r ≡ true) × Broken op r)
      (lowest_rule which b op types s)
  lowest_of tests.All op = all_is op
  lowest_of tests.LowWords op = lowest_low op
  lowest_of tests.Values op = lowest_value op

-- ---- arguments

argument_kind : (d : Parts) (i : ℕ) → i < length d.params → (part_at d i) ≡ get_or d.params i d.result
argument_kind d i lt = get_or_append_left d.params (d.result ∷ []) d.result i lt

pub argument_step : (id : MemberId) (d : Parts) (n k : ℕ) (s : List Span) (x : Span) (kind : Kind) (rule before after :
    Option ℕ) → d ≡ parts id.desc → n ≡ length d.params → k < n → before ≡ arguments_rule id k s → x ≡ operand s k
    → kind ≡ (part_at d (n - 1 - k)).kind → rule ≡ kind_rule kind x → after ≡ lower before rule
    → after ≡ arguments_rule id (k + 1) s
argument_step id d n k s x kind rule before after is_d is_n lt was is_x is_kind is_rule now =
    let inside : n - 1 - k < length d.params = omega (arith, is_n, lt) in
    let same : part_at d (n - 1 - k) ≡ parameter id k =
    argument_kind d (n - 1 - k) inside ∙ ap (λ (m : ℕ). get_or d.params (m - 1 - k) d.result) is_n
    ∙ ap (λ (e : Parts). get_or e.params (length e.params - 1 - k) e.result) is_d in
    let next : suc k ≡ k + 1 = omega arith in
    subst (λ (m : ℕ). after ≡ arguments_rule id m s) next
    (now ∙ ap (λ (o : Option ℕ). lower o rule) was
    ∙ ap (λ (o : Option ℕ). lower (arguments_rule id k s) o) (is_rule ∙ ap (λ (v : Kind). kind_rule v x) (is_kind
    ∙ ap (λ (p : Part). p.kind) same) ∙ ap (kind_rule (parameter id k).kind) is_x))
