-- The lowest rule of one kind that is found is the lowest of that kind that is broken.
use Rattle.std.proofs.Common.{◌≡◌, ◌&&◌, ◌==◌, ℕ, Bool, true, false, cond, List, Option, Some, None, refl, sym, ap}
use Rattle.std.proofs.Common.{subst, arith, int_le}
use Rattle.std.specs.Prelude.{not}
use Rattle.std.proofs.lemmas.Bool.{eqb-true}
use Rattle.std.proofs.lemmas.Int.{ints}
use Rattle.cjc_range.specs.Span.{Span, Within}
use Rattle.cjc_bytes.specs.Descriptor.{Part}
use Rattle.cjc_flow.specs.Types.Bytecode.declared.insn.JOp.{JOp}
use Rattle.cjc_flow.specs.Types.Bytecode.declared.insn.JOp.TheVariants as jop
use Rattle.cjc_flow.specs.Types.declared.cell.Cell.{Cell}
use Rattle.cjc_flow.specs.Types.Flow.{Body}
use Rattle.cjc_flow.specs.Types.Steps as typed
use Rattle.cjc_flow.specs.Intervals.Steps.{operand}
use Rattle.cjc_flow.specs.Intervals.Values.{boolean_range}
use Rattle.cjc_flow.specs.Intervals.Bounds.{index_range, may_hold_booleans, IsBoundOf, a_short, a_byte, a_boolean}
use Rattle.cjc_flow.specs.Intervals.Bounds.{Bounds, a_comparison, a_division, a_shift, a_table, a_lookup, a_count}
use Rattle.cjc_flow.specs.Intervals.Bounds.{a_reference_count, a_load, a_store, a_static_field, a_field, an_argument}
use Rattle.cjc_flow.specs.Intervals.Bounds.{a_result, a_boolean_element}
use Rattle.cjc_flow.specs.Tests.Working.Search.{lies_in, tested, element_rule}
use Rattle.cjc_flow.proofs.TestsLaws.Lowest.{IsLowest, Outside, Broken, lowest_is}
use Rattle.cjc_int_mode.specs.declared.search.Tested.{Tested}
use Rattle.cjc_int_mode.specs.declared.search.Tested.TheVariants as kinds
use Rattle.cjc_int_mode.specs.Modes.{is_of_low_word}
use Rattle.cjc_int_mode.specs.Working.Search.{is_tested, low_word_rule, value_rule, lowest_rule}

-- ---- one bound

lies_within : (s bound : Span) → lies_in s bound ≡ true → Within s bound
lies_within s bound e = go (int_le bound.low s.low) (int_le s.high bound.high) refl refl e
  where
    go : (a b : Bool) → int_le bound.low s.low ≡ a → int_le s.high bound.high ≡ b → (a && b) ≡ true → Within s bound
    go true true l h k = record { low = grind (arith, ints, l); high = grind (arith, ints, h) }
    go true false l h k = absurd cc
    go false b l h k = absurd cc

within_lies : (s bound : Span) → Within s bound → lies_in s bound ≡ true
within_lies s bound w = go (int_le bound.low s.low) (int_le s.high bound.high) refl refl
  where
    go : (a b : Bool) → int_le bound.low s.low ≡ a → int_le s.high bound.high ≡ b → (a && b) ≡ true
    go true true l h = refl
    go true false l h = let up = w.high in absurd (grind (arith, ints, h, up))
    go false b l h = let down = w.low in absurd (grind (arith, ints, l, down))

same_rules : (P Q : ℕ → Type 0) (o : Option ℕ) → IsLowest P o → ((r : ℕ) → P r → Q r) → ((r : ℕ) → Q r → P r)
    → IsLowest Q o
same_rules P Q None h f g = λ r q. h r (g r q)
same_rules P Q (Some m) h f g = (f m h.0, λ r q. h.1 r (g r q))

when_is : (b : Bool) (P : ℕ → Type 0) (o : Option ℕ) → IsLowest P o → IsLowest (λ r. (b ≡ true) × P r) (cond b o None)
when_is true P o h = same_rules P (λ r. (true ≡ true) × P r) o h (λ r p. (refl, p)) (λ r p. p.1)
when_is false P o h = λ r p. (let e : false ≡ true = p.0 in cc)

tested_is : (rule : ℕ) (bound s : Span) → IsLowest (λ r. (r ≡ rule) × Outside s bound) (tested rule bound s)
tested_is rule bound s = go (lies_in s bound) refl
  where
    go : (b : Bool) → lies_in s bound ≡ b → IsLowest (λ r. (r ≡ rule) × Outside s bound) (cond b None (Some rule))
    go true e = λ r h. h.1 (lies_within s bound e)
    go false e = (
      (refl, λ w. (let holds = within_lies s bound w in cc)),
      λ r h. (let same = h.0 in omega
          (arith, same)),
    )

-- ---- a kind of rules

abbrev Kept : (ℕ → Bool) → (ℕ → Type 0) → ℕ → Type 0
Kept wanted P r = (wanted r ≡ true) × P r

all_kept : (wanted : ℕ → Bool) (P : ℕ → Type 0) (o : Option ℕ) → IsLowest P o → ((r : ℕ) → P r → wanted r ≡ true)
    → IsLowest (Kept wanted P) o
all_kept wanted P o h f = same_rules P (Kept wanted P) o h (λ r p. (f r p, p)) (λ r q. q.1)

none_kept : (wanted : ℕ → Bool) (P : ℕ → Type 0) → ((r : ℕ) → P r → wanted r ≡ false) → IsLowest (Kept wanted P) None
none_kept wanted P f = λ r h. (let fails = f r h.1 in let holds = h.0 in cc)

value_bound : (p : Part) (r : ℕ) (t : Span) → IsBoundOf p r t → is_of_low_word r ≡ false
value_bound p _ _ (a_short e) = refl
value_bound p _ _ (a_byte e) = refl
value_bound p _ _ (a_boolean e) = refl

module _ (b : Body) (types : List Cell) (s : List Span) where
  abbrev Breaks : JOp → ℕ → Type 0
  Breaks op r = Broken b types s op r

  if_low : (opcode target r k : ℕ) (t : Span) → Bounds b (jop.If opcode target) types r k t → is_of_low_word r ≡ true
  if_low opcode target _ _ _ (a_comparison e lt) = refl

  arith_low : (opcode r k : ℕ) (t : Span) → Bounds b (jop.Arith opcode) types r k t → is_of_low_word r ≡ true
  arith_low opcode _ _ _ (a_division e lt) = refl
  arith_low opcode _ _ _ (a_shift e) = refl

  table_low : (other : ℕ) (low : _) (targets : List ℕ) (r k : ℕ) (t : Span)
      → Bounds b (jop.TableSwitch other low targets) types r k t → is_of_low_word r ≡ true
  table_low other low targets _ _ _ a_table = refl

  lookup_low : (other : ℕ) (cases : _) (r k : ℕ) (t : Span) → Bounds b (jop.LookupSwitch other cases) types r k t
      → is_of_low_word r ≡ true
  lookup_low other cases _ _ _ a_lookup = refl

  load_low : (opcode r k : ℕ) (t : Span) → Bounds b (jop.ArrayLoad opcode) types r k t → is_of_low_word r ≡ true
  load_low opcode _ _ _ a_load = refl

  count_value : (number r k : ℕ) (t : Span) → Bounds b (jop.NewArray number) types r k t → is_of_low_word r ≡ false
  count_value number _ _ _ a_count = refl

  reference_value : (class : List ℕ) (r k : ℕ) (t : Span) → Bounds b (jop.ANewArray class) types r k t
      → is_of_low_word r ≡ false
  reference_value class _ _ _ a_reference_count = refl

  static_value : (put : Bool) (field : _) (r k : ℕ) (t : Span) → Bounds b (jop.Static put field) types r k t
      → is_of_low_word r ≡ false
  static_value put field r _ t (a_static_field is) = value_bound _ r t is

  field_value : (put : Bool) (field : _) (r k : ℕ) (t : Span) → Bounds b (jop.Field put field) types r k t
      → is_of_low_word r ≡ false
  field_value put field r _ t (a_field is) = value_bound _ r t is

  call_value : (opcode : ℕ) (id : _) (r k : ℕ) (t : Span) → Bounds b (jop.Call opcode id) types r k t
      → is_of_low_word r ≡ false
  call_value opcode id r _ t (an_argument lt is) = value_bound _ r t is

  return_value : (opcode r k : ℕ) (t : Span) → Bounds b (jop.Return opcode) types r k t → is_of_low_word r ≡ false
  return_value opcode r _ t (a_result is) = value_bound _ r t is

  -- ---- the store of an element has one rule of each kind

  store_low : (opcode r k : ℕ) (t : Span) → Bounds b (jop.ArrayStore opcode) types r k t → is_of_low_word r ≡ true
      → (r ≡ 606) × ((k ≡ 1) × (t ≡ index_range))
  store_low opcode _ _ _ a_store holds = (refl, (refl, refl))
  store_low _ _ _ _ (a_boolean_element h) holds = absurd cc

  store_value : (opcode r k : ℕ) (t : Span) → Bounds b (jop.ArrayStore opcode) types r k t → is_of_low_word r ≡ false
      → (((opcode == 0x54) && may_hold_booleans (typed.operand types 2)) ≡ true)
      × ((r ≡ 609) × ((k ≡ 0) × (t ≡ boolean_range)))
  store_value opcode _ _ _ a_store fails = absurd cc
  store_value _ _ _ _ (a_boolean_element h) fails = (h, (refl, (refl, refl)))

  abbrev Low : ℕ → (j : ℕ) → Span → ℕ → Type 0
  Low rule j bound r = (r ≡ rule) × Outside (operand s j) bound

  index_is : (opcode : ℕ) → IsLowest (Kept is_of_low_word (Breaks (jop.ArrayStore opcode))) (tested 606 index_range
      (operand s 1))
  index_is opcode =
      same_rules (Low 606 1 index_range) (Kept is_of_low_word (Breaks (jop.ArrayStore opcode))) _
      (tested_is 606 index_range (operand s 1))
      (λ r h. (
        subst (λ (q : ℕ). is_of_low_word q ≡ true) (sym h.0) refl,
        (
          1,
          index_range,
          subst (λ (q : ℕ). Bounds b (jop.ArrayStore opcode) types q 1 index_range) (sym h.0) a_store,
          h.1,
        ),
      ))
      (λ r h. (let broken = h.1 in let is = store_low opcode r broken.0 broken.1 broken.2 h.0 in (
        is.0,
        subst (λ (k : ℕ). Outside (operand s k) index_range) is.1.0
            (subst (λ (t : Span). Outside (operand s broken.0) t) is.1.1 broken.3),
      )))

  not_low : (r : ℕ) → not (is_of_low_word r) ≡ true → is_of_low_word r ≡ false
  not_low r e = go (is_of_low_word r) e
    where
      go : (l : Bool) → not l ≡ true → l ≡ false
      go true e = absurd cc
      go false e = refl

  abbrev is_value : ℕ → Bool
  is_value r = not (is_of_low_word r)

  element : (opcode r : ℕ) → r ≡ 609 → (is : Bool) → (opcode == 0x54) ≡ is
      → (is && may_hold_booleans (typed.operand types 2)) ≡ true
      → Bounds b (jop.ArrayStore opcode) types r 0 boolean_range
  element opcode r is_r true e h = subst (λ (o : ℕ). Bounds b (jop.ArrayStore o) types r 0 boolean_range)
      (sym (eqb-true opcode 0x54 e)) (subst (λ (q : ℕ). Bounds b (jop.ArrayStore 0x54) types q 0 boolean_range)
      (sym is_r) (a_boolean_element h))
  element opcode r is_r false e h = absurd cc

  boolean_is : (opcode : ℕ) → IsLowest (Kept is_value (Breaks (jop.ArrayStore opcode))) (element_rule opcode
      (typed.operand types 2) (operand s 0))
  boolean_is opcode =
      same_rules (λ r. (((opcode == 0x54) && may_hold_booleans (typed.operand types 2)) ≡ true)
      × Low 609 0 boolean_range r) (Kept is_value (Breaks (jop.ArrayStore opcode))) _
      (when_is ((opcode == 0x54) && may_hold_booleans (typed.operand types 2)) (Low 609 0 boolean_range)
      (tested 609 boolean_range (operand s 0)) (tested_is 609 boolean_range (operand s 0)))
      (λ r h. (let at = h.1 in (
        subst (λ (q : ℕ). is_value q ≡ true) (sym at.0) refl,
        (0, boolean_range, element opcode r at.0 (opcode == 0x54) refl h.0, at.1),
      )))
      (λ r h. (let broken = h.1 in
      let is = store_value opcode r broken.0 broken.1 broken.2 (not_low r h.0) in (
        is.0,
        (
          is.1.0,
          subst (λ (k : ℕ). Outside (operand s k) boolean_range) is.1.1.0
              (subst (λ (t : Span). Outside (operand s broken.0) t) is.1.1.1 broken.3),
        ),
      )))

  -- ---- each instruction

  abbrev IsLow : JOp → Type 0
  IsLow op = IsLowest (Kept is_of_low_word (Breaks op)) (low_word_rule op s)

  low : (op : JOp) → ((r k : ℕ) (t : Span) → Bounds b op types r k t → is_of_low_word r ≡ true)
      → (o : Option ℕ) → IsLowest (Breaks op) o → IsLowest (Kept is_of_low_word (Breaks op)) o
  low op f o h = all_kept is_of_low_word (Breaks op) o h (λ r p. f r p.0 p.1 p.2)

  not_of_low : (op : JOp) → ((r k : ℕ) (t : Span) → Bounds b op types r k t → is_of_low_word r ≡ false)
      → IsLowest (Kept is_of_low_word (Breaks op)) None
  not_of_low op f = none_kept is_of_low_word (Breaks op) (λ r p. f r p.0 p.1 p.2)

  lowest_low : (op : JOp) → IsLow op
  lowest_low (jop.If opcode target) = low (jop.If opcode target) (if_low opcode target) _
      (lowest_is b types s (jop.If opcode target))
  lowest_low (jop.Arith opcode) = low (jop.Arith opcode) (arith_low opcode) _ (lowest_is b types s (jop.Arith opcode))
  lowest_low (jop.TableSwitch other lo targets) = low (jop.TableSwitch other lo targets) (table_low other lo targets) _
      (lowest_is b types s (jop.TableSwitch other lo targets))
  lowest_low (jop.LookupSwitch other cases) = low (jop.LookupSwitch other cases) (lookup_low other cases) _
      (lowest_is b types s (jop.LookupSwitch other cases))
  lowest_low (jop.ArrayLoad opcode) = low (jop.ArrayLoad opcode) (load_low opcode) _
      (lowest_is b types s (jop.ArrayLoad opcode))
  lowest_low (jop.ArrayStore opcode) = index_is opcode
  lowest_low (jop.NewArray number) = not_of_low (jop.NewArray number) (count_value number)
  lowest_low (jop.ANewArray class) = not_of_low (jop.ANewArray class) (reference_value class)
  lowest_low (jop.Static put field) = not_of_low (jop.Static put field) (static_value put field)
  lowest_low (jop.Field put field) = not_of_low (jop.Field put field) (field_value put field)
  lowest_low (jop.Call opcode id) = not_of_low (jop.Call opcode id) (call_value opcode id)
  lowest_low (jop.Return opcode) = not_of_low (jop.Return opcode) (return_value opcode)
  lowest_low jop.Nop = λ r h. elim h.1.2 [ ]
  lowest_low jop.Null = λ r h. elim h.1.2 [ ]
  lowest_low (jop.Number z) = λ r h. elim h.1.2 [ ]
  lowest_low (jop.Load refs k) = λ r h. elim h.1.2 [ ]
  lowest_low (jop.Store refs k) = λ r h. elim h.1.2 [ ]
  lowest_low (jop.Stack opcode) = λ r h. elim h.1.2 [ ]
  lowest_low (jop.Inc k by) = λ r h. elim h.1.2 [ ]
  lowest_low (jop.Narrow opcode) = λ r h. elim h.1.2 [ ]
  lowest_low (jop.Goto target) = λ r h. elim h.1.2 [ ]
  lowest_low (jop.New class) = λ r h. elim h.1.2 [ ]
  lowest_low jop.ArrayLength = λ r h. elim h.1.2 [ ]
  lowest_low jop.Throw = λ r h. elim h.1.2 [ ]
  lowest_low (jop.CheckCast class) = λ r h. elim h.1.2 [ ]
  lowest_low (jop.InstanceOf class) = λ r h. elim h.1.2 [ ]

  abbrev IsValue : JOp → Type 0
  IsValue op = IsLowest (Kept is_value (Breaks op)) (value_rule b op types s)

  value : (op : JOp) → ((r k : ℕ) (t : Span) → Bounds b op types r k t → is_of_low_word r ≡ false)
      → (o : Option ℕ) → IsLowest (Breaks op) o → IsLowest (Kept is_value (Breaks op)) o
  value op f o h = all_kept is_value (Breaks op) o h (λ r p. ap not (f r p.0 p.1 p.2))

  not_of_value : (op : JOp) → ((r k : ℕ) (t : Span) → Bounds b op types r k t → is_of_low_word r ≡ true)
      → IsLowest (Kept is_value (Breaks op)) None
  not_of_value op f = none_kept is_value (Breaks op) (λ r p. ap not (f r p.0 p.1 p.2))

  lowest_value : (op : JOp) → IsValue op
  lowest_value (jop.If opcode target) = not_of_value (jop.If opcode target) (if_low opcode target)
  lowest_value (jop.Arith opcode) = not_of_value (jop.Arith opcode) (arith_low opcode)
  lowest_value (jop.TableSwitch other lo targets) = not_of_value (jop.TableSwitch other lo targets) (table_low other lo
      targets)
  lowest_value (jop.LookupSwitch other cases) = not_of_value (jop.LookupSwitch other cases) (lookup_low other cases)
  lowest_value (jop.ArrayLoad opcode) = not_of_value (jop.ArrayLoad opcode) (load_low opcode)
  lowest_value (jop.ArrayStore opcode) = boolean_is opcode
  lowest_value (jop.NewArray number) = value (jop.NewArray number) (count_value number) _
      (lowest_is b types s (jop.NewArray number))
  lowest_value (jop.ANewArray class) = value (jop.ANewArray class) (reference_value class) _
      (lowest_is b types s (jop.ANewArray class))
  lowest_value (jop.Static put field) = value (jop.Static put field) (static_value put field) _
      (lowest_is b types s (jop.Static put field))
  lowest_value (jop.Field put field) = value (jop.Field put field) (field_value put field) _
      (lowest_is b types s (jop.Field put field))
  lowest_value (jop.Call opcode id) = value (jop.Call opcode id) (call_value opcode id) _
      (lowest_is b types s (jop.Call opcode id))
  lowest_value (jop.Return opcode) = value (jop.Return opcode) (return_value opcode) _
      (lowest_is b types s (jop.Return opcode))
  lowest_value jop.Nop = λ r h. elim h.1.2 [ ]
  lowest_value jop.Null = λ r h. elim h.1.2 [ ]
  lowest_value (jop.Number z) = λ r h. elim h.1.2 [ ]
  lowest_value (jop.Load refs k) = λ r h. elim h.1.2 [ ]
  lowest_value (jop.Store refs k) = λ r h. elim h.1.2 [ ]
  lowest_value (jop.Stack opcode) = λ r h. elim h.1.2 [ ]
  lowest_value (jop.Inc k by) = λ r h. elim h.1.2 [ ]
  lowest_value (jop.Narrow opcode) = λ r h. elim h.1.2 [ ]
  lowest_value (jop.Goto target) = λ r h. elim h.1.2 [ ]
  lowest_value (jop.New class) = λ r h. elim h.1.2 [ ]
  lowest_value jop.ArrayLength = λ r h. elim h.1.2 [ ]
  lowest_value jop.Throw = λ r h. elim h.1.2 [ ]
  lowest_value (jop.CheckCast class) = λ r h. elim h.1.2 [ ]
  lowest_value (jop.InstanceOf class) = λ r h. elim h.1.2 [ ]

  -- The rule of the tested kind that is found is broken, and the lowest of its kind.
  pub lowest_of : (which : Tested) (op : JOp) → IsLowest (λ r. (is_tested which r ≡ true) × Broken b types s op r)
      (lowest_rule which b op types s)
  lowest_of kinds.LowWords op = lowest_low op
  lowest_of kinds.Values op = lowest_value op
