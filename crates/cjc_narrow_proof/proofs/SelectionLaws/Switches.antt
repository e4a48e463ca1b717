-- Switches lead to one place: a case outside of 16 bits is none of a number of 16 bits.
use Rattle.std.proofs.Common.{◌≡◌, ℕ, zero, suc, ◌+◌, refl, sym, ap, subst, ◌∙◌, arith, Bool, true, false, List, []}
use Rattle.std.proofs.Common.{◌∷◌, length, ℤ, pos, negsuc, ◌+ℤ◌}
use Rattle.std.specs.Prelude.{Option, Some, None, map, filter, slice_get, nat_le, ◌&&◌, ◌-ℤ◌, ◌≤ℤ◌, ◌<ℤ◌, int_le}
use Rattle.std.specs.Prelude.{if◌then◌else◌}
use Rattle.std.specs.List.{Contains}
use Rattle.std.proofs.lemmas.Bool.Decides.{nat_tests}
use Rattle.std.proofs.lemmas.Int.{ints}
use Rattle.std.proofs.lemmas.Option.{get_or_from_slice_get}
use Rattle.cjc_range.specs.Span.{Span, Holds, Within, short_range}
use Rattle.cjc_range.proofs.Order.{held_wider}
use Rattle.cjc_code.specs.declared.insn.JCase.{JCase}
use Rattle.cjc_code.specs.declared.insn.JOp.TheVariants as jop
use Rattle.cjc_script.specs.declared.value.Value.{Value}
use Rattle.cjc_script.specs.declared.value.Value.TheVariants.{Num}
use Rattle.cjc_card_semantics.specs.Bytecode.Numbers.{is_word}
use Rattle.cjc_card_semantics.specs.Bytecode.Calculations
use Rattle.cjc_card_semantics.specs.Bytecode.Meanings.{meaning}
use Rattle.cjc_card_semantics.specs.Bytecode.Effects.{Arm, Pick}
use Rattle.cjc_card_semantics.specs.Bytecode.Effects as narrow
use Rattle.cjc_ncode.specs.declared.narrow.NCase.{NCase}
use Rattle.cjc_ncode.specs.declared.narrow.NInsn.{NInsn}
use Rattle.cjc_ncode.specs.declared.narrow.NInsn.TheVariants as insns
use Rattle.cjc_ncode.specs.Written.{Resolution, table_cases, pair_case, pair_cases, low_of, switched}
use Rattle.cjc_ncode.specs.ByLabel.{Named, classes, operation, ranged}
use Rattle.cjc_ncode.specs.ByLabel as labels
use Rattle.cjc_jvm_semantics.specs.Arithmetic.{is_same}
use Rattle.cjc_jvm_semantics.specs.Linked.{Method, Linked}
use Rattle.cjc_jvm_semantics.specs.Effects.{Store, effect, case_of, entry_of, or_other}
use Rattle.cjc_jvm_semantics.specs.Effects as by_name
use Rattle.cjc_narrow_proof.specs.Selection.Relation.{Kind, Range, NMemory, number, Stacks, cell, Locals, Stores}
use Rattle.cjc_narrow_proof.specs.Selection.Jumps.{Jumps, jumps, JumpAgrees}
use Rattle.cjc_narrow_proof.specs.Selection.Switches.{targets_of, JumpsInTwo, TwoAgree}
use Rattle.cjc_narrow_proof.proofs.SelectionLaws.Divides.{same_word}
use Rattle.cjc_bytes.proofs.Bools.{and_false}
use Rattle.cjc_bytes.proofs.Gets.{get_below}
use Rattle.cjc_bytes.proofs.Integers.{le_true, le_false}

-- ---- order

-- the order of two numbers
pub data Order : ℤ → ℤ → Type 0 where
  below : {a b : ℤ} → a <ℤ b → Order a b
  same : {a b : ℤ} → a ≡ b → Order a b
  above : {a b : ℤ} → b <ℤ a → Order a b

pub ordered : (a b : ℤ) → Order a b
ordered a b = go (int_le a b) refl (int_le b a) refl
  where
    go : (p : Bool) → int_le a b ≡ p → (q : Bool) → int_le b a ≡ q → Order a b
    go true e true f = same (grind (arith, ints, e, f))
    go true e false f = below (grind (arith, ints, e, f))
    go false e q f = above (grind (arith, ints, e))

-- ---- numbers of 16 bits

word_yes : (z : ℤ) → negsuc 32767 ≤ℤ z → z ≤ℤ pos 32767 → is_word z ≡ true
word_yes z a b = ap (λ t. t && int_le z (pos 32767)) (le_true (negsuc 32767) z a) ∙ le_true z (pos 32767) b

word_low : (z : ℤ) → z <ℤ negsuc 32767 → is_word z ≡ false
word_low z a = ap (λ t. t && int_le z (pos 32767)) (le_false (negsuc 32767) z a)

word_high : (z : ℤ) → pos 32767 <ℤ z → is_word z ≡ false
word_high z a = ap (λ t. int_le (negsuc 32767) z && t) (le_false z (pos 32767) a) ∙ and_false (int_le (negsuc 32767) z)

-- a number of 16 bits, one below and one above all of them
data Where : ℤ → Type 0 where
  too_low : {z : ℤ} → z <ℤ negsuc 32767 → Where z
  a_word : {z : ℤ} → negsuc 32767 ≤ℤ z → z ≤ℤ pos 32767 → Where z
  too_high : {z : ℤ} → pos 32767 <ℤ z → Where z

found : (z : ℤ) → Where z
found z = go (ordered z (negsuc 32767)) (ordered z (pos 32767))
  where
    go : Order z (negsuc 32767) → Order z (pos 32767) → Where z
    go (below a) b = too_low a
    go (same a) b = a_word (omega (arith, ints, a)) (omega (arith, ints, a))
    go (above a) (below b) = a_word (omega (arith, ints, a)) (omega (arith, ints, b))
    go (above a) (same b) = a_word (omega (arith, ints, a)) (omega (arith, ints, b))
    go (above a) (above b) = too_high b

-- ---- cases of a table

module _ (place : ℕ → ℕ) (other : ℕ) (x : ℤ) (small : Holds short_range x) where
  abbrev arms_from : ℤ → List ℕ → List Arm
  arms_from low targets = ranged low (table_cases place low targets)

  none_above : (low : ℤ) (targets : List ℕ) → pos 32767 <ℤ low → table_cases place low targets ≡ []
  none_above low [] h = refl
  none_above low (t ∷ targets) h =
      let more = none_above (low +ℤ pos 1) targets (omega (arith, ints, h)) in
      ap (λ b. if b then record { value = low; target = place t } ∷ table_cases place (low +ℤ pos 1) targets
      else table_cases place (low +ℤ pos 1) targets) (word_high low h) ∙ more

  -- the target of an arm, by the order of its value and the number
  arm_there : (arm : Arm) (arms : List Arm) → arm.value ≡ x → narrow.arm_of (place other) (arm ∷ arms) x ≡ arm.to
  arm_there arm arms e =
      ap (λ b. if b then (if int_le x arm.value then arm.to else narrow.arm_of (place other) arms x)
      else narrow.arm_of (place other) arms x) (le_true arm.value x (omega (arith, ints, e)))
      ∙ ap (λ b. if b then arm.to else narrow.arm_of (place other) arms x) (le_true x arm.value (omega
      (arith, ints, e)))

  arm_below : (arm : Arm) (arms : List Arm) → arm.value <ℤ x → narrow.arm_of (place other) (arm ∷ arms) x
      ≡ narrow.arm_of (place other) arms x
  arm_below arm arms h =
      ap (λ b. if b then (if int_le x arm.value then arm.to else narrow.arm_of (place other) arms x)
      else narrow.arm_of (place other) arms x) (le_true arm.value x (omega (arith, ints, h)))
      ∙ ap (λ b. if b then arm.to else narrow.arm_of (place other) arms x) (le_false x arm.value h)

  arm_above : (arm : Arm) (arms : List Arm) → x <ℤ arm.value → narrow.arm_of (place other) (arm ∷ arms) x
      ≡ narrow.arm_of (place other) arms x
  arm_above arm arms h = ap (λ b. if b then (if int_le x arm.value then arm.to else narrow.arm_of (place other) arms x)
      else narrow.arm_of (place other) arms x) (le_false arm.value x h)

  -- the entry of a number
  none_before : (targets : List ℕ) (z : ℤ) → z <ℤ pos 0 → entry_of other targets z ≡ other
  none_before targets (negsuc n) h = refl
  none_before targets (pos n) h = absurd (omega (arith, ints, h))

  next_entry : (t : ℕ) (targets : List ℕ) (y z : ℤ) → pos 0 ≤ℤ z → y ≡ z +ℤ pos 1 → entry_of other (t ∷ targets) y
      ≡ entry_of other targets z
  next_entry t targets (pos zero) (pos n) h e = absurd (omega (arith, ints, e))
  next_entry t targets (pos (suc k)) (pos n) h e = let is : k ≡ n = omega (arith, ints, e)
      in ap (λ i. or_other other (slice_get targets i)) is
  next_entry t targets (negsuc k) (pos n) h e = absurd (omega (arith, ints, e))
  next_entry t targets y (negsuc n) h e = absurd (omega (arith, ints, h))

  no_entry : (z : ℤ) → entry_of other [] z ≡ other
  no_entry (pos n) = refl
  no_entry (negsuc n) = refl

  -- the first of them, and those behind it
  abbrev first_case : ℤ → ℕ → NCase
  first_case low t = record { value = low; target = place t }

  abbrev first_arm : ℤ → ℕ → Arm
  first_arm low t = record { value = low; to = place t }

  abbrev cases_behind : ℤ → List ℕ → List NCase
  cases_behind low targets = table_cases place (low +ℤ pos 1) targets

  -- pairs of 16 bits
  abbrev kept_of : List JCase → List JCase
  kept_of cases = filter (λ c. is_word c.value) cases

  abbrev arms_of : List JCase → List Arm
  arms_of cases = map labels.arm_of (pair_cases place cases)

  -- a table that begins with a number of 16 bits
  from_word : (low : ℤ) (targets : List ℕ) → negsuc 32767 ≤ℤ low → low ≤ℤ pos 32767
      → narrow.arm_of (place other) (arms_from low targets) x ≡ place (entry_of other targets (x -ℤ low))
  from_word low [] a b = sym (ap place (no_entry (x -ℤ low)))
  from_word low (t ∷ targets) a b =
      ap (λ w. narrow.arm_of (place other) (ranged low (if w then first_case low t ∷ cases_behind low targets
      else cases_behind low targets)) x) (word_yes low a b) ∙ by_order (from_word (low +ℤ pos 1) targets)
      (ordered low x) (found (low +ℤ pos 1))
    where
      at_first : (z : ℤ) → z ≡ pos 0 → place t ≡ place (entry_of other (t ∷ targets) z)
      at_first z e = sym (ap (λ y. place (entry_of other (t ∷ targets) y)) e)

      by_order : (negsuc 32767 ≤ℤ (low +ℤ pos 1) → (low +ℤ pos 1) ≤ℤ pos 32767
          → narrow.arm_of (place other) (arms_from (low +ℤ pos 1) targets) x
          ≡ place (entry_of other targets (x -ℤ (low +ℤ pos 1)))) → Order low x → Where (low +ℤ pos 1)
          → narrow.arm_of (place other) (first_arm low t ∷ arms_from (low +ℤ pos 1) targets) x
          ≡ place (entry_of other (t ∷ targets) (x -ℤ low))
      by_order next (same e) w = arm_there (first_arm low t) (arms_from (low +ℤ pos 1) targets) e
          ∙ at_first (x -ℤ low) (omega (arith, ints, e))
      by_order next (below h) (a_word c d) =
          arm_below (first_arm low t) (arms_from (low +ℤ pos 1) targets) h ∙ next c d
          ∙ sym (ap place (next_entry t targets (x -ℤ low) (x -ℤ (low +ℤ pos 1)) (omega (arith, ints, h)) (omega (
            arith,
            ints,
          ))))
      by_order next (below h) (too_low c) = absurd (omega (arith, ints, a, c))
      by_order next (below h) (too_high c) = let top = small.below in absurd (omega (arith, ints, h, c, top))
      by_order next (above h) (a_word c d) =
          arm_above (first_arm low t) (arms_from (low +ℤ pos 1) targets) h ∙ next c d
          ∙ ap place (none_before targets (x -ℤ (low +ℤ pos 1)) (omega (arith, ints, h))
          ∙ sym (none_before (t ∷ targets) (x -ℤ low) (omega (arith, ints, h))))
      by_order next (above h) (too_low c) = absurd (omega (arith, ints, a, c))
      by_order next (above h) (too_high c) =
          arm_above (first_arm low t) (arms_from (low +ℤ pos 1) targets) h
          ∙ ap (λ cases. narrow.arm_of (place other) (ranged (low +ℤ pos 1) cases) x) (none_above (low +ℤ pos 1)
          targets c)
          ∙ sym (ap place (none_before (t ∷ targets) (x -ℤ low) (omega (arith, ints, h))))

  -- any table
  table_same : (low : ℤ) (targets : List ℕ)
      → narrow.arm_of (place other) (ranged (low_of (table_cases place low targets)) (table_cases place low targets)) x
      ≡ place (entry_of other targets (x -ℤ low))
  table_same low [] = sym (ap place (no_entry (x -ℤ low)))
  table_same low (t ∷ targets) = by_place (table_same (low +ℤ pos 1) targets) (found low)
    where
      by_place : narrow.arm_of (place other) (ranged (low_of (cases_behind low targets)) (cases_behind low targets)) x
          ≡ place (entry_of other targets (x -ℤ (low +ℤ pos 1))) → Where low
          → narrow.arm_of (place other) (ranged (low_of (table_cases place low (t ∷ targets))) (table_cases place low (t
          ∷ targets))) x ≡ place (entry_of other (t ∷ targets) (x -ℤ low))
      by_place next (a_word a b) =
          let is : table_cases place low (t ∷ targets) ≡ first_case low t ∷ cases_behind low targets =
          ap (λ w. if w then first_case low t ∷ cases_behind low targets else cases_behind low targets)
          (word_yes low a b) in
          ap (λ cases. narrow.arm_of (place other) (ranged (low_of cases) (table_cases place low (t ∷ targets))) x) is
          ∙ from_word low (t ∷ targets) a b
      by_place next (too_low a) =
          let bottom = small.above in
          let is : table_cases place low (t ∷ targets) ≡ cases_behind low targets = ap (λ w. if w then first_case low t
          ∷ cases_behind low targets else cases_behind low targets) (word_low low a) in
          ap (λ cases. narrow.arm_of (place other) (ranged (low_of cases) cases) x) is ∙ next
          ∙ sym (ap place (next_entry t targets (x -ℤ low) (x -ℤ (low +ℤ pos 1)) (omega (arith, ints, a, bottom))
          (omega (arith, ints))))
      by_place next (too_high a) =
          let top = small.below in
          ap (λ cases. narrow.arm_of (place other) (ranged (low_of cases) cases) x) (none_above low (t ∷ targets) a)
          ∙ sym (ap place (none_before (t ∷ targets) (x -ℤ low) (omega (arith, ints, a, top))))

  -- pairs
  pairs_same : (cases : List JCase) → narrow.arm_of (place other) (map labels.arm_of (pair_cases place cases)) x
      ≡ place (case_of other cases x)
  pairs_same [] = refl
  pairs_same (c ∷ cases) = by_place (pairs_same cases) (found c.value)
    where
      differs : int_le c.value x ≡ true → int_le x c.value ≡ false → is_same c.value x ≡ false
      differs e f = ap (λ a. a && int_le x c.value) e ∙ f

      left_out : narrow.arm_of (place other) (arms_of cases) x ≡ place (case_of other cases x) → is_word c.value ≡ false
          → is_same c.value x ≡ false → narrow.arm_of (place other) (map labels.arm_of (pair_cases place (c ∷ cases))) x
          ≡ place (case_of other (c ∷ cases) x)
      left_out next e f =
          ap (λ w. narrow.arm_of (place other) (map labels.arm_of (map (pair_case place) (if w then c ∷ kept_of cases
          else kept_of cases))) x) e ∙ next
          ∙ sym (ap (λ s. place (if s then c.target else case_of other cases x)) f)

      kept_first : is_word c.value ≡ true
          → narrow.arm_of (place other) (map labels.arm_of (pair_cases place (c ∷ cases))) x
          ≡ narrow.arm_of (place other) (record { value = c.value; to = place c.target } ∷ arms_of cases) x
      kept_first e = ap (λ w. narrow.arm_of (place other) (map labels.arm_of (map (pair_case place) (if w
          then c ∷ kept_of cases else kept_of cases))) x) e

      by_place : narrow.arm_of (place other) (arms_of cases) x ≡ place (case_of other cases x) → Where c.value
          → narrow.arm_of (place other) (map labels.arm_of (pair_cases place (c ∷ cases))) x
          ≡ place (case_of other (c ∷ cases) x)
      by_place next (too_low a) = let bottom = small.above
          in left_out next (word_low c.value a) (differs (le_true c.value x (omega (arith, ints, a, bottom)))
          (le_false x c.value (omega (arith, ints, a, bottom))))
      by_place next (too_high a) = let top = small.below in left_out next (word_high c.value a) (ap (λ t. t
          && int_le x c.value) (le_false c.value x (omega (arith, ints, a, top))))
      by_place next (a_word a b) = kept_first (word_yes c.value a b)
          ∙ by_value (int_le c.value x) refl (int_le x c.value) refl
        where
          by_value : (p : Bool) → int_le c.value x ≡ p → (q : Bool) → int_le x c.value ≡ q
              → narrow.arm_of (place other) (record { value = c.value; to = place c.target } ∷ arms_of cases) x
              ≡ place (case_of other (c ∷ cases) x)
          by_value true e true f =
              ap (λ p. if p then (if int_le x c.value then place c.target
              else narrow.arm_of (place other) (arms_of cases) x) else narrow.arm_of (place other) (arms_of cases)
              x) e
              ∙ ap (λ q. if q then place c.target else narrow.arm_of (place other) (arms_of cases) x) f
              ∙ sym (ap (λ s. place (if s then c.target else case_of other cases x)) (ap (λ a. a && int_le x c.value) e
              ∙ f))
          by_value true e false f =
              ap (λ p. if p then (if int_le x c.value then place c.target
              else narrow.arm_of (place other) (arms_of cases) x) else narrow.arm_of (place other) (arms_of cases)
              x) e
              ∙ ap (λ q. if q then place c.target else narrow.arm_of (place other) (arms_of cases) x) f ∙ next
              ∙ sym (ap (λ s. place (if s then c.target else case_of other cases x)) (differs e f))
          by_value false e q f =
              ap (λ p. if p then (if int_le x c.value then place c.target
              else narrow.arm_of (place other) (arms_of cases) x) else narrow.arm_of (place other) (arms_of cases)
              x) e ∙ next
              ∙ sym (ap (λ s. place (if s then c.target else case_of other cases x)) (ap (λ a. a && int_le x c.value)
              e))

-- ---- what is written

abbrev Cases : Type 0
Cases = List NCase

one_switch : (op other : ℕ) (low : ℤ) (cases : Cases) {insn : NInsn} → switched op other low cases ≡ insn ∷ []
    → insns.Switch op other low cases ≡ insn
one_switch op other low [] e = cc
one_switch op other low (c ∷ cases) e = cc

no_case : (op other : ℕ) (low : ℤ) (cases : Cases) {a b : NInsn} → switched op other low cases ≡ a ∷ b ∷ [] → cases ≡ []
no_case op other low [] e = refl
no_case op other low (c ∷ cases) e = cc

first_pops : (op other : ℕ) (low : ℤ) (cases : Cases) {a b : NInsn} → switched op other low cases ≡ a ∷ b ∷ []
    → insns.Op 0x3B ≡ a
first_pops op other low [] e = cc
first_pops op other low (c ∷ cases) e = cc

second_jumps : (op other : ℕ) (low : ℤ) (cases : Cases) {a b : NInsn} → switched op other low cases ≡ a ∷ b ∷ []
    → insns.Jump 0x70 other ≡ b
second_jumps op other low [] e = cc
second_jumps op other low (c ∷ cases) e = cc

-- ---- targets

pub entry_among : (other : ℕ) (targets : List ℕ) (z : ℤ) → Contains (other ∷ targets) (entry_of other targets z)
entry_among other targets (negsuc n) = (0, omega arith, refl)
entry_among other targets (pos n) = by_item (slice_get targets n) refl
  where
    by_item : (o : Option ℕ) → slice_get targets n ≡ o → Contains (other ∷ targets) (or_other other o)
    by_item None e = (0, omega arith, refl)
    by_item (Some t) e = let low = get_below targets n t e in (
      suc n,
      omega
          (arith, low),
      get_or_from_slice_get targets n t t e,
    )

case_among : (other : ℕ) (cases : List JCase) (x : ℤ) → Contains (other ∷ targets_of cases) (case_of other cases x)
case_among other [] x = (0, omega arith, refl)
case_among other (c ∷ cases) x = by_answer (is_same c.value x) (case_among other cases x)
  where
    by_answer : (b : Bool) → Contains (other ∷ targets_of cases) (case_of other cases x)
        → Contains (other ∷ targets_of (c ∷ cases)) (if b then c.target else case_of other cases x)
    by_answer true more = (1, omega arith, refl)
    by_answer false (zero, low, e) = (0, omega arith, e)
    by_answer false (suc k, low, e) = (suc (suc k), omega (arith, low), e)

-- ---- rows

module _ (by : Linked) (l : Named) (m : Method) (place : ℕ → ℕ) (offsets : List ℕ) (offset : ℕ)
    (among : Contains offsets offset) (at next : ℕ) (ks ls : List Kind) (vs ws : List Value) (locals words :
    List (Option Value)) (store : Store) (memory : NMemory) (stores : Stores l store memory) (held : Locals memory.heap
    ls locals words) (rest : Stacks memory.heap ks vs ws) where
  abbrev Leads : ℕ → Type 0
  Leads to = Jumps l ks ls offsets (by_name.place m.insns) place (at + 1) next (by_name.jump by m at locals store offset
      vs) (narrow.Go to ws words memory)

  pub led : (to : ℕ) → to ≡ place offset → Leads to
  led to e = subst Leads (sym e) (jumps offset among rest held stores)

module _ (by : Linked) (l : Named) (r : Resolution) (m : Method) (s : Span) (small : Within s short_range) (other : ℕ)
  where
    table_is : (low : ℤ) (targets : List ℕ) (place : ℕ → ℕ) (room at next : ℕ) (ks ls : List Kind) (vs ws : List Value)
        (locals words : List (Option Value)) (store : Store) (memory : NMemory) →
        Stores l store memory → Locals memory.heap ls locals words → Stacks memory.heap (Range s ∷ ks) vs ws →
        Jumps l ks ls (other ∷ targets) (by_name.place m.insns) place (at + 1) next (effect by m at locals store
        (jop.TableSwitch other low targets) vs) (narrow.effect (classes l)
        (operation (insns.Switch 0x73 (place other) (low_of (table_cases place low targets)) (table_cases place low
        targets))) room next words memory ws)
    unfolding effect meaning
    table_is low targets place room at next ks ls _ _ locals words store memory stores held (cell {vs = vs} {ws = ws}
        (number {x = x} {y = y} e h) rest) =
        led by l m place (other ∷ targets) (entry_of other targets (x -ℤ low)) (entry_among other targets (x -ℤ low)) at
        next ks ls vs ws locals words store memory stores held rest
        (narrow.arm_of (place other) (ranged (low_of (table_cases place low targets)) (table_cases place low targets))
        y)
        (ap (narrow.arm_of (place other) (ranged (low_of (table_cases place low targets)) (table_cases place low
        targets))) (same_word s x small h e) ∙ table_same place other x (held_wider s short_range x small h) low
        targets)

    pub tableswitch : (low : ℤ) (targets : List ℕ) → JumpAgrees by l r m (jop.TableSwitch other low targets) (Range s
        ∷ []) (other ∷ targets)
    tableswitch low targets place insn is room at next ks ls vs ws locals words store memory stores held stack =
        subst (λ i. Jumps l ks ls (other ∷ targets) (by_name.place m.insns) place (at + 1) next (effect by m at locals
        store (jop.TableSwitch other low targets) vs) (narrow.effect (classes l) (operation i) room next words memory
        ws))
        (one_switch 0x73 (place other) (low_of (table_cases place low targets)) (table_cases place low targets) is)
        (table_is low targets place room at next ks ls vs ws locals words store memory stores held stack)

    pairs_are : (cases : List JCase) (place : ℕ → ℕ) (room at next : ℕ) (ks ls : List Kind) (vs ws : List Value)
        (locals words : List (Option Value)) (store : Store) (memory : NMemory) →
        Stores l store memory → Locals memory.heap ls locals words → Stacks memory.heap (Range s ∷ ks) vs ws →
        Jumps l ks ls (other ∷ targets_of cases) (by_name.place m.insns) place (at + 1) next (effect by m at locals
        store
        (jop.LookupSwitch other cases) vs) (narrow.effect (classes l)
        (operation (insns.Switch 0x75 (place other) (pos 0) (pair_cases place cases))) room next words memory ws)
    unfolding effect meaning
    pairs_are cases place room at next ks ls _ _ locals words store memory stores held (cell {vs = vs} {ws = ws}
        (number {x = x} {y = y} e h) rest) =
        led by l m place (other ∷ targets_of cases) (case_of other cases x) (case_among other cases x) at next ks ls vs
        ws
        locals words store memory stores held rest
        (narrow.arm_of (place other) (map labels.arm_of (pair_cases place cases)) y)
        (ap (narrow.arm_of (place other) (map labels.arm_of (pair_cases place cases))) (same_word s x small h e)
        ∙ pairs_same place other x (held_wider s short_range x small h) cases)

    pub lookupswitch : (cases : List JCase) → JumpAgrees by l r m (jop.LookupSwitch other cases) (Range s ∷ []) (other
        ∷ targets_of cases)
    lookupswitch cases place insn is room at next ks ls vs ws locals words store memory stores held stack =
        subst (λ i. Jumps l ks ls (other ∷ targets_of cases) (by_name.place m.insns) place (at + 1) next
        (effect by m at locals store (jop.LookupSwitch other cases) vs) (narrow.effect (classes l) (operation i) room
        next words memory ws))
        (one_switch 0x75 (place other) (pos 0) (pair_cases place cases) is)
        (pairs_are cases place room at next ks ls vs ws locals words store memory stores held stack)

    -- ---- where no case is left

    popped : (room between : ℕ) (v : Value) (ws : List Value) (words : List (Option Value)) (memory : NMemory)
        → narrow.effect (classes l) (operation (insns.Op 0x3B)) room between words memory (v ∷ ws)
        ≡ narrow.Go between ws words memory
    unfolding meaning
    popped room between v ws words memory =
        let enough : nat_le 1 (length (v ∷ ws)) ≡ true = grind (arith, nat_tests) in
        ap (λ t. narrow.effect_of_result (Calculations.if_so t (Calculations.Fine ws words)) between memory) enough

    gone : (target room next : ℕ) (ws : List Value) (words : List (Option Value)) (memory : NMemory)
        → narrow.effect (classes l) (operation (insns.Jump 0x70 target)) room next words memory ws
        ≡ narrow.Go target ws words memory
    unfolding meaning
    gone target room next ws words memory = refl

    module _ (offsets : List ℕ) (offset : ℕ) (among : Contains offsets offset) (place : ℕ → ℕ) (same : place other
        ≡ place offset) {first second : NInsn} (pops : insns.Op 0x3B ≡ first) (leads : insns.Jump 0x70 (place other)
        ≡ second) (room at between next : ℕ) (ks ls : List Kind) (v : Value) (vs ws : List Value) (locals words :
        List (Option Value)) (store : Store) (memory : NMemory) (stores : Stores l store memory)
        (held : Locals memory.heap ls locals words) (rest : Stacks memory.heap ks vs ws) where
      pub in_two : JumpsInTwo l ks ls offsets (by_name.place m.insns) place (at + 1) between next room first second
          words
          memory (v ∷ ws) (by_name.jump by m at locals store offset vs)
      in_two = record {
        stack = ws;
        goes_on = ap (λ i. narrow.effect (classes l) (operation i) room between words memory (v ∷ ws)) (sym pops)
            ∙ popped room between v ws words memory;
        leads = subst (λ e. Jumps l ks ls offsets (by_name.place m.insns) place (at + 1) next
            (by_name.jump by m at locals
            store offset vs) e)
            (sym (ap (λ i. narrow.effect (classes l) (operation i) room next words memory ws) (sym leads)
            ∙ gone (place other) room next ws words memory))
            (led by l m place offsets offset among at next ks ls vs ws locals words store memory stores held rest
            (place other) same);
      }

    pub empty_table : (low : ℤ) (targets : List ℕ) → TwoAgree by l r m (jop.TableSwitch other low targets) (Range s
        ∷ []) (other ∷ targets)
    unfolding effect
    empty_table low targets place first second is room at between next ks ls _ _ locals words store memory stores held
        (cell {vs = vs} {ws = ws} (number {x = x} {y = y} e h) rest) =
        let cases = table_cases place low targets in
        let none = no_case 0x73 (place other) (low_of cases) cases is in
        in_two (other ∷ targets) (entry_of other targets (x -ℤ low)) (entry_among other targets (x -ℤ low)) place
        (sym (ap (λ cs. narrow.arm_of (place other) (ranged (low_of cs) cs) x) none)
        ∙ table_same place other x (held_wider s short_range x small h) low targets)
        (first_pops 0x73 (place other) (low_of cases) cases is) (second_jumps 0x73 (place other) (low_of cases) cases
        is)
        room at between next ks ls (Num y) vs ws locals words store memory stores held rest

    pub empty_pairs : (cases : List JCase) → TwoAgree by l r m (jop.LookupSwitch other cases) (Range s ∷ []) (other
        ∷ targets_of cases)
    unfolding effect
    empty_pairs cases place first second is room at between next ks ls _ _ locals words store memory stores held
        (cell {vs = vs} {ws = ws} (number {x = x} {y = y} e h) rest) =
        let kept = pair_cases place cases in
        let none = no_case 0x75 (place other) (pos 0) kept is in
        in_two (other ∷ targets_of cases) (case_of other cases x) (case_among other cases x) place
        (sym (ap (λ cs. narrow.arm_of (place other) (map labels.arm_of cs) x) none)
        ∙ pairs_same place other x (held_wider s short_range x small h) cases)
        (first_pops 0x75 (place other) (pos 0) kept is) (second_jumps 0x75 (place other) (pos 0) kept is) room at
        between
        next ks ls (Num y) vs ws locals words store memory stores held rest
