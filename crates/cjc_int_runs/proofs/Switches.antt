-- Switches lead to one place: every case is kept.
use Rattle.std.proofs.Common.{◌≡◌, ℕ, zero, suc, ◌+◌, List, ◌∷◌, [], refl, sym, ap, subst}
use Rattle.std.proofs.Common.{◌∙◌, arith}
use Rattle.std.proofs.Common.{Bool, true, false, ℤ, pos, negsuc, ◌+ℤ◌}
use Rattle.std.specs.Prelude.{Option, Some, None, map, slice_get, ◌&&◌, ◌-ℤ◌, ◌≤ℤ◌, ◌<ℤ◌, int_le, if◌then◌else◌}
use Rattle.std.specs.List.{Contains}
use Rattle.std.proofs.lemmas.Int.{ints}
use Rattle.cjc_script.proofs.BytesGets.{contained}
use Rattle.cjc_script.proofs.BytesIntegers.{le_true, le_false}
use Rattle.cjc_range.specs.Span.{Span}
use Rattle.cjc_int_proof.specs.Bytecode.declared.insn.JCase.{JCase}
use Rattle.cjc_int_proof.specs.Bytecode.declared.insn.JOp.TheVariants as jop
use Rattle.cjc_script.specs.declared.value.Value.{Value}
use Rattle.cjc_script.specs.declared.value.Value.TheVariants.{Num}
use Rattle.cjc_card_semantics.specs.Bytecode.Meanings.{meaning}
use Rattle.cjc_card_semantics.specs.Bytecode.Effects.{Arm}
use Rattle.cjc_card_semantics.specs.Bytecode.Effects as narrow
use Rattle.cjc_ncode.specs.declared.narrow.NInsn.{NInsn}
use Rattle.cjc_ncode.specs.declared.narrow.NMethod.{NMethod}
use Rattle.cjc_ncode.specs.ByLabel.{Named, by_label, ranged}
use Rattle.cjc_ncode.specs.ByLabel as labels
use Rattle.cjc_ncode.specs.Written.{Resolution, pair_case}
use Rattle.cjc_ncode.specs.IntCode.IntCode.{Before, Frame, table_cases}
use Rattle.cjc_jvm_semantics.specs.Arithmetic.{is_same}
use Rattle.cjc_jvm_semantics.specs.Linked.{Method, Linked}
use Rattle.cjc_jvm_semantics.specs.Effects.{Store, effect, case_of, entry_of, or_other}
use Rattle.cjc_jvm_semantics.specs.Effects as by_name
use Rattle.cjc_int_proof.specs.Walks.{walk}
use Rattle.cjc_narrow_proof.specs.Selection.Relation.{Kind, Range, NMemory, Stores}
use Rattle.cjc_narrow_proof.specs.Selection.Rows.{NEffect}
use Rattle.cjc_narrow_proof.specs.Selection.Switches.{targets_of}
use Rattle.cjc_narrow_proof.proofs.SelectionLaws.Switches.{Order, below, same, above, ordered}
use Rattle.cjc_int_runs.specs.Relation.{IntLocals, IntStacks, number}
use Rattle.cjc_int_runs.specs.Steps.{IntJump, JumpInStep, jumps, spot}
use Rattle.cjc_int_runs.proofs.Stepping.{onward, asked}

-- ---- cases of a table

module _ (place : ℕ → ℕ) (other : ℕ) (x : ℤ) where
  -- the target of an arm, by the order of its value and the number
  arm_there : (arm : Arm) (arms : List Arm) → arm.value ≡ x → narrow.arm_of (place other) (arm ∷ arms) x ≡ arm.to
  arm_there arm arms e =
      ap (λ b. if b then (if int_le x arm.value then arm.to else narrow.arm_of (place other) arms x)
      else narrow.arm_of (place other) arms x) (le_true arm.value x (omega (arith, ints, e)))
      ∙ ap (λ b. if b then arm.to else narrow.arm_of (place other) arms x) (le_true x arm.value (omega
      (arith, ints, e)))

  arm_below : (arm : Arm) (arms : List Arm) → arm.value <ℤ x → narrow.arm_of (place other) (arm ∷ arms) x
      ≡ narrow.arm_of (place other) arms x
  arm_below arm arms h =
      ap (λ b. if b then (if int_le x arm.value then arm.to else narrow.arm_of (place other) arms x)
      else narrow.arm_of (place other) arms x) (le_true arm.value x (omega (arith, ints, h)))
      ∙ ap (λ b. if b then arm.to else narrow.arm_of (place other) arms x) (le_false x arm.value h)

  arm_above : (arm : Arm) (arms : List Arm) → x <ℤ arm.value → narrow.arm_of (place other) (arm ∷ arms) x
      ≡ narrow.arm_of (place other) arms x
  arm_above arm arms h = ap (λ b. if b then (if int_le x arm.value then arm.to else narrow.arm_of (place other) arms x)
      else narrow.arm_of (place other) arms x) (le_false arm.value x h)

  none_before : (targets : List ℕ) (z : ℤ) → z <ℤ pos 0 → entry_of other targets z ≡ other
  none_before targets (negsuc n) h = refl
  none_before targets (pos n) h = absurd (omega (arith, ints, h))

  next_entry : (t : ℕ) (targets : List ℕ) (y z : ℤ) → pos 0 ≤ℤ z → y ≡ z +ℤ pos 1 → entry_of other (t ∷ targets) y
      ≡ entry_of other targets z
  next_entry t targets (pos zero) (pos n) h e = absurd (omega (arith, ints, e))
  next_entry t targets (pos (suc k)) (pos n) h e = let is : k ≡ n = omega (arith, ints, e)
      in ap (λ i. or_other other (slice_get targets i)) is
  next_entry t targets (negsuc k) (pos n) h e = absurd (omega (arith, ints, e))
  next_entry t targets y (negsuc n) h e = absurd (omega (arith, ints, h))

  no_entry : (z : ℤ) → entry_of other [] z ≡ other
  no_entry (pos n) = refl
  no_entry (negsuc n) = refl

  abbrev arms_from : ℤ → List ℕ → List Arm
  arms_from low targets = ranged low (table_cases place low targets)

  abbrev first_arm : ℤ → ℕ → Arm
  first_arm low t = record { value = low; to = place t }

  at_first : (t : ℕ) (targets : List ℕ) (z : ℤ) → z ≡ pos 0 → place t ≡ place (entry_of other (t ∷ targets) z)
  at_first t targets z e = sym (ap (λ y. place (entry_of other (t ∷ targets) y)) e)

  table_by_order : (low : ℤ) (t : ℕ) (targets : List ℕ) → narrow.arm_of (place other) (arms_from (low +ℤ pos 1)
      targets) x ≡ place (entry_of other targets (x -ℤ (low +ℤ pos 1))) → Order low x
      → narrow.arm_of (place other) (first_arm low t ∷ arms_from (low +ℤ pos 1) targets) x
      ≡ place (entry_of other (t ∷ targets) (x -ℤ low))
  table_by_order low t targets next (same e) = arm_there (first_arm low t) (arms_from (low +ℤ pos 1) targets) e
      ∙ at_first t targets (x -ℤ low) (omega (arith, ints, e))
  table_by_order low t targets next (below h) =
      arm_below (first_arm low t) (arms_from (low +ℤ pos 1) targets) h ∙ next
      ∙ sym (ap place (next_entry t targets (x -ℤ low) (x -ℤ (low +ℤ pos 1)) (omega (arith, ints, h))
      (omega (arith, ints))))
  table_by_order low t targets next (above h) =
      arm_above (first_arm low t) (arms_from (low +ℤ pos 1) targets) h ∙ next
      ∙ ap place (none_before targets (x -ℤ (low +ℤ pos 1)) (omega (arith, ints, h))
      ∙ sym (none_before (t ∷ targets) (x -ℤ low) (omega (arith, ints, h))))

  table_found : (low : ℤ) (targets : List ℕ) → narrow.arm_of (place other) (arms_from low targets) x
      ≡ place (entry_of other targets (x -ℤ low))
  table_found low [] = sym (ap place (no_entry (x -ℤ low)))
  table_found low (t ∷ targets) = table_by_order low t targets (table_found (low +ℤ pos 1) targets) (ordered low x)

  -- ---- pairs

  abbrev arms_of : List JCase → List Arm
  arms_of cases = map labels.arm_of (map (pair_case place) cases)

  pair_by_tests : (c : JCase) (cases : List JCase) → narrow.arm_of (place other) (arms_of cases) x
      ≡ place (case_of other cases x) → (a : Bool) → int_le c.value x ≡ a → (b : Bool) → int_le x c.value ≡ b
      → narrow.arm_of (place other) (arms_of (c ∷ cases)) x ≡ place (case_of other (c ∷ cases) x)
  pair_by_tests c cases next true e true g =
      ap (λ t. if t then (if int_le x c.value then place c.target else narrow.arm_of (place other) (arms_of cases) x)
      else narrow.arm_of (place other) (arms_of cases) x) e
      ∙ ap (λ t. if t then place c.target else narrow.arm_of (place other) (arms_of cases) x) g
      ∙ sym (ap (λ t. place (if t && int_le x c.value then c.target else case_of other cases x)) e
      ∙ ap (λ t. place (if t then c.target else case_of other cases x)) g)
  pair_by_tests c cases next true e false g =
      ap (λ t. if t then (if int_le x c.value then place c.target else narrow.arm_of (place other) (arms_of cases) x)
      else narrow.arm_of (place other) (arms_of cases) x) e
      ∙ ap (λ t. if t then place c.target else narrow.arm_of (place other) (arms_of cases) x) g ∙ next
      ∙ sym (ap (λ t. place (if t && int_le x c.value then c.target else case_of other cases x)) e
      ∙ ap (λ t. place (if t then c.target else case_of other cases x)) g)
  pair_by_tests c cases next false e b g =
      ap (λ t. if t then (if int_le x c.value then place c.target else narrow.arm_of (place other) (arms_of cases) x)
      else narrow.arm_of (place other) (arms_of cases) x) e ∙ next
      ∙ sym (ap (λ t. place (if t && int_le x c.value then c.target else case_of other cases x)) e)

  pairs_found : (cases : List JCase) → narrow.arm_of (place other) (arms_of cases) x ≡ place (case_of other cases x)
  pairs_found [] = refl
  pairs_found (c ∷ cases) = pair_by_tests c cases (pairs_found cases) (int_le c.value x) refl (int_le x c.value) refl

-- ---- offsets

-- an item of a list that another item stands before
behind_first : {A : Type 0} (y x : A) (xs : List A) → Contains xs x → Contains (y ∷ xs) x
behind_first y x xs (k, less, is) = (suc k, omega (arith, less), is)

entry_among : (other : ℕ) (targets : List ℕ) (z : ℤ) → Contains (other ∷ targets) (entry_of other targets z)
entry_among other targets (negsuc n) = (0, omega arith, refl)
entry_among other targets (pos n) = by (slice_get targets n) refl
  where
    by : (o : Option ℕ) → slice_get targets n ≡ o → Contains (other ∷ targets) (or_other other (slice_get targets n))
    by None e = subst (λ o. Contains (other ∷ targets) (or_other other o)) (sym e) (0, omega arith, refl)
    by (Some t) e = subst (λ o. Contains (other ∷ targets) (or_other other o)) (sym e)
        (behind_first other t targets (contained targets n t e))

case_among : (other : ℕ) (cases : List JCase) (x : ℤ) → Contains (other ∷ targets_of cases) (case_of other cases x)
case_among other [] x = (0, omega arith, refl)
case_among other (c ∷ cases) x = by (is_same c.value x) refl (case_among other cases x)
  where
    skips : (y : ℕ) → Contains (other ∷ targets_of cases) y → Contains (other ∷ c.target ∷ targets_of cases) y
    skips y (zero, less, is) = (zero, omega arith, is)
    skips y (suc k, less, is) = (suc (suc k), omega (arith, less), is)

    by : (t : Bool) → is_same c.value x ≡ t → Contains (other ∷ targets_of cases) (case_of other cases x)
        → Contains (other ∷ targets_of (c ∷ cases)) (case_of other (c ∷ cases) x)
    by true e next = subst (λ t. Contains (other ∷ targets_of (c ∷ cases)) (if t then c.target
        else case_of other cases x)) (sym e) (1, omega arith, refl)
    by false e next = subst (λ t. Contains (other ∷ targets_of (c ∷ cases)) (if t then c.target
        else case_of other cases x)) (sym e) (skips (case_of other cases x) next)

-- ---- rows

module _ (by : Linked) (l : Named) (f : Frame) (pairs : ℕ) (r : Resolution) (m : Method) (b : Before) (s : Span) where
  switched : (offsets : List ℕ) (place : ℕ → ℕ) (code : NMethod) (here at : ℕ) (i : NInsn) (ks ls : List Kind)
      (onto vs ws : List Value) (locals words : List (Option Value)) (store : Store) (memory : NMemory) (offset : ℕ)
      (e : by_name.Effect) → Contains offsets offset → Stores l store memory
      → IntLocals memory.heap f pairs ls locals words → IntStacks memory.heap ks vs ws
      → slice_get code.insns here ≡ Some i
      → asked l code i here onto words memory ≡ narrow.Go (place offset) ws words memory
      → e ≡ by_name.Go (by_name.place m.insns offset) vs locals store
      → JumpInStep l f pairs ks ls here (here + 1) words memory offsets (by_name.place m.insns) place (at + 1) e
      (λ n. walk (by_label l) code n (spot here onto words memory)) 1
  switched offsets place code here at i ks ls onto vs ws locals words store memory offset e among stores held rest there
      does named = jumps offset among (record {
        stack = vs;
        locals = locals;
        store = store;
        nstack = ws;
        nlocals = words;
        nmemory = memory;
        steps = 1;
        few = omega arith;
        some = λ h. omega arith;
        by_name = named;
        by_label = onward l code 0 here (place offset) i onto ws words words memory memory _ there does refl;
        stacks_agree = rest;
        locals_agree = held;
        stores_agree = stores;
      })

  pub tableswitch : (other : ℕ) (low : ℤ) (targets : List ℕ) → IntJump by l f pairs r m b
      (jop.TableSwitch other low targets) (Range s ∷ []) (other ∷ targets)
  unfolding effect meaning
  tableswitch other low targets place code here is at ks ls _ _ locals words store memory before stores held
      (number {x = x} {high = h1} {low = l1} {vs = vs} {ws = ws} ex hx rest) =
      switched (other ∷ targets) place code here at _ ks ls (Num l1 ∷ Num h1 ∷ ws) vs ws locals words store memory
      (entry_of other targets (x -ℤ low)) _ (entry_among other targets (x -ℤ low)) stores held rest is.0
      (ap (λ z. let e : NEffect = narrow.Go (narrow.arm_of (place other) (ranged low (table_cases place low targets)) z)
      ws words memory in e) (sym ex)
      ∙ ap (λ p. let e : NEffect = narrow.Go p ws words memory in e) (table_found place other x low targets)) refl

  pub lookupswitch : (other : ℕ) (cases : List JCase) → IntJump by l f pairs r m b (jop.LookupSwitch other cases)
      (Range s
      ∷ []) (other ∷ targets_of cases)
  unfolding effect meaning
  lookupswitch other cases place code here is at ks ls _ _ locals words store memory before stores held
      (number {x = x} {high = h1} {low = l1} {vs = vs} {ws = ws} ex hx rest) =
      switched (other ∷ targets_of cases) place code here at _ ks ls (Num l1 ∷ Num h1 ∷ ws) vs ws locals words store
      memory (case_of other cases x) _ (case_among other cases x) stores held rest is.0
      (ap (λ z. let e : NEffect = narrow.Go (narrow.arm_of (place other) (map labels.arm_of (map (pair_case place)
      cases)) z) ws words memory in e) (sym ex)
      ∙ ap (λ p. let e : NEffect = narrow.Go p ws words memory in e) (pairs_found place other x cases)) refl
