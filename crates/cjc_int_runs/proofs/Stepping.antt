-- Walks of code by label, instruction by instruction, and how high stacks in int mode are.
use Rattle.std.proofs.Common.{◌≡◌, ℕ, suc, ◌+◌, ◌*◌, ◌≤◌, ◌<◌, refl, ap, ◌∙◌, arith, true, List}
use Rattle.std.proofs.Common.{◌∷◌}
use Rattle.std.proofs.Common.{◌++◌, length}
use Rattle.std.specs.Prelude.{Option, Some, option_map, nat_le, nat_lt, slice_get, if◌then◌else◌}
use Rattle.std.proofs.lemmas.Bool.Decides.{nat_tests}
use Rattle.cjc_script.specs.declared.value.Value.{Value}
use Rattle.cjc_card_semantics.specs.Bytecode.Calculations.{pushed, Fine, Wrong}
use Rattle.cjc_card_semantics.specs.Bytecode.Calculations
use Rattle.cjc_card_semantics.specs.Bytecode.Effects as narrow
use Rattle.cjc_ncode.specs.declared.narrow.NInsn.{NInsn}
use Rattle.cjc_ncode.specs.declared.narrow.NMethod.{NMethod}
use Rattle.cjc_ncode.specs.ByLabel.{Named, by_label, classes, operation}
use Rattle.cjc_jvm_semantics.specs.Linked.{Method, Linked}
use Rattle.cjc_jvm_semantics.specs.Effects.{Store}
use Rattle.cjc_jvm_semantics.specs.Effects as by_name
use Rattle.cjc_int_proof.specs.Walks.{Out, and_then, led_by, done_by, step_from, walk}
use Rattle.cjc_narrow_proof.specs.Selection.Relation.{Kind, Heap, NMemory}
use Rattle.cjc_narrow_proof.specs.Selection.Rows.{NEffect}
use Rattle.cjc_int_runs.specs.Relation.{IntStacks, bottom, number, reference}
use Rattle.cjc_int_runs.specs.Steps.{NSpot, NWalked, spot}

module _ (l : Named) (code : NMethod) where
  -- what an instruction asks at a place
  abbrev pub asked : NInsn → (at : ℕ) → List Value → List (Option Value) → NMemory → NEffect
  asked i at stack locals memory = narrow.effect (classes l) (operation i) code.max_stack (at + 1) locals memory stack

  step_is : (s : NSpot) (i : NInsn) → slice_get code.insns s.at ≡ Some i → step_from (by_label l) code s
      ≡ led_by (by_label l) code s (s.at + 1) (asked i s.at s.stack s.locals s.memory)
  unfolding by_label
  step_is s i e = ap (λ o. done_by (by_label l) code s (option_map (λ insn. record {
    operation = operation insn;
    next = s.at + 1;
  }) o)) e

  -- an instruction that goes on, and what follows it
  pub onward : (n at to : ℕ) (i : NInsn) (stack stack' : List Value) (locals locals' : List (Option Value))
      (memory memory' : NMemory) (w : NWalked) → slice_get code.insns at ≡ Some i
      → asked i at stack locals memory ≡ narrow.Go to stack' locals' memory'
      → walk (by_label l) code n (spot to stack' locals' memory') ≡ w
      → walk (by_label l) code (suc n) (spot at stack locals memory) ≡ w
  onward n at to i stack stack' locals locals' memory memory' w there does rest =
      ap (λ v. and_then v (walk (by_label l) code n)) (step_is (spot at stack locals memory) i there
      ∙ ap (led_by (by_label l) code (spot at stack locals memory) (at + 1)) does) ∙ rest

  -- one that leads out of the frame
  pub led_out : (n at : ℕ) (i : NInsn) (stack : List Value) (locals : List (Option Value)) (memory : NMemory)
      (e : NEffect) → slice_get code.insns at ≡ Some i → asked i at stack locals memory ≡ e
      → led_by (by_label l) code (spot at stack locals memory) (at + 1) e
      ≡ Out (spot at stack locals memory) (at + 1) e
      → walk (by_label l) code (suc n) (spot at stack locals memory) ≡ Out (spot at stack locals memory) (at + 1) e
  led_out n at i stack locals memory e there does out =
      ap (λ v. and_then v (walk (by_label l) code n)) (step_is (spot at stack locals memory) i there
      ∙ ap (led_by (by_label l) code (spot at stack locals memory) (at + 1)) does ∙ out)

  -- one that raises an exception
  pub raised : (n at : ℕ) (i : NInsn) (stack : List Value) (locals : List (Option Value)) (memory : NMemory)
      (fault : Calculations.Fault) → slice_get code.insns at ≡ Some i
      → asked i at stack locals memory ≡ narrow.Raise fault
      → walk (by_label l) code (suc n) (spot at stack locals memory)
      ≡ Out (spot at stack locals memory) (at + 1) (narrow.Raise fault)
  raised n at i stack locals memory fault there does = led_out n at i stack locals memory (narrow.Raise fault) there
      does
      refl

-- ---- heights

-- as many values as cells, and at most two words for each
pub record Heights (ks : List Kind) (vs ws : List Value) : Type 0 where
  pub by_name : length vs ≡ length ks
  pub words : length ws ≤ 2 * length ks

pub heights : {heap : Heap} {ks : List Kind} {vs ws : List Value} → IntStacks heap ks vs ws → Heights ks vs ws
heights bottom = record { by_name = refl; words = omega arith }
heights (number e h rest) = let t = heights rest in let a = t.by_name in let b = t.words in record {
  by_name = omega arith;
  words = omega arith;
}
heights (reference a rest) = let t = heights rest in let b = t.by_name in let c = t.words in record {
  by_name = omega arith;
  words = omega arith;
}

-- ---- pushes

-- a value is pushed by name where there is room
pub push_named : (by : Linked) (m : Method) (at : ℕ) (locals : List (Option Value)) (store : Store) (v : Value)
    (vs : List Value) → length vs < m.max_stack → by_name.push by m at locals store v vs
    ≡ by_name.Go (at + 1) (v ∷ vs) locals store
push_named by m at locals store v vs less =
    let is : nat_lt (length vs) m.max_stack ≡ true = grind (arith, nat_tests, less) in
    ap (λ b. by_name.only_if b (by_name.onward by m at locals store (v ∷ vs))) is

-- and words by label
pub push_words : (new : List Value) (room next : ℕ) (ws : List Value) (words : List (Option Value)) (memory : NMemory)
    → length (new ++ ws) ≤ room → (let e : NEffect = narrow.effect_of_result (pushed new room words ws) next memory in
    e)
    ≡ narrow.Go next (new ++ ws) words memory
push_words new room next ws words memory less =
    let is : nat_le (length (new ++ ws)) room ≡ true = grind (arith, nat_tests, less) in
    ap (λ b. let e : NEffect = narrow.effect_of_result (if b then Fine (new ++ ws) words else Wrong) next memory in e)
    is
