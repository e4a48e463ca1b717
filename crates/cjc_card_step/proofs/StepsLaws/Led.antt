-- Where switches lead.
use Rattle.std.proofs.Common.{◌≡◌, ℕ, List, refl, sym, ap, subst, ◌∙◌, Bool, true, false}
use Rattle.std.specs.Prelude.{◌⊎◌, IfOk, Result, Ok, Err}
use Rattle.cjc_card_semantics.specs.Script.declared.value.Value.{Value}
use Rattle.cjc_card_semantics.specs.Bytecode.Effects.{Arm, Pick, arm_of}
use Rattle.cjc_card_semantics.specs.Bytecode.Effects
use Rattle.cjc_card_semantics.specs.CapRead.Decode.{Instruction}
use Rattle.cjc_card_frame.specs.declared.opcodes.kinds.Condition.{Condition}
use Rattle.cjc_card_frame.specs.declared.opcodes.kinds.Meaning.{Meaning as MeaningData}
use Rattle.cjc_card_frame.specs.declared.opcodes.kinds.Meaning.TheVariants as meanings
use Rattle.cjc_card_frame.specs.Meanings.{is_literal}
use Rattle.cjc_card_semantics.specs.Machine.Loaded.{Loaded}
use Rattle.cjc_card_semantics.specs.Machine.Operations.{Resolved}
use Rattle.cjc_card_frame.specs.Kinds.{IsDecoded}
use Rattle.cjc_card_frame.specs.Frame.Frames.{Words}
use Rattle.cjc_card_step.specs.declared.effects.deed.Deed.{Deed}
use Rattle.cjc_card_step.specs.declared.effects.deed.Deed.TheVariants.{Go}
use Rattle.cjc_card_step.specs.Effects.Deeds.{EffectByToken, Follows, MemoryByToken}
use Rattle.cjc_card_step.specs.declared.steps.instruction.Step.{Step}
use Rattle.cjc_card_step.specs.Rows.{AreMeant, IsStep, is_jump, picked, row_of}
use Rattle.cjc_card_step.proofs.StepsLaws.Literals.{are_operands}

-- of a result that is there, both
pub both : {T E : Type 0} (r : Result T E) (P Q : T → Type 0) → IfOk r P → IfOk r Q → IfOk r (λ x. P x × Q x)
both (Ok x) P Q p q = (p, q)
both (Err e) P Q p q = p

-- a switch by the number that it takes
pub pick_as : (l : Loaded) (is_int : Bool) (other : ℕ) (arms : List Arm) (room next : ℕ) (w : Words) (m : MemoryByToken)
    → row_of l (Pick is_int other arms) room next w.locals m w.stack
    ≡ picked is_int w.stack (λ x rest. Effects.Go (arm_of other arms x) rest w.locals m)
pick_as l false other arms room next w m = refl
pick_as l true other arms room next w m = refl

-- going on at an offset
pub led : (e : EffectByToken) (step : Step) (to : ℕ) (old new : Words) (m : MemoryByToken) → (step.deed ≡ Go)
    × (step.to ≡ to) → e ≡ Effects.Go to new.stack new.locals m → IsStep e step old new m m
led e step to old new m is h =
    subst (λ (d : Deed). Follows e d step.to old new m m) (sym is.0) (subst (λ n. Follows e Go n old new m m) (sym is.1)
    (record { same = h; keeps = tt }))

-- a step of an operation that is another
pub step_as : (l : Loaded) (o p : Resolved) (room next : ℕ) (step : Step) (old new : Words) (m m' : MemoryByToken)
    → o ≡ p → IsStep (row_of l p room next old.locals m old.stack) step old new m m'
    → IsStep (row_of l o room next old.locals m old.stack) step old new m m'
step_as l o p room next step old new m m' e h =
    subst (λ (q : Resolved). IsStep (row_of l q room next old.locals m old.stack) step old new m m') (sym e) h

-- what is no jump and no switch
pub no_jump : (m : MeaningData) → ((x : Condition) → m ≡ meanings.Branch x → ⊥) → ((t : Bool) → m ≡ meanings.Ranged t
    → ⊥) → ((t : Bool) → m ≡ meanings.Paired t → ⊥) → is_jump m ≡ false
no_jump (meanings.Branch x) a b c = absurd (a x refl)
no_jump (meanings.Ranged t) a b c = absurd (b t refl)
no_jump (meanings.Paired t) a b c = absurd (c t refl)
no_jump m a b c = refl

-- operands are some that bytes give a meaning
pub are_meant : (m : MeaningData) (i : Instruction) → IsDecoded i → (is_literal m ≡ true → (i.opcode ≡ 16)
    ⊎ (i.opcode ≡ 17)) → AreMeant m i.operands
are_meant (meanings.Plain calculation) i d is = are_operands calculation i d is
are_meant m i d is = tt
