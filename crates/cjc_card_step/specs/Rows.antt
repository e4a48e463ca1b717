-- What an instruction does, by its operation, and when it has been followed to the offset where it leads.
use Rattle.std.specs.Prelude.{ℕ, List, [], ◌∷◌, Option, Some, None, option_and_then, Bool, true, false, ℤ, pos, negsuc}
use Rattle.cjc_card_semantics.specs.Script.declared.value.Value.{Value}
use Rattle.cjc_card_semantics.specs.CapRead.Decode.{Instruction}
use Rattle.cjc_card_semantics.specs.Bytecode.Calculations.{one_int, one_number}
use Rattle.cjc_card_semantics.specs.Bytecode.Effects.{Stick, effect}
use Rattle.cjc_card_semantics.specs.Bytecode.Meanings.{Use, meaning}
use Rattle.cjc_card_semantics.specs.Machine.Loaded.{Loaded}
use Rattle.cjc_card_semantics.specs.Machine.ByToken.{classes}
use Rattle.cjc_card_semantics.specs.Script.Sorts.{Shape}
use Rattle.cjc_card_semantics.specs.Machine.Classes.{Class}
use Rattle.cjc_card_semantics.specs.Machine.Operations.{Resolved, class_at, entry, operation, or_undone, type_by, using}
use Rattle.cjc_card_frame.specs.declared.opcodes.kinds.Meaning.{Meaning as MeaningData}
use Rattle.cjc_card_frame.specs.declared.opcodes.kinds.Meaning.TheVariants as meanings
use Rattle.cjc_card_frame.specs.Frame.Frames.{AreOperands, Words}
use Rattle.cjc_card_frame.specs.Kinds.{pool_of}
use Rattle.cjc_card_step.specs.Effects.Deeds.{EffectByToken, Follows, MemoryByToken, Row}
use Rattle.cjc_card_step.specs.declared.steps.instruction.Step.{Step}

-- what an operation does, where the stack may have so many words
abbrev pub row_of : Loaded → Resolved → (room : ℕ) → Row
row_of l o room next locals m stack = effect (classes l) o room next locals m stack

-- what is done with the entry of an index
abbrev pub used : Loaded → (part : ℕ) → Use → (index : ℤ) → Resolved
used l p how index = or_undone (option_and_then (using l p how) (entry (pool_of l p) index))

-- what an instruction at an offset does
abbrev pub operation_at : Loaded → (part at : ℕ) → Instruction → Resolved
operation_at l p at i = operation l p (pool_of l p) at (meaning i.opcode) i.operands i.table

-- a number that is not negative
abbrev pub natural : ℤ → Option ℕ
natural (pos n) = Some n
natural (negsuc n) = None

-- the type of a number and the entry of an index, as checkcast and instanceof name it
abbrev pub target_of : Loaded → (part : ℕ) → (operands : List ℤ) → Option (Shape Class)
target_of l p (z ∷ index ∷ []) = option_and_then (λ n. type_by n (class_at l p (entry (pool_of l p) index))) (natural z)
target_of l p operands = None

-- the number that a switch takes
abbrev pub picked : (is_int : Bool) → List Value → (ℤ → List Value → EffectByToken) → EffectByToken
picked false stack go = one_number Stick stack go
picked true stack go = one_int Stick stack go

-- it may lead elsewhere than behind itself
abbrev pub is_jump : MeaningData → Bool
is_jump (meanings.Branch condition) = true
is_jump (meanings.Ranged is_int) = true
is_jump (meanings.Paired is_int) = true
is_jump m = false

-- the operands of a calculation are some that bytes give it
abbrev pub AreMeant : MeaningData → (operands : List ℤ) → Type 0
AreMeant (meanings.Plain calculation) operands = AreOperands calculation operands
AreMeant m operands = Unit {0}

-- An effect has been followed to where it leads.
abbrev pub IsStep : EffectByToken → Step → (old new : Words) (m m' : MemoryByToken) → Type 0
IsStep e step old new m m' = Follows e step.deed step.to old new m m'
