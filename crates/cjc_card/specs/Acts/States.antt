-- The types of the machine by token under short names: settings, frames, states and turns, as contracts of
-- running code say them.
use Rattle.std.specs.Prelude.{List}
use Rattle.cjc_card_semantics.specs.Bytecode.Effects.{HeapObject}
use Rattle.cjc_card_semantics.specs.Bytecode.Machine.{Setting, State, Turn}
use Rattle.cjc_card_semantics.specs.Bytecode.Machine
use Rattle.cjc_card_semantics.specs.Machine.Loaded.{Loaded}
use Rattle.cjc_card_semantics.specs.Machine.Classes.{Class, Field}
use Rattle.cjc_card_semantics.specs.Machine.Statics.{Image, StaticCell}
use Rattle.cjc_card_semantics.specs.Machine.Operations.{Callee}
use Rattle.cjc_card_semantics.specs.Machine.Methods.{Code}

-- the look-ups that the machine asks
abbrev pub SettingByToken : Type 0
SettingByToken = Setting Code Class Field StaticCell Callee (List Image)

-- a method under way
abbrev pub FrameByToken : Type 0
FrameByToken = Machine.Frame Code

-- a state
abbrev pub StateByToken : Type 0
StateByToken = State Code Class Field (List Image)

-- where a step of the run leads
abbrev pub TurnByToken : Type 0
TurnByToken = Turn Code Class Field (List Image)

-- arrays and objects
abbrev pub HeapByToken : Type 0
HeapByToken = List (HeapObject Class Field)
