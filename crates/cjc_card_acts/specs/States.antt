-- The types of the machine by token under short names: settings, frames, states and turns, as contracts of
-- running code say them.
use Rattle.std.specs.Prelude.{List}
use Rattle.cjc_bytecode.specs.Effects.{HeapObject}
use Rattle.cjc_bytecode.specs.Machine.{Setting, State, Turn}
use Rattle.cjc_bytecode.specs.Machine
use Rattle.cjc_card.specs.Loaded.{Loaded}
use Rattle.cjc_card.specs.Classes.{Class, Field}
use Rattle.cjc_card.specs.Statics.{Image, StaticCell}
use Rattle.cjc_card.specs.Operations.{Callee}
use Rattle.cjc_card.specs.Methods.{Code}

-- the look-ups that the machine asks
abbrev pub SettingByToken : Type 0
SettingByToken = Setting Code Class Field StaticCell Callee (List Image)

-- a method under way
abbrev pub FrameByToken : Type 0
FrameByToken = Machine.Frame Code

-- a state
abbrev pub StateByToken : Type 0
StateByToken = State Code Class Field (List Image)

-- where a step of the run leads
abbrev pub TurnByToken : Type 0
TurnByToken = Turn Code Class Field (List Image)

-- arrays and objects
abbrev pub HeapByToken : Type 0
HeapByToken = List (HeapObject Class Field)
