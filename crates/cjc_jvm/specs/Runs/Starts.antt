-- What the next entry of a script leaves.
use Rattle.std.specs.Prelude.{◌≡◌, [], ◌∷◌}
use Rattle.cjc_jvm_step.specs.CardSemantics.Bytecode.Runs.{Move, On, Over}
use Rattle.cjc_jvm_semantics.specs.Machine.{State, report}
use Rattle.cjc_jvm.specs.declared.runs.entries.Begun.{Begun}
use Rattle.cjc_jvm.specs.declared.runs.entries.Begun.TheVariants.{Frame, Ended}

-- an entry begins with this frame, or ends the run, where the rest is this state
abbrev pub Starts : Move State → Begun → State → Type 0
Starts move (Frame f) s = move ≡ On (record s { frames = f ∷ [] })
Starts move (Ended o) s = move ≡ Over (report o s)
