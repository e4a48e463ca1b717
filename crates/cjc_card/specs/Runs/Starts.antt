-- What the next entry of a script leaves, and what follows a step of a run.
use Rattle.std.specs.Prelude.{◌≡◌, List, [], ◌∷◌, Bool, true, false, if◌then◌else◌}
use Rattle.cjc_script.specs.declared.value.Value.{Value}
use Rattle.cjc_script.specs.declared.value.Value.TheVariants.{Obj}
use Rattle.cjc_script.specs.declared.script.Entry.{Entry}
use Rattle.cjc_script.specs.declared.report.Outcome.TheVariants.{Stuck}
use Rattle.cjc_script.specs.declared.report.Report.{Report}
use Rattle.cjc_card_semantics.specs.Bytecode.Machine.{Next, Ended, report}
use Rattle.cjc_card_semantics.specs.Machine.Loaded.{Loaded}
use Rattle.cjc_card_semantics.specs.Machine.ByToken.{by_token}
use Rattle.cjc_card.specs.Acts.States.{StateByToken, TurnByToken}
use Rattle.cjc_card.specs.declared.turns.after.After.{After}
use Rattle.cjc_card.specs.declared.turns.after.After.TheVariants as afters
use Rattle.cjc_card.specs.States.{with_frame}
use Rattle.cjc_card.specs.declared.runs.entries.Begun.{Begun}
use Rattle.cjc_card.specs.declared.runs.entries.Begun.TheVariants as begun

-- an entry begins with this frame, or ends the run, where the rest is this state; what has ended keeps the entries that
-- it had
abbrev pub Starts : (had : List Entry) → TurnByToken → Begun → StateByToken → Type 0
Starts had turn (begun.Frame f) s = turn ≡ Next (record s { frames = f ∷ [] })
Starts had turn (begun.Ended o) s = turn ≡ Ended o (record s { entries = had })

-- an array or object is the first of these values
abbrev pub is_object_first : List Value → Bool
is_object_first (Obj k ∷ args) = true
is_object_first args = false

-- an entry that is sent is sent to an array or object
abbrev pub has_receiver : Entry → Bool
has_receiver e = if e.virtual_call then is_object_first e.args else true

-- the report of a step, or of what follows it
abbrev pub goes_on : Loaded → After → StateByToken → (StateByToken → Report) → Report
goes_on l (afters.On top) s go = go (with_frame top s)
goes_on l (afters.Ended o) s go = report (by_token l) o s
goes_on l (afters.Stuck at) s go = report (by_token l) (Stuck at) s
