-- What is computed ends the gathering.
use Rattle.std.proofs.Common.{Result, Ok, Err}
use Rattle.cjc_bytes.specs.declared.fault.Refusal.{Refusal}
use Rattle.cjc_shelf.specs.Shelf.{Shelved}
use Rattle.cjc_shelf.specs.declared.command.status.Status.{Status}
use Rattle.cjc_shelf.specs.declared.command.status.Status.TheVariants as status
use Rattle.cjc_shelf.specs.Command.Plan.{has}
use Rattle.cjc_shelf.specs.Command.Gather.{Gathers, Judged}
use Rattle.cjc_shelf.proofs.CommandLaws.Gathering.{gathers_has, gathers_breaks, gathers_no_memory}

pub gathers_judged : {X T : Type 0} (x : X) (Q : X → Result T Refusal → Type 0) (s : Shelved) (result : Result T Status)
    → Judged (Q x) result → Gathers (has x) Q s s result
gathers_judged x Q s (Ok made) j = gathers_has x Q s made j
gathers_judged x Q s (Err (status.Refused r)) j = gathers_breaks x Q s r j
gathers_judged x Q s (Err status.NoMemory) j = gathers_no_memory (has x) Q s
gathers_judged x Q s (Err status.Done) j = absurd j
gathers_judged x Q s (Err status.Usage) j = absurd j
gathers_judged x Q s (Err (status.Absent name)) j = absurd j
gathers_judged x Q s (Err (status.TooLong name)) j = absurd j
gathers_judged x Q s (Err (status.ShelfFault name)) j = absurd j
gathers_judged x Q s (Err status.SinkFault) j = absurd j
