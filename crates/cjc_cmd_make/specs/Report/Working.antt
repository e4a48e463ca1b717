-- How what is made comes to its end.
use Rattle.std.specs.Prelude.{◌≡◌, ◌⊎◌, ℕ}
use Rattle.cjc_cmd_card.specs.Bytes.declared.fault.Fault.{Fault}
use Rattle.cjc_cmd_card.specs.Bytes.declared.fault.Fault.TheVariants as faults
use Rattle.cjc_cmd_card.specs.Bytes.declared.fault.Refusal.{Refusal}
use Rattle.cjc_cmd_card.specs.Shelf.Command.Plan.{refused}
use Rattle.cjc_cmd_card.specs.Shelf.declared.command.status.Status.{Status}
use Rattle.cjc_cmd_card.specs.Shelf.declared.command.status.Status.TheVariants as status
use Rattle.cjc_cmd_card.specs.LowerCmdJvm.declared.running.input.Input.{Input}
use Rattle.cjc_cmd_card.specs.Shelf.Shelf.{Files}
use Rattle.cjc_cmd_convert.specs.Conversion.Conversion.{Conversion, IsRefused}
use Rattle.cjc_cmd_make.specs.Report.Runs.{Refuses, RefusesComponents, RefusesRuns, card_end, reads_end}

-- the fault for an end of reads in memory
abbrev pub fault_of : Status → Fault
fault_of (status.Refused r) = faults.Refused r
fault_of status.Done = faults.NoMemory
fault_of status.Usage = faults.NoMemory
fault_of (status.Absent name) = faults.NoMemory
fault_of (status.TooLong name) = faults.NoMemory
fault_of (status.ShelfFault name) = faults.NoMemory
fault_of status.SinkFault = faults.NoMemory
fault_of status.NoMemory = faults.NoMemory

-- The list of these files is refused; or memory ran out.
abbrev pub IsListFault : Files → Fault → Type 0
IsListFault files e = (e ≡ faults.NoMemory) ⊎ ((r : Refusal) × (reads_end files ≡ refused r) × (e ≡ faults.Refused r))

-- The list is refused where it is read again with the components; or memory ran out.
abbrev pub IsReadFault : Files → Fault → Type 0
IsReadFault files e = (e ≡ faults.NoMemory) ⊎ ((r : Refusal) × (card_end files ≡ refused r) × (e ≡ faults.Refused r))

-- The components among these files are refused; or memory ran out.
abbrev pub IsTokenFault : Files → Fault → Type 0
IsTokenFault files e = (e ≡ faults.NoMemory) ⊎ ((r : Refusal) × RefusesComponents files r × (e ≡ faults.Refused r))

-- The runs of what was read and made are refused; or memory ran out.
abbrev pub IsRunsFault : Files → Input → Conversion → Fault → Type 0
IsRunsFault files input made e = (e ≡ faults.NoMemory) ⊎ ((r : Refusal) × RefusesRuns files input made r
    × (e ≡ faults.Refused r))

-- What was read breaks a rule of a conversion; or memory ran out.
abbrev pub IsConversionFault : Input → Fault → Type 0
IsConversionFault input e = (e ≡ faults.NoMemory) ⊎ ((r : Refusal) × IsRefused input.list input.files r
    × (e ≡ faults.Refused r))

-- A rule is broken; or memory ran out.
abbrev pub IsMakeFault : (number size : ℕ) → Fault → Type 0
IsMakeFault number size e = (e ≡ faults.NoMemory) ⊎ ((r : Refusal) × Refuses number size r × (e ≡ faults.Refused r))
