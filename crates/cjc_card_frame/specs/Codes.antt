-- The instruction at an offset by the bytes of a package's methods alone.
use Rattle.std.specs.Prelude.{ℕ, ◌+◌, ◌-◌, List, [], drop, Option, Some, None, option_and_then, nat_le, if◌then◌else◌}
use Rattle.cjc_card_semantics.specs.CapRead.Decode.{Instruction, decode, size}

-- the bytes from an offset on, where the first of the methods has another
abbrev pub bytes_at : (methods : List ℕ) (begin at : ℕ) → List ℕ
bytes_at methods begin at = if nat_le begin at then drop (at - begin) methods else []

-- an instruction that ends inside the code
abbrev pub within : (end at : ℕ) → Instruction → Option Instruction
within end at i = if nat_le (at + size i) end then Some i else None

-- The instruction at an offset, where all of it lies between the offsets where code begins and ends.
abbrev pub insn_at : (methods : List ℕ) (begin first end at : ℕ) → Option Instruction
insn_at methods begin first end at = if nat_le first at
    then option_and_then (within end at) (decode (bytes_at methods begin at)) else None
