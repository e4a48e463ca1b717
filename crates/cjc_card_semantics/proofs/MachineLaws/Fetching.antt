-- An instruction that stands in a method's code is fetched as its opcode means.
use Rattle.std.proofs.Common.{◌≡◌, ℕ, ◌+◌, ◌≤◌, ap, ◌∙◌, List, ◌++◌}
use Rattle.std.specs.Prelude.{Some, None, option_and_then, slice_get, if◌then◌else◌}
use Rattle.cjc_capread.specs.Opcodes.{Form}
use Rattle.cjc_capread.specs.Decode.{Instruction, decode, emitted, size, IsWritable}
use Rattle.cjc_capread.proofs.Decoding.{decode_emitted}
use Rattle.cjc_card_semantics.specs.Machine.Loaded.{Part, Loaded}
use Rattle.cjc_card_semantics.specs.Machine.Methods.{Code, bytes_from, fetched_as, fetched_within, fetched_in, fetch}
use Rattle.cjc_export.proofs.BytesNumbers.{at_most}

pub fetch_written : (l : Loaded) (code : Code) (at : ℕ) (part : Part) (f : Form) (i : Instruction) (rest : List ℕ)
    → slice_get l.parts code.part ≡ Some part → code.first ≤ at → at + size i ≤ code.end
    → bytes_from part at ≡ emitted f i ++ rest → IsWritable f i
    → fetch l code at ≡ Some (fetched_as l code.part part.pool at i)
fetch_written l code at part f i rest here a b bytes w =
    ap (option_and_then (fetched_in l code at)) here
    ∙ ap (λ t. if t then option_and_then (fetched_within l code at part) (decode (bytes_from part at))
    else None) (at_most code.first at a)
    ∙ ap (λ bs. option_and_then (fetched_within l code at part) (decode bs)) bytes
    ∙ ap (option_and_then (fetched_within l code at part)) (decode_emitted f i rest w)
    ∙ ap (λ t. if t then Some (fetched_as l code.part part.pool at i) else None) (at_most (at + size i) code.end b)
