-- An instruction that is fetched stands at the front of some bytes.
use Rattle.std.proofs.Common.{◌≡◌, ℕ, ◌+◌, List, refl, sym, ap, ◌∙◌, Bool, true, false, Option, Some, None}
use Rattle.std.specs.Prelude.{option_map, option_and_then, nat_le, if◌then◌else◌, IfSome, slice_get}
use Rattle.cjc_card_semantics.specs.CapRead.Decode.{Instruction, decode, size}
use Rattle.cjc_card_semantics.specs.CapRead.declared.decoder.insn.Insn.{Insn}
use Rattle.cjc_card_semantics.specs.CapRead.Decoder.Decoded.{instruction_of}
use Rattle.cjc_card_frame.specs.Codes.{bytes_at, insn_at, within}
use Rattle.cjc_card_semantics.specs.Machine.Loaded.{Part, Loaded}
use Rattle.cjc_card_semantics.specs.Machine.Methods.{Code, fetch, fetched_as, methods_begin}
use Rattle.cjc_card_frame.specs.Kinds.{IsDecoded, pool_in, pool_of}

in_code : (b : Bool) (i j : Instruction) → (if b then Some i else None) ≡ Some j → i ≡ j
in_code true i j e = cc
in_code false i j e = absurd (cc)

from_bytes : (bytes : List ℕ) (end at : ℕ) (o : Option Instruction) (i : Instruction) → decode bytes ≡ o
    → option_and_then (within end at) o ≡ Some i → IsDecoded i
from_bytes bytes end at None i d e = absurd (cc)
from_bytes bytes end at (Some j) i d e = (bytes, d ∙ ap (λ x. Some x) (in_code (nat_le (at + size j) end) j i e))

by_first : (b : Bool) (bytes : List ℕ) (end at : ℕ) (i : Instruction)
    → (if b then option_and_then (within end at) (decode bytes) else None) ≡ Some i → IsDecoded i
by_first true bytes end at i e = from_bytes bytes end at (decode bytes) i refl e
by_first false bytes end at i e = absurd (cc)

pub is_decoded : (methods : List ℕ) (begin first end at : ℕ) (r : Option Insn) → option_map instruction_of r
    ≡ insn_at methods begin first end at → IfSome r (λ i. IsDecoded (instruction_of i))
is_decoded methods begin first end at None e = tt
is_decoded methods begin first end at (Some i) e = by_first (nat_le first at) (bytes_at methods begin at) end at
    (instruction_of i) (sym e)

-- what is fetched of a package that is there
pub fetched_here : (l : Loaded) (part : Part) (code : Code) (at : ℕ) (r : Option Instruction)
    → slice_get l.parts code.part ≡ Some part
    → r ≡ insn_at part.method.methods (methods_begin part) code.first code.end at
    → fetch l code at ≡ option_map (fetched_as l code.part part.pool at)
    (insn_at part.method.methods (methods_begin part) code.first code.end at)
    → option_map (fetched_as l code.part (pool_of l code.part) at) r ≡ fetch l code at
fetched_here l part code at r here is law =
    ap (λ (o : Option Part). option_map (fetched_as l code.part (pool_in o) at) r) here
    ∙ ap (option_map (fetched_as l code.part part.pool at)) is
    ∙ sym law
