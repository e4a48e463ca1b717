-- What is fetched, by the bytes of the methods.
use Rattle.std.proofs.Common.{◌≡◌, ℕ, ◌+◌, refl, ap, ◌∙◌, Bool, true, false}
use Rattle.std.specs.Prelude.{Option, Some, None, option_map, option_and_then, nat_le, slice_get, if◌then◌else◌}
use Rattle.cjc_card_semantics.specs.CapRead.Decode.{Instruction, decode, size}
use Rattle.cjc_card_semantics.specs.Machine.Loaded.{Loaded, Part}
use Rattle.cjc_card_semantics.specs.Machine.Methods.{Code, fetch, fetched_as, fetched_within, fetched_in, bytes_from}
use Rattle.cjc_card_semantics.specs.Machine.Methods.{methods_begin}
use Rattle.cjc_card_frame.specs.Codes.{within, insn_at}

module _ (l : Loaded) (code : Code) (part : Part) (at : ℕ) where
  ends : (t : Bool) (i : Instruction) → (if t then Some (fetched_as l code.part part.pool at i) else None)
      ≡ option_map (fetched_as l code.part part.pool at) (if t then Some i else None)
  ends true i = refl
  ends false i = refl

  decoded : (o : Option Instruction) → option_and_then (fetched_within l code at part) o
      ≡ option_map (fetched_as l code.part part.pool at) (option_and_then (within code.end at) o)
  decoded None = refl
  decoded (Some i) = ends (nat_le (at + size i) code.end) i

  begins : (t : Bool) (o : Option Instruction) → (if t then option_and_then (fetched_within l code at part) o else None)
      ≡ option_map (fetched_as l code.part part.pool at) (if t then option_and_then (within code.end at) o else None)
  begins true o = decoded o
  begins false o = refl

  pub by_bytes : slice_get l.parts code.part ≡ Some part
      → fetch l code at ≡ option_map (fetched_as l code.part part.pool at) (insn_at part.method.methods
      (methods_begin part) code.first code.end at)
  by_bytes e = ap (λ o. option_and_then (fetched_in l code at) o) e
      ∙ begins (nat_le code.first at) (decode (bytes_from part at))
