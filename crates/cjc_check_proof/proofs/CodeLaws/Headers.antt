-- The header of a method is read as it was written, that of an abstract one too.
use Rattle.std.proofs.Common.{◌≡◌, ℕ, ◌+◌, ◌*◌, ◌/◌, ◌%◌, ◌<◌, refl, ap, arith, Bool, true, false, List, [], ◌∷◌, ◌++◌}
use Rattle.std.proofs.Common.{length, Some}
use Rattle.std.specs.Prelude.{◌==◌, ◌&&◌, nat_lt, if◌then◌else◌}
use Rattle.std.proofs.lemmas.Bool.Decides.{nat_tests}
use Rattle.cjc_capread.specs.MethodHeader.{MethodHeader, is_extended, is_abstract, extended_header, method_header}
use Rattle.cjc_capread.specs.MethodHeader as reading
use Rattle.cjc_ncode.specs.declared.narrow.NMethod.{NMethod}
use Rattle.cjc_ncode.specs.Lowering.Placed as writing
use Rattle.cjc_pool.specs.Emit.Emitted.{header_bytes, is_short}
use Rattle.cjc_components.proofs.EmitShifted.{header_read}
use Rattle.cjc_components.specs.Package.{LaidMethod}
use Rattle.cjc_components.specs.Methods.{header_of, with_abstract}
use Rattle.cjc_bytes.proofs.Bools.{both_front}

-- bytes begin with this header, which tells whether its method is abstract
pub record IsRead (abstract_one : Bool) (header behind : List ℕ) : Type 0 where
  pub says : MethodHeader
  pub read : method_header (header ++ behind) ≡ Some says
  pub size : says.size ≡ length header
  pub is_abstract : says.is_abstract ≡ abstract_one

abstract_short : (stack second : ℕ) (behind : List ℕ) → stack < 16 → IsRead true ((0x40 + stack) ∷ second ∷ []) behind
abstract_short stack second behind lt =
    let z : (64 + stack) / 128 % 2 ≡ 0 = omega (arith, lt) in
    let y : (64 + stack) / 64 % 2 ≡ 1 = omega (arith, lt) in
    record {
      says = reading.short_header (0x40 + stack) second;
      read = ap (λ t. if t then extended_header (0x40 + stack) second behind
          else Some (reading.short_header (0x40 + stack) second)) (ap (λ n. n == 1) z);
      size = refl;
      is_abstract = ap (λ n. n == 1) y;
    }

abstract_extended : (stack nargs locals : ℕ) (behind : List ℕ) → IsRead true (0xC0 ∷ stack ∷ nargs ∷ locals ∷ []) behind
abstract_extended stack nargs locals behind =
    record {
      says = record { max_stack = stack; nargs = nargs; max_locals = locals; is_abstract = true; size = 4 };
      read = refl;
      size = refl;
      is_abstract = refl;
    }

reads_by : (abstract_one : Bool) (m : NMethod) (behind : List ℕ) → IsRead abstract_one (if abstract_one
    then with_abstract (header_bytes m) else header_bytes m) behind
reads_by false m behind = record {
  says = record {
    max_stack = m.max_stack;
    nargs = m.nargs;
    max_locals = m.max_locals;
    is_abstract = false;
    size = length (header_bytes m);
  };
  read = header_read m behind;
  size = refl;
  is_abstract = refl;
}
reads_by true m behind = by (is_short m) refl
  where
    by : (short : Bool) → is_short m ≡ short → IsRead true (with_abstract (if short then writing.short_header m
        else writing.extended_header m)) behind
    by true e =
        let t = both_front (nat_lt m.max_stack 16) (nat_lt m.nargs 16 && nat_lt m.max_locals 16) e in
        let lt : m.max_stack < 16 = grind (arith, nat_tests, t) in
        abstract_short m.max_stack (16 * m.nargs + m.max_locals) behind lt
    by false e = abstract_extended m.max_stack m.nargs m.max_locals behind

pub header_reads : (m : LaidMethod) (behind : List ℕ) → IsRead m.is_abstract (header_of m) behind
header_reads m behind = reads_by m.is_abstract m.code behind
