-- Headers are read as their methods say, those of abstract methods too.
use Rattle.std.proofs.Common.{◌≡◌, ℕ, ◌+◌, ◌*◌, ◌/◌, ◌%◌, ◌<◌, refl, ap, ◌∙◌, arith, Bool, true, false, List, ◌∷◌}
use Rattle.std.specs.Prelude.{Some, ◌==◌, nat_lt, if◌then◌else◌}
use Rattle.cjc_card_semantics.specs.CapRead.MethodHeader.{is_extended, is_abstract, short_header, extended_header}
use Rattle.cjc_card_semantics.specs.CapRead.MethodHeader.{method_header}
use Rattle.cjc_card_semantics.proofs.CapReadHeaders.{short_read}
use Rattle.cjc_components.specs.Methods.{header_of, in_table_order, with_abstract}
use Rattle.cjc_components.specs.Package.{LaidMethod}
use Rattle.cjc_components.specs.LowerEmit.Emitted.{is_short}
use Rattle.cjc_ncode.specs.Lowering.Placed as placed
use Rattle.cjc_ncode.specs.Lowering.Placed.{IsHeader}
use Rattle.cjc_ncode.specs.declared.narrow.NMethod.{NMethod}
use Rattle.cjc_bytes.proofs.Bools.{both_front, both_back}
use Rattle.cjc_bytes.proofs.Numbers.{number_below}

abstract_read : (stack nargs locals : ℕ) (rest : List ℕ) → stack < 16 → nargs < 16 → locals < 16
    → method_header ((0x40 + stack) ∷ (16 * nargs + locals) ∷ rest) ≡ Some (record {
      max_stack = stack;
      nargs = nargs;
      max_locals = locals;
      is_abstract = true;
      size = 2;
    })
abstract_read stack nargs locals rest hs hn hl =
    let first = 64 + stack in
    let second = 16 * nargs + locals in
    let z : first / 128 % 2 ≡ 0 = omega arith in
    let y : first / 64 % 2 ≡ 1 = omega arith in
    let e : is_extended first ≡ false = ap (λ n. n == 1) z in
    let a : is_abstract first ≡ true = ap (λ n. n == 1) y in
    let m : first % 16 ≡ stack = omega arith in
    let n : second / 16 ≡ nargs = omega arith in
    let l : second % 16 ≡ locals = omega arith in
    ap (λ t. if t then extended_header first second rest else Some (short_header first second)) e
    ∙ ap (λ t. Some (record {
      max_stack = first % 16;
      nargs = second / 16;
      max_locals = second % 16;
      is_abstract = t;
      size = 2;
    })) a
    ∙ ap (λ t. Some (record {
      max_stack = t;
      nargs = second / 16;
      max_locals = second % 16;
      is_abstract = true;
      size = 2;
    })) m
    ∙ ap (λ t. Some (record { max_stack = stack; nargs = t; max_locals = second % 16; is_abstract = true; size = 2 })) n
    ∙ ap (λ t. Some (record { max_stack = stack; nargs = nargs; max_locals = t; is_abstract = true; size = 2 })) l

read_by : (a s : Bool) (m : NMethod) → is_short m ≡ s
    → IsHeader a m (if a then with_abstract (if s then placed.short_header m else placed.extended_header m)
    else (if s then placed.short_header m else placed.extended_header m))
read_by true true m e behind =
    let more = both_back (nat_lt m.max_stack 16) _ e in
    abstract_read m.max_stack m.nargs m.max_locals behind (number_below m.max_stack 16 (both_front _ _ e))
    (number_below m.nargs 16 (both_front _ _ more)) (number_below m.max_locals 16 (both_back
    (nat_lt m.nargs 16) _ more))
read_by true false m e behind = refl
read_by false true m e behind =
    let more = both_back (nat_lt m.max_stack 16) _ e in
    short_read m.max_stack m.nargs m.max_locals behind (number_below m.max_stack 16 (both_front _ _ e))
    (number_below m.nargs 16 (both_front _ _ more)) (number_below m.max_locals 16 (both_back
    (nat_lt m.nargs 16) _ more))
read_by false false m e behind = refl

pub header_read : (m : LaidMethod) → IsHeader m.is_abstract (in_table_order m.code) (header_of m)
header_read m = read_by m.is_abstract (is_short m.code) m.code refl
