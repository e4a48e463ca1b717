-- What a header of nibbles says.
use Rattle.std.proofs.Common.{◌≡◌, ℕ, ◌+◌, ◌*◌, ◌/◌, ◌%◌, ◌<◌, ap, ◌∙◌, arith, Bool, true, false, List, ◌∷◌}
use Rattle.std.specs.Prelude.{Option, Some, ◌==◌, if◌then◌else◌}
use Rattle.std.proofs.lemmas.Bool.Decides.{nat_tests}
use Rattle.cjc_capread.specs.MethodHeader.{MethodHeader, is_extended, is_abstract, short_header, extended_header}
use Rattle.cjc_capread.specs.MethodHeader.{method_header}

pub short_read : (stack nargs locals : ℕ) (rest : List ℕ) → stack < 16 → nargs < 16 → locals < 16
    → method_header (stack ∷ (16 * nargs + locals) ∷ rest) ≡ Some (record {
      max_stack = stack;
      nargs = nargs;
      max_locals = locals;
      is_abstract = false;
      size = 2;
    })
short_read stack nargs locals rest hs hn hl =
    let second = 16 * nargs + locals in
    let z : stack / 128 % 2 ≡ 0 = omega arith in
    let y : stack / 64 % 2 ≡ 0 = omega arith in
    let e : is_extended stack ≡ false = ap (λ n. n == 1) z in
    let a : is_abstract stack ≡ false = ap (λ n. n == 1) y in
    let m : stack % 16 ≡ stack = omega arith in
    let n : second / 16 ≡ nargs = omega arith in
    let l : second % 16 ≡ locals = omega arith in
    ap (λ t. if t then extended_header stack second rest else Some (short_header stack second)) e
    ∙ ap (λ t. Some (record {
      max_stack = stack % 16;
      nargs = second / 16;
      max_locals = second % 16;
      is_abstract = t;
      size = 2;
    })) a
    ∙ ap (λ t. Some (record {
      max_stack = t;
      nargs = second / 16;
      max_locals = second % 16;
      is_abstract = false;
      size = 2;
    })) m
    ∙ ap (λ t. Some (record { max_stack = stack; nargs = t; max_locals = second % 16; is_abstract = false; size = 2 }))
    n
    ∙ ap (λ t. Some (record { max_stack = stack; nargs = nargs; max_locals = t; is_abstract = false; size = 2 })) l
