use Rattle.std.proofs.Common.{◌≡◌, ◌==◌, true, false, ap, sym, ◌∙◌, arith}
use Rattle.std.specs.Prelude.{option_map}
use Rattle.std.proofs.lemmas.Bool.Decides.{nat_tests}
use Rattle.cjc_capread.specs.Decoder.Decoded.{header_of}
use Rattle.cjc_check.proofs.CodesLaws.Walks.{both, elsewhere, followed_is, no_header, with_its_header}
use Rattle.cjc_check.proofs.codes.cutting.body_at.Goals as goal

pub returns-then-method-from-clause-is : goal.returns-then-method-from-clause-is
returns-then-method-from-clause-is c =
    let h = c.if-method-from.true in
    let e = c.from.ensures in
    let other : (c.args.method.offset == c.args.at) ≡ false = grind (arith, nat_tests, h, e) in
    λ ms. elsewhere c.args.at c.args.method ms c.args.bytes.now other

pub returns-in-Some-clause-is : goal.returns-in-Some-clause-is
returns-in-Some-clause-is c =
    let h = c.if-method-from.false in
    let e = c.from.ensures in
    let same : (c.args.method.offset == c.args.at) ≡ true = grind (arith, nat_tests, h, e) in
    let header = header_of c.in-Some.header in
    let at = c.args.at in
    let count = c.args.method.bytecode_count in
    both c.behind_header.result _ _ _
    (λ s is end ms. with_its_header at c.args.method ms c.args.bytes.now header same (sym c.method_header.ensures.is
    ∙ ap (option_map header_of) c.in-Some.is) ∙ is _ ∙ followed_is s at header.size count ms c.args.bytes.now end)
    c.behind_header.ensures.is c.behind_header.ensures.end

pub returns-in-None-clause-is : goal.returns-in-None-clause-is
returns-in-None-clause-is c =
    let h = c.if-method-from.false in
    let e = c.from.ensures in
    let same : (c.args.method.offset == c.args.at) ≡ true = grind (arith, nat_tests, h, e) in
    λ ms. no_header c.args.at c.args.method ms c.args.bytes.now same (sym c.method_header.ensures.is
    ∙ ap (option_map header_of) c.in-None.is)
