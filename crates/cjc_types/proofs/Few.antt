-- A code has no more instructions than bytes.
use Rattle.std.proofs.Common.{◌≡◌, ◌≤◌, ◌<◌, ◌^◌, ℕ, zero, suc, List, [], ◌∷◌, length, Option, Some, None, Result, Ok}
use Rattle.std.proofs.Common.{Err, refl, sym, ◌∙◌, ap, arith}
use Rattle.cjc_bytes.specs.Rest.{Rest}
use Rattle.cjc_bytes.specs.Found.{each, ◌>>=◌}
use Rattle.cjc_bytes.specs.Reading.{read}
use Rattle.cjc_classfile.specs.Code.{CodeTree}
use Rattle.cjc_classfile.specs.declared.tree.ClassTree.{ClassTree}
use Rattle.cjc_classfile.specs.declared.tree.MethodTree.{MethodTree}
use Rattle.cjc_code.specs.declared.insn.JInsn.{JInsn}
use Rattle.cjc_code.specs.declared.method_code.MethodCode.{MethodCode}
use Rattle.cjc_code.specs.Instruction.{instruction}
use Rattle.cjc_code.specs.Cut.{cut_on, cut_rest, cut}
use Rattle.cjc_code.specs.Named.{named, all_named}
use Rattle.cjc_code.specs.Decoded.{least, unless_unfit, unless_unsupported, of_code, of_method, decoding}
use Rattle.cjc_code.specs.Unfit.{unfit_code}
use Rattle.cjc_world.specs.Files.{Files}
use Rattle.cjc_types.specs.Tables.{IsMethodOf}

cut_few : (n : ℕ) (r : Rest) → length (cut_rest n r).insns ≤ n
unfolding cut_rest
cut_few zero r = omega arith
cut_few (suc n) r = elim (read instruction r) as (λ x. length (cut_on x r.at (λ s. cut_rest n s)).insns ≤ suc n) [
  | Ok x ↦ let rest = cut_few n x.1 in omega (arith, rest)
  | Err k ↦ omega arith
]

each_as_many : {A B : Type 0} (p : A → Result B ℕ) (xs : List A) (ys : List B) → each p xs ≡ Ok ys
    → length ys ≡ length xs
unfolding each
each_as_many p [] [] e = refl
each_as_many p [] (y ∷ ys) e = absurd cc
each_as_many {A} {B} p (x ∷ xs) ys e = go (p x) (each p xs) (each_as_many p xs) e
  where
    go : (a : Result B ℕ) (rest : Result (List B) ℕ) → ((zs : List B) → rest ≡ Ok zs → length zs ≡ length xs)
        → (a >>= λ y. rest >>= λ zs. Ok (y ∷ zs)) ≡ Ok ys → length ys ≡ suc (length xs)
    go (Err k) rest h e = absurd cc
    go (Ok y) (Err k) h e = absurd cc
    go (Ok y) (Ok zs) h e = let same : y ∷ zs ≡ ys = cc in ap length (sym same) ∙ ap suc (h zs refl)

unsupported_ok : (found : Result (List JInsn) ℕ) (insns : List JInsn) → unless_unsupported found ≡ Ok insns
    → found ≡ Ok insns
unsupported_ok (Ok more) insns e = ap Ok (let same : more ≡ insns = cc in same)
unsupported_ok (Err k) insns e = absurd cc

unfit_ok : (k : Option ℕ) (found : Result (List JInsn) ℕ) (insns : List JInsn)
    → unless_unfit k (unless_unsupported found) ≡ Ok insns → found ≡ Ok insns
unfit_ok (Some k) found insns e = absurd cc
unfit_ok None found insns e = unsupported_ok found insns e

named_few : (class : ClassTree) (method : MethodTree) (code : CodeTree) (insns : List JInsn)
    → decoding class method code ≡ Ok insns → length insns ≤ length code.bytes
unfolding decoding all_named cut
named_few class method code insns e =
    let same = each_as_many (named class.pool) (cut code.bytes).insns insns
    (unfit_ok (least (unfit_code class method code)) (all_named class.pool (cut code.bytes).insns) insns e) in
    let few = cut_few (length code.bytes) (record { at = 0; left = code.bytes }) in
    omega (arith, same, few)

pub insns_at_most : (files : Files) (code : MethodCode) (class : ClassTree) (method : MethodTree) (tree : CodeTree)
    → IsMethodOf files code class method tree → length code.insns ≤ 65535
insns_at_most files code class method tree m =
    let found : decoding class method tree ≡ Ok code.insns = sym (ap (of_code class method) m.is_code)
    ∙ sym (ap (of_method class) m.is_method) ∙ m.insns in
    let few = named_few class method tree code.insns found in
    let bytes = m.bytes in
    omega (arith, few, bytes)

pub insns_few : (files : Files) (code : MethodCode) (class : ClassTree) (method : MethodTree) (tree : CodeTree)
    → IsMethodOf files code class method tree → length code.insns < 2 ^ 32
insns_few files code class method tree m = let few = insns_at_most files code class method tree m in omega (arith, few)
