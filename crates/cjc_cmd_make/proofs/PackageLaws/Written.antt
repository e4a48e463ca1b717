-- What was put piece by piece is what the definition has in one.
use Rattle.std.proofs.Common.{◌≡◌, ℕ, ◌+◌, List, [], ◌∷◌, ◌++◌, length, sym, ap, ◌∙◌, append_assoc}
use Rattle.std.specs.List.{flat_map}
use Rattle.std.proofs.lemmas.List.{append-nil}
use Rattle.cjc_cmd_make.specs.Package.Code.{CodeAttribute}
use Rattle.cjc_cmd_make.specs.Package.ClassFile.{two, four, constant_bytes, code_bytes, attribute_bytes, method_bytes}
use Rattle.cjc_cmd_make.specs.Package.ClassFile.{file_bytes}
use Rattle.cjc_cmd_make.specs.Package.Classes.{constants, constructor, mixes, calls, class_named}

-- three items, one behind the other
pub three_put : {X A : Type 0} (f : X → List A) (out p q new : List A) (a b c : X) → p ≡ out ++ f a → q ≡ p ++ f b
    → new ≡ q ++ f c → new ≡ out ++ flat_map f (a ∷ b ∷ c ∷ [])
three_put {A = A} f out p q new a b c first second third =
    let all : new ≡ ((out ++ f a) ++ f b) ++ f c = third ∙ ap (λ (o : List A). o ++ f c) (second ∙ ap (λ (o : List A). o
    ++ f b) first) in
    all ∙ (append_assoc (out ++ f a) (f b) (f c) ∙ (append_assoc out (f a) (f b ++ f c) ∙ ap (λ (t : List A). out
    ++ (f a ++ (f b ++ t))) (sym (append-nil (f c)))))

-- four pieces and what stands behind them
pieces : (out a b c d behind : List ℕ) → (out ++ (a ++ (b ++ (c ++ d)))) ++ behind ≡ out
    ++ (a ++ (b ++ (c ++ (d ++ behind))))
pieces out a b c d behind =
    append_assoc out (a ++ (b ++ (c ++ d))) behind ∙ ap (λ (t : List ℕ). out ++ t) (
    append_assoc a (b ++ (c ++ d)) behind ∙ ap (λ (t : List ℕ). a ++ t) (append_assoc b (c ++ d) behind
    ∙ ap (λ (t : List ℕ). b ++ t) (append_assoc c d behind)))

-- an attribute Code
pub attribute_put : (c : CodeAttribute) (out front new bytes : List ℕ) → bytes ≡ code_bytes c.instructions
    → front ≡ out ++ (two c.name ++ (four (12 + length bytes) ++ (two c.max_stack ++ two c.max_locals))) → new ≡ front
    ++ (four (length bytes) ++ (bytes ++ (two 0 ++ two 0)))
    → new ≡ out ++ attribute_bytes c
unfolding attribute_bytes
attribute_put c out front new bytes is before behind =
    let tail : List ℕ → List ℕ = λ bs. four (length bs) ++ (bs ++ (two 0 ++ two 0)) in
    let whole : List ℕ → List ℕ = λ bs. out
    ++ (two c.name ++ (four (12 + length bs) ++ (two c.max_stack ++ (two c.max_locals ++ tail bs)))) in
    behind ∙ (ap (λ (o : List ℕ). o ++ tail bytes) before
    ∙ (pieces out (two c.name) (four (12 + length bytes)) (two c.max_stack) (two c.max_locals) (tail bytes)
    ∙ ap whole is))

-- a class file
pub file_put : (name superclass : List ℕ) (a m : ℕ) (out top methods new : List ℕ)
    → top ≡ out ++ (four 0xCAFEBABE
    ++ (two 0 ++ (two 52 ++ (two 16 ++ (flat_map constant_bytes (constants name superclass)
    ++ (two 33 ++ (two 2 ++ (two 4 ++ (two 0 ++ (two 0 ++ two 3))))))))))
    → methods ≡ top ++ flat_map method_bytes (constructor ∷ mixes a m ∷ calls ∷ []) → new ≡ methods ++ two 0 → new ≡ out
    ++ file_bytes (class_named name superclass a m)
unfolding file_bytes
file_put name superclass a m out top methods new before between behind =
    let pool : List ℕ = flat_map constant_bytes (constants name superclass) in
    let items : List ℕ = two 33 ++ (two 2 ++ (two 4 ++ (two 0 ++ (two 0 ++ two 3)))) in
    let head : List ℕ → List ℕ = λ t. four 0xCAFEBABE ++ (two 0 ++ (two 52 ++ (two 16 ++ t))) in
    let codes : List ℕ = flat_map method_bytes (constructor ∷ mixes a m ∷ calls ∷ []) in
    let all : new ≡ ((out ++ head (pool ++ items)) ++ codes) ++ two 0 = behind ∙ ap (λ (o : List ℕ). o
    ++ two 0) (between ∙ ap (λ (o : List ℕ). o ++ codes) before) in
    all ∙ (append_assoc (out ++ head (pool ++ items)) codes (two 0) ∙ (append_assoc out (head (pool ++ items)) (codes
    ++ two 0)
    ∙ ap (λ (t : List ℕ). out ++ head t) (append_assoc pool items (codes ++ two 0))))
