use Rattle.std.proofs.Common.{◌≡◌, ℕ, List, refl, sym, ◌∙◌, subst, ap}
use Rattle.std.specs.Result.{IfOk}
use Rattle.cjc_types.specs.Names.{IsWithin, union}
use Rattle.cjc_types.specs.Working.Merging.{union_same, union_other}
use Rattle.cjc_types.proofs.names.either.Goals as goal

within : (set others a b : List (List ℕ)) → a ≡ set → b ≡ others → IsWithin b a → IsWithin others set
within set others a b is_a is_b h = subst (IsWithin others) is_a (subst (λ (zs : List (List ℕ)). IsWithin zs a) is_b h)

pub returns-then-has_all : goal.returns-then-has_all
returns-then-has_all c =
    let set : List (List ℕ) = c.args.set in
    let others : List (List ℕ) = c.args.others.now in
    let less = within set others c.items.result.now c.items-2.result.now c.items.ensures c.items-2.ensures
    (c.if-has_all.ensures refl) in
    sym (union_same set others c.requires.left c.requires.right less)

pub returns-then-has_all-2 : goal.returns-then-has_all-2
returns-then-has_all-2 c =
    let set : List (List ℕ) = c.args.set in
    let others : List (List ℕ) = c.args.others.now in
    let less = within others set c.items-else-has_all.result.now c.items-else-has_all-2.result.now
    c.items-else-has_all.ensures c.items-else-has_all-2.ensures (c.if-has_all-2.ensures refl) in
    let same : union set others ≡ others = union_other others set c.requires.right c.requires.left
    ∙ union_same others set c.requires.right c.requires.left less in
    subst (λ (zs : List (List ℕ)). IfOk c.shared.result (λ all. all ≡ zs)) (sym same) c.shared.ensures

pub returns-then-items-le8 : goal.returns-then-items-le8
returns-then-items-le8 c =
    let set : List (List ℕ) = c.args.set in
    let others : List (List ℕ) = c.args.others.now in
    let same : union c.items-then-items-le8.result.now set ≡ union set others =
    ap (λ (zs : List (List ℕ)). union zs set) c.items-then-items-le8.ensures
    ∙ union_other set others c.requires.left c.requires.right in
    subst (λ (zs : List (List ℕ)). IfOk c.with_names.result (λ all. all ≡ zs)) same c.with_names.ensures
