use Rattle.std.proofs.Common.{◌≡◌, ℕ, ◌+◌, ◌<◌, sym, ap, ◌∙◌, List, [], ◌∷◌, ◌++◌, length, drop, get_or}
use Rattle.std.proofs.Common.{append_assoc, append-nil}
use Rattle.std.specs.Prelude.{map}
use Rattle.std.proofs.lemmas.List.{drop_all}
use Rattle.cjc_bytes.proofs.Gets.{from_index, same_item}
use Rattle.cjc_narrow.specs.Rows.Selected.{near_fields}
use Rattle.cjc_int_package.specs.Written.{code_by_mode_at}
use Rattle.cjc_methods.proofs.selecting.codes_at.Goals as goal

-- one more of what is made of each
next_of : {A B : Type 0} (f : A → B) (xs : List A) (k : ℕ) (a : A) (out new : List B) (b : B) → k < length xs
    → a ≡ get_or xs k a → b ≡ f a → new ≡ out ++ b ∷ [] → out ++ map f (drop k xs) ≡ map f xs
    → new ++ map f (drop (k + 1) xs) ≡ map f xs
next_of f xs k a out new b lt is made put so_far =
    ap (λ front. front ++ map f (drop (k + 1) xs)) put
    ∙ append_assoc out (b ∷ []) (map f (drop (k + 1) xs))
    ∙ ap (λ x. out ++ x ∷ map f (drop (k + 1) xs)) (made ∙ ap f is)
    ∙ ap (λ ys. out ++ map f ys) (sym (from_index xs k a lt))
    ∙ so_far

pub loop-member-preserved : goal.loop-member-preserved
loop-member-preserved c = λ t told.
    let k = c.loop-member.member-index in
    let members = c.args.members.now in
    next_of (code_by_mode_at c.args.world.now (near_fields c.args.pool.now) t) members k _ c.loop-member.out
    c.push.new.self c.in_ok-code_at.field-0 c.loop-member-test.true (same_item members k _ c.loop-member-test.true)
    (c.in_ok-code_at.ensures t told) c.in_ok-push.ensures.ok (c.loop-member.invariant t told)

pub returns : goal.returns
returns c = λ t told.
    let out = c.loop-member.out in
    let f = code_by_mode_at c.args.world.now (near_fields c.args.pool.now) t in
    sym (append-nil out) ∙ ap (λ ys. out ++ map f ys) (sym (drop_all c.loop-member.member-index c.args.members.now
    c.loop-member-test.false)) ∙ c.loop-member.invariant t told
