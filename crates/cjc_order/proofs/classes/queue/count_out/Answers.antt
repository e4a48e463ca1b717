use Rattle.std.proofs.Common.{◌≡◌, ◌<◌, ◌≤◌, ℕ, List, [], ◌∷◌, ◌+◌, ◌∙◌, ap, suc, sym, get_or, drop, length, subst}
use Rattle.std.proofs.Common.{refl, zero, arith, add-one}
use Rattle.std.proofs.Math.Seq.{drop-cons}
use Rattle.cjc_order.specs.Classes.Queue.{IsQueue}
use Rattle.cjc_order.proofs.classes.queue.count_out.Goals as goal

here : (xs : List ℕ) (k : ℕ) → k < length xs → drop k xs ≡ get_or xs k 0 ∷ drop (k + 1) xs
here xs k lt = drop-cons xs k 0 lt ∙ ap (λ n. get_or xs k 0 ∷ drop n xs) (sym (add-one k))

past : (xs : List ℕ) (k : ℕ) → length xs ≤ k → drop k xs ≡ []
past [] zero le = refl
past [] (suc k) le = refl
past (x ∷ xs) zero le = absurd (omega arith)
past (x ∷ xs) (suc k) le = past xs k (omega arith)

pub count_out_of_one-requires : goal.count_out_of_one-requires
count_out_of_one-requires c =
    let k = c.loop-sub.sub-index in
    let subs = c.args.subs.now in
    let listed = c.requires.0 in
    let placed = c.requires.1 in (
      listed,
      placed,
      drop (k + 1) subs,
      subst (λ (rest : List ℕ). IsQueue c.args.interfaces c.args.classes.now listed
          placed rest c.loop-sub.counts.items c.loop-sub.ready) (here subs k c.loop-sub-test.true)
          (c.loop-sub.invariant listed placed c.requires.2),
    )

pub loop-sub-preserved : goal.loop-sub-preserved
loop-sub-preserved c = λ listed placed q.
    let k = c.loop-sub.sub-index in
    let subs = c.args.subs.now in
    c.in_ok-count_out_of_one.ensures listed placed (drop (k + 1) subs)
    (subst (λ (rest : List ℕ). IsQueue c.args.interfaces c.args.classes.now listed placed rest c.loop-sub.counts.items
    c.loop-sub.ready) (here subs k c.loop-sub-test.true) (c.loop-sub.invariant listed placed q))

pub returns : goal.returns
returns c = λ listed placed q.
    let k = c.loop-sub.sub-index in
    let subs = c.args.subs.now in
    subst (λ (rest : List ℕ). IsQueue c.args.interfaces c.args.classes.now listed placed rest c.loop-sub.counts.items
    c.loop-sub.ready) (past subs k c.loop-sub-test.false) (c.loop-sub.invariant listed placed q)
