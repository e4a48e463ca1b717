use Rattle.std.proofs.Common.{◌≡◌, ◌∷◌, ◌++◌, [], length, arith, rules, sym, ap, subst, ◌∙◌}
use Rattle.std.specs.List.{range_with_len}
use Rattle.std.specs.List.Sorted.{IsStableBy}
use Rattle.cjc_world.specs.Rules.{members}
use Rattle.cjc_world.specs.Working.Known.{class_of}
use Rattle.cjc_world.specs.Working.Members.{IsMemberIndex, precedes}
use Rattle.cjc_world.proofs.Called.{compares, precedes-order}
use Rattle.cjc_bytes.proofs.Numbers.{range_from_zero}
use Rattle.cjc_world.proofs.members.sorted_places.Goals as goal

pub loop-place-preserved : goal.loop-place-preserved
loop-place-preserved c =
    c.in_ok-push.ensures.items ∙ ap (λ ps. ps ++ c.loop-place.place ∷ []) c.loop-place.invariant
    ∙ sym (range_from_zero c.loop-place.place)

pub returns : goal.returns
returns c =
    let ms = members c.args.field (class_of c.args.class) in
    let all : c.loop-place.places.items ≡ range_with_len 0 (length ms) =
    c.loop-place.invariant ∙ ap (range_with_len 0) (let past = c.loop-place-test.false in let end
    = c.loop-place.auto.place-end in let count = c.member_count-place-end.ensures in let e : c.loop-place.place
    ≡ length ms = omega arith in e) in
    subst (IsMemberIndex ms) (sym c.of.ensures) (record {
      sorted = c.in_ok-sort_by.ensures.sorted (precedes ms) (precedes-order ms)
          (compares _ _ ms (λ a r q k. search rules));
      stable = subst (λ xs. IsStableBy (precedes ms) xs c.sort_by.new.self.items) all
          (c.sort_by.ensures.stable (precedes ms) (precedes-order ms)
          (compares _ _ ms (λ a r q k. search rules)));
    })
