use Rattle.std.proofs.Common.{◌≡◌, ◌<◌, ◌+◌, ◌-◌, ◌/◌, ◌++◌, ℕ, List, length, take, slice_get, Some, refl, ◌∙◌, ap}
use Rattle.std.proofs.Common.{subst, arith}
use Rattle.std.proofs.lemmas.Option.{slice_get_read}
use Rattle.std.specs.declared.cmp.Ordering.TheVariants.{Less, Equal, Greater}
use Rattle.cjc_types.specs.Names.{compare}
use Rattle.cjc_types.specs.Working.Merging.{insert_found, insert_more, insert_here, compared_is}
use Rattle.cjc_frames.proofs.sets.place_of.Goals as goal

pub returns-in-Equal : goal.returns-in-Equal
returns-in-Equal c =
    let set : List (List ℕ) = c.args.set.now in
    let middle : ℕ = c.loop-low.low + (c.loop-low.high - c.loop-low.low) / 2 in
    let lt = c.loop-low-test.true in
    let inside = c.loop-low.invariant.inside in
    let within : middle < length set = omega (arith, lt, inside) in
    insert_found c.args.name.now set middle c.index-set-middle.result c.requires (slice_get_read set (length set) middle
    c.index-set-middle.result refl within c.index-set-middle.is)
    (compared_is c.args.name.now c.index-set-middle.result c.items.result.now c.compared.result Equal c.items.ensures
    c.compared.ensures c.in-Equal.is)

pub loop-low-preserved : goal.loop-low-preserved
loop-low-preserved c =
    let set : List (List ℕ) = c.args.set.now in
    let middle : ℕ = c.loop-low.low + (c.loop-low.high - c.loop-low.low) / 2 in
    let lt = c.loop-low-test.true in
    let inside = c.loop-low.invariant.inside in
    let within : middle < length set = omega (arith, lt, inside) in
    record {
      ordered = omega (arith, lt);
      inside = inside;
      past = insert_more c.args.name.now set middle c.index-set-middle.result c.requires
          (slice_get_read set (length set) middle c.index-set-middle.result refl within c.index-set-middle.is)
          (compared_is c.args.name.now c.index-set-middle.result c.items.result.now c.compared.result Greater
          c.items.ensures c.compared.ensures c.in-Greater.is);
      before = c.loop-low.invariant.before;
    }

pub returns : goal.returns
returns c =
    let set : List (List ℕ) = c.args.set.now in
    let ordered = c.loop-low.invariant.ordered in
    let inside = c.loop-low.invariant.inside in
    let over = c.loop-low-test.false in
    let same : c.loop-low.high ≡ c.loop-low.low = omega (arith, ordered, over) in
    let below : (x : List ℕ) → slice_get set c.loop-low.low ≡ Some x → compare c.args.name.now x ≡ Less =
    subst (λ (k : ℕ). (x : List ℕ) → slice_get set k ≡ Some x → compare c.args.name.now x ≡ Less) same
    c.loop-low.invariant.before in (
      omega (arith, ordered, inside),
      c.loop-low.invariant.past ∙ ap (λ (zs : List (List ℕ)). take c.loop-low.low set
          ++ zs) (insert_here c.args.name.now set c.loop-low.low below),
    )
