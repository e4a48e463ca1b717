use Rattle.std.proofs.Common.{false, true, length, sym, ap, subst, ◌∙◌}
use Rattle.std.specs.Prelude.{All}
use Rattle.cjc_world.specs.Working.Members.{AreIndices}
use Rattle.cjc_world.specs.Working.Names.{spot_named}
use Rattle.cjc_world.specs.Working.Numbers.{places_of}
use Rattle.cjc_world.specs.Working.Places.{place_named}
use Rattle.cjc_world.specs.Working.Spots.{IsCounted, IsIndexed, stood}
use Rattle.cjc_world.proofs.Noted.{spot-place}
use Rattle.cjc_world.proofs.class_index.ClassIndex.new.Goals as goal

pub indices_of-requires : goal.indices_of-requires
indices_of-requires c =
    let indexed : IsIndexed c.args.lines c.args.classes c.args.exports c.in_ok-spots.spots =
    subst (λ v. IsIndexed v c.args.classes c.args.exports c.in_ok-spots.spots) c.items.ensures
    (subst (λ v. IsIndexed c.items.result.now v c.args.exports c.in_ok-spots.spots) c.items-2.ensures
    (subst (λ v. IsIndexed c.items.result.now c.items-2.result.now v c.in_ok-spots.spots) c.items-3.ensures
    c.in_ok-spots.ensures)) in
    let all = ap (λ v. stood v c.items-10.result.now c.items-8.result.now) c.items-9.ensures
    ∙ ap (λ v. stood c.args.classes v c.items-8.result.now) c.items-10.ensures
    ∙ ap (stood c.args.classes c.args.exports) c.items-8.ensures ∙ indexed.all in
    subst (All IsCounted) (sym all) indexed.counted

pub invariant_of-result : goal.invariant_of-result
invariant_of-result c =
    let indexed : IsIndexed c.args.lines c.args.classes c.args.exports c.in_ok-spots.spots =
    subst (λ v. IsIndexed v c.args.classes c.args.exports c.in_ok-spots.spots) c.items.ensures
    (subst (λ v. IsIndexed c.items.result.now v c.args.exports c.in_ok-spots.spots) c.items-2.ensures
    (subst (λ v. IsIndexed c.items.result.now c.items-2.result.now v c.in_ok-spots.spots) c.items-3.ensures
    c.in_ok-spots.ensures)) in
    record {
      indexed = indexed;
      named = λ x.
          c.in_ok-names.ensures x
          ∙ ap (λ v. spot_named v c.items-6.result.now c.items-4.result.now x) c.items-5.ensures
          ∙ ap (λ v. spot_named c.args.classes v c.items-4.result.now x) c.items-6.ensures
          ∙ ap (λ v. spot_named c.args.classes c.args.exports v x) c.items-4.ensures
          ∙ spot-place c.args.classes c.args.exports c.in_ok-spots.spots (indexed.count ∙ ap length (sym indexed.all)) x
          ∙ ap (λ w. place_named w x) indexed.all;
      declared = c.in_ok-numbers.ensures.declared ∙ ap (places_of false 0) c.items-7.ensures;
      imported = c.in_ok-numbers.ensures.imported ∙ ap (places_of true 0) c.items-7.ensures;
      members = subst (λ w. AreIndices w c.in_ok-members.members) (ap (λ v. stood v c.items-10.result.now
          c.items-8.result.now) c.items-9.ensures
          ∙ ap (λ v. stood c.args.classes v c.items-8.result.now) c.items-10.ensures
          ∙ ap (stood c.args.classes c.args.exports) c.items-8.ensures ∙ indexed.all) c.in_ok-members.ensures;
    }
