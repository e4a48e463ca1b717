use Rattle.std.proofs.Common.{subst}
use Rattle.std.specs.Prelude.{All, option_map}
use Rattle.std.proofs.lemmas.List.{take_all}
use Rattle.std.proofs.lemmas.List.Elements.{All-more}
use Rattle.cjc_bytes.specs.Told.{break_of}
use Rattle.cjc_bytes.proofs.Firsts.{each_all, each_more, each_none}
use Rattle.cjc_bytes.proofs.Gets.{same_item}
use Rattle.cjc_bytes.proofs.Options.{mapped_2}
use Rattle.cjc_world.specs.declared.found.Found.{Found}
use Rattle.cjc_methods.specs.Words.{HasRoom}
use Rattle.cjc_methods.specs.Working.Spots.{word_breaks_in}
use Rattle.cjc_methods.proofs.Ownership.{all_none}
use Rattle.cjc_methods.proofs.Spotted.{both_none}
use Rattle.cjc_methods.proofs.words.first_break.Goals as goal

pub loop-member-init : goal.loop-member-init
loop-member-init c =
    let s = c.args.sources in
    record {
      first = λ t told. each_none (λ _ (f : Found). word_breaks_in t c.args.world.now f) c.args.members.now;
      room = all_none (HasRoom c.args.world.now s.codes.now s.types.now s.modes.now);
    }

pub loop-member-preserved : goal.loop-member-preserved
loop-member-preserved c =
    let s = c.args.sources in
    let files = c.args.world.now in
    let members = c.args.members.now in
    let k = c.loop-member.member-index in
    let here = HasRoom files s.codes.now s.types.now s.modes.now in
    record {
      first = λ t told.
          each_more (λ _ (f : Found). word_breaks_in t files f) k members _ (option_map break_of c.first-least.result)
          c.loop-member-test.true (same_item members k _ c.loop-member-test.true)
          (c.first-least.ensures _ _ (c.loop-member.invariant.first t told) (c.in_ok-broken.ensures.first t told));
      room = mapped_2 c.first-least.result _ _
          (λ both. All-more here members k _ c.loop-member-test.true both.0 both.1)
          (both_none break_of c.loop-member.least c.in_ok-broken.broken c.first-least.result _ _
          c.first-least.ensures c.loop-member.invariant.room c.in_ok-broken.ensures.room);
    }

pub returns-clause-first : goal.returns-clause-first
returns-clause-first c = λ t told.
    each_all (λ _ (f : Found). word_breaks_in t c.args.world.now f) c.loop-member.member-index c.args.members.now
    (option_map break_of c.loop-member.least) c.loop-member-test.false (c.loop-member.invariant.first t told)

pub returns-clause-room : goal.returns-clause-room
returns-clause-room c =
    let s = c.args.sources in
    let here = HasRoom c.args.world.now s.codes.now s.types.now s.modes.now in
    mapped_2 c.loop-member.least _ _
    (λ all. subst (All here) (take_all c.loop-member.member-index c.args.members.now c.loop-member-test.false) all)
    c.loop-member.invariant.room
