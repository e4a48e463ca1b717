use Rattle.std.proofs.Common.{◌≡◌, List, [], subst}
use Rattle.std.specs.Prelude.{IfErr, option_map}
use Rattle.cjc_bytes.specs.Breaks.{Break, IsFirstRefusal, each}
use Rattle.cjc_bytes.specs.Told.{break_of}
use Rattle.cjc_bytes.proofs.BrokenRules.{break_kept}
use Rattle.cjc_bytes.proofs.Options.{on_ok}
use Rattle.cjc_world.specs.declared.found.Found.{Found}
use Rattle.cjc_methods.specs.Working.Spots.{word_breaks_in}
use Rattle.cjc_methods.proofs.Spotted.{all_of_package, first_only, only}
use Rattle.cjc_methods.proofs.words.test_words.Goals as goal

pub returns-clause-room : goal.returns-clause-room
returns-clause-room c =
    let broken = option_map break_of c.in_ok-broken.broken in
    on_ok c.answer.result (λ none. break_kept break_of c.in_ok-broken.broken (only broken) _ none (first_only broken)
    c.in_ok-broken.ensures.room) (c.answer.ensures.ok (only broken) (first_only broken))

pub returns-clause-unbroken : goal.returns-clause-unbroken
returns-clause-unbroken c = λ t p told files members.
    on_ok c.answer.result (λ e. subst (λ (bs : List Break). bs ≡ []) (all_of_package t p c.args.world.now
    c.args.members.now files members) e)
    (c.answer.ensures.ok (each (λ _ (f : Found). word_breaks_in t c.args.world.now f) c.args.members.now)
    (c.in_ok-broken.ensures.first t told))

pub returns-clause-refused : goal.returns-clause-refused
returns-clause-refused c = λ t p told files members.
    subst (λ (bs : List Break). IfErr c.answer.result (IsFirstRefusal bs)) (all_of_package t p c.args.world.now
    c.args.members.now files members)
    (c.answer.ensures.refused (each (λ _ (f : Found). word_breaks_in t c.args.world.now f) c.args.members.now)
    (c.in_ok-broken.ensures.first t told))
