use Rattle.std.proofs.Common.{sym, ap, ◌∙◌, false}
use Rattle.std.specs.Prelude.{◌||◌}
use Rattle.cjc_bytes.proofs.Options.{if_more}
use Rattle.cjc_world.specs.Classes.{all_classes}
use Rattle.cjc_components.specs.Descriptor.{method_in}
use Rattle.cjc_narrow.specs.Rows.Resolved.{argument_words}
use Rattle.cjc_int_package.specs.Limits.{lacks_int_room}
use Rattle.cjc_pool.specs.JvmSemantics.OnePackage.{method_at}
use Rattle.cjc_methods.proofs.Own.{many, not_many, words_like}
use Rattle.cjc_methods.proofs.words.has_no_room.Goals as goal

pub returns-then-words-le-MOST_WORDS-clause-told : goal.returns-then-words-le-MOST_WORDS-clause-told
returns-then-words-le-MOST_WORDS-clause-told c = λ t told k at.
    let files = c.args.world.now in
    let f = c.args.member in
    let m = method_in (all_classes files) k f.member in
    let few = not_many c.in_ok-words.words (argument_words m.flags m.desc) (c.in_ok-words.ensures
    ∙ words_like c.method_in-method.result m (c.method_in-method.ensures k at)) c.if-words-le-MOST_WORDS.true in
    if_more (λ none e. e ∙ ap (λ b. b || lacks_int_room t files (method_at files f)) (sym few))
    c.lacks_int_room.result (c.lacks_int_room.ensures.told t told)

pub returns-then-words-le-MOST_WORDS-clause-room : goal.returns-then-words-le-MOST_WORDS-clause-room
returns-then-words-le-MOST_WORDS-clause-room c =
    let f = c.args.member in
    if_more
    (λ none room off. record {
      arguments = λ k at.
          let m = method_in (all_classes c.args.world.now) k f.member in
          not_many c.in_ok-words.words (argument_words m.flags m.desc) (c.in_ok-words.ensures
          ∙ words_like c.method_in-method.result m (c.method_in-method.ensures k at)) c.if-words-le-MOST_WORDS.true;
      in_int_mode = room off;
    })
    c.lacks_int_room.result c.lacks_int_room.ensures.room

pub returns-clause-told : goal.returns-clause-told
returns-clause-told c = λ t told k at.
    let files = c.args.world.now in
    let f = c.args.member in
    let m = method_in (all_classes files) k f.member in
    let more = many c.in_ok-words.words (argument_words m.flags m.desc) (c.in_ok-words.ensures
    ∙ words_like c.method_in-method.result m (c.method_in-method.ensures k at)) c.if-words-le-MOST_WORDS.false in
    sym (ap (λ b. b || lacks_int_room t files (method_at files f)) more)

pub returns-clause-room : goal.returns-clause-room
returns-clause-room c = λ e. absurd cc
