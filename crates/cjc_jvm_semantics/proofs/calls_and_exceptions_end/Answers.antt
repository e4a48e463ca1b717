use Rattle.std.proofs.Common.{refl, ap, ◌∙◌}
use Rattle.std.specs.Prelude.{[], ◌∷◌, None, take, drop, reverse, length, if◌then◌else◌}
use Rattle.cjc_script.specs.declared.report.Note.TheVariants.{Event}
use Rattle.cjc_script.specs.declared.value.Value.TheVariants.{Obj}
use Rattle.cjc_card_semantics.specs.Bytecode.Runs.{On}
use Rattle.cjc_jvm_semantics.specs.Effects.{place}
use Rattle.cjc_jvm_semantics.specs.Machine.{offset, stuck_at, with_frames, with_note, frame_for_call, behind_call}
use Rattle.cjc_jvm_semantics.specs.Machine.{values_of, after_result, after_lookup, at_call, after_throw, at_handler}
use Rattle.cjc_jvm_semantics.specs.Machine.{after_answer}
use Rattle.cjc_jvm_semantics.proofs.calls_and_exceptions_end.Goals as goal

pub returns-clause-nowhere : goal.returns-clause-nowhere
returns-clause-nowhere c = λ l op id f outer s e. ap (λ o. after_lookup l o id f outer s) e

pub returns-clause-other_sorts : goal.returns-clause-other_sorts
returns-clause-other_sorts c = λ l call types f outer s e. ap (λ t. if t
    then at_call l call types.result (reverse (take (length types.params) f.stack))
    (record f { stack = drop (length types.params) f.stack }) outer s else stuck_at (offset f) s) e

pub returns-clause-null_receiver : goal.returns-clause-null_receiver
returns-clause-null_receiver c = λ l selected stack result args f outer s. refl

pub returns-clause-abstract_method : goal.returns-clause-abstract_method
returns-clause-abstract_method c = λ l m result args f outer s e. ap (λ t. if t then stuck_at (offset f) s
    else On (with_frames (frame_for_call m args ∷ f ∷ outer) s)) e

pub returns-clause-no_room_for_result : goal.returns-clause-no_room_for_result
returns-clause-no_room_for_result c = λ l v f g outer s e. ap (λ t. if t
    then On (with_frames (behind_call (values_of v) g ∷ outer) s) else stuck_at (offset f) s) e

pub returns-clause-no_room_for_exception : goal.returns-clause-no_room_for_exception
returns-clause-no_room_for_exception c = λ l from f outer object target type s has full. ap (λ o. at_handler l o from f
    outer object s (after_throw l from outer object type s)) has
    ∙ ap (λ t. if t then On (with_frames (record f {
      at = place (let m = f.method in m.insns) target;
      stack = Obj object
          ∷ [];
    } ∷ outer) s) else stuck_at from s) full

pub returns-clause-outwards : goal.returns-clause-outwards
returns-clause-outwards c = λ l from f outer object type s e. ap (λ o. at_handler l o from f outer object s
    (after_throw l from outer object type s)) e

pub returns-clause-own_exception_is_made : goal.returns-clause-own_exception_is_made
returns-clause-own_exception_is_made c = λ l fault f outer s. refl

pub returns-clause-no_answer : goal.returns-clause-no_answer
returns-clause-no_answer c = λ l id result args f outer s e none. ap (λ t. if t
    then after_result (offset f) None f outer s else after_answer l s.answers result f outer (with_note (Event id args)
    s)) e ∙ ap (λ a. after_answer l a result f outer (with_note (Event id args) s)) none
