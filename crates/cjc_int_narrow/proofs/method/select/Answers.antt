use Rattle.std.proofs.Common.{◌≡◌, ◌≤◌, List, ℕ, refl, sym, ap, ◌∙◌, subst, arith}
use Rattle.cjc_int_mode.specs.ClassFile.Code.{CodeTree}
use Rattle.cjc_ncode.specs.IntCode.IntCode.{Frame, int_method, nargs}
use Rattle.cjc_narrow.specs.Rows.Resolved.{resolution}
use Rattle.cjc_narrow.specs.Rows.Selected.{near_fields}
use Rattle.cjc_narrow.specs.Types.Flow.{body_of}
use Rattle.cjc_int_mode.specs.Room.{many_arguments}
use Rattle.cjc_int_mode.specs.Written.{argument_words, int_frame}
use Rattle.cjc_int_narrow.specs.Reached.{places_by, reached_by}
use Rattle.cjc_int_narrow.specs.Working.Whole.{Fits}
use Rattle.cjc_int_narrow.proofs.Whole.{few_enough, fits, framed, written_whole}
use Rattle.cjc_int_narrow.proofs.method.select.Goals as goal

pub overflow_cast-words : goal.overflow_cast-words
overflow_cast-words c =
    let b = body_of c.args.class.now c.args.method.now c.args.code.now c.args.insns.now in
    let selectable = c.requires.3 in
    let few : argument_words b ≤ 255 = few_enough (argument_words b) (λ gt. selectable.room (many_arguments gt)) in
    let is = c.in_ok-words.ensures.words b refl (sym c.items-desc.ensures) in
    omega (arith, few, is)

pub new-requires : goal.new-requires
new-requires c =
    let m = c.args.method.now in
    let b = body_of c.args.class.now m c.args.code.now c.args.insns.now in
    let is = c.in_ok-words.ensures.words b refl (sym c.items-desc.ensures) in
    let view : c.args.code.now ≡ record {
      max_stack = c.code.inside.max_stack;
      max_locals = c.code.inside.max_locals;
      bytes = c.code.inside.bytes.now;
      catches = c.code.inside.catches;
    } = cc in
    let locals : c.code.inside.max_locals ≡ c.args.code.now.max_locals =
    sym (ap (λ (t : CodeTree). t.max_locals) view) in
    is ∙ ap nargs (sym (framed c.args.class.now m c.args.code.now c.args.insns.now _ _ _ c.items-holder.ensures
    c.items-desc.ensures locals))

pub method_by-requires : goal.method_by-requires
method_by-requires c =
    let m = c.args.method.now in
    let b = body_of c.args.class.now m c.args.code.now c.args.insns.now in
    let view : c.args.code.now ≡ record {
      max_stack = c.code.inside.max_stack;
      max_locals = c.code.inside.max_locals;
      bytes = c.code.inside.bytes.now;
      catches = c.code.inside.catches;
    } = cc in
    let locals : c.code.inside.max_locals ≡ c.args.code.now.max_locals =
    sym (ap (λ (t : CodeTree). t.max_locals) view) in
    let same = c.in_ok-frame.ensures ∙ framed c.args.class.now m c.args.code.now c.args.insns.now _ _ _
    c.items-holder.ensures c.items-desc.ensures locals in
    subst (λ (f : Frame). Fits f c.args.code.now c.args.insns.now c.args.befores.now) (sym same)
    (fits b c.requires.0 c.requires.1 c.args.befores.now c.requires.2 c.args.code.now refl (omega arith) c.requires.3)

pub returns : goal.returns
returns c = λ types ranges known.
    let m = c.args.method.now in
    let insns = c.args.insns.now in
    let befores = c.args.befores.now in
    let b = body_of c.args.class.now m c.args.code.now insns in
    let view : c.args.code.now ≡ record {
      max_stack = c.code.inside.max_stack;
      max_locals = c.code.inside.max_locals;
      bytes = c.code.inside.bytes.now;
      catches = c.code.inside.catches;
    } = cc in
    let locals : c.code.inside.max_locals ≡ c.args.code.now.max_locals =
    sym (ap (λ (t : CodeTree). t.max_locals) view) in
    let same = c.in_ok-frame.ensures ∙ framed c.args.class.now m c.args.code.now insns _ _ _ c.items-holder.ensures
    c.items-desc.ensures locals in
    let look = λ (holder : List ℕ). resolution c.args.world.now (near_fields c.args.pool.now) holder in
    let made = λ (f : Frame) (holder : List ℕ). int_method f (look holder) c.args.code.now (reached_by insns befores)
    (places_by 0 insns befores) in
    written_whole b types ranges befores known (look c.args.class.now.name) c.args.code.now _
    (c.in_ok-narrow.ensures ∙ ap (λ (f : Frame). made f c.items-holder.result.now) same
    ∙ ap (made (int_frame b)) c.items-holder.ensures)
