use Rattle.std.proofs.Common.{◌≡◌, ◌∙◌, ◌≤◌, [], length, ap, subst, sym, inl, inr, None, Some}
use Rattle.std.proofs.lemmas.Result.{IfOk-weaker, MatchResult-weaker, err_from_is_err_and}
use Rattle.cjc_capread.specs.declared.tree.CapTree.{CapTree}
use Rattle.cjc_capwrite.specs.Files.{files_of, limit_of, part}
use Rattle.cjc_capwrite.specs.Method.{method_bytes}
use Rattle.cjc_capwrite.specs.Writable.{IsSpelt, IsWritable}
use Rattle.cjc_components.specs.Components.{components_of}
use Rattle.cjc_components.specs.Limits.{size_breaks}
use Rattle.cjc_shape.specs.Whole.Working.Shaped.{Stopped}
use Rattle.cjc_convert.proofs.Shapes.{laid_out}
use Rattle.cjc_convert.proofs.conversion.cap_files.Goals as goal

pub write-requires-clause-writable : goal.write-requires-clause-writable
write-requires-clause-writable c = λ none.
    let list = c.args.list.now in
    let (files, p, is, shaped) = c.requires.shaped in
    let laid = laid_out list files c.args.judged.now c.args.shaped.now p c.requires.read (c.aids_are_short.ensures list
    c.requires.read) is shaped in
    subst IsWritable (sym (c.in_ok-caps.ensures.made files p is shaped)) (c.components_can_be_written.ensures.writable
    list files c.args.judged.now p laid (c.in_ok-caps.ensures.sizes files p is shaped))

pub write-requires-clause-methods : goal.write-requires-clause-methods
write-requires-clause-methods c =
    let list = c.args.list.now in
    let (files, p, is, shaped) = c.requires.shaped in
    let laid = laid_out list files c.args.judged.now c.args.shaped.now p c.requires.read (c.aids_are_short.ensures list
    c.requires.read) is shaped in
    subst (λ (t : CapTree). length (part method_bytes t.method) ≤ 65535)
    (sym (c.in_ok-caps.ensures.made files p is shaped))
    (c.components_can_be_written.ensures.method list files c.args.judged.now p laid (c.in_ok-caps.ensures.sizes files p
    is shaped))

pub returns-in_err-caps-clause-refused : goal.returns-in_err-caps-clause-refused
returns-in_err-caps-clause-refused c = λ files p is shaped.
    let e = err_from_is_err_and c.from_residual.result c.from_residual.ensures.1 in
    rw (e.1, e.2) (c.in_err-caps.ensures.refused files p is shaped)

pub returns-clause-sizes : goal.returns-clause-sizes
returns-clause-sizes c = λ files p is shaped.
    IfOk-weaker c.write.result (λ _. limit_of c.in_ok-caps.caps ≡ None) (λ _. size_breaks p ≡ [])
    (λ f h. c.in_ok-caps.ensures.sizes files p is shaped) c.write.ensures.limits

pub returns-clause-files : goal.returns-clause-files
returns-clause-files c = λ files p is shaped.
    IfOk-weaker c.write.result (λ f. f ≡ files_of c.in_ok-caps.caps) (λ f. f ≡ files_of (components_of p)) (λ f e. e
    ∙ ap files_of (c.in_ok-caps.ensures.made files p is shaped)) c.write.ensures.files

pub returns-clause-spelt : goal.returns-clause-spelt
returns-clause-spelt c = λ files p is shaped.
    IfOk-weaker c.write.result (IsSpelt c.in_ok-caps.caps) (IsSpelt (components_of p))
    (λ f h. subst (λ (t : CapTree). IsSpelt t f) (c.in_ok-caps.ensures.made files p is shaped) h)
    c.write.ensures.spelt

pub returns-clause-refused : goal.returns-clause-refused
returns-clause-refused c = λ files p is shaped.
    let list = c.args.list.now in
    let caps = c.in_ok-caps.caps in
    let none : limit_of caps ≡ None = ap limit_of (c.in_ok-caps.ensures.made files p is shaped)
    ∙ c.components_can_be_written.ensures.limits p (c.in_ok-caps.ensures.sizes files p is shaped) in
    MatchResult-weaker c.write.result {Q' = Stopped list files} c.write.ensures.refused (λ f h. h)
    (λ e h. elim h as (λ _. Stopped list files e) [
      | inl memory ↦ inl memory
      | inr broken ↦ absurd (let z : None ≡ Some broken.0 = sym none ∙ broken.1 in cc)
    ])
