use Rattle.std.proofs.Common.{◌≡◌, ◌∙◌, refl, ap, sym, subst, length, List, []}
use Rattle.std.specs.Prelude.{None, Some, slice_get, option_map}
use Rattle.std.proofs.lemmas.Option.{slice_get_read}
use Rattle.cjc_bytes.specs.declared.settings.FileLine.{FileLine}
use Rattle.cjc_code.specs.declared.insn.JInsn.{JInsn}
use Rattle.cjc_bytes.specs.Told.{break_of, file_place_of}
use Rattle.cjc_bytes.specs.Order.{FilePlace, file_of}
use Rattle.cjc_bytes.specs.Breaks.{IsFirstOf, each}
use Rattle.cjc_subset.specs.Checks.{code_breaks, insn_breaks}
use Rattle.cjc_subset.proofs.Codes.{code_there}
use Rattle.cjc_subset.proofs.checking.code_break.Goals as goal

pub returns : goal.returns
unfolding code_breaks
returns c =
    let files = c.args.world.now in
    let settings = c.args.settings.now in
    let code = c.args.code.now in
    let class = c.in_ok-class.class.now in
    let method = c.in_ok-method.method.now in
    let a = c.in_ok-class.ensures.lookup in
    let d = c.in_ok-method.ensures.lookup in
    let f : FilePlace = file_place_of c.file_of-file.result in
    let lines = c.items-4.ensures ∙ c.lines.ensures in
    let in_classes : slice_get files.classes code.class ≡ Some class = ap (λ xs. slice_get xs code.class)
    (sym (c.items.ensures ∙ c.classes.ensures)) ∙ slice_get_read c.items.result.now (length c.items.result.now)
    code.class class refl a.3.0 a.1 in
    let in_methods : slice_get class.methods code.method ≡ Some method = ap (λ xs. slice_get xs code.method)
    (sym c.items-2.ensures) ∙ slice_get_read c.items-2.result.now (length c.items-2.result.now) code.method method
    refl d.3.0 d.1 in
    let file : f ≡ file_of files.lines code.class = c.file_of-file.ensures
    ∙ ap (λ (ls : List FileLine). file_of ls code.class) lines in
    code_there files code.class code.method (λ f c m. each (λ _ insn. insn_breaks files settings f c code.method m insn)
    code.insns) class method f (option_map break_of c.insns_break.result) in_classes in_methods file
    (subst (λ (is : List JInsn). IsFirstOf (each (λ _ insn. insn_breaks files settings f class code.method method insn)
    is) (option_map break_of c.insns_break.result)) c.items-5.ensures (c.insns_break.ensures f
    c.class_spot-spot.ensures))

pub returns-then-are_clean : goal.returns-then-are_clean
unfolding code_breaks
returns-then-are_clean c =
    let files = c.args.world.now in
    let settings = c.args.settings.now in
    let code = c.args.code.now in
    let class = c.in_ok-class.class.now in
    let method = c.in_ok-method.method.now in
    let a = c.in_ok-class.ensures.lookup in
    let d = c.in_ok-method.ensures.lookup in
    let in_classes : slice_get files.classes code.class ≡ Some class = ap (λ xs. slice_get xs code.class)
    (sym (c.items.ensures ∙ c.classes.ensures)) ∙ slice_get_read c.items.result.now (length c.items.result.now)
    code.class class refl a.3.0 a.1 in
    let in_methods : slice_get class.methods code.method ≡ Some method = ap (λ xs. slice_get xs code.method)
    (sym c.items-2.ensures) ∙ slice_get_read c.items-2.result.now (length c.items-2.result.now) code.method method
    refl d.3.0 d.1 in
    code_there files code.class code.method (λ f c m. each (λ _ insn. insn_breaks files settings f c code.method m insn)
    code.insns) class method (file_of files.lines code.class) None in_classes in_methods refl
    (subst (λ (is : List JInsn). each (λ _ insn. insn_breaks files settings (file_of files.lines code.class) class
    code.method method insn) is ≡ []) c.items-3.ensures (c.are_clean.ensures c.if-are_clean.true (file_of files.lines
    code.class) class code.method method))
