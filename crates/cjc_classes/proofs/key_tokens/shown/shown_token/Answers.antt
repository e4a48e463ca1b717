use Rattle.std.proofs.Common.{◌≡◌, ◌∙◌, ap, sym, subst, get_or}
use Rattle.std.specs.Prelude.{Some}
use Rattle.std.proofs.lemmas.Option.{slice_get-get_or}
use Rattle.std.proofs.lemmas.Result.{IfOk-weaker}
use Rattle.cjc_world.specs.Classes.{all_classes, class_named, declared, imported}
use Rattle.cjc_world.specs.Working.Known.{class_of}
use Rattle.cjc_tokens.specs.Lines.{line_at}
use Rattle.cjc_tokens.specs.Slots.{shown_token}
use Rattle.cjc_classes.specs.Walks.{IsShownHere, called}
use Rattle.cjc_classes.proofs.KeyTokens.Lines.{shown_nowhere}
use Rattle.cjc_classes.proofs.KeyTokens.Walked.{number_within, shown_imported, shown_next, shown_none}
use Rattle.cjc_classes.proofs.key_tokens.shown.shown_token.Goals as goal

pub returns-in-None : goal.returns-in-None
returns-in-None c = λ d e.
    let files = c.args.world.now in
    let w = all_classes files in
    let are_supertypes = c.lookup_laws.ensures.are_supertypes w c.acyclic.ensures in
    let one_supertypes = c.lookup_laws.ensures.one_supertypes w in
    let s = called c.args.name.now c.args.desc.now in
    let k = c.loop.at in
    let x = get_or files.classes k d in
    let at = slice_get-get_or files.classes k d c.loop.invariant.at in
    sym (shown_nowhere s)
    ∙ shown_none files are_supertypes one_supertypes s c.args.number k d x c.loop.invariant.so_far e at
    (subst (IsShownHere w (declared k x) s) c.in_default.is (c.in_ok-token.ensures x at))
    (sym (c.in-None.ensures x at))

pub returns-in-Some-Imported : goal.returns-in-Some-Imported
returns-in-Some-Imported c = λ d e.
    let files = c.args.world.now in
    let w = all_classes files in
    let are_supertypes = c.lookup_laws.ensures.are_supertypes w c.acyclic.ensures in
    let one_supertypes = c.lookup_laws.ensures.one_supertypes w in
    let s = called c.args.name.now c.args.desc.now in
    let k = c.loop.at in
    let x = get_or files.classes k d in
    let at = slice_get-get_or files.classes k d c.loop.invariant.at in
    let named = sym (c.in-Some-Imported.ensures x at) ∙ ap (λ q. Some (class_of q)) c.in-Some-Imported.field-0-is in
    let y = imported c.in-Some-Imported.super_number c.in-Some-Imported.class.now in
    IfOk-weaker c.imported_token.result (λ t. t ≡ shown_token (line_at w y) s) (λ t. t
    ≡ shown_token (line_at w (declared c.args.number d)) s)
    (λ t h. h ∙ shown_imported files are_supertypes one_supertypes s c.args.number k d x y c.loop.invariant.so_far e at
    (subst (IsShownHere w (declared k x) s) c.in_default.is (c.in_ok-token.ensures x at)) named)
    c.imported_token.ensures

pub loop-preserved : goal.loop-preserved
loop-preserved c =
    let files = c.args.world.now in
    let w = all_classes files in
    let are_supertypes = c.lookup_laws.ensures.are_supertypes w c.acyclic.ensures in
    let one_supertypes = c.lookup_laws.ensures.one_supertypes w in
    let s = called c.args.name.now c.args.desc.now in
    let k = c.loop.at in
    let m = c.in-Some-Declared.super_number in
    let t = c.in-Some-Declared.field-0-1.now in
    let x = get_or files.classes k t in
    let at = slice_get-get_or files.classes k t c.loop.invariant.at in
    let named : class_named w x.superclass ≡ Some (declared m t) = sym (c.in-Some-Declared.ensures x at)
    ∙ ap (λ q. Some (class_of q)) c.in-Some-Declared.field-0-is in
    record {
      at = number_within files are_supertypes one_supertypes s x.superclass m t named;
      so_far = shown_next files are_supertypes one_supertypes s c.args.number k m x t c.loop.invariant.so_far at
          (subst (IsShownHere w (declared k x) s) c.in_default.is (c.in_ok-token.ensures x at)) named;
    }
