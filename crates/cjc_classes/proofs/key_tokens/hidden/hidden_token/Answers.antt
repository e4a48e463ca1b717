use Rattle.std.proofs.Common.{◌≡◌, ◌∙◌, ap, sym, subst, get_or}
use Rattle.std.specs.Prelude.{Some}
use Rattle.std.proofs.lemmas.Option.{slice_get-get_or}
use Rattle.cjc_world.specs.Classes.{Class, all_classes, class_named, declared}
use Rattle.cjc_world.specs.Working.Known.{class_of}
use Rattle.cjc_classes.specs.Walks.{IsHiddenHere, called}
use Rattle.cjc_classes.proofs.KeyTokens.Walked.{hidden_here, hidden_last, hidden_next, number_within}
use Rattle.cjc_classes.proofs.key_tokens.hidden.hidden_token.Goals as goal

pub returns-in-Some : goal.returns-in-Some
returns-in-Some c = λ d e.
    let files = c.args.world.now in
    let w = all_classes files in
    let are_supertypes = c.lookup_laws.ensures.are_supertypes w c.acyclic.ensures in
    let one_supertypes = c.lookup_laws.ensures.one_supertypes w in
    let s = called c.args.name.now c.args.desc.now in
    let k = c.loop.at in
    let x = get_or files.classes k d in
    let at = slice_get-get_or files.classes k d c.loop.invariant.at in
    hidden_here files are_supertypes one_supertypes s c.args.number k d x c.in-Some.told c.loop.invariant.so_far e at
    (subst (IsHiddenHere w (declared k x) s) c.in-Some.is (c.in_ok-told.ensures x at))

pub returns-in-None : goal.returns-in-None
returns-in-None c = λ d e.
    let files = c.args.world.now in
    let w = all_classes files in
    let are_supertypes = c.lookup_laws.ensures.are_supertypes w c.acyclic.ensures in
    let one_supertypes = c.lookup_laws.ensures.one_supertypes w in
    let s = called c.args.name.now c.args.desc.now in
    let k = c.loop.at in
    let x = get_or files.classes k d in
    let at = slice_get-get_or files.classes k d c.loop.invariant.at in
    hidden_last files are_supertypes one_supertypes s c.args.number k d x c.loop.invariant.so_far e at
    (subst (IsHiddenHere w (declared k x) s) c.in_default.is (c.in_ok-told.ensures x at))
    (λ y named. let none = c.in-None.ensures x at ∙ named in cc)

pub returns-in-Some-Imported : goal.returns-in-Some-Imported
returns-in-Some-Imported c = λ d e.
    let files = c.args.world.now in
    let w = all_classes files in
    let are_supertypes = c.lookup_laws.ensures.are_supertypes w c.acyclic.ensures in
    let one_supertypes = c.lookup_laws.ensures.one_supertypes w in
    let s = called c.args.name.now c.args.desc.now in
    let k = c.loop.at in
    let x = get_or files.classes k d in
    let at = slice_get-get_or files.classes k d c.loop.invariant.at in
    hidden_last files are_supertypes one_supertypes s c.args.number k d x c.loop.invariant.so_far e at
    (subst (IsHiddenHere w (declared k x) s) c.in_default.is (c.in_ok-told.ensures x at))
    (λ y named.
    let both : Some (class_of c.in-Some-Imported.field-0) ≡ Some y = c.in-Some-Imported.ensures x at ∙ named in
    let same : class_of c.in-Some-Imported.field-0 ≡ y = cc in
    ap (λ (z : Class). z.is_imported) (sym same) ∙ ap (λ q. (class_of q).is_imported) c.in-Some-Imported.field-0-is)

pub loop-preserved : goal.loop-preserved
loop-preserved c =
    let files = c.args.world.now in
    let w = all_classes files in
    let are_supertypes = c.lookup_laws.ensures.are_supertypes w c.acyclic.ensures in
    let one_supertypes = c.lookup_laws.ensures.one_supertypes w in
    let s = called c.args.name.now c.args.desc.now in
    let k = c.loop.at in
    let m = c.in-Some-Declared.super_number in
    let t = c.in-Some-Declared.field-0-1.now in
    let x = get_or files.classes k t in
    let at = slice_get-get_or files.classes k t c.loop.invariant.at in
    let named : class_named w x.superclass ≡ Some (declared m t) = sym (c.in-Some-Declared.ensures x at)
    ∙ ap (λ q. Some (class_of q)) c.in-Some-Declared.field-0-is in
    record {
      at = number_within files are_supertypes one_supertypes s x.superclass m t named;
      so_far = hidden_next files are_supertypes one_supertypes s c.args.number k m x t c.loop.invariant.so_far at
          (subst (IsHiddenHere w (declared k x) s) c.in_default.is (c.in_ok-told.ensures x at)) named;
    }
