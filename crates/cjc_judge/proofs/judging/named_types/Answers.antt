use Rattle.std.proofs.Common.{List, All, IfNone, sym, subst, ◌∙◌}
use Rattle.std.specs.Prelude.{option_map}
use Rattle.std.proofs.lemmas.Result.{err_from_is_err_and}
use Rattle.cjc_bytes.specs.Told.{break_of}
use Rattle.cjc_bytes.proofs.BrokenRules.{break_kept}
use Rattle.cjc_clinit.specs.Bytecode.declared.method_code.MethodCode.{MethodCode}
use Rattle.cjc_narrow.specs.Types.Tables.{IsOfPackage}
use Rattle.cjc_judge.specs.Rules.{BreaksAnyType, IsFirstIn}
use Rattle.cjc_judge.specs.Types.{AreTables}
use Rattle.cjc_judge.proofs.Early.{no_tables, no_types, types_fault}
use Rattle.cjc_judge.proofs.Folds.{none_of, first_of}
use Rattle.cjc_judge.proofs.judging.named_types.Goals as goal

pub returns-then-not-any_asks_types-clause-types : goal.returns-then-not-any_asks_types-clause-types
returns-then-not-any_asks_types-clause-types c = no_tables c.args.groups.now c.args.world.now c.args.codes.now
    c.new-types.result (sym c.any_asks_types.ensures ∙ c.if-not-any_asks_types.true)

pub returns-then-not-any_asks_types-clause-unbroken : goal.returns-then-not-any_asks_types-clause-unbroken
returns-then-not-any_asks_types-clause-unbroken c = no_types c.args.groups.now c.args.world.now c.args.codes.now
    (sym c.any_asks_types.ensures ∙ c.if-not-any_asks_types.true)

pub types_break-requires-clause-codes : goal.types_break-requires-clause-codes
types_break-requires-clause-codes c = subst (λ (codes : List MethodCode). All (IsOfPackage c.args.world.now) codes)
    (sym c.items.ensures) c.requires

pub returns-in_err-answer-clause-refused : goal.returns-in_err-answer-clause-refused
returns-in_err-answer-clause-refused c =
    let Of : List MethodCode → Type 0 = λ codes. IsFirstIn (BreaksAnyType c.args.world.now codes)
    (option_map break_of c.in_ok-broken.broken) in
    let found : Of c.args.codes.now = subst Of c.items.ensures c.in_ok-broken.ensures.first in
    let p = err_from_is_err_and c.from_residual-in_err-answer.result c.from_residual-in_err-answer.ensures.1 in
    rw (p.1, p.2) (types_fault c.args.groups.now c.args.world.now c.args.codes.now _ (sym c.any_asks_types.ensures
    ∙ c.if-not-any_asks_types.false)
    (first_of (BreaksAnyType c.args.world.now c.args.codes.now) found.0 _ found.1 (c.in_err-answer.ensures.refused
    found.0 found.2)))

pub returns-clause-types : goal.returns-clause-types
returns-clause-types c =
    let Of : List MethodCode → Type 0 = λ codes. IsFirstIn (BreaksAnyType c.args.world.now codes)
    (option_map break_of c.in_ok-broken.broken) in
    let found : Of c.args.codes.now = subst Of c.items.ensures c.in_ok-broken.ensures.first in
    let tables : IfNone c.in_ok-broken.broken (AreTables c.args.world.now c.args.codes.now c.types_break.new.types) =
    subst (λ (codes : List MethodCode). IfNone c.in_ok-broken.broken (AreTables c.args.world.now codes
    c.types_break.new.types)) c.items.ensures c.in_ok-broken.ensures.types in
    λ asked. break_kept break_of c.in_ok-broken.broken found.0 _
    (c.in_ok-answer.ensures.ok found.0 found.2) found.2 tables

pub returns-clause-unbroken : goal.returns-clause-unbroken
returns-clause-unbroken c =
    let Of : List MethodCode → Type 0 = λ codes. IsFirstIn (BreaksAnyType c.args.world.now codes)
    (option_map break_of c.in_ok-broken.broken) in
    let found : Of c.args.codes.now = subst Of c.items.ensures c.in_ok-broken.ensures.first in
    λ b h. none_of (BreaksAnyType c.args.world.now c.args.codes.now) (option_map break_of c.in_ok-broken.broken) found.0
    found.1 (c.in_ok-answer.ensures.ok found.0 found.2) b h.1
