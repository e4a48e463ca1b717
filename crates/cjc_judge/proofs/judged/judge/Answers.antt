use Rattle.std.proofs.Common.{refl}
use Rattle.std.proofs.lemmas.Result.{err_from_is_err_and}
use Rattle.cjc_judge.proofs.Whole.{few_lines, files_stop, world_refused, names_refused, groups_refused}
use Rattle.cjc_judge.proofs.Whole.{codes_of_package, judged_from}
use Rattle.cjc_judge.proofs.judged.judge.Goals as goal

pub read_files-requires-clause-few : goal.read_files-requires-clause-few
read_files-requires-clause-few c = few_lines _ _ c.items.ensures c.requires.read

pub returns-in_err-classes-clause-refused : goal.returns-in_err-classes-clause-refused
returns-in_err-classes-clause-refused c =
    let p = err_from_is_err_and c.from_residual.result c.from_residual.ensures.1 in
    rw (p.1, p.2) (files_stop _ _ _ _ _ _ c.items.ensures c.items-2.ensures c.in_err-classes.ensures)

pub returns-in_err-world-clause-refused : goal.returns-in_err-world-clause-refused
returns-in_err-world-clause-refused c =
    let p = err_from_is_err_and c.from_residual-in_err-world.result c.from_residual-in_err-world.ensures.1 in
    let all = rw (c.items.ensures, c.items-2.ensures) at c.in_ok-classes.ensures in
    rw (p.1, p.2) (world_refused _ _ _ c.in_ok-classes.field-0 all _ c.in_err-world.ensures.refused)

pub returns-in_err-names-clause-refused : goal.returns-in_err-names-clause-refused
returns-in_err-names-clause-refused c =
    let p = err_from_is_err_and c.from_residual-in_err-names.result c.from_residual-in_err-names.ensures.1 in
    let all = rw (c.items.ensures, c.items-2.ensures) at c.in_ok-classes.ensures in
    rw (p.1, p.2) (names_refused _ _ _ c.in_ok-classes.field-0 all _ c.in_ok-world.ensures.made
    c.in_ok-world.ensures.unbroken _ c.in_err-names.ensures.refused)

pub test-requires : goal.test-requires
test-requires c =
    let all = rw (c.items.ensures, c.items-2.ensures) at c.in_ok-classes.ensures in
    codes_of_package c.args.list.now c.args.files.now c.args.groups.now c.in_ok-classes.field-0 all _
    c.in_ok-world.ensures.made c.in_ok-world.ensures.unbroken

pub returns-in_err-types-clause-refused : goal.returns-in_err-types-clause-refused
returns-in_err-types-clause-refused c =
    let p = err_from_is_err_and c.from_residual-in_err-types.result c.from_residual-in_err-types.ensures.1 in
    let all = rw (c.items.ensures, c.items-2.ensures) at c.in_ok-classes.ensures in
    let refused = rw c.items-4.ensures at c.in_err-types.ensures.refused in
    rw (p.1, p.2) (groups_refused _ _ _ c.in_ok-classes.field-0 all _ c.in_ok-world.ensures.made
    c.in_ok-world.ensures.unbroken c.in_ok-names.ensures.unbroken _ refused)

pub returns-clause-judged : goal.returns-clause-judged
returns-clause-judged c =
    let all = rw (c.items.ensures, c.items-2.ensures) at c.in_ok-classes.ensures in
    let none = rw c.items-4.ensures at c.in_ok-types.ensures.unbroken in
    judged_from _ _ _ c.in_ok-classes.field-0 all _ c.in_ok-world.ensures.made c.in_ok-world.ensures.unbroken
    c.in_ok-names.ensures.unbroken
    (record {
      list = c.args.list;
      files = c.args.files;
      world = c.in_ok-world.world;
      codes = c.in_ok-classes.field-0.codes;
      types = c.in_ok-types.field-0.types;
      modes = c.in_ok-types.field-0.modes;
      tokens = c.in_ok-types.field-0.tokens;
    }) refl refl none c.in_ok-types.ensures.types c.in_ok-types.ensures.modes c.in_ok-types.ensures.tokens
