use Rattle.std.proofs.Common.{◌≡◌, ◌++◌, subst, List, [], length, nat_lt}
use Rattle.std.specs.Prelude.{IfErr, ◌||◌}
use Rattle.cjc_bytes.specs.Breaks.{Break, IsFirstRefusal, at, each, list_spot}
use Rattle.cjc_pool.specs.NCode.PoolOrder.{pool_order}
use Rattle.cjc_methods.specs.Layouts.Working.Tries.{code_breaks}
use Rattle.cjc_methods.proofs.LayoutsLaws.Tested.{fine_where, forms_are, on_ok, own_files, some_package}
use Rattle.cjc_methods.proofs.layouts.layouts.lay_tested.Goals as goal

pub returns-clause-laid : goal.returns-clause-laid
returns-clause-laid c =
    let files = c.args.world.now in
    let ms = c.args.codes.now in
    let fs = c.args.members.now in
    let xs = each (code_breaks (some_package files) fs) ms in
    let ys = at (nat_lt 16383 (length (pool_order ms)) || nat_lt 16383 c.args.exported) (list_spot c.args.list.now) 414
    in
    on_ok (λ e. c.in_ok-broken.ensures.laid (fine_where files fs ms ys c.requires.own c.requires.count e))
    c.answer.result
    (c.answer.ensures.ok (xs ++ ys) (c.first.ensures xs ys (c.in_ok-broken.ensures.first (some_package files)
    (own_files files)) c.in_ok-counted.ensures))

pub returns-clause-unbroken : goal.returns-clause-unbroken
returns-clause-unbroken c = λ p told.
    let ms = c.args.codes.now in
    let fs = c.args.members.now in
    let xs = each (code_breaks p fs) ms in
    let ys = at (nat_lt 16383 (length (pool_order ms)) || nat_lt 16383 c.args.exported) (list_spot c.args.list.now) 414
    in
    on_ok (λ e. subst (λ (bs : List Break). bs ≡ []) (forms_are c.args.list.now c.args.world.now fs ms c.args.exported p
    told) e) c.answer.result
    (c.answer.ensures.ok (xs ++ ys) (c.first.ensures xs ys (c.in_ok-broken.ensures.first p told.by_files)
    c.in_ok-counted.ensures))

pub returns-clause-refused : goal.returns-clause-refused
returns-clause-refused c = λ p told.
    let ms = c.args.codes.now in
    let fs = c.args.members.now in
    let xs = each (code_breaks p fs) ms in
    let ys = at (nat_lt 16383 (length (pool_order ms)) || nat_lt 16383 c.args.exported) (list_spot c.args.list.now) 414
    in
    subst (λ (bs : List Break). IfErr c.answer.result (IsFirstRefusal bs)) (forms_are c.args.list.now c.args.world.now
    fs ms c.args.exported p told)
    (c.answer.ensures.refused (xs ++ ys) (c.first.ensures xs ys (c.in_ok-broken.ensures.first p told.by_files)
    c.in_ok-counted.ensures))
