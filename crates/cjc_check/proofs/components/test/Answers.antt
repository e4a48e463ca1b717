use Rattle.std.proofs.Common.{◌≡◌, List, [], Result, Ok, Err}
use Rattle.std.specs.Prelude.{OnOk}
use Rattle.cjc_check_rules.specs.Consistent.{Consistent, Unbroken, breaks}
use Rattle.cjc_check.proofs.components.test.Goals as goal

on_ok : {T E : Type 0} (r : Result T E) (P Q : Type 0) → (P → Q) → OnOk r P → OnOk r Q
on_ok (Ok x) P Q f h = f h
on_ok (Err e) P Q f h = h

pub returns-clause-consistent : goal.returns-clause-consistent
returns-clause-consistent c =
    let tree = c.args.tree.now in
    let exports = c.args.exports.now in
    on_ok c.answer.result (Unbroken tree exports) (Consistent tree exports)
    (λ h. c.consistent_where_unbroken.ensures.consistent tree exports h) (c.answer.ensures.ok (breaks tree exports)
    c.in_ok-broken.ensures)
