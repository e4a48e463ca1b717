use Rattle.std.proofs.Common.{◌≡◌, List, [], ℕ, sym, subst}
use Rattle.std.proofs.lemmas.Result.{err_from_is_err_and}
use Rattle.std.specs.Prelude.{IfErr, OnOk}
use Rattle.cjc_world.specs.Bytes.Breaks.{Break, IsFirstRefusal}
use Rattle.cjc_cmd_compat.proofs.Tested.{both_read, new_broken, old_broken}
use Rattle.cjc_cmd_compat.proofs.comparing.test.Goals as goal

pub returns-in_err-before-clause-refused : goal.returns-in_err-before-clause-refused
returns-in_err-before-clause-refused c =
    let p = err_from_is_err_and c.from_residual.result c.from_residual.ensures.1 in
    let files : List ℕ × List ℕ = (c.args.old_bytes.now, c.args.new_bytes.now) in
    rw (p.1, p.2) (old_broken c.args.old.now c.args.new.now files _ c.in_err-before.ensures.refused)

pub returns-in_err-after-clause-refused : goal.returns-in_err-after-clause-refused
returns-in_err-after-clause-refused c =
    let p = err_from_is_err_and c.from_residual-in_err-after.result c.from_residual-in_err-after.ensures.1 in
    let files : List ℕ × List ℕ = (c.args.old_bytes.now, c.args.new_bytes.now) in
    rw (p.1, p.2) (new_broken c.args.old.now c.args.new.now files _ _ c.in_ok-before.ensures.found
    c.in_err-after.ensures.refused)

pub returns-clause-unbroken : goal.returns-clause-unbroken
returns-clause-unbroken c =
    let files : List ℕ × List ℕ = (c.args.old_bytes.now, c.args.new_bytes.now) in
    subst (λ (bs : List Break). OnOk c.compat.result (bs ≡ [])) (sym (both_read c.args.old.now c.args.new.now files _ _
    c.in_ok-before.ensures.found c.in_ok-after.ensures.found)) c.compat.ensures.unbroken

pub returns-clause-refused : goal.returns-clause-refused
returns-clause-refused c =
    let files : List ℕ × List ℕ = (c.args.old_bytes.now, c.args.new_bytes.now) in
    subst (λ (bs : List Break). IfErr c.compat.result (IsFirstRefusal bs)) (sym (both_read c.args.old.now
    c.args.new.now files _ _ c.in_ok-before.ensures.found c.in_ok-after.ensures.found)) c.compat.ensures.refused
