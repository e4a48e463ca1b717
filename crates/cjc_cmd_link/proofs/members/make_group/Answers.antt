use Rattle.std.proofs.Common.{map}
use Rattle.std.proofs.lemmas.Result.{err_from_is_err_and}
use Rattle.cjc_cmd_link.proofs.Agreed.{are_agreed, are_linked, miss_none, together_fault}
use Rattle.cjc_cmd_link.proofs.Parts.{parts_first}
use Rattle.cjc_cmd_link.specs.Working.{linked_as}
use Rattle.cjc_cmd_link.proofs.members.make_group.Goals as goal

pub returns-in_err-group-clause-refused : goal.returns-in_err-group-clause-refused
returns-in_err-group-clause-refused c =
    let e = err_from_is_err_and c.from_residual.result c.from_residual.ensures.1 in
    λ name. rw (e.1, e.2) (parts_first c.args.input.now name c.args.script.now _ c.in_err-group.ensures.refused)

pub test_agreed-requires : goal.test_agreed-requires
test_agreed-requires c = record {
  inputs = c.args.input.now.members;
  images = c.in_ok-group.group.images;
  are_inputs = c.requires.members;
  are_made = c.in_ok-group.ensures.made;
}

pub returns-in_err-test_agreed-clause-refused : goal.returns-in_err-test_agreed-clause-refused
returns-in_err-test_agreed-clause-refused c =
    let e = err_from_is_err_and c.from_residual-in_err-test_agreed.result c.from_residual-in_err-test_agreed.ensures.1
    in
    let input = c.args.input.now in
    let ts = c.in_ok-group.group.members in
    λ name. rw (e.1, e.2) (together_fault input (map linked_as ts) (are_linked input.members ts
    c.in_ok-group.group.images c.in_ok-group.ensures.made) name c.args.script.now _ c.in_ok-group.ensures.passed
    c.in_err-test_agreed.ensures.refused)

pub returns-clause-agreed : goal.returns-clause-agreed
returns-clause-agreed c =
    let input = c.args.input.now in
    let ts = c.in_ok-group.group.members in
    are_agreed input (map linked_as ts) (are_linked input.members ts c.in_ok-group.group.images
    c.in_ok-group.ensures.made) c.in_ok-test_agreed.ensures.agreed

pub returns-clause-known : goal.returns-clause-known
returns-clause-known c =
    let input = c.args.input.now in
    let ts = c.in_ok-group.group.members in
    miss_none input (map linked_as ts) (are_linked input.members ts c.in_ok-group.group.images
    c.in_ok-group.ensures.made) c.in_ok-test_agreed.ensures.known
