use Rattle.std.proofs.Common.{◌≡◌, ◌+◌, ◌≤◌, take, arith}
use Rattle.std.specs.Prelude.{◌&&◌, ◌==◌}
use Rattle.cjc_tokens.specs.Fields.{cells_of, group, is_instance}
use Rattle.cjc_tokens.proofs.Sums.{group_cells}
use Rattle.cjc_tokens.proofs.fields.instance_token.Goals as goal

pub overflow_add-result : goal.overflow_add-result
overflow_add-result c =
    let h = group_cells c.args.fields.now c.args.place c.group-group.result in
    let e : c.cells_within.result ≡ cells_of (λ g. is_instance g && (group g == c.group-group.result))
    (take c.args.place c.args.fields.now) = grind arith in
    let few : c.cells_before.result + c.cells_within.result ≤ 255 = omega (
      arith,
      c.cells_before.ensures,
      c.requires.few,
    ) in
    omega arith

pub overflow_cast-result : goal.overflow_cast-result
overflow_cast-result c =
    let h = group_cells c.args.fields.now c.args.place c.group-group.result in
    let e : c.cells_within.result ≡ cells_of (λ g. is_instance g && (group g == c.group-group.result))
    (take c.args.place c.args.fields.now) = grind arith in
    let few : c.cells_before.result + c.cells_within.result ≤ 255 = omega (
      arith,
      c.cells_before.ensures,
      c.requires.few,
    ) in
    omega arith
