use Rattle.std.proofs.Common.{◌≡◌, ◌∙◌, ap, Some}
use Rattle.std.specs.Prelude.{slice_get}
use Rattle.cjc_bytes.proofs.Gets.{slice_get_at}
use Rattle.cjc_tokens.proofs.line.kept_rows.Goals as goal

pub returns-in_ok-from_slice-in-Some-Some-2 : goal.returns-in_ok-from_slice-in-Some-Some-2
returns-in_ok-from_slice-in-Some-Some-2 c =
    let i = c.in-Some-Some.ensures.lookup in
    let there : slice_get c.args.kept.now c.args.number ≡ Some (Some c.in-Some-Some.rows) =
    slice_get_at c.args.kept.now c.args.number c.in-Some-Some.field-0.now i.3.0 i.1
    ∙ ap (λ q. Some q) c.in-Some-Some.field-0-is in (
      c.in-Some-Some.rows,
      there,
      record {
        shown = c.in_ok-from_slice-in-Some-Some.ensures.items ∙ c.deref.ensures.value;
        hidden = c.in_ok-from_slice-in-Some-Some-2.ensures.items ∙ c.deref-in-Some-Some.ensures.value;
      },
    )
