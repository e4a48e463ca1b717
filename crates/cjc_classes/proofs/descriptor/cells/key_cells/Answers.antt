use Rattle.std.proofs.Common.{◌≡◌, ℕ, map, subst}
use Rattle.std.specs.Prelude.{IfOk}
use Rattle.cjc_bytes.specs.declared.fault.MemberId.{MemberId}
use Rattle.cjc_classes.specs.Descriptor.Keys.{key_cell}
use Rattle.cjc_classes.proofs.descriptor.cells.key_cells.Goals as goal

pub returns : goal.returns
returns c = subst (λ (offset : MemberId → ℕ). IfOk c.offsets_at.result (λ row. row
    ≡ map (key_cell offset) c.args.keys.now)) c.in_ok-cells.ensures c.offsets_at.ensures
