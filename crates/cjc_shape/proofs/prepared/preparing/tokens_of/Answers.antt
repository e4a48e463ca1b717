use Rattle.std.proofs.Common.{◌≡◌, ap, ◌∙◌}
use Rattle.std.specs.Prelude.{length, nat_lt}
use Rattle.cjc_bytes.specs.Breaks.{IsFirstRefusal}
use Rattle.cjc_bytes.specs.declared.fault.Fault.TheVariants as faults
use Rattle.cjc_tokens.specs.Rules.{token_breaks}
use Rattle.cjc_shape.proofs.PreparedLaws.Parts.{err_map, only_memory}
use Rattle.cjc_shape.proofs.PreparedLaws.Sound.{few_cells, few_exported, has_tokens}
use Rattle.cjc_shape.proofs.prepared.preparing.tokens_of.Goals as goal

pub assign-requires-clause-exported : goal.assign-requires-clause-exported
assign-requires-clause-exported c = rw c.in_ok-settings.ensures (few_exported c.args.list.now c.requires.0
    c.args.judged.now c.requires.1)

pub assign-requires-clause-cells : goal.assign-requires-clause-cells
assign-requires-clause-cells c = few_cells c.args.list.now c.requires.0 c.args.judged.now c.requires.1

pub returns-clause-memory : goal.returns-clause-memory
returns-clause-memory c =
    let j = c.args.judged.now in
    let s = c.in_ok-settings.settings in
    let bs = token_breaks (nat_lt 0 (length s.applets)) j.world in
    let none = ap (λ v. token_breaks (nat_lt 0 (length v.applets)) j.world) c.in_ok-settings.ensures
    ∙ has_tokens c.args.list.now c.requires.0 j c.requires.1 in
    err_map c.assign.result (IsFirstRefusal bs) (λ e. e ≡ faults.NoMemory) (λ e refused. only_memory bs e none refused)
    c.assign.ensures.refused
