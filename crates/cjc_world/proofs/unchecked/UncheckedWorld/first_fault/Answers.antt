use Rattle.std.proofs.Common.{inl, inr, ⊎_elim, sym, ap, ◌∙◌}
use Rattle.std.specs.Prelude.{option_map}
use Rattle.cjc_bytes.specs.Told.{break_of}
use Rattle.cjc_world.specs.Rules.{breaks}
use Rattle.cjc_world.proofs.Sorted.{first_is_first}
use Rattle.cjc_world.proofs.Heads.{head_empty}
use Rattle.cjc_world.proofs.unchecked.UncheckedWorld.first_fault.Goals as goal

pub returns-in-Ok-None-clause-none : goal.returns-in-Ok-None-clause-none
returns-in-Ok-None-clause-none c = head_empty (breaks c.args.list.now c.args.self.now) (sym c.in-Ok-None.ensures
    ∙ ap (option_map break_of) c.in-Ok-None.field-0-is)

pub returns-in-Ok-Some-clause-some : goal.returns-in-Ok-Some-clause-some
returns-in-Ok-Some-clause-some c =
    let first = sym c.in-Ok-Some.ensures ∙ ap (option_map break_of) c.in-Ok-Some.field-0-is in
    ⊎_elim
    (λ h. inr (
      break_of c.in-Ok-Some.broken,
      first_is_first c.args.list.now c.args.self.now
          (break_of c.in-Ok-Some.broken) first,
      h,
    ))
    (λ h. inl h)
    c.refused_at.ensures
