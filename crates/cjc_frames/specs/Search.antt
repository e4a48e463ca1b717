-- The first broken rule, instruction by instruction.
use Rattle.std.specs.Prelude.{ℕ, ◌+◌, List, [], ◌∷◌, Option, Some, None, if◌then◌else◌}
use Rattle.cjc_types.specs.declared.cell.Cell.{Cell}
use Rattle.cjc_types.specs.declared.state.Stack.{Stack}
use Rattle.cjc_types.specs.declared.state.Stack.TheVariants.{Cells, Clash}
use Rattle.cjc_types.specs.declared.state.State.{State}
use Rattle.cjc_frames.specs.declared.acts.Act.{Act}
use Rattle.cjc_frames.specs.declared.acts.Step.{Step}
use Rattle.cjc_frames.specs.declared.search.FirstBroken.{FirstBroken}
use Rattle.cjc_frames.specs.Acts.{Subtype, is_wrong, is_off}

-- the first rule that an instruction breaks whatever the state
abbrev pub rule_of_act : Act → Option ℕ
rule_of_act a = if a.is_unknown then Some 726 else if a.misnames then Some 727 else None

-- the first rule that an instruction breaks on this stack with these locals
abbrev pub rule_of_stack : Subtype → (max_stack : ℕ) → Act → (locals : List Cell) → Stack → Option ℕ
rule_of_stack is_of max_stack a locals Clash = Some 722
rule_of_stack is_of max_stack a locals (Cells s) =
    if is_wrong is_of a locals s then Some 723 else if is_off max_stack a locals s then Some 724 else rule_of_act a

-- the first rule that the state before an instruction breaks
abbrev pub first_rule : Subtype → (max_stack : ℕ) → Act → State → Option ℕ
first_rule is_of max_stack a x = rule_of_stack is_of max_stack a x.locals x.stack

-- the first rule that an instruction breaks, where it is reached
abbrev pub row_rule : Subtype → (max_stack : ℕ) → Step → Option State → Option ℕ
row_rule is_of max_stack s None = None
row_rule is_of max_stack s (Some x) = first_rule is_of max_stack s.act x

-- this place with the rule that is broken there, or else what is found later
abbrev pub or_later : Option ℕ → (place : ℕ) → Option FirstBroken → Option FirstBroken
or_later (Some rule) place later = Some (record { place = place; rule = rule })
or_later None place later = later

-- of these instructions and their rows, the first of which has this place
abbrev pub first_from : Subtype → (max_stack place : ℕ) → List Step → List (Option State) → Option FirstBroken
first_from is_of max_stack place [] rows = None
first_from is_of max_stack place (s ∷ steps) [] = None
first_from is_of max_stack place (s ∷ steps) (row ∷ rows) = or_later (row_rule is_of max_stack s row) place
    (first_from is_of max_stack (place + 1) steps rows)
