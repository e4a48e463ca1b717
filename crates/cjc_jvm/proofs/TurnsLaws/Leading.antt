-- A move that is another.
use Rattle.std.proofs.Common.{◌≡◌, sym, subst}
use Rattle.cjc_jvm_step.specs.CardSemantics.Bytecode.Runs.{Move}
use Rattle.cjc_jvm_semantics.specs.Machine.{State}
use Rattle.cjc_jvm.specs.declared.turns.after.After.{After}
use Rattle.cjc_jvm.specs.States.{Leads}

pub leads_as : (x y : Move State) (after : After) (s : State) → x ≡ y → Leads y after s → Leads x after s
leads_as x y after s e h = subst (λ (m : Move State). Leads m after s) (sym e) h
