-- Whole runs of a package in which methods are of both modes.
use Rattle.std.proofs.Common.{◌≡◌, arith}
use Rattle.std.specs.Prelude.{Option, Some, slice_get}
use Rattle.cjc_int_proof.specs.Bytecode.declared.insn.JInsn.{JInsn}
use Rattle.cjc_script.specs.declared.script.Script.{Script}
use Rattle.cjc_script.specs.Sorts.{Sort}
use Rattle.cjc_card_semantics.specs.Bytecode.Runs.{Agree}
use Rattle.cjc_ncode.specs.ByLabel.{Named}
use Rattle.cjc_ncode.specs.ByLabel as labels
use Rattle.cjc_jvm_semantics.specs.Linked.{Method, Linked}
use Rattle.cjc_jvm_semantics.specs.Effects.{Store}
use Rattle.cjc_jvm_semantics.specs.Machine.{Frame}
use Rattle.cjc_jvm_semantics.specs.Machine as named
use Rattle.cjc_narrow_proof.specs.Selection.Calls.{NFrame}
use Rattle.cjc_narrow_proof.specs.Selection.Relation.{NMemory, Stores}
use Rattle.cjc_narrow_proof.specs.Selection.Tables.{Table}
use Rattle.cjc_int_runs.specs.ByModes.{PackageIsFine}
use Rattle.cjc_int_runs.specs.IntFrames.{IntBody, StandsByMode, in_int_mode, in_short_mode}
use Rattle.cjc_int_runs.specs.Modes.{Does, IsFine}
use Rattle.cjc_int_runs.proofs.Bodies.{method_is_fine}
use Rattle.cjc_int_runs.proofs.IntFrames.{by_rule}
use Rattle.cjc_int_runs.proofs.ModeRuns.{modes_agree}
use Rattle.cjc_int_runs.proofs.Scripted.{entry_begins_alike}
use Rattle.cjc_int_runs.proofs.ShortFrames.{by_short_rule}
use Rattle.cjc_int_runs.proofs.TypedCode.{method_stands}
use Rattle.std.proofs.Common.{ap, ◌∙◌}

module _ (by : Linked) (l : Named) (tb : Table) (bodies : Method → Option IntBody) (results : Method → Option Sort)
    (fine : PackageIsFine by l tb bodies results) where
  does_both : (memory : NMemory) (store : Store) (f : Frame) (g : NFrame) → StandsByMode l tb bodies memory f g
      → Stores l store memory → (i : JInsn) × ((slice_get (let m = f.method in m.insns) f.at ≡ Some i)
      × Does by l (StandsByMode l tb bodies) results tb.narrowed tb.may_throw 1532 memory store f g i)
  does_both memory store f g (in_int_mode b is stands) stores =
      let h = fine.int_methods f.method b is in
      let m = method_is_fine by l (StandsByMode l tb bodies) results tb.narrowed tb.may_throw b f.method
      (method_stands b f.method h.reached h.is_written by l (StandsByMode l tb bodies) results tb.narrowed tb.may_throw
      h.tells h.is_typed) in
      let q = m.rules f.at stands.point stands.is_reached in (
        q.0,
        (
          q.1.0,
          by_rule by l (StandsByMode l tb bodies) results tb.narrowed tb.may_throw b f
              (λ memory inner narrow same stands. in_int_mode b (ap bodies same ∙ is) stands) g stands.code memory store
              stores stands q.0 q.1.1.0 q.1.1.1,
        ),
      )
  does_both memory store f g (in_short_mode is stands) stores =
      let q = fine.short_methods f.method is f.at stands.point stands.is_reached in (
        q.0,
        (q.1.0, by_short_rule by l tb bodies results f is g memory store stores stands q.0 q.1.1),
      )

  fine_by_modes : IsFine by l (StandsByMode l tb bodies) results tb.narrowed tb.may_throw 1532
  fine_by_modes = record {
    does = does_both;
    entries = λ e entries s t agree. entry_begins_alike by l (StandsByMode l tb bodies) results tb.narrowed
        tb.may_throw e entries fine.acts (fine.scripted e.method) s t agree;
    raised = fine.exceptions.raises;
    may_raise = fine.exceptions.may_raise;
    acts = fine.acts;
    throws = fine.throws;
    may_answer = fine.may_answer;
    starts = fine.starts;
  }

  pub package_agrees : (script : Script) → Agree 4096 (λ n. named.run by script n) (λ n. labels.run l script n)
  package_agrees script = modes_agree by l (StandsByMode l tb bodies) results tb.narrowed tb.may_throw 1532 4096 (omega
      arith) (omega arith) fine_by_modes script
