-- The instruction behind the guard of an index raises where the one of the class file does.
use Rattle.std.proofs.Common.{◌≡◌, ℕ, ◌+◌, ◌<◌, List, ◌∷◌, ◌++◌, length, refl, arith}
use Rattle.std.specs.Prelude.{Option, Some, slice_get, ℤ}
use Rattle.std.proofs.lemmas.List.{length-append}
use Rattle.cjc_script.specs.declared.value.Value.{Value}
use Rattle.cjc_script.specs.declared.value.Value.TheVariants.{Num}
use Rattle.cjc_card_semantics.specs.Bytecode.Effects as narrow
use Rattle.cjc_ncode.specs.declared.narrow.NInsn.{NInsn}
use Rattle.cjc_ncode.specs.declared.narrow.NInsn.TheVariants as insns
use Rattle.cjc_ncode.specs.declared.narrow.NMethod.{NMethod}
use Rattle.cjc_ncode.specs.ByLabel.{Named, by_label}
use Rattle.cjc_ncode.specs.IntCode.IntCode.{Frame}
use Rattle.cjc_jvm_semantics.specs.Effects as by_name
use Rattle.cjc_int_proof.specs.Walks.{walk}
use Rattle.cjc_narrow_proof.specs.Selection.Relation.{Kind, NMemory}
use Rattle.cjc_narrow_proof.specs.Selection.Rows.{narrow_fault}
use Rattle.cjc_int_runs.specs.Guards.{Guarded}
use Rattle.cjc_int_runs.specs.Steps.{InStep, behind, raises, spot}
use Rattle.cjc_int_runs.proofs.Stepping.{asked, raised}
use Rattle.cjc_int_runs.proofs.Guard.{behind_is, and_onward}

-- whatever is written behind it
pub raised_behind : (l : Named) (f : Frame) (pairs : ℕ) (ks ls : List Kind) (code : NMethod) (here at : ℕ)
    (first last : List NInsn) (i : ℤ) (onto under : List Value) (words : List (Option Value)) (memory : NMemory)
    (g : Guarded l code here first i onto under words memory) (op : ℕ) (fault : by_name.Fault) → 0 < length last
    → slice_get code.insns (behind here first) ≡ Some (insns.Op op)
    → asked l code (insns.Op op) (behind here first) (Num g.j ∷ under) words memory ≡ narrow.Raise (narrow_fault fault)
    → InStep l f pairs ks ls here (behind here (first ++ last)) words memory (at + 1) (by_name.Raise fault)
    (λ k. walk (by_label l) code k (spot here onto words memory)) (length (first ++ last))
raised_behind l f pairs ks ls code here at first last i onto under words memory g op fault size there does =
    let long = length-append first last in let few = g.few in
    let a = behind_is here first in let c = behind_is here (first ++ last) in
    raises (record {
      fault = fault;
      at = behind here first;
      behind = behind here first + 1;
      nstack = Num g.j ∷ under;
      steps = g.steps + 1;
      few = omega (arith, long, size, few);
      by_name = refl;
      by_label = and_onward l code g.steps 1 (spot here onto words memory) (spot (behind here first) (Num g.j ∷ under)
          words memory) _ g.leads (raised l code 0 (behind here first) (insns.Op op) (Num g.j ∷ under) words memory _
          there does);
      from = omega (arith, a);
      before = omega (arith, a, c, long, size);
    })
