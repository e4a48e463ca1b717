-- What is asked of a method, in int mode or not, so that it begins alike wherever it is given arguments of its types.
use Rattle.std.specs.Prelude.{◌≡◌, ◌+◌, ◌-◌, ◌*◌, ◌≤◌, List, [], ◌++◌, length, replicate}
use Rattle.std.specs.Prelude.{false}
use Rattle.cjc_script.specs.Sorts.{Sort}
use Rattle.cjc_card_semantics.specs.Bytecode.Machine.{Start}
use Rattle.cjc_ncode.specs.declared.narrow.NMethod.{NMethod}
use Rattle.cjc_ncode.specs.IntCode.IntCode.{nargs, prologue}
use Rattle.cjc_jvm_semantics.specs.Linked.{Method}
use Rattle.cjc_narrow_proof.specs.Selection.Calls.{IsNarrowed, first_locals}
use Rattle.cjc_narrow_proof.specs.Selection.Relation.{Kind, Free}
use Rattle.cjc_narrow_proof.specs.Selection.Tables.{Table, Arrives}
use Rattle.cjc_int_runs.specs.ByModes.{PassesWords}
use Rattle.cjc_int_runs.specs.IntFrames.{IntBody, IntArrives}
use Rattle.cjc_int_runs.specs.Steps.{StandAt, behind}

-- A method in int mode: what is written for it begins with the prologue, has as many words as its arguments and locals
-- need, and the first instruction of the class file knows no more than these arguments.
pub record IntMethodBegins (narrowed : Method → Start NMethod) (b : IntBody) (m : Method) (sorts : List Sort)
    (kinds : List Kind) : Type 0 where
  pub has_code : m.is_abstract ≡ false
  pub is_written : (let n = narrowed m in n.is_abstract) ≡ false
  pub code : (let n = narrowed m in n.code) ≡ b.code
  pub argument_words : (let n = narrowed m in n.nargs) ≡ nargs b.frame
  pub further_words : (let n = narrowed m in n.max_locals) ≡ (let f = b.frame in 2 * f.max_locals) + 2 * b.pairs
  pub params : (let f = b.frame in f.params) ≡ sorts
  pub few : length sorts ≤ 255
  pub named_locals : m.max_locals ≡ (let f = b.frame in f.max_locals)
  pub fit : length kinds ≤ (let f = b.frame in f.max_locals)
  pub stands : StandAt b.code (let n = narrowed m in n.at) (prologue b.frame)
  pub has_room : 2 ≤ (let code = b.code in code.max_stack)
  pub arrives : IntArrives b m 0 (behind (let n = narrowed m in n.at) (prologue b.frame)) []
      (kinds ++ replicate ((let f = b.frame in f.max_locals) - length kinds) Free)

-- A method that is not in int mode: each of its parameters has one word, and its first instruction knows no more than
-- these arguments.
pub record ShortMethodBegins (tb : Table) (m : Method) (sorts : List Sort) (kinds : List Kind) : Type 0 where
  pub passes : PassesWords sorts kinds
  pub is_narrowed : IsNarrowed tb.narrowed (length kinds) m
  pub arrives : Arrives tb m 0 (let n = tb.narrowed m in n.at) [] (first_locals m kinds)
