-- A package by modes is fine, by the tables of its methods in int mode.
use Rattle.std.proofs.Common.{◌≡◌, List, Option, Some, sym, subst, ◌∙◌}
use Rattle.cjc_code.specs.declared.insn.JOp.{JOp}
use Rattle.cjc_script.specs.Sorts.{Sort}
use Rattle.cjc_world.specs.Classes.{Class}
use Rattle.cjc_types.specs.declared.cell.Cell.{Cell}
use Rattle.cjc_types.specs.Search.{cells_of}
use Rattle.cjc_ncode.specs.ByLabel.{Named}
use Rattle.cjc_jvm_semantics.specs.Linked.{Method, Linked}
use Rattle.cjc_narrow_proof.specs.Tables.Analysis.{Analysis, TypesAreTold, ThrowablesMay, table_of}
use Rattle.cjc_narrow_proof.specs.Tables.Arrays.{ClassesAreNamed}
use Rattle.cjc_int_runs.specs.ByModes.{PackageIsFine}
use Rattle.cjc_int_runs.specs.IntFrames.{IntBody, StandsByMode}
use Rattle.cjc_int_runs.specs.Typed.{IntMethodIsWritten}
use Rattle.cjc_int_alike.specs.Callees.{IsIntBegun, int_code}
use Rattle.cjc_int_alike.specs.Calls.{IsIntSupported}
use Rattle.cjc_int_alike.specs.Calls as supported
use Rattle.cjc_int_alike.specs.Method.{int_body, int_reached}
use Rattle.cjc_int_alike.specs.Package.{IsSupportedByMode, AreSupportedByMode, IsModePackage, plainly, by_name}
use Rattle.cjc_int_alike.specs.Package.{by_array}
use Rattle.cjc_int_alike.specs.Package.{by_return, by_throw, by_call}
use Rattle.cjc_int_alike.proofs.Callees.{called_by_mode, scripted_by_mode}
use Rattle.cjc_int_alike.proofs.Points.{method_typed, classes_told}
use Rattle.cjc_int_alike.proofs.Written.{is_written}

module _ (by : Linked) (l : Named) (w : List Class) (a : Analysis) (bodies : Method → Option IntBody)
    (results : Method → Option Sort) where
  supported_here : (m : Method) (cells : List Cell) (op : JOp) → IsSupportedByMode by l w a bodies results m cells op
      → IsIntSupported by l (StandsByMode l (table_of l a) bodies) results a.narrowed a.may_throw (a.resolution m) m
      cells op
  supported_here m cells op (plainly is) = supported.names_nothing is
  supported_here m cells op (by_name is) = supported.is_resolved is
  supported_here m cells op (by_array is) = supported.is_on_array is
  supported_here m cells _ (by_return is) = supported.returns is
  supported_here m cells _ by_throw = supported.throws
  supported_here m cells op (by_call is) = supported.calls (called_by_mode by l w a bodies results (a.resolution m) m
      cells op is)

  -- A method in int mode is written, with enough known before each of its reached instructions.
  pub method_written : TypesAreTold w l → ClassesAreNamed w l → ThrowablesMay l a → (m : Method)
      → (h : IsIntBegun by l w a bodies results m) → AreSupportedByMode by l w a bodies results m
      → IntMethodIsWritten by l (StandsByMode l (table_of l a) bodies) results a.narrowed a.may_throw
      (int_body l (a.resolution m) (a.found m) (int_code a h.tree m)) m
  method_written types arrays may m h are =
      let whole = h.whole in
      let f = a.found m in
      record {
        reached = int_reached f;
        is_written = is_written l (a.resolution m) f m h.tree whole.read whole.decoded h.catches h.max_stack;
        tells = classes_told by l (StandsByMode l (table_of l a) bodies) results a.narrowed a.may_throw w
            (a.resolution m) f (int_code a h.tree m) m whole;
        is_typed = method_typed by l (StandsByMode l (table_of l a) bodies) results a.narrowed a.may_throw w
            (a.resolution m) f (int_code a h.tree m) m whole types arrays may h.gives
            (λ at i t there row. supported_here m (cells_of t.stack) i.op (are at i t there row));
      }

  pub package_fine : IsModePackage by l w a bodies results → PackageIsFine by l (table_of l a) bodies results
  package_fine is = record {
    int_methods = λ m b has. of_method m b has (is.int_methods m b has);
    short_methods = is.short_methods;
    scripted = λ id. scripted_by_mode by l w a bodies results id (is.scripted id);
    exceptions = is.exceptions;
    acts = (let answered = is.answered in answered.acts);
    throws = (let answered = is.answered in answered.throws);
    may_answer = (let answered = is.answered in answered.may_throw);
    starts = is.starts;
  }
    where
      some_same : {b c : IntBody} → Some b ≡ Some c → b ≡ c
      some_same e = cc

      of_method : (m : Method) (b : IntBody) → bodies m ≡ Some b → IsIntBegun by l w a bodies results m
          → IntMethodIsWritten by l (StandsByMode l (table_of l a) bodies) results a.narrowed a.may_throw b m
      of_method m b has h = subst (λ c. IntMethodIsWritten by l (StandsByMode l (table_of l a) bodies) results
          a.narrowed a.may_throw c m) (some_same (sym h.body ∙ has)) (method_written is.types is.arrays is.throwables m
          h (is.supported m b has))
