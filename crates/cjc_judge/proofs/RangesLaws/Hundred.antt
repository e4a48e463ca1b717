-- Rules 601 to 609 are of the sixth hundred.
use Rattle.std.proofs.Common.{◌≡◌, Bool, ℕ, refl, List}
use Rattle.std.specs.Prelude.{◌/◌}
use Rattle.cjc_bytes.specs.Descriptor.{Part}
use Rattle.cjc_bytes.specs.declared.breaks.BrokenAt.{BrokenAt}
use Rattle.cjc_clinit.specs.Bytecode.declared.insn.JOp.{JOp}
use Rattle.cjc_flow.specs.Range.Span.{Span}
use Rattle.cjc_flow.specs.LowerIntervals.Bounds.{Bounds, IsBoundOf, a_short, a_byte, a_boolean, a_comparison}
use Rattle.cjc_flow.specs.LowerIntervals.Bounds.{a_division}
use Rattle.cjc_flow.specs.LowerIntervals.Bounds.{a_shift}
use Rattle.cjc_flow.specs.LowerIntervals.Bounds.{a_table, a_lookup, a_count, a_reference_count, a_load, a_store}
use Rattle.cjc_flow.specs.LowerIntervals.Bounds.{a_static_field}
use Rattle.cjc_flow.specs.LowerIntervals.Bounds.{a_field, an_argument, a_result, a_boolean_element}
use Rattle.cjc_narrow.specs.Types.declared.cell.Cell.{Cell}
use Rattle.cjc_narrow.specs.Types.Flow.{Body}
use Rattle.cjc_world.specs.Files.{Files}
use Rattle.cjc_judge.specs.OutOfRange.{IsOutOfRange}

kind_rule : (p : Part) (rule : ℕ) (s : Span) → IsBoundOf p rule s → rule / 100 ≡ 6
kind_rule p rule s (a_short is) = refl
kind_rule p rule s (a_byte is) = refl
kind_rule p rule s (a_boolean is) = refl

range_rule : (b : Body) (op : JOp) (types : List Cell) (rule k : ℕ) (s : Span) → Bounds b op types rule k s
    → rule / 100 ≡ 6
range_rule b op types rule k s (a_comparison numbers lt) = refl
range_rule b op types rule k s (a_division divides lt) = refl
range_rule b op types rule k s (a_shift shifts) = refl
range_rule b op types rule k s a_table = refl
range_rule b op types rule k s a_lookup = refl
range_rule b op types rule k s a_count = refl
range_rule b op types rule k s a_reference_count = refl
range_rule b op types rule k s a_load = refl
range_rule b op types rule k s a_store = refl
range_rule b op types rule k s (a_static_field is) = kind_rule _ rule s is
range_rule b op types rule k s (a_field is) = kind_rule _ rule s is
range_rule b op types rule k s (an_argument lt is) = kind_rule _ rule s is
range_rule b op types rule k s (a_result is) = kind_rule _ rule s is
range_rule b op types rule k s (a_boolean_element is) = refl

pub of_sixth_hundred : (ints : Bool) (files : Files) (b : Body) (x : BrokenAt) → IsOutOfRange ints files b x
    → x.rule / 100 ≡ 6
of_sixth_hundred ints files b x h = range_rule b _ _ x.rule _ _ h.first.first.breach.bounds
