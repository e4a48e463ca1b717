-- What holds of a method that is kept with its types for its intervals.
use Rattle.std.specs.Prelude.{◌≡◌, ◌<◌, ◌^◌, Bool, List, length, Option}
use Rattle.cjc_range.specs.Span.{Span}
use Rattle.cjc_types.specs.World.Classes.{Class}
use Rattle.cjc_types.specs.declared.table.TypeTable.{TypeTable}
use Rattle.cjc_types.specs.Flow.{Body}
use Rattle.cjc_types.specs.Tables.{IsTypeTable, rows_of}
use Rattle.cjc_intervals.specs.Flow.{is_target}
use Rattle.cjc_flow.specs.Working.Given.{elements_of}

-- The types are the method's table, the elements are what its array loads give by it, and `first` says whether a jump,
-- a switch or a handler leads to its first instruction.
pub record IsRanging (b : Body) (types : TypeTable) (elements : List (Option Span)) (first : Bool) : Type 0 where
  pub classes : List Class
  pub typed : IsTypeTable classes b types
  pub elements_are : elements ≡ elements_of b.insns (rows_of b types)
  pub first_is : first ≡ is_target b 0
  pub few : length b.insns < 2 ^ 32
