-- A layout as components have it, where a method's code begins at an offset of Method's info.
use Rattle.std.specs.Prelude.{ℕ, ◌+◌}
use Rattle.cjc_ncode.specs.LowerCapRead.declared.tree.Handler.{Handler as Written}
use Rattle.cjc_ncode.specs.Lowering.Naming.{Naming}
use Rattle.cjc_ncode.specs.Lowering.Laid.{class_index}
use Rattle.cjc_layout.specs.declared.layout.Handler.{Handler}

-- a handler as the handler table has it
abbrev pub handler_on_card : Naming → (first : ℕ) → Handler → Written
handler_on_card n first h = record {
  start = first + h.start;
  stop = h.stop;
  length = h.length;
  handler = first + h.target;
  catch_index = class_index n h.class;
}
