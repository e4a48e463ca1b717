-- The frame of a method by what a class file says of it.
use Rattle.std.specs.Prelude.{ℕ, List, []}
use Rattle.cjc_ncode.specs.IntCode.IntCode.{Frame}
use Rattle.cjc_int_mode.specs.Written.{int_frame}

-- what a frame reads of a method
unfoldable pub frame_of : (class : List ℕ) → (flags : ℕ) → (desc : List ℕ) → (max_locals : ℕ) → Frame
frame_of class flags desc max_locals = int_frame (record {
  class = class;
  flags = flags;
  desc = desc;
  max_stack = 0;
  max_locals = max_locals;
  catches = [];
  insns = [];
})
