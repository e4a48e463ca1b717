-- What rows that see the stack and the locals alone take and give.
use Rattle.std.specs.Prelude.{◌≡◌, ℕ, false, List, None, ℤ}
use Rattle.cjc_types.specs.declared.cell.Cell.{Cell}
use Rattle.cjc_frames.specs.declared.acts.Act.{Act}
use Rattle.cjc_frames.specs.Acts.{Subtype, is_wrong, is_off}
use Rattle.cjc_card_acts.specs.Rows.{Row, Pushes, Loads, Stores, Increases, Pops, Copies, CopiesBelow, Swaps}
use Rattle.cjc_card_acts.specs.Rows.{Calculates}
use Rattle.cjc_card_acts.specs.Rows.{any_words, idle, pushing, loading, storing, increasing, with_local, copying}
use Rattle.cjc_card_acts.specs.Rows.{copying_below, swapping_by, with_number, calculating}

-- by the row and the operands
abbrev pub plain_act : Row → List ℤ → Act
plain_act (Pushes words) operands = pushing words
plain_act (Loads letter local) operands = with_local (loading letter) local operands
plain_act (Stores letter local) operands = with_local (storing letter) local operands
plain_act (Increases letter) operands = with_local (increasing letter) None operands
plain_act (Pops n) operands = record idle { takes = any_words n }
plain_act (Copies n) operands = copying n n
plain_act CopiesBelow operands = with_number copying_below operands
plain_act Swaps operands = with_number swapping_by operands
plain_act (Calculates m n) operands = calculating m n
plain_act row operands = idle

-- The stack and the locals before an instruction are what it needs, and it is known.
pub record Passes (is_of : Subtype) (max_stack : ℕ) (a : Act) (locals stack : List Cell) : Type 0 where
  pub right : is_wrong is_of a locals stack ≡ false
  pub there : is_off max_stack a locals stack ≡ false
  pub known : a.is_unknown ≡ false
