-- What a layout of a method is, and which methods can be laid out: what `layout` answers and asks.
use Rattle.std.specs.Prelude.{◌≡◌, ℕ, ◌<◌, ◌≤◌, List, length, slice_index}
use Rattle.cjc_ncode.specs.declared.narrow.NInsn.{NInsn}
use Rattle.cjc_ncode.specs.declared.narrow.NMethod.{NMethod}
use Rattle.cjc_layout.specs.declared.layout.Layout.{Layout}
use Rattle.cjc_layout.specs.Sizes.{bytes_before, code_size, widest_size, AllLead}
use Rattle.cjc_layout.specs.Legal.{IsLeast}
use Rattle.cjc_layout.specs.Handlers.{handlers_of, table_order, AllLie}

-- one offset for each instruction
pub record HasPlaces (insns : List NInsn) (to : ℕ → ℕ) (places : List ℕ) : Type 0 where
  pub count : length places ≡ length insns
  pub each : (k : ℕ) → k < length insns → slice_index places k ≡ to k

-- The layout of a method: the least choice of wide jumps, offsets from the first instruction by this choice, and the
-- handlers that are written.
pub record IsLayout (m : NMethod) (l : Layout) : Type 0 where
  pub wide : IsLeast m.insns l.wide
  pub places : HasPlaces m.insns (bytes_before m.insns l.wide) l.places
  pub length : l.length ≡ code_size m.insns l.wide
  pub handlers : l.handlers ≡ handlers_of (bytes_before m.insns l.wide) (table_order m.catches)

-- A method that can be laid out: jumps and handlers have their places in the list, and with every jump wide its
-- instructions have no more bytes than the widest count.
pub record IsWhole (m : NMethod) : Type 0 where
  pub leads : AllLead (length m.insns) m.insns
  pub lies : AllLie (length m.insns) m.catches
  pub size : widest_size m.insns ≤ m.widest
