-- The static fields of a package by their cells, as code looks for them.
use Rattle.std.specs.Prelude.{◌≡◌, ℕ, ◌==◌, List, Option, Some, None, option_and_then, option_map, position, slice_get}
use Rattle.std.specs.List.{find}
use Rattle.cjc_bytes.specs.declared.fault.MemberId.{MemberId}
use Rattle.cjc_classes.specs.NCode.declared.narrow.PoolKey.{PoolKey}
use Rattle.cjc_classes.specs.NCode.declared.narrow.PoolKey.TheVariants as keys
use Rattle.cjc_classes.specs.LowerComponents.Statics.{cell_offset, cell_order}
use Rattle.cjc_world.specs.declared.image.StaticImage.{StaticImage}
use Rattle.cjc_verify.specs.declared.described.cells.Cells.{Cells}

-- the descriptor of the static field of a key; none of a key of another kind
abbrev pub desc_of_key : PoolKey → Option (List ℕ)
desc_of_key (keys.StaticField f) = Some f.desc
desc_of_key key = None

-- the descriptor of the static field that is kept with an offset
abbrev pub kept_desc : Cells → (offset : ℕ) → Option (List ℕ)
kept_desc c offset = option_and_then desc_of_key (option_and_then (slice_get c.keys) (position (λ n. n == offset)
    c.offsets))

-- the descriptor of the static field whose cell stands at an offset
abbrev pub cell_desc : StaticImage → (offset : ℕ) → Option (List ℕ)
cell_desc image offset = option_map (λ (f : MemberId). f.desc) (find (λ f. cell_offset image f == offset)
    (cell_order image))

-- They are those of an image.
abbrev pub AreCells : StaticImage → Cells → Type 0
AreCells image c = (offset : ℕ) → kept_desc c offset ≡ cell_desc image offset
