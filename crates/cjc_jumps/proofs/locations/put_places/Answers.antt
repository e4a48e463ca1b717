use Rattle.std.proofs.Common.{◌∙◌, ap, ◌++◌, List, ℕ, map}
use Rattle.cjc_jumps.specs.Listing.{place_of}
use Rattle.cjc_jumps.specs.Offsets.{operand_at}
use Rattle.cjc_jumps.proofs.Flat.{put_all}
use Rattle.cjc_jumps.proofs.Listed.{places_are}
use Rattle.cjc_jumps.proofs.locations.put_places.Goals as goal

pub returns : goal.returns
returns c =
    put_all operand_at (place_of c.args.size) c.loop-index.index-index c.args.indices.now c.loop-index.places _ c.loop-index-test.false c.loop-index.invariant
    ∙ ap (λ (ys : List ℕ). c.args.places.now ++ ys) (places_are c.args.size (map operand_at c.args.indices.now))
