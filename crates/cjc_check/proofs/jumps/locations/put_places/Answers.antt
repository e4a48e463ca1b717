use Rattle.std.proofs.Common.{◌∙◌, ap, ◌++◌, List, ℕ, map}
use Rattle.cjc_check.specs.Jumps.Listing.{place_of}
use Rattle.cjc_check.specs.Jumps.Offsets.{operand_at}
use Rattle.cjc_check.proofs.JumpsLaws.Flat.{put_all}
use Rattle.cjc_check.proofs.JumpsLaws.Listed.{places_are}
use Rattle.cjc_check.proofs.jumps.locations.put_places.Goals as goal

pub returns : goal.returns
returns c =
    put_all operand_at (place_of c.args.size) c.loop-index.index-index c.args.indices.now c.loop-index.places _
    c.loop-index-test.false c.loop-index.invariant
    ∙ ap (λ (ys : List ℕ). c.args.places.now ++ ys) (places_are c.args.size (map operand_at c.args.indices.now))
