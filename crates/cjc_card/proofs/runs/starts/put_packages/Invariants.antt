use Rattle.std.proofs.Common.{◌≡◌, ◌≤◌, ◌-◌, ◌++◌, length, drop}
use Rattle.cjc_card_semantics.specs.Machine.Statics.{first_arrays, first_images}
use Rattle.cjc_card.proofs.runs.starts.put_packages.Given as goal

abbrev pub invariant-parts : goal.invariant-parts
invariant-parts g l =
    let parts = (g.L.LookUps.loaded l.links).parts in
    record {
      heap : l.fn.heap ++ first_arrays parts ≡ l.heap ++ first_arrays (drop l.part parts);
      statics : l.fn.statics ++ first_images (length l.fn.heap) parts ≡ l.statics
          ++ first_images (length l.heap) (drop l.part parts);
      within : l.part ≤ length parts;
    }

abbrev pub decreases-parts : goal.decreases-parts
decreases-parts g l = length (g.L.LookUps.loaded l.links).parts - l.part
