use Rattle.std.proofs.Common.{◌≡◌, ◌++◌, drop}
use Rattle.cjc_verify.specs.Made.{inputs_of}
use Rattle.cjc_verify.specs.WantedMembers.{fields_by}
use Rattle.cjc_verify.proofs.described.made.fields_of.Given as goal

abbrev pub invariant-loop-place : goal.invariant-loop-place
invariant-loop-place l = let c = l.class in l.row ++ fields_by (inputs_of l.made) l.number c.name l.place
    (drop l.place l.fields) ≡ fields_by (inputs_of l.made) l.number c.name 0 c.fields
