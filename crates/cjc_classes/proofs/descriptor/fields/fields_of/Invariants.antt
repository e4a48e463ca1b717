use Rattle.std.proofs.Common.{◌≡◌, ◌++◌, drop}
use Rattle.cjc_classes.specs.Descriptor.Working.Described.{fields_at, inputs_of}
use Rattle.cjc_classes.proofs.descriptor.fields.fields_of.Given as goal

abbrev pub invariant-loop-place : goal.invariant-loop-place
invariant-loop-place l = let c = l.class in l.row ++ fields_at (inputs_of l.parts) l.number c.name l.place
    (drop l.place l.fields) ≡ fields_at (inputs_of l.parts) l.number c.name 0 c.fields
