-- What Descriptor's wants are made of.
use Rattle.cjc_classes.specs.ClassInfo.Refs.{ref_of}
use Rattle.cjc_verify.specs.WantedMembers.{Inputs}
use Rattle.cjc_verify.specs.declared.described.made.Made.{Made}

-- what is made before, of what code holds
abbrev pub inputs_of : Made → Inputs
inputs_of q = record {
  files = q.world.now;
  tokens = q.tokens.now;
  ref = ref_of q.refs.now;
  cells = q.cells.now;
}
