use Rattle.std.proofs.Common.{◌≡◌, ◌++◌, drop, map}
use Rattle.std.specs.Prelude.{option_map}
use Rattle.std.specs.List.{All}
use Rattle.cjc_jvm.specs.Acts.Meant.{sort_meant}
use Rattle.cjc_card_semantics.specs.Bytecode.Arguments
use Rattle.cjc_card_frame.specs.Frame.Frames.{IsWord}
use Rattle.cjc_card.proofs.acts.words.put_values.Given as goal

abbrev pub invariant-loop-sort : goal.invariant-loop-sort
invariant-loop-sort l = record {
  is : option_map (λ more. l.fn.values ++ more) (Arguments.values_of (map sort_meant l.sorts) l.words)
      ≡ option_map (λ more. l.values ++ more) (Arguments.values_of (map sort_meant (drop l.sort-index l.sorts)) l.rest);
  are : All IsWord l.rest;
}
