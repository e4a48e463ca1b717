use Rattle.std.proofs.Common.{◌≡◌, ◌++◌, drop, map, true}
use Rattle.std.specs.Prelude.{option_map}
use Rattle.std.specs.List.{All}
use Rattle.cjc_script.specs.Sorts.{all_fit}
use Rattle.cjc_jvm.specs.Acts.Meant.{sort_meant}
use Rattle.cjc_card_semantics.specs.Bytecode.Arguments.{words_of}
use Rattle.cjc_card_frame.specs.Frame.Frames.{IsWord}
use Rattle.cjc_card.proofs.acts.words.put_words.Given as goal

abbrev pub invariant-loop-i : goal.invariant-loop-i
invariant-loop-i l = record {
  is : option_map (λ more. l.fn.words ++ more) (words_of (map sort_meant l.sorts) l.values)
      ≡ option_map (λ more. l.words ++ more) (words_of (map sort_meant (drop l.i l.sorts)) (drop l.i l.values));
  fit : all_fit (λ k shape. true) (map sort_meant (drop l.i l.sorts)) (drop l.i l.values) ≡ true;
  are : All IsWord l.fn.words → All IsWord l.words;
}
