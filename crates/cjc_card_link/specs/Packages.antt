-- What is kept of one package of a group, so that what its components say is found at once.
use Rattle.std.specs.Prelude.{◌≡◌, ℕ, List, [], Option, option_and_then, option_map}
use Rattle.std.specs.Str.{bytes_eq}
use Rattle.cjc_card_semantics.specs.CapRead.declared.tree.ClassInfo.{ClassInfo}
use Rattle.cjc_card_semantics.specs.Machine.Classes.{Class, Own, number_named, offset_of}
use Rattle.cjc_card_semantics.specs.Machine.Loaded.{Part as Linked}
use Rattle.cjc_card_semantics.specs.Machine.Methods.{methods_begin}
use Rattle.cjc_card_link.specs.declared.indices.Numbers.{Numbers}
use Rattle.cjc_card_link.specs.declared.indices.Places.{Places}
use Rattle.cjc_card_link.specs.declared.part.Part.{Part}
use Rattle.cjc_card_link.specs.Group.{part_with}
use Rattle.cjc_card_link.specs.Indices.{number_under, place_under, first_place}
use Rattle.cjc_card_link.specs.Described.{AreSmall, bytes_among}

-- What is kept of a package is what its components say; 32 bits count the bytes of its methods.
pub record IsKept (p : Part) (begin : ℕ) (infos : ClassInfo) (lengths : Numbers) (own : Places) : Type 0 where
  pub begins : begin ≡ methods_begin (part_with [] p)
  pub are_infos : infos ≡ p.class.now
  pub are_lengths : (x : ℕ) → number_under lengths x ≡ bytes_among p.class.now p.descriptor.now x
  pub are_small : AreSmall lengths
  pub are_names : (x : List ℕ) → place_under own x ≡ first_place (λ c. bytes_eq c.name x) p.classes.now

-- the class of a name in the package with this number
abbrev pub named_class : (part : ℕ) → Linked → (name : List ℕ) → Option Class
named_class p part name = option_and_then (λ n. option_map (Own p) (offset_of part n)) (number_named part.classes name)
