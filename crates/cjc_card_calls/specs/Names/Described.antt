-- What Descriptor says of methods by their names.
use Rattle.std.specs.Prelude.{ℕ, List, Option, option_and_then, option_map}
use Rattle.cjc_card_semantics.specs.Bytes.declared.fault.MemberId.{MemberId}
use Rattle.cjc_card_semantics.specs.CapRead.declared.tree.ClassDescriptor.{ClassDescriptor}
use Rattle.cjc_card_semantics.specs.Machine.Loaded.{MethodName}
use Rattle.cjc_card_semantics.specs.Machine.Calls.{Described, class_among, named_among}
use Rattle.cjc_card_calls.specs.declared.names.described.Described.{Described as DescribedData}

-- what Descriptor says of a method, with its package
abbrev pub described_of : DescribedData → Described
described_of d = record { part = d.part; method = d.method }

-- what the class at an offset of a package says of the method of a name, by the names of its methods
abbrev pub described_among : (part offset : ℕ) → MemberId → List MethodName → List ClassDescriptor → Option Described
described_among p offset id names classes =
    option_and_then (λ d. option_map (λ m. record { part = p; method = m }) (named_among names d.methods id))
    (class_among classes offset)
