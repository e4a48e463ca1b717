-- What the code tells of a broken rule.
use Rattle.std.specs.Prelude.{ℕ, ◌+◌, List, [], ◌∷◌, ◌++◌}
use Rattle.cjc_bytes.specs.declared.fault.Refusal.{Refusal}
use Rattle.cjc_world.specs.declared.broken.Break.{Break}
use Rattle.cjc_world.specs.declared.broken.Part.{Part}
use Rattle.cjc_world.specs.declared.broken.Part.TheVariants as parts
use Rattle.cjc_world.specs.Rules.{Break as Broken}

abbrev pub text_of : Part → List ℕ
text_of parts.Whole = []
text_of (parts.Field i name desc) = name.now ++ 58 ∷ desc.now
text_of (parts.Method before i name desc) = name.now ++ desc.now

-- the place among the fields and methods of a class, from 1
abbrev pub member_of : Part → ℕ
member_of parts.Whole = 0
member_of (parts.Field i name desc) = 0 + i + 1
member_of (parts.Method before i name desc) = before + i + 1

abbrev pub refusal_of : Break → Refusal
refusal_of b = record { rule = record { 0 = b.rule }; place = record { file = b.file_name.now; class = b.class_name.now; member = text_of b.part; offset = 0 } }

abbrev pub break_of : Break → Broken
break_of b = record {
  rank = record { family = 2; file = b.file; class = b.class; member = member_of b.part; offset = 0; rule = b.rule };
  refusal = refusal_of b;
}
