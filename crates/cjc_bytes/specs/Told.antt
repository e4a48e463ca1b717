-- What the code's places and broken rules are, whose names are lent.
use Rattle.std.specs.Prelude.{ℕ, List, []}
use Rattle.cjc_bytes.specs.declared.breaks.Break.{Break as Broken}
use Rattle.cjc_bytes.specs.declared.breaks.Part.{Part}
use Rattle.cjc_bytes.specs.declared.breaks.Part.TheVariants as parts
use Rattle.cjc_bytes.specs.declared.breaks.PlaceRef.{PlaceRef}
use Rattle.cjc_bytes.specs.declared.breaks.RulePlace.{RulePlace as RulePlaceRef}
use Rattle.cjc_bytes.specs.declared.fault.Place.{Place}
use Rattle.cjc_bytes.specs.declared.order.FileRef.{FileRef}
use Rattle.cjc_bytes.specs.Order.{FilePlace}
use Rattle.cjc_bytes.specs.Refused.{field_text, in_class, method_text}
use Rattle.cjc_bytes.specs.Breaks.{Break, RulePlace, broken_at}

-- the text that tells the part of a class: of the class itself none, of a field or a method its name and descriptor
abbrev pub text_of : Part → List ℕ
text_of parts.Whole = []
text_of (parts.Field name desc) = field_text name.now desc.now
text_of (parts.Method name desc) = method_text name.now desc.now

-- a file of the code: its key in the order of refusals, and its name
abbrev pub file_place_of : FileRef → FilePlace
file_place_of f = record { key = f.key; name = f.name.now }

-- what a refusal tells of a place of the code: file, class, member and offset
abbrev pub place_of : PlaceRef → Place
place_of p = in_class p.file.now p.class.now (text_of p.part) p.offset

-- a spot of the code: where it stands in the order of refusals, and what is told of it
abbrev pub spot_of : RulePlaceRef → RulePlace
spot_of s = record { file = s.file; class = s.class; member = s.member; place = place_of s.place }

-- a broken rule of the code, with its rank and its refusal
abbrev pub break_of : Broken → Break
break_of b = broken_at (spot_of b.spot) b.rule
