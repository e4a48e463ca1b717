-- Rules over the headers of methods (Java Card Virtual Machine Specification 2.2.2, section 6.9).
use Rattle.std.specs.Prelude.{ℕ, ◌+◌, ◌==◌, ◌&&◌, not, Bool, List, if◌then◌else◌}
use Rattle.cjc_bytes.specs.AccessFlags.{is_static, has, acc_abstract}
use Rattle.cjc_check_rules.specs.declared.spot.ComponentPlace.{ComponentPlace}
use Rattle.cjc_check_rules.specs.Spots.{in_info, unless}
use Rattle.cjc_card_acts.specs.CardTypes.{widths}
use Rattle.cjc_verify.specs.Pairs.{Pair, Described, method_at, member_of}
use Rattle.cjc_verify.specs.Named.{holds}
use Rattle.cjc_verify.specs.Bodies.{Body, type_of_body}

-- the words of the arguments, with the receiver of a method that is not static
abbrev pub argument_words : Pair → Body → ℕ
argument_words p b = let m = b.method in let t = type_of_body p.components b in (if is_static m.flags then 0 else 1)
    + widths t.params

-- the package's method has code
abbrev pub has_code : Pair → Described → Bool
has_code p d = let m = member_of p d in not (has m.flags acc_abstract)

-- a header has the words of the method's type, and is abstract where the package's method is
abbrev pub is_fit_header : Pair → Body → Bool
is_fit_header p b = let h = b.header in let m = b.method in (h.nargs == argument_words p b) && not (h.is_abstract
    && holds (has_code p) (method_at p m.offset))

-- 727 at a header.
abbrev pub header_spots : Pair → Body → List ComponentPlace
header_spots p b = unless (is_fit_header p b) (in_info 7 (let m = b.method in m.offset))
