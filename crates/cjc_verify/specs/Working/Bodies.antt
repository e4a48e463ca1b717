-- The methods of Method as code keeps them, and which rules each breaks.
use Rattle.std.specs.Prelude.{◌≡◌, ◌⊎◌, ℕ, Bool, List, [], ◌∷◌, map, Option, if◌then◌else◌}
use Rattle.cjc_bytes.specs.Breaks.{Break, Among}
use Rattle.cjc_bytes.specs.declared.breaks.BrokenAt.{BrokenAt}
use Rattle.cjc_capread.specs.Decoder.Decoded.{header_of}
use Rattle.cjc_capread.specs.declared.tree.ClassDescriptor.{ClassDescriptor}
use Rattle.cjc_capread.specs.declared.tree.ClassInfo.{ClassInfo}
use Rattle.cjc_methods.specs.LowerCheck.Codes.Bodies.{placed_of}
use Rattle.cjc_check_rules.specs.Classes.{is_own_class}
use Rattle.cjc_check_rules.specs.Consistent.{break_at}
use Rattle.cjc_check_rules.specs.Spots.{in_info}
use Rattle.cjc_card_acts.specs.CardTypes.{is_type_of}
use Rattle.cjc_classes.specs.Types.declared.state.State.{State}
use Rattle.cjc_card_acts.specs.LowerFrames.Tables.{Breach, IsLeastTable}
use Rattle.cjc_verify.specs.Bodies.{Body, frames_of, listed_in}
use Rattle.cjc_verify.specs.Headers.{has_code, header_spots}
use Rattle.cjc_verify.specs.Named.{holds}
use Rattle.cjc_verify.specs.Pairs.{Pair, method_at}
use Rattle.cjc_verify.specs.declared.listed.Listed.{Listed}
use Rattle.cjc_verify.specs.declared.method_body.MethodBody.{MethodBody}

-- the methods of a class of the package that is no interface
abbrev pub listed_where : ClassInfo → ClassDescriptor → List Listed
listed_where info d = if is_own_class info d.this_class then listed_in d else []

-- a method as it is kept
abbrev pub body_of : MethodBody → Body
body_of b = record {
  holder = b.holder;
  method = b.method;
  header = header_of b.header;
  instructions = map placed_of b.code.now.insns;
}

-- A rule is broken by an instruction that the least table of the method reaches.
pub data InCode (p : Pair) (b : Body) : Break → Type 0 where
  in_code : (rows : List (Option State)) (place rule : ℕ) → IsLeastTable (frames_of p b) rows
      → (breach : Breach (is_type_of p.loaded) (frames_of p b) rows place rule)
      → InCode p b (break_at rule (in_info 7 breach.step.at))

-- a rule broken by the instruction at an offset
abbrev pub in_method : BrokenAt → Break
in_method b = break_at b.rule (in_info 7 b.offset)

-- a rule is broken by a header
abbrev pub InHeader : Pair → Body → Break → Type 0
InHeader p b x = Among x (map (break_at 727) (header_spots p b))

-- a rule is broken by a method
abbrev pub InBody : Pair → Body → Break → Type 0
InBody p b x = InHeader p b x ⊎ InCode p b x

-- a rule is broken by one of these methods
abbrev pub InBodies : Pair → List Body → Break → Type 0
InBodies p [] x = ⊥
InBodies p (b ∷ bodies) x = InBody p b x ⊎ InBodies p bodies x

-- the package's method of a header has code
abbrev pub has_code_at : Pair → (offset : ℕ) → Bool
has_code_at p offset = holds (has_code p) (method_at p offset)
