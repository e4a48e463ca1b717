-- The methods of Method as frames are typed in them: their arguments, their instructions and their handlers (Java Card
-- Virtual Machine Specification 2.2.2, section 6.9).
use Rattle.std.specs.Prelude.{ℕ, ◌+◌, ◌-◌, ◌==◌, List, [], ◌∷◌, ◌++◌, map, filter, flat_map, drop, option_map, Option}
use Rattle.std.specs.Prelude.{Some, None, if◌then◌else◌}
use Rattle.cjc_card_acts.specs.LowerFrames.declared.acts.Given.{Given}
use Rattle.cjc_card_acts.specs.LowerFrames.declared.acts.Given.TheVariants.{AnObject}
use Rattle.cjc_card_acts.specs.LowerFrames.declared.acts.Step.{Step}
use Rattle.cjc_card_acts.specs.LowerFrames.declared.acts.Catch.{Catch}
use Rattle.cjc_card_acts.specs.LowerFrames.Flow as frames
use Rattle.cjc_bytes.specs.AccessFlags.{is_static}
use Rattle.cjc_capread.specs.declared.tree.ClassRef.{ClassRef}
use Rattle.cjc_capread.specs.declared.tree.ClassDescriptor.{ClassDescriptor}
use Rattle.cjc_capread.specs.declared.tree.MethodDescriptor.{MethodDescriptor}
use Rattle.cjc_capread.specs.declared.tree.Handler.{Handler}
use Rattle.cjc_capread.specs.Decode.{Instruction}
use Rattle.cjc_capread.specs.MethodHeader.{MethodHeader, method_header}
use Rattle.cjc_check_rules.specs.Spots.{Placed}
use Rattle.cjc_check_rules.specs.Complete.{Complete}
use Rattle.cjc_check_rules.specs.Classes.{is_own_class}
use Rattle.cjc_check_rules.specs.Codes.{methods_begin, codes}
use Rattle.cjc_check_rules.specs.Codes as check
use Rattle.cjc_card_acts.specs.CardTypes.{ValueType, MemberType, type_at, words}
use Rattle.cjc_verify.specs.declared.listed.Listed.{Listed}
use Rattle.cjc_verify.specs.ClassTypes.{class_type}
use Rattle.cjc_verify.specs.Pairs.{Pair}
use Rattle.cjc_verify.specs.Named.{entry_of}
use Rattle.cjc_verify.specs.Instructions.{act, class_in, throwable}

-- ---- methods of Method

-- a method: the class that Descriptor lists it under, what Descriptor says of it, its header and its instructions
pub record Body : Type 0 where
  pub holder : ClassRef
  pub method : MethodDescriptor
  pub header : MethodHeader
  pub instructions : List (Placed Instruction)

-- the methods of a class
abbrev pub listed_in : ClassDescriptor → List Listed
listed_in d = map (λ m. record { holder = d.this_class; method = m }) d.methods

-- the methods of all classes, in the order of Method
abbrev pub listed : Complete → List Listed
listed c = flat_map listed_in (let d = c.descriptor in filter (λ (d : ClassDescriptor). is_own_class c.class
    d.this_class) d.classes)

-- a method by its header and its code
abbrev pub body_with : Listed → Option MethodHeader → check.Code → List Body
body_with m None code = []
body_with m (Some h) code = record {
  holder = m.holder;
  method = m.method;
  header = h;
  instructions = code.instructions;
} ∷ []

-- the header of a method, at an offset from the start of Method's info on
abbrev pub header_at : Complete → (offset : ℕ) → Option MethodHeader
header_at c offset = let m = c.method in method_header (drop (offset - methods_begin c) m.methods)

-- methods beside their codes
abbrev pub bodies_of : Complete → List Listed → List check.Code → List Body
bodies_of c (m ∷ methods) (code ∷ codes) = body_with m (header_at c (let d = m.method in d.offset)) code
    ++ bodies_of c methods codes
bodies_of c methods codes = []

-- The methods of classes, in the order of Method.
abbrev pub bodies : Complete → List Body
bodies c = bodies_of c (listed c) (codes c)

-- ---- frames

-- the type that Descriptor gives a method
abbrev pub type_of_body : Complete → Body → MemberType
type_of_body c b = let m = b.method in type_at c.descriptor m.type_offset

-- the receiver of a method that is not static
abbrev pub receiver_of : Body → List Given
receiver_of b = let m = b.method in if is_static m.flags then [] else AnObject (class_type b.holder) ∷ []

-- the words of the arguments
abbrev pub arguments : Complete → Body → List Given
arguments c b = receiver_of b ++ flat_map words (let t = type_of_body c b in t.params)

-- an instruction with what it takes and gives
abbrev pub step : Pair → (result : ValueType) → Placed Instruction → Step
step p result i = record { at = i.at; act = act p result i }

-- the type of the exceptions that a handler takes; of one that takes any the type of all
abbrev pub caught_type : Pair → (index : ℕ) → Option (List ℕ)
caught_type p index = if index == 0 then throwable p else option_map class_type (class_in (entry_of p index))

-- a handler with its type
abbrev pub catch : Pair → Handler → Catch
catch p h = record { start = h.start; length = h.length; target = h.handler; caught = caught_type p h.catch_index }

-- the handlers of the package
abbrev pub catches : Pair → List Catch
catches p = let c = p.components in let m = c.method in map (catch p) m.handlers

-- What a method is to the types of its frames.
abbrev pub frames_of : Pair → Body → frames.Body
frames_of p b =
    let h = b.header in
    let t = type_of_body p.components b in
    record {
      max_stack = h.max_stack;
      local_count = h.nargs + h.max_locals;
      arguments = arguments p.components b;
      steps = map (step p t.result) b.instructions;
      catches = catches p;
    }
