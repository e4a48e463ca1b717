-- Scratch.
use Rattle.std.specs.Prelude.{ℕ, ◌+◌, ◌-◌, ◌==◌, List, [], ◌∷◌, ◌++◌, map, filter, flat_map, drop, option_map, Option}
use Rattle.std.specs.Prelude.{Some, None, if◌then◌else◌}
use Rattle.cjc_capread.specs.declared.tree.ClassRef.{ClassRef}
use Rattle.cjc_capread.specs.declared.tree.ClassDescriptor.{ClassDescriptor}
use Rattle.cjc_capread.specs.declared.tree.MethodDescriptor.{MethodDescriptor}
use Rattle.cjc_capread.specs.Decode.{Instruction}
use Rattle.cjc_capread.specs.MethodHeader.{MethodHeader, method_header}
use Rattle.cjc_check_rules.specs.Spots.{Placed}
use Rattle.cjc_check_rules.specs.Complete.{Complete}
use Rattle.cjc_check_rules.specs.Classes.{is_own_class}
use Rattle.cjc_check_rules.specs.Codes.{methods_begin, codes}
use Rattle.cjc_check_rules.specs.Codes as check
pub record Listed : Type 0 where
  pub holder : ClassRef
  pub method : MethodDescriptor
pub record Body : Type 0 where
  pub holder : ClassRef
  pub method : MethodDescriptor
  pub header : MethodHeader
  pub instructions : List (Placed Instruction)
abbrev pub listed_in : ClassDescriptor → List Listed
listed_in d = map (λ m. record { holder = d.this_class; method = m }) d.methods
abbrev pub listed : Complete → List Listed
listed c = flat_map listed_in (let d = c.descriptor in filter (λ (d : ClassDescriptor). is_own_class c.class
    d.this_class) d.classes)
abbrev pub body_with : Listed → Option MethodHeader → check.Code → List Body
body_with m None code = []
body_with m (Some h) code = record {
  holder = m.holder;
  method = m.method;
  header = h;
  instructions = code.instructions;
} ∷ []
abbrev pub header_at : Complete → (offset : ℕ) → Option MethodHeader
header_at c offset = let m = c.method in method_header (drop (offset - methods_begin c) m.methods)
abbrev pub bodies_of : Complete → List Listed → List check.Code → List Body
bodies_of c (m ∷ methods) (code ∷ codes) = body_with m (header_at c (let d = m.method in d.offset)) code
    ++ bodies_of c methods codes
bodies_of c methods codes = []
abbrev pub bodies : Complete → List Body
bodies c = bodies_of c (listed c) (codes c)
