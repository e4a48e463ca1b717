-- A method begins on the card as its header and Descriptor say.
use Rattle.std.proofs.Common.{◌≡◌, ◌+◌, ap, sym, ◌∙◌, Bool, ◌++◌, length, append_assoc, add-zero}
use Rattle.std.specs.Prelude.{Some, option_and_then, option_map}
use Rattle.cjc_card_semantics.specs.CapRead.MethodHeader.{MethodHeader, method_header}
use Rattle.cjc_card_semantics.specs.Machine.Loaded.{Part}
use Rattle.cjc_card_semantics.specs.Machine.Methods.{described, start_at, start_in, start_of}
use Rattle.cjc_ncode.specs.Lowering.Naming.{Naming}
use Rattle.cjc_ncode.specs.Lowering.Placed.{Placed, first, offset_of, code_bytes, IsHeader, IsListed, Stands}
use Rattle.cjc_ncode.specs.Lowering.Placed.{start_on_card}

module _ (n : Naming) (p : Placed) (part : Part) (is_abstract : Bool) (reads : IsHeader is_abstract p.method p.header)
    (stands : Stands n p part) (listed : IsListed n p part) where
  abbrev header : MethodHeader
  header = record {
    max_stack = p.method.max_stack;
    nargs = p.method.nargs;
    max_locals = p.method.max_locals;
    is_abstract = is_abstract;
    size = length p.header;
  }

  pub begins : start_of n.loaded n.part p.offset ≡ Some (start_on_card n is_abstract p)
  begins =
      let code = code_bytes n (offset_of n p) (first p) p.method.insns p.wide in
      let read = ap method_header (stands.bytes ∙ append_assoc p.header code stands.behind)
      ∙ reads (code ++ stands.behind) in
      ap (option_and_then (start_in n.part p.offset)) stands.there
      ∙ ap (option_and_then (λ h. option_map (start_at n.part p.offset h) (described part part.descriptor p.offset)))
      read
      ∙ ap (option_map (start_at n.part p.offset header)) listed.there
      ∙ ap (λ count. Some (record {
        code = record {
          part = n.part;
          room = p.method.max_stack;
          first = first p;
          end = first p + count;
        };
        at = first p;
        nargs = p.method.nargs;
        max_locals = p.method.max_locals;
        is_abstract = is_abstract;
      })) listed.count
      ∙ ap (λ at. Some (record {
        code = record {
          part = n.part;
          room = p.method.max_stack;
          first = first p;
          end = offset_of n p (length p.method.insns);
        };
        at = at;
        nargs = p.method.nargs;
        max_locals = p.method.max_locals;
        is_abstract = is_abstract;
      })) (sym (add-zero (first p)))
