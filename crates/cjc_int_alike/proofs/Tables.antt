-- The least tables of a method of a package are closed, and its body is one that was decoded.
use Rattle.std.proofs.Common.{◌≡◌, ℕ, true, List, Option, Some, refl, sym, ap, ◌∙◌, ℤ}
use Rattle.cjc_bytes.specs.declared.fault.MemberId.{MemberId}
use Rattle.cjc_code.specs.ClassFile.Code.{CodeTree}
use Rattle.cjc_code.specs.ClassFile.declared.tree.ClassTree.{ClassTree}
use Rattle.cjc_code.specs.ClassFile.declared.tree.MethodTree.{MethodTree}
use Rattle.cjc_code.specs.declared.method_code.MethodCode.{MethodCode}
use Rattle.cjc_code.specs.Decoded.{decoded, insns_of, of_code, of_method}
use Rattle.cjc_world.specs.Files.{Files}
use Rattle.cjc_world.specs.Classes.{all_classes}
use Rattle.cjc_types.specs.declared.state.State.{State}
use Rattle.cjc_types.specs.Flow.{Body, body_of}
use Rattle.cjc_types.specs.Tables.{IsMethodOf, IsLeastTable, Breach}
use Rattle.cjc_types.proofs.Ascending.{insns_ascend}
use Rattle.cjc_types.proofs.Few.{insns_at_most}
use Rattle.cjc_types.proofs.TypeLaws.Standing as standing
use Rattle.cjc_types.proofs.TypeLaws.Lowered.{least_closed}
use Rattle.cjc_intervals.specs.Frames.{RangeState}
use Rattle.cjc_intervals.specs.Tables.{IsLeastRanges}
use Rattle.cjc_flow.specs.Tests.Breaches.{NoBreach}
use Rattle.cjc_jvm_semantics.specs.OnePackage.{method_by}
use Rattle.cjc_narrow_proof.specs.Tables.Analysis.{IsDecoded}
use Rattle.cjc_int_mode.specs.declared.modes.Mode.TheVariants as modes
use Rattle.cjc_int_mode.specs.Modes.{binds}
use Rattle.cjc_int_mode.specs.Room.{IsRoom}
use Rattle.cjc_int_alike.specs.Method.{IsIntRead, IsIntSound, found_of}

module _ (files : Files) (code : MethodCode) (class : ClassTree) (method : MethodTree) (tree : CodeTree)
    (of_package : IsMethodOf files code class method tree) (types : List (Option State))
    (ranges : List (Option RangeState)) where
  abbrev body : Body
  body = body_of class method tree code.insns

  insns_are : decoded class method tree ≡ code.insns
  unfolding decoded
  insns_are = ap insns_of (sym (ap (of_code class method) of_package.is_code)
      ∙ sym (ap (of_method class) of_package.is_method) ∙ of_package.insns)

  pub is_read : IsIntRead (found_of class method tree code.insns types ranges) (method_by class method (Some tree))
  is_read = record {
    insns = insns_are;
    catches = refl;
    max_stack = refl;
    max_locals = refl;
    class = refl;
  }

  pub is_decoded : IsDecoded (body_of class method tree code.insns)
  is_decoded = record {
    few = insns_at_most files code class method tree of_package;
    ascend = λ j k x y e f lt. insns_ascend files code class method tree of_package j k x y e f lt;
    next = λ at i e goes. standing.next_there files code class method tree of_package at i e goes;
    targets = λ at i offset e there. standing.target_placed files code class method tree of_package at i offset e there;
    handlers = λ h there. standing.handler_placed files code class method tree of_package h there;
    locals = λ at i k e names. standing.local_there files code class method tree of_package at i k e names;
  }

  pub is_sound : (constant : MemberId → Option ℤ) → IsLeastTable (body_of class method tree code.insns) types
      → ((place rule : ℕ) → Breach (all_classes files) (body_of class method tree code.insns) types place rule → ⊥)
      → IsLeastRanges (body_of class method tree code.insns) constant types ranges
      → NoBreach (binds modes.Int) (body_of class method tree code.insns) types ranges
      → IsRoom (body_of class method tree code.insns) types modes.Int true
      → IsIntSound (all_classes files) constant (found_of class method tree code.insns types ranges)
  is_sound constant least unbroken least_ranges passes room = record {
    types = least_closed (body_of class method tree code.insns) types least
        (insns_at_most files code class method tree of_package);
    unbroken = unbroken;
    ranges = least_ranges.closed;
    passes = passes;
    room = room;
  }
