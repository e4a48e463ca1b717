-- Where each array and object keeps its type, frames that agreed agree still.
use Rattle.std.proofs.Common.{ℕ, ap, ◌∙◌, List}
use Rattle.std.specs.Prelude.{Option, Bool}
use Rattle.cjc_script.specs.declared.value.Value.{Value}
use Rattle.cjc_script.specs.Sorts.{Shape}
use Rattle.cjc_ncode.specs.IntCode.IntCode.{Frame}
use Rattle.cjc_narrow_proof.specs.Selection.Relation.{Kind, Heap}
use Rattle.cjc_narrow_proof.specs.Selection.Acts.{Keeps}
use Rattle.cjc_int_runs.specs.Relation.{RefersTo, to_null, to_object, IntStacks, bottom, number, reference, LocalPairs}
use Rattle.cjc_int_runs.specs.Relation.{no_local, number_local, reference_local, unused_local, IntLocals}

module _ {heap after : Heap} (keeps : Keeps heap after) where
  pub refers_kept : {within : Shape (List ℕ) → Bool} {v : Value} → RefersTo heap within v → RefersTo after within v
  refers_kept to_null = to_null
  refers_kept {within = within} (to_object {k = k} thing is passes) = let a = keeps k thing is
      in to_object a.thing a.is (ap within a.type ∙ passes)

  pub int_stacks_kept : {ks : List Kind} {vs ws : List Value} → IntStacks heap ks vs ws → IntStacks after ks vs ws
  int_stacks_kept bottom = bottom
  int_stacks_kept (number e h rest) = number e h (int_stacks_kept rest)
  int_stacks_kept (reference a rest) = reference (refers_kept a) (int_stacks_kept rest)

  pairs_kept : {ls : List Kind} {locals words : List (Option Value)} → LocalPairs heap ls locals words
      → LocalPairs after ls locals words
  pairs_kept no_local = no_local
  pairs_kept (number_local e h rest) = number_local e h (pairs_kept rest)
  pairs_kept (reference_local a rest) = reference_local (refers_kept a) (pairs_kept rest)
  pairs_kept (unused_local rest) = unused_local (pairs_kept rest)

  pub int_locals_kept : {f : Frame} {pairs : ℕ} {ls : List Kind} {locals words : List (Option Value)}
      → IntLocals heap f pairs ls locals words → IntLocals after f pairs ls locals words
  int_locals_kept h = record {
    arguments = h.arguments;
    own = h.own;
    scratch = h.scratch;
    are = h.are;
    argument_words = h.argument_words;
    own_words = h.own_words;
    scratch_words = h.scratch_words;
    agree = pairs_kept h.agree;
  }

-- heaps in turn
pub keeps_in_turn : (first second third : Heap) → Keeps first second → Keeps second third → Keeps first third
keeps_in_turn first second third one other k thing is =
    let p = one k thing is in let q = other k p.thing p.is in record {
      thing = q.thing;
      is = q.is;
      type = q.type ∙ p.type;
    }
