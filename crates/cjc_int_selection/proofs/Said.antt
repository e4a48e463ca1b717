-- Bytes can say what is written in int mode, distances to its labels aside.
use Rattle.std.proofs.Common.{◌≡◌, ℕ, ◌+◌, ◌*◌, ◌≤◌, ◌<◌, refl, sym, ap, subst, ◌∙◌, Bool, true, false, List, [], ◌∷◌}
use Rattle.std.proofs.Common.{length}
use Rattle.std.specs.Prelude.{Some, slice_get}
use Rattle.cjc_ncode.specs.LowerCapRead.Decode.{below, more, none}
use Rattle.cjc_ncode.specs.LowerCapRead.Opcodes.{Fields, Index2}
use Rattle.cjc_int_narrow.specs.Bytecode.declared.insn.JOp.{JOp}
use Rattle.cjc_int_narrow.specs.Script.Sorts.{Sort, field_sort}
use Rattle.cjc_int_narrow.specs.ClassFile.Code.{CodeTree}
use Rattle.cjc_ncode.specs.IntCode.IntCode.{Frame, Reached, int_method, nargs}
use Rattle.cjc_ncode.specs.Lowering.Laid.{laid}
use Rattle.cjc_ncode.specs.Lowering.Naming.{Naming}
use Rattle.cjc_ncode.specs.Lowering.Placed.{IsSpellable}
use Rattle.cjc_ncode.specs.Written.{Resolution, static_access}
use Rattle.cjc_ncode.specs.declared.narrow.NInsn.{NInsn}
use Rattle.cjc_ncode.specs.declared.narrow.NInsn.TheVariants as insns
use Rattle.cjc_ncode.specs.declared.narrow.PoolKey.{PoolKey}
use Rattle.cjc_ncode.specs.declared.narrow.PoolKey.TheVariants as keys
use Rattle.cjc_narrow_proof.proofs.SelectedLaws.Said.{all_said}
use Rattle.cjc_narrow_proof.specs.Selected.Operands.{IndexFits, NumbersFit}
use Rattle.cjc_narrow_proof.specs.Selected.Operands as short
use Rattle.cjc_int_narrow.proofs.IntProofSaid as IntSaid
use Rattle.cjc_int_narrow.specs.LowerIntProof.Operands.{OperandsFit, names_nothing}
use Rattle.cjc_int_selection.specs.Names.{NamesAs, NamesAsOneOf, as_one, no_name, nothing, outside, static_field}
use Rattle.cjc_int_selection.proofs.Lone.{alone, lone, lone_written}
use Rattle.cjc_int_selection.proofs.Naming.{all_named}
use Rattle.cjc_int_selection.proofs.Numbers.{of_lone, operands_by, static_form}

module _ (n : Naming) (r : Resolution) where
  static_said : (put : Bool) (sort : Sort) (key : PoolKey) → NumbersFit n (insns.Named (static_access put sort) key)
      → IsSpellable (laid n (λ label. 0) 0 false (insns.Named (static_access put sort) key))
  static_said put sort key fit =
      let lt : n.index key < 65536 = subst (λ g. IndexFits g (n.index key)) (static_form put sort) fit in
      record {
        form = Fields (Index2 ∷ []);
        writable = record {
          form = static_form put sort;
          operands = more (below lt) none;
          table = none;
          whole = refl;
        };
      }

  -- an instruction that names something
  named_said : (op : JOp) (i : NInsn) → NamesAs r op i → names_nothing i ≡ false → NumbersFit n i
      → IsSpellable (laid n (λ label. 0) 0 false i)
  named_said op i (nothing e) names fit = absurd cc
  named_said op i (static_field put f is_op _ is) names fit =
      let key = keys.StaticField (r.field f) in
      subst (λ x. IsSpellable (laid n (λ label. 0) 0 false x)) (sym is)
      (static_said put (field_sort f.desc) key (subst (NumbersFit n) is fit))
  named_said op i (outside has k e) names fit =
      all_said n (record r { role = alone }) (λ o. 0) (lone op ∷ []) (of_lone (λ j. short.OperandsFit j.op) op
      (operands_by op has)) k i (ap (λ xs. slice_get xs k) (lone_written r (λ o. 0) op) ∙ e) fit

  one_said : (reached : List Reached) (i : NInsn) → NamesAsOneOf r reached i → names_nothing i ≡ false
      → NumbersFit n i → IsSpellable (laid n (λ label. 0) 0 false i)
  one_said reached i (no_name e) names fit = absurd cc
  one_said reached i (as_one k j is h) names fit = named_said (let m = j.insn in m.op) i h names fit

  pub int_code_said : (f : Frame) (code : CodeTree) (reached : List Reached) (places : List ℕ)
      → nargs f + 2 * length f.params ≤ 256
      → ((k : ℕ) (i : Reached) → slice_get reached k ≡ Some i → OperandsFit f r (let j = i.insn in j.op))
      → (k : ℕ) (i : NInsn) → (let m = int_method f r code reached places in slice_get m.insns k ≡ Some i)
      → NumbersFit n i → IsSpellable (laid n (λ label. 0) 0 false i)
  int_code_said f code reached places words operands k i e fit = go (names_nothing i) refl
    where
      go : (b : Bool) → names_nothing i ≡ b → IsSpellable (laid n (λ label. 0) 0 false i)
      go true g = IntSaid.all_said n f r code reached places words operands k i e g
      go false g = one_said reached i (all_named r f code reached places k i e) g fit
