-- The place of an offset by name, and the handler that is found there.
use Rattle.std.proofs.Common.{◌≡◌, ◌+◌, ℕ, suc, Bool, true, false, ◌==◌, ◌&&◌, cond, List, [], ◌∷◌, length, Some}
use Rattle.std.proofs.Common.{None, refl, ◌∙◌, arith}
use Rattle.std.specs.Prelude.{nat_le, nat_lt, not, if◌then◌else◌}
use Rattle.std.specs.List.{Contains, position_or_len}
use Rattle.cjc_code.specs.ClassFile.declared.tree.Catch.{Catch}
use Rattle.cjc_code.specs.declared.insn.JInsn.{JInsn}
use Rattle.cjc_types.specs.Fixpoint.Working.Edges.{contains_head, contains_tail}
use Rattle.cjc_types.specs.Flow.{place_at, covers}
use Rattle.cjc_jvm_semantics.specs.Linked.{Linked}
use Rattle.cjc_jvm_semantics.specs.Effects.{place}
use Rattle.cjc_jvm_semantics.specs.Machine.{takes, handler}

-- ---- places by name

one_of : (b : Bool) (n k : ℕ) → n ≡ k → (if b then 0 else suc n) ≡ (if not b then 1 + k else 0)
one_of true n k e = refl
one_of false n k e = omega (arith, e)

place_is : (insns : List JInsn) (offset : ℕ) → place insns offset ≡ position_or_len (λ (i : JInsn). i.at == offset)
    insns
place_is [] offset = refl
place_is (i ∷ insns) offset = one_of (i.at == offset) (place insns offset) (position_or_len (λ (i : JInsn). i.at ==
    offset) insns) (place_is insns offset)

first_is : (b : Bool) (n k : ℕ) → cond b (Some n) None ≡ Some k → n ≡ k
first_is true n k e = cc
first_is false n k e = cc

pub place_found : (insns : List JInsn) (offset k : ℕ) → place_at insns offset ≡ Some k → place insns offset ≡ k
place_found insns offset k e = place_is insns offset
    ∙ first_is (nat_lt (position_or_len (λ (i : JInsn). i.at == offset) insns) (length insns))
    (position_or_len (λ (i : JInsn). i.at == offset) insns) k e

-- ---- handlers

-- the handler that is found is one of the list, covers the place and takes the exception
pub record IsHandler (by : Linked) (holder : List ℕ) (catches : List Catch) (offset : ℕ) (type : List ℕ) (target : ℕ) :
    Type 0 where
  pub catch : Catch
  pub among : Contains catches catch
  pub covered : covers catch offset ≡ true
  pub taken : takes by holder catch.class type ≡ true
  pub leads : catch.target ≡ target

later : {by : Linked} {holder : List ℕ} {catches : List Catch} {offset : ℕ} {type : List ℕ} {target : ℕ} (c : Catch)
    → IsHandler by holder catches offset type target → IsHandler by holder (c ∷ catches) offset type target
later {catches = catches} c h = record {
  catch = h.catch;
  among = contains_tail c catches h.catch h.among;
  covered = h.covered;
  taken = h.taken;
  leads = h.leads;
}

pub found_handler : (by : Linked) (holder : List ℕ) (catches : List Catch) (offset : ℕ) (type : List ℕ) (target : ℕ)
    → handler by holder catches offset type ≡ Some target → IsHandler by holder catches offset type target
found_handler by holder [] offset type target e = cc
found_handler by holder (c ∷ catches) offset type target e = go (nat_le c.start offset && nat_lt offset c.end)
    (takes by holder c.class type) refl refl e (found_handler by holder catches offset type target)
  where
    go : (p q : Bool) → (nat_le c.start offset && nat_lt offset c.end) ≡ p → takes by holder c.class type ≡ q
        → (if p && q then Some c.target else handler by holder catches offset type) ≡ Some target
        → (handler by holder catches offset type ≡ Some target → IsHandler by holder catches offset type target)
        → IsHandler by holder (c ∷ catches) offset type target
    go true true is takes_it f more = record {
      catch = c;
      among = contains_head c catches;
      covered = is;
      taken = takes_it;
      leads = (let same : c.target ≡ target = cc in same);
    }
    go true false is takes_it f more = later c (more f)
    go false q is takes_it f more = later c (more f)
