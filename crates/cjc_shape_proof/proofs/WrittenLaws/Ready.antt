-- Methods that can be written, whose code names what the pool has, can be laid out wherever they stand, with their
-- handlers.
use Rattle.std.proofs.Common.{◌≡◌, ℕ, suc, ◌<◌, ◌≤◌, refl, Bool, true, false, List, [], ◌∷◌, length}
use Rattle.std.specs.Prelude.{nat_le, Some, filter, slice_get, if◌then◌else◌}
use Rattle.std.proofs.lemmas.Bool.{ltb-true}
use Rattle.cjc_check_proof.proofs.CodeLaws.Methods.{spelt}
use Rattle.cjc_components.specs.Methods.{placed_at}
use Rattle.cjc_components.specs.Package.{LaidMethod}
use Rattle.cjc_classes.specs.Emit.Emitted.{CanBeWritten}
use Rattle.cjc_classes.specs.Emit.Emitted as Emitted
use Rattle.cjc_classes.specs.Layout.Handlers.{by_target, has_range, inserted, table_order}
use Rattle.cjc_classes.specs.Layout.Handlers as layouts
use Rattle.cjc_narrow_proof.specs.NCode.Lowering.Handlers.{AllLie, Catches, more, none}
use Rattle.cjc_narrow_proof.specs.NCode.Lowering.Naming.{Naming}
use Rattle.cjc_narrow_proof.specs.NCode.declared.narrow.NCatch.{NCatch}
use Rattle.cjc_narrow_proof.specs.NCode.declared.narrow.NInsn.{NInsn}
use Rattle.cjc_narrow_proof.proofs.SelectedLaws.Formed.{formed_by}
use Rattle.cjc_narrow_proof.specs.Selected.Names.{NamesFit}
use Rattle.cjc_check_proof.specs.TokenProof.WrittenCalls.Standing.{IsReady}

-- a handler that is written
pub record IsWrittenCatch (n : Naming) (count : ℕ) (c : NCatch) : Type 0 where
  pub range : c.start < c.end
  pub inside : c.end ≤ count
  pub class : Catches n c.class

module _ (n : Naming) (count : ℕ) where
  lie_inserted : (c : NCatch) (ds : List NCatch) → IsWrittenCatch n count c → AllLie n count ds
      → AllLie n count (inserted c ds)
  lie_inserted c [] l ls = more l.range l.inside l.class none
  lie_inserted c (d ∷ ds) l (more r i k rest) = by (nat_le c.target d.target) (lie_inserted c ds l rest)
    where
      by : (t : Bool) → AllLie n count (inserted c ds) → AllLie n count (if t then c ∷ d ∷ ds else d ∷ inserted c ds)
      by true later = more l.range l.inside l.class (more r i k rest)
      by false later = more r i k later

  pub lie_ordered : (cs : List NCatch) → layouts.AllLie count cs → ((j : ℕ) (c : NCatch) → slice_get cs j ≡ Some c
      → Catches n c.class) → AllLie n count (table_order cs)
  lie_ordered [] ls catches = none
  lie_ordered (c ∷ cs) ls catches = by (has_range c) refl (lie_ordered cs ls.1 (λ j d e. catches (suc j) d e))
    where
      by : (t : Bool) → has_range c ≡ t → AllLie n count (table_order cs)
          → AllLie n count (by_target (if t then c ∷ filter has_range cs else filter has_range cs))
      by true e rest = lie_inserted c (table_order cs) (record {
        range = ltb-true c.start c.end e;
        inside = ls.0.1;
        class = catches 0 c refl;
      }) rest
      by false e rest = rest

pub one_ready : (n : Naming) (m : LaidMethod) → CanBeWritten n (Emitted.placed_at 0 m.code m.wide)
    → layouts.AllLie (let code = m.code in length code.insns) (let code = m.code in code.catches)
    → ((j : ℕ) (i : NInsn) → (let code = m.code in slice_get code.insns j ≡ Some i) → NamesFit n i)
    → ((j : ℕ) (c : NCatch) → (let code = m.code in slice_get code.catches j ≡ Some c) → Catches n c.class)
    → IsReady n m
one_ready n m can lies names catches = record {
  laid_out = λ offset. record {
    forms = can.count;
    formed = λ j i e. formed_by n i (can.forms j i e) (names j i e);
    spellable = λ j i w e f. spelt n offset m can j i w e f;
  };
  handlers = lie_ordered n (let code = m.code in length code.insns) (let code = m.code in code.catches) lies catches;
}
