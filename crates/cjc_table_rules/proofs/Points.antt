-- At a point of the table both tables have a row.
use Rattle.std.proofs.Common.{◌≡◌, ℕ, refl, sym, subst, List, slice_get, Option, Some, None}
use Rattle.cjc_code.specs.declared.insn.JInsn.{JInsn}
use Rattle.cjc_fixpoint.specs.Tables.{HasRow}
use Rattle.cjc_world.specs.Classes.{Class}
use Rattle.cjc_types.specs.declared.state.Stack.TheVariants as stacks
use Rattle.cjc_types.specs.declared.state.State.{State}
use Rattle.cjc_types.specs.Search.{cells_of}
use Rattle.cjc_ncode.specs.ByLabel.{Named}
use Rattle.cjc_by_name.specs.Linked.{Method, Linked}
use Rattle.cjc_range_flow.specs.Frames.{RangeState}
use Rattle.cjc_shrink.specs.Tables.{Point}
use Rattle.cjc_shrink.specs.Runs.{Rule}
use Rattle.cjc_table_rules.specs.Kinds.{point_of, point_where}
use Rattle.cjc_table_rules.specs.Analysis.{Analysis, IsDecoded, IsSound, IsRead, CatchesAreTold, table_of}
use Rattle.cjc_table_rules.specs.Supported.{IsPlain}
use Rattle.cjc_table_rules.proofs.Arrivals.{is_cells}
use Rattle.cjc_table_rules.proofs.Plain.{keeps}
use Rattle.cjc_table_rules.proofs.Returns.{plain_return}

-- both rows of a point, the stack of types being no clash
record IsPointOf (l : Named) (types : Option (Option State)) (ranges : Option (Option RangeState)) (p : Point) : Type 0 where
  pub typed : State
  pub has_types : types ≡ Some (Some typed)
  pub ranged : RangeState
  pub has_ranges : ranges ≡ Some (Some ranged)
  pub is : p ≡ point_of l typed ranged

point_from : (l : Named) (types : Option (Option State)) (ranges : Option (Option RangeState)) (p : Point) → point_where l types ranges ≡ Some p → IsPointOf l types ranges p
point_from l None ranges p e = cc
point_from l (Some None) ranges p e = cc
point_from l (Some (Some t)) None p e = cc
point_from l (Some (Some t)) (Some None) p e = cc
point_from l (Some (Some t)) (Some (Some x)) p e = record { typed = t; has_types = refl; ranged = x; has_ranges = refl; is = (let same : point_of l t x ≡ p = cc in sym same) }

pub plain_rule : (by : Linked) (l : Named) (w : List Class) (a : Analysis) (m : Method) → IsRead a m → IsDecoded (let f = a.found m in f.body) → IsSound w (let r = a.resolution m in r.constant) (a.found m) → CatchesAreTold by l a m
    → (at : ℕ) (i : JInsn) (p : Point) → slice_get (let f = a.found m in let b = f.body in b.insns) at ≡ Some i → (let tb = table_of l a in tb.point m at ≡ Some p) → IsPlain i.op → Rule by l (table_of l a) m at p i
plain_rule by l w a m read decoded sound told at i p there known is =
    let h = point_from l (slice_get (let f = a.found m in f.types) at) (slice_get (let f = a.found m in f.ranges) at) p known in
    let t = h.typed in
    let x = h.ranged in
    let cells = is_cells l w (let r = a.resolution m in r.constant) (a.found m) sound at t h.has_types in
    let whole : HasRow (let f = a.found m in f.types) at (record { stack = stacks.Cells (cells_of t.stack); locals = t.locals }) = subst (λ s. HasRow (let f = a.found m in f.types) at (record { stack = s; locals = t.locals })) cells h.has_types in
    subst (λ q. Rule by l (table_of l a) m at q i) (sym h.is)
    (keeps by l w a m read decoded sound told at i.at (cells_of t.stack) t.locals x h.has_ranges whole i.op is there)
