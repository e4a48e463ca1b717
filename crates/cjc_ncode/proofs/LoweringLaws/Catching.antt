-- An exception at the offset of a label goes to the offset of the handler that takes it at the label.
use Rattle.std.proofs.Common.{◌≡◌, ℕ, ◌+◌, ◌<◌, ◌≤◌, ap, sym, ◌∙◌, ⊎_elim, arith, List, ◌++◌, length}
use Rattle.std.specs.Prelude.{None, option_and_then}
use Rattle.std.proofs.lemmas.Bool.{cases_lt}
use Rattle.cjc_card_semantics.specs.Script.Sorts.{Shape}
use Rattle.cjc_card_semantics.specs.Bytecode.Renaming.{option_as, shape_as}
use Rattle.cjc_card_semantics.specs.Machine.Loaded.{Part}
use Rattle.cjc_card_semantics.specs.Machine.Methods.{handler, handler_in, handler_among}
use Rattle.cjc_ncode.specs.ByLabel.{Named}
use Rattle.cjc_ncode.specs.ByLabel
use Rattle.cjc_ncode.specs.Lowering.Naming.{Naming}
use Rattle.cjc_ncode.specs.Lowering.Handlers.{handlers_of, AllLie, IsObject, SubtypesAgree}
use Rattle.cjc_ncode.specs.Lowering.Placed.{Placed, first, offset_of, code_of, IsLaidOut, Stands, HandlersStand}
use Rattle.cjc_ncode.proofs.LoweringLaws.Places.{before_grows, before_over}
use Rattle.cjc_ncode.proofs.LoweringLaws.Search.{handler_same, elsewhere_misses, skipped, cut_off, none_behind}
use Rattle.cjc_ncode.proofs.LoweringLaws.Fetching.{labels_ascend}

module _ (n : Naming) (l : Named) (p : Placed) (part : Part) (kind : Shape (List ℕ)) (whole : IsLaidOut n p)
    (stands : Stands n p part) (table : HandlersStand n p part) (agree : SubtypesAgree n l kind)
    (root : IsObject l kind) (lie : AllLie n (length p.method.insns) p.method.catches) where
  -- the method's own handlers alone count, at offsets of its code and at its end
  own_alone : (k : ℕ) → k ≤ length p.method.insns → handler n.loaded (code_of n p) (offset_of n p k)
      (shape_as n.class kind) ≡ handler_among n.loaded n.part n.pool (handlers_of n (offset_of n p) p.method.catches)
      (offset_of n p k) (shape_as n.class kind)
  own_alone k le =
      let at = offset_of n p k in
      let end = offset_of n p (length p.method.insns) in
      let on_card = shape_as n.class kind in
      let own = handlers_of n (offset_of n p) p.method.catches in
      let up = before_grows n p.method.insns p.wide k (length p.method.insns) le in
      ap (option_and_then (handler_in n.loaded (code_of n p) at on_card)) stands.there
      ∙ ap (λ pool. handler_among n.loaded n.part pool part.method.handlers at on_card) stands.pool
      ∙ ap (λ handlers. handler_among n.loaded n.part n.pool handlers at on_card) table.table
      ∙ skipped n.loaded n.part n.pool at on_card table.earlier (own ++ table.later) (elsewhere_misses (first p) end at
      table.earlier (omega arith) (omega arith) table.earlier_elsewhere)
      ∙ cut_off n.loaded n.part n.pool at on_card own table.later (elsewhere_misses (first p) end at table.later
      (omega arith) (omega arith) table.later_elsewhere)

  inside : (k : ℕ) → k ≤ length p.method.insns → handler n.loaded (code_of n p) (offset_of n p k)
      (shape_as n.class kind) ≡ option_as (offset_of n p) (ByLabel.handler l p.method.catches k kind)
  inside k le = own_alone k le ∙ handler_same n l (offset_of n p) (length p.method.insns) k kind le
      (labels_ascend n p whole) agree root p.method.catches lie

  pub handler_found : (k : ℕ) → handler n.loaded (code_of n p) (offset_of n p k) (shape_as n.class kind)
      ≡ option_as (offset_of n p) (ByLabel.handler l p.method.catches k kind)
  handler_found k = ⊎_elim past (inside k) (cases_lt (length p.method.insns) k)
    where
      past : length p.method.insns < k → handler n.loaded (code_of n p) (offset_of n p k) (shape_as n.class kind)
          ≡ option_as (offset_of n p) (ByLabel.handler l p.method.catches k kind)
      past lt =
          let count = length p.method.insns in
          let over : offset_of n p k ≡ offset_of n p count = ap (λ x. first p + x) (before_over n p.method.insns p.wide
          k whole.forms (omega arith)) in
          let here : ByLabel.handler l p.method.catches count kind ≡ None =
          none_behind n l count count kind (omega arith) p.method.catches lie in
          let there : ByLabel.handler l p.method.catches k kind ≡ None = none_behind n l count k kind (omega arith)
          p.method.catches lie in
          ap (λ at. handler n.loaded (code_of n p) at (shape_as n.class kind)) over
          ∙ inside count (omega arith)
          ∙ ap (option_as (offset_of n p)) (here ∙ sym there)
