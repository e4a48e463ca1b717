-- Narrow code of placed methods and components are alike, and so run alike.
use Rattle.std.proofs.Common.{◌≡◌, ℕ, ◌+◌, refl, ap, sym, subst, ◌∙◌, List}
use Rattle.std.specs.Prelude.{Option, Some, None, option_map, slice_get}
use Rattle.cjc_code.specs.Bytes.declared.fault.MemberId.{MemberId}
use Rattle.cjc_card_semantics.specs.Script.Sorts.{Shape, OfClass}
use Rattle.cjc_card_semantics.specs.Bytecode.Renaming.{option_as, shape_as, Knows, KnownShape, KnownOperation}
use Rattle.cjc_card_semantics.specs.Bytecode.Machine.{Fetched}
use Rattle.cjc_card_semantics.specs.Bytecode.Alike.{KnownThing, SettingsAlike, RunsAgree}
use Rattle.cjc_card_semantics.proofs.BytecodeLaws.Natural.{shape_known}
use Rattle.cjc_card_semantics.proofs.BytecodeLaws.Together.{runs_agree}
use Rattle.cjc_card_semantics.specs.Machine.Loaded.{Part}
use Rattle.cjc_card_semantics.specs.Machine.Methods as card
use Rattle.cjc_card_semantics.specs.Machine.ByToken.{by_token}
use Rattle.cjc_ncode.specs.declared.narrow.NInsn.{NInsn}
use Rattle.cjc_ncode.specs.ByLabel.{Named}
use Rattle.cjc_ncode.specs.ByLabel
use Rattle.cjc_ncode.specs.Lowering.Naming.{Naming}
use Rattle.cjc_ncode.specs.Lowering.Handlers.{IsObject}
use Rattle.cjc_ncode.specs.Lowering.Placed.{Placed, offset_of, code_of, fetched_on_card}
use Rattle.cjc_ncode.specs.Lowering.Package.{HoldsMethods}
use Rattle.cjc_ncode.specs.Lowering.ByPlace.{Methods, by_place}
use Rattle.cjc_ncode.specs.Lowering.Agreement.{Cells, Memories, names, IsAmong, TablesAgree}
use Rattle.cjc_ncode.proofs.LoweringLaws.Fetching.{method_fetched}
use Rattle.cjc_ncode.proofs.LoweringLaws.Catching.{handler_found}
use Rattle.cjc_ncode.proofs.LoweringLaws.Packed.{bytes_stand, handlers_stand}

module _ (n : Naming) (part : Part) (placed : List Placed) (memories : Memories) (l : Named) (methods : Methods)
    (known : Knows (List ℕ) MemberId MemberId Cells) (KnownMethod : ByLabel.Callee
    → Type 0) (holds : HoldsMethods n part placed) (tables : TablesAgree n placed memories l methods known KnownMethod)
  where
    fetch_there : (p : Placed) (at : ℕ) (i : Fetched (List ℕ) MemberId MemberId ByLabel.Callee) → IsAmong placed p
        → ByLabel.fetch p.method at ≡ Some i → card.fetch n.loaded (code_of n p) (offset_of n p at)
        ≡ Some (fetched_on_card n p i)
    fetch_there p at i among e =
        let whole = holds.whole among.place p among.there in
        method_fetched n p whole.code part (bytes_stand n part placed holds among.place p among.there) at i e

    fetch_known : (p : Placed) (at : ℕ) (i : Fetched (List ℕ) MemberId MemberId ByLabel.Callee) → IsAmong placed p
        → ByLabel.fetch p.method at ≡ Some i → KnownOperation known KnownMethod i.operation
    fetch_known p at i among e = by (slice_get p.method.insns at) refl
      where
        by : (o : Option NInsn) → slice_get p.method.insns at ≡ o → KnownOperation known KnownMethod i.operation
        by None h = let clash : None ≡ Some i =
            sym (ap (option_map (λ insn. record { operation = ByLabel.operation insn; next = at + 1 })) h) ∙ e in cc
        by (Some insn) h =
            let found : Some (record { operation = ByLabel.operation insn; next = at + 1 }) ≡ Some i =
            sym (ap (option_map (λ insn. record { operation = ByLabel.operation insn; next = at + 1 })) h) ∙ e in
            let same : record { operation = ByLabel.operation insn; next = at + 1 } ≡ i = cc in
            subst (λ x. KnownOperation known KnownMethod x.operation) same (tables.operation_known p at insn among h)

    handler_there : (p : Placed) (at : ℕ) (kind : Shape (List ℕ)) → IsAmong placed p
        → KnownThing (names n memories) known (IsAmong placed) KnownMethod kind
        → card.handler n.loaded (code_of n p) (offset_of n p at) (shape_as n.class kind) ≡ option_as (offset_of n p)
        (ByLabel.handler l p.method.catches at kind)
    handler_there p at kind among thing =
        let is_known : KnownShape known kind = subst (KnownShape known) thing.is_of (shape_known known thing.is_known)
        in
        let whole = holds.whole among.place p among.there in
        handler_found n l p part kind whole.code (bytes_stand n part placed holds among.place p among.there)
        (handlers_stand n part placed holds among.place p among.there) (λ c is. let classes = tables.classes
        in classes.is_of kind (OfClass c) is_known (tables.class_known c is)) (subst (IsObject l) thing.is_of
        (tables.is_object thing.thing thing.is_known)) whole.handlers at

    pub settings_alike : SettingsAlike (names n memories) known (IsAmong placed) KnownMethod (by_place l methods)
        (by_token n.loaded)
    unfolding by_place by_token
    settings_alike = record {
      classes = tables.classes;
      room = λ p among. refl;
      fetch = fetch_there;
      fetch_known = fetch_known;
      handler = handler_there;
      on_object = tables.on_object;
      words = tables.words;
      reached = tables.reached;
      reached_known = tables.reached_known;
      fault = tables.fault;
      fault_known = tables.fault_known;
      class_named = tables.class_named;
      class_named_known = tables.class_named_known;
      imported = tables.imported;
      imported_known = tables.imported_known;
      throwable = tables.throwable;
      throwable_known = tables.throwable_known;
      called = tables.called;
      called_known = tables.called_known;
      sent = tables.sent;
      sent_known = tables.sent_known;
      name = tables.name;
      fields = tables.fields;
      cells = tables.cells;
    }

    -- equal reports, for every script and every number of instructions
    pub package_runs_agree : RunsAgree (names n memories) known (IsAmong placed) KnownMethod (by_place l methods)
        (by_token n.loaded)
    package_runs_agree = runs_agree (names n memories) known (IsAmong placed) KnownMethod (by_place l methods)
        (by_token n.loaded) settings_alike
