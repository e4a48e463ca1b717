-- Narrow code of several packages and their components are alike, and so run alike.
use Rattle.std.proofs.Common.{◌≡◌, ℕ, ◌+◌, refl, ap, sym, subst, ◌∙◌, List, [], ◌∷◌, map}
use Rattle.std.specs.Prelude.{Option, Some, None, option_map, slice_get}
use Rattle.cjc_card_semantics.specs.Bytes.declared.fault.MemberId.{MemberId}
use Rattle.cjc_card_semantics.specs.Script.Sorts.{OfClass, OfNumbers, OfReferences, Shape}
use Rattle.cjc_card_semantics.specs.Bytecode.Alike.{KnownThing, RunsAgree, SettingsAlike, fetched_as}
use Rattle.cjc_card_semantics.specs.Bytecode.Effects.{Arm, Ask, Branch, Call, Cast, Do, Get, GetStatic, New, NewNumbers}
use Rattle.cjc_card_semantics.specs.Bytecode.Effects.{NewReferences, Operation, Pick, Put, PutStatic, Touch, Undone}
use Rattle.cjc_card_semantics.specs.Bytecode.Machine.{Fetched}
use Rattle.cjc_card_semantics.specs.Bytecode.Renaming.{KnownOperation, KnownShape, Knows, arm_as, operation_as}
use Rattle.cjc_card_semantics.specs.Bytecode.Renaming.{option_as}
use Rattle.cjc_card_semantics.specs.Bytecode.Renaming.{shape_as}
use Rattle.cjc_card_semantics.specs.Machine.ByToken.{by_token}
use Rattle.cjc_card_semantics.specs.Machine.Methods as card
use Rattle.cjc_card_semantics.proofs.BytecodeLaws.Natural.{shape_known}
use Rattle.cjc_card_semantics.proofs.BytecodeLaws.Together.{runs_agree}
use Rattle.cjc_token_proof.specs.NCode.ByLabel.{Named}
use Rattle.cjc_token_proof.specs.NCode.ByLabel
use Rattle.cjc_token_proof.specs.NCode.Lowering.Agreement.{Cells, Memories}
use Rattle.cjc_token_proof.specs.NCode.Lowering.Handlers.{IsObject}
use Rattle.cjc_token_proof.specs.NCode.Lowering.Placed.{Placed, fetched_on_card}
use Rattle.cjc_token_proof.specs.NCode.declared.narrow.NInsn.{NInsn}
use Rattle.cjc_ncode.proofs.LoweringLaws.Fetching.{method_fetched}
use Rattle.cjc_ncode.proofs.LoweringLaws.Catching.{handler_found}
use Rattle.cjc_ncode.proofs.LoweringLaws.Packed.{bytes_stand, handlers_stand}
use Rattle.cjc_token_proof.specs.Tables.Tables.{ClassTablesAgree}
use Rattle.cjc_joint_proof.specs.JointCode.{InPackage, JointCalls, by_place_in, fetched_in}
use Rattle.cjc_joint_proof.specs.JointAlike.{AllHold, IsOfGroup, JointCallsAgree, JointNaming, code_at, joint_names}
use Rattle.cjc_joint_proof.specs.JointAlike.{naming_at}
use Rattle.cjc_joint_proof.specs.JointAlike.{offset_at}

-- ---- renamed twice

module _ {C F S M N D G T K : Type 0} (class : C → D) (field : F → G) (cell : S → T) (inner : M → N) (outer : N → K)
    (to : ℕ → ℕ) where
  arms_twice : (arms : List Arm) → map (arm_as to) (map (arm_as (λ label. label)) arms) ≡ map (arm_as to) arms
  arms_twice [] = refl
  arms_twice (arm ∷ arms) = ap (λ x. arm_as to arm ∷ x) (arms_twice arms)

  shape_twice : (kind : Shape C) → shape_as class (shape_as (λ c. c) kind) ≡ shape_as class kind
  shape_twice (OfClass c) = refl
  shape_twice (OfNumbers element) = refl
  shape_twice (OfReferences c) = refl

  -- an operation whose calls alone are renamed first
  pub operation_twice : (operation : Operation C F S M) → operation_as class field cell outer to (operation_as (λ c. c)
      (λ f. f) (λ s. s) inner (λ label. label) operation)
      ≡ operation_as class field cell (λ m. outer (inner m)) to operation
  operation_twice (Do calculation) = refl
  operation_twice (Branch test place) = refl
  operation_twice (Pick is_int other arms) = ap (Pick is_int (to other)) (arms_twice arms)
  operation_twice (Touch access) = refl
  operation_twice (Get this letter f) = refl
  operation_twice (Put this letter f) = refl
  operation_twice (GetStatic letter s) = refl
  operation_twice (PutStatic letter s) = refl
  operation_twice (Call m) = refl
  operation_twice (New c) = refl
  operation_twice (NewNumbers element) = refl
  operation_twice (NewReferences c) = refl
  operation_twice (Cast kind) = ap Cast (shape_twice kind)
  operation_twice (Ask kind) = ap Ask (shape_twice kind)
  operation_twice Undone = refl

-- ---- what is fetched

-- an instruction of a package's method, by the narrow code alone
record Fetches (p : InPackage Placed) (at : ℕ) (i : Fetched (List ℕ) MemberId MemberId (InPackage ByLabel.Callee)) :
    Type 0 where
  one : Fetched (List ℕ) MemberId MemberId ByLabel.Callee
  found : (let m = p.item in ByLabel.fetch m.method at ≡ Some one)
  is : fetched_in p.part one ≡ i

fetches : (p : InPackage Placed) (at : ℕ) (i : Fetched (List ℕ) MemberId MemberId (InPackage ByLabel.Callee))
    → (let m = p.item in option_map (fetched_in p.part) (ByLabel.fetch m.method at) ≡ Some i) → Fetches p at i
fetches p at i e = by (let m = p.item in ByLabel.fetch m.method at) refl
  where
    by : (o : Option (Fetched (List ℕ) MemberId MemberId ByLabel.Callee))
        → (let m = p.item in ByLabel.fetch m.method at ≡ o) → Fetches p at i
    by None h = let clash : None ≡ Some i = sym (ap (option_map (fetched_in p.part)) h) ∙ e in cc
    by (Some k) h =
        let found : Some (fetched_in p.part k) ≡ Some i = sym (ap (option_map (fetched_in p.part)) h) ∙ e in
        record { one = k; found = h; is = cc }

-- ---- the settings

module _ (g : JointNaming) (placed : ℕ → List Placed) (memories : Memories) (l : Named) (calls : JointCalls Placed)
    (known : Knows (List ℕ) MemberId MemberId Cells) (KnownMethod : InPackage ByLabel.Callee → Type 0)
    (holds : AllHold g placed) (classes : (q : ℕ) → ClassTablesAgree (naming_at g q) memories l known)
    (agree : JointCallsAgree g placed memories l calls known KnownMethod) where
  fetch_there : (p : InPackage Placed) (at : ℕ)
      (i : Fetched (List ℕ) MemberId MemberId (InPackage ByLabel.Callee)) → IsOfGroup g.loaded placed p
      → (let m = p.item in option_map (fetched_in p.part) (ByLabel.fetch m.method at) ≡ Some i)
      → card.fetch g.loaded (code_at g p) (offset_at g p at) ≡ Some (fetched_as (joint_names g memories) p i)
  fetch_there p at i is e =
      let n = naming_at g p.part in
      let f = fetches p at i e in
      let k = f.one in
      let among = is.among in
      let h = holds p.part is.component is.there in
      let whole = h.whole among.place p.item among.there in
      method_fetched n p.item whole.code is.component (bytes_stand n is.component (placed p.part) h among.place p.item
      among.there) at k f.found
      ∙ (ap (λ x. Some (record { operation = x; next = offset_at g p k.next })) (sym (operation_twice g.class (let
      names = joint_names g memories in names.field) g.cell (λ m. record { part = p.part; item = m }) (let
      names = joint_names g memories in names.method) (offset_at g p) k.operation))
      ∙ ap (λ x. Some (fetched_as (joint_names g memories) p x)) f.is)

  fetch_known : (p : InPackage Placed) (at : ℕ)
      (i : Fetched (List ℕ) MemberId MemberId (InPackage ByLabel.Callee)) → IsOfGroup g.loaded placed p
      → (let m = p.item in option_map (fetched_in p.part) (ByLabel.fetch m.method at) ≡ Some i)
      → KnownOperation known KnownMethod i.operation
  fetch_known p at i is e =
      let f = fetches p at i e in
      subst (λ x. KnownOperation known KnownMethod x.operation) f.is (by f (let m = p.item in let n = m.method
      in slice_get n.insns at) refl)
    where
      by : (f : Fetches p at i) (o : Option NInsn) → (let m = p.item in let n = m.method in slice_get n.insns at ≡ o)
          → KnownOperation known KnownMethod (let x = fetched_in p.part f.one in x.operation)
      by f None h = let clash : None ≡ Some f.one =
          sym (ap (option_map (λ insn. record { operation = ByLabel.operation insn; next = at + 1 })) h) ∙ f.found
          in cc
      by f (Some insn) h =
          let found : Some (record { operation = ByLabel.operation insn; next = at + 1 }) ≡ Some f.one =
          sym (ap (option_map (λ insn. record { operation = ByLabel.operation insn; next = at + 1 })) h) ∙ f.found in
          let same : record { operation = ByLabel.operation insn; next = at + 1 } ≡ f.one = cc in
          subst (λ x. KnownOperation known KnownMethod (let y = fetched_in p.part x in y.operation)) same
          (agree.operation_known p at insn is h)

  handler_there : (p : InPackage Placed) (at : ℕ) (kind : Shape (List ℕ)) → IsOfGroup g.loaded placed p
      → KnownThing (joint_names g memories) known (IsOfGroup g.loaded placed) KnownMethod kind
      → card.handler g.loaded (code_at g p) (offset_at g p at) (shape_as g.class kind) ≡ option_as (offset_at g p)
      (let m = p.item in let n = m.method in ByLabel.handler l n.catches at kind)
  handler_there p at kind is thing =
      let n = naming_at g p.part in
      let is_known : KnownShape known kind = subst (KnownShape known) thing.is_of (shape_known known thing.is_known) in
      let among = is.among in
      let h = holds p.part is.component is.there in
      let whole = h.whole among.place p.item among.there in
      let tables = classes p.part in
      handler_found n l p.item is.component kind whole.code (bytes_stand n is.component (placed p.part) h among.place
      p.item among.there) (handlers_stand n is.component (placed p.part) h among.place p.item among.there)
      (λ c there. let alike = tables.classes in alike.is_of kind (OfClass c) is_known (tables.class_known c there))
      (subst (IsObject l) thing.is_of (agree.is_object thing.thing thing.is_known)) whole.handlers at

  pub settings_alike : SettingsAlike (joint_names g memories) known (IsOfGroup g.loaded placed) KnownMethod
      (by_place_in l calls) (by_token g.loaded)
  unfolding by_place_in by_token
  settings_alike =
      let tables = classes 0 in
      record {
        classes = tables.classes;
        room = λ p is. refl;
        fetch = fetch_there;
        fetch_known = fetch_known;
        handler = handler_there;
        on_object = agree.on_object;
        words = agree.words;
        reached = λ m o r is kind e found. agree.reached m o r is kind e found;
        reached_known = agree.reached_known;
        fault = tables.fault;
        fault_known = tables.fault_known;
        class_named = tables.class_named;
        class_named_known = tables.class_named_known;
        imported = tables.imported;
        imported_known = tables.imported_known;
        throwable = tables.throwable;
        throwable_known = tables.throwable_known;
        called = agree.called;
        called_known = agree.called_known;
        sent = agree.sent;
        sent_known = agree.sent_known;
        name = tables.name;
        fields = tables.fields;
        cells = tables.cells;
      }

  -- equal reports, for every script and every number of instructions
  pub placed_runs_agree : RunsAgree (joint_names g memories) known (IsOfGroup g.loaded placed) KnownMethod
      (by_place_in l calls) (by_token g.loaded)
  placed_runs_agree = runs_agree (joint_names g memories) known (IsOfGroup g.loaded placed) KnownMethod
      (by_place_in l calls) (by_token g.loaded) settings_alike
