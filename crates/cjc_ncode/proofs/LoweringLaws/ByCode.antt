-- Narrow code of placed methods runs as by code alone.
use Rattle.std.proofs.Common.{◌≡◌, ℕ, refl, ap, sym, ◌∙◌, List, [], ◌∷◌, map}
use Rattle.std.specs.Prelude.{Option, Some, None}
use Rattle.cjc_code.specs.Bytes.declared.fault.MemberId.{MemberId}
use Rattle.cjc_card_semantics.specs.Script.Sorts.{Shape, OfClass, OfNumbers, OfReferences}
use Rattle.cjc_card_semantics.specs.Bytecode.Effects.{Arm, Do, Branch, Pick, Touch, Get, Put, GetStatic, PutStatic}
use Rattle.cjc_card_semantics.specs.Bytecode.Effects.{Call, New, NewNumbers, NewReferences, Cast, Ask, Undone}
use Rattle.cjc_card_semantics.specs.Bytecode.Renaming.{option_as, shape_as, arm_as, operation_as, object_known}
use Rattle.cjc_card_semantics.specs.Bytecode.Renaming.{AreAlike, KnownShape, KnownOperation}
use Rattle.cjc_card_semantics.specs.Bytecode.Machine.{Reached, Nowhere, Fetched}
use Rattle.cjc_card_semantics.specs.Bytecode.Alike.{SettingsAlike, MissesAlike, RunsAgree, RunsStickAlike, reached_as}
use Rattle.cjc_card_semantics.proofs.BytecodeLaws.Together.{runs_agree, runs_stick_alike}
use Rattle.cjc_ncode.specs.ByLabel.{Named, by_label, classes}
use Rattle.cjc_ncode.specs.ByLabel
use Rattle.cjc_ncode.specs.Lowering.Placed.{Placed}
use Rattle.cjc_ncode.specs.Lowering.ByPlace.{Methods, by_place}
use Rattle.cjc_ncode.specs.Lowering.Agreement.{everything, known_by, IsKnownCall, code_alone, MethodsAgree}

abbrev pub Name : Type 0
Name = List ℕ

-- ---- what stays

pub option_stays : {A : Type 0} (o : Option A) → option_as (λ x. x) o ≡ o
option_stays None = refl
option_stays (Some x) = refl

pub shape_stays : (kind : Shape Name) → shape_as (λ c. c) kind ≡ kind
shape_stays (OfClass c) = refl
shape_stays (OfNumbers element) = refl
shape_stays (OfReferences c) = refl

pub kind_stays : (o : Option (Shape Name)) → option_as (shape_as (λ c. c)) o ≡ o
kind_stays None = refl
kind_stays (Some kind) = ap (λ x. Some x) (shape_stays kind)

arms_stay : (arms : List Arm) → map (arm_as (λ label. label)) arms ≡ arms
arms_stay [] = refl
arms_stay (arm ∷ arms) = ap (λ x. arm ∷ x) (arms_stay arms)

pub operation_stays : (operation : ByLabel.Resolved) → operation_as (λ c. c) (λ f. f) (λ f. f) (λ m. m) (λ label. label)
    operation ≡ operation
operation_stays (Do calculation) = refl
operation_stays (Branch test to) = refl
operation_stays (Pick is_int other arms) = ap (Pick is_int other) (arms_stay arms)
operation_stays (Touch access) = refl
operation_stays (Get this letter f) = refl
operation_stays (Put this letter f) = refl
operation_stays (GetStatic letter s) = refl
operation_stays (PutStatic letter s) = refl
operation_stays (Call m) = refl
operation_stays (New c) = refl
operation_stays (NewNumbers element) = refl
operation_stays (NewReferences c) = refl
operation_stays (Cast kind) = ap Cast (shape_stays kind)
operation_stays (Ask kind) = ap Ask (shape_stays kind)
operation_stays Undone = refl

-- ---- what is known

shape_known : (kind : Shape Name) → KnownShape (known_by everything) kind
shape_known (OfClass c) = refl
shape_known (OfNumbers element) = tt
shape_known (OfReferences c) = refl

pub operation_known : (operation : ByLabel.Resolved) → KnownOperation (known_by everything) (IsKnownCall everything)
    operation
operation_known (Do calculation) = tt
operation_known (Branch test to) = tt
operation_known (Pick is_int other arms) = tt
operation_known (Touch access) = tt
operation_known (Get this letter f) = refl
operation_known (Put this letter f) = refl
operation_known (GetStatic letter s) = refl
operation_known (PutStatic letter s) = refl
operation_known (Call m) = refl
operation_known (New c) = refl
operation_known (NewNumbers element) = tt
operation_known (NewReferences c) = refl
operation_known (Cast kind) = shape_known kind
operation_known (Ask kind) = shape_known kind
operation_known Undone = tt

-- ---- the settings

-- every placed method is known
abbrev Any : Placed → Type 0
Any p = Unit {0}

module _ (l : Named) (methods : Methods) (agree : MethodsAgree l methods) where
  classes_alike : AreAlike (known_by everything) (λ c. c) (λ f. f) (λ c slots. slots) (λ f. f) (λ x. x) (classes l)
      (classes l)
  classes_alike = record {
    is_of = λ a b known_a known_b. ap (λ x. l.is_of x (shape_as (λ c. c) b)) (shape_stays a)
        ∙ ap (l.is_of a) (shape_stays b);
    get = λ c held f known_object known_field. refl;
    put = λ c held f old new known_object known_field there. refl;
    fresh = λ c held is_known there. there;
    fresh_known = λ c held is_known there. object_known refl refl;
    bare = λ c is_known. refl;
    get_static = λ letter s x known_cell known_statics. refl;
    put_static = λ letter s v x fits known_cell known_statics. sym (option_stays (ByLabel.put_static x s v));
    put_known = λ letter s v x y fits known_cell known_statics there. refl;
  }

  fetch_stays : (p : Placed) (at : ℕ) (i : Fetched Name MemberId MemberId ByLabel.Callee) → ByLabel.fetch p.method at
      ≡ Some i → ByLabel.fetch p.method at ≡ Some (record {
        operation = operation_as (λ c. c) (λ f. f) (λ f. f) (λ m. m)
            (λ label. label) i.operation;
        next = i.next;
      })
  fetch_stays p at i e = e ∙ ap (λ x. Some (record { operation = x; next = i.next }))
      (sym (operation_stays i.operation))

  handler_stays : (p : Placed) (at : ℕ) (kind : Shape Name)
      → ByLabel.handler l p.method.catches at (shape_as (λ c. c) kind) ≡ option_as (λ label. label)
      (ByLabel.handler l p.method.catches at kind)
  handler_stays p at kind = ap (ByLabel.handler l p.method.catches at) (shape_stays kind)
      ∙ sym (option_stays (ByLabel.handler l p.method.catches at kind))

  reached_stays : (m : ByLabel.Callee) (o : Option (Shape Name)) (r : Reached Placed) → methods.reached m o ≡ r
      → l.reached m (option_as (shape_as (λ c. c)) o) ≡ reached_as (λ p. p.method) (λ p label. label) r
  reached_stays m o r e = ap (l.reached m) (kind_stays o) ∙ agree.reached m o
      ∙ ap (reached_as (λ p. p.method) (λ p label. label)) e

  pub code_settings_alike : SettingsAlike code_alone (known_by everything) Any (IsKnownCall everything)
      (by_place l methods) (by_label l)
  unfolding by_place by_label
  code_settings_alike = record {
    classes = classes_alike;
    room = λ p is_known. refl;
    fetch = λ p at i is_known e. fetch_stays p at i e;
    fetch_known = λ p at i is_known e. operation_known i.operation;
    handler = λ p at kind is_known known_kind. handler_stays p at kind;
    on_object = λ m is_known. refl;
    words = λ m w is_known e. e;
    reached = λ m o r is_known known_kind e is_found. reached_stays m o r e;
    reached_known = λ m o start is_known known_kind e. tt;
    fault = λ f. sym (option_stays (l.fault f));
    fault_known = λ f c e. object_known refl refl;
    class_named = λ name. sym (option_stays (l.class_named name));
    class_named_known = λ name c e. refl;
    imported = λ name. sym (option_stays (l.imported name));
    imported_known = λ name c e. object_known refl refl;
    throwable = λ name. sym (option_stays (l.throwable name));
    throwable_known = λ name c e. object_known refl refl;
    called = agree.called;
    called_known = λ id start e. tt;
    sent = λ kind id is_known. ap (λ x. l.sent x id) (shape_stays kind) ∙ agree.sent kind id;
    sent_known = λ kind id start is_known e. tt;
    name = λ c is_known. refl;
    fields = λ c slots is_known. refl;
    cells = λ x is_known. refl;
  }

  nowhere_stays : (m : ByLabel.Callee) (o : Option (Shape Name)) → methods.reached m o ≡ Nowhere
      → l.reached m (option_as (shape_as (λ c. c)) o) ≡ Nowhere
  nowhere_stays m o e = ap (l.reached m) (kind_stays o) ∙ agree.reached m o
      ∙ ap (reached_as (λ p. p.method) (λ p label. label)) e

  pub code_misses_alike : MissesAlike code_alone (known_by everything) Any (IsKnownCall everything) (by_place l methods)
      (by_label l)
  unfolding by_place by_label
  code_misses_alike = record {
    unmade = λ c is_known none. none;
    fetch = λ p at is_known none. none;
    words = λ m is_known none. none;
    reached = λ m o is_known known_kind none. nowhere_stays m o none;
  }

  pub code_runs_agree : RunsAgree code_alone (known_by everything) Any (IsKnownCall everything) (by_place l methods)
      (by_label l)
  code_runs_agree = runs_agree code_alone (known_by everything) Any (IsKnownCall everything) (by_place l methods)
      (by_label l) code_settings_alike

  pub code_runs_stick_alike : RunsStickAlike code_alone (known_by everything) Any (IsKnownCall everything)
      (by_place l methods) (by_label l)
  code_runs_stick_alike = runs_stick_alike code_alone (known_by everything) Any (IsKnownCall everything)
      (by_place l methods) (by_label l) code_settings_alike code_misses_alike
