-- The run of narrow code of several packages together, by label and name, on words of 16 bits: what a call names, it
-- names in the files of the package whose code makes it, and each method is of a package.
use Rattle.std.specs.Prelude.{ℕ, List, Option, option_map, map}
use Rattle.cjc_card_semantics.specs.Bytes.declared.fault.MemberId.{MemberId}
use Rattle.cjc_card_semantics.specs.Bytecode.Effects.{Operation}
use Rattle.cjc_card_semantics.specs.Bytecode.Machine.{Fetched, Reached, Setting, Start}
use Rattle.cjc_card_semantics.specs.Bytecode.Machine
use Rattle.cjc_card_semantics.specs.Bytecode.Renaming.{operation_as}
use Rattle.cjc_card_semantics.specs.Script.Sorts.{Shape}
use Rattle.cjc_card_semantics.specs.Script.declared.report.Report.{Report}
use Rattle.cjc_card_semantics.specs.Script.declared.script.Script.{Script}
use Rattle.cjc_token_proof.specs.NCode.ByLabel.{Callee, Named, Resolved, classes, fetch, handler, on_object, shown_slot}
use Rattle.cjc_token_proof.specs.NCode.Lowering.Agreement.{Cells}
use Rattle.cjc_token_proof.specs.NCode.Lowering.Placed.{Placed}
use Rattle.cjc_token_proof.specs.NCode.declared.narrow.NMethod.{NMethod}

-- a method of the package at a place of the group, or what its code names
pub record InPackage (A : Type 0) : Type 0 where
  pub part : ℕ
  pub item : A

-- what is of a package
abbrev pub of_package : {A : Type 0} → (part : ℕ) → A → InPackage A
of_package q x = record { part = q; item = x }

-- How many words calls take and what they reach, by the package whose code makes them; and the methods that a script
-- names.
pub record JointCalls (P : Type 0) : Type 0 where
  pub words : InPackage Callee → Option ℕ
  pub reached : InPackage Callee → Option (Shape (List ℕ)) → Reached (InPackage P)
  pub called : MemberId → Option (Start (InPackage P))
  pub sent : Shape (List ℕ) → MemberId → Option (Start (InPackage P))

-- an operation of a package's code
abbrev pub JointOperation : Type 0
JointOperation = Operation (List ℕ) MemberId MemberId (InPackage Callee)

-- an operation by name that the code of a package makes
abbrev pub operation_in : (part : ℕ) → Resolved → JointOperation
operation_in q operation = operation_as (λ c. c) (λ f. f) (λ f. f) (of_package q) (λ label. label) operation

-- an instruction of the package
abbrev pub fetched_in : (part : ℕ) → Fetched (List ℕ) MemberId MemberId Callee
    → Fetched (List ℕ) MemberId MemberId (InPackage Callee)
fetched_in q i = record { operation = operation_in q i.operation; next = i.next }

-- the look-ups of narrow code of several packages, whatever tells their methods apart
abbrev pub setting_in : {P : Type 0} → (code : P → NMethod) → Named → JointCalls P
    → Setting (InPackage P) (List ℕ) MemberId MemberId (InPackage Callee) Cells
setting_in code l calls = record {
  classes = classes l;
  room = λ p. let m = code p.item in m.max_stack;
  fetch = λ p at. option_map (fetched_in p.part) (fetch (code p.item) at);
  handler = λ p at kind. let m = code p.item in handler l m.catches at kind;
  on_object = λ m. on_object m.item;
  words = calls.words;
  reached = calls.reached;
  fault = l.fault;
  class_named = l.class_named;
  imported = l.imported;
  throwable = l.throwable;
  called = calls.called;
  sent = calls.sent;
  name = λ c. c;
  fields = λ c slots. map shown_slot slots;
  cells = map shown_slot;
}

-- The look-ups of narrow code of several packages, by its code alone.
unfoldable pub by_label_in : Named → JointCalls NMethod
    → Setting (InPackage NMethod) (List ℕ) MemberId MemberId (InPackage Callee) Cells
by_label_in l calls = setting_in (λ m. m) l calls

-- The same of methods that know where they stand in their package.
unfoldable pub by_place_in : Named → JointCalls Placed
    → Setting (InPackage Placed) (List ℕ) MemberId MemberId (InPackage Callee) Cells
by_place_in l calls = setting_in (λ p. p.method) l calls

-- The run of n instructions.
abbrev pub run : Named → JointCalls NMethod → Script → ℕ → Report
run l calls script n = Machine.run (by_label_in l calls) n (Machine.start l.memory script)
