-- Calls of static methods, constructors and private methods reach by token what they reach by name, whichever class
-- they name; so all calls do, where those do that are selected by their receivers.
use Rattle.std.proofs.Common.{◌≡◌, ℕ, refl, Bool, true, false, List, Some, None}
use Rattle.std.specs.Prelude.{Option, slice_get}
use Rattle.cjc_card_semantics.specs.Bytecode.Alike.{IsFound, KnownKind, reached_as}
use Rattle.cjc_card_semantics.specs.Bytecode.Machine.{Abroad, Reached, Start, Within}
use Rattle.cjc_card_semantics.specs.Bytecode.Renaming.{option_as, shape_as}
use Rattle.cjc_card_semantics.specs.Bytes.declared.fault.MemberId.{MemberId}
use Rattle.cjc_card_semantics.specs.Machine.Calls.{reached, words}
use Rattle.cjc_card_semantics.specs.Machine.Loaded.{Loaded}
use Rattle.cjc_card_semantics.specs.Script.Sorts.{Shape}
use Rattle.cjc_world.specs.Supertypes.{IsAcyclic}
use Rattle.cjc_link_semantics.specs.Components.Package.{Package}
use Rattle.cjc_link_semantics.specs.JvmSemantics.Linked.{Method}
use Rattle.cjc_link_semantics.specs.Loaded.{group_loaded}
use Rattle.cjc_token_proof.specs.Calls.Reaching.{start_placed}
use Rattle.cjc_token_proof.specs.NCode.ByLabel as ByLabel
use Rattle.cjc_token_proof.specs.NCode.Lowering.Agreement.{known_by}
use Rattle.cjc_token_proof.specs.NCode.Lowering.Placed.{Placed}
use Rattle.cjc_joint_proof.specs.JointAlike.{IsCalled, IsOfGroup, JointNaming, JointReachAgree, callee_at, code_at}
use Rattle.cjc_joint_proof.specs.JointAlike.{joint_names, offset_at}
use Rattle.cjc_joint_proof.specs.JointCalled.{StandByPackage, called_together, is_called_by}
use Rattle.cjc_joint_proof.specs.JointCode.{InPackage, JointCalls, of_package}
use Rattle.cjc_joint_proof.specs.JointFixed.{AreFixedNamed, JointSelectionsAgree, NamesFixed, TakesAlone, of_outside}
use Rattle.cjc_joint_proof.specs.JointFixed.{of_own, of_shared}
use Rattle.cjc_joint_proof.specs.JointNames.{joint_calls}
use Rattle.cjc_joint_proof.specs.JointPackages.{AreLinked, class_together, files_together}
use Rattle.cjc_joint_proof.specs.JointTables.{known_together, memories_together, world_together}
use Rattle.cjc_joint_proof.specs.JointTogether.{methods_together, naming_together}
use Rattle.cjc_joint_proof.specs.Loading.{group_of}
use Rattle.cjc_joint_proof.proofs.FixedLaws.{own_calls_reach, own_calls_stand, own_calls_take}
use Rattle.cjc_joint_proof.proofs.OutwardLaws.{outside_is, outside_reach, outside_words}
use Rattle.cjc_joint_proof.proofs.SharedLaws.{shared_reach, shared_stand, shared_words}

module _ (packages : List Package) (linked : AreLinked packages) (acyclic : IsAcyclic (world_together packages))
    (at : Method → Placed) (stand : StandByPackage packages at) where
  abbrev l : Loaded
  l = group_loaded (group_of packages)

  abbrev g : JointNaming
  g = naming_together packages

  abbrev calls : JointCalls Placed
  calls = joint_calls (files_together packages) (start_placed at)

  module _ (q : ℕ) (p : Package) (here : slice_get packages q ≡ Some p) (on : Bool) (id : MemberId) where
    abbrev m : InPackage ByLabel.Callee
    m = of_package q (ByLabel.Fixed on id)

    pub fixed_words : NamesFixed packages p on id → TakesAlone p on id → (n : ℕ) → calls.words m ≡ Some n
        → words l (callee_at g m) ≡ Some n
    fixed_words (of_own c among) alone n e = own_calls_take packages linked at stand q p here id c on alone n e
    fixed_words (of_outside c) alone n e = outside_words packages linked at q p here id c on alone n e
    fixed_words (of_shared c among takes) alone n e = shared_words packages linked acyclic at stand q p here id c on
        takes n e

    pub fixed_reach : NamesFixed packages p on id → (o : Option (Shape (List ℕ))) (r : Reached (InPackage Placed))
        → calls.reached m o ≡ r → IsFound r
        → reached l (callee_at g m) (option_as (shape_as (class_together packages)) o)
        ≡ reached_as (code_at g) (offset_at g) r
    fixed_reach (of_own c among) o r e found = own_calls_reach packages linked at stand q p here id c on o r e found
    fixed_reach (of_outside c) o r e found = outside_reach packages linked at q p here id c on o r e found
    fixed_reach (of_shared c among takes) o r e found = shared_reach packages linked acyclic at stand q p here id c on o
        r e found

    pub fixed_stand : NamesFixed packages p on id → (o : Option (Shape (List ℕ))) (start : Start (InPackage Placed))
        → calls.reached m o ≡ Within start → IsOfGroup l (methods_together packages) start.code
    fixed_stand (of_own c among) o start e = own_calls_stand packages linked at stand q p here id c among on o start e
    fixed_stand (of_outside c) o start e =
        let is : Within start ≡ Abroad id = outside_is packages linked at q p here id c on o (Within start) e tt in
        absurd (cc)
    fixed_stand (of_shared c among takes) o start e = shared_stand packages linked acyclic at stand q p here id c among
        on o start e

  -- ---- all calls

  module _ (fixed : AreFixedNamed packages) (selections : JointSelectionsAgree g (methods_together packages)
      (memories_together packages) calls (known_by (known_together packages)) (IsCalled (called_together packages)))
    where
      -- the package of a call is there
      module _ {X : Type 0} (q : ℕ) (on : Bool) (id : MemberId)
          (then' : (p : Package) → slice_get packages q ≡ Some p → NamesFixed packages p on id → TakesAlone p on id → X) where
        asked : called_together packages (of_package q (ByLabel.Fixed on id)) ≡ true → X
        asked called = by (slice_get packages q) refl called
          where
            by : (o : Option Package) → slice_get packages q ≡ o → is_called_by o (ByLabel.Fixed on id) ≡ true → X
            by None here k = absurd (cc)
            by (Some p) here k = let f = fixed q p here on id k in then' p here f.0 f.1

      words_at : (q : ℕ) (x : ByLabel.Callee) (n : ℕ) → called_together packages (of_package q x) ≡ true
          → calls.words (of_package q x) ≡ Some n → words l (callee_at g (of_package q x)) ≡ Some n
      words_at q (ByLabel.Fixed on id) n called e = asked q on id (λ p here names alone. fixed_words q p here on id names
          alone n e) called
      words_at q (ByLabel.OnObject m) n called e = selections.words (of_package q (ByLabel.OnObject m)) n called tt e
      words_at q (ByLabel.OnSuper m) n called e = selections.words (of_package q (ByLabel.OnSuper m)) n called tt e
      words_at q (ByLabel.OnInterface w m) n called e = selections.words (of_package q (ByLabel.OnInterface w m)) n called
          tt e

      abbrev IsKind : Option (Shape (List ℕ)) → Type 0
      IsKind o = KnownKind (joint_names g (memories_together packages)) (known_by (known_together packages))
          (IsOfGroup l (methods_together packages)) (IsCalled (called_together packages)) o

      pub reach_agrees : JointReachAgree g (methods_together packages) (memories_together packages) calls (known_by
          (known_together packages)) (IsCalled (called_together packages))
      reach_agrees = record {
        words = λ m n called e. words_at m.part m.item n called e;
        reached = λ m o r called kind e found. reached_at m.part m.item o r called kind e found;
        reached_known = λ m o start called kind e. known_at m.part m.item o start called kind e;
        sent = selections.sent;
        sent_known = selections.sent_known;
      }
        where
          reached_at : (q : ℕ) (x : ByLabel.Callee) (o : Option (Shape (List ℕ))) (r : Reached (InPackage Placed))
              → called_together packages (of_package q x) ≡ true → IsKind o → calls.reached (of_package q x) o ≡ r
              → IsFound r → reached l (callee_at g (of_package q x)) (option_as (shape_as (class_together packages)) o)
              ≡ reached_as (code_at g) (offset_at g) r
          reached_at q (ByLabel.Fixed on id) o r called kind e found = asked q on id (λ p here names alone. fixed_reach q
              p here on id names o r e found) called
          reached_at q (ByLabel.OnObject m) o r called kind e found = selections.reached (of_package q (ByLabel.OnObject
              m)) o r called tt kind e found
          reached_at q (ByLabel.OnSuper m) o r called kind e found = selections.reached (of_package q (ByLabel.OnSuper m))
              o r called tt kind e found
          reached_at q (ByLabel.OnInterface w m) o r called kind e found = selections.reached (of_package q
              (ByLabel.OnInterface w m)) o r called tt kind e found

          known_at : (q : ℕ) (x : ByLabel.Callee) (o : Option (Shape (List ℕ))) (start : Start (InPackage Placed))
              → called_together packages (of_package q x) ≡ true → IsKind o → calls.reached (of_package q x) o
              ≡ Within start → IsOfGroup l (methods_together packages) start.code
          known_at q (ByLabel.Fixed on id) o start called kind e = asked q on id (λ p here names alone. fixed_stand q p
              here on id names o start e) called
          known_at q (ByLabel.OnObject m) o start called kind e = selections.reached_known (of_package q (ByLabel.OnObject
              m)) o start called tt kind e
          known_at q (ByLabel.OnSuper m) o start called kind e = selections.reached_known (of_package q (ByLabel.OnSuper
              m)) o start called tt kind e
          known_at q (ByLabel.OnInterface w m) o start called kind e = selections.reached_known (of_package q
              (ByLabel.OnInterface w m)) o start called tt kind e
