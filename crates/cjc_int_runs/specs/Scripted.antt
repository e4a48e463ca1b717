-- What is asked of a member that a script names, so that entries begin alike, with ints as two words.
use Rattle.std.specs.Prelude.{◌≡◌, List, [], ◌∷◌, ℕ, Option, Some, option_map, Bool}
use Rattle.cjc_script.specs.Bytes.declared.fault.MemberId.{MemberId}
use Rattle.cjc_script.specs.Sorts.{Sort, Shape, Reference, Signature, signature_of, shape_name}
use Rattle.cjc_card_semantics.specs.Bytecode.Machine.{Start}
use Rattle.cjc_ncode.specs.declared.narrow.NMethod.{NMethod}
use Rattle.cjc_ncode.specs.ByLabel.{Named}
use Rattle.cjc_jvm_semantics.specs.Linked.{Method, Linked}
use Rattle.cjc_jvm_semantics.specs.Machine.{Frame}
use Rattle.cjc_narrow_proof.specs.Selection.Calls.{NFrame}
use Rattle.cjc_narrow_proof.specs.Selection.Entries.{kinds_of, IsNoEntry}
use Rattle.cjc_narrow_proof.specs.Selection.Relation.{NMemory, IsMadeOf}
use Rattle.cjc_narrow_proof.specs.Selection.Replies.{AsksAlike}
use Rattle.cjc_int_runs.specs.Modes.{MayEnter, MayEnterOn}

-- what is of the types of parameters is told alike
pub data AreAsked (by : Linked) (l : Named) : List Sort → Type 0 where
  none_asked : AreAsked by l []
  one_asked : {type : Sort} {types : List Sort} → ((kind : Shape (List ℕ)) → type ≡ Reference kind
      → AsksAlike by l kind) → AreAsked by l types → AreAsked by l (type ∷ types)

module _ (by : Linked) (l : Named) (Here : NMemory → Frame → NFrame → Type 0) (results : Method → Option Sort)
    (narrowed : Method → Start NMethod) (may_throw : Shape (List ℕ) → Bool) (id : MemberId) where
  -- A member that a script calls or sends: both sides find the same methods of the package, which begin with arguments
  -- of its types.
  pub record EntersAlike : Type 0 where
    pub types : Signature
    pub has_types : signature_of id.desc ≡ Some types
    pub given : AreAsked by l types.params
    pub called : l.called id ≡ option_map narrowed (by.entry id)
    pub sent : (kind : Shape (List ℕ)) → l.sent kind id ≡ option_map narrowed (by.sent (shape_name kind) id)
    pub called_enters : (m : Method) → by.entry id ≡ Some m
        → MayEnter by l Here results narrowed may_throw m types.params (kinds_of l types.params)
    pub sent_enters : (kind : Shape (List ℕ)) (m : Method) → IsMadeOf l kind → by.sent (shape_name kind) id ≡ Some m
        → MayEnterOn by l Here results narrowed may_throw m kind types.params (kinds_of l types.params)

  -- It is such a member, or neither side finds a method for it.
  pub data IsScripted : Type 0 where
    finds_a_method : EntersAlike → IsScripted
    finds_none : IsNoEntry by l id → IsScripted
