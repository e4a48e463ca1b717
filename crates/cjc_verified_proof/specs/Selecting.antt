-- What calls by dispatch select, by the descriptors of methods.
use Rattle.std.specs.Prelude.{◌≡◌, ℕ, true, false, List, Option, Some}
use Rattle.cjc_bytes.specs.declared.fault.MemberId.{MemberId}
use Rattle.cjc_capread.specs.declared.tree.ClassRef.{ClassRef}
use Rattle.cjc_capread.specs.declared.tree.PoolEntry.TheVariants.{VirtualMethodref, SuperMethodref}
use Rattle.cjc_check_rules.specs.Members.{is_method_start}
use Rattle.cjc_card_semantics.specs.Script.Sorts.{Shape, OfClass, Signature, signature_of}
use Rattle.cjc_card_semantics.specs.Machine.Classes.{Class, class_of, shape_class}
use Rattle.cjc_card_semantics.specs.Machine.Calls.{dispatched_on}
use Rattle.cjc_card_semantics.specs.Machine.Dispatch.{Token, Selection, NotFound, At, Outward, above, dispatched}
use Rattle.cjc_card_semantics.specs.Machine.Dispatch.{dispatched_interface, tower}
use Rattle.cjc_card_semantics.specs.Machine.Operations.{token_of}
use Rattle.cjc_card_acts.specs.CardTypes.{both_of, shape_by}
use Rattle.cjc_verify.specs.Named.{entry_of, holder_in, interface_desc, is_abstract_at, is_static_described, named_desc}
use Rattle.cjc_verify.specs.Pairs.{Pair, Described, member_of, method_at}
use Rattle.cjc_verify_proof.specs.Frames.{Program}
use Rattle.cjc_verify_proof.specs.Turns.{IsMade}

-- What is selected is a method of this descriptor: one of the package that is not static, or an imported one.
pub data HasDesc (p : Pair) (desc : List ℕ) : Selection → Type 0 where
  of_package : (offset : ℕ) (d : Described) → is_method_start p.components offset ≡ true
      → method_at p offset ≡ Some d → (let m = member_of p d in m.desc) ≡ desc → is_static_described d ≡ false
      → HasDesc p desc (At 0 offset)
  of_file : (id : MemberId) (signature : Signature) → id.desc ≡ desc → signature_of desc ≡ Some signature
      → HasDesc p desc (Outward id)

-- a receiver of this type is of the class that holds the method
abbrev pub IsOf : Pair → Shape Class → Selection → Type 0
IsOf p kind NotFound = Unit {0}
IsOf p kind (At part offset) = both_of p.loaded (Some kind) (shape_by p.loaded (holder_in (method_at p offset))) ≡ true
IsOf p kind (Outward id) = Unit {0}

-- a method of the package is not abstract
abbrev pub IsConcrete : Pair → Selection → Type 0
IsConcrete p NotFound = Unit {0}
IsConcrete p (At part offset) = is_abstract_at p offset ≡ false
IsConcrete p (Outward id) = Unit {0}

-- things that are made and are of a class have a method of this descriptor
abbrev pub Answers : Pair → Program → Class → (desc : List ℕ) → (Option Class → Selection) → Type 0
Answers p program class desc select = (kind : Shape Class) → IsMade program kind
    → both_of p.loaded (Some kind) (Some (OfClass class)) ≡ true → HasDesc p desc (select (shape_class p.loaded kind))
    × IsOf p kind (select (shape_class p.loaded kind)) × IsConcrete p (select (shape_class p.loaded kind))

-- an entry of a virtual method
pub record NamesVirtual (p : Pair) (program : Program) (class : ClassRef) (token : ℕ) (desc : List ℕ) : Type 0 where
  pub named : Class
  pub chosen : Token
  pub meant : class_of p.loaded 0 class ≡ Some named
  pub token_is : token_of named token ≡ Some chosen
  pub has : HasDesc p desc (dispatched (tower p.loaded named) chosen)
  pub answers : Answers p program named desc (λ o. dispatched_on p.loaded o chosen)

-- an entry of a method of a superclass
pub record NamesSuper (p : Pair) (program : Program) (class : ClassRef) (token : ℕ) (desc : List ℕ) : Type 0 where
  pub named : Class
  pub chosen : Token
  pub meant : class_of p.loaded 0 class ≡ Some named
  pub token_is : token_of named token ≡ Some chosen
  pub has : HasDesc p desc (dispatched (above (tower p.loaded named)) chosen)
  pub is_of : (kind : Shape Class) → IsMade program kind → both_of p.loaded (Some kind) (Some (OfClass named)) ≡ true
      → IsOf p kind (dispatched (above (tower p.loaded named)) chosen)

-- Dispatch keeps the descriptors that entries of the constant pool, and tokens of interfaces, name.
pub record DispatchFits (p : Pair) (program : Program) : Type 0 where
  pub virtuals : (k : ℕ) (class : ClassRef) (token : ℕ) (desc : List ℕ) → entry_of p k ≡ Some (VirtualMethodref class
      token) → named_desc p (VirtualMethodref class token) ≡ Some desc → NamesVirtual p program class token desc
  pub supers : (k : ℕ) (class : ClassRef) (token : ℕ) (desc : List ℕ) → entry_of p k ≡ Some (SuperMethodref class
      token) → named_desc p (SuperMethodref class token) ≡ Some desc → NamesSuper p program class token desc
  pub interfaces : (class : Class) (token : ℕ) (desc : List ℕ) → interface_desc p.loaded token (Some class) ≡ Some desc
      → Answers p program class desc (λ o. dispatched_interface p.loaded o class token)
