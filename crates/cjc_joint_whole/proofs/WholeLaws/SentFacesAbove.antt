-- What stands above a class on the card, where packages are loaded together: each is a class of the joint world there;
-- and the first interface among these that has a method by token.
use Rattle.std.proofs.Common.{◌≡◌, ℕ, refl, sym, ap, subst, ◌∙◌, Bool, true, false, List, [], ◌∷◌, Some, None, inl, inr}
use Rattle.std.proofs.Common.{⊎_elim}
use Rattle.std.specs.Prelude.{Option, is_some, slice_get, if◌then◌else◌}
use Rattle.cjc_bytes.specs.AccessFlags.{is_interface}
use Rattle.cjc_bytes.specs.declared.fault.MemberId.{MemberId}
use Rattle.cjc_components.specs.Package.{Package}
use Rattle.cjc_joint_proof.specs.JointAlike.{naming_at}
use Rattle.cjc_joint_proof.specs.JointPackages.{class_together}
use Rattle.cjc_joint_proof.specs.JointTables.{world_together}
use Rattle.cjc_joint_proof.specs.JointTogether.{naming_together}
use Rattle.cjc_joint_proof.specs.JointTowers.{loaded_together}
use Rattle.cjc_joint_proof.proofs.MeantLaws.{class_there, kinds_together, says_steps}
use Rattle.cjc_token_proof.proofs.ByToken.Above.{told_above}
use Rattle.cjc_token_proof.proofs.CardUpwards.{first_or_later, head_in, later_in}
use Rattle.cjc_token_proof.proofs.WorldProofTypes.{below_type, receiver_class}
use Rattle.cjc_token_proof.specs.ByToken.Above.{IsAtOrAbove, itself}
use Rattle.cjc_token_proof.specs.ByToken.Above as above
use Rattle.cjc_token_proof.specs.ByToken.Supers.{SaysSteps}
use Rattle.cjc_token_proof.specs.CardSemantics.Machine.Calls.{interface_token, through, through_first}
use Rattle.cjc_token_proof.specs.CardSemantics.Machine.Calls.{token_if_interface}
use Rattle.cjc_token_proof.specs.CardSemantics.Machine.Classes.{Class as CardClass, is_in, object_class, supers}
use Rattle.cjc_token_proof.specs.CardSemantics.Machine.Classes.{upwards}
use Rattle.cjc_token_proof.specs.CardSemantics.Machine.Classes as card
use Rattle.cjc_token_proof.specs.CardSemantics.Machine.Dispatch.{NotFound, Selection, dispatched_interface}
use Rattle.cjc_token_proof.specs.CardSemantics.Machine.Loaded.{Loaded}
use Rattle.cjc_token_proof.specs.Script.Sorts.{OfClass}
use Rattle.cjc_world.proofs.UpwardLaws.Lines.{below_on}
use Rattle.cjc_world.specs.Classes.{Class, class_named}
use Rattle.cjc_world.specs.Lookup.{object, receiver}
use Rattle.cjc_world.specs.Subtype.{starts}
use Rattle.cjc_world.specs.Upwards.{Below}
use Rattle.cjc_joint_whole.specs.Selected.{SelectTogether}

off : false ≡ true → ⊥
off e = cc

module _ (packages : List Package) where
  -- a class of the joint world, of this name, that stands at or above one
  pub record Over (y : List ℕ) (k : CardClass) : Type 0 where
    pub name : List ℕ
    pub class : Class
    pub there : class_named (world_together packages) name ≡ Some class
    pub is_one : k ≡ class_together packages name
    pub below : Below (world_together packages) y name

  -- What a look through classes on the card comes to, where an object is asked for a method: none of those that are
  -- interfaces has it by token, or one that stands at or above a class has it.
  pub data Scanned (on : Option CardClass) (id : MemberId) (y : List ℕ) (ks : List CardClass) : Selection → Type 0 where
    none_has : ((z : List ℕ) (i : Class) → class_named (world_together packages) z ≡ Some i → is_interface i.flags
        ≡ true
        → is_in (class_together packages z) ks ≡ true
        → interface_token (loaded_together packages) (class_together packages z) id ≡ None) → Scanned on id y ks
        NotFound
    one_has : (z : List ℕ) (i : Class) → class_named (world_together packages) z ≡ Some i → is_interface i.flags ≡ true
        → Below (world_together packages) y z → (t : ℕ)
        → interface_token (loaded_together packages) (class_together packages z) id ≡ Some t
        → Scanned on id y ks (dispatched_interface (loaded_together packages) on (class_together packages z) t)

module _ (packages : List Package) (is : SelectTogether packages) (one : Package) (leads : slice_get packages 0 ≡ Some
    one) where
  abbrev l : Loaded
  l = loaded_together packages

  abbrev w : List Class
  w = world_together packages

  steps : SaysSteps w (naming_at (naming_together packages) 0)
  steps = says_steps packages is.linked one leads is.supers

  -- java/lang/Object
  pub object_is : object_class l ≡ Some (class_together packages object)
  object_is = let s = steps in s.object_class

  pub object_named : (o : Class) × (class_named w object ≡ Some o)
  object_named = let s = steps in class_there w object s.object_there

  -- no class has an array's name
  no_array : (x : List ℕ) (c : Class) → class_named w x ≡ Some c → starts 91 x ≡ false
  no_array x c named = let s = steps in s.no_array x (ap is_some named)

  pub receiver_is : (x : List ℕ) (c : Class) → class_named w x ≡ Some c → receiver x ≡ x
  receiver_is x c named = receiver_class x (no_array x c named)

  go : (a b : CardClass) → IsAtOrAbove l a b → (y x : List ℕ) (c : Class) → class_named w x ≡ Some c
      → a ≡ class_together packages x → Below w y x → Over packages y b
  go a b itself y x c named same way = record { name = x; class = c; there = named; is_one = same; below = way }
  go a b (above.upwards {b = m} direct more) y x c named same way =
      let s = steps in
      let r = s.down x c m named (ap (λ q. is_in m (supers l q)) (sym same) ∙ direct) in
      let k = class_there w r.name r.there in
      go m b more y r.name k.0 k.1 (sym r.is) (below_on w y x r.name way (inr r.above))

  -- all that stands above a class there is one of the joint world
  pub over : (y : List ℕ) (c : Class) → class_named w y ≡ Some c → (k : CardClass)
      → is_in k (upwards l (class_together packages y)) ≡ true → Over packages y k
  over y c named k h = go (class_together packages y) k (told_above l (class_together packages y) k h) y y c named refl
      (inl refl)

  -- and what stands above it by name is there
  pub stands_over : (y z : List ℕ) (c d : Class) → class_named w y ≡ Some c → class_named w z ≡ Some d → Below w y z
      → is_in (class_together packages z) (upwards l (class_together packages y)) ≡ true
  stands_over y z c d named_y named_z way =
      kinds_together packages is.linked one leads is.supers (OfClass y) (OfClass z) (ap is_some named_y) (ap is_some
      named_z)
      ∙ below_type w y z (no_array z d named_z) (subst (λ x. Below w x z) (sym (receiver_is y c named_y)) way)

  -- ---- the first interface that has it

  module _ (kind_is : (z : List ℕ) (i : Class) → class_named w z ≡ Some i → card.is_interface l (class_together packages
      z) ≡ is_interface i.flags) (on : Option CardClass) (id : MemberId) (y : List ℕ) where
    scan : (ks : List CardClass) → ((k : CardClass) → is_in k ks ≡ true → Over packages y k)
        → Scanned packages on id y ks (through_first l on ks id)
    scan [] all = none_has (λ z i named it h. absurd (off h))
    scan (k ∷ ks) all = by (is_interface (let c = o.class in c.flags)) refl (scan ks (λ q h. all q (later_in q k ks h)))
      where
        o : Over packages y k
        o = all k (head_in k ks)

        kind : card.is_interface l k ≡ is_interface (let c = o.class in c.flags)
        kind = ap (card.is_interface l) o.is_one ∙ kind_is o.name o.class o.there

        -- the head is no interface, or has no such method
        passed : token_if_interface l k id ≡ None → ((z : List ℕ) (i : Class) → class_named w z ≡ Some i
            → is_interface i.flags ≡ true → class_together packages z ≡ k
            → interface_token l (class_together packages z) id ≡ None)
            → Scanned packages on id y ks (through_first l on ks id)
            → Scanned packages on id y (k ∷ ks) (through_first l on (k ∷ ks) id)
        passed none lacks rest = subst (Scanned packages on id y (k ∷ ks)) (sym (ap (λ q. through l on k q
            (through_first l on ks id)) none)) (more (through_first l on ks id) rest)
          where
            more : (v : Selection) → Scanned packages on id y ks v → Scanned packages on id y (k ∷ ks) v
            more v (none_has h) = none_has (λ z i named it there. ⊎_elim (λ same. lacks z i named it same)
                (λ later. h z i named it later) (first_or_later (class_together packages z) k ks there))
            more v (one_has z i named it way t found) = one_has z i named it way t found

        by : (b : Bool) → is_interface (let c = o.class in c.flags) ≡ b
            → Scanned packages on id y ks (through_first l on ks id)
            → Scanned packages on id y (k ∷ ks) (through_first l on (k ∷ ks) id)
        by false plain rest = passed (ap (λ b. if b then interface_token l k id else None) (kind ∙ plain))
            (λ z i named it same. absurd (off (sym (kind ∙ plain) ∙ ap (card.is_interface l) (sym same)
            ∙ kind_is z i named ∙ it))) rest
        by true face rest = split (interface_token l k id) refl
          where
            token_is : token_if_interface l k id ≡ interface_token l k id
            token_is = ap (λ b. if b then interface_token l k id else None) (kind ∙ face)

            split : (q : Option ℕ) → interface_token l k id ≡ q
                → Scanned packages on id y (k ∷ ks) (through_first l on (k ∷ ks) id)
            split None none = passed (token_is ∙ none) (λ z i named it same. ap (λ q. interface_token l q id) same
                ∙ none) rest
            split (Some t) found =
                subst (Scanned packages on id y (k ∷ ks)) (sym (ap (λ q. through l on k q (through_first l on ks id))
                (token_is ∙ found) ∙ ap (λ q. dispatched_interface l on q t) o.is_one))
                (one_has o.name o.class o.there face o.below t (ap (λ q. interface_token l q id) (sym o.is_one)
                ∙ found))

    pub scanned : (c : Class) → class_named w y ≡ Some c → Scanned packages on id y (upwards l (class_together packages
        y)) (through_first l on (upwards l (class_together packages y)) id)
    scanned c named = scan (upwards l (class_together packages y)) (over y c named)
