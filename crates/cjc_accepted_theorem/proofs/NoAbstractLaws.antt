-- No class info of a converted package is of a class of which objects are made that has an abstract method.
use Rattle.std.proofs.Common.{◌≡◌, ⊎_elim, ℕ, suc, ◌+◌, refl, sym, ap, ◌∙◌, Bool, true, false, List}
use Rattle.std.proofs.Common.{[], ◌∷◌, map}
use Rattle.std.specs.Prelude.{◌||◌, not, Some, slice_get}
use Rattle.std.specs.List.{list_any, range_with_len}
use Rattle.cjc_verified_proof.specs.Bytes.AccessFlags.{is_abstract, is_interface}
use Rattle.cjc_verified_proof.proofs.BytesGets.{mapped_at}
use Rattle.cjc_verified_proof.proofs.BytesPlain.{same_some}
use Rattle.cjc_verified_proof.proofs.DescribedLaws.{either_part}
use Rattle.cjc_verified_proof.specs.CardSemantics.Machine.Classes.{Info, IsClass, IsInterface, Own, info_size}
use Rattle.cjc_verified_proof.specs.CardSemantics.Machine.Classes.{offset_from}
use Rattle.cjc_verified_proof.specs.CardSemantics.Machine.Classes as card
use Rattle.cjc_verified_proof.specs.CardSemantics.Machine.Dispatch.{Hidden, Open, Token, dispatched, dispatched_hidden}
use Rattle.cjc_verified_proof.specs.CardSemantics.Machine.Dispatch.{dispatched_open, tower}
use Rattle.cjc_verified_proof.specs.CheckRules.Spots.{beside, in_info}
use Rattle.cjc_verified_proof.specs.CheckRules.declared.spot.ComponentPlace.{ComponentPlace}
use Rattle.cjc_verified_proof.specs.Components.Package.{Package, world}
use Rattle.cjc_verified_proof.specs.TokenProof.Tables.Infos.{HasInfo}
use Rattle.cjc_verified_proof.specs.TokenProof.Tables.Loading.{components, loaded, naming, part}
use Rattle.cjc_verified_proof.specs.TokenProof.Tables.Sound.{IsSound}
use Rattle.cjc_verified_proof.specs.Verify.Infos.{abstract_spots, all_tokens, has_abstract_method, infos}
use Rattle.cjc_verified_proof.specs.Verify.Named.{is_abstract_selection, is_unmade}
use Rattle.cjc_verified_proof.specs.Verify.Pairs.{Pair}
use Rattle.cjc_verified_proof.specs.World.Classes.{Class, class_named}
use Rattle.cjc_verified_proof.specs.World.Order.{class_order}
use Rattle.cjc_theorem.proofs.VTableFiled.{get-has}
use Rattle.cjc_verified_proof.proofs.TokenProofTests.{none_in_both, passes}
use Rattle.cjc_verified_proof.proofs.TokenProofClean.{own_name}
use Rattle.cjc_verified_proof.proofs.TokenProofInfos.{numbers_named}
use Rattle.cjc_verified_proof.proofs.TokenProofNamed.{has_info}
use Rattle.cjc_verified_proof.proofs.TokenProofOrder.{order_in, own_names}
use Rattle.cjc_accepted_proof.specs.Accepted.{HasNoAbstract}
use Rattle.cjc_accepted_proof.specs.Written.{written_pair}

-- nothing is broken where nothing is in any info at its offset
none_beside : (broken : ℕ → Info → Class → List ComponentPlace) (at : ℕ) (is : List Info) (cs : List Class)
    → ((k : ℕ) (i : Info) (c : Class) (o : ℕ) → slice_get is k ≡ Some i → slice_get cs k ≡ Some c → offset_from at is k
    ≡ Some o → broken o i c ≡ []) → beside info_size broken at is cs ≡ []
unfolding beside
none_beside broken at [] [] each = refl
none_beside broken at [] (c ∷ cs) each = refl
none_beside broken at (i ∷ is) [] each = refl
none_beside broken at (i ∷ is) (c ∷ cs) each = none_in_both (each 0 i c at refl refl refl) (none_beside broken (at
    + info_size i) is cs (λ k j d o e f g. each (suc k) j d o e f g))

none_any : {A : Type 0} (test : A → Bool) (xs : List A) → ((k : ℕ) (x : A) → slice_get xs k ≡ Some x → test x ≡ false)
    → list_any test xs ≡ false
none_any test [] each = refl
none_any test (x ∷ xs) each = ap (λ b. b || list_any test xs) (each 0 x refl) ∙ none_any test xs (λ k y e. each (suc k)
    y e)

module _ (list : List ℕ) (p : Package) (sound : IsSound list p.files)
    (open_fine : (x : List ℕ) (c : Class) → class_named (world p) x ≡ Some c → c.is_imported ≡ false → is_interface
    c.flags ≡ false → is_abstract c.flags ≡ false → (t : ℕ) → is_abstract_selection (written_pair p) (dispatched_open
    (tower (loaded p) (let n = naming p in n.class x)) t) ≡ false)
    (hidden_fine : (x : List ℕ) (c : Class) → class_named (world p) x ≡ Some c → c.is_imported ≡ false → is_interface
    c.flags ≡ false → is_abstract c.flags ≡ false → (t : ℕ) → is_abstract_selection (written_pair p) (dispatched_hidden
    (tower (loaded p) (let n = naming p in n.class x)) 0 t) ≡ false) where
  abbrev w : List Class
  w = world p

  abbrev q : Pair
  q = written_pair p

  module _ (c : Class) (h : HasInfo p c) (named : class_named w c.name ≡ Some c) (own : c.is_imported ≡ false)
      (plain : is_interface c.flags ≡ false) (made : is_abstract c.flags ≡ false) where
    token_fine : (token : Token) (k : ℕ) → slice_get all_tokens k ≡ Some token → is_abstract_selection q (dispatched
        (tower (loaded p) (Own 0 h.offset)) token) ≡ false
    token_fine token k e = ⊎_elim
        (λ a. (
        let r = mapped_at Open (range_with_len 0 128) k token a in
        ap (λ v. is_abstract_selection q (dispatched (tower (loaded p) (Own 0 h.offset)) v)) (sym r.2)
        ∙ ap (λ v. is_abstract_selection q (dispatched_open (tower (loaded p) v) r.0)) (sym h.on_card)
        ∙ open_fine c.name c named own plain made r.0
        ))
        (λ b. (
        let r = mapped_at (Hidden 0) (range_with_len 0 128) b.0 token b.1 in
        ap (λ v. is_abstract_selection q (dispatched (tower (loaded p) (Own 0 h.offset)) v)) (sym r.2)
        ∙ ap (λ v. is_abstract_selection q (dispatched_hidden (tower (loaded p) v) 0 r.0)) (sym h.on_card)
        ∙ hidden_fine c.name c named own plain made r.0
        ))
        (either_part (map Open (range_with_len 0 128)) (map (Hidden 0) (range_with_len 0 128)) k token e)

    class_fine : has_abstract_method q h.offset ≡ false
    class_fine = none_any (λ (token : Token). is_abstract_selection q (dispatched (tower (loaded p) (Own 0 h.offset))
        token)) all_tokens (λ k token e. token_fine token k e)

  one_info : (k : ℕ) (i : Info) (c : Class) (o : ℕ) → slice_get (let v = components p in infos v.class) k ≡ Some i
      → slice_get (class_order w) k ≡ Some c → offset_from 2 (let v = components p in infos v.class) k ≡ Some o
      → abstract_spots q o i c ≡ []
  one_info k (IsInterface i) c o e f g = refl
  one_info k (IsClass x) c o e f g =
      let has = get-has c (class_order w) k f in
      let kind = order_in list p.files sound c has in
      let h = has_info list p sound c kind.0 kind.1 in
      let apart = own_names list p.files sound in
      let number : h.number ≡ k = same_some (sym h.named ∙ numbers_named p c.name ∙ apart k c f) in
      let offset : h.offset ≡ o = same_some (sym h.at ∙ ap (offset_from 2 (card.infos (part p))) number ∙ g) in
      passes (is_unmade c.flags || not (has_abstract_method q o)) (in_info 6 o) (by (is_interface c.flags)
      (is_abstract c.flags) (λ flat made. ap (has_abstract_method q) (sym offset) ∙ class_fine c h (own_name list
      p.files
      sound c kind.0) kind.1 flat made) refl refl)
    where
      by : (a b : Bool) → (is_interface c.flags ≡ false → is_abstract c.flags ≡ false → has_abstract_method q o ≡ false)
          → is_interface c.flags ≡ a → is_abstract c.flags ≡ b → ((a || b) || not (has_abstract_method q o)) ≡ true
      by true b fine d e = refl
      by false true fine d e = refl
      by false false fine d e = ap not (fine d e)

  pub no_abstract : HasNoAbstract p
  no_abstract = none_beside (abstract_spots q) 2 (let v = components p in infos v.class) (class_order w) one_info
