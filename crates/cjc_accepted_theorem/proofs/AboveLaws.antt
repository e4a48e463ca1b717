-- Methods of superclasses that instructions of a converted package call: their entries say what the class files say,
-- and what their tokens mean above the class that holds the code has code.
use Rattle.std.proofs.Common.{◌≡◌, ℕ, ◌-◌, refl, sym, ap, subst, ◌∙◌, inl, Bool, true, false, List, [], ◌∷◌, length}
use Rattle.std.specs.Prelude.{◌&&◌, ◌||◌, not, Option, Some, None, option_and_then, option_map, is_some, slice_get}
use Rattle.std.specs.Prelude.{unwrap_or, if◌then◌else◌}
use Rattle.cjc_verified_proof.specs.Bytecode.declared.insn.JOp.TheVariants as jop
use Rattle.cjc_verified_proof.specs.Bytecode.declared.method_code.MethodCode.{MethodCode}
use Rattle.cjc_verified_proof.specs.Bytes.AccessFlags.{is_abstract, is_interface, is_private}
use Rattle.cjc_verified_proof.specs.Bytes.declared.fault.MemberId.{MemberId}
use Rattle.cjc_verified_proof.proofs.BytesBools.{or_right}
use Rattle.cjc_verified_proof.proofs.BytesPlain.{same_some}
use Rattle.cjc_verified_proof.specs.CardSemantics.Bytecode.Machine.{Start}
use Rattle.cjc_verified_proof.specs.CardSemantics.Machine.Classes.{Own}
use Rattle.cjc_verified_proof.specs.CardSemantics.Machine.Dispatch.{At, Open, Outward, above, dispatched, tower}
use Rattle.cjc_verified_proof.specs.CardSemantics.Machine.Methods.{Code, start_of}
use Rattle.cjc_verified_proof.specs.CardSemantics.Machine.Operations.{token_of}
use Rattle.cjc_verified_proof.specs.ClassFile.declared.tree.ClassTree.{ClassTree}
use Rattle.cjc_verified_proof.specs.Components.Descriptor.{method_in}
use Rattle.cjc_verified_proof.specs.Components.Methods.{method_offset}
use Rattle.cjc_verified_proof.specs.Components.Names.{class_at, class_ref, names, virtual_token}
use Rattle.cjc_verified_proof.specs.Components.Package.{Package, world}
use Rattle.cjc_verified_proof.specs.JvmSemantics.Linked.{Method}
use Rattle.cjc_verified_proof.specs.JvmSemantics.OnePackage.{ResolvedMember, is_constructor, is_initialiser, method_hit}
use Rattle.cjc_verified_proof.specs.JvmSemantics.OnePackage.{of_class}
use Rattle.cjc_verified_proof.specs.List.Listed.{ListTree}
use Rattle.cjc_verified_proof.specs.NCode.ByLabel.{OnSuper}
use Rattle.cjc_verified_proof.specs.NCode.Lowering.Naming.{Holds, Naming}
use Rattle.cjc_verified_proof.specs.NCode.Lowering.Placed.{Placed}
use Rattle.cjc_verified_proof.specs.NCode.declared.narrow.PoolKey.{PoolKey}
use Rattle.cjc_verified_proof.specs.NCode.declared.narrow.PoolKey.TheVariants as keys
use Rattle.cjc_verified_proof.specs.Narrow.Rows.Resolved.{method_found, resolution, special_by}
use Rattle.cjc_narrow.specs.Pairs.Roles.{with_pairs}
use Rattle.cjc_verified_proof.specs.TokenProof.Calls.Dispatching.{selection_of}
use Rattle.cjc_verified_proof.specs.TokenProof.Calls.Reaching.{BeginsAtOffsets}
use Rattle.cjc_verified_proof.specs.TokenProof.Calls.Selecting.{signature}
use Rattle.cjc_verified_proof.specs.TokenProof.Components.Methods.{HasMethods}
use Rattle.cjc_verified_proof.specs.TokenProof.Tables.Loading.{loaded, naming}
use Rattle.cjc_verified_proof.specs.TokenProof.WrittenCalls.Calls.{ExportsKeep, IsNamed, KeepsSubtypes, KeepsTokens}
use Rattle.cjc_verified_proof.specs.TokenProof.WrittenCalls.Calls.{on_super}
use Rattle.cjc_token_proof.proofs.WrittenCalls.Reached.{agrees, super_class, super_says}
use Rattle.cjc_token_proof.specs.Subset.Members as subset
use Rattle.cjc_token_proof.specs.Subset.Names.{is_bodiless, is_unfit_super}
use Rattle.cjc_verified_proof.proofs.HoldsLaws.{selection_holds}
use Rattle.cjc_verified_proof.proofs.TokenProofAbove.{says_kinds}
use Rattle.cjc_verified_proof.proofs.TokenProofWrittenCallsFacts.{Facts}
use Rattle.cjc_verified_proof.proofs.TokenProofWrittenCallsTowers.{class_stands}
use Rattle.cjc_verified_proof.proofs.WorldCycles.{class_named-name}
use Rattle.cjc_verified_proof.proofs.WorldProofTypes.{receiver_class as receiver_itself}
use Rattle.cjc_verify.specs.ClassTypes.{class_type}
use Rattle.cjc_verified_proof.specs.Verify.Described.{described_spots}
use Rattle.cjc_verified_proof.specs.Verify.Named.{is_abstract_selection, names_abstract_above, super_selection}
use Rattle.cjc_verified_proof.specs.Verify.Pairs.{Pair}
use Rattle.cjc_verified_proof.specs.World.Classes.{Class, Member, class_at as class_numbered, class_named, declared}
use Rattle.cjc_verified_proof.specs.World.Lookup.{first, own_method, receiver, selected}
use Rattle.cjc_verified_proof.specs.World.Order.{class_order, methods_of_class}
use Rattle.cjc_verified_proof.specs.World.Supertypes.{is_below, line}
use Rattle.cjc_verified_proof.specs.World.declared.found.Found.{Found}
use Rattle.cjc_verified_proof.specs.WorldProof.Calls.Solid.{IsSolid}
use Rattle.cjc_check_proof.specs.Classes.Premises.{TypesAreKnown}
use Rattle.cjc_check_proof.specs.Types.Flow.{Body}
use Rattle.cjc_check_proof.specs.Types.Rules.{names_private, receiver_class}
use Rattle.cjc_narrow_proof.specs.Laws.Unbroken.{IsInsnOf, KeepsNames}
use Rattle.cjc_token_proof.specs.Subset.Ints.{works_on_int}
use Rattle.cjc_narrow_proof.proofs.LawsLaws.Own.{class_by_name}
use Rattle.cjc_accepted_proof.specs.Beside.{Beside, body_by_name, names_in}
use Rattle.cjc_accepted_proof.specs.Carded.{EntriesAreNamed}
use Rattle.cjc_accepted_proof.specs.Coded.{card_type, is_of}
use Rattle.cjc_accepted_proof.specs.Frames.{MethodFits, PassesFor, SubtypesAgree}
use Rattle.cjc_accepted_proof.specs.Served.{CallServed, entry_for, type_for}
use Rattle.cjc_accepted_proof.specs.Served as serves
use Rattle.cjc_accepted_proof.specs.Written.{written_pair}
use Rattle.cjc_theorem.proofs.AlikeLaws.MetLaws.KeySources.{Calls_method, IsMet, called}
use Rattle.cjc_theorem.proofs.AlikeLaws.MetLaws.KeySources as sources
use Rattle.cjc_theorem.specs.LowerJudge.Rules.{settings_of}
use Rattle.cjc_shape_proof.proofs.WrittenLaws.Checked.{files_sound, own_names, own_solid}
use Rattle.cjc_theorem.specs.ShapeProof.Written.Checked.{IsOfFiles}
use Rattle.cjc_theorem.specs.VTable.Calls.{is_special}
use Rattle.cjc_theorem.specs.VTable.Laws.{itself, selection}
use Rattle.cjc_verified_proof.specs.Tokens.Members.{Signature}
use Rattle.cjc_accepted_theorem.specs.Begins.{Begins}
use Rattle.cjc_accepted_theorem.specs.ExportsHaveCode.{ExportsHaveCode}
use Rattle.cjc_accepted_theorem.specs.NamesDesc.{NamesItsDesc}
use Rattle.cjc_accepted_theorem.proofs.AbstractLaws.{IsConcrete, begins_whole, foot_of}
use Rattle.cjc_accepted_theorem.proofs.FixedLaws.{private_is}
use Rattle.cjc_accepted_theorem.proofs.OutwardLaws.{outward_whole}
use Rattle.cjc_accepted_theorem.proofs.PassedLaws.{class_passes}
use Rattle.cjc_accepted_theorem.proofs.SentLaws.{word_of}
use Rattle.cjc_accepted_theorem.proofs.TypedLaws.{EntrySays, entry_says, method_fits}
use Rattle.cjc_accepted_theorem.proofs.TypesLaws.{special_key}

-- what is selected above a class, where that is there and is no abstract method
record IsSelected (w : List Class) (x : List ℕ) (s : Signature) : Type 0 where
  place : Found
  found : selection w x s ≡ Some place
  hit : ResolvedMember
  is_hit : method_hit w place ≡ Some hit
  is_concrete : is_abstract hit.flags ≡ false

selected_whole : (w : List Class) (super : List ℕ) (id : MemberId) → receiver super ≡ super
    → is_bodiless (subset.hit w false (selected w super id.name id.desc)) ≡ false → IsSelected w super (signature id)
unfolding selected subset.hit
selected_whole w super id itself_there e = by (selected w super id.name id.desc) refl e
  where
    at : (f : Found) → selection w super (signature id) ≡ Some f → (c : Class) (o : Option Member) → method_hit w f
        ≡ option_map (λ (m : Member). record { owner = c; flags = m.flags }) o
        → is_bodiless (option_map (λ (m : Member). record { owner = c; flags = m.flags }) o) ≡ false
        → IsSelected w super (signature id)
    at f g c None h e = absurd cc
    at f g c (Some m) h e = record {
      place = f;
      found = g;
      hit = record { owner = c; flags = m.flags };
      is_hit = h;
      is_concrete = e;
    }

    of_class_one : (f : Found) → selection w super (signature id) ≡ Some f → (o : Option Class)
        → class_numbered w f.imported f.class ≡ o → is_bodiless (subset.hit_of false f o) ≡ false
        → IsSelected w super (signature id)
    of_class_one f g None h e = absurd cc
    of_class_one f g (Some c) h e = at f g c (slice_get c.methods (f.member - length c.fields))
        (ap (option_and_then (λ (v : Class). option_map (λ (m : Member). record { owner = v; flags = m.flags })
        (slice_get v.methods (f.member - length v.fields)))) h) e

    by : (o : Option Found) → selected w super id.name id.desc ≡ o → is_bodiless (subset.hit w false o) ≡ false
        → IsSelected w super (signature id)
    by None g e = absurd cc
    by (Some f) g e = of_class_one f (ap (λ y. first (own_method true id.name id.desc) (line w y)) (sym itself_there)
        ∙ g) (class_numbered w f.imported f.class) refl e

module _ (list : ListTree) (codes : List MethodCode) (p : Package) (is : IsOfFiles list codes p)
    (subtypes : SubtypesAgree (card_type p) (is_of p) (world p)) (described : described_spots (written_pair p) ≡ [])
    (named : EntriesAreNamed p) (known : TypesAreKnown p)
    (met : (key : PoolKey) → IsMet p.files codes key → NamesItsDesc p key) (has : HasMethods p) (facts : Facts p)
    (begin : (k : ℕ) (d : Class) → slice_get (class_order (world p)) k ≡ Some d → is_interface d.flags ≡ false
    → (j : ℕ) (f : Found) → slice_get (methods_of_class (world p) d) j ≡ Some f → Begins p d f)
    (coded : ExportsHaveCode p) (keep : ExportsKeep p) (climbs : KeepsSubtypes (world p))
    (tokens : KeepsTokens (world p)) (place : Method → Placed)
    (begins : BeginsAtOffsets p.files (world p) (naming p) (method_offset p) place)
    (begun : (d : Class) → class_named (world p) d.name ≡ Some d → d.is_imported ≡ false → is_interface d.flags ≡ false
    → (j : ℕ) (f : Found) → slice_get (methods_of_class (world p) d) j ≡ Some f → (s : Start Code)
    × (start_of (loaded p) 0 (method_offset p f) ≡ Some s) × (s.is_abstract ≡ true → (let m = method_in (world p) d
    f.member in is_abstract m.flags ≡ true)))
    (supers : (class : ClassTree) (id : MemberId) → IsInsnOf p.files codes class (jop.Call 0xB7 id)
    → is_interface class.flags ≡ false → is_constructor id.name ≡ false → (hit : ResolvedMember)
    → method_found (world p) id ≡ Some hit → is_private hit.flags ≡ false
    → IsNamed (world p) (OnSuper (of_class class.name id))) where
  abbrev w : List Class
  w = world p

  abbrev q : Pair
  q = written_pair p

  abbrev n : Naming
  n = naming p

  abbrev u : KeepsNames list.name p.files codes (settings_of list)
  u = own_names list codes p is.checked

  abbrev solid : IsSolid p.files
  solid = own_solid list codes p is.checked

  module _ (class : ClassTree) (id : MemberId) (of : IsInsnOf p.files codes class (jop.Call 0xB7 id))
      (class_here : is_interface class.flags ≡ false) where
    abbrev m : MemberId
    m = of_class class.name id

    abbrev call : Calls_method list codes p is class 0xB7 id
    call = called list codes p is class 0xB7 id of

    abbrev flags : ℕ
    flags = let c = call in let a = c.at in let x = a.member in x.flags

    abbrev number : ℕ
    number = let o = of in let code = o.code in code.class

    holder : class_named w class.name ≡ Some (declared number class)
    holder = let v = u in class_by_name p.files list.name v.listed v.world number class (let o = of in let x =
        o.of_package in x.is_class)

    module _ (above_one : (is_constructor id.name || is_private flags) ≡ false) where
      apart : (is_constructor id.name ≡ false) × (is_private flags ≡ false)
      apart = by (is_constructor id.name) (is_private flags) above_one
        where
          by : (a b : Bool) → (a || b) ≡ false → (a ≡ false) × (b ≡ false)
          by false false e = (refl, refl)
          by true b e = absurd cc
          by false true e = absurd cc

      plain_name : is_special (signature m) ≡ false
      plain_name = let c = call in let f = c.fits in either (is_constructor id.name) (is_initialiser id.name) apart.0
          f.no_initialiser
        where
          either : (a b : Bool) → a ≡ false → b ≡ false → (a || b) ≡ false
          either false false e f = refl
          either true b e f = absurd cc
          either false true e f = absurd cc

      fit : is_unfit_super w class id ≡ false
      fit = let c = call in last (is_constructor id.name) (is_private flags) (is_unfit_super w class id) apart.0
          apart.1 c.fits_class
        where
          last : (a b v : Bool) → a ≡ false → b ≡ false → (true && not a && not b && v) ≡ false → v ≡ false
          last false false v e f g = g
          last true b v e f g = absurd cc
          last false true v e f g = absurd cc

      -- 206: what is selected from the superclass
      chosen : (super : List ℕ) (d : Class) → class.superclass ≡ super → class_named w super ≡ Some d
          → IsSelected w super (signature m)
      chosen super d same there =
          let s = solid in
          selected_whole w super id (receiver_itself super (s.plain super d there)) (subst (λ y. is_bodiless (subset.hit
          w false (selected w y id.name id.desc)) ≡ false) same (or_right (not (is_below w class.superclass id.class))
          (is_bodiless (subset.hit w false (selected w class.superclass id.name id.desc))) fit))

      -- ---- what its token means

      -- a method that is selected has code
      selected_fine : (super : List ℕ) (d : Class) (there : class_named w super ≡ Some d)
          (here : is_interface d.flags ≡ false) → IsSelected w super (signature m) → (f : Found)
          → selection w super (signature m) ≡ Some f
          → is_abstract_selection q (selection_of n (method_offset p) (let s = class_stands p facts super d there here
          in s.foot) (signature m) f) ≡ false
      selected_fine super d there here sel f found = by f.imported refl
        where
          whole : (g : Found) → selection w super (signature m) ≡ Some g → IsConcrete p facts begun g
          whole g e = (sel.hit, ap (method_hit w) (same_some (sym e ∙ sel.found)) ∙ sel.is_hit, sel.is_concrete)

          by : (b : Bool) → f.imported ≡ b → is_abstract_selection q (selection_of n (method_offset p) (let s =
              class_stands p facts super d there here in s.foot) (signature m) f) ≡ false
          by true import =
              let s = class_stands p facts super d there here in
              let foot = foot_of p facts s.tower d there here in
              ap (λ b. is_abstract_selection q (if b then Outward (record {
                class = s.foot;
                name = id.name;
                desc = id.desc;
              }) else At 0 (method_offset p f))) import
              ∙ outward_whole p facts solid super s.foot s.tower foot.class foot.known foot.import (signature m)
              plain_name (λ g e. ap (λ (v : Found). v.imported) (same_some (sym e ∙ found)) ∙ import) whole
          by false own =
              let s = class_stands p facts super d there here in
              let c = call in
              let fits = c.fits in
              ap (λ b. is_abstract_selection q (if b then Outward (record {
                class = s.foot;
                name = id.name;
                desc = id.desc;
              }) else At 0 (method_offset p f))) own
              ∙ begins_whole p facts begun super (signature m) f (selection_holds p facts super d there here
              (signature m) fits.no_initialiser f found own) (whole f found)

      token_fine : IsNamed w (OnSuper m) → names_abstract_above q (class_ref p class.name) (virtual_token p m) ≡ false
      token_fine (on_super c d super there own here its super_is plain sought alike) =
          let kinds = says_kinds list.name p (files_sound list codes p is.checked) in
          let h = facts.own m.class c there own in
          let at : class_at p class.name ≡ Own 0 h.offset = ap (class_at p) (sym (class_named-name w m.class c there))
          ∙ h.on_card in
          let says = super_says p facts climbs tokens keep kinds place begins m c d super there own here its super_is
          plain sought alike in
          let super_here = super_class p facts climbs tokens keep kinds place begins m c d super there own here its
          super_is plain sought alike in
          let selections = agrees p facts climbs tokens keep kinds place begins super d super_is super_here in
          let file : class.superclass ∷ [] ≡ super ∷ [] = ap (λ (v : Class). v.supers) (same_some (sym holder ∙ there))
          ∙ its in
          let same : class.superclass ≡ super = cc in
          let sel = chosen super d same super_is in
          ap (λ o. is_abstract_selection q (super_selection (loaded p) (virtual_token p m) o)) (kinds.class_ref
          class.name (ap is_some there))
          ∙ ap (λ k. is_abstract_selection q (super_selection (loaded p) (virtual_token p m) (Some k))) at
          ∙ ap (λ k. is_abstract_selection q (dispatched (above (tower (loaded p) k)) (unwrap_or (token_of k
          (virtual_token p m)) (Open 0)))) (sym at)
          ∙ ap (λ t. is_abstract_selection q (dispatched t (n.dispatch_token m))) says.tables
          ∙ ap (λ t. is_abstract_selection q (dispatched (tower (loaded p) (class_at p super)) t)) says.same_token
          ∙ ap (is_abstract_selection q) (selections.virtual_call (of_class super m) d sel.place super_is itself
          says.token sel.found (says.found sel.place sel.found))
          ∙ selected_fine super d super_is super_here sel sel.place sel.found

      is_named : IsNamed w (OnSuper m)
      is_named = let c = call in supers class id of class_here apart.0 (record { owner = c.owner; flags = flags })
          (ap (option_and_then (method_hit w)) c.found ∙ c.hit) apart.1

      -- ---- calls

      receiver_is : (b : Body) → receiver_class w b 0xB7 id ≡ b.class
      receiver_is b =
          let c = call in
          let d = c.owner in
          let s = solid in
          let private = private_is list codes p is subtypes described named known met has facts begin coded id d
          c.place c.at c.found (s.numbered d.name d c.named) in
          by (is_constructor id.name) (names_private w id) (ap (λ v. is_constructor id.name || v) private ∙ above_one)
        where
          by : (c v : Bool) → (c || v) ≡ false → (if true && not c && not v then b.class else id.class) ≡ b.class
          by false false e = refl
          by true v e = absurd cc
          by false true e = absurd cc

      said : special_by class.name id (method_found w id) ≡ keys.Super m → NamesItsDesc p (keys.Super m)
      said key = subst (NamesItsDesc p) key (met (special_by class.name id (method_found w id)) (sources.of_special
          number class id holder class_here of))

      passes : (b : Body) → b.class ≡ class.name → PassesFor (card_type p) (is_of p) w (receiver_class w b 0xB7 id)
          (class_type (class_ref p class.name))
      passes b same = subst (λ x. PassesFor (card_type p) (is_of p) w x (class_type (class_ref p class.name)))
          (sym (receiver_is b ∙ same)) (class_passes list codes p is subtypes class.name class.name (declared
          number class) (declared number class) holder holder (inl refl))

      -- so its key is that of a method of the superclass
      key_is : special_by class.name id (method_found w id) ≡ keys.Super m
      key_is =
          let c = call in
          special_key list codes p is class id c ∙ ap (λ a. if a then keys.StaticMethod (of_class (let d = c.owner
          in d.name) id) else keys.Super m) above_one

      -- what its entry says, of whatever types
      pub above_entry : Holds (naming p) (keys.Super m)
          → (names_abstract_above q (class_ref p class.name) (virtual_token p m) ≡ false)
          × EntrySays p (keys.Super m) id.desc
          × ((b : Body) → b.class ≡ class.name → PassesFor (card_type p) (is_of p) w (receiver_class w b 0xB7 id)
          (class_type (class_ref p class.name)))
      above_entry held = (
        token_fine is_named,
        entry_says p described named known (keys.Super m) held id.desc (said key_is).0,
        passes,
      )

  -- a call of a method of a superclass in a method that is written, where its types are of one word
  pub above_served : (b : Beside) → (let class = b.class in is_interface class.flags ≡ false) → (id : MemberId)
      → IsInsnOf p.files codes b.class (jop.Call 0xB7 id) → works_on_int (jop.Call 0xB7 id) ≡ false
      → Holds (naming p) (keys.Super (of_class (let class = b.class in class.name) id))
      → (let r = names_in p b in r.special id) ≡ keys.Super (of_class (let class = b.class in class.name) id)
      → CallServed (card_type p) (is_of p) w q (names p) (names_in p b) (body_by_name b) 0xB7 id
  unfolding with_pairs resolution
  above_served b class_here id of free held key = by (is_constructor id.name || is_private (flags b.class id of
      class_here)) refl
    where
      told : (v : Bool) → (is_constructor id.name || is_private (flags b.class id of class_here)) ≡ v
          → special_by (let class = b.class in class.name) id (method_found w id)
          ≡ (if v then keys.StaticMethod (of_class (let c = call b.class id of class_here in let d = c.owner in d.name)
          id) else keys.Super (of_class (let class = b.class in class.name) id))
      told v e =
          let c = call b.class id of class_here in
          special_key list codes p is b.class id c ∙ ap (λ a. if a then keys.StaticMethod (of_class (let d = c.owner
          in d.name) id) else keys.Super (of_class (let class = b.class in class.name) id)) e

      by : (v : Bool) → (is_constructor id.name || is_private (flags b.class id of class_here)) ≡ v
          → CallServed (card_type p) (is_of p) w q (names p) (names_in p b) (body_by_name b) 0xB7 id
      by true e = (let clash : keys.StaticMethod (of_class (let c = call b.class id of class_here in let d = c.owner in
          d.name) id) ≡ keys.Super (of_class (let class = b.class in class.name) id) = sym (told true e) ∙ key in
          absurd cc)
      by false e =
          let class = b.class in
          let g = of_class class.name id in
          let entry = above_entry class id of class_here e held in
          serves.above (class_ref p class.name) (virtual_token p g) (ap (entry_for q (names p)) key ∙ held.there)
          entry.0 (subst (λ (k : PoolKey). MethodFits (card_type p) id (type_for q (names p) k)) (sym key)
          (method_fits p (keys.Super g) id entry.1 (word_of list codes p is subtypes described named known met class
          0xB7 id of free))) (entry.2 (body_by_name b) refl)
