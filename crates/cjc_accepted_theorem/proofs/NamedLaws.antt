-- Entries of the constant pool name methods of their keys' descriptors: those of virtual methods, of methods of
-- superclasses, and of static methods and constructors of imported classes.
use Rattle.std.proofs.Common.{◌≡◌, ℕ, suc, ◌+◌, ◌==◌, refl, sym, ap, subst, ◌∙◌, arith, Bool, true, false, List}
use Rattle.std.proofs.Common.{[], ◌∷◌}
use Rattle.std.specs.Prelude.{◌&&◌, cond, Some, if◌then◌else◌, option_and_then, option_map, slice_get}
use Rattle.std.specs.Prelude.{unwrap_or}
use Rattle.std.specs.List.{find}
use Rattle.cjc_verified_proof.specs.Bytecode.declared.method_code.MethodCode.{MethodCode}
use Rattle.cjc_verified_proof.specs.Bytes.AccessFlags.{is_interface}
use Rattle.cjc_verified_proof.specs.Bytes.declared.fault.MemberId.{MemberId}
use Rattle.cjc_verified_proof.specs.CapRead.declared.tree.ClassRef.TheVariants.{Inside, Outside}
use Rattle.cjc_verified_proof.specs.CapRead.declared.tree.PoolEntry.TheVariants.{StaticMethodref, SuperMethodref}
use Rattle.cjc_verified_proof.specs.CapRead.declared.tree.PoolEntry.TheVariants.{VirtualMethodref}
use Rattle.cjc_verified_proof.specs.CardSemantics.Machine.Dispatch.{exported_line}
use Rattle.cjc_verified_proof.specs.CardSemantics.Machine.Loaded.{OfFile}
use Rattle.cjc_verified_proof.specs.CardSemantics.Machine.Operations.{Outer, method_through, outer, unbound_of}
use Rattle.cjc_verified_proof.specs.CardSemantics.Machine.Operations as card
use Rattle.cjc_verified_proof.specs.Components.Class.{superclass}
use Rattle.cjc_verified_proof.specs.CapRead.declared.tree.StaticRef.TheVariants as statics
use Rattle.cjc_verified_proof.specs.Components.Names.{class_ref, fixed_as, member_ref, member_token, method_ref}
use Rattle.cjc_verified_proof.specs.Components.Names.{names}
use Rattle.cjc_verified_proof.specs.Components.Names.{offset_where, virtual_token}
use Rattle.cjc_verified_proof.specs.Components.Package.{Package, world}
use Rattle.cjc_verified_proof.specs.Components.Paired.Naming.{files_from}
use Rattle.cjc_verified_proof.specs.ClassFile.declared.tree.ClassTree.{ClassTree}
use Rattle.cjc_verified_proof.specs.ExportFile.Members.{is_unbound}
use Rattle.cjc_verified_proof.specs.ExportFile.declared.tree.ExportClass.{ExportClass}
use Rattle.cjc_verified_proof.specs.ExportFile.declared.tree.ExportMethod.{ExportMethod}
use Rattle.cjc_verified_proof.specs.JvmSemantics.OnePackage.{of_class}
use Rattle.cjc_verified_proof.specs.List.Listed.{ListTree}
use Rattle.cjc_verified_proof.specs.NCode.Lowering.Naming.{entry_of}
use Rattle.cjc_verified_proof.specs.NCode.declared.narrow.PoolKey.TheVariants as keys
use Rattle.cjc_verified_proof.specs.TokenProof.Calls.Selecting.{signature}
use Rattle.cjc_verified_proof.specs.TokenProof.Tables.Loading.{loaded}
use Rattle.cjc_verified_proof.specs.TokenProof.Tables.Sound.{IsSound}
use Rattle.cjc_verified_proof.specs.TokenProof.WrittenCalls.Calls.{IsNamed, KeepsTokens, on_object, on_super}
use Rattle.cjc_verified_proof.specs.Verify.Named.{first_of, line_found, method_desc, named_desc, own_virtual_desc}
use Rattle.cjc_verified_proof.specs.Verify.Named.{static_method, virtual_desc_in}
use Rattle.cjc_verified_proof.specs.Verify.Named as named
use Rattle.cjc_verified_proof.specs.Verify.Pairs.{Pair}
use Rattle.cjc_verified_proof.specs.World.Classes.{Class, class_named}
use Rattle.cjc_verified_proof.specs.World.Lookup.{find_method}
use Rattle.cjc_verified_proof.specs.World.Supertypes.{Lists, foremost}
use Rattle.cjc_verified_proof.proofs.BytesPlain.{same_some}
use Rattle.cjc_verified_proof.proofs.WorldCycles.{class_named-name}
use Rattle.cjc_verified_proof.specs.ExportFile.Supers.{virtual_method}
use Rattle.cjc_verified_proof.specs.NCode.ByLabel.{OnObject, OnSuper}
use Rattle.cjc_verified_proof.specs.Tokens.Lines.{line_of}
use Rattle.cjc_theorem.specs.VTable.Laws.{below, itself}
use Rattle.cjc_theorem.specs.VTable.Meant.{PackageTokensMean, TokensMean}
use Rattle.cjc_verified_proof.proofs.WorldProofOwn.{IsAt}
use Rattle.cjc_verified_proof.proofs.TokenProofWrittenCallsFacts.{Facts}
use Rattle.cjc_verified_proof.proofs.TokenProofWrittenCallsTables.{import_at}
use Rattle.cjc_shape_proof.proofs.WrittenLaws.Checked.{files_sound}
use Rattle.cjc_theorem.specs.ShapeProof.Written.Checked.{IsOfFiles}
use Rattle.cjc_theorem.proofs.AlikeLaws.MetLaws.Own.{Names_method}
use Rattle.cjc_theorem.proofs.AlikeLaws.NamedLaws.Abroad.{fixed_abroad}
use Rattle.cjc_accepted_proof.proofs.CheckProofSupers.{entry_there}
use Rattle.cjc_accepted_proof.specs.Written.{written_pair}
use Rattle.cjc_accepted_theorem.proofs.FieldsLaws.{class_there}
use Rattle.cjc_accepted_theorem.proofs.VirtualsLaws.{HasToken, has_token, place}

-- a method that a static reference finds by its token among these
pub record IsListed (ms : List ExportMethod) (token : ℕ) (id : MemberId) : Type 0 where
  pub place : ℕ
  pub method : ExportMethod
  pub there : slice_get ms place ≡ Some method
  pub found : find (λ (m : ExportMethod). (m.token == token) && is_unbound m.flags m.name) ms ≡ Some method
  pub name : method.name ≡ id.name
  pub desc : method.desc ≡ id.desc

-- it has the name and the descriptor of what the machine finds
unbound_listed : (ms : List ExportMethod) (t : ℕ) (class : List ℕ) (id : MemberId) → option_map (outer true class)
    (unbound_of ms t) ≡ Some (Outer true id) → IsListed ms t id
unbound_listed [] t class id e = absurd cc
unbound_listed (x ∷ ms) t class id e = by (is_unbound x.flags x.name) (x.token == t) refl refl e (unbound_listed ms t
    class id)
  where
    test : ExportMethod → Bool
    test m = (m.token == t) && is_unbound m.flags m.name

    Rest : Type 0
    Rest = option_map (outer true class) (unbound_of ms t) ≡ Some (Outer true id) → IsListed ms t id

    later : (b : Bool) → ((x.token == t) && is_unbound x.flags x.name) ≡ b → b ≡ false → IsListed ms t id → IsListed (x
        ∷ ms) t id
    later b f g r = record {
      place = suc r.place;
      method = r.method;
      there = r.there;
      found = ap (λ c. cond c (Some x) (find (λ (m : ExportMethod). (m.token == t) && is_unbound m.flags m.name) ms)) (f
          ∙ g) ∙ r.found;
      name = r.name;
      desc = r.desc;
    }

    by : (a b : Bool) → is_unbound x.flags x.name ≡ a → (x.token == t) ≡ b → option_map (outer true class) (if a && b
        then Some x else unbound_of ms t) ≡ Some (Outer true id) → Rest → IsListed (x ∷ ms) t id
    by true true f g h rest =
        let same : record { class = class; name = x.name; desc = x.desc } ≡ id = cc in
        record {
          place = 0;
          method = x;
          there = refl;
          found = ap (λ c. cond c (Some x) (find (λ (m : ExportMethod). (m.token == t) && is_unbound m.flags m.name)
              ms)) (ap (λ c. c && is_unbound x.flags x.name) g ∙ f);
          name = ap (λ (v : MemberId). v.name) same;
          desc = ap (λ (v : MemberId). v.desc) same;
        }
    by true false f g h rest = later false (ap (λ c. c && is_unbound x.flags x.name) g) refl (rest h)
    by false true f g h rest = later false (ap (λ c. c && is_unbound x.flags x.name) g ∙ f) refl (rest h)
    by false false f g h rest = later false (ap (λ c. c && is_unbound x.flags x.name) g) refl (rest h)

module _ (list : List ℕ) (p : Package) (sound : IsSound list p.files) (facts : Facts p) (tokens : KeepsTokens (world p))
    (mean : TokensMean (world p)) (mean_here : PackageTokensMean (world p)) where
  abbrev w : List Class
  w = world p

  abbrev q : Pair
  q = written_pair p

  pub virtual_named : (m : MemberId) → IsNamed w (OnObject m) → named_desc q (entry_of (names p) (keys.Virtual m))
      ≡ Some m.desc
  virtual_named m (on_object d known plain none sought) = by d.is_imported refl
    where
      t : HasToken list p sound facts tokens mean mean_here m d known
      t = has_token list p sound facts tokens mean mean_here m d known plain sought

      number : virtual_token p m ≡ t.number
      number = t.is (line_of w m.class) refl (λ k e. place list p sound facts tokens mean mean_here m.class d
          (signature m) known plain ∙ e) (λ k e. e)

      by : (b : Bool) → d.is_imported ≡ b → named_desc q (entry_of (names p) (keys.Virtual m)) ≡ Some m.desc
      by false own =
          let h = facts.own m.class d known own in
          let ref : class_ref p m.class ≡ Inside h.offset = ap (class_ref p) (sym (class_named-name w m.class d known))
          ∙ h.ref in
          ap (λ r. named_desc q (VirtualMethodref r (virtual_token p m))) ref
          ∙ ap (λ k. named_desc q (VirtualMethodref (Inside h.offset) k)) number
          ∙ ap (option_and_then (own_virtual_desc q t.number)) (class_there p d h) ∙ t.own own
      by true import =
          let h = facts.file m.class d known import in
          let token = (let v = h.entry in v.token) in
          let ref : class_ref p m.class ≡ Outside h.file token = ap (class_ref p) (sym (class_named-name w m.class d
          known)) ∙ h.ref in
          ap (λ r. named_desc q (VirtualMethodref r (virtual_token p m))) ref
          ∙ ap (λ k. named_desc q (VirtualMethodref (Outside h.file token) k)) number
          ∙ ap (named.listed_virtual_desc q t.number) (entry_there list p sound d h) ∙ t.listed import

  pub super_named : (m : MemberId) → IsNamed w (OnSuper m) → named_desc q (entry_of (names p) (keys.Super m))
      ≡ Some m.desc
  super_named m (on_super c d super known own plain supers super_is none sought alike) =
      let h = facts.own m.class c known own in
      let ref : class_ref p m.class ≡ Inside h.offset = ap (class_ref p) (sym (class_named-name w m.class c known))
      ∙ h.ref in
      ap (λ r. named_desc q (SuperMethodref r (virtual_token p m))) ref
      ∙ ap (λ k. named_desc q (SuperMethodref (Inside h.offset) k)) number
      ∙ ap (option_and_then (λ (v : Class). virtual_desc_in q t.number (class_named w (superclass v)))) (class_there p c
      h)
      ∙ ap (λ ss. virtual_desc_in q t.number (class_named w (unwrap_or (slice_get ss 0) []))) supers
      ∙ ap (virtual_desc_in q t.number) super_is ∙ by d.is_imported refl
    where
      up : (v : Class) × (class_named w super ≡ Some v) × (is_interface v.flags ≡ false)
      up = facts.super_there m.class super c known own supers

      here : is_interface d.flags ≡ false
      here = ap (λ (v : Class). is_interface v.flags) (sym (same_some (sym up.1 ∙ super_is))) ∙ up.2

      t : HasToken list p sound facts tokens mean mean_here (of_class super m) d super_is
      t = has_token list p sound facts tokens mean mean_here (of_class super m) d super_is here sought

      number : virtual_token p m ≡ t.number
      number =
          let listed : Lists super c.supers = subst (Lists super) (sym supers) foremost in
          let keeps = facts.tokens_once m.class super c d known plain super_is (below c known listed itself) in
          t.is (line_of w m.class) alike (λ k e. place list p sound facts tokens mean mean_here m.class c (signature m)
          known plain ∙ keeps.inherited (signature m) k e) (keeps.hidden_inherited (signature m))

      by : (b : Bool) → d.is_imported ≡ b → virtual_desc_in q t.number (Some d) ≡ Some m.desc
      by false own = ap (λ b. if b then method_desc (first_of (virtual_method t.number) (named.line_named (loaded p)
          d.name)) else own_virtual_desc q t.number d) own ∙ t.own own
      by true import =
          let r = facts.file super d super_is import in
          ap (λ b. if b then method_desc (first_of (virtual_method t.number) (named.line_named (loaded p)
          d.name)) else own_virtual_desc q t.number d) import
          ∙ ap (λ o. method_desc (first_of (virtual_method t.number) (line_found (loaded p) o))) r.found
          ∙ ap (λ o. method_desc (first_of (virtual_method t.number) (exported_line (loaded p) o))) r.there
          ∙ t.listed import

module _ (list : ListTree) (codes : List MethodCode) (p : Package) (is : IsOfFiles list codes p) (facts : Facts p) where
  -- What an export file lists of a static method or a constructor that a call names, by the imported class that
  -- declares it.
  pub record Abroad (class : ClassTree) (op : ℕ) (id : MemberId) (n : Names_method list codes p is class op id)
      (import : (let d = n.owner in d.is_imported) ≡ true) : Type 0 where
    pub token : ℕ
    pub ref : (let d = n.owner in let h = facts.file d.name d n.named import in let e = h.entry in method_ref p
        (of_class d.name id) ≡ statics.Outside h.file e.token token)
    pub entry : (let d = n.owner in let h = facts.file d.name d n.named import in let e = h.entry in named.exported
        (written_pair p) h.file e.token ≡ Some e)
    pub listed : (let d = n.owner in let h = facts.file d.name d n.named import in let e = h.entry in IsListed e.methods
        token id)

  pub abroad : (class : ClassTree) (op : ℕ) (id : MemberId) (n : Names_method list codes p is class op id)
      → (import : (let d = n.owner in d.is_imported) ≡ true) → (let d = n.owner in is_interface d.flags) ≡ false
      → is_unbound (let a = n.at in let m = a.member in m.flags) (let a = n.at in let m = a.member in m.name) ≡ true
      → Abroad class op id n import
  abroad class op id n import plain bound =
      let d = n.owner in
      let m = of_class d.name id in
      let sound = files_sound list codes p is.checked in
      let h = facts.file d.name d n.named import in
      let e = h.entry in
      let a = n.at in
      let at : IsAt false m.name m.desc d n.place = record {
        place = a.place;
        member = a.member;
        is_member = a.is_member;
        is = a.is;
        wanted = a.wanted;
        has_name = a.has_name;
        has_desc = a.has_desc;
      } in
      let fixed = fixed_abroad list.name p sound true m d n.place n.named import plain n.again at (let f = n.fits
      in f.no_initialiser) bound in
      let f = find_method (world p) d.name id.name id.desc in
      let offset = offset_where p f in
      let token = member_token p f in
      let z : 0 + h.file ≡ h.file = omega arith in
      let import_is : slice_get (let v = p.files in files_from 0 v.exports) h.file ≡ Some (OfFile h.file) =
      import_at 0 (let v = p.files in v.exports) h.file h.tree h.in_list ∙ ap (λ k. Some (OfFile k)) z in
      let means : option_map (outer true e.name) (unbound_of e.methods token) ≡ Some (Outer true m) =
      sym (ap (λ k. card.static_method (loaded p) 0 true (member_ref k offset token)) h.on_card
      ∙ ap (option_and_then (method_through (loaded p) true e.token token)) import_is
      ∙ ap (option_and_then (λ (v : ExportClass). option_map (outer true v.name) (unbound_of v.methods token))) h.there)
      ∙ fixed ∙ ap (λ k. Some (fixed_as true m (member_ref k offset token))) h.on_card in
      record {
        token = token;
        ref = ap (λ k. member_ref k offset token) h.on_card;
        entry = entry_there list.name p sound d h;
        listed = (let r = unbound_listed e.methods token e.name m means in record {
          place = r.place;
          method = r.method;
          there = r.there;
          found = r.found;
          name = r.name;
          desc = r.desc;
        });
      }

  -- a static method or a constructor by the imported class that declares it
  pub abroad_named : (class : ClassTree) (op : ℕ) (id : MemberId) (n : Names_method list codes p is class op id)
      → (let d = n.owner in d.is_imported) ≡ true → (let d = n.owner in is_interface d.flags) ≡ false
      → is_unbound (let a = n.at in let m = a.member in m.flags) (let a = n.at in let m = a.member in m.name) ≡ true
      → named_desc (written_pair p) (entry_of (names p) (keys.StaticMethod (of_class (let d = n.owner in d.name) id)))
      ≡ Some id.desc
  abroad_named class op id n import plain bound =
      let a = abroad class op id n import plain bound in
      let x = a.listed in
      ap (λ k. named_desc (written_pair p) (StaticMethodref k)) a.ref
      ∙ ap (λ o. method_desc (option_and_then (static_method a.token) o)) a.entry
      ∙ ap method_desc x.found ∙ ap (λ v. Some v) x.desc
