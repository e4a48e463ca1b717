-- Methods of interfaces that instructions of a converted package call: their tokens say what the class files say.
use Rattle.std.proofs.Common.{◌≡◌, ℕ, zero, suc, ◌+◌, ◌<◌, ◌^◌, refl, sym, ap, subst, ◌∙◌, Bool, true, false, List, []}
use Rattle.std.proofs.Common.{◌∷◌, length, map}
use Rattle.std.specs.Prelude.{◌&&◌, Some, None, if◌then◌else◌, is_some, option_and_then, option_map}
use Rattle.std.specs.Prelude.{position, slice_get}
use Rattle.std.specs.List.{list_all}
use Rattle.std.specs.Str.{bytes_eq}
use Rattle.cjc_verified_proof.proofs.BytesBools.{and_true, or_right}
use Rattle.cjc_verified_proof.proofs.WorldCycles.{class_named-name}
use Rattle.cjc_verified_proof.specs.Bytecode.declared.insn.JOp.TheVariants as jop
use Rattle.cjc_verified_proof.specs.Bytecode.declared.method_code.MethodCode.{MethodCode}
use Rattle.cjc_verified_proof.specs.Bytes.AccessFlags.{is_interface}
use Rattle.cjc_verified_proof.specs.Bytes.declared.fault.MemberId.{MemberId}
use Rattle.cjc_verified_proof.specs.CapRead.declared.tree.PoolEntry.TheVariants as entries
use Rattle.cjc_verified_proof.specs.CardSemantics.Bytecode.Arguments as arguments
use Rattle.cjc_verified_proof.specs.CardSemantics.Machine.Classes as card
use Rattle.cjc_verified_proof.specs.CardSemantics.Machine.Dispatch.{NotFound, Outward, interface_method, named_in}
use Rattle.cjc_verified_proof.specs.CardSemantics.Machine.Dispatch.{of_file, of_names, outward}
use Rattle.cjc_verified_proof.specs.ClassFile.declared.tree.ClassTree.{ClassTree}
use Rattle.cjc_verified_proof.specs.Components.Class.{class_entry, interface_entry as as_interface}
use Rattle.cjc_verified_proof.specs.Components.Names.{class_at, class_ref, names, token_in_interface}
use Rattle.cjc_verified_proof.specs.Components.Package.{Package, world}
use Rattle.cjc_verified_proof.specs.Components.Paired.Naming.{signature_name}
use Rattle.cjc_verified_proof.specs.JvmSemantics.OnePackage.{of_class}
use Rattle.cjc_verified_proof.specs.List.Listed.{ListTree}
use Rattle.cjc_verified_proof.specs.NCode.ByLabel.{OnInterface}
use Rattle.cjc_verified_proof.specs.NCode.Lowering.Naming.{Holds, Naming}
use Rattle.cjc_verified_proof.specs.NCode.declared.narrow.PoolKey.TheVariants as keys
use Rattle.cjc_verified_proof.specs.Narrow.Rows.Resolved.{resolved_method}
use Rattle.cjc_verified_proof.specs.Script.Sorts.{result_by, signature_of, sort_of}
use Rattle.cjc_token_proof.specs.Subset.Names.{is_name_missing, names_missing}
use Rattle.cjc_verified_proof.specs.TokenProof.Calls.Selecting.{signature}
use Rattle.cjc_verified_proof.specs.TokenProof.Tables.Loading.{loaded, naming}
use Rattle.cjc_verified_proof.specs.TokenProof.WrittenCalls.Calls.{ExportsKeep, IsNamed, on_interface}
use Rattle.cjc_verified_proof.proofs.TokenProofAbove.{says_kinds}
use Rattle.cjc_verified_proof.proofs.TokenProofWrittenCallsFacts.{Facts}
use Rattle.cjc_verified_proof.specs.Verify.Named.{interface_desc, interface_type, selection_desc}
use Rattle.cjc_verified_proof.specs.Verify.Pairs.{Pair, is_card_result, is_card_sort, nibbles_of}
use Rattle.cjc_verified_proof.specs.Verify.Pairs as pairs
use Rattle.cjc_verified_proof.specs.World.Classes.{Class, class_named}
use Rattle.cjc_world.specs.Rules.{is_desc_missing}
use Rattle.cjc_verified_proof.specs.Tokens.Members.{Signature, same}
use Rattle.cjc_verified_proof.specs.Tokens.Methods.{interface_methods}
use Rattle.cjc_theorem.specs.VTable.Tables.{or_zero}
use Rattle.cjc_token_proof.proofs.ByToken.Members.{bytes_tell}
use Rattle.cjc_token_proof.proofs.WrittenCalls.Files.{position_has}
use Rattle.cjc_check_proof.specs.Classes.Premises.{is_known, types_known}
use Rattle.cjc_check_proof.specs.Types.Types.{parts}
use Rattle.cjc_ncode.specs.Written.{nargs_of, words_by}
use Rattle.cjc_narrow_proof.specs.Laws.Unbroken.{IsInsnOf, KeepsNames}
use Rattle.cjc_narrow_proof.specs.Tables.Calls.{IsWordDesc}
use Rattle.cjc_narrow_proof.proofs.LawsLaws.Instructions.{op_there}
use Rattle.cjc_shape_proof.proofs.FindsLaws.Descs.{member_desc}
use Rattle.cjc_accepted_proof.specs.CardActs.CardTypes.{MemberType, type_by, types_in, widths}
use Rattle.cjc_accepted_proof.specs.Coded.{card_type, is_of}
use Rattle.cjc_accepted_proof.specs.Frames.{MethodFits, PassesFor, SubtypesAgree}
use Rattle.cjc_accepted_proof.specs.Served.{entry_for}
use Rattle.cjc_accepted_proof.specs.Written.{written_pair}
use Rattle.cjc_theorem.proofs.AlikeLaws.InterfaceCalls.Interfaces.{interface_named}
use Rattle.cjc_theorem.proofs.AlikeLaws.MetLaws.Descs.{desc_known}
use Rattle.cjc_theorem.proofs.AlikeLaws.MetLaws.KeySources.{Calls_method, called}
use Rattle.cjc_theorem.specs.LowerJudge.Rules.{settings_of}
use Rattle.cjc_shape_proof.proofs.WrittenLaws.Checked.{files_sound, own_names, read_files}
use Rattle.cjc_theorem.specs.ShapeProof.Written.Checked.{IsOfFiles}
use Rattle.cjc_verify.specs.ClassTypes.{class_type}
use Rattle.cjc_accepted_theorem.proofs.HeadersLaws.{word_sorts}
use Rattle.cjc_accepted_theorem.proofs.PassedLaws.{class_passes}
use Rattle.cjc_accepted_theorem.proofs.TypedLaws.{AreOnCard, desc_typed, sorts_in, typed_as, word_fits}
use Rattle.cjc_accepted_theorem.proofs.TypedLaws.{word_on, word_signature}

module _ (list : ListTree) (codes : List MethodCode) (p : Package) (is : IsOfFiles list codes p)
    (subtypes : SubtypesAgree (card_type p) (is_of p) (world p)) (facts : Facts p) (keep : ExportsKeep p) where
  abbrev w : List Class
  w = world p

  abbrev q : Pair
  q = written_pair p

  abbrev n : Naming
  n = naming p

  abbrev u : KeepsNames list.name p.files codes (settings_of list)
  u = own_names list codes p is.checked

  -- ---- a token among an interface's methods

  module _ (m : MemberId) (i : Class) (k : ℕ) (known : class_named w m.class ≡ Some i) (interface_here : is_interface
      i.flags ≡ true) (placed : position (λ s. same s (signature m)) (interface_methods w i) ≡ Some k) where
    name : i.name ≡ m.class
    name = class_named-name w m.class i known

    token_is : n.interface_token m ≡ k
    token_is = ap (token_in_interface w (signature m)) known ∙ ap or_zero placed

    method_there : slice_get (interface_methods w i) (n.interface_token m) ≡ Some (signature m)
    method_there =
        let r = position_has (λ s. same s (signature m)) (interface_methods w i) k (signature m) placed in
        let two = and_true (bytes_eq r.0.name m.name) (bytes_eq r.0.desc m.desc) r.2 in
        ap (slice_get (interface_methods w i)) token_is ∙ r.1
        ∙ ap (λ x. Some (record { name = x; desc = r.0.desc })) (bytes_tell r.0.name m.name two.0)
        ∙ ap (λ x. Some (record { name = m.name; desc = x })) (bytes_tell r.0.desc m.desc two.1)

    name_there : (ss : List Signature) (j : ℕ) (s : Signature) → slice_get ss j ≡ Some s
        → slice_get (map signature_name ss) j ≡ Some (signature_name s)
    name_there [] j s e = absurd cc
    name_there (t ∷ ss) zero s e = let same_one : t ≡ s = cc in ap (λ v. Some (signature_name v)) same_one
    name_there (t ∷ ss) (suc j) s e = name_there ss j s e

    -- the method that the token means
    method_is : interface_method n.loaded (n.class m.class) (n.interface_token m) ≡ Outward m
    method_is = by i.is_imported refl
      where
        by : (t : Bool) → i.is_imported ≡ t → interface_method n.loaded (n.class m.class) (n.interface_token m)
            ≡ Outward m
        by false own =
            let h = facts.own m.class i known own in
            ap (λ c. interface_method n.loaded c (n.interface_token m)) (sym (ap (class_at p) name) ∙ h.on_card)
            ∙ ap (λ o. of_names o (n.interface_token m)) h.names
            ∙ ap (λ t. named_in i.name (slice_get (if t then map signature_name (interface_methods w i)
            else []) (n.interface_token m))) interface_here
            ∙ ap (named_in i.name) (name_there (interface_methods w i) (n.interface_token m) (signature m)
            method_there)
            ∙ ap (λ x. Outward (record { class = x; name = m.name; desc = m.desc })) name
        by true import =
            let h = facts.file m.class i known import in
            let entry_name : h.entry.name ≡ m.class = sym (ap (λ (c : Class). c.name) h.class) ∙ name in
            let r = keep.methods m.class h.number h.entry (known ∙ ap Some h.class)
            (sym (ap (λ (c : Class). is_interface c.flags) h.class) ∙ interface_here) (n.interface_token m)
            (signature m) (ap (λ c. slice_get (interface_methods w c) (n.interface_token m)) (sym h.class)
            ∙ method_there) in
            ap (λ c. interface_method n.loaded c (n.interface_token m)) (sym (ap (class_at p) name) ∙ h.on_card)
            ∙ ap (λ o. of_file o (n.interface_token m)) h.there
            ∙ ap (λ o. outward h.entry.name o NotFound) r.1
            ∙ ap (λ (s : Signature). Outward (record { class = h.entry.name; name = s.name; desc = s.desc })) r.2
            ∙ ap (λ x. Outward (record { class = x; name = m.name; desc = m.desc })) entry_name

    on_card : card.is_interface n.loaded (n.class m.class) ≡ true
    on_card = by i.is_imported refl
      where
        by : (t : Bool) → i.is_imported ≡ t → card.is_interface n.loaded (n.class m.class) ≡ true
        by false own =
            let h = facts.own m.class i known own in
            ap (card.is_interface n.loaded) (sym (ap (class_at p) name) ∙ h.on_card) ∙ ap card.is_interface_info h.info
            ∙ ap (λ b. card.is_interface_info (Some (if b then card.IsInterface (as_interface (class_ref p) w i)
            else card.IsClass (class_entry (class_ref p) p i)))) interface_here
        by true import =
            let h = facts.file m.class i known import in
            ap (card.is_interface n.loaded) (sym (ap (class_at p) name) ∙ h.on_card) ∙ ap card.is_interface_file h.there
            ∙ sym (ap (λ (c : Class). is_interface c.flags) h.class) ∙ interface_here

    pub desc_is : interface_desc (loaded p) (n.interface_token m) (card.class_of (loaded p) 0 (class_ref p m.class))
        ≡ Some m.desc
    desc_is =
        let kinds = says_kinds list.name p (files_sound list codes p is.checked) in
        ap (interface_desc (loaded p) (n.interface_token m)) (kinds.class_ref m.class (ap is_some known))
        ∙ ap (λ b. if b then selection_desc (interface_method (loaded p) (class_at p m.class) (n.interface_token m))
        else None) on_card
        ∙ ap selection_desc method_is

  -- ---- calls

  -- what is said of a method of an interface, of whatever types
  pub record InterfaceEntry (id m : MemberId) : Type 0 where
    pub entry : entry_for q (names p) (keys.Class m.class) ≡ Some (entries.Classref (class_ref p m.class))
    pub type_is : (let v = names p in interface_type q (class_ref p m.class) (v.interface_token m)) ≡ option_map (λ ns.
        type_by (types_in ns)) (nibbles_of q id.desc)
    pub known : types_known (is_known w) id.desc (signature_of id.desc) ≡ true
    pub passes : PassesFor (card_type p) (is_of p) w id.class (class_type (class_ref p m.class))

  -- and where its types are of one word
  pub record InterfaceAt (id m : MemberId) : Type 0 where
    pub type : MemberType
    pub entry : entry_for q (names p) (keys.Class m.class) ≡ Some (entries.Classref (class_ref p m.class))
    pub typed : (let v = names p in interface_type q (class_ref p m.class) (v.interface_token m)) ≡ Some type
    pub words : nargs_of id ≡ 1 + widths type.params
    pub fits : MethodFits (card_type p) id type
    pub passes : PassesFor (card_type p) (is_of p) w id.class (class_type (class_ref p m.class))

  -- the words of its parameters are those of their types
  word_count : (desc : List ℕ) → (list_all is_card_sort (map sort_of (let d = parts desc in d.params))
      && is_card_result (let d = parts desc in let r = d.result in result_by r.kind r)) ≡ true
      → widths (let t = typed_as p desc in t.params) ≡ arguments.widths (map sort_of (let d = parts desc in d.params))
  word_count desc on =
      let d = parts desc in
      let r = d.result in
      word_sorts (pairs.class_ref q) (map sort_of d.params) (and_true (list_all is_card_sort (map sort_of d.params))
      (is_card_result (result_by r.kind r)) on).0

  -- so are those of the call
  pub call_words : (id : MemberId) → signature_of id.desc ≡ Some (sorts_in p id.desc) → AreOnCard p id.desc
      → nargs_of id ≡ 1 + widths (let t = typed_as p id.desc in t.params)
  call_words id sig on = ap words_by sig ∙ ap (λ v. 1 + v) (sym (word_count id.desc on))

  -- what its descriptor names is known
  desc_read : (class : ClassTree) (id : MemberId) → IsInsnOf p.files codes class (jop.Call 0xB9 id)
      → types_known (is_known w) id.desc (signature_of id.desc) ≡ true
  unfolding names_missing
  desc_read class id of =
      let c = called list codes p is class 0xB9 id of in
      let at = c.at in
      let ok = op_there list.name p.files codes (settings_of list) u class (jop.Call 0xB9 id) of in
      let short = (member_desc p.files (read_files list codes p is.checked) c.owner c.named at.place at.member
      at.is_member).1 in
      desc_known w id.desc (subst (λ v. length v < 2 ^ 32) at.has_desc short) (or_right (is_name_missing w id.class)
      (is_desc_missing w id.desc) ok.0)

  pub interface_entry : (class : ClassTree) (id : MemberId) → IsInsnOf p.files codes class (jop.Call 0xB9 id)
      → Holds (naming p) (keys.Class (let g = resolved_method w id in g.class))
      → InterfaceEntry id (resolved_method w id)
  interface_entry class id of holds =
      let c = called list codes p is class 0xB9 id of in
      subst (InterfaceEntry id) (sym c.resolved) (by c (subst (λ (g : MemberId). Holds (naming p) (keys.Class g.class))
      c.resolved holds) (subst (λ g. IsNamed w (OnInterface 1 g)) c.resolved (interface_named list codes p is class id
      of 1)))
    where
      by : (c : Calls_method list codes p is class 0xB9 id)
          → Holds (naming p) (keys.Class (let d = c.owner in d.name))
          → IsNamed w (OnInterface 1 (of_class (let d = c.owner in d.name) id))
          → InterfaceEntry id (of_class (let d = c.owner in d.name) id)
      by c held (on_interface i k known here plain placed) =
          let d = c.owner in
          let m = of_class d.name id in
          record {
            entry = held.there;
            type_is = ap (λ o. option_map (λ ns. type_by (types_in ns)) (option_and_then (nibbles_of q) o)) (desc_is m i
                k known here placed);
            known = desc_read class id of;
            passes = class_passes list codes p is subtypes id.class d.name c.named_class d c.names_class c.named
                c.below;
          }

  pub interface_at : (class : ClassTree) (id : MemberId) → IsWordDesc id.desc
      → IsInsnOf p.files codes class (jop.Call 0xB9 id)
      → Holds (naming p) (keys.Class (let g = resolved_method w id in g.class))
      → InterfaceAt id (resolved_method w id)
  interface_at class id word of holds =
      let e = interface_entry class id of holds in
      let sig = word_signature p id.desc word in
      let on = word_on p id.desc word in
      record {
        type = typed_as p id.desc;
        entry = e.entry;
        typed = e.type_is ∙ desc_typed p id.desc sig on;
        words = call_words id sig on;
        fits = word_fits p id word e.known;
        passes = e.passes;
      }
