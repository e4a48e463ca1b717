-- Virtual methods that instructions of a converted package call: their entries say what the class files say.
use Rattle.std.proofs.Common.{◌≡◌, ℕ, ◌<◌, ◌^◌, refl, sym, ap, subst, ◌∙◌, inl, Bool, true, false, List, [], length}
use Rattle.std.specs.Prelude.{Some, if◌then◌else◌}
use Rattle.cjc_verified_proof.specs.Bytecode.declared.insn.JOp.TheVariants as jop
use Rattle.cjc_verified_proof.specs.Bytecode.declared.method_code.MethodCode.{MethodCode}
use Rattle.cjc_verified_proof.specs.Bytes.Descriptor.{Parts}
use Rattle.cjc_verified_proof.specs.Bytes.Spots.{desc_of}
use Rattle.cjc_verified_proof.specs.Bytes.declared.fault.MemberId.{MemberId}
use Rattle.cjc_verified_proof.specs.CapRead.declared.tree.PoolEntry.TheVariants as entries
use Rattle.cjc_verified_proof.specs.ClassFile.declared.tree.ClassTree.{ClassTree}
use Rattle.cjc_verified_proof.specs.Components.Names.{class_ref, names, virtual_token}
use Rattle.cjc_verified_proof.specs.Components.Package.{Package, world}
use Rattle.cjc_verified_proof.specs.JvmSemantics.OnePackage.{of_class}
use Rattle.cjc_verified_proof.specs.List.Listed.{ListTree}
use Rattle.cjc_verified_proof.specs.NCode.Lowering.Naming.{Holds}
use Rattle.cjc_verified_proof.specs.NCode.declared.narrow.PoolKey.{PoolKey}
use Rattle.cjc_verified_proof.specs.NCode.declared.narrow.PoolKey.TheVariants as keys
use Rattle.cjc_verified_proof.specs.Narrow.Rows.Resolved.{resolved_method, virtual_by}
use Rattle.cjc_verified_proof.specs.TokenProof.Tables.Loading.{naming}
use Rattle.cjc_verify.specs.ClassTypes.{class_type}
use Rattle.cjc_verified_proof.specs.Verify.Described.{described_spots}
use Rattle.cjc_verified_proof.specs.Verify.Pairs.{Pair}
use Rattle.cjc_verified_proof.specs.World.Classes.{Class, class_named}
use Rattle.cjc_world.specs.Upwards.{Below}
use Rattle.cjc_check_proof.specs.Classes.Premises.{TypesAreKnown}
use Rattle.cjc_narrow_proof.specs.Laws.Unbroken.{IsInsnOf, KeepsNames}
use Rattle.cjc_narrow_proof.specs.Tables.Calls.{IsWordDesc}
use Rattle.cjc_narrow_proof.proofs.LawsLaws.Instructions.{op_fit}
use Rattle.cjc_narrow_proof.proofs.LawsLaws.WordTypes.{word_desc}
use Rattle.cjc_narrow_proof.specs.Tables.Names.{IsDesc}
use Rattle.cjc_shape_proof.proofs.FindsLaws.Descs.{member_desc, parts_are}
use Rattle.cjc_verified_proof.proofs.BytesBools.{or_right}
use Rattle.cjc_verified_proof.proofs.BytesPlain.{same_some}
use Rattle.cjc_token_proof.specs.Subset.Ints.{works_on_int}
use Rattle.cjc_accepted_proof.specs.Subset.Types.{is_unsupported_desc, is_unsupported_name, names_unsupported}
use Rattle.cjc_accepted_proof.specs.Carded.{EntriesAreNamed}
use Rattle.cjc_accepted_proof.specs.Coded.{card_type, is_of}
use Rattle.cjc_accepted_proof.specs.Frames.{MethodFits, PassesFor, SubtypesAgree}
use Rattle.cjc_check_proof.specs.Types.Types.{parts}
use Rattle.cjc_accepted_proof.specs.Served.{entry_for, type_for}
use Rattle.cjc_accepted_proof.specs.Written.{written_pair}
use Rattle.cjc_theorem.proofs.AlikeLaws.MetLaws.KeySources.{Calls_method, IsMet, called, of_virtual}
use Rattle.cjc_theorem.specs.LowerJudge.Rules.{settings_of}
use Rattle.cjc_shape_proof.proofs.WrittenLaws.Checked.{own_names, read_files}
use Rattle.cjc_theorem.specs.ShapeProof.Written.Checked.{IsOfFiles}
use Rattle.cjc_accepted_theorem.specs.NamesDesc.{NamesItsDesc}
use Rattle.cjc_accepted_theorem.proofs.PassedLaws.{class_passes}
use Rattle.cjc_accepted_theorem.proofs.TypedLaws.{EntrySays, entry_says, method_fits}

module _ (list : ListTree) (codes : List MethodCode) (p : Package) (is : IsOfFiles list codes p)
    (subtypes : SubtypesAgree (card_type p) (is_of p) (world p)) (described : described_spots (written_pair p) ≡ [])
    (named : EntriesAreNamed p) (known : TypesAreKnown p)
    (met : (key : PoolKey) → IsMet p.files codes key → NamesItsDesc p key) where
  abbrev w : List Class
  w = world p

  abbrev q : Pair
  q = written_pair p

  abbrev u : KeepsNames list.name p.files codes (settings_of list)
  u = own_names list codes p is.checked

  -- the descriptor of a method that is called
  pub desc_of_call : (class : ClassTree) (op : ℕ) (id : MemberId) → IsInsnOf p.files codes class (jop.Call op id)
      → IsDesc id.desc × ((let d = parts id.desc in d.is_method) ≡ true) × (length id.desc < 2 ^ 32)
  desc_of_call class op id of =
      let n = called list codes p is class op id of in
      let d = n.owner in
      let at = n.at in
      let parsed = member_desc p.files (read_files list codes p is.checked) d n.named at.place at.member at.is_member in
      let one = parsed.0 in
      let short = subst (λ v. length v < 2 ^ 32) at.has_desc parsed.1 in
      let is_desc : IsDesc id.desc = parts_are id.desc one.0 short (ap desc_of (sym at.has_desc) ∙ one.1) in
      let same : one.0 ≡ parts id.desc = same_some (sym one.1 ∙ ap desc_of at.has_desc ∙ is_desc) in
      (is_desc, ap (λ (v : Parts). v.is_method) (sym same) ∙ one.2, short)

  -- where it has no int, its types are of one word
  pub word_of : (class : ClassTree) (op : ℕ) (id : MemberId) → IsInsnOf p.files codes class (jop.Call op id)
      → works_on_int (jop.Call op id) ≡ false → IsWordDesc id.desc
  unfolding names_unsupported works_on_int
  word_of class op id of free =
      let d = desc_of_call class op id of in
      let fit = op_fit list.name p.files codes (settings_of list) u class (jop.Call op id) of in
      word_desc id.desc (parts id.desc) d.2 d.0 d.1 (or_right (is_unsupported_name id.class)
      (is_unsupported_desc id.desc) fit.0) free

  -- ---- a virtual method

  -- what the entry of its key says, of whatever types
  pub record SentEntry (id m : MemberId) : Type 0 where
    pub entry : entry_for q (names p) (keys.Virtual m) ≡ Some (entries.VirtualMethodref (class_ref p m.class)
        (virtual_token p m))
    pub says : EntrySays p (keys.Virtual m) id.desc
    pub passes : PassesFor (card_type p) (is_of p) w id.class (class_type (class_ref p m.class))

  pub sent_entry : (class : ClassTree) (id : MemberId) → IsInsnOf p.files codes class (jop.Call 0xB6 id)
      → Holds (naming p) (keys.Virtual (virtual_by w id (class_named w id.class)))
      → SentEntry id (virtual_by w id (class_named w id.class))
  sent_entry class id of holds =
      let n = called list codes p is class 0xB6 id of in
      let its = met (keys.Virtual (virtual_by w id (class_named w id.class))) (of_virtual class id of) in
      subst (SentEntry id) (sym (ap (virtual_by w id) n.names_class)) (by (let c = n.named_class in c.is_imported) n
      (subst (λ (g : MemberId). Holds (naming p) (keys.Virtual g)) (ap (virtual_by w id) n.names_class) holds)
      (subst (λ (g : MemberId). NamesItsDesc p (keys.Virtual g)) (ap (virtual_by w id) n.names_class) its))
    where
      N : Type 0
      N = Calls_method list codes p is class 0xB6 id

      made : (m : MemberId) (c d : Class) → m.desc ≡ id.desc → class_named w id.class ≡ Some c
          → class_named w m.class ≡ Some d → Below w id.class m.class
          → Holds (naming p) (keys.Virtual m) → NamesItsDesc p (keys.Virtual m) → SentEntry id m
      made m c d desc there above below held its = record {
        entry = held.there;
        says = subst (EntrySays p (keys.Virtual m)) desc (entry_says p described named known (keys.Virtual m) held
            m.desc its.0);
        passes = class_passes list codes p is subtypes id.class m.class c d there above below;
      }

      by : (b : Bool) (n : N) → Holds (naming p) (keys.Virtual (if b then resolved_method w id else id))
          → NamesItsDesc p (keys.Virtual (if b then resolved_method w id else id))
          → SentEntry id (if b then resolved_method w id else id)
      by true n held its = subst (SentEntry id) (sym n.resolved) (made (of_class (let d = n.owner in d.name) id)
          n.named_class n.owner refl n.names_class n.named n.below (subst (λ (g : MemberId). Holds (naming p)
          (keys.Virtual g)) n.resolved held) (subst (λ (g : MemberId). NamesItsDesc p (keys.Virtual g)) n.resolved its))
      by false n held its = made id n.named_class n.named_class refl n.names_class n.names_class (inl refl) held its

  -- what is said of it where its types are of one word
  pub record SentAt (id m : MemberId) : Type 0 where
    pub entry : entry_for q (names p) (keys.Virtual m) ≡ Some (entries.VirtualMethodref (class_ref p m.class)
        (virtual_token p m))
    pub fits : MethodFits (card_type p) id (type_for q (names p) (keys.Virtual m))
    pub passes : PassesFor (card_type p) (is_of p) w id.class (class_type (class_ref p m.class))

  pub sent_at : (class : ClassTree) (id : MemberId) → IsInsnOf p.files codes class (jop.Call 0xB6 id)
      → works_on_int (jop.Call 0xB6 id) ≡ false
      → Holds (naming p) (keys.Virtual (virtual_by w id (class_named w id.class)))
      → SentAt id (virtual_by w id (class_named w id.class))
  sent_at class id of free holds =
      let e = sent_entry class id of holds in
      record {
        entry = e.entry;
        fits = method_fits p (keys.Virtual (virtual_by w id (class_named w id.class))) id e.says (word_of class 0xB6 id
            of free);
        passes = e.passes;
      }
