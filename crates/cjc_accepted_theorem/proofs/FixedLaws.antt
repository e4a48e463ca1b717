-- Static methods, constructors and private methods that instructions of a converted package call: their entries say
-- what the class files say.
use Rattle.std.proofs.Common.{◌≡◌, ℕ, ◌+◌, ◌-◌, refl, sym, ap, subst, ◌∙◌, arith, Bool, true, false, List, []}
use Rattle.std.proofs.Common.{length}
use Rattle.std.specs.Prelude.{◌&&◌, ◌||◌, not, Some, get_or, option_and_then, option_map, position}
use Rattle.std.specs.Prelude.{slice_get, if◌then◌else◌}
use Rattle.std.specs.Str.{bytes_eq}
use Rattle.std.proofs.lemmas.Bool.{and_from}
use Rattle.std.proofs.lemmas.Option.{get_or_from_slice_get, slice_get-map}
use Rattle.cjc_verified_proof.specs.Bytecode.declared.insn.JOp.TheVariants as jop
use Rattle.cjc_verified_proof.specs.Bytecode.declared.method_code.MethodCode.{MethodCode}
use Rattle.cjc_verified_proof.specs.Bytes.AccessFlags.{is_abstract, is_interface, is_private, is_static}
use Rattle.cjc_verified_proof.specs.Bytes.declared.fault.MemberId.{MemberId}
use Rattle.cjc_verified_proof.specs.CapRead.declared.tree.MethodDescriptor.{MethodDescriptor}
use Rattle.cjc_verified_proof.specs.CapRead.declared.tree.PoolEntry.TheVariants as entries
use Rattle.cjc_verified_proof.specs.CapRead.declared.tree.StaticRef.{StaticRef}
use Rattle.cjc_verified_proof.specs.ClassFile.declared.tree.ClassTree.{ClassTree}
use Rattle.cjc_verified_proof.specs.Components.Descriptor.{method_flags, method_in}
use Rattle.cjc_verified_proof.specs.Components.Names.{class_ref, method_ref, names}
use Rattle.cjc_verified_proof.specs.Components.Package.{Package, world}
use Rattle.cjc_verified_proof.specs.ExportFile.Members.{is_unbound}
use Rattle.cjc_verified_proof.specs.JvmSemantics.OnePackage.{is_constructor, of_class}
use Rattle.cjc_verified_proof.specs.List.Listed.{ListTree}
use Rattle.cjc_verified_proof.specs.NCode.Lowering.Naming.{Holds, entry_of}
use Rattle.cjc_verified_proof.specs.NCode.declared.narrow.PoolKey.{PoolKey}
use Rattle.cjc_verified_proof.specs.NCode.declared.narrow.PoolKey.TheVariants as keys
use Rattle.cjc_verified_proof.specs.Narrow.Rows.Resolved.{resolved_method}
use Rattle.cjc_verified_proof.specs.TokenProof.Components.Methods.{HasMethods}
use Rattle.cjc_verified_proof.specs.TokenProof.Tables.Loading.{naming}
use Rattle.cjc_verified_proof.specs.TokenProof.Tables.Sound.{IsSound as FilesAreSound}
use Rattle.cjc_verify.specs.ClassTypes.{class_type}
use Rattle.cjc_verified_proof.specs.Verify.Described.{described_spots}
use Rattle.cjc_verified_proof.specs.Verify.Named.{holder_in, holder_of, holds, is_abstract_listed, is_abstract_start}
use Rattle.cjc_verified_proof.specs.Verify.Named.{is_static_described, is_static_listed, names_abstract, names_static}
use Rattle.cjc_verified_proof.specs.Verify.Named.{named_desc, static_method}
use Rattle.cjc_verified_proof.specs.Verify.Pairs.{Pair}
use Rattle.cjc_verified_proof.specs.World.Classes.{Class, Member, class_at, method_of_export}
use Rattle.cjc_verified_proof.specs.World.Lookup.{find_method, is_called, member_at}
use Rattle.cjc_verified_proof.specs.World.Order.{class_order, methods_of_class}
use Rattle.cjc_verified_proof.specs.World.Rules.{is_twice}
use Rattle.cjc_verified_proof.specs.World.declared.found.Found.{Found}
use Rattle.cjc_verified_proof.specs.WorldProof.Calls.Solid.{IsSolid}
use Rattle.cjc_verified_proof.proofs.BytesLists.{name_is}
use Rattle.cjc_verified_proof.proofs.BytesPlain.{same_some}
use Rattle.cjc_verified_proof.proofs.TokenProofAbove.{rules_of}
use Rattle.cjc_verified_proof.proofs.TokenProofWrittenCallsFacts.{Facts}
use Rattle.cjc_verified_proof.proofs.TokenProofWrittenCallsFlags.{static_same}
use Rattle.cjc_verified_proof.proofs.WorldProofOwn.{IsAt, mapped_at}
use Rattle.cjc_world.specs.Classes.{method_of_class}
use Rattle.cjc_check_proof.specs.Classes.Premises.{TypesAreKnown}
use Rattle.cjc_check_proof.specs.Types.Flow.{Body}
use Rattle.cjc_check_proof.specs.Types.Rules.{is_found_private, is_private_in, names_private, no_member}
use Rattle.cjc_check_proof.specs.Types.Rules.{receiver_class}
use Rattle.cjc_narrow_proof.specs.Laws.Unbroken.{IsInsnOf}
use Rattle.cjc_token_proof.specs.Subset.Ints.{works_on_int}
use Rattle.cjc_narrow_proof.proofs.LawsLaws.Own.{first_here}
use Rattle.cjc_accepted_proof.specs.Carded.{EntriesAreNamed}
use Rattle.cjc_accepted_proof.specs.Coded.{card_type, is_of}
use Rattle.cjc_accepted_proof.specs.Frames.{MethodFits, PassesFor, SubtypesAgree}
use Rattle.cjc_accepted_proof.specs.Served.{entry_for, type_for}
use Rattle.cjc_accepted_proof.specs.Written.{written_pair}
use Rattle.cjc_theorem.proofs.AlikeLaws.MetLaws.KeySources.{Calls_method, IsMet, called}
use Rattle.cjc_theorem.proofs.AlikeLaws.NamedLaws.Names.{fixed_in_class, private_own}
use Rattle.cjc_shape_proof.proofs.WrittenLaws.Checked.{files_sound, own_solid}
use Rattle.cjc_theorem.specs.ShapeProof.Written.Checked.{IsOfFiles}
use Rattle.cjc_accepted_theorem.specs.Begins.{Begins}
use Rattle.cjc_accepted_theorem.specs.ExportsHaveCode.{ExportsHaveCode}
use Rattle.cjc_accepted_theorem.specs.NamesDesc.{NamesItsDesc}
use Rattle.cjc_accepted_theorem.proofs.NamedLaws.{abroad, abroad_named}
use Rattle.cjc_accepted_theorem.proofs.OwnMethodsLaws.{entered, method_entry}
use Rattle.cjc_accepted_theorem.proofs.PassedLaws.{class_passes}
use Rattle.cjc_accepted_theorem.proofs.SentLaws.{word_of}
use Rattle.cjc_accepted_theorem.proofs.TypedLaws.{EntrySays, entry_says, method_fits}

-- methods of one name and descriptor, neither of which an earlier one has, are one
one_member : (ms : List Member) (name desc : List ℕ) (i j : ℕ) (x y : Member) → slice_get ms i ≡ Some x
    → slice_get ms j ≡ Some y → x.name ≡ name → x.desc ≡ desc → y.name ≡ name → y.desc ≡ desc
    → is_twice ms i x.name x.desc ≡ false → is_twice ms j y.name y.desc ≡ false → x ≡ y
unfolding is_twice
one_member ms name desc i j x y at_i at_j xn xd yn yd once_i once_j =
    let same : i ≡ j = same_some (sym (first i x at_i xn xd once_i) ∙ first j y at_j yn yd once_j) in
    same_some (sym at_i ∙ ap (slice_get ms) same ∙ at_j)
  where
    first : (k : ℕ) (v : Member) → slice_get ms k ≡ Some v → v.name ≡ name → v.desc ≡ desc → is_twice ms k v.name v.desc
        ≡ false → position (λ m. is_called name desc m) ms ≡ Some k
    first k v e n d once = first_here (λ m. is_called name desc m) ms k v e (and_from (bytes_eq v.name name) (bytes_eq
        v.desc desc) (ap (bytes_eq v.name) (sym n) ∙ name_is v.name) (ap (bytes_eq v.desc) (sym d) ∙ name_is v.desc))
        (subst (λ z. is_twice ms k name z ≡ false) d (subst (λ z. is_twice ms k z v.desc ≡ false) n once))

module _ (list : ListTree) (codes : List MethodCode) (p : Package) (is : IsOfFiles list codes p)
    (subtypes : SubtypesAgree (card_type p) (is_of p) (world p)) (described : described_spots (written_pair p) ≡ [])
    (named : EntriesAreNamed p) (known : TypesAreKnown p)
    (met : (key : PoolKey) → IsMet p.files codes key → NamesItsDesc p key) (has : HasMethods p) (facts : Facts p)
    (begin : (k : ℕ) (d : Class) → slice_get (class_order (world p)) k ≡ Some d → is_interface d.flags ≡ false
    → (j : ℕ) (f : Found) → slice_get (methods_of_class (world p) d) j ≡ Some f → Begins p d f)
    (coded : ExportsHaveCode p) where
  abbrev w : List Class
  w = world p

  abbrev q : Pair
  q = written_pair p

  abbrev solid : IsSolid p.files
  solid = own_solid list codes p is.checked

  abbrev sound : FilesAreSound list.name p.files
  sound = files_sound list codes p is.checked

  abbrev N : (class : ClassTree) (op : ℕ) (id : MemberId) → Type 0
  N class op id = Calls_method list codes p is class op id

  -- what a static reference says of a method with these flags, of a class of this name
  record Says (method : StaticRef) (owner : List ℕ) (flags : ℕ) : Type 0 where
    static : names_static q method ≡ is_static flags
    bare : names_abstract q method ≡ false
    holder : holder_of q method ≡ class_type (class_ref p owner)

  -- ---- of the package

  -- a static method, a private one or a constructor of a class file has code
  own_coded : (class : ClassTree) (op : ℕ) (id : MemberId) (n : N class op id)
      → (let d = n.owner in d.is_imported) ≡ false
      → (is_static (let a = n.at in let m = a.member in m.flags) || is_private (let a = n.at in let m = a.member
      in m.flags) || is_constructor id.name) ≡ true → is_abstract (let a = n.at in let m = a.member in m.flags) ≡ false
  own_coded class op id n own fixed = by (is_abstract (let a = n.at in let m = a.member in m.flags)) refl
    where
      none : (a b c : Bool) → a ≡ false → b ≡ false → c ≡ false → (a || b || c) ≡ true → ⊥
      none true b c e f g h = cc
      none false true c e f g h = cc
      none false false true e f g h = cc
      none false false false e f g h = cc

      by : (v : Bool) → is_abstract (let a = n.at in let m = a.member in m.flags) ≡ v → is_abstract (let a = n.at
          in let m = a.member in m.flags) ≡ false
      by false e = e
      by true e =
          let d = n.owner in
          let at = n.at in
          let t = solid.own d.name d n.named own in
          let c = t.0 in
          let x = mapped_at method_of_class c.methods at.place at.member (ap (λ (v : Class). slice_get v.methods
          at.place)
          (sym t.2) ∙ at.is_member) in
          let b = solid.bound c x.0 (record { number = d.number; place = at.place; is_class = t.1; is_method = x.1 })
          (ap (λ (v : Member). is_abstract v.flags) (sym x.2) ∙ e) in
          absurd (none (is_static (let m = at.member in m.flags)) (is_private (let m = at.member in m.flags))
          (is_constructor id.name) (ap (λ (v : Member). is_static v.flags) x.2 ∙ b.0) (ap (λ (v : Member). is_private
          v.flags) x.2 ∙ b.1) (ap is_constructor (sym at.has_name) ∙ ap (λ (v : Member). is_constructor v.name) x.2
          ∙ b.2) fixed)

  own_says : (class : ClassTree) (op : ℕ) (id : MemberId) (n : N class op id)
      → (let d = n.owner in d.is_imported) ≡ false → (let d = n.owner in is_interface d.flags) ≡ false
      → is_abstract (let a = n.at in let m = a.member in m.flags) ≡ false
      → Says (method_ref p (of_class (let d = n.owner in d.name) id)) (let d = n.owner in d.name) (let a = n.at
      in let m = a.member in m.flags)
  own_says class op id n own plain bare =
      let d = n.owner in
      let at = n.at in
      let e = entered list codes p is has class op id n own plain in
      let b = begin e.place d e.owned plain e.number n.place e.listed in
      record {
        static = ap (names_static q) e.ref ∙ ap (holds is_static_described) e.found
            ∙ ap (λ (m : MethodDescriptor). is_static m.flags) e.method
            ∙ ap (λ (v : Member). is_static (method_flags v)) e.tree ∙ static_same at.member;
        bare = ap (names_abstract q) e.ref ∙ ap is_abstract_start b.starts ∙ not_bare b (let s = b.start
            in s.is_abstract) refl (ap (λ (v : Member). is_abstract v.flags) e.tree ∙ bare);
        holder = ap (holder_of q) e.ref ∙ ap holder_in e.found ∙ ap class_type e.holder;
      }
    where
      not_bare : {d : Class} {f : Found} (b : Begins p d f) (v : Bool) → (let s = b.start in s.is_abstract) ≡ v
          → is_abstract (let m = method_in w d f.member in m.flags) ≡ false → (let s = b.start in s.is_abstract) ≡ false
      not_bare b false e g = e
      not_bare b true e g = (let h = b.bare e in let no : true ≡ false = sym h ∙ g in absurd cc)

  -- ---- of an export file

  abroad_says : (class : ClassTree) (op : ℕ) (id : MemberId) (n : N class op id)
      → (import : (let d = n.owner in d.is_imported) ≡ true) → (let d = n.owner in is_interface d.flags) ≡ false
      → is_unbound (let a = n.at in let m = a.member in m.flags) (let a = n.at in let m = a.member in m.name) ≡ true
      → Says (method_ref p (of_class (let d = n.owner in d.name) id)) (let d = n.owner in d.name) (let a = n.at
      in let m = a.member in m.flags)
  abroad_says class op id n import plain bound =
      let d = n.owner in
      let at = n.at in
      let h = facts.file d.name d n.named import in
      let e = h.entry in
      let a = abroad list codes p is facts class op id n import plain bound in
      let x = a.listed in
      let rules = rules_of list.name p sound d.name d n.named in
      let here : slice_get d.methods x.place ≡ Some (method_of_export x.method) = ap (λ (v : Class). slice_get v.methods
      x.place) h.class ∙ slice_get-map method_of_export e.methods x.place ∙ ap (option_map method_of_export) x.there in
      let same : method_of_export x.method ≡ at.member = one_member d.methods id.name id.desc x.place at.place
      (method_of_export x.method) at.member here at.is_member x.name x.desc at.has_name at.has_desc (rules.methods
      x.place (method_of_export x.method) here) (rules.methods at.place at.member at.is_member) in
      record {
        static = ap (names_static q) a.ref ∙ ap (λ o. is_static_listed (option_and_then (static_method a.token) o))
            a.entry ∙ ap is_static_listed x.found ∙ ap (λ (v : Member). is_static v.flags) same;
        bare = ap (names_abstract q) a.ref ∙ ap (λ o. is_abstract_listed (option_and_then (static_method a.token) o))
            a.entry ∙ ap is_abstract_listed x.found ∙ ap (λ (v : Member). is_abstract v.flags) same
            ∙ coded d n.named import at.place at.member at.is_member bound;
        holder = ap (holder_of q) a.ref ∙ ap class_type (sym h.ref);
      }

  -- either
  says : (class : ClassTree) (op : ℕ) (id : MemberId) (n : N class op id)
      → (is_static (let a = n.at in let m = a.member in m.flags) || is_private (let a = n.at in let m = a.member
      in m.flags) || is_constructor id.name) ≡ true
      → ((let d = n.owner in d.is_imported) ≡ true → is_unbound (let a = n.at in let m = a.member in m.flags)
      (let a = n.at in let m = a.member in m.name) ≡ true)
      → Says (method_ref p (of_class (let d = n.owner in d.name) id)) (let d = n.owner in d.name) (let a = n.at
      in let m = a.member in m.flags)
  says class op id n fixed bound = by (let d = n.owner in d.is_imported) refl
    where
      by : (b : Bool) → (let d = n.owner in d.is_imported) ≡ b
          → Says (method_ref p (of_class (let d = n.owner in d.name) id)) (let d = n.owner in d.name) (let a = n.at
          in let m = a.member in m.flags)
      by false own = own_says class op id n own (fixed_in_class list codes p is class op id n fixed) (own_coded
          class op id n own fixed)
      by true import = abroad_says class op id n import (fixed_in_class list codes p is class op id n fixed)
          (bound import)

  -- ---- calls

  -- its entry names a method of its descriptor
  fixed_named : (class : ClassTree) (op : ℕ) (id : MemberId) (n : N class op id)
      → (is_static (let a = n.at in let m = a.member in m.flags) || is_private (let a = n.at in let m = a.member
      in m.flags) || is_constructor id.name) ≡ true
      → ((let d = n.owner in d.is_imported) ≡ true → is_unbound (let a = n.at in let m = a.member in m.flags)
      (let a = n.at in let m = a.member in m.name) ≡ true)
      → named_desc q (entry_of (names p) (keys.StaticMethod (of_class (let d = n.owner in d.name) id))) ≡ Some id.desc
  fixed_named class op id n fixed bound = by (let d = n.owner in d.is_imported) refl
    where
      plain : (let d = n.owner in is_interface d.flags) ≡ false
      plain = fixed_in_class list codes p is class op id n fixed

      by : (b : Bool) → (let d = n.owner in d.is_imported) ≡ b
          → named_desc q (entry_of (names p) (keys.StaticMethod (of_class (let d = n.owner in d.name) id)))
          ≡ Some id.desc
      by false own = method_entry list codes p is has class op id n own plain
      by true import = abroad_named list codes p is facts class op id n import plain (bound import)

  -- its type is that of its descriptor
  typed : (class : ClassTree) (op : ℕ) (id : MemberId) (n : N class op id)
      → Holds (naming p) (keys.StaticMethod (of_class (let d = n.owner in d.name) id))
      → named_desc q (entry_of (names p) (keys.StaticMethod (of_class (let d = n.owner in d.name) id))) ≡ Some id.desc
      → EntrySays p (keys.StaticMethod (of_class (let d = n.owner in d.name) id)) id.desc
  typed class op id n held its = entry_says p described named known (keys.StaticMethod (of_class (let d = n.owner
      in d.name) id)) held id.desc its

  -- what an invokestatic names, of whatever types
  pub record StaticEntry (id g : MemberId) : Type 0 where
    pub method : StaticRef
    pub entry : entry_for q (names p) (keys.StaticMethod g) ≡ Some (entries.StaticMethodref method)
    pub right : (not (names_static q method) || names_abstract q method) ≡ false
    pub says : EntrySays p (keys.StaticMethod g) id.desc

  pub static_entry : (class : ClassTree) (id : MemberId) → IsInsnOf p.files codes class (jop.Call 0xB8 id)
      → Holds (naming p) (keys.StaticMethod (resolved_method w id)) → StaticEntry id (resolved_method w id)
  static_entry class id of holds =
      let n = called list codes p is class 0xB8 id of in
      subst (StaticEntry id) (sym n.resolved) (made n (subst (λ (g : MemberId). Holds (naming p) (keys.StaticMethod g))
      n.resolved holds))
    where
      made : (n : N class 0xB8 id) → Holds (naming p) (keys.StaticMethod (of_class (let d = n.owner in d.name) id))
          → StaticEntry id (of_class (let d = n.owner in d.name) id)
      made n held =
          let d = n.owner in
          let flags = (let a = n.at in let m = a.member in m.flags) in
          let static : is_static flags ≡ true = (let g = n.fits in g.of_class) refl in
          let fixed : (is_static flags || is_private flags || is_constructor id.name) ≡ true = ap (λ a. a || is_private
          flags || is_constructor id.name) static in
          let bound : is_unbound flags (let a = n.at in let m = a.member in m.name) ≡ true = ap (λ a.
          a || is_constructor (let a = n.at in let m = a.member in m.name)) static in
          let s = says class 0xB8 id n fixed (λ import. bound) in
          record {
            method = method_ref p (of_class d.name id);
            entry = held.there;
            right = ap (λ b. not b || names_abstract q (method_ref p (of_class d.name id))) (s.static ∙ static) ∙
                s.bare;
            says = typed class 0xB8 id n held (fixed_named class 0xB8 id n fixed (λ import. bound));
          }

  -- what an invokespecial names that is a constructor or private, of whatever types
  pub record FixedEntry (id g : MemberId) : Type 0 where
    pub method : StaticRef
    pub entry : entry_for q (names p) (keys.StaticMethod g) ≡ Some (entries.StaticMethodref method)
    pub right : (names_static q method || names_abstract q method) ≡ false
    pub says : EntrySays p (keys.StaticMethod g) id.desc
    pub passes : PassesFor (card_type p) (is_of p) w id.class (holder_of q method)

  pub fixed_entry : (class : ClassTree) (id : MemberId) → (n : N class 0xB7 id)
      → (is_constructor id.name || is_private (let a = n.at in let m = a.member in m.flags))
      ≡ true → Holds (naming p) (keys.StaticMethod (of_class (let d = n.owner in d.name) id))
      → FixedEntry id (of_class (let d = n.owner in d.name) id)
  fixed_entry class id n either held =
      let d = n.owner in
      let at = n.at in
      let flags = (let m = at.member in m.flags) in
      let bound_name : is_constructor (let m = at.member in m.name) ≡ is_constructor id.name = ap is_constructor
      at.has_name in
      let fixed = three (is_static flags) (is_private flags) (is_constructor id.name) either in
      let unbound : (let o = n.owner in o.is_imported) ≡ true → is_unbound flags (let m = at.member in m.name) ≡ true =
      λ import. bound (is_static flags) (is_constructor id.name) (is_private flags) (is_constructor (let m = at.member
      in m.name)) (sym bound_name) either (λ private. private_own list codes p is class 0xB7 id n private)
      import in
      let s = says class 0xB7 id n fixed unbound in
      let plain : is_static flags ≡ false = (let g = n.fits in g.on_object) refl in
      record {
        method = method_ref p (of_class d.name id);
        entry = held.there;
        right = ap (λ b. b || names_abstract q (method_ref p (of_class d.name id))) (s.static ∙ plain) ∙ s.bare;
        says = typed class 0xB7 id n held (fixed_named class 0xB7 id n fixed unbound);
        passes = subst (λ type. PassesFor (card_type p) (is_of p) w id.class type) (sym s.holder) (class_passes list
            codes p is subtypes id.class d.name n.named_class d n.names_class n.named n.below);
      }
    where
      three : (a b c : Bool) → (c || b) ≡ true → (a || b || c) ≡ true
      three true b c e = refl
      three false true c e = refl
      three false false true e = refl
      three false false false e = e

      bound : {i : Bool} (a c b e : Bool) → c ≡ e → (c || b) ≡ true → (b ≡ true → i ≡ false) → i ≡ true → (a || e)
          ≡ true
      bound true c b e f g own import = refl
      bound false true b e f g own import = sym f
      bound false false true e f g own import = (let no = own refl in let clash : true ≡ false = sym import ∙ no in
          absurd cc)
      bound false false false e f g own import = absurd cc

  -- ---- where its types are of one word

  pub record StaticAt (id g : MemberId) : Type 0 where
    pub method : StaticRef
    pub entry : entry_for q (names p) (keys.StaticMethod g) ≡ Some (entries.StaticMethodref method)
    pub right : (not (names_static q method) || names_abstract q method) ≡ false
    pub fits : MethodFits (card_type p) id (type_for q (names p) (keys.StaticMethod g))

  pub static_at : (class : ClassTree) (id : MemberId) → IsInsnOf p.files codes class (jop.Call 0xB8 id)
      → works_on_int (jop.Call 0xB8 id) ≡ false
      → Holds (naming p) (keys.StaticMethod (resolved_method w id)) → StaticAt id (resolved_method w id)
  static_at class id of free holds =
      let e = static_entry class id of holds in
      record {
        method = e.method;
        entry = e.entry;
        right = e.right;
        fits = method_fits p (keys.StaticMethod (resolved_method w id)) id e.says (word_of list codes p is subtypes
            described named known met class 0xB8 id of free);
      }

  pub record FixedAt (id g : MemberId) : Type 0 where
    pub method : StaticRef
    pub entry : entry_for q (names p) (keys.StaticMethod g) ≡ Some (entries.StaticMethodref method)
    pub right : (names_static q method || names_abstract q method) ≡ false
    pub fits : MethodFits (card_type p) id (type_for q (names p) (keys.StaticMethod g))
    pub passes : PassesFor (card_type p) (is_of p) w id.class (holder_of q method)

  pub fixed_at : (class : ClassTree) (id : MemberId) → IsInsnOf p.files codes class (jop.Call 0xB7 id)
      → works_on_int (jop.Call 0xB7 id) ≡ false
      → (n : N class 0xB7 id) → (is_constructor id.name || is_private (let a = n.at in let m = a.member in m.flags))
      ≡ true → Holds (naming p) (keys.StaticMethod (of_class (let d = n.owner in d.name) id))
      → FixedAt id (of_class (let d = n.owner in d.name) id)
  fixed_at class id of free n either held =
      let e = fixed_entry class id n either held in
      record {
        method = e.method;
        entry = e.entry;
        right = e.right;
        fits = method_fits p (keys.StaticMethod (of_class (let d = n.owner in d.name) id)) id e.says (word_of list codes
            p is subtypes described named known met class 0xB7 id of free);
        passes = e.passes;
      }

  -- the receiver of a constructor or a private method is of the class that is named
  pub private_is : (id : MemberId) (d : Class) (f : Found) (at : IsAt false id.name id.desc d f)
      → find_method w id.class id.name id.desc ≡ Some f → class_at w d.is_imported d.number ≡ Some d
      → names_private w id ≡ is_private (let m = at.member in m.flags)
  unfolding names_private
  private_is id d f at found numbered =
      let i = at.place in
      let m = at.member in
      let off : length d.fields + i - length d.fields ≡ i = omega arith in
      ap (is_found_private w) found
      ∙ ap (λ (v : Found). is_private_in v (class_at w v.imported v.class)) at.is
      ∙ ap (is_private_in (member_at d (length d.fields + i))) numbered
      ∙ ap (λ k. is_private (get_or d.methods k no_member).flags) off
      ∙ ap (λ (v : Member). is_private v.flags) (get_or_from_slice_get d.methods i m no_member at.is_member)

  pub receiver_itself : (b : Body) (class : ClassTree) (id : MemberId) (n : N class 0xB7 id)
      → (is_constructor id.name || is_private (let a = n.at in let m = a.member in m.flags)) ≡ true
      → receiver_class w b 0xB7 id ≡ id.class
  receiver_itself b class id n either =
      let d = n.owner in
      let private = private_is id d n.place n.at n.found (solid.numbered d.name d n.named) in
      by (is_constructor id.name) (names_private w id) (ap (λ v. is_constructor id.name || v) private ∙ either)
    where
      by : (c v : Bool) → (c || v) ≡ true → (if true && not c && not v then b.class else id.class) ≡ id.class
      by true v e = refl
      by false true e = refl
      by false false e = absurd cc
