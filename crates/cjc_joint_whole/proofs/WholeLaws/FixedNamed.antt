-- Static methods, constructors and private methods that the code of packages calls, as they stand in a group: a
-- package's own, one of a class from outside, or one that another package declares, which takes its words there.
use Rattle.std.proofs.Common.{◌≡◌, ℕ, ◌+◌, refl, sym, ap, ◌∙◌, Bool, true, false, List, length, Option, Some, None}
use Rattle.std.specs.Prelude.{not, ◌&&◌, option_and_then, option_map, position, slice_get, if◌then◌else◌}
use Rattle.cjc_bytes.specs.AccessFlags.{is_interface, is_static}
use Rattle.cjc_bytes.specs.declared.fault.MemberId.{MemberId}
use Rattle.cjc_bytes.proofs.Bools.{both_back}
use Rattle.cjc_components.specs.ExportFile.{export_of}
use Rattle.cjc_components.specs.Class.{is_shareable}
use Rattle.cjc_components.specs.LowerNarrow.Rows.Package.{flags_of, words_where}
use Rattle.cjc_components.specs.LowerNarrow.Rows.Resolved.{argument_words, method_found, parameter_words}
use Rattle.cjc_components.specs.Methods.{method_offset, placed_methods}
use Rattle.cjc_components.specs.Package.{Package, world}
use Rattle.cjc_jvm_semantics.specs.Group.{is_exposed, own_where}
use Rattle.cjc_jvm_semantics.specs.Linked.{Method}
use Rattle.cjc_jvm_semantics.specs.OnePackage.{is_initialiser, method_at, method_hit}
use Rattle.cjc_joint_proof.specs.JointCalled.{NamesOwnMethod, NamesSharedMethod}
use Rattle.cjc_joint_proof.specs.JointFixed.{AreFixedNamed, NamesFixed, of_outside, of_own, of_shared}
use Rattle.cjc_joint_proof.specs.JointPackages.{AreLinked, IsLinked, to_outside, to_package}
use Rattle.cjc_joint_proof.proofs.ClassLaws.{exported, number_of, sound_at}
use Rattle.cjc_joint_proof.proofs.ExportLaws.{exporting}
use Rattle.cjc_joint_proof.proofs.FlagLaws.{interface_kept}
use Rattle.cjc_joint_proof.proofs.LoadLaws.{external_at}
use Rattle.cjc_joint_proof.proofs.NamedLaws.{found_here, own_method_is_named}
use Rattle.cjc_token_proof.proofs.TablesLaws.Clean.{has_named, own_name}
use Rattle.cjc_token_proof.proofs.TablesLaws.Filed.{own_in}
use Rattle.cjc_token_proof.proofs.TablesLaws.Named.{has_entry}
use Rattle.cjc_token_proof.proofs.WrittenCalls.Facts.{Facts}
use Rattle.cjc_token_proof.proofs.WrittenCalls.Found.{own_is, stands_in_method}
use Rattle.cjc_token_proof.proofs.WrittenCalls.Held.{FormsLaw, OffsetsLaw}
use Rattle.cjc_token_proof.proofs.WrittenCalls.Ids.{own_ids}
use Rattle.cjc_token_proof.proofs.WrittenCalls.Known.{classes_stand}
use Rattle.cjc_token_proof.proofs.WrittenCalls.Offsets.{methods_begin, place_among}
use Rattle.cjc_token_proof.proofs.WrittenCalls.Words.{Counts, counts_from}
use Rattle.cjc_token_proof.proofs.WrittenSends.Operations.{call_named}
use Rattle.cjc_token_proof.specs.Calls.Reaching.{BeginsAtOffsets, is_in_method}
use Rattle.cjc_token_proof.specs.CardSemantics.Machine.Calls as Calls
use Rattle.cjc_token_proof.specs.CardSemantics.Machine.Classes.{with_token}
use Rattle.cjc_token_proof.specs.CardSemantics.Machine.Methods.{Code}
use Rattle.cjc_token_proof.specs.CardSemantics.Bytecode.Machine.{Start}
use Rattle.cjc_token_proof.specs.CardSemantics.Machine.Operations as operations
use Rattle.cjc_token_proof.specs.NCode.ByLabel.{Fixed}
use Rattle.cjc_token_proof.specs.NCode.Lowering.Agreement.{IsAmong}
use Rattle.cjc_token_proof.specs.Tables.Infos.{HasEntry}
use Rattle.cjc_token_proof.specs.Script.Sorts.{signature_of as types_of}
use Rattle.cjc_token_proof.specs.Tables.Loading.{loaded, naming}
use Rattle.cjc_token_proof.specs.Tables.Sound.{IsSound}
use Rattle.cjc_token_proof.specs.WrittenCalls.Calls.{IsNamed, TakesWords, fixed, fixed_words}
use Rattle.cjc_token_proof.specs.WrittenCalls.Standing.{place}
use Rattle.cjc_token_proof.specs.WrittenSends.Named.{is_called}
use Rattle.cjc_vtable.proofs.SlotNames.{position-at}
use Rattle.cjc_world.specs.Classes.{Class, Member, class_named, declared}
use Rattle.cjc_world.specs.ExportFile.declared.tree.ExportClass.{ExportClass}
use Rattle.cjc_world.specs.Lookup.{is_called as is_named_so, member_at}
use Rattle.cjc_world.specs.Supertypes.{IsAcyclic}
use Rattle.cjc_world.specs.declared.found.Found.{Found}
use Rattle.cjc_tokens.proofs.Facts.{same-true}
use Rattle.cjc_tokens.specs.Members.{Signature, signature_of}
use Rattle.cjc_joint_whole.specs.Tokens.{RunsAlone}
use Rattle.cjc_joint_whole.specs.Whole.{IsBound}
use Rattle.cjc_joint_whole.proofs.WholeLaws.Tokened.{outside_named, shared_named}

-- what a package by itself has, as laws on it ask
pub record AloneLaws (p : Package) : Type 0 where
  pub runs : RunsAlone p
  pub facts : Facts p

module _ (forms : FormsLaw) (offsets : OffsetsLaw) (p : Package) (alone : AloneLaws p) where
  pub begins : BeginsAtOffsets p.files (world p) (naming p) (method_offset p) (place p)
  begins =
      let r = alone.runs in
      let k = r.runnable in
      methods_begin forms offsets p k.ready k.methods (own_ids r.list p k.sound) (classes_stand r.list p k.sound)

  pub among : (f : Found) (m : Method) → is_in_method (world p) f ≡ true → method_at p.files f ≡ Some m
      → IsAmong (placed_methods p) (place p m)
  among f m inside there =
      let r = alone.runs in
      let k = r.runnable in
      place_among forms offsets p k.ready k.methods (own_ids r.list p k.sound) (classes_stand r.list p k.sound) f m
      inside there

  pub counts : Counts p (place p)
  counts =
      let r = alone.runs in
      let k = r.runnable in
      counts_from p r.words forms offsets k.ready k.methods (own_ids r.list p k.sound) (classes_stand r.list p k.sound)

  -- a method at a place of a class file stands in Method
  pub inside_at : (x : List ℕ) (d : Class) → class_named (world p) x ≡ Some d → d.is_imported ≡ false
      → is_interface d.flags ≡ false → (i : ℕ) (m : Member) → slice_get d.methods i ≡ Some m
      → is_initialiser m.name ≡ false → is_in_method (world p) (member_at d (length d.fields + i)) ≡ true
  inside_at x d known own kind i m there plain =
      let facts = alone.facts in
      let h = facts.own x d known own in
      stands_in_method (world p) h.number d h.ordered kind own i m there plain

  -- ---- one of its own

  own_among : (id : MemberId) (d : Class) → class_named (world p) id.class ≡ Some d → is_interface d.flags ≡ false
      → is_initialiser id.name ≡ false → (c : NamesOwnMethod p id) → IsAmong (placed_methods p) (place p c.method)
  own_among id d known kind plain c =
      let both : Some d ≡ Some (declared c.number c.class) = sym known ∙ c.known in
      let same : d ≡ declared c.number c.class = cc in
      let o = own_is (world p) false id.name id.desc (declared c.number c.class) c.found c.own in
      among c.found c.method (ap (is_in_method (world p)) o.is
      ∙ inside_at id.class (declared c.number c.class) c.known refl (ap (λ (v : Class). is_interface v.flags) (sym same)
      ∙ kind) o.place o.method o.there (ap is_initialiser o.name_is ∙ plain)) c.there

receiver_same : (s on : Bool) → on ≡ not s → ◌≡◌ {A = ℕ} (if s then 0 else 1) (if on then 1 else 0)
receiver_same true true e = absurd (cc)
receiver_same true false e = refl
receiver_same false true e = refl
receiver_same false false e = absurd (cc)

-- ---- a public or protected method of a class file

-- the first of its name and descriptor, by its place
record IsExposedAt (k : Class) (name desc : List ℕ) (f : Found) : Type 0 where
  place : ℕ
  member : Member
  there : slice_get k.methods place ≡ Some member
  is : f ≡ member_at k (length k.fields + place)
  name_is : member.name ≡ name
  desc_is : member.desc ≡ desc

exposed_at : (k : Class) (name desc : List ℕ) (f : Found) → own_where is_exposed name desc k ≡ Some f
    → IsExposedAt k name desc f
exposed_at k name desc f e = by (position test k.methods) refl e
  where
    test : Member → Bool
    test m = is_exposed m.flags && is_named_so name desc m

    same_found : {a b : Found} → Some a ≡ Some b → b ≡ a
    same_found e = cc

    by : (o : Option ℕ) → position test k.methods ≡ o
        → option_map (λ i. member_at k (length k.fields + i)) o ≡ Some f → IsExposedAt k name desc f
    by None g h = cc
    by (Some i) g h =
        let r = position-at test k.methods i g in
        let m = r.0 in
        let s : Signature = record { name = name; desc = desc } in
        let same : signature_of m ≡ s = same-true (signature_of m) s (both_back (is_exposed m.flags)
        (is_named_so name desc m) r.2) in
        record {
          place = i;
          member = m;
          there = r.1;
          is = same_found h;
          name_is = ap (λ (t : Signature). t.name) same;
          desc_is = ap (λ (t : Signature). t.desc) same;
        }

-- ---- a group

module _ (forms : FormsLaw) (offsets : OffsetsLaw) (packages : List Package) (linked : AreLinked packages) (each : (q : ℕ)
    (p : Package) → slice_get packages q ≡ Some p → AloneLaws p) where
  -- ---- what another package declares

  module _ (q : ℕ) (p : Package) (here : slice_get packages q ≡ Some p) (id : MemberId)
      (c : NamesSharedMethod packages p id) (kind : (let d = c.class in is_interface d.flags) ≡ false)
      (plain : is_initialiser id.name ≡ false) where
    alone : AloneLaws c.exporter
    alone = each c.part c.exporter c.there

    its : class_named (world c.exporter) (let t = c.tree in t.name) ≡ Some (declared c.number c.tree)
    its =
        let s = sound_at packages linked c.part c.exporter c.there in
        let v = s.sound in
        own_name s.list (let e = c.exporter in e.files) v (declared c.number c.tree) (own_in (let e = c.exporter
        in e.files) v.classes v.exports c.number c.tree c.file)

    -- it is no interface there
    its_kind : (let t = c.tree in is_interface t.flags) ≡ false
    its_kind =
        let x = exported packages linked q p here id.class c.class c.known c.entry c.part c.exporter c.there c.written
        in
        let both : Some x.class ≡ Some (declared c.number c.tree) = sym x.there
        ∙ ap (class_named (world c.exporter)) (sym c.name) ∙ its in
        let same : x.class ≡ declared c.number c.tree = cc in
        ap (λ (v : Class). is_interface v.flags) (sym same) ∙ sym x.kind ∙ kind

    at : IsExposedAt (declared c.number c.tree) id.name id.desc c.met
    at = exposed_at (declared c.number c.tree) id.name id.desc c.met c.exposed

    inside : is_in_method (world c.exporter) c.met ≡ true
    inside =
        let a = at in
        ap (is_in_method (world c.exporter)) a.is
        ∙ inside_at forms offsets c.exporter alone (let t = c.tree in t.name) (declared c.number c.tree) its refl its_kind
        a.place a.member a.there (ap is_initialiser a.name_is ∙ plain)

    shared_among : IsAmong (placed_methods c.exporter) (place c.exporter c.method)
    shared_among = among forms offsets c.exporter alone c.met c.method inside c.is_method

    -- its name and its descriptor are those that are called, and it is found by them
    abbrev named : MemberId
    named = let a = at in let t = c.tree in let m = a.member in record { class = t.name; name = m.name; desc = m.desc }

    id_is : (let m = c.method in m.id) ≡ named
    id_is =
        let a = at in
        let facts = (let x = alone in x.facts) in
        let r = facts.filed (let t = c.tree in t.name) (declared c.number c.tree) its refl a.place a.member a.there in
        let both : Some r.0 ≡ Some c.method = sym r.1 ∙ ap (method_at (let e = c.exporter in e.files)) (sym a.is)
        ∙ c.is_method in
        let same : r.0 ≡ c.method = cc in
        ap (λ (m : Method). m.id) (sym same) ∙ r.2

    found_so : method_found (world c.exporter) named ≡ Some c.met_hit
    found_so =
        let a = at in
        let facts = (let x = alone in x.facts) in
        let rules = facts.rules in
        let own = facts.first_one (let t = c.tree in t.name) (declared c.number c.tree) its refl a.place a.member a.there
        in
        ap (option_and_then (method_hit (world c.exporter))) (found_here c.exporter rules.acyclic named (declared
        c.number c.tree) its (member_at (declared c.number c.tree) (length (let d = declared c.number c.tree in d.fields)
        + a.place)) own ∙ ap (λ f. Some f) (sym a.is))
        ∙ c.is_met_hit

    -- its code takes the words of its flags and of the descriptor that is called
    counted : (let m = place c.exporter c.method in let n = m.method in n.nargs)
        ≡ argument_words (let h = c.met_hit in h.flags) id.desc
    counted =
        let a = at in
        counts forms offsets c.exporter alone c.met c.method inside c.is_method
        ∙ ap (λ (i : MemberId). argument_words (flags_of (method_found (world c.exporter) i)) i.desc) id_is
        ∙ ap (λ o. argument_words (flags_of o) (let m = a.member in m.desc)) found_so
        ∙ ap (argument_words (let h = c.met_hit in h.flags)) a.desc_is

    shared_takes : (on : Bool) → on ≡ not (is_static (let h = c.met_hit in h.flags)) → (n : ℕ)
        → words_where on id (Some c.met_hit) ≡ Some n
        → Calls.words (loaded c.exporter) (operations.Fixed on 0 (method_offset c.exporter c.met)) ≡ Some n
    shared_takes on has n e =
        ap (option_map (λ (s : Start Code). s.nargs)) c.begins
        ∙ ap (λ w. Some w) (counted ∙ ap (λ r. r + parameter_words (types_of id.desc)) (receiver_same (is_static
        (let h = c.met_hit in h.flags)) on has))
        ∙ e

  -- ---- each that code calls

  module _ (q : ℕ) (p : Package) (here : slice_get packages q ≡ Some p) where
    alone_here : AloneLaws p
    alone_here = each q p here

    shared : (on : Bool) (id : MemberId) → (c : NamesSharedMethod packages p id) → (d : Class)
        → class_named (world p) id.class ≡ Some d → is_interface d.flags ≡ false → is_initialiser id.name ≡ false
        → TakesWords (world p) (Fixed on id) → NamesFixed packages p on id
    shared on id c d known kind plain (fixed_words s sig has) =
        let both : Some d ≡ Some c.class = sym known ∙ c.known in
        let same : d ≡ c.class = cc in
        let its_kind : (let v = c.class in is_interface v.flags) ≡ false = ap (λ (v : Class). is_interface v.flags) (sym
        same) ∙ kind in
        let found : method_found (world p) id ≡ Some c.hit = ap (option_and_then (method_hit (world p))) c.is_found
        ∙ c.is_hit in
        let static : on ≡ not (is_static (let h = c.met_hit in h.flags)) = has
        ∙ ap (λ o. not (is_static (flags_of o))) found ∙ ap (λ fs. not (is_static fs)) c.same_flags in
        of_shared c (shared_among q p here id c its_kind plain) (shared_takes q p here id c its_kind plain on static)

    named_fixed : (on : Bool) (id : MemberId) → is_called p (Fixed on id) ≡ true → IsNamed (world p) (Fixed on id)
        → TakesWords (world p) (Fixed on id) → NamesFixed packages p on id
    named_fixed on id called (fixed c f known kind plain own) takes = by c.is_imported refl
      where
        runs : RunsAlone p
        runs = let a = alone_here in a.runs

        sound : IsSound (let r = runs in r.list) p.files
        sound = let r = runs in let k = r.runnable in k.sound

        acyclic : IsAcyclic (world p)
        acyclic = let a = alone_here in let facts = a.facts in let rules = facts.rules in rules.acyclic

        by : (b : Bool) → c.is_imported ≡ b → NamesFixed packages p on id
        by false mine =
            let r = runs in
            let names = own_method_is_named r.list p sound acyclic (begins forms offsets p alone_here) id c f known mine
            kind plain own in
            of_own names (own_among forms offsets p alone_here id c known kind plain names)
        by true import = linked_so (linked.imports q h.file p h.tree (record { member = here; file = h.in_list }))
          where
            h : HasEntry p c
            h = let r = runs in has_entry r.list p sound c (has_named (world p) id.class c known) import

            told : IsBound c f
            told = let r = runs in r.bound on id called c f known import own

            linked_so : IsLinked packages q h.tree → NamesFixed packages p on id
            linked_so (to_outside out) = (let r = runs in of_outside (outside_named packages linked r.list p sound acyclic
                id c known import kind h f own plain told out))
            linked_so (to_package r e before there same) =
                let entry = h.entry in
                let listed : (let files = p.files in slice_get files.exports h.file ≡ Some (export_of e)) = h.in_list
                ∙ ap Some same in
                let number = number_of packages linked r e there in
                let is : (let t = export_of e in with_token t.classes entry.token ≡ Some entry) = sym (external_at
                (loaded p) h.file entry.token (Some (export_of e)) listed) ∙ h.there in
                let x = exporting packages q r p e h.file entry.token entry here there listed number is in
                let d = x.class in
                let plain_class : is_interface d.flags ≡ false = sym (ap (λ (y : Class). is_interface y.flags) h.class
                ∙ ap (λ (y : ExportClass). is_interface y.flags) (sym x.written)
                ∙ interface_kept d.flags (is_shareable (world e) d)) ∙ kind in
                let other = each r e there in
                let theirs = other.runs in
                let mine = runs in
                shared on id (shared_named packages linked mine.list p sound acyclic id c known import kind h f own plain
                told r e there same theirs.unbound (begins forms offsets e other) d x.at x.written plain_class) c known
                kind plain takes

  pub fixed_are_named : AreFixedNamed packages
  fixed_are_named q p here on id called =
      let a = each q p here in
      let r = a.runs in
      let joined = r.joined in
      let fine = call_named p r.named (Fixed on id) called in
      (named_fixed q p here on id called fine.0 fine.1, λ n e. joined.takes (Fixed on id) n called e)
