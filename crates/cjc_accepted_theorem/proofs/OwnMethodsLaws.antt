-- Entries of the constant pool name methods of their keys' descriptors: those of static methods, constructors and
-- private methods of the package.
use Rattle.std.proofs.Common.{◌≡◌, ⊎_elim, ℕ, zero, suc, ◌+◌, ◌==◌, refl, sym, ap, ◌∙◌, arith, Bool}
use Rattle.std.proofs.Common.{true, false, List, [], ◌∷◌, length, map}
use Rattle.std.specs.Prelude.{◌&&◌, not, Some, option_map, slice_get}
use Rattle.std.specs.List.{find}
use Rattle.cjc_verified_proof.specs.Bytecode.declared.method_code.MethodCode.{MethodCode}
use Rattle.cjc_verified_proof.specs.Bytes.AccessFlags.{is_interface}
use Rattle.cjc_verified_proof.specs.Bytes.declared.fault.MemberId.{MemberId}
use Rattle.cjc_verified_proof.proofs.BytesBools.{not_true}
use Rattle.cjc_verified_proof.proofs.BytesGets.{all_at, find_got, get_behind, in_front}
use Rattle.cjc_verified_proof.proofs.BytesNumbers.{like_number, number_same}
use Rattle.cjc_verified_proof.proofs.BytesPlain.{same_some}
use Rattle.cjc_verified_proof.specs.CapRead.declared.tree.ClassRef.{ClassRef}
use Rattle.cjc_verified_proof.specs.CapRead.declared.tree.MethodDescriptor.{MethodDescriptor}
use Rattle.cjc_verified_proof.specs.CapRead.declared.tree.PoolEntry.TheVariants.{StaticMethodref}
use Rattle.cjc_accepted_proof.proofs.CheckProofLists.{has-back, has-front}
use Rattle.cjc_accepted_proof.proofs.CheckProofOffsets.{Left, all_left, offset_there, some_bytes, step}
use Rattle.cjc_accepted_proof.proofs.CheckProofSupers.{in_place}
use Rattle.cjc_verified_proof.specs.ClassFile.declared.tree.ClassTree.{ClassTree}
use Rattle.cjc_verified_proof.specs.Components.Descriptor.{as_added, class_descriptor, method_descriptor, method_in}
use Rattle.cjc_verified_proof.specs.Components.Methods.{first_method, method_offset, method_size}
use Rattle.cjc_verified_proof.specs.CapRead.declared.tree.StaticRef.TheVariants as statics
use Rattle.cjc_verified_proof.specs.Components.Names.{class_at, class_ref, member_token, method_ref, names}
use Rattle.cjc_verified_proof.specs.Components.Names.{offset_where}
use Rattle.cjc_verified_proof.specs.Components.Package.{LaidMethod, Package, world}
use Rattle.cjc_verified_proof.specs.JvmSemantics.OnePackage.{of_class}
use Rattle.cjc_verified_proof.specs.NCode.Lowering.Naming.{entry_of}
use Rattle.cjc_verified_proof.specs.NCode.declared.narrow.PoolKey.TheVariants as keys
use Rattle.cjc_theorem.proofs.ShapeProofOrder.{order_filed}
use Rattle.cjc_shape_proof.proofs.WrittenLaws.Checked.{files_sound}
use Rattle.cjc_theorem.specs.ShapeProof.Written.Checked.{IsOfFiles}
use Rattle.cjc_verified_proof.specs.Narrow.Rows.Resolved.{resolved_method}
use Rattle.cjc_accepted_proof.specs.NarrowProof.Laws.Unbroken.{IsInsnOf}
use Rattle.cjc_verified_proof.specs.Bytecode.declared.insn.JOp.TheVariants as jop
use Rattle.cjc_theorem.proofs.AlikeLaws.MetLaws.KeySources.{called}
use Rattle.cjc_theorem.proofs.AlikeLaws.MetLaws.Own.{Names_method, own_method_named}
use Rattle.cjc_verified_proof.proofs.TokenProofStarts.{ref_is_start}
use Rattle.cjc_verified_proof.proofs.TokenProofClean.{has_named}
use Rattle.cjc_verified_proof.proofs.TokenProofOrder.{kind-in, order_has, order_in, own_names}
use Rattle.cjc_verified_proof.specs.TokenProof.Components.Methods.{HasMethods}
use Rattle.cjc_verified_proof.specs.List.Listed.{ListTree}
use Rattle.cjc_verified_proof.specs.TokenProof.Tables.Sound.{IsSound}
use Rattle.cjc_verified_proof.specs.Verify.Named.{named_desc}
use Rattle.cjc_verified_proof.specs.Verify.Pairs.{Described, Pair, described, described_among, described_in}
use Rattle.cjc_verified_proof.specs.Verify.Pairs.{is_method_at, member_of, method_at}
use Rattle.cjc_theorem.proofs.VTableFiled.{Has, at_front, behind, get-has, has-either, has-get}
use Rattle.cjc_verified_proof.specs.World.Classes.{Class, Member, class_named, declared}
use Rattle.cjc_verified_proof.specs.World.Added.{added}
use Rattle.cjc_verified_proof.specs.World.Lookup.{find_method}
use Rattle.cjc_verified_proof.specs.World.Order.{class_order, in_order, method_order, methods_in_turn, methods_of_class}
use Rattle.cjc_verified_proof.specs.World.declared.found.Found.{Found}
use Rattle.cjc_accepted_proof.specs.Written.{written_pair}
use Rattle.cjc_accepted_theorem.proofs.CellsLaws.{found_one}
use Rattle.cjc_accepted_theorem.proofs.EntriesLaws.{own_ref}
use Rattle.cjc_accepted_theorem.proofs.MethodsLaws.{IsMethodOf, IsSaid, all_said, member_is, method_from, of_file}
use Rattle.cjc_accepted_theorem.proofs.MethodsLaws.{of_interfaces}

-- ---- methods in turn

turn_has : (w : List Class) (cs : List Class) (c : Class) → Has c cs → (f : Found) → Has f (methods_of_class w c)
    → Has f (methods_in_turn w cs)
turn_has w [] c h f g = elim h [ ]
turn_has w (d ∷ cs) _ at_front f g = has-front f (methods_of_class w d) _ g
turn_has w (d ∷ cs) c (behind h) f g = has-back f (methods_of_class w d) _ (turn_has w cs c h f g)

turn_from : (w : List Class) (cs : List Class) (f : Found) → Has f (methods_in_turn w cs) → (c : Class) × Has c cs × Has
    f (methods_of_class w c)
turn_from w [] f h = elim h [ ]
turn_from w (d ∷ cs) f h = ⊎_elim (λ here. (d, at_front, here)) (λ later. let r = turn_from w cs f later in (
  r.0,
  behind
      r.1,
  r.2,
)) (has-either f (methods_of_class w d) (methods_in_turn w cs) h)

-- a method that is described under its class
record IsListed (p : Package) (d : Class) (f : Found) (ds : List Described) : Type 0 where
  place : ℕ
  one : Described
  there : slice_get ds place ≡ Some one
  class : one.class ≡ d
  method : one.method ≡ method_descriptor p d f

listed_in : (p : Package) (d : Class) (holder : ClassRef) (fs : List Found) (j : ℕ) (f : Found) → slice_get fs j ≡ Some
    f → IsListed p d f (described_in d holder fs (map (method_descriptor p d) fs))
listed_in p d holder [] j f e = absurd cc
listed_in p d holder (g ∷ fs) zero f e = record {
  place = 0;
  one = record { class = d; member = g; holder = holder; method = method_descriptor p d g };
  there = refl;
  class = refl;
  method = ap (method_descriptor p d) (same_some e);
}
listed_in p d holder (g ∷ fs) (suc j) f e =
    let r = listed_in p d holder fs j f e in
    record { place = suc r.place; one = r.one; there = r.there; class = r.class; method = r.method }

listed_among : (p : Package) (cs : List Class) (k : ℕ) (d : Class) → slice_get cs k ≡ Some d → (j : ℕ) (f : Found)
    → slice_get (methods_of_class (world p) d) j ≡ Some f → IsListed p d f (described_among (world p) cs
    (map (class_descriptor p) cs))
listed_among p [] k d e j f g = absurd cc
listed_among p (c ∷ cs) zero d e j f g =
    let same = same_some e in
    let fs = methods_of_class (world p) c in
    let r = listed_in p c (class_ref p c.name) fs j f (ap (λ (x : Class). slice_get (methods_of_class (world p) x) j)
    same ∙ g) in
    record {
      place = r.place;
      one = r.one;
      there = in_front (described_in c (class_ref p c.name) fs (map (method_descriptor p c) fs)) (described_among
          (world p) cs (map (class_descriptor p) cs)) r.place r.one r.there;
      class = r.class ∙ same;
      method = r.method ∙ ap (λ (x : Class). method_descriptor p x f) same;
    }
listed_among p (c ∷ cs) (suc k) d e j f g =
    let r = listed_among p cs k d e j f g in
    let fs = methods_of_class (world p) c in
    let first = described_in c (class_ref p c.name) fs (map (method_descriptor p c) fs) in
    record {
      place = length first + r.place;
      one = r.one;
      there = get_behind first (described_among (world p) cs (map (class_descriptor p) cs)) r.place ∙ r.there;
      class = r.class;
      method = r.method;
    }

module _ (p : Package) where
  -- methods at one offset are one
  one_place : (at : ℕ) (ms : List LaidMethod) (fs : List Found) (f g : Found) → Left p at ms fs → Has f fs → Has g fs
      → method_offset p f ≡ method_offset p g → f ≡ g
  one_place at ms [] f g l h i e = elim h [ ]
  one_place at ms (x ∷ fs) _ _ l at_front at_front e = refl
  one_place at ms (x ∷ fs) _ g l at_front (behind i) e =
      let s = step p at ms x fs l in
      let low = offset_there p (at + method_size s.0) s.1 fs g s.4 i in
      let here = s.2 in
      let some = some_bytes s.0 in
      absurd (omega (arith, low, here, some, e))
  one_place at ms (x ∷ fs) f _ l (behind h) at_front e =
      let s = step p at ms x fs l in
      let low = offset_there p (at + method_size s.0) s.1 fs f s.4 h in
      let here = s.2 in
      let some = some_bytes s.0 in
      absurd (omega (arith, low, here, some, e))
  one_place at ms (x ∷ fs) f g l (behind h) (behind i) e =
      let s = step p at ms x fs l in
      one_place (at + method_size s.0) s.1 fs f g s.4 h i e

module _ (list : ListTree) (codes : List MethodCode) (p : Package) (is : IsOfFiles list codes p)
    (has : HasMethods p) where
  abbrev w : List Class
  w = world p

  abbrev q : Pair
  q = written_pair p

  abbrev sound : IsSound list.name p.files
  sound = files_sound list codes p is.checked

  -- a method of a class that is no interface stands in Method
  in_method : (d : Class) → Has d (class_order w) → is_interface d.flags ≡ false → (j : ℕ) (f : Found)
      → slice_get (methods_of_class w d) j ≡ Some f → Has f (method_order w)
  unfolding method_order
  in_method d there plain j f e =
      let o = order_in list.name p.files sound d there in
      turn_has w (in_order w false) d (in_place list.name p sound d false o.0 o.1 plain) f (get-has f (methods_of_class
      w d) j e)

  -- where it stands is described
  is_described : (f : Found) → Has f (method_order w) → (y : Described)
      × (find (is_method_at (method_offset p f)) (described q) ≡ Some y)
  unfolding method_order
  is_described f h =
      let c = turn_from w (in_order w false) f h in
      let at = has-get c.0 (in_order w false) c.1 in
      let kind = kind-in list.name p.files sound false c.0 c.1 in
      let there = has-get c.0 (class_order w) (order_has list.name p.files sound c.0 kind.0 kind.1) in
      let j = has-get f (methods_of_class w c.0) c.2 in
      let r = listed_among p (class_order w) there.0 c.0 there.1 j.0 f j.1 in
      let test : is_method_at (method_offset p f) r.one ≡ true =
      ap (λ (x : Class). not (is_interface x.flags) && (let m = r.one.method in m.offset == method_offset p f)) r.class
      ∙ ap (λ b. b && (let m = r.one.method in m.offset == method_offset p f)) kind.2
      ∙ ap (λ (m : MethodDescriptor). m.offset == method_offset p f) r.method ∙ like_number (method_offset p f) in
      found_one (is_method_at (method_offset p f)) (described q) r.place r.one r.there test

  -- classes of one number are one
  one_class : (d e : Class) → Has d (class_order w) → Has e (class_order w) → d.number ≡ e.number → d ≡ e
  one_class d e h i same =
      let s = order_filed p.files d h in
      let t = order_filed p.files e i in
      let one : s.0 ≡ t.0 = same_some (sym s.1 ∙ ap (λ n. let v = p.files in slice_get v.classes n) same ∙ t.1) in
      s.2 ∙ ap (λ n. declared n s.0) same ∙ ap (declared e.number) one ∙ sym t.2

  number_is : (d : Class) (f : Found) → IsMethodOf w d f → f.class ≡ d.number
  number_is d f (of_file i m is_m is_f same plain) = ap (λ (x : Found). x.class) is_f
  number_is d f (of_interfaces i m is_m is_f same) = ap (λ (x : Found). x.class) is_f

  -- What Descriptor says of a method of the package that a call names, by where its header stands.
  pub record Entered (by : ClassTree) (op : ℕ) (id : MemberId) (n : Names_method list codes p is by op id)
      :
      Type 0 where
    pub one : Described
    pub ref : (let d = n.owner in method_ref p (of_class d.name id)) ≡ statics.Inside (method_offset p n.place)
    pub found : method_at q (method_offset p n.place) ≡ Some one
    pub class : one.class ≡ n.owner
    pub member : one.member ≡ n.place
    pub holder : one.holder ≡ (let d = n.owner in class_ref p d.name)
    pub method : one.method ≡ method_descriptor p n.owner n.place
    pub place : ℕ
    pub owned : slice_get (class_order w) place ≡ Some n.owner
    pub number : ℕ
    pub listed : slice_get (methods_of_class w n.owner) number ≡ Some n.place
    pub tree : (let d = n.owner in let f = n.place in method_in w d f.member) ≡ (let a = n.at in a.member)

  pub entered : (class : ClassTree) (op : ℕ) (id : MemberId) (n : Names_method list codes p is class op id)
      → (let d = n.owner in d.is_imported) ≡ false → (let d = n.owner in is_interface d.flags) ≡ false
      → Entered class op id n
  entered class op id n own plain =
      let d = n.owner in
      let at = n.at in
      let f = n.place in
      let of = own_method_named list codes p is class op id n own plain in
      let apart = own_names list.name p.files sound in
      let known = order_has list.name p.files sound d (has_named w d.name d n.named) own in
      let number_of = has-get d (class_order w) known in
      let r = ref_is_start p apart number_of.0 d number_of.1 in
      let found : of.member ≡ f = same_some (sym of.found ∙ n.again) in
      let here = get-has f (method_order w) of.place (of.there ∙ ap (λ (g : Found). Some g) found) in
      let y = is_described f here in
      let got = find_got (is_method_at (method_offset p f)) (described q) y.0 y.1 in
      let said = all_at (IsSaid p (class_order w)) (described q) got.0 y.0 (all_said p (class_order w)) got.1 in
      let x = y.0 in
      let k = x.class in
      let m = x.method in
      let parts = two (not (is_interface k.flags)) (m.offset == method_offset p f) got.2 in
      let listed = get-has k (class_order w) said.0 said.1 in
      let is_class = not_true (is_interface k.flags) parts.0 in
      let other = in_method k listed is_class said.2 x.member said.3 in
      let place_same : method_offset p x.member ≡ method_offset p f = sym said.4 ∙ number_same m.offset (method_offset p
      f) parts.1 in
      let same : x.member ≡ f = one_place p (first_method p.methods) p.methods (method_order w) x.member f (all_left p
      has) other here place_same in
      let number : k.number ≡ d.number = sym (number_is k x.member (method_from w k said.2 x.member said.3))
      ∙ ap (λ (g : Found). g.class) (same ∙ at.is) in
      let classes : k ≡ d = one_class k d listed known number in
      let hit = find_method w d.name id.name id.desc in
      record {
        one = x;
        ref = own_ref (class_at p d.name) r.0 (offset_where p hit) (member_token p hit) r.2
            ∙ ap (λ g. statics.Inside (offset_where p g)) n.again;
        found = y.1;
        class = classes;
        member = same;
        holder = said.6 ∙ ap (λ (c : Class). class_ref p c.name) classes;
        method = said.5 ∙ ap (λ (c : Class). method_descriptor p c x.member) classes ∙ ap (method_descriptor p d) same;
        place = number_of.0;
        owned = number_of.1;
        number = said.2;
        listed = ap (λ (c : Class). slice_get (methods_of_class w c) said.2) (sym classes) ∙ said.3
            ∙ ap (λ (g : Found). Some g) same;
        tree = ap (λ (g : Found). method_in w d g.member) at.is ∙ member_is w d at.place at.member (in_front d.methods
            (map as_added (added w d)) at.place at.member at.is_member);
      }
    where
      two : (a b : Bool) → (a && b) ≡ true → (a ≡ true) × (b ≡ true)
      two true b e = (refl, e)
      two false b e = absurd cc

  pub method_entry : (class : ClassTree) (op : ℕ) (id : MemberId) (n : Names_method list codes p is class op id)
      → (let d = n.owner in d.is_imported) ≡ false → (let d = n.owner in is_interface d.flags) ≡ false
      → named_desc q (entry_of (names p) (keys.StaticMethod (of_class (let d = n.owner in d.name) id))) ≡ Some id.desc
  method_entry class op id n own plain =
      let d = n.owner in
      let at = n.at in
      let e = entered class op id n own plain in
      let member : member_of q e.one ≡ at.member =
      ap (λ (c : Class). method_in w c (let g = e.one in let f = g.member in f.member)) e.class
      ∙ ap (λ (g : Found). method_in w d g.member) e.member ∙ e.tree in
      ap (λ z. named_desc q (StaticMethodref z)) e.ref
      ∙ ap (option_map (λ (z : Described). let v = member_of q z in v.desc)) e.found
      ∙ ap (λ (v : Member). Some v.desc) member ∙ ap (λ v. Some v) at.has_desc

  -- what a call names that a class of the package declares
  pub called_entry : (class : ClassTree) (op : ℕ) (id : MemberId) → IsInsnOf p.files codes class (jop.Call op id)
      → (c : Class) → (let m = resolved_method w id in class_named w m.class ≡ Some c) → c.is_imported ≡ false
      → is_interface c.flags ≡ false
      → named_desc q (entry_of (names p) (keys.StaticMethod (resolved_method w id))) ≡ Some id.desc
  called_entry class op id of c known own plain =
      let n = called list codes p is class op id of in
      let same : n.owner ≡ c = same_some (sym n.named ∙ sym (ap (λ (m : MemberId). class_named w m.class) n.resolved)
      ∙ known) in
      ap (λ m. named_desc q (entry_of (names p) (keys.StaticMethod m))) n.resolved
      ∙ method_entry class op id n (ap (λ (x : Class). x.is_imported) same ∙ own) (ap (λ (x : Class). is_interface
      x.flags) same ∙ plain)
