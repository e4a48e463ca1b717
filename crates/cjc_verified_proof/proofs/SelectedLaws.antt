-- What dispatch and selection give on an object of a class is a method of the descriptor that is sought: one of the
-- package
-- with what Descriptor says of it, held by a class that the object is of, or an imported one.
use Rattle.std.proofs.Common.{◌≡◌, [], ◌⊎◌, ⊎_elim, ℕ, zero, suc, ◌+◌, ◌-◌, ◌<◌, ◌≤◌, ◌==◌, Bool, true, false, not}
use Rattle.std.proofs.Common.{List}
use Rattle.std.proofs.Common.{◌∷◌, ◌++◌, length, drop, slice_get, Option, Some, None, refl, sym, ap, subst, ◌∙◌, arith}
use Rattle.std.proofs.Common.{nat_lt}
use Rattle.std.specs.Prelude.{◌&&◌, codes, if◌then◌else◌, option_and_then, option_map, unwrap_or}
use Rattle.std.specs.List.{list_any}
use Rattle.std.specs.Str.{bytes_eq}
use Rattle.std.proofs.lemmas.Bool.Decides.{nat_tests}
use Rattle.std.proofs.lemmas.Map.Keys.{any_passes_from_place}
use Rattle.cjc_bytes.specs.AccessFlags.{is_interface, is_static}
use Rattle.cjc_capread.specs.MethodHeader.{MethodHeader, method_header}
use Rattle.cjc_capread.specs.declared.tree.ClassDescriptor.{ClassDescriptor}
use Rattle.cjc_capread.specs.declared.tree.ClassRef.TheVariants.{Inside}
use Rattle.cjc_capread.specs.declared.tree.MethodDescriptor.{MethodDescriptor}
use Rattle.cjc_check_rules.specs.Classes.{class_with}
use Rattle.cjc_check_rules.specs.Classes as check
use Rattle.cjc_check_rules.specs.Codes.{methods_begin}
use Rattle.cjc_world.specs.ExportFile.declared.tree.ExportTree.{ExportTree}
use Rattle.cjc_check_rules.specs.Members.{class_methods, is_method_start}
use Rattle.cjc_world.specs.declared.found.Found.{Found}
use Rattle.cjc_world.specs.Added.{added}
use Rattle.cjc_world.specs.Classes.{Class, Member, all_classes, class_at, class_named, imported, is_at}
use Rattle.cjc_world.specs.Classes as world
use Rattle.cjc_world.specs.Lookup.{member_at}
use Rattle.cjc_world.specs.Order.{class_order, methods_of_class, places, written}
use Rattle.cjc_tokens.specs.Members.{Signature, signature_of}
use Rattle.cjc_token_proof.specs.VTable.Laws.{Under}
use Rattle.cjc_token_proof.specs.VTable.Naming.{member_named, method_named, named}
use Rattle.cjc_components.proofs.VTableFiled.{Has, at_front, behind, get-has}
use Rattle.cjc_components.proofs.VTableNumbers.{at-kind}
use Rattle.cjc_components.proofs.VTableSlotNames.{added-none}
use Rattle.cjc_card_semantics.specs.Script.Sorts.{Shape, OfClass}
use Rattle.cjc_card_semantics.specs.Script.Sorts as sorts
use Rattle.cjc_card_semantics.specs.Machine.Classes.{is_of}
use Rattle.cjc_card_semantics.specs.Machine.Classes as card
use Rattle.cjc_card_semantics.specs.Machine.Dispatch.{At, Outward, Selection}
use Rattle.cjc_card_semantics.specs.Machine.Loaded.{Loaded}
use Rattle.cjc_card_acts.specs.CardTypes.{both_of, shape_by}
use Rattle.cjc_components.specs.Descriptor.{method_flags, method_in, methods_with_added, no_member}
use Rattle.cjc_token_proof.specs.NCode.Lowering.Naming.{Naming}
use Rattle.cjc_components.specs.Package.{Package}
use Rattle.cjc_token_proof.specs.Calls.Dispatching.{event, selection_of}
use Rattle.cjc_verify.specs.ClassTypes.{class_type}
use Rattle.cjc_verify.specs.Named.{holder_in, is_static_described}
use Rattle.cjc_verify.specs.Pairs.{Described, Pair, described, described_among, described_in, member_of, method_at}
use Rattle.cjc_verify.specs.Pairs.{method_offset, same_found}
use Rattle.cjc_verify.specs.Pairs as pairs
use Rattle.cjc_verified_proof.specs.Checked.{Checked, HasCode, IsChecked, pair}
use Rattle.cjc_verified_proof.specs.Dispatching.{offset_in, package_of}
use Rattle.cjc_verified_proof.specs.Kept.{KeepsCalls}
use Rattle.cjc_verified_proof.specs.Selecting.{HasDesc, IsOf, of_file, of_package}
use Rattle.cjc_bytes.proofs.Bools.{and_true, not_true}
use Rattle.cjc_bytes.proofs.Gets.{drop_past, find_got, get_below, get_inside}
use Rattle.cjc_bytes.proofs.Numbers.{number_same, number_same_number, other_number}
use Rattle.cjc_bytes.proofs.Plain.{same_some}
use Rattle.cjc_token_proof.proofs.TablesLaws.Clean.{own_name}
use Rattle.cjc_token_proof.proofs.TablesLaws.Named.{has_entry}
use Rattle.cjc_token_proof.proofs.TablesLaws.Order.{order_in}
use Rattle.cjc_token_proof.proofs.WrittenCalls.Facts.{Facts}
use Rattle.cjc_token_proof.proofs.WrittenCalls.Files.{export_from}
use Rattle.cjc_token_proof.proofs.WrittenCalls.Known.{facts as known}
use Rattle.cjc_verified_proof.proofs.BodyLaws.{body_stands}
use Rattle.cjc_verified_proof.proofs.OrderedLaws.{ordered}
use Rattle.cjc_verified_proof.proofs.DescribedLaws.{body_own, either_part, find_there, fits, in_got, own_found}
use Rattle.cjc_verified_proof.proofs.FixedLaws.{method_signed}
use Rattle.cjc_verified_proof.proofs.HoldsLaws.{Holds, under_on}
use Rattle.cjc_verified_proof.proofs.KindLaws as kinds
use Rattle.cjc_verified_proof.proofs.NameLaws.{holder_there, own_meant, starts_low}
use Rattle.cjc_verified_proof.proofs.NamingLaws.{n as names}
use Rattle.cjc_verified_proof.proofs.PlaceLaws.{all_read, found_token}
use Rattle.cjc_verified_proof.proofs.ReachLaws.{among_there, as_described}
use Rattle.cjc_token_proof.proofs.WrittenCalls.Flags.{static_same}

-- ---- methods of classes

-- they are of their class
abbrev IsMine : Class → Found → Type 0
IsMine c f = (f.imported ≡ c.is_imported) × (f.class ≡ c.number)

written_mine : (c : Class) (at : ℕ) (ms : List Member) (k : ℕ) (f : Found) → slice_get (written c at ms) k ≡ Some f
    → IsMine c f
written_mine c at [] k f e = absurd cc
written_mine c at (m ∷ ms) k f e = by (bytes_eq m.name (codes "<clinit>")) k e (written_mine c (at + 1) ms)
  where
    by : (b : Bool) (k : ℕ) → slice_get (if b then written c (at + 1) ms else member_at c at ∷ written c (at + 1) ms) k
        ≡ Some f → ((j : ℕ) (g : Found) → slice_get (written c (at + 1) ms) j ≡ Some g → IsMine c g) → IsMine c f
    by true k g rest = rest k f g
    by false zero g rest = (
      ap (λ (v : Found). v.imported) (sym (same_some g)),
      ap (λ (v : Found). v.class) (sym (same_some g)),
    )
    by false (suc k) g rest = rest k f g

places_mine : (c : Class) (at n k : ℕ) (f : Found) → slice_get (places c at n) k ≡ Some f → IsMine c f
places_mine c at zero k f e = absurd cc
places_mine c at (suc n) zero f e = (
  ap (λ (v : Found). v.imported) (sym (same_some e)),
  ap (λ (v : Found). v.class) (sym (same_some e)),
)
places_mine c at (suc n) (suc k) f e = places_mine c (at + 1) n k f e

methods_mine : (w : List Class) (c : Class) (k : ℕ) (f : Found) → slice_get (methods_of_class w c) k ≡ Some f
    → IsMine c f
methods_mine w c k f e = ⊎_elim (λ h. written_mine c (length c.fields) c.methods k f h)
    (λ h. places_mine c (length c.fields + length c.methods) (length (added w c)) h.0 f h.1)
    (either_part (written c (length c.fields) c.methods) (places c (length c.fields + length c.methods)
    (length (added w c))) k f e)

-- a method among all stands in its class
record Among (w order : List Class) (xs : List ClassDescriptor) (d : Described) : Type 0 where
  number : ℕ
  ordered : slice_get order number ≡ Some d.class
  descriptor : ClassDescriptor
  listed : slice_get xs number ≡ Some descriptor
  holder : descriptor.this_class ≡ d.holder
  place : ℕ
  member : slice_get (methods_of_class w d.class) place ≡ Some d.member

among_is : (w order : List Class) (xs : List ClassDescriptor) (k : ℕ) (d : Described) → slice_get (described_among w
    order xs) k ≡ Some d → Among w order xs d
among_is w [] xs k d e = absurd cc
among_is w (c ∷ order) [] k d e = absurd cc
among_is w (c ∷ order) (x ∷ xs) k d e = ⊎_elim
    (λ a. (let g = in_got c x.this_class (methods_of_class w c) x.methods k d a in subst (Among w (c ∷ order) (x ∷
    xs)) g.4
    (record {
      number = 0;
      ordered = refl;
      descriptor = x;
      listed = refl;
      holder = refl;
      place = k;
      member = g.2;
    })))
    (λ b. (let r = among_is w order xs b.0 d b.1 in record {
      number = suc r.number;
      ordered = r.ordered;
      descriptor = r.descriptor;
      listed = r.listed;
      holder = r.holder;
      place = r.place;
      member = r.member;
    }))
    (either_part (described_in c x.this_class (methods_of_class w c) x.methods) (described_among w order xs) k d e)

-- ---- the same member

found_is : (a b : Found) → a.imported ≡ b.imported → a.class ≡ b.class → a.member ≡ b.member → a ≡ b
found_is a b e f g = ap (λ v. record { imported = v; class = a.class; member = a.member }) e
    ∙ ap (λ v. record { imported = b.imported; class = v; member = a.member }) f
    ∙ ap (λ v. record { imported = b.imported; class = b.class; member = v }) g

same_back : (a b : Found) → same_found a b ≡ true → a ≡ b
same_back a b e =
    let three = and_true (not a.imported && not b.imported && (a.class == b.class)) (a.member == b.member) e in
    let two = and_true (not a.imported && not b.imported) (a.class == b.class) three.0 in
    let one = and_true (not a.imported) (not b.imported) two.0 in
    found_is a b (not_true a.imported one.0 ∙ sym (not_true b.imported one.1)) (number_same a.class b.class two.1)
    (number_same a.member b.member three.1)

same_itself : (a : Found) → a.imported ≡ false → same_found a a ≡ true
same_itself a e =
    ap (λ b. not b && not b && (a.class == a.class) && (a.member == a.member)) e
    ∙ ap (λ b. b && (a.member == a.member)) (number_same_number a.class a.class refl)
    ∙ number_same_number a.member a.member refl

class_has : (cs : List Class) (b : Bool) (k : ℕ) (d : Class) → world.class_at cs b k ≡ Some d → Has d cs
unfolding class_at
class_has [] b k d e = cc
class_has (c ∷ cs) b k d e = by (is_at b k c) e (class_has cs b k d)
  where
    by : (t : Bool) → (if t then Some c else world.class_at cs b k) ≡ Some d → (world.class_at cs b k ≡ Some d → Has d
        cs)
        → Has d (c ∷ cs)
    by true f rest = subst (λ z. Has d (z ∷ cs)) (sym (same_some f)) at_front
    by false f rest = behind (rest f)

module _ (c : Checked) (ok : IsChecked c) (has : HasCode c) (keep : KeepsCalls c) where
  abbrev p : Pair
  p = pair c

  abbrev l : Loaded
  l = p.loaded

  abbrev w : List Class
  w = all_classes c.files

  abbrev q : Package
  q = package_of c.list c.files c.image

  abbrev n : Naming
  n = names c.name c.list c.files c.image c.components ok.sound ok.paired ok.verified

  abbrev applets : Bool
  applets = let t = c.list in nat_lt 0 (length t.applets)

  abbrev ds : List ClassDescriptor
  ds = let x = c.components in let d = x.descriptor in d.classes

  pub facts : Facts q
  facts =
      let a = keep.agree in
      let k = a.calls in
      known c.name q ok.sound (λ f. omega arith) a.exports a.keeps a.are_supertypes a.one_supertypes k.virtual_calls
      k.interface_calls k.tokens

  abbrev pub Held : List ℕ → Signature → Found → Type 0
  Held x s f = Holds q facts x s f

  abbrev pub OfClassStands : Class → Type 0
  OfClassStands k = kinds.Stands c.name c.list c.files c.image c.components ok.sound ok.paired ok.verified k

  -- a thing of this kind counts as an object of a class
  abbrev pub IsAlike : List ℕ → Shape card.Class → Type 0
  IsAlike x kind = (d : card.Class) → both_of l (Some kind) (Some (OfClass d)) ≡ is_of l (OfClass (n.class x))
      (OfClass d)

  -- on objects of a class and of those below it, a receiver is of the class that holds what is selected
  abbrev pub AreOf : List ℕ → Selection → Type 0
  AreOf x sel = (v : List ℕ) (k : Class) → class_named w v ≡ Some k → Under w v x → (kind : Shape card.Class) →
      IsAlike v
      kind → IsOf p kind sel

  -- ---- methods of the package

  -- what Descriptor says of a method that a class of the package holds
  pub record IsListed (z : Class) (f : Found) : Type 0 where
    pub described : Described
    pub index : ℕ
    pub among : slice_get (pairs.described p) index ≡ Some described
    pub member : described.member ≡ f
    pub class : described.class ≡ z
    pub offset : (let m = described.method in m.offset) ≡ method_offset p f
    pub stands : OfClassStands z
    pub holder : described.holder ≡ Inside stands.offset

  module _ (x : List ℕ) (s : Signature) (f : Found) (h : Held x s f) where
    abbrev z : Class
    z = h.class

    mine : f.imported ≡ false
    mine = ap (λ (v : Found). v.imported) h.is ∙ h.own

    abbrev test : Described → Bool
    test d = same_found d.member f

    stood : OfClassStands z
    stood = kinds.own_stands c.name c.list c.files c.image c.components ok.sound ok.paired ok.verified z.name z
        h.known h.own

    there : (j : ℕ) × (d : Described) × (slice_get (described p) j ≡ Some d) × (test d ≡ true)
    there =
        let at = stood in
        let d = holder_there c.components (ordered c.components ok.described) at.number at.offset at.starts in
        let b = fits applets c.files c.image c.components has.whole (ordered c.components ok.described) ok.paired
        ok.verified at.number d.0
        d.1 in
        let same : b.class ≡ z = same_some (sym b.in_order ∙ at.ordered) in
        let below = get_below (methods_of_class w z) h.number f h.listed in
        let many = b.count ∙ ap (λ v. length (methods_of_class w v)) same in
        let m = get_inside (let y = d.0 in y.methods) h.number (omega (arith, below, many)) in
        let a = among_there w (class_order w) ds at.number z d.0 at.ordered d.1 h.number f m.0 h.listed m.1 in
        (a.0, as_described z (let y = d.0 in y.this_class) f m.0, a.1, same_itself f mine)

    pub listed : IsListed z f
    listed =
        let t = there in
        let one = find_there test (described p) t.0 t.1 t.2 t.3 in
        let g = find_got test (described p) one.0 one.1 in
        let d = one.0 in
        let member = same_back d.member f g.2 in
        let a = among_is w (class_order w) ds g.0 d g.1 in
        let e = d.class in
        let own = methods_mine w e a.place d.member a.member in
        let o = order_in c.name c.files ok.sound e (get-has e (class_order w) a.number a.ordered) in
        let name = own_name c.name c.files ok.sound e o.0 in
        let placed = facts.placed e.name e name in
        let placed_z = facts.placed z.name z h.known in
        let kind : e.is_imported ≡ z.is_imported = sym own.0 ∙ ap (λ (v : Found). v.imported) (member ∙ h.is) in
        let number : e.number ≡ z.number = sym own.1 ∙ ap (λ (v : Found). v.class) (member ∙ h.is) in
        let same : e ≡ z = same_some (sym placed ∙ ap (λ b. world.class_at w b e.number) kind
        ∙ ap (world.class_at w z.is_imported) number ∙ placed_z) in
        let b = fits applets c.files c.image c.components has.whole (ordered c.components ok.described) ok.paired
        ok.verified a.number
        a.descriptor a.listed in
        let st = kinds.ordered_at c.name c.list c.files c.image c.components ok.sound ok.paired ok.verified a.number
        b.offset z (a.ordered ∙ ap (λ v. Some v) same) b.starts in
        record {
          described = d;
          index = g.0;
          among = g.1;
          member = member;
          class = same;
          offset = sym (ap (λ o. unwrap_or (option_map (λ (d : Described). let m = d.method in m.offset) o) 0) one.1);
          stands = st.0;
          holder = sym a.holder ∙ b.holder ∙ ap (λ o. Inside o) (sym st.1);
        }

    -- its place in Method
    pub record IsPlaced (d : Described) : Type 0 where
      pub offset : ℕ
      pub is : offset ≡ (let m = d.method in m.offset)
      pub low : offset < 0xFFFF
      pub start : is_method_start c.components offset ≡ true
      pub at : method_at p offset ≡ Some d
      pub unbound : is_static_described d ≡ false

    pub item_so : method_in w z f.member ≡ h.item
    item_so =
        let i : f.member - length z.fields ≡ h.place = (let e = ap (λ (v : Found). v.member) h.is in omega (arith, e))
        in
        ap (λ k. unwrap_or (slice_get (methods_with_added w z) k) no_member) i
        ∙ ap (λ o. unwrap_or o no_member) h.there

    member_so : (d : Described) → d.class ≡ z → d.member ≡ f → member_of p d ≡ h.item
    member_so d e g = ap (λ (v : Class). method_in w v (let y = d.member in y.member)) e
        ∙ ap (λ (v : Found). method_in w z v.member) g ∙ item_so

    pub placed : (let i = listed in IsPlaced i.described)
    placed =
        let i = listed in
        let d = i.described in
        let m = d.method in
        let plain : not (is_interface (let k = d.class in k.flags)) ≡ true = ap (λ (v : Class). not (is_interface
        v.flags))
        i.class ∙ ap not h.plain in
        let o = own_found applets c.files c.image c.components has.whole (ordered c.components ok.described) ok.paired
        ok.verified i.index d
        i.among plain in
        let b = o.1 in
        let st = body_stands c.components has.whole o.0 b o.2 in
        let at = st.at in
        let cut = at.is_cut in
        let x = c.components in
        let bytes = (let y = x.method in y.methods) in
        let y = b.method in
        let offset_same : y.offset ≡ m.offset = ap (λ (v : MethodDescriptor). v.offset) o.3 in
        let begins = at.begins in
        let within = inside bytes (y.offset - methods_begin x) cut.header cut.is_header in
        let size = (let k = keep.sized in k.method) in
        let own = body_own applets c.files c.image c.components has.whole (ordered c.components ok.described)
        ok.paired ok.verified o.0 b o.2
        in
        let same : own.described ≡ d = same_some (sym own.found ∙ ap (λ (v : MethodDescriptor). method_at p v.offset)
        o.3
        ∙ o.4) in
        let said = own.said in
        let flags : m.flags ≡ method_flags h.item = ap (λ (v : Described). let g = v.method in g.flags) (sym same)
        ∙ said.flags ∙ ap method_flags (ap (member_of p) same ∙ member_so d i.class i.member) in
        record {
          offset = m.offset;
          is = refl;
          low = omega (arith, begins, within, size, offset_same);
          start = ap (λ b. not b && list_any (λ (v : MethodDescriptor). v.offset == m.offset) (class_methods x))
              (other_number m.offset 0 (λ e. omega (arith, begins, offset_same, e)))
              ∙ any_passes_from_place (λ (v : MethodDescriptor). v.offset == m.offset) (class_methods x) o.0 y st.method
              (number_same_number y.offset m.offset offset_same);
          at = o.4;
          unbound = ap is_static flags ∙ static_same h.item ∙ h.unbound;
        }
      where
        inside : (bytes : List ℕ) (k : ℕ) (x : MethodHeader) → method_header (drop k bytes) ≡ Some x → k < length bytes
        inside bytes k x e = by (nat_lt k (length bytes)) refl
          where
            by : (b : Bool) → nat_lt k (length bytes) ≡ b → k < length bytes
            by true f = grind (arith, nat_tests, f)
            by false f =
                let far : length bytes ≤ k = grind (arith, nat_tests, f) in
                let none : None ≡ Some x = sym (ap method_header (drop_past bytes k far)) ∙ e in
                absurd cc

    -- two bytes say its offset
    pub offset_low : method_offset p f < 0xFFFF
    offset_low =
        let i = listed in
        let a = placed in
        let low = a.low in
        let is = a.is in
        let same = i.offset in
        omega (arith, low, is, same)

    offset_same : (let a = placed in a.offset) ≡ offset_in p f
    offset_same =
        let i = listed in
        let a = placed in
        let low = offset_low in
        let test : nat_lt (method_offset p f) 0xFFFF ≡ true = grind (arith, nat_tests, low) in
        a.is ∙ i.offset ∙ sym (ap (λ b. if b then method_offset p f else 0) test)

    -- it is a method of the descriptor, not static
    pub held_desc : HasDesc p s.desc (At 0 (offset_in p f))
    held_desc =
        let i = listed in
        let a = placed in
        let d = i.described in
        subst (λ o. HasDesc p s.desc (At 0 o)) offset_same (of_package a.offset d a.start a.at (ap (λ (v : Member).
        v.desc)
        (member_so d i.class i.member) ∙ ap (λ (v : Signature). v.desc) h.called) a.unbound)

    -- the class that holds it
    pub held_by : shape_by l (holder_in (method_at p (offset_in p f))) ≡ Some (OfClass (n.class z.name))
    held_by =
        let i = listed in
        let a = placed in
        let t = i.stands in
        let low = starts_low applets c.files c.image c.components (ordered c.components ok.described) has.refs
        has.counted t.number t.offset
        t.starts in
        let meant = own_meant applets c.files c.image c.components (ordered c.components ok.described) has.refs
        has.counted t.number t.offset
        t.starts in
        ap (λ o. shape_by l (holder_in (method_at p o))) (sym offset_same) ∙ ap (λ o. shape_by l (holder_in o)) a.at
        ∙ ap (λ r. shape_by l (class_type r)) i.holder ∙ ap (option_map OfClass) (all_read l (Inside t.offset) low ∙
        meant)
        ∙ ap (λ k. Some (OfClass k)) (sym t.on_card)

    -- an object of a class at or below it is of it
    pub held_is_of : (v : List ℕ) (k : Class) → class_named w v ≡ Some k → Under w v x → (kind : Shape card.Class)
        → IsAlike v kind → IsOf p kind (At 0 (offset_in p f))
    held_is_of v k e under kind alike = ap (both_of l (Some kind)) held_by ∙ alike (n.class z.name) ∙ kinds.under_of
        c.name
        c.list c.files c.image c.components ok.sound ok.paired ok.verified v z.name k z e h.known (under_on w v x z.name
        under h.under)

  -- ---- imported methods

  -- they have descriptors of methods
  pub imported_signed : (s : Signature) (f : Found) → f.imported ≡ true → named w f ≡ Some s → (t : sorts.Signature)
      × (sorts.signature_of s.desc ≡ Some t)
  unfolding named
  imported_signed s f is e = by (world.class_at w f.imported f.class) refl e
    where
      at : (d : Class) → world.class_at w f.imported f.class ≡ Some d → (o : Option Member) → (k : ℕ)
          → slice_get d.methods k ≡ o → option_map signature_of o ≡ Some s → (t : sorts.Signature)
          × (sorts.signature_of s.desc ≡ Some t)
      at d there None k g h = absurd cc
      at d there (Some m) k g h =
          let kind = at-kind w f.imported f.class d there in
          let imp : d.is_imported ≡ true = kind.0 ∙ is in
          let y = has_entry c.name q ok.sound d (class_has w f.imported f.class d there) imp in
          let x = y.entry in
          let r = export_from x.methods k m (sym (ap (λ (v : Class). slice_get v.methods k) y.class) ∙ g) in
          let files = c.files in
          let found : check.imported files.exports y.file x.token ≡ Some x = ap (option_and_then (class_with x.token))
          y.in_list ∙ found_token (let t = y.tree in t.classes) x.token ∙ sym (ap (option_and_then (λ (t : ExportTree).
          card.with_token t.classes x.token)) y.in_list) ∙ y.there in
          let sig = method_signed files.exports has.written y.file x.token x found k r.0 r.1 in
          let same : (let v = r.0 in v.desc) ≡ s.desc = ap (λ (v : Member). v.desc) r.2 ∙ ap (λ (v : Signature). v.desc)
          (same_some h) in
          (sig.0, ap sorts.signature_of (sym same) ∙ sig.1)

      methods_so : (d : Class) → world.class_at w f.imported f.class ≡ Some d → d.methods ++ added w d ≡ d.methods
      methods_so d there =
          let kind = at-kind w f.imported f.class d there in
          ap (λ ms. d.methods ++ ms) (added-none w d (kind.0 ∙ is)) ∙ Rattle.std.proofs.Common.append-nil d.methods

      by_member : (d : Class) → world.class_at w f.imported f.class ≡ Some d → (b : Bool) → (if b then None
          else method_named w d (f.member - length d.fields)) ≡ Some s → (t : sorts.Signature)
          × (sorts.signature_of s.desc ≡ Some t)
      by_member d there true g = absurd cc
      by_member d there false g = at d there (slice_get d.methods (f.member - length d.fields)) (f.member
          - length d.fields) refl (ap (λ ms. option_map signature_of (slice_get ms (f.member - length d.fields))) (sym
          (methods_so d there)) ∙ g)

      by : (o : Option Class) → world.class_at w f.imported f.class ≡ o → option_and_then (member_named w f.member) o
          ≡ Some s → (t : sorts.Signature) × (sorts.signature_of s.desc ≡ Some t)
      by None there g = absurd cc
      by (Some d) there g = by_member d there (nat_lt f.member (length d.fields)) g

  -- ---- what is selected

  -- what is held or imported has the descriptor, and a receiver is of the class that holds it
  pub selected : (x : List ℕ) (s : Signature) (f : Found) → named w f ≡ Some s → (f.imported ≡ false → Held x s f)
      → (foot : List ℕ) → HasDesc p s.desc (selection_of n (offset_in p) foot s f) × AreOf x (selection_of n
      (offset_in p)
      foot s f)
  selected x s f is held foot = by f.imported refl
    where
      by : (b : Bool) → f.imported ≡ b → HasDesc p s.desc (if b then Outward (event foot s) else At 0 (offset_in p f))
          × AreOf x (if b then Outward (event foot s) else At 0 (offset_in p f))
      by true g = (let t = imported_signed s f g is in (
        of_file (event foot s) t.0 refl t.1,
        λ v k e under kind alike. tt,
      ))
      by false g = (
        held_desc x s f (held g),
        λ v k e under kind alike. held_is_of x s f (held g) v k e under kind alike,
      )
