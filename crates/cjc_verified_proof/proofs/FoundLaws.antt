-- The token of a virtual method that a name finds in a class, or in a class above it, is that of the method's slot
-- there.
use Rattle.std.proofs.Common.{◌≡◌, ℕ, zero, suc, ◌+◌, ◌-◌, ◌^◌, ◌<◌, ◌≤◌, ◌==◌, refl, sym, ap, subst, ◌∙◌, arith, Bool}
use Rattle.std.proofs.Common.{true, false, List, [], ◌∷◌, ◌++◌, length, map, slice_get, Option, Some, None, nat_lt}
use Rattle.std.specs.Prelude.{◌||◌, ◌&&◌, not, if◌then◌else◌, is_some, option_map, unwrap_or}
use Rattle.std.specs.Str.{bytes_eq}
use Rattle.cjc_bytes.specs.declared.fault.MemberId.{MemberId}
use Rattle.cjc_bytes.specs.AccessFlags.{has, is_interface, is_private, is_static}
use Rattle.cjc_capread.specs.declared.tree.ClassDescriptor.{ClassDescriptor}
use Rattle.cjc_capread.specs.declared.tree.MethodDescriptor.{MethodDescriptor}
use Rattle.cjc_check_rules.specs.Codes.{whole_spots}
use Rattle.cjc_check_rules.specs.Complete.{Complete}
use Rattle.cjc_check_rules.specs.Described.{all_starts, classes_in_order}
use Rattle.cjc_verify.specs.List.Listed.{ListTree}
use Rattle.cjc_world.specs.ExportFile.Supers as exports
use Rattle.cjc_world.specs.ExportFile.Supers.{virtual_method}
use Rattle.cjc_world.specs.ExportFile.declared.tree.ExportClass.{ExportClass}
use Rattle.cjc_world.specs.ExportFile.declared.tree.ExportMethod.{ExportMethod}
use Rattle.cjc_world.specs.declared.found.Found.{Found}
use Rattle.cjc_world.specs.declared.image.StaticImage.{StaticImage}
use Rattle.cjc_world.specs.Added.{added}
use Rattle.cjc_world.specs.Classes.{Class, Member, all_classes, class_named, imported}
use Rattle.cjc_world.specs.Files.{Files}
use Rattle.cjc_world.specs.Lookup.{first, member_at, own_method}
use Rattle.cjc_world.specs.Order.{class_order, written}
use Rattle.cjc_world.specs.Supertypes.{Lists, foremost, line, supertypes, upwards}
use Rattle.cjc_world.proofs.Cycles.{class_named-name}
use Rattle.cjc_tokens.proofs.Walks.{supertypes-known}
use Rattle.cjc_tokens.specs.Lines.{Declared, line_in, line_of}
use Rattle.cjc_tokens.specs.Members.{In, Signature, all_methods, is_constructor, is_hidden, is_initialiser, is_shown}
use Rattle.cjc_tokens.specs.Members.{is_virtual, signature_of}
use Rattle.cjc_tokens.specs.Slots.{hidden_slots, slots, token}
use Rattle.cjc_token_proof.specs.VTable.Calls.{any_method, finds_hidden, finds_shown, passes}
use Rattle.cjc_tokens.specs.Members.{chosen}
use Rattle.cjc_token_proof.specs.VTable.Laws.{Under, below, itself}
use Rattle.cjc_card_semantics.specs.Machine.Calls.{acc_constructor, described_token, found_token, listed_token}
use Rattle.cjc_card_semantics.specs.Machine.Calls.{token_in_files, token_or}
use Rattle.cjc_card_semantics.specs.Machine.Calls as machine
use Rattle.cjc_card_semantics.specs.Machine.Classes.{External, Own, superclass_by}
use Rattle.cjc_card_semantics.specs.Machine.Classes as card
use Rattle.cjc_card_semantics.specs.Machine.Dispatch.{Hidden, Open, Token, exported_line}
use Rattle.cjc_card_semantics.specs.Machine.Loaded.{Loaded}
use Rattle.cjc_components.specs.Descriptor.{as_added, method_descriptor, method_flags, method_in, methods_with_added}
use Rattle.cjc_components.specs.Descriptor.{no_member}
use Rattle.cjc_components.specs.Class.{interface_entry}
use Rattle.cjc_components.specs.Methods.{method_offset as written_offset}
use Rattle.cjc_components.specs.Names.{class_at}
use Rattle.cjc_token_proof.specs.NCode.Lowering.Naming.{Naming}
use Rattle.cjc_components.specs.Package.{Package}
use Rattle.cjc_components.specs.Paired.Pairs.{ArePaired}
use Rattle.cjc_token_proof.specs.Calls.Dispatching.{SaysTower, of_file, of_package}
use Rattle.cjc_token_proof.specs.Calls.Selecting.{signature}
use Rattle.cjc_token_proof.specs.Tables.Infos.{HasEntry}
use Rattle.cjc_token_proof.specs.Tables.Loading.{loaded, naming, part}
use Rattle.cjc_token_proof.specs.Tables.Sound.{IsSound}
use Rattle.cjc_token_proof.specs.WrittenCalls.Calls.{KeepsTokens}
use Rattle.cjc_verify.specs.Described.{member_token}
use Rattle.cjc_verify.specs.Named.{first_of}
use Rattle.cjc_verify.specs.Pairs.{Pair, class_ref, member_of, pair_of}
use Rattle.cjc_verify.specs.Verified.{IsVerified}
use Rattle.cjc_verify.specs.WantedInfos.{wanted_entry}
use Rattle.cjc_verified_proof.specs.Dispatching.{FilesAgree, naming_of, package_of}
use Rattle.cjc_bytes.proofs.Bools.{and_true}
use Rattle.cjc_bytes.proofs.Gets.{in_front}
use Rattle.cjc_bytes.proofs.Lists.{bytes_true}
use Rattle.cjc_bytes.proofs.Numbers.{number_same_number}
use Rattle.cjc_bytes.proofs.Plain.{same_some}
use Rattle.cjc_token_proof.proofs.TablesLaws.Above.{says_kinds}
use Rattle.cjc_token_proof.proofs.WrittenCalls.Facts.{Facts, exported}
use Rattle.cjc_token_proof.proofs.WrittenCalls.Files as files_of
use Rattle.cjc_token_proof.proofs.WrittenCalls.Found as founds
use Rattle.cjc_token_proof.proofs.WrittenCalls.Towers.{line_is}
use Rattle.cjc_token_proof.proofs.WrittenSends.Found as sought
use Rattle.cjc_token_proof.proofs.WrittenSends.Order.{class_token, classes_token, listed_is, upwards_token}
use Rattle.cjc_token_proof.proofs.WrittenSends.Tokens.{bound_described, hidden_described, shown_described}
use Rattle.cjc_token_proof.proofs.WrittenSends.Tokens.{virtual_kinds}
use Rattle.cjc_verified_proof.proofs.DescribedLaws.{described_said, find_there}
use Rattle.cjc_verified_proof.proofs.NamingLaws.{kinds, number_alike, own_info, ref_same}
use Rattle.cjc_verified_proof.proofs.ReachLaws.{IsNamed, declared_named}

-- ---- tokens of methods

-- The token is that of the method of a signature in a class: of its slot, or, of a package-visible method that an
-- export
-- file lists, the one of the file.
pub data IsTokenOf (es : List ExportClass) (w : List Class) (y : List ℕ) (s : Signature) : Token → Type 0 where
  of_open : (t : ℕ) → token (slots (line_of w y)) s ≡ Some t → IsTokenOf es w y s (Open t)
  of_hidden : (t : ℕ) → t < 128 → token (hidden_slots (line_of w y)) s ≡ Some t → IsTokenOf es w y s (Hidden 0 t)
  of_import : (k : ℕ) (e : ExportClass) (m : Member) → class_named w y ≡ Some (imported k e) → (let d = imported k e
      in In m (d.methods ++ all_methods (upwards (supertypes w d.supers)))) → is_hidden m ≡ true → signature_of m ≡ s
      → (f : Found) → first (own_method true s.name s.desc) (line w y) ≡ Some f → (v : ExportMethod)
      → first_of (virtual_method m.token) (e ∷ exports.upwards es e.supers) ≡ Some v → IsTokenOf es w y s (Open m.token)

-- A class at or above another has a method of the token.
pub record HasToken (es : List ExportClass) (w : List Class) (x : List ℕ) (s : Signature) (t : Token) : Type 0 where
  pub name : List ℕ
  pub class : Class
  pub there : class_named w name ≡ Some class
  pub class_here : is_interface class.flags ≡ false
  pub under : Under w x name
  pub is : IsTokenOf es w name s t

-- ---- export files

-- the virtual method of a token that an export file lists by a name
pub record IsListed (ms : List ExportMethod) (id : MemberId) (t : ℕ) : Type 0 where
  pub place : ℕ
  pub method : ExportMethod
  pub there : slice_get ms place ≡ Some method
  pub desc : method.desc ≡ id.desc
  pub virtual : exports.is_virtual method ≡ true
  pub token : method.token ≡ t

pub listed_there : (ms : List ExportMethod) (id : MemberId) (t : ℕ) → listed_token ms id ≡ Some (Some t)
    → IsListed ms id t
listed_there [] id t e = absurd cc
listed_there (m ∷ ms) id t e = by (bytes_eq m.name id.name && bytes_eq m.desc id.desc) refl e (listed_there ms id t)
  where
    virtual : (b : Bool) → exports.is_virtual m ≡ b → (if b then Some m.token else None) ≡ Some t →
        (exports.is_virtual m
        ≡ true) × (m.token ≡ t)
    virtual true is f = (is, same_some f)
    virtual false is f = absurd cc

    by : (b : Bool) → (bytes_eq m.name id.name && bytes_eq m.desc id.desc) ≡ b → (if b then Some
        (if exports.is_virtual m
        then Some m.token else None) else listed_token ms id) ≡ Some (Some t) → (listed_token ms id ≡ Some (Some t)
        → IsListed ms id t) → IsListed (m ∷ ms) id t
    by true is f more =
        let v = virtual (exports.is_virtual m) refl (same_some f) in
        record {
          place = 0;
          method = m;
          there = refl;
          desc = bytes_true m.desc id.desc (and_true (bytes_eq m.name id.name) (bytes_eq m.desc id.desc) is).1;
          virtual = v.0;
          token = v.1;
        }
    by false is f more =
        let r = more f in
        record {
          place = suc r.place;
          method = r.method;
          there = r.there;
          desc = r.desc;
          virtual = r.virtual;
          token = r.token;
        }

both_true : (a b : Bool) → a ≡ true → b ≡ true → (a && b) ≡ true
both_true true b e f = f
both_true false b e f = absurd cc

-- the first of some classes with a virtual method of a token that they list
line_given : (xs : List ExportClass) (id : MemberId) (t : ℕ) → token_in_files xs id ≡ Some (Some t) → (v : ExportMethod)
    × (first_of (virtual_method t) xs ≡ Some v)
line_given [] id t e = absurd cc
line_given (x ∷ xs) id t e = by (listed_token x.methods id) refl e (line_given xs id t)
  where
    later : (o : Option ExportMethod) → virtual_method t x ≡ o → (v : ExportMethod) × (first_of (virtual_method t) xs
        ≡ Some v) → (v : ExportMethod) × (first_of (virtual_method t) (x ∷ xs) ≡ Some v)
    later None is r = (r.0, ap (λ o. card.or_else o (first_of (virtual_method t) xs)) is ∙ r.1)
    later (Some v) is r = (v, ap (λ o. card.or_else o (first_of (virtual_method t) xs)) is)

    by : (o : Option (Option ℕ)) → listed_token x.methods id ≡ o → card.or_else o (token_in_files xs id)
        ≡ Some (Some t) → (token_in_files xs id ≡ Some (Some t) → (v : ExportMethod) × (first_of (virtual_method t) xs
        ≡ Some v)) → (v : ExportMethod) × (first_of (virtual_method t) (x ∷ xs) ≡ Some v)
    by None is f more = later (virtual_method t x) refl (more f)
    by (Some o) is f more =
        let r = listed_there x.methods id t (is ∙ f) in
        let m = r.method in
        let has = find_there (λ (y : ExportMethod). exports.is_virtual y && (y.token == t)) x.methods r.place m r.there
        (both_true (exports.is_virtual m) (m.token == t) r.virtual (number_same_number m.token t r.token)) in
        (has.0, ap (λ o. card.or_else o (first_of (virtual_method t) xs)) has.1)

-- by the flags and the token of Descriptor
abbrev by_parts : (flags token : ℕ) → Option Token
by_parts flags t = if is_static flags || (is_private flags || has flags acc_constructor) then None
    else (if nat_lt t 0x80 then Some (Open t) else Some (Hidden 0 (t - 0x80)))

-- numbers of package-visible methods are those of a byte without its high bit
hidden_low : (bound : Bool) (n t : ℕ) → n < 2 ^ 8 → (if bound then None else (if nat_lt n 0x80 then Some (Open n)
    else Some (Hidden 0 (n - 0x80)))) ≡ Some (Hidden 0 t) → t < 128
hidden_low true n t small e = absurd cc
hidden_low false n t small e = by (nat_lt n 0x80) e
  where
    by : (b : Bool) → (if b then Some (Open n) else Some (Hidden 0 (n - 0x80))) ≡ Some (Hidden 0 t) → t < 128
    by true f = absurd cc
    by false f = (let same : n - 0x80 ≡ t = hidden_at (same_some f) in omega (arith, small, same))
      where
        hidden_at : {a b : ℕ} → Hidden 0 a ≡ Hidden 0 b → a ≡ b
        hidden_at g = cc

-- what stands among the methods of a class but its initialiser
pub written_got : (c : Class) (at : ℕ) (ms : List Member) (k : ℕ) (f : Found) → slice_get (written c at ms) k ≡ Some f
    → (i : ℕ) × (m : Member) × (slice_get ms i ≡ Some m) × (f ≡ member_at c (at + i))
    × (is_initialiser m.name ≡ false)
written_got c at [] k f e = absurd cc
written_got c at (m ∷ ms) k f e = by (is_initialiser m.name) refl k e (λ j h. written_got c (at + 1) ms j f h)
  where
    up : (n : ℕ) → at + 1 + n ≡ at + suc n
    up n = omega arith

    none : member_at c at ≡ member_at c (at + 0)
    none = let z : at ≡ at + 0 = omega arith in ap (member_at c) z

    by : (b : Bool) → is_initialiser m.name ≡ b → (k : ℕ)
        → slice_get (if b then written c (at + 1) ms else member_at c at ∷ written c (at + 1) ms) k ≡ Some f
        → ((j : ℕ) → slice_get (written c (at + 1) ms) j ≡ Some f → (i : ℕ) × (x : Member) × (slice_get ms i ≡ Some x)
        × (f ≡ member_at c (at + 1 + i)) × (is_initialiser x.name ≡ false))
        → (i : ℕ) × (x : Member) × (slice_get (m ∷ ms) i ≡ Some x) × (f ≡ member_at c (at + i))
        × (is_initialiser x.name ≡ false)
    by true is k h more = let r = more k h in (suc r.0, r.1, r.2, r.3 ∙ ap (member_at c) (up r.0), r.4)
    by false is zero h more = (0, m, refl, sym (same_some h) ∙ none, is)
    by false is (suc k) h more = let r = more k h in (suc r.0, r.1, r.2, r.3 ∙ ap (member_at c) (up r.0), r.4)

-- a method that is not virtual has no token
fixed : (static private constructor initialiser : Bool) → ((not private && not static)
    && not (constructor || initialiser)) ≡ false → initialiser ≡ false → (static || (private || constructor)) ≡ true
fixed true private constructor initialiser e f = refl
fixed false true constructor initialiser e f = refl
fixed false false true initialiser e f = refl
fixed false false false true e f = absurd cc
fixed false false false false e f = absurd cc

own_at : (a b : ℕ) → Own 0 a ≡ Own 0 b → a ≡ b
own_at a b e = cc

module _ (name : List ℕ) (list : ListTree) (files : Files) (image : StaticImage) (c : Complete)
    (whole : whole_spots c ≡ [])
    (ordered : (let d = c.descriptor in classes_in_order d.classes (all_starts c.class)) ≡ [])
    (sound : IsSound name files) (paired : ArePaired files image c)
    (verified : IsVerified (pair_of (nat_lt 0 (length list.applets)) files image c))
    (agree : FilesAgree (package_of list files image)) (facts : Facts (package_of list files image))
    (tokens : KeepsTokens (all_classes files)) (bytes : (k : ℕ) (d : ClassDescriptor) → (let x = c.descriptor
    in slice_get x.classes k) ≡ Some d → (j : ℕ) (m : MethodDescriptor) → slice_get d.methods j ≡ Some m
    → m.token < 2 ^ 8) (id : MemberId) where
  abbrev applets : Bool
  applets = nat_lt 0 (length list.applets)

  abbrev p : Pair
  p = pair_of applets files image c

  abbrev l : Loaded
  l = p.loaded

  abbrev q : Package
  q = package_of list files image

  abbrev n : Naming
  n = naming_of p q

  abbrev w : List Class
  w = all_classes files

  abbrev es : List ExportClass
  es = exported q

  abbrev s : Signature
  s = signature id

  abbrev finds : Class → Option Found
  finds = own_method false id.name id.desc

  abbrev selects : Class → Option Found
  selects = own_method true id.name id.desc

  -- ---- imported classes

  abbrev Told : List ℕ → Option Found → Option (Option Token) → Type 0
  Told y o t = sought.Told name q sound facts tokens (says_kinds name q sound)
      (let a = agree.calls in a.imported_calls) id
      y o t

  told_found : (y : List ℕ) (o : Option Found) (r : Option (Option Token)) → Told y o r → (t : Token)
      → r ≡ Some (Some t) → (f : Found) × (o ≡ Some f)
  told_found y _ _ sought.nowhere t e = absurd cc
  told_found y _ _ (sought.bound b) t e = absurd cc
  told_found y _ _ (sought.bears {f = f} b d) t e = (f, refl)

  module _ (x : List ℕ) (k : Class) (e : class_named w x ≡ Some k) (import : k.is_imported ≡ true)
      (class_here : is_interface k.flags ≡ false) (j : ℕ) (t : Token)
      (h : found_token l (suc j) (Some (n.class x)) id ≡ Some (Some t)) where
    abbrev entry : HasEntry q k
    entry = files_of.has q facts x k e import

    abbrev ds : List Class
    ds = k ∷ upwards (supertypes w k.supers)

    on_card : n.class x ≡ External entry.file (let y = entry.entry in y.token)
    on_card = sym (ap (class_at q) (class_named-name w x k e)) ∙ entry.on_card

    listed : token_in_files (exported_line l (Some entry.entry)) id ≡ classes_token id ds
    listed =
        ap (λ o. card.or_else o (token_in_files (exports.upwards (exported q) (let y = entry.entry in y.supers)) id))
        (listed_is id entry.number entry.entry (files_of.entry_plain q facts x k e import)
        ∙ ap (class_token id) (sym entry.class))
        ∙ ap (λ ss. card.or_else (class_token id k) (token_in_files (exports.upwards (exported q) ss) id))
        (ap (λ (y : Class). y.supers) (sym entry.class))
        ∙ ap (card.or_else (class_token id k)) (upwards_token q facts id k.supers (λ y d i f. (let r = facts.rules
        in r.apart x y k d e import i f)))

    token_is : found_token l (suc j) (Some (n.class x)) id ≡ option_map (option_map Open) (classes_token id ds)
    token_is =
        ap (λ y. found_token l (suc j) (Some y) id) on_card
        ∙ ap (λ o. option_map (option_map Open) (token_in_files (exported_line l o) id)) entry.there
        ∙ ap (option_map (option_map Open)) listed

    some_found : (f : Found) × (first finds (line w x) ≡ Some f)
    some_found = told_found x (first finds (line w x)) (found_token (loaded q) (suc j) (Some (n.class x)) id)
        (sought.files_told name q sound facts tokens (says_kinds name q sound)
        (let a = agree.calls in a.imported_calls) id x
        k e import class_here j) t (ap (λ y. found_token (loaded q) (suc j) (Some y) id) on_card
        ∙ sym (ap (λ y. found_token l (suc j) (Some y) id) on_card) ∙ h)

    line_here : line w x ≡ ds
    line_here = line_is q facts x k e

    pub file_token : HasToken es w x s t
    file_token = record {
      name = x;
      class = k;
      there = e;
      class_here = class_here;
      under = itself;
      is = by (is_virtual r.method) refl;
    }
      where
        r : sought.FirstOf name q sound facts tokens (says_kinds name q sound)
            (let a = agree.calls in a.imported_calls) id ds
            some_found.0
        r = sought.classes_some name q sound facts tokens (says_kinds name q sound) (let a = agree.calls
            in a.imported_calls) id ds some_found.0 (subst (founds.AllNamed w) line_here (founds.line_named w x))
            (sym (ap (first finds) line_here) ∙ some_found.1)

        said : option_map (option_map Open) (Some (if is_virtual r.method then Some (let m = r.method in m.token)
            else None)) ≡ Some (Some t)
        said = sym (ap (option_map (option_map Open)) r.says) ∙ sym token_is ∙ h

        token_here : is_virtual r.method ≡ true → (b : Bool) → is_shown r.method ≡ b
            → IsTokenOf es w x s (Open (let m = r.method in m.token))
        token_here one true shown =
            let once = facts.tokens_once x x k k e class_here e itself in
            of_open (let m = r.method in m.token) (ap (token (slots (line_of w x))) (sym r.names)
            ∙ once.listed k r.method
            e import r.among shown)
        token_here one false not_shown =
            let g = r.selected one in
            let u = entry in
            let given = line_given (u.entry ∷ exports.upwards es (let y = u.entry in y.supers)) id (let m = r.method
            in m.token) (listed ∙ r.says ∙ ap (λ b. Some (if b then Some
            (let m = r.method in m.token) else None)) one) in
            of_import u.number u.entry r.method (e ∙ ap (λ y. Some y) u.class) (subst (λ (y : Class). In r.method
            (y.methods ++ all_methods (upwards (supertypes w y.supers)))) u.class r.among) (virtual_kinds r.method one
            not_shown) r.names g.0 (ap (first selects) line_here ∙ g.1) given.0 given.1

        by : (b : Bool) → is_virtual r.method ≡ b → IsTokenOf es w x s t
        by false not_one = (let clash : Some None ≡ Some (Some t) = sym (ap (λ b. option_map (option_map Open)
            (Some (if b then Some (let m = r.method in m.token) else None))) not_one) ∙ said in absurd cc)
        by true one = (let both : Some (Some (Open (let m = r.method in m.token))) ≡ Some (Some t) = sym (ap (λ b.
            option_map (option_map Open) (Some (if b then Some (let m = r.method in m.token) else None))) one) ∙ said in
            subst (IsTokenOf es w x s) (same_some (same_some both)) (token_here one (is_shown r.method) refl))

  -- ---- classes of the package

  module _ (x : List ℕ) (k : Class) (e : class_named w x ≡ Some k) (own : k.is_imported ≡ false)
      (class_here : is_interface k.flags ≡ false) (at : ℕ) (on_card : n.class x ≡ Own 0 at) where
    own_line : line_of w x ≡ Declared k (added w k) (line_in w (supertypes w k.supers))
    own_line = ap (line_in w) (supertypes-known w facts.are_supertypes facts.one_supertypes x k e)
        ∙ ap (λ t. if t then Rattle.cjc_tokens.specs.Lines.Imported (k ∷ upwards (supertypes w k.supers))
        else Declared k (added w k) (line_in w (supertypes w k.supers))) own

    in_is : (i : ℕ) (m : Member) → slice_get k.methods i ≡ Some m → method_in w k (length k.fields + i) ≡ m
    in_is i m there =
        let left : length k.fields + i - length k.fields ≡ i = omega arith in
        ap (λ j. unwrap_or (slice_get (methods_with_added w k) j) no_member) left
        ∙ ap (λ o. unwrap_or o no_member) (in_front k.methods (map as_added (added w k)) i m there)

    module _ (m : MethodDescriptor) (r : IsNamed applets files image c whole ordered paired verified at id m) where
      class_same : (let y = r.it in y.class) ≡ k
      class_same =
          let h = facts.own x k e own in
          let same : h.offset ≡ at = own_at h.offset at (sym h.on_card ∙ ap (class_at q) (class_named-name w x k e)
          ∙ on_card) in
          let place : r.place ≡ h.number = same_some (sym r.at
          ∙ number_alike name list files image c sound paired verified
          at ∙ ap (card.number_from 2 (card.infos (part q))) (sym same) ∙ h.numbered) in
          same_some (sym r.in_order ∙ ap (slice_get (class_order w)) place ∙ h.ordered)

      got : (i : ℕ) × (y : Member) × (slice_get k.methods i ≡ Some y) × ((let y = r.it in y.member)
          ≡ member_at k (length k.fields + i)) × (is_initialiser y.name ≡ false)
      got = written_got k (length k.fields) k.methods r.written_at (let y = r.it in y.member) (sym (ap (λ (y : Class).
          slice_get (written y (length y.fields) y.methods) r.written_at) class_same) ∙ r.is_written)

      named_so : (i : ℕ) (y : Member) → slice_get k.methods i ≡ Some y → (let z = r.it in z.member)
          ≡ member_at k (length k.fields + i) → member_of p r.it ≡ y
      named_so i y there is = ap (λ (z : Class). method_in w z
          (let v = r.it in let f = v.member in f.member)) class_same
          ∙ ap (λ (f : Found). method_in w k f.member) is ∙ in_is i y there

      name_is : (let y = got.1 in y.name) ≡ id.name
      name_is = ap (λ (y : Member). y.name) (sym (named_so got.0 got.1 got.2 got.3)) ∙ r.name

      desc_is : (let y = got.1 in y.desc) ≡ id.desc
      desc_is = ap (λ (y : Member). y.desc) (sym (named_so got.0 got.1 got.2 got.3)) ∙ r.desc

      found_here : finds k ≡ Some (member_at k (length k.fields + got.0))
      found_here = ap (λ y. own_method false y id.desc k) (sym name_is) ∙ ap (λ y. own_method false (let z = got.1
          in z.name) y k) (sym desc_is) ∙ facts.first_one x k e own got.0 got.1 got.2

      -- the first method of the name
      first_one : (y : Member) × (i : ℕ) × (slice_get k.methods i ≡ Some y) × (member_at k (length k.fields + got.0)
          ≡ member_at k (length k.fields + i)) × (y.name ≡ id.name) × (y.desc ≡ id.desc)
          × (chosen any_method s k.methods ≡ Some y)
      first_one = sought.class_chosen name q sound facts tokens (says_kinds name q sound) (let a = agree.calls
          in a.imported_calls) id k (member_at k (length k.fields + got.0)) found_here

      abbrev method : Member
      method = first_one.0

      -- as it would be written
      abbrev other : MethodDescriptor
      other = method_descriptor q k (member_at k (length k.fields + first_one.1))

      same_token : described_token (record { part = 0; method = m }) ≡ described_token
          (record { part = 0; method = other })
      same_token =
          let said = described_said applets files image c whole ordered paired verified r.number r.it r.listed in
          let is = got.3 ∙ first_one.3 in
          let flags : m.flags ≡ other.flags = ap (λ (y : MethodDescriptor). y.flags) (sym r.method) ∙ said.flags
          ∙ ap method_flags (named_so first_one.1 first_one.0 first_one.2 is ∙ sym (in_is first_one.1 first_one.0
          first_one.2)) in
          let token : m.token ≡ other.token = ap (λ (y : MethodDescriptor). y.token) (sym r.method) ∙ said.token
          ∙ ap (member_token p) is in
          ap (λ y. by_parts y m.token) flags ∙ ap (by_parts other.flags) token

      names : signature_of method ≡ s
      names = ap (λ y. record { name = y; desc = (let m = method in m.desc) }) first_one.4
          ∙ ap (λ y. record { name = id.name; desc = y }) first_one.5

      plain : is_initialiser (let m = method in m.name) ≡ false
      plain = ap is_initialiser (first_one.4 ∙ sym name_is) ∙ got.4

      pub own_token : (t : Token) → described_token (record { part = 0; method = m }) ≡ Some t → IsTokenOf es w x s t
      own_token t h = by (is_virtual method) refl
        where
          is : described_token (record { part = 0; method = other }) ≡ Some t
          is = sym same_token ∙ h

          shown_token : is_virtual method ≡ true → (b : Bool) → is_shown method ≡ b → IsTokenOf es w x s t
          shown_token one true shown =
              let finds_it : finds_shown (line_of w x) s ≡ true = ap (λ y. finds_shown y s) own_line
              ∙ ap (λ o. passes is_shown o (finds_shown (line_in w (supertypes w k.supers)) s)) first_one.6 ∙ shown in
              let calls = facts.virtual_calls x x k k e class_here e itself in
              let z = calls.open_method s finds_it in
              let told : described_token (record { part = 0; method = other }) ≡ Some
              (Open z.0) = shown_described name q
              sound facts x k e own class_here first_one.1 first_one.0 first_one.2 one shown z.0
              (ap (token (slots (line_of w x))) names ∙ z.1) (tokens x k s z.0 e class_here z.1) in
              subst (IsTokenOf es w x s) (same_some (sym told ∙ is)) (of_open z.0 z.1)
          shown_token one false not_shown =
              let finds_it : finds_hidden (line_of w x) s ≡ true = ap (λ y. finds_hidden y s) own_line
              ∙ ap (λ o. passes is_hidden o (finds_hidden (line_in w (supertypes w k.supers)) s)) first_one.6
              ∙ virtual_kinds method one not_shown in
              let calls = facts.virtual_calls x x k k e class_here e itself in
              let z = calls.package_method s finds_it in
              let told : described_token (record { part = 0; method = other }) ≡ Some
              (Hidden 0 z.0) = hidden_described name
              q sound facts x k e own class_here first_one.1 first_one.0 first_one.2 one not_shown z.0
              (ap (token (hidden_slots (line_of w x))) names ∙ z.1) in
              let low = hidden_low (is_static m.flags || (is_private m.flags || has m.flags acc_constructor)) m.token
              z.0
              (bytes r.at_class r.holder r.holder_is r.at_method m r.method_is) (same_token ∙ told) in
              subst (IsTokenOf es w x s) (same_some (sym told ∙ is)) (of_hidden z.0 low z.1)

          by : (b : Bool) → is_virtual method ≡ b → IsTokenOf es w x s t
          by true one = shown_token one (is_shown method) refl
          by false not_one = (let none : None ≡ Some t = sym (bound_described name q sound facts x k e own class_here
              first_one.1 first_one.0 first_one.2 (fixed (is_static (let y = method in y.flags)) (is_private
              (let y = method
              in y.flags)) (is_constructor (let y = method in y.name)) (is_initialiser
              (let y = method in y.name)) not_one
              plain)) ∙ is in absurd cc)

  -- ---- a class and those above it

  -- one step upwards
  step : (x super : List ℕ) (k : Class) (j at : ℕ) → class_named w x ≡ Some k → k.is_imported ≡ false
      → is_interface k.flags ≡ false → k.supers ≡ super ∷ [] → n.class x ≡ Own 0 at → found_token l (suc (suc j))
      (Some (n.class x)) id ≡ token_or (machine.declared l (Own 0 at) id) (found_token l (suc j) (Some
      (n.class super)) id)
  step x super k j at e own class_here supers on_card =
      let h = facts.own x k e own in
      let same : h.offset ≡ at = own_at h.offset at (sym h.on_card ∙ ap (class_at q) (class_named-name w x k e)
      ∙ on_card) in
      let told = kinds name list files image c sound paired verified in
      let up = facts.super_there x super k e own supers in
      let above : superclass_by l 0 (card.info_of l 0 at) ≡ Some (n.class super) =
      ap (λ m. superclass_by l 0 (card.info_of l 0 m)) (sym same)
      ∙ ap (superclass_by l 0) (own_info name list files image c sound paired verified k h)
      ∙ ap (λ b. superclass_by l 0 (Some (if b then card.IsInterface (interface_entry
      (class_ref p) w k) else card.IsClass
      (wanted_entry p k)))) class_here
      ∙ ap (λ ss. card.class_of l 0 (class_ref p (unwrap_or (slice_get ss 0) []))) supers
      ∙ ap (card.class_of l 0) (ref_same name list files image c sound paired verified super)
      ∙ told.class_ref super (ap is_some up.1) in
      ap (λ y. found_token l (suc (suc j)) (Some y) id) on_card
      ∙ ap (λ o. token_or (machine.declared l (Own 0 at) id) (found_token l (suc j) o id)) above

  -- The method that is found from a class has a token there, or in a class above it.
  pub found : {h : ℕ} {x z : List ℕ} → SaysTower w (naming q) (written_offset q) h x z → (k : Class) → class_named w x
      ≡ Some k
      → is_interface k.flags ≡ false → (j : ℕ) → h ≤ j → (t : Token) → found_token l (suc j) (Some (n.class x)) id
      ≡ Some (Some t) → HasToken es w x s t
  found {x = x} (of_file d known import file) k e class_here j low t h =
      let both : Some d ≡ Some k = sym known ∙ e in
      let same : d ≡ k = same_some both in
      file_token x d known import (ap (λ (y : Class). is_interface y.flags) same ∙ class_here) j t h
  found (of_package d super known own supers tables rest) k e class_here zero low t h = absurd (omega (arith, low))
  found {x = x} (of_package d super known own supers tables rest) k e class_here (suc j) low t h =
      let up = facts.super_there x super d known own supers in
      by (machine.declared l (Own 0 tables.at) id) refl (sym (step x super d j tables.at known own plain supers
      tables.on_card) ∙ h) (λ g. found rest up.0 up.1 up.2 j (omega (arith, low)) t g)
    where
      plain : is_interface d.flags ≡ false
      plain = (let both : Some d ≡ Some k = sym known ∙ e in ap (λ (y : Class). is_interface y.flags) (same_some both)
          ∙ class_here)

      lower : HasToken es w super s t → HasToken es w x s t
      lower r = record {
        name = r.name;
        class = r.class;
        there = r.there;
        class_here = r.class_here;
        under = below d known (subst (λ ss. Lists super ss) (sym supers) foremost) r.under;
        is = r.is;
      }

      by : (o : Option machine.Described) → machine.declared l (Own 0 tables.at) id ≡ o → token_or o (found_token l
          (suc j)
          (Some (n.class super)) id) ≡ Some (Some t) → (found_token l (suc j) (Some (n.class super)) id ≡ Some (Some t)
          → HasToken es w super s t) → HasToken es w x s t
      by None f g more = lower (more g)
      by (Some b) f g more =
          let r = declared_named applets files image c whole ordered paired verified tables.at id b f in
          let same : described_token b ≡ described_token (record { part = 0; method = b.method }) = ap (λ n.
          described_token (record { part = n; method = b.method })) r.0 in
          record {
            name = x;
            class = d;
            there = known;
            class_here = plain;
            under = itself;
            is = own_token x d known own plain tables.at tables.on_card b.method r.1 t (sym same ∙ same_some g);
          }
