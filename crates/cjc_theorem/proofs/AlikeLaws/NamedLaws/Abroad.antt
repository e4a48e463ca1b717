-- A static method or a constructor of an imported class is what its reference means on the card.
use Rattle.std.proofs.Common.{◌≡◌, ℕ, zero, suc, ◌+◌, ◌<◌, refl, sym, ap, subst, ◌∙◌, arith, Bool, true, false, List}
use Rattle.std.proofs.Common.{[], ◌∷◌, ◌++◌, length, map}
use Rattle.std.specs.Prelude.{◌&&◌, ◌==◌, not, nat_lt, Some, None, option_and_then, option_map, slice_get}
use Rattle.std.specs.Prelude.{unwrap_or, if◌then◌else◌}
use Rattle.std.proofs.lemmas.List.{length-map}
use Rattle.std.proofs.lemmas.Option.{slice_get-map}
use Rattle.cjc_bytes.specs.AccessFlags.{is_interface}
use Rattle.cjc_bytes.specs.declared.fault.MemberId.{MemberId}
use Rattle.cjc_bytes.proofs.Numbers.{like_number}
use Rattle.cjc_bytes.proofs.Bools.{or_left, or_right}
use Rattle.cjc_bytes.proofs.Gets.{get_behind}
use Rattle.cjc_jvm_semantics.specs.OnePackage.{is_initialiser}
use Rattle.cjc_token_proof.proofs.WorldProofOwn.{IsAt, mapped_at}
use Rattle.cjc_token_proof.specs.CardSemantics.Machine.Classes.{External}
use Rattle.cjc_token_proof.specs.CardSemantics.Machine.Loaded.{OfFile}
use Rattle.cjc_token_proof.specs.CardSemantics.Machine.Operations.{Outer, method_through, outer, static_method}
use Rattle.cjc_token_proof.specs.CardSemantics.Machine.Operations.{unbound_of}
use Rattle.cjc_components.specs.Names.{class_at, fixed_as, member_ref, member_token, offset_where}
use Rattle.cjc_components.specs.Package.{Package, world}
use Rattle.cjc_world.specs.ExportFile.Members.{is_unbound, method_token_taken, method_token_wrong, same_bool}
use Rattle.cjc_world.specs.ExportFile.Writable.{ClassFits, EachAfter, MethodStands}
use Rattle.cjc_world.specs.ExportFile.declared.tree.ExportClass.{ExportClass}
use Rattle.cjc_world.specs.ExportFile.declared.tree.ExportMethod.{ExportMethod}
use Rattle.cjc_ncode.specs.Lowering.Naming.{IsFixed}
use Rattle.cjc_components.specs.Paired.Naming.{files_from}
use Rattle.cjc_token_proof.specs.Subset.Members.{imports}
use Rattle.cjc_token_proof.specs.Tables.Infos.{HasEntry}
use Rattle.cjc_token_proof.specs.Tables.Loading.{loaded, naming}
use Rattle.cjc_token_proof.specs.Tables.Sound.{IsSound}
use Rattle.cjc_token_proof.proofs.TablesLaws.Above.{entry_of_name}
use Rattle.cjc_token_proof.proofs.WrittenCalls.Tables.{import_at}
use Rattle.cjc_tokens.specs.Tokens.{assigned, imports_of, joined, listed_field_token, listed_method_token, of_import}
use Rattle.cjc_vtable.proofs.Filed.{IsFiled, filed, get-has, in_class_file, in_export_file, of-imports, has-get}
use Rattle.cjc_vtable.proofs.Read.{each-after}
use Rattle.cjc_world.specs.declared.found.Found.{Found}
use Rattle.cjc_world.specs.Classes.{Class, Member, class_named, field_of_export, method_of_export}
use Rattle.cjc_world.specs.Lookup.{find_method}
use Rattle.cjc_world.proofs.Cycles.{class_named-name}
use Rattle.cjc_shape_proof.proofs.ShapeTokens.{imports_are}

-- ---- tokens are apart

-- no method before has the token
abbrev NoneHas : List ExportMethod → ℕ → Type 0
NoneHas ms token = (k : ℕ) (m : ExportMethod) → slice_get ms k ≡ Some m
    → (is_unbound m.flags m.name && (m.token == token)) ≡ false

none_has : (ms : List ExportMethod) (token : ℕ) → method_token_taken ms true token ≡ false → NoneHas ms token
none_has [] token e k m f = cc
none_has (x ∷ ms) token e zero m f =
    let same : x ≡ m = cc in
    subst (λ (y : ExportMethod). (is_unbound y.flags y.name && (y.token == token)) ≡ false) same
    (turned (x.token == token) (is_unbound x.flags x.name) (or_left ((x.token == token)
    && same_bool true (is_unbound x.flags x.name)) (method_token_taken ms true token) e))
  where
    turned : (a b : Bool) → (a && b) ≡ false → (b && a) ≡ false
    turned true true e = e
    turned true false e = refl
    turned false true e = refl
    turned false false e = refl
none_has (x ∷ ms) token e (suc k) m f = none_has ms token (or_right ((x.token == token)
    && same_bool true (is_unbound x.flags x.name)) (method_token_taken ms true token) e) k m f

-- the first of its token
first_unbound : (ms : List ExportMethod) (k : ℕ) (m : ExportMethod) → slice_get ms k ≡ Some m
    → is_unbound m.flags m.name ≡ true
    → ((j : ℕ) (x : ExportMethod) → j < k → slice_get ms j ≡ Some x
    → (is_unbound x.flags x.name && (x.token == m.token)) ≡ false) → unbound_of ms m.token ≡ Some m
first_unbound [] k m e bound none = cc
first_unbound (x ∷ ms) zero m e bound none =
    let same : x ≡ m = cc in
    let here : (is_unbound x.flags x.name && (x.token == m.token)) ≡ true =
    subst (λ (y : ExportMethod). (is_unbound y.flags y.name && (y.token == m.token)) ≡ true) (sym same) (ap (λ b. b
    && (m.token == m.token)) bound ∙ like_number m.token) in
    ap (λ b. if b then Some x else unbound_of ms m.token) here ∙ ap Some same
first_unbound (x ∷ ms) (suc k) m e bound none =
    let here = none 0 x (omega arith) refl in
    ap (λ b. if b then Some x else unbound_of ms m.token) here
    ∙ first_unbound ms k m e bound (λ j y l f. none (suc j) y (omega (arith, l)) f)

-- of an item the ones before it
before_at : {A : Type 0} (P : List A → A → Type 0) (before xs : List A) (k : ℕ) (x : A) → EachAfter P before xs
    → slice_get xs k ≡ Some x
    → (b : List A) × P b x × ((j : ℕ) (y : A) → j < k → slice_get xs j ≡ Some y → (i : ℕ) × (slice_get b i ≡ Some y))
    × ((i : ℕ) (y : A) → slice_get before i ≡ Some y → slice_get b i ≡ Some y)
before_at P before [] k x all e = cc
before_at P before (y ∷ xs) zero x all e = let same : y ≡ x = cc in (
  before,
  subst (P before) same all.0,
  (λ j z l f. absurd (omega (arith, l))),
  λ i z f. f,
)
before_at {A} P before (y ∷ xs) (suc k) x all e =
    let r = before_at P (before ++ y ∷ []) xs k x all.1 e in
    (r.0, r.1, by r.0 r.2 r.3, λ i z f. r.3 i z (front before (y ∷ []) i z f))
  where
    front : (xs ys : List A) (k : ℕ) (x : A) → slice_get xs k ≡ Some x → slice_get (xs ++ ys) k ≡ Some x
    front [] ys k x e = cc
    front (z ∷ xs) ys zero x e = e
    front (z ∷ xs) ys (suc k) x e = front xs ys k x e

    by : (b : List A) → ((j : ℕ) (z : A) → j < k → slice_get xs j ≡ Some z → (i : ℕ) × (slice_get b i ≡ Some z))
        → ((i : ℕ) (z : A) → slice_get (before ++ y ∷ []) i ≡ Some z → slice_get b i ≡ Some z)
        → (j : ℕ) (z : A) → j < suc k → slice_get (y ∷ xs) j ≡ Some z → (i : ℕ) × (slice_get b i ≡ Some z)
    by b later kept zero z l f =
        let at : length before ≡ length before + 0 = omega arith in (
          length before,
          kept (length before) z (ap (slice_get (before ++ y ∷ [])) at ∙ get_behind before (y ∷ []) 0
              ∙ f),
        )
    by b later kept (suc j) z l f = later j z (omega (arith, l)) f

-- ---- a package

module _ (list : List ℕ) (p : Package) (sound : IsSound list p.files) where
  abbrev w : List Class
  w = world p

  -- A method of an imported class has the token that is listed, and no static method or constructor before it has that.
  record IsListed (m : MemberId) (c : Class) (f : Found) (at : IsAt false m.name m.desc c f) : Type 0 where
    token : member_token p (Some f) ≡ (let k = at.member in k.token)
    apart : (j : ℕ) (x : Member) → j < at.place → slice_get c.methods j ≡ Some x
        → (is_unbound x.flags x.name && (x.token == (let k = at.member in k.token))) ≡ false

  is_listed : (m : MemberId) (c : Class) (f : Found) → IsFiled p.files c → c.is_imported ≡ true → is_interface c.flags
      ≡ false → (at : IsAt false m.name m.desc c f) → is_initialiser m.name ≡ false
      → is_unbound (let k = at.member in k.flags) (let k = at.member in k.name) ≡ true → IsListed m c f at
  unfolding assigned
  is_listed m c f (in_class_file n t there) import plain at named bound = cc
  is_listed m c f (in_export_file n t there) import plain at named bound =
      let k = at.member in
      let y = mapped_at method_of_export t.methods at.place k at.is_member in
      let fields = map listed_field_token t.fields in
      let methods = map listed_method_token t.methods in
      let counted : length (map field_of_export t.fields) ≡ length fields = length-map t.fields field_of_export
      ∙ sym (length-map t.fields listed_field_token) in
      let row : slice_get (imports_of p.files.exports) n ≡ Some (of_import t) =
      ap (λ rows. slice_get rows n) (imports_are p.files.exports) ∙ slice_get-map of_import (imports p.files.exports) n
      ∙ ap (option_map of_import) there in
      let open_name : is_initialiser y.0.name ≡ false = ap (λ (x : Member). is_initialiser x.name) (sym y.2)
      ∙ ap is_initialiser at.has_name ∙ named in
      let tree = of-imports t p.files.exports (get-has t (imports p.files.exports) n there) in
      let place = has-get tree.0 p.files.exports tree.1 in
      let readable = (let r = sound.read in r.exports) place.0 tree.0 place.1 in
      let class = each-after ClassFits [] (let u = tree.0 in u.classes) t readable.classes tree.2 in
      let stands : EachAfter (MethodStands false (length t.methods)) [] t.methods =
      subst (λ b. EachAfter (MethodStands b (length t.methods)) [] t.methods) plain class.1.methods in
      let before = before_at (MethodStands false (length t.methods)) [] t.methods at.place y.0 stands y.1 in
      let bound_here : is_unbound y.0.flags y.0.name ≡ true = ap (λ (x : Member). is_unbound x.flags x.name) (sym y.2)
      ∙ bound in
      let free : method_token_taken before.0 true y.0.token ≡ false =
      or_left (method_token_taken before.0 true y.0.token) (not true && nat_lt 127 y.0.token)
      (subst (λ b. method_token_wrong before.0 b y.0.token ≡ false) bound_here before.1.1) in
      record {
        token =
            ap (λ g. member_token p (Some g)) at.is
            ∙ ap (λ o. unwrap_or
            (option_and_then (λ ms. joined (slice_get ms (length (map field_of_export t.fields) + at.place))) o)
            0xFF) row
            ∙ ap (λ l. unwrap_or (joined (slice_get (fields ++ methods) (l + at.place))) 0xFF) counted
            ∙ ap (λ o. unwrap_or (joined o) 0xFF) (get_behind fields methods at.place
            ∙ slice_get-map listed_method_token t.methods at.place ∙ ap (option_map listed_method_token) y.1)
            ∙ ap (λ b. unwrap_or (if b then None else Some y.0.token) 0xFF) open_name
            ∙ ap (λ (x : Member). x.token) (sym y.2);
        apart = λ j x l e. (let z = mapped_at method_of_export t.methods j x e in
            let told = before.2 j z.0 l z.1 in
            let none = none_has before.0 y.0.token free told.0 z.0 told.1 in
            ap (λ (v : Member). is_unbound v.flags v.name && (v.token == k.token)) z.2
            ∙ ap (λ (v : Member). is_unbound z.0.flags z.0.name && (z.0.token == v.token)) y.2 ∙ none);
      }

  -- so it is the first that its token means, with its name, its descriptor and its flags
  pub first_listed : (m : MemberId) (c : Class) (f : Found) → class_named w m.class ≡ Some c → c.is_imported ≡ true
      → is_interface c.flags ≡ false → (h : HasEntry p c) (at : IsAt false m.name m.desc c f)
      → is_initialiser m.name ≡ false → is_unbound (let k = at.member in k.flags) (let k = at.member in k.name) ≡ true
      → (x : ExportMethod) × (let e = h.entry in unbound_of e.methods (member_token p (Some f)) ≡ Some x)
      × (x.name ≡ m.name) × (x.desc ≡ m.desc) × (x.flags ≡ (let k = at.member in k.flags))
  first_listed m c f known import plain h at named bound =
      let is = is_listed m c f (filed p.files m.class c known) import plain at named bound in
      let k = at.member in
      let e = h.entry in
      let x = mapped_at method_of_export e.methods at.place k (ap (λ (q : Class). slice_get q.methods at.place)
      (sym h.class) ∙ at.is_member) in
      let same : x.0.token ≡ k.token = ap (λ (v : Member). v.token) (sym x.2) in
      let first_one : unbound_of e.methods x.0.token ≡ Some x.0 =
      first_unbound e.methods at.place x.0 x.1 (ap (λ (v : Member). is_unbound v.flags v.name) (sym x.2) ∙ bound)
      (λ j y l g. (let there : slice_get c.methods j ≡ Some (method_of_export y) = ap (λ (q : Class). slice_get
      q.methods j) h.class ∙ slice_get-map method_of_export e.methods j ∙ ap (option_map method_of_export) g in
      ap (λ t. is_unbound y.flags y.name && (y.token == t)) same ∙ is.apart j (method_of_export y) l there)) in (
        x.0,
        ap (unbound_of e.methods) (is.token ∙ sym same) ∙ first_one,
        ap (λ (v : Member). v.name) (sym x.2) ∙ at.has_name,
        ap (λ (v : Member). v.desc) (sym x.2) ∙ at.has_desc,
        ap (λ (v : Member). v.flags) (sym x.2),
      )

  pub fixed_abroad : (on : Bool) (m : MemberId) (c : Class) (f : Found) → class_named w m.class ≡ Some c
      → c.is_imported ≡ true → is_interface c.flags ≡ false → find_method w m.class m.name m.desc ≡ Some f
      → (at : IsAt false m.name m.desc c f)
      → is_initialiser m.name ≡ false → is_unbound (let k = at.member in k.flags) (let k = at.member in k.name) ≡ true
      → IsFixed (naming p) on m
  fixed_abroad on m c f known import plain found at named bound =
      let h = entry_of_name list p sound m.class c known import in
      let r = first_listed m c f known import plain h at named bound in
      let e = h.entry in
      let token = member_token p (Some f) in
      let name : c.name ≡ m.class = class_named-name w m.class c known in
      let on_card : class_at p m.class ≡ External h.file e.token = sym (ap (class_at p) name) ∙ h.on_card in
      let import_is : slice_get (files_from 0 p.files.exports) h.file ≡ Some (OfFile h.file) =
      import_at 0 p.files.exports h.file h.tree h.in_list ∙ (let z : 0 + h.file ≡ h.file = omega arith
      in ap (λ n. Some (OfFile n)) z) in
      let entry_name : e.name ≡ m.class = sym (ap (λ (q : Class). q.name) h.class) ∙ name in
      let offset = offset_where p (find_method w m.class m.name m.desc) in
      ap (λ q. static_method (loaded p) 0 on (member_ref q offset (member_token p (find_method w m.class m.name
      m.desc)))) on_card
      ∙ ap (λ o. static_method (loaded p) 0 on (member_ref (External h.file e.token) offset (member_token p o))) found
      ∙ ap (option_and_then (method_through (loaded p) on e.token token)) import_is
      ∙ ap (option_and_then (λ (q : ExportClass). option_map (outer on q.name) (unbound_of q.methods token))) h.there
      ∙ ap (option_map (outer on e.name)) r.1
      ∙ ap (λ n. Some (Outer on (record { class = n; name = r.0.name; desc = r.0.desc }))) entry_name
      ∙ ap (λ n. Some (Outer on (record { class = m.class; name = n; desc = r.0.desc }))) r.2
      ∙ ap (λ n. Some (Outer on (record { class = m.class; name = m.name; desc = n }))) r.3
      ∙ sym (ap (λ q. Some (fixed_as on m (member_ref q offset (member_token p (find_method w m.class m.name m.desc)))))
      on_card)
