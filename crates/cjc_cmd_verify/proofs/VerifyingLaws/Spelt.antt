-- Files of a folder spell the components that are read of it, and what was tested is what the theorem of the type
-- checker
-- asks.
use Rattle.std.proofs.Common.{◌≡◌, ◌⊎◌, ◌<◌, ◌==◌, ℕ, suc, inl, inr, ⊎_elim, refl, sym, ap, subst, ◌∙◌, Bool, true}
use Rattle.std.proofs.Common.{false, eqb-true, List, [], ◌∷◌, length, slice_get}
use Rattle.std.specs.Prelude.{Option, Some, None, Result, Ok, Err}
use Rattle.std.specs.List.{AllByRecursion}
use Rattle.cjc_cmd_card.specs.CheckRules.Complete.{Complete, complete, complete_with}
use Rattle.cjc_cmd_card.specs.Running.Reads.{IsInput}
use Rattle.cjc_cmd_card.specs.Running.Ready.{IsReady, tested}
use Rattle.cjc_cmd_card.specs.declared.running.input.Input.{Input}
use Rattle.cjc_cmd_card.specs.declared.running.ready.Ready.{Ready}
use Rattle.cjc_cmd_card.specs.CapRead.Component.{component, either, info}
use Rattle.cjc_cmd_card.specs.CapRead.Kinds.{descriptor_of, method_of, pool_of}
use Rattle.cjc_cmd_card.specs.CapRead.declared.tree.CapTree.{CapTree}
use Rattle.cjc_cmd_card.specs.CapRead.declared.tree.ClassInfo.{ClassInfo}
use Rattle.cjc_cmd_card.specs.CapRead.declared.tree.ConstantPool.{ConstantPool}
use Rattle.cjc_cmd_card.specs.CapRead.declared.tree.Descriptor.{Descriptor}
use Rattle.cjc_cmd_card.specs.CapRead.declared.tree.Import.{Import}
use Rattle.cjc_cmd_card.specs.CapRead.declared.tree.Method.{Method}
use Rattle.cjc_cmd_card.specs.CapRead.declared.tree.ReferenceLocation.{ReferenceLocation}
use Rattle.cjc_cmd_card.specs.CapRead.declared.tree.StaticField.{StaticField}
use Rattle.cjc_cmd_card.specs.CapRead.declared.tree.Component.{Component}
use Rattle.cjc_cmd_card.specs.CapRead.declared.tree.Component.TheVariants as components
use Rattle.cjc_cmd_card.specs.CmdCheck.Folder.Breaks.{cap_in, cap_of, front, with_component, with_components}
use Rattle.cjc_cmd_card.specs.CmdCheck.Folder.Breaks.{with_read}
use Rattle.cjc_cmd_card.specs.CmdCheck.Folder.Reads.{read_component}
use Rattle.cjc_cmd_card.specs.CmdCheck.declared.folder.folder.Parts.{Parts}
use Rattle.cjc_cmd_card.specs.Bytes.Format.{FileSpells, Format, Spells, gives, looked_up, ◌>>=◌}
use Rattle.cjc_cmd_card.specs.Clinit.Image.{IsImage}
use Rattle.cjc_verify_theorem.specs.Judge.Rules.{has_applets}
use Rattle.cjc_cmd_card.specs.World.declared.image.StaticImage.{StaticImage}
use Rattle.cjc_cmd_card.specs.Components.Paired.Pairs.{ArePaired}
use Rattle.cjc_verify_theorem.specs.Verify.Pairs.{pair_of}
use Rattle.cjc_verify_theorem.specs.Verify.Verified.{IsVerified}
use Rattle.cjc_verify_theorem.specs.Passed.{AreBytes, IsPassed, IsSpelt}
use Rattle.cjc_cmd_card.proofs.BytesBools.{by_if}
use Rattle.cjc_cmd_card.proofs.BytesLaws.{file_ok}
use Rattle.cjc_cmd_card.proofs.BytesPlain.{the_same}

-- ---- what a component of a tag is

-- the tag of what a component says
abbrev tag_of : Component → ℕ
tag_of (components.Header x) = 1
tag_of (components.Directory x) = 2
tag_of (components.Applet x) = 3
tag_of (components.Import x) = 4
tag_of (components.Pool x) = 5
tag_of (components.Class x) = 6
tag_of (components.Method x) = 7
tag_of (components.Statics x) = 8
tag_of (components.Locations x) = 9
tag_of (components.Export x) = 10
tag_of (components.Descriptor x) = 11

-- all that a format spells is of the tag
abbrev AreOf : (tag : ℕ) → Format Component → Type 0
AreOf tag p = (at : ℕ) (x : Component) (bytes : List ℕ) → Spells p at x bytes → tag_of x ≡ tag

are_made : {A : Type 0} (tag k : ℕ) (p : Format A) (make : A → Component) → ((y : A) → tag_of (make y) ≡ k) → tag ≡ k
    → AreOf tag (p >>= λ y. gives (make y))
unfolding Spells
are_made tag k p make is same at x bytes h = ap tag_of (sym h.5.1) ∙ is h.0 ∙ sym same

are_either : (tag k : ℕ) (p q : Format Component) → (tag ≡ k → AreOf tag p) → AreOf tag q → AreOf tag (either
    (tag == k) p q)
are_either tag k p q one other = by (tag == k) refl
  where
    by : (b : Bool) → (tag == k) ≡ b → AreOf tag (either b p q)
    by true is = one (eqb-true tag k is)
    by false is = other

are_none : (tag place : ℕ) → AreOf tag (looked_up (Err place))
unfolding Spells
are_none tag place at x bytes h = (let clash = h.1 in absurd cc)

infos_are : (tag end : ℕ) → AreOf tag (info tag end)
unfolding info
infos_are tag end =
    are_either tag 1 _ _ (are_made tag 1 _ components.Header (λ y. refl))
    (are_either tag 2 _ _ (are_made tag 2 _ components.Directory (λ y. refl))
    (are_either tag 3 _ _ (are_made tag 3 _ components.Applet (λ y. refl))
    (are_either tag 4 _ _ (are_made tag 4 _ components.Import (λ y. refl))
    (are_either tag 5 _ _ (are_made tag 5 _ components.Pool (λ y. refl))
    (are_either tag 6 _ _ (are_made tag 6 _ components.Class (λ y. refl))
    (are_either tag 7 _ _ (are_made tag 7 _ components.Method (λ y. refl))
    (are_either tag 8 _ _ (are_made tag 8 _ components.Statics (λ y. refl))
    (are_either tag 9 _ _ (are_made tag 9 _ components.Locations (λ y. refl))
    (are_either tag 10 _ _ (are_made tag 10 _ components.Export (λ y. refl))
    (are_either tag 11 _ _ (are_made tag 11 _ components.Descriptor (λ y. refl)) (are_none tag 0)))))))))))

components_are : (tag end : ℕ) → AreOf tag (component tag end)
unfolding component Spells
components_are tag end at x bytes h = (let more = h.5 in infos_are tag end _ x more.2 more.5)

-- a file that is read as a component of some tag spells it
read_spells : (tag : ℕ) (bytes : List ℕ) (x : Component) → AllByRecursion (λ b. b < 256) bytes
    → read_component tag bytes ≡ Ok x → IsSpelt (tag_of x) x
read_spells tag bytes x ok e =
    let h = file_ok (component tag (length bytes)) bytes x e in
    let same = components_are tag (length bytes) 0 x bytes h in
    (bytes, ok, subst (λ t. FileSpells (component t (length bytes)) x bytes) (sym same) h)

-- ---- components put together

module _ {A : Type 0} (get : CapTree → Option A) (of : Component → Option A)
    (one : (cap : CapTree) (tag : ℕ) (x : Component) (a : A) → get (with_component cap tag x) ≡ Some a
    → (get cap ≡ Some a) ⊎ (of x ≡ Some a)) where
  -- one of the files says it
  IsRead : List (List ℕ) → A → Type 0
  IsRead files a = (k : ℕ) × (bytes : List ℕ) × (slice_get files k ≡ Some bytes) × (tag : ℕ) × (x : Component)
      × (read_component tag bytes ≡ Ok x) × (of x ≡ Some a)

  read_later : (bytes : List ℕ) (files : List (List ℕ)) (a : A) → IsRead files a → IsRead (bytes ∷ files) a
  unfolding IsRead
  read_later bytes files a (k, b, at, tag, x, e, f) = (suc k, b, at, tag, x, e, f)

  one_read : (cap : CapTree) (tag : ℕ) (bytes : List ℕ) (files : List (List ℕ)) (a : A) (r : Result Component ℕ)
      → read_component tag bytes ≡ r → get (with_read cap tag r) ≡ Some a → (get cap ≡ Some a) ⊎ IsRead
      (bytes ∷ files) a
  unfolding IsRead
  one_read cap tag bytes files a (Ok x) e h = ⊎_elim (λ old. inl old) (λ new. inr (0, bytes, refl, tag, x, e, new))
      (one cap tag x a h)
  one_read cap tag bytes files a (Err place) e h = inl h

  all_read : (cap : CapTree) (tags : List ℕ) (files : List (List ℕ)) (a : A) → get (with_components cap tags files)
      ≡ Some a → (get cap ≡ Some a) ⊎ IsRead files a
  unfolding with_components
  all_read cap [] [] a h = inl h
  all_read cap [] (bytes ∷ files) a h = inl h
  all_read cap (tag ∷ tags) [] a h = inl h
  all_read cap (tag ∷ tags) (bytes ∷ files) a h = ⊎_elim
      (λ old. one_read cap tag bytes files a (read_component tag bytes) refl old)
      (λ new. inr (read_later bytes files a new))
      (all_read (with_read cap tag (read_component tag bytes)) tags files a h)

  of_front : (h d : Result Component ℕ) (tags : List ℕ) (files : List (List ℕ)) (cap : CapTree) (a : A)
      → cap_of h d tags files ≡ Some cap → get cap ≡ Some a → ((header : _) (directory : _) → get
      (front header directory)
      ≡ None) → IsRead files a
  of_front (Ok (components.Header h)) (Ok (components.Directory d)) tags files cap a e f none =
      let same : with_components (front h d) tags files ≡ cap = cc in
      ⊎_elim (λ old. (let clash : None ≡ Some a = sym (none h d) ∙ old in absurd cc)) (λ new. new)
      (all_read (front h d) tags files a (ap get same ∙ f))
  of_front _ _ tags files cap a e f none = absurd cc

  pub spelt_by : (parts : Parts) (cap : CapTree) → cap_in parts ≡ Some cap → AreBytes parts.others
      → ((header : _) (directory : _) → get (front header directory) ≡ None) → (a : A) → get cap ≡ Some a
      → (x : Component) × (of x ≡ Some a) × IsSpelt (tag_of x) x
  unfolding IsRead
  spelt_by parts cap e bytes none a f =
      let r = of_front (read_component 1 parts.header) (read_component 2 parts.directory) parts.tags parts.others cap a
      e f
      none in
      (r.4, r.6, read_spells r.3 r.1 r.4 (bytes r.0 r.1 r.2) r.5)

-- ---- the three that are asked for

module _ (cap : CapTree) (tag : ℕ) (x : Component) where
  pool_with : (a : ConstantPool) → (let made = with_component cap tag x in made.pool) ≡ Some a → (cap.pool ≡ Some a)
      ⊎ (pool_of x ≡ Some a)
  pool_with a =
      let P : CapTree → Type 0 = λ made. made.pool ≡ Some a → (cap.pool ≡ Some a) ⊎ (pool_of x ≡ Some a) in
      by_if P (tag == 3) _ _ (λ h. inl h) (by_if P (tag == 4) _ _ (λ h. inl h) (by_if P (tag == 5) _ _ (λ h. inr h)
      (by_if P (tag == 6) _ _ (λ h. inl h) (by_if P (tag == 7) _ _ (λ h. inl h) (by_if P (tag == 8) _ _ (λ h. inl h)
      (by_if P (tag == 9) _ _ (λ h. inl h) (by_if P (tag == 10) _ _ (λ h. inl h) (λ h. inl h))))))))

  method_with : (a : Method) → (let made = with_component cap tag x in made.method) ≡ Some a → (cap.method ≡ Some a)
      ⊎ (method_of x ≡ Some a)
  method_with a =
      let P : CapTree → Type 0 = λ made. made.method ≡ Some a → (cap.method ≡ Some a) ⊎ (method_of x ≡ Some a) in
      by_if P (tag == 3) _ _ (λ h. inl h) (by_if P (tag == 4) _ _ (λ h. inl h) (by_if P (tag == 5) _ _ (λ h. inl h)
      (by_if P (tag == 6) _ _ (λ h. inl h) (by_if P (tag == 7) _ _ (λ h. inr h) (by_if P (tag == 8) _ _ (λ h. inl h)
      (by_if P (tag == 9) _ _ (λ h. inl h) (by_if P (tag == 10) _ _ (λ h. inl h) (λ h. inl h))))))))

  descriptor_with : (a : Descriptor) → (let made = with_component cap tag x in made.descriptor) ≡ Some a
      → (cap.descriptor ≡ Some a) ⊎ (descriptor_of x ≡ Some a)
  descriptor_with a =
      let P : CapTree → Type 0 = λ made. made.descriptor ≡ Some a → (cap.descriptor ≡ Some a) ⊎ (descriptor_of x
      ≡ Some a)
      in
      by_if P (tag == 3) _ _ (λ h. inl h) (by_if P (tag == 4) _ _ (λ h. inl h) (by_if P (tag == 5) _ _ (λ h. inl h)
      (by_if P (tag == 6) _ _ (λ h. inl h) (by_if P (tag == 7) _ _ (λ h. inl h) (by_if P (tag == 8) _ _ (λ h. inl h)
      (by_if P (tag == 9) _ _ (λ h. inl h) (by_if P (tag == 10) _ _ (λ h. inl h) (λ h. inr h))))))))

pool_is : (x : Component) (a : ConstantPool) → pool_of x ≡ Some a → IsSpelt (tag_of x) x → IsSpelt 5 (components.Pool a)
pool_is (components.Pool y) a e h = subst (λ z. IsSpelt 5 (components.Pool z)) (the_same y a e) h
pool_is _ a e h = absurd cc

method_is : (x : Component) (a : Method) → method_of x ≡ Some a → IsSpelt (tag_of x) x → IsSpelt 7 (components.Method a)
method_is (components.Method y) a e h = subst (λ z. IsSpelt 7 (components.Method z)) (the_same y a e) h
method_is _ a e h = absurd cc

descriptor_is : (x : Component) (a : Descriptor) → descriptor_of x ≡ Some a → IsSpelt (tag_of x) x
    → IsSpelt 11 (components.Descriptor a)
descriptor_is (components.Descriptor y) a e h = subst (λ z. IsSpelt 11 (components.Descriptor z)) (the_same y a e) h
descriptor_is _ a e h = absurd cc

-- what is whole has these
record AreThere (cap : CapTree) (c : Complete) : Type 0 where
  pool : cap.pool ≡ Some c.pool
  method : cap.method ≡ Some c.method
  descriptor : cap.descriptor ≡ Some c.descriptor

are_there : (cap : CapTree) (c : Complete) → complete cap ≡ Some c → AreThere cap c
are_there cap c e = by cap.import cap.pool cap.class cap.method cap.statics cap.locations cap.descriptor refl refl refl
    e
  where
    by : (i : Option Import) (p : Option ConstantPool) (k : Option ClassInfo) (m : Option Method)
        (s : Option StaticField)
        (l : Option ReferenceLocation) (d : Option Descriptor) → cap.pool ≡ p → cap.method ≡ m → cap.descriptor ≡ d
        → complete_with cap i p k m s l d ≡ Some c → AreThere cap c
    by (Some i) (Some p) (Some k) (Some m) (Some s) (Some l) (Some d) ep em ed f =
        let same = the_same _ c f in
        record {
          pool = ep ∙ ap (λ (x : Complete). Some x.pool) same;
          method = em ∙ ap (λ (x : Complete). Some x.method) same;
          descriptor = ed ∙ ap (λ (x : Complete). Some x.descriptor) same;
        }
    by _ _ _ _ _ _ _ ep em ed f = absurd cc

-- ---- what was tested

-- What was tested and is verified is what the theorem of the type checker asks.
pub passed : (input : Input) (ready : Ready) (is : IsReady input [] ready) → IsInput input → AreBytes input.files
    → (let parts = input.parts in AreBytes parts.others) → (image : StaticImage)
    → (let judged = ready.judged in IsImage judged.world judged.codes image)
    → ((c : Complete) → complete ready.cap ≡ Some c → (let judged = ready.judged in ArePaired judged.world image c))
    → (let judged = ready.judged in IsVerified (pair_of (has_applets input.list) judged.world image is.whole))
    → IsPassed input.list input.files tested ready.judged ready.cap is.whole image
passed input ready is given files others image is_image paired verified =
    let there = are_there ready.cap is.whole is.complete_is in
    let pool = spelt_by (λ (t : CapTree). t.pool) pool_of pool_with input.parts ready.cap is.cap others (λ h d. refl)
    (let c = is.whole in c.pool) there.pool in
    let method = spelt_by (λ (t : CapTree). t.method) method_of method_with input.parts ready.cap is.cap others
    (λ h d. refl)
    (let c = is.whole in c.method) there.method in
    let descriptor = spelt_by (λ (t : CapTree). t.descriptor) descriptor_of descriptor_with input.parts ready.cap is.cap
    others (λ h d. refl) (let c = is.whole in c.descriptor) there.descriptor in
    record {
      read = given.list;
      bytes = files;
      limits = (2, refl);
      tokens = (3, refl);
      judged_by = is.judged;
      pool = pool_is pool.0 (let c = is.whole in c.pool) pool.1 pool.2;
      method = method_is method.0 (let c = is.whole in c.method) method.1 method.2;
      descriptor = descriptor_is descriptor.0 (let c = is.whole in c.descriptor) descriptor.1 descriptor.2;
      is_complete = is.complete_is;
      consistent = is.consistent;
      initialised = is_image;
      paired = paired is.whole is.complete_is;
      verified = verified;
    }
