-- The component files spell one tree of components at most.
use Rattle.std.proofs.Common.{◌≡◌, ℕ, refl, ap, List, length, Option, Some, None, IsSomeAnd}
use Rattle.cjc_shelf.specs.Bytes.Format.{FileSpells}
use Rattle.cjc_theorem.specs.CapRead.declared.tree.CapTree.{CapTree}
use Rattle.cjc_theorem.specs.CapRead.declared.tree.Component.{Component}
use Rattle.cjc_theorem.specs.CapRead.declared.tree.Component.TheVariants as components
use Rattle.cjc_theorem.specs.CapRead.Component.{component}
use Rattle.cjc_convert.specs.CapWrite.declared.files.CapFiles.{CapFiles}
use Rattle.cjc_convert.specs.CapWrite.Writable.{IsSpelt, Spelt, SpeltWhere}

module _ (one : (tag : ℕ) (s t : Component) (bytes : List ℕ) → FileSpells (component tag (length bytes)) s bytes
    → FileSpells (component tag (length bytes)) t bytes → s ≡ t) where
  -- a part of the tree by its tag
  module _ {A : Type 0} (tag : ℕ) (wrap : A → Component) (inside : (x y : A) → wrap x ≡ wrap y → x ≡ y) where
    one_part : (x y : A) (bytes : List ℕ) → Spelt tag (wrap x) bytes → Spelt tag (wrap y) bytes → x ≡ y
    one_part x y bytes s t = inside x y (one tag (wrap x) (wrap y) bytes s t)

    one_there : (a b : Option A) (bytes : List ℕ) → IsSomeAnd a (λ x. Spelt tag (wrap x) bytes)
        → IsSomeAnd b (λ x. Spelt tag (wrap x) bytes) → a ≡ b
    one_there None b bytes s t = absurd s
    one_there (Some x) None bytes s t = absurd t
    one_there (Some x) (Some y) bytes s t = ap (λ z. Some z) (one_part x y bytes s t)

    one_where : (a b : Option A) (file : Option (List ℕ)) → SpeltWhere tag wrap a file → SpeltWhere tag wrap b file
        → a ≡ b
    one_where None None file s t = refl
    one_where None (Some y) None s t = absurd t
    one_where None (Some y) (Some bytes) s t = absurd s
    one_where (Some x) None None s t = absurd s
    one_where (Some x) None (Some bytes) s t = absurd t
    one_where (Some x) (Some y) None s t = absurd s
    one_where (Some x) (Some y) (Some bytes) s t = ap (λ z. Some z) (one_part x y bytes s t)

  pub one_tree : (t u : CapTree) (f : CapFiles) → IsSpelt t f → IsSpelt u f → t ≡ u
  one_tree t u f s v =
      let header = one_part 1 components.Header (λ x y e. cc) t.header u.header f.header s.header v.header in
      let directory = one_part 2 components.Directory (λ x y e. cc) t.directory u.directory f.directory s.directory
      v.directory in
      let applet = one_where 3 components.Applet (λ x y e. cc) t.applet u.applet f.applet s.applet v.applet in
      let imports = one_there 4 components.Import (λ x y e. cc) t.import u.import f.import s.import v.import in
      let pool = one_there 5 components.Pool (λ x y e. cc) t.pool u.pool f.pool s.pool v.pool in
      let classes = one_there 6 components.Class (λ x y e. cc) t.class u.class f.class s.class v.class in
      let method = one_there 7 components.Method (λ x y e. cc) t.method u.method f.method s.method v.method in
      let statics = one_there 8 components.Statics (λ x y e. cc) t.statics u.statics f.statics s.statics v.statics in
      let locations = one_there 9 components.Locations (λ x y e. cc) t.locations u.locations f.locations s.locations
      v.locations in
      let exports = one_where 10 components.Export (λ x y e. cc) t.export u.export f.export s.export v.export in
      let descriptor = one_there 11 components.Descriptor (λ x y e. cc) t.descriptor u.descriptor f.descriptor
      s.descriptor v.descriptor in
      λ i. record {
        header = header i;
        directory = directory i;
        applet = applet i;
        import = imports i;
        pool = pool i;
        class = classes i;
        method = method i;
        statics = statics i;
        locations = locations i;
        export = exports i;
        descriptor = descriptor i;
      }
