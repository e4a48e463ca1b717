-- Components by modes: Header alone differs from those of a package without modes, by one flag.
use Rattle.std.proofs.Common.{◌≡◌, ◌∙◌, ℕ, refl, ap, Bool, true, false, length, nat_lt}
use Rattle.std.specs.Prelude.{◌||◌, if◌then◌else◌, Option, Some, None, is_some}
use Rattle.cjc_captree.specs.CapWrite.Files.{ends_too_far, infos_of, is_long, limit_of}
use Rattle.cjc_shape_proof.specs.LowerCheckProof.LowerCapWrite.Package.{header_bytes}
use Rattle.cjc_captree.specs.CapWrite.Writable.{IsWritable}
use Rattle.cjc_shape_proof.specs.CapRead.declared.tree.CapTree.{CapTree}
use Rattle.cjc_shape_proof.specs.Components.Components.{components_of, header, header_flags, uses_int}
use Rattle.cjc_shape_proof.specs.Components.Exports.{export}
use Rattle.cjc_shape_proof.specs.Components.Package.{Package, has_applets, world}
use Rattle.cjc_shape_proof.specs.LowerIntPackage.Components.{components_by_modes, has_int_mode}
use Rattle.cjc_shape_proof.specs.LowerIntPackage.Modes.{Tables}

-- the components, with ACC_INT where this is so
abbrev pub with_mode : Package → Bool → CapTree
with_mode p on = record (components_of p) {
  header = record (header p) {
    flags = header_flags (uses_int (world p) || on) (is_some (export p)) (has_applets p);
  };
}

or_false : (a : Bool) → (a || false) ≡ a
or_false true = refl
or_false false = refl

pub same_components : (t : Tables) (p : Package) → has_int_mode t p ≡ false → components_by_modes t p ≡ components_of p
same_components t p off =
    ap (with_mode p) off
    ∙ ap (λ (b : Bool). record (components_of p) {
      header = record (header p) { flags = header_flags b (is_some (export p)) (has_applets p) };
    }) (or_false (uses_int (world p)))

-- ---- what is asked of components that are written

-- Header has as many bytes whatever its flags are
header_size : (p : Package) (on : Bool) → length (header_bytes (let t = with_mode p on in t.header))
    ≡ length (header_bytes (header p))
unfolding header_bytes
header_size p on = refl

-- the limit that a tree breaks whose Header has so many bytes
abbrev limit_at : CapTree → ℕ → Option ℕ
limit_at t size = let i = infos_of t in
    if ends_too_far t.descriptor then Some 411
    else if nat_lt 32767 (length i.class) || (nat_lt 65535 size || (is_long i.directory
    || (is_long i.applet || (is_long i.import || (is_long i.pool
    || (is_long i.statics || (is_long i.locations || (is_long i.export || is_long i.descriptor))))))))
    then Some 416
    else None

pub same_limit : (t : Tables) (p : Package) → limit_of (components_by_modes t p) ≡ limit_of (components_of p)
same_limit t p = ap (limit_at (components_of p)) (header_size p (has_int_mode t p))

pub can_be_written : (t : Tables) (p : Package) → IsWritable (components_of p) → IsWritable (components_by_modes t p)
can_be_written t p is = record {
  header = let h = is.header in record { aid = h.aid; name = h.name };
  directory = is.directory;
  applet = is.applet;
  import = is.import;
  pool = is.pool;
  class = is.class;
  method = is.method;
  statics = is.statics;
  locations = is.locations;
  export = is.export;
  descriptor = is.descriptor;
}
