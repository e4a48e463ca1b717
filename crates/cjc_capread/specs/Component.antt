-- A component: its tag, its size and its info (section 6.2).
use Rattle.std.specs.Prelude.{ℕ, ◌+◌, Bool, true, false, Option, Some, None, Err, ◌==◌, if◌then◌else◌}
use Rattle.std.specs.Int.{w8, w16}
use Rattle.cjc_bytes.specs.Format.{Format, number, looked_up, gives, ◌>>=◌}
use Rattle.cjc_capread.specs.declared.tree.Component.{Component}
use Rattle.cjc_capread.specs.declared.tree.Component.TheVariants as components
use Rattle.cjc_capread.specs.Parts.{exactly}
use Rattle.cjc_capread.specs.Header.{header}
use Rattle.cjc_capread.specs.Directory.{directory}
use Rattle.cjc_capread.specs.Applet.{applet}
use Rattle.cjc_capread.specs.Import.{import}
use Rattle.cjc_capread.specs.Pool.{constant_pool}
use Rattle.cjc_capread.specs.Class.{class_info}
use Rattle.cjc_capread.specs.Method.{method}
use Rattle.cjc_capread.specs.StaticField.{static_field}
use Rattle.cjc_capread.specs.ReferenceLocation.{reference_location}
use Rattle.cjc_capread.specs.Export.{export}
use Rattle.cjc_capread.specs.Descriptor.{descriptor}

-- the first format where the test holds, else the second
abbrev pub either : {A : Type 0} → Bool → Format A → Format A → Format A
either true p q = p
either false p q = q

-- the info of each tag in a file of so many bytes
unfoldable pub info : ℕ → ℕ → Format Component
info tag end =
    either (tag == 1) (header >>= λ x. gives (components.Header x))
    (either (tag == 2) (directory >>= λ x. gives (components.Directory x))
    (either (tag == 3) (applet >>= λ x. gives (components.Applet x))
    (either (tag == 4) (import >>= λ x. gives (components.Import x))
    (either (tag == 5) (constant_pool >>= λ x. gives (components.Pool x))
    (either (tag == 6) (class_info end >>= λ x. gives (components.Class x))
    (either (tag == 7) (method end >>= λ x. gives (components.Method x))
    (either (tag == 8) (static_field >>= λ x. gives (components.Statics x))
    (either (tag == 9) (reference_location >>= λ x. gives (components.Locations x))
    (either (tag == 10) (export >>= λ x. gives (components.Export x))
    (either (tag == 11) (descriptor end >>= λ x. gives (components.Descriptor x))
    (looked_up (Err 0))))))))))))

-- the number of bytes that follow in a file of so many bytes
abbrev pub size_in : ℕ → ℕ → Option ℕ
size_in end n = if n + 3 == end then Some n else None

-- the component of a tag in a file of so many bytes
unfoldable pub component : ℕ → ℕ → Format Component
component tag end = do
  first ← number w8 (exactly tag)
  size ← number w16 (size_in end)
  info tag end
