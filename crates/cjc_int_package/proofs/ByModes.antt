-- A method that is not in int mode has the code that it has without modes.
use Rattle.std.proofs.Common.{◌≡◌, refl, ap, false, List}
use Rattle.std.specs.Prelude.{Option, Some, None}
use Rattle.cjc_bytes.specs.declared.fault.MemberId.{MemberId}
use Rattle.cjc_world.specs.Files.{Files}
use Rattle.cjc_world.specs.declared.found.Found.{Found}
use Rattle.cjc_components.specs.LowerJvmSemantics.Linked.{Method}
use Rattle.cjc_components.specs.LowerNarrow.Rows.Package.{code_of}
use Rattle.cjc_components.specs.Written.{code_by}
use Rattle.cjc_int_mode.specs.declared.modes.Mode.{Mode}
use Rattle.cjc_int_mode.specs.declared.modes.Mode.TheVariants as modes
use Rattle.cjc_int_package.specs.Components.{is_in_int_mode}
use Rattle.cjc_int_package.specs.Modes.{Tables, is_int}
use Rattle.cjc_int_package.specs.Written.{code_by_mode, code_in}

pub same_code : (files : Files) (near : List MemberId) (t : Tables) (f : Found) (o : Option Method)
    → is_in_int_mode t o ≡ false → code_by_mode files near t f o ≡ code_by files near t.types f o
same_code files near t f None off = refl
same_code files near t f (Some m) off = go (t.mode m) refl off
  where
    go : (mode : Mode) → t.mode m ≡ mode → is_int mode ≡ false → code_in files near t (t.mode m) m
        ≡ code_of files near t.types m
    go modes.Short e h = ap (λ q. code_in files near t q m) e
    go modes.Int e h = absurd cc
