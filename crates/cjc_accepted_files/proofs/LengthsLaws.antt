-- No file of a conversion is longer than those that are read.
use Rattle.std.proofs.Common.{◌≡◌, ◌≤◌, ℕ, suc, refl, arith, Bool, true, false, List, length, Option, Some, None}
use Rattle.std.proofs.lemmas.Bool.{ltb-false}
use Rattle.std.specs.Prelude.{IfSome, if◌then◌else◌, nat_lt}
use Rattle.cjc_cmd_card.proofs.BytesBools.{or_left, or_right}
use Rattle.cjc_components.specs.LowerCapWrite.Files.{Infos, ends_too_far, file, file_where, infos_of, is_long}
use Rattle.cjc_components.specs.LowerCapWrite.Files.{is_too_large, limit_of}
use Rattle.cjc_components.specs.LowerCapWrite.declared.files.CapFiles.{CapFiles}
use Rattle.cjc_components.specs.LowerCapWrite.Files.{files_of}
use Rattle.cjc_components.specs.LowerCapRead.declared.tree.CapTree.{CapTree}
use Rattle.cjc_shelf.specs.Shelf.{longest_file}

-- Each file can be read.
pub record AreShort (caps : CapFiles) : Type 0 where
  pub header : length caps.header ≤ longest_file
  pub directory : length caps.directory ≤ longest_file
  pub applet : IfSome caps.applet (λ bytes. length bytes ≤ longest_file)
  pub import : length caps.import ≤ longest_file
  pub pool : length caps.pool ≤ longest_file
  pub class : length caps.class ≤ longest_file
  pub method : length caps.method ≤ longest_file
  pub statics : length caps.statics ≤ longest_file
  pub locations : length caps.locations ≤ longest_file
  pub export : IfSome caps.export (λ bytes. length bytes ≤ longest_file)
  pub descriptor : length caps.descriptor ≤ longest_file

not_large : (a b : Bool) → ◌≡◌ {A = Option ℕ} (if a then Some 411 else if b then Some 416 else None) None → b ≡ false
not_large true b e = absurd cc
not_large false true e = absurd cc
not_large false false e = refl

file_short : (tag : ℕ) (info : List ℕ) → length info ≤ 65535 → length (file tag info) ≤ longest_file
unfolding file
file_short tag info le =
    let long : length (file tag info) ≡ suc (suc (suc (length info))) = refl in
    let all : length (file tag info) ≤ 262144 = omega (arith, le, long) in
    all

where_short : (b : Bool) (tag : ℕ) (info : List ℕ) → length info ≤ 65535 → IfSome (file_where b tag info)
    (λ bytes. length bytes ≤ longest_file)
where_short true tag info le = file_short tag info le
where_short false tag info le = tt

module _ (cap : CapTree) (kept : limit_of cap ≡ None) where
  abbrev infos : Infos
  infos = infos_of cap

  fine : is_too_large infos ≡ false
  fine = not_large (ends_too_far cap.descriptor) (is_too_large infos) kept

  class_short : length infos.class ≤ 65535
  class_short =
      let le = ltb-false 32767 (length infos.class) (or_left (nat_lt 32767 (length infos.class)) _ fine) in
      omega (arith, le)

  short : (info : List ℕ) → is_long info ≡ false → length info ≤ 65535
  short info e = ltb-false 65535 (length info) e

  pub files_short : length infos.method ≤ 65535 → AreShort (files_of cap)
  files_short method =
      let from_header = or_right (nat_lt 32767 (length infos.class)) _ fine in
      let from_directory = or_right (is_long infos.header) _ from_header in
      let from_applet = or_right (is_long infos.directory) _ from_directory in
      let from_import = or_right (is_long infos.applet) _ from_applet in
      let from_pool = or_right (is_long infos.import) _ from_import in
      let from_statics = or_right (is_long infos.pool) _ from_pool in
      let from_locations = or_right (is_long infos.statics) _ from_statics in
      let from_export = or_right (is_long infos.locations) _ from_locations in
      record {
        header = file_short 1 infos.header (short infos.header (or_left (is_long infos.header) _ from_header));
        directory = file_short 2 infos.directory (short infos.directory (or_left (is_long infos.directory) _
            from_directory));
        applet = where_short _ 3 infos.applet (short infos.applet (or_left (is_long infos.applet) _ from_applet));
        import = file_short 4 infos.import (short infos.import (or_left (is_long infos.import) _ from_import));
        pool = file_short 5 infos.pool (short infos.pool (or_left (is_long infos.pool) _ from_pool));
        class = file_short 6 infos.class class_short;
        method = file_short 7 infos.method method;
        statics = file_short 8 infos.statics (short infos.statics (or_left (is_long infos.statics) _ from_statics));
        locations = file_short 9 infos.locations (short infos.locations (or_left (is_long infos.locations) _
            from_locations));
        export = where_short _ 10 infos.export (short infos.export (or_left (is_long infos.export) _ from_export));
        descriptor = file_short 11 infos.descriptor (short infos.descriptor (or_right (is_long infos.export) _
            from_export));
      }
