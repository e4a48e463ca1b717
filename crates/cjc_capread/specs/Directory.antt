-- The sizes of the components (section 6.4).
use Rattle.std.specs.Int.{w8}
use Rattle.cjc_bytes.specs.Format.{Format, number, gives, ◌>>=◌, repeated, u1, u2}
use Rattle.cjc_capread.specs.declared.tree.Directory.{Directory}
use Rattle.cjc_capread.specs.Parts.{exactly}

-- twelve sizes, five counts, and no custom component
unfoldable pub directory : Format Directory
directory = do
  sizes ← repeated 12 u2
  image_size ← u2
  array_init_count ← u2
  array_init_size ← u2
  import_count ← u1
  applet_count ← u1
  custom_count ← number w8 (exactly 0)
  gives (record {
    component_sizes = sizes;
    image_size = image_size;
    array_init_count = array_init_count;
    array_init_size = array_init_size;
    import_count = import_count;
    applet_count = applet_count;
  })
