-- The handlers and methods of the package (section 6.9).
use Rattle.std.specs.Prelude.{ℕ, ◌%◌, nat_le}
use Rattle.cjc_bytes.specs.Format.{Format, gives, ◌>>=◌, repeated, u1, u2}
use Rattle.cjc_capread.specs.declared.tree.Method.{Method}
use Rattle.cjc_capread.specs.declared.tree.Handler.{Handler}
use Rattle.cjc_capread.specs.Parts.{bytes_before}

-- the high bit of the second number stops the search
unfoldable pub handler : Format Handler
handler = do
  start ← u2
  bits ← u2
  target ← u2
  catch_index ← u2
  gives (record {
    start = start;
    stop = nat_le 0x8000 bits;
    length = bits % 0x8000;
    handler = target;
    catch_index = catch_index;
  })

-- the methods up to the end of the file, which has so many bytes
unfoldable pub method : ℕ → Format Method
method end = do
  count ← u1
  handlers ← repeated count handler
  methods ← bytes_before end
  gives (record { handlers = handlers; methods = methods })
