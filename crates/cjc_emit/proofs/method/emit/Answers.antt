use Rattle.std.proofs.Common.{◌∙◌, ap, ℕ, length, ◌++◌}
use Rattle.cjc_emit.specs.Emitted.{header_bytes}
use Rattle.cjc_emit.specs.Working.{all_marked, all_written, label_at}
use Rattle.cjc_emit.proofs.Whole.{whole_marked, whole_written}
use Rattle.cjc_emit.proofs.method.emit.Goals as goal

pub returns : goal.returns
returns g c n h =
    let m = c.args.method.now in
    let l = c.args.layout.now in
    let ks = g.P.PoolLookup.pool_keys c.args.pool.now in
    let token_of = g.P.PoolLookup.method_token c.args.pool.now in
    let header = c.in_ok-bytes.bytes in
    let places = c.items-places.result.now in
    let insns = c.items-insns.result.now in
    let size = ap length (c.items.ensures ∙ c.in_ok-bytes.ensures) in
    let marked = λ (bytes : ℕ).
    ap (λ k. all_marked bytes k places 0 insns) size
    ∙ (ap (λ ps. all_marked bytes (length (header_bytes m)) ps 0 insns) c.items-places.ensures
    ∙ (ap (λ is. all_marked bytes (length (header_bytes m)) l.places 0 is) c.items-insns.ensures
    ∙ whole_marked ks token_of n m l c.requires h bytes)) in
    record {
      bytes =
          c.in_ok-put_code.ensures
          ∙ (ap (λ xs. xs ++ all_written ks token_of (label_at places l.length) places 0 insns c.items-2.result.now)
          c.in_ok-bytes.ensures
          ∙ (ap (λ ps. header_bytes m ++ all_written ks token_of (label_at ps l.length) ps 0 insns c.items-2.result.now)
          c.items-places.ensures
          ∙ (ap (λ is. header_bytes m ++ all_written ks token_of (label_at l.places l.length) l.places 0 is
          c.items-2.result.now) c.items-insns.ensures
          ∙ (ap (λ ws. header_bytes m ++ all_written ks token_of (label_at l.places l.length) l.places 0 m.insns ws)
          c.items-2.ensures
          ∙ whole_written ks token_of n m l c.requires h))));
      ones = c.in_ok-mark_all.ensures.ones ∙ (ap (λ xs. xs ++ all_marked 1 (length c.items.result.now) places 0 insns)
          c.new-ones.ensures ∙ marked 1);
      twos = c.in_ok-mark_all.ensures.twos ∙ (ap (λ xs. xs ++ all_marked 2 (length c.items.result.now) places 0 insns)
          c.new-twos.ensures ∙ marked 2);
    }
