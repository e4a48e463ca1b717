use Rattle.std.proofs.Common.{ℕ, ◌<◌, length, All, subst, sym, ap, ◌∙◌}
use Rattle.cjc_code.specs.declared.insn.JInsn.{JInsn}
use Rattle.cjc_types.proofs.Indexing.{index_more, length-put}
use Rattle.cjc_types.proofs.index.index.Goals as goal

pub loop-place-preserved : goal.loop-place-preserved
loop-place-preserved c = record {
  inside = subst (λ (n : ℕ). All (λ (i : JInsn). i.at < n) c.args.insns.now) (sym (ap length c.put_place.ensures ∙ length-put c.loop-place.places.items c.index-insns-place.result.at c.loop-place.place)) c.loop-place.invariant.inside;
  index = index_more c.args.insns.now c.loop-place.place c.index-insns-place.result c.loop-place.places.items c.put_place.new.places.items c.loop-place-test.true c.index-insns-place.is c.loop-place.invariant.inside c.loop-place.invariant.index c.put_place.ensures;
}
