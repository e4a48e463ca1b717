use Rattle.std.proofs.Common.{◌≡◌, ◌+◌, ℕ, ap, arith, length, drop, List}
use Rattle.std.specs.Prelude.{sum_by}
use Rattle.cjc_check.specs.Complete.{package_size}
use Rattle.cjc_check.proofs.Firsts.{sum_step}
use Rattle.cjc_check.proofs.Packages.{packages_more, packages_short, packages_all}
use Rattle.cjc_check.proofs.imports.packages_agree.Goals as goal

pub loop-i-preserved : goal.loop-i-preserved
loop-i-preserved c =
    let ps = c.args.packages.now in
    let ts = c.args.exports.now in
    let i = c.loop-i.i in
    let p = c.index-packages-i.result in
    let t = c.index-exports-i.result in
    let n : length c.items.result.now ≡ length p.aid = ap (λ (bytes : List ℕ). length bytes) c.items.ensures in
    let s : sum_by package_size (drop i ps) ≡ package_size p + sum_by package_size (drop (i + 1) ps) = sum_step package_size i p ps c.loop-i-test.true c.index-packages-i.is in
    let h = c.loop-i.invariant.0 in
    (omega (arith, s, n, h), rw c.earlier-least.ensures (packages_more c.loop-i.at _ i p t ps ts c.loop-i.least c.package_agrees.result _ c.loop-i-test.true c.if-i-exports.false c.index-packages-i.is c.index-exports-i.is (omega (arith, n)) c.package_agrees.ensures c.loop-i.invariant.1))

pub returns-then-i-exports : goal.returns-then-i-exports
returns-then-i-exports c = packages_short c.loop-i.at c.loop-i.i c.args.packages.now c.args.exports.now c.loop-i.least _ c.if-i-exports.true c.loop-i.invariant.1

pub returns : goal.returns
returns c = packages_all c.loop-i.at c.loop-i.i c.args.packages.now c.args.exports.now c.loop-i.least _ c.loop-i-test.false c.loop-i.invariant.1
