use Rattle.std.proofs.Common.{◌≡◌, take}
use Rattle.cjc_judge.proofs.judging.applets_of.Given as goal

abbrev pub invariant-loop-applet : goal.invariant-loop-applet
invariant-loop-applet l = l.applets ≡ take l.applet-index l.list.applets
