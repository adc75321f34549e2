use Prim.Native.Nat.{◌<◌}
use mathlib.Core.Path.{◌≡◌}
use lib.ListN.{length}
use Rattle.secrecy.proofs.Wearing.{KeptSoFar}
use Rattle.secrecy.proofs.find_kept.Given as goal

abbrev pub invariant-loop-x : goal.invariant-loop-x
invariant-loop-x l = record {
  so_far : KeptSoFar l.plan l.worn l.declass l.kept l.x;
  full : 0 < l.x → length l.plan.templates ≡ 64;
}
