-- So far what is kept is in no neg of a template below x outside declass.
use native.Mathlib.Omega.{arith}
use Rattle.secrecy.proofs.Wearing.{kept_start, kept_more, kept_end}
use Rattle.secrecy.proofs.find_kept.Goals as goal

pub loop-x-init : goal.loop-x-init
loop-x-init c = record { so_far = kept_start _ _ _; full = λ h. omega arith }

pub loop-x-preserved : goal.loop-x-preserved
loop-x-preserved c = record { so_far = kept_more _ _ _ _ _ _ c.loop-x.invariant.so_far c.keep-kept.ensures; full = λ h. omega arith }

pub returns : goal.returns
returns c t = let kept = c.loop-x.invariant in kept_end _ _ _ _ _ _ kept.so_far kept.full c.capped-x-end.ensures c.loop-x.auto.x-end c.loop-x-test.false t
