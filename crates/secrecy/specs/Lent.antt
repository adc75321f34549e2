-- Rule 17 over what is lent: the labels as masks, and Joined over a layout of the plan.
-- Not to be believed: the contract of assertions::check_assertions names Judge.antt.
use Rattle.std.specs.Prelude.{ℕ, Bool, not, cond, ◌&&◌, ◌||◌}
use Rattle.std.specs.Int.Bits.{bit_or}
use Rattle.mask.specs.Mask.{has}
use Rattle.plan.specs.declared.Template.{Template}
use Rattle.plan.specs.declared.Plan.{Plan}
use Rattle.plan.specs.declared.Assertion.{Assertion}
use Rattle.plan.specs.Plan.{at}
use Rattle.route.specs.Search.{collect, shares_over}
use Rattle.route.specs.declared.Layout.{Layout}
use Rattle.route.specs.Lent.{laid}
use Rattle.layout.specs.Layout.{made_by}

-- Template X is in declass, or t is not in its neg.
unfoldable pub keeps : Plan → ℕ → ℕ → ℕ → Bool
keeps plan declass t X = has X declass || not (has t (at plan X).neg)

-- lab X, with pos X added if X is at risk.
unfoldable pub wearables : Template → ℕ
wearables X = cond X.risk (bit_or X.lab X.pos) X.lab

-- Document 01's Joined for an assertion's templates and identifier t.
unfoldable pub joined : Layout → Assertion → ℕ → Bool
joined l a t = shares_over (laid l) l.forks (collect 64 (made_by l.creates t)) a.source a.sink a.anc

-- Rule 17's identifier: one that is kept, and not risked or not joined.
unfoldable pub serves_by : ℕ → ℕ → (ℕ → Bool) → ℕ → Bool
serves_by kept risked joins t = has t kept && (not (has t risked) || not (joins t))
