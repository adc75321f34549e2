-- Rules 18 and 19 over what is lent: the labels as masks, and Parted over a layout of the plan.
-- Not to be believed: the contract of assertions::check_assertions names Judge.antt.
use Rattle.std.specs.Prelude.{ℕ, ◌≡◌, Bool, ◌&&◌, ltb}
use Rattle.mask.specs.Mask.{has}
use Rattle.plan.specs.declared.Assertion.{Assertion}
use Rattle.route.specs.Search.{collect, splits_over}
use Rattle.route.specs.declared.Layout.{Layout}
use Rattle.route.specs.Lent.{laid}
use Rattle.layout.specs.Layout.{made_by}
use Rattle.rules.specs.declared.Verdict.{Verdict}
use Rattle.rules.specs.Broken.{tested}
use Rattle.prot.specs.declared.Labels.{Labels}

-- Document 01's Parted for an assertion's templates and identifier t.
unfoldable pub parted : Layout → Assertion → ℕ → Bool
parted l a t = splits_over (laid l) l.forks (collect 64 (made_by l.creates t)) a.source a.sink a.anc

-- Rules 18 and 19 at one identifier.
unfoldable pub prot_by : Labels → ℕ → Assertion → (ℕ → Bool) → ℕ → Verdict
prot_by labels place a parts t = tested place a t (has t labels.source) (has t labels.sink) (parts t)

-- The mask of the identifiers below the limit, of those asked, that pass the test.
pub record Picked (asked : ℕ) (parts : ℕ → Bool) (limit m : ℕ) : Type 0 where
  pub each : (t : ℕ) → has t m ≡ (ltb t limit && (has t asked && parts t))
