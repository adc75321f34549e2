-- The search for a creator as the code makes it: from a template on.
-- Not to be believed: two such searches are those of Judge.antt, which the contract of check_11 names.
use Rattle.std.specs.Prelude.{ℕ, min, ◌&&◌, leb, Option}
use Rattle.plan.specs.declared.Plan.{Plan}
use Rattle.plan.specs.Plan.{creates}
use Rattle.offenders.specs.Lowest.{lowest_of}

-- The templates that stand in the array; past its 64 places all are blank.
abbrev pub placed : Plan → ℕ
placed plan = min plan.count 64

-- The lowest of them from the given one on that creates t.
unfoldable pub creator_from : Plan → ℕ → ℕ → Option ℕ
creator_from plan from t = lowest_of (placed plan) (λ X. leb from X && creates plan t X)
