-- Both tag relations of Route.antt as tests that compute, by the searches that the code makes.
-- Not to be believed: the laws of proofs/Exact.antt say that each test is true exactly when its relation holds.
use Rattle.std.specs.Prelude.{ℕ, zero, suc, Bool, true, false, not, List, [], ◌∷◌, ltb}
use Rattle.lists.specs.Numbers.{any}
use Rattle.lists.specs.Joins.{both, either}
use Rattle.mask.specs.Mask.{has, plus}
use Rattle.plan.specs.declared.Form.{Form}
use Rattle.plan.specs.declared.Form.TheVariants.{End, Go, Either, Both}
use Rattle.plan.specs.declared.Plan.{Plan}
use Rattle.plan.specs.Plan.{at, successors, creates}
use Rattle.route.specs.declared.Target.{Target}
use Rattle.route.specs.declared.Targets.{Targets}
use Rattle.route.specs.declared.Forks.{Forks}

-- ---- masks over templates

-- X is in the mask m: a bar, or any other test, by a mask. Nothing is barred by `in_mask 0`.
abbrev pub in_mask : ℕ → ℕ → Bool
in_mask m X = has X m

-- What f computes where the test holds, else the other.
unfoldable pub if_so : Bool → ℕ → (Unit {0} → ℕ) → ℕ
if_so true other f = f tt
if_so false other f = other

-- m with X, where X is wanted and a place of a plan.
unfoldable pub including : ℕ → ℕ → Bool → ℕ
including m X wanted = if_so (both (ltb X 64) wanted) m (λ _. plus m X)

-- The templates below n that pass a test.
unfoldable pub collect : ℕ → (ℕ → Bool) → ℕ
collect zero test = 0
collect (suc n) test = including (collect n test) n (test n)

-- X alone.
unfoldable pub only : ℕ → ℕ
only X = including 0 X true

-- Some template is in both masks.
unfoldable pub meet : ℕ → ℕ → Bool
meet m n = any 64 (λ X. both (has X m) (has X n))

-- ---- the search

-- The templates of a list entered one after the other.
unfoldable pub enter_all : (ℕ → ℕ → ℕ) → ℕ → List ℕ → ℕ
enter_all enter seen [] = seen
enter_all enter seen (Y ∷ rest) = enter_all enter (enter seen Y) rest

-- X is to be entered: a place of a plan, not seen yet and not barred.
unfoldable pub is_open : (ℕ → Bool) → ℕ → ℕ → Bool
is_open barred seen X = both (ltb X 64) (both (not (has X seen)) (not (barred X)))

-- Depth first: what is entered from X is added to what was seen; nothing where X is not open. depth bounds the
-- recursion; 64 is enough.
unfoldable pub enter : Plan → (ℕ → Bool) → ℕ → ℕ → ℕ → ℕ
enter plan barred zero seen X = seen
enter plan barred (suc depth) seen X =
    if_so (is_open barred seen X) seen (λ _. enter_all (enter plan barred depth) (plus seen X) (successors (at plan X).form))

-- The mask of the templates that routes from X reach without a barred one.
unfoldable pub reach : Plan → (ℕ → Bool) → ℕ → ℕ
reach plan barred X = enter plan barred 64 0 X

-- ---- the source and the sink as targets

-- W is a way to a place: a template of `via` from which routes without a barred one lead there. The ways below n.
abbrev pub is_way : Plan → ℕ → ℕ → ℕ → ℕ → Bool
is_way plan barred via place W = both (has W via) (has place (reach plan (in_mask barred) W))

unfoldable pub ways : ℕ → Plan → ℕ → ℕ → ℕ → ℕ
ways n plan barred via place = collect n (is_way plan barred via place)

-- The source and the sink, each with its ways below n.
unfoldable pub targets : ℕ → Plan → ℕ → ℕ → ℕ → ℕ → Targets
targets n plan barred via S K =
    record { source = record { place = S; ways = ways n plan barred via S }; sink = record { place = K; ways = ways n plan barred via K } }

-- Targets with W as one more way, where it is one.
unfoldable pub widened : Target → ℕ → Bool → Target
widened to W wanted = record { place = to.place; ways = including to.ways W wanted }

unfoldable pub extended : Plan → ℕ → ℕ → Targets → ℕ → Targets
extended plan barred via to W = record {
  source = widened to.source W (is_way plan barred via to.source.place W);
  sink = widened to.sink W (is_way plan barred via to.sink.place W);
}

-- What a search reached holds the target, or a way to it.
unfoldable pub arrives : ℕ → Target → Bool
arrives m to = has to.place m

unfoldable pub detours : ℕ → Target → Bool
detours m to = meet m to.ways

-- ---- both relations

-- One branch reaches m and the other n: with them the source and the sink, by any routes where `direct` holds, and by
-- routes of which one passes a way where `passing` does.
unfoldable pub crosses : Targets → Bool → Bool → ℕ → ℕ → Bool
crosses to direct passing m n =
    either (both direct (both (arrives m to.source) (arrives n to.sink)))
    (both passing (either (both (detours m to.source) (arrives n to.sink)) (both (arrives m to.source) (detours n to.sink))))

-- The branches Y and Z of a fork cross, in either assignment.
unfoldable pub branches_cross : Plan → ℕ → Targets → Bool → Bool → ℕ → ℕ → Bool
branches_cross plan barred to direct passing Y Z =
    let m = reach plan (in_mask barred) Y in
    let n = reach plan (in_mask barred) Z in
    either (crosses to direct passing m n) (crosses to direct passing n m)

-- What a test says of the branches of a template, if it is a `both`.
abbrev pub on_branches : Form → (ℕ → ℕ → Bool) → Bool
on_branches End test = false
on_branches (Go Y) test = false
on_branches (Either Y Z) test = false
on_branches (Both Y Z) test = test Y Z

-- L is a fork, and its branches cross.
unfoldable pub fork_crosses : Plan → ℕ → Targets → Forks → ℕ → Bool
fork_crosses plan barred to forks L =
    both (has L forks.reached) (on_branches (at plan L).form (branches_cross plan barred to (has L forks.direct) (has L forks.passing)))

-- Routes from Y lead to the sink.
unfoldable pub leads : Plan → ℕ → Target → Bool → ℕ → Bool
leads plan barred to direct Y =
    let m = reach plan (in_mask barred) Y in
    either (both direct (arrives m to)) (detours m to)

-- A test passes at some template of a list.
unfoldable pub any_in : (ℕ → Bool) → List ℕ → Bool
any_in test [] = false
any_in test (Y ∷ rest) = either (test Y) (any_in test rest)

-- Document 01's Joined as a test, over the mask of C: C barred, by way of A. No way is needed at a fork, nor from the
-- source, where the root reaches it without A. Of the templates of `tried` each `both` is a fork.
unfoldable pub shares_over : Plan → ℕ → ℕ → ℕ → ℕ → ℕ → Bool
shares_over plan tried C S K A =
    let root = reach plan (in_mask 0) 0 in
    let lacking = reach plan (in_mask (only A)) 0 in
    let to = targets 64 plan C (only A) S K in
    either (any 64 (fork_crosses plan C to (record { reached = tried; direct = lacking; passing = root })))
    (both (has S root) (any_in (leads plan C to.sink (has S lacking)) (successors (at plan S).form)))

-- Document 01's Parted as a test, likewise: A barred, by way of C, at the forks that are reached from A.
unfoldable pub splits_over : Plan → ℕ → ℕ → ℕ → ℕ → ℕ → Bool
splits_over plan tried C S K A =
    let under = reach plan (in_mask 0) A in
    let to = targets 64 plan (only A) C S K in
    both (has A (reach plan (in_mask 0) 0)) (any 64 (fork_crosses plan (only A) to (record { reached = tried; direct = 0; passing = under })))

-- Both for identifier t: what the root reaches is tried.
unfoldable pub shares_tag : Plan → ℕ → ℕ → ℕ → ℕ → Bool
shares_tag plan t S K A = shares_over plan (reach plan (in_mask 0) 0) (collect 64 (creates plan t)) S K A

unfoldable pub splits_tag : Plan → ℕ → ℕ → ℕ → ℕ → Bool
splits_tag plan t S K A = splits_over plan (reach plan (in_mask 0) 0) (collect 64 (creates plan t)) S K A
