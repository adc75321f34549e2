-- Which plans with names have a text. A policy has one over N templates where it is PolicyInRange N.
-- Believed beside Printing.antt, with crate plan's ranges (plan/specs/Range.antt).
use Rattle.std.specs.Prelude.{ℕ, ◌≤◌, ◌<◌}
use mathlib.Core.{Path.{◌≡◌}, Logic.{◌⊎◌, ◌≢◌}, List.{List, []}}
use Rattle.std.specs.Prelude.{length, get_or}
use Rattle.plan.specs.{declared.Plan.{Plan}, Range.{InRange}}

-- "1 to 16 of a-z, 0-9": bytes 97 to 122 and 48 to 57.
pub record Name (name : List ℕ) : Type 0 where
  pub some : 1 ≤ length name
  pub few : length name ≤ 16
  pub bytes : (i : ℕ) → i < length name
      → ((97 ≤ get_or name i 0) × (get_or name i 0 ≤ 122)) ⊎ ((48 ≤ get_or name i 0) × (get_or name i 0 ≤ 57))

-- A plan in range, and a name for each of its templates; no name "stood earlier".
pub record Printable (plan : Plan) (names : List (List ℕ)) : Type 0 where
  pub range : InRange plan
  pub one_each : length names ≡ plan.count
  pub valid : (X : ℕ) → X < plan.count → Name (get_or names X [])
  pub distinct : (X Y : ℕ) → X < Y → Y < plan.count → get_or names X [] ≢ get_or names Y []
