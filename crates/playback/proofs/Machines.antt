-- The machine beside a history is the one that the calls leave, whichever the assertion's Declass: so what the promise
-- says of a world it says of the machine that was played.
use Prim.Native.Nat.{ℕ}
use mathlib.Core.Path.{◌≡◌, refl}
use mathlib.Core.List.{List, [], ◌∷◌}
use Rattle.plan.specs.declared.Plan.{Plan}
use Rattle.machine.specs.Machine.{Limits, Call, start}
use Rattle.promise.specs.History.{World, after, after_all, opening, world_after}
use Rattle.promise.specs.Replay.{machine_after}

module _ (limits : Limits) (declass : ℕ) where
  machine_after_lem : (w : World) (calls : List Call) → (after_all limits declass w calls).machine ≡ machine_after limits w.machine calls
  unfolding after after_all machine_after
  machine_after_lem w [] = refl
  machine_after_lem w (call ∷ rest) = machine_after_lem (after limits declass w call) rest

  pub world_machine : (plan : Plan) (calls : List Call) → (world_after limits plan declass calls).machine ≡ machine_after limits (start plan) calls
  unfolding opening world_after
  world_machine plan calls = machine_after_lem (opening plan) calls
