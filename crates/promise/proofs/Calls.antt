-- From single calls to lists of calls. Any property of the next serial, the live processes and the history that accepted
-- steps, deliveries and moves of a label keep, every list of calls keeps (`keeps`, `always`); everything that is said of
-- lists of calls goes through these laws.
use Prim.Native.Nat.{ℕ, ◌+◌}
use mathlib.Core.Path.{◌≡◌, refl, sym, subst}
use mathlib.Core.List.{List, [], ◌∷◌, ◌++◌}
use mathlib.Core.Option.{Option, some}
use mathlib.Core.Bool.{Bool, true, false, cond}
use lib.ListN.{length}
use Rattle.plan.specs.declared.Plan.{Plan}
use Rattle.machine.specs.Machine.{Process, Machine, Limits, Call, Outcome, find, remove, spawn, stepped, label_with, relabel, moved, run, root, start}
use Rattle.machine.proofs.Sending.{worn, Passing}
use Rattle.machine.proofs.Templates.{children_at}
use Rattle.machine.proofs.Told.{Stepping, Moving, Told, refuses, steps, delivers, holds, raises, lowers, run_told}
use Rattle.promise.specs.History.{History, births, retire, hear, mark, changes, event, happened, World, after, after_all, opening, world_after}

-- The machine with these.
abbrev pub machine_with : Plan → ℕ → List Process → Machine
machine_with plan next live = record { plan = plan; next = next; live = live }

-- A property of the next serial, the live processes and the history.
abbrev pub Property : Type 1
Property = ℕ → List Process → History → Type 0

-- Accepted steps, deliveries, and accepted raises and lowers keep it.
pub record Preserved (limits : Limits) (plan : Plan) (declass : ℕ) (I : Property) : Type 0 where
  pub by_step : (next : ℕ) (live : List Process) (H : History) → I next live H
      → (s : ℕ) (p : Process) → find s live ≡ some p → (branch : ℕ) → Stepping limits (machine_with plan next live) p branch
      → let templates = children_at plan p.template branch in
      I (next + length templates) (remove s live ++ spawn plan p next templates)
      (births declass s next (children_at plan (H s).template branch) (retire s H))
  pub by_send : (next : ℕ) (live : List Process) (H : History) → I next live H
      → (s r : ℕ) (p q : Process) → find s live ≡ some p → find r live ≡ some q → Passing plan (worn p) (worn q)
      → I next live (hear declass r (H s).knows H)
  pub by_move : (next : ℕ) (live : List Process) (H : History) → I next live H
      → (s : ℕ) (p : Process) → find s live ≡ some p → (present : Bool) (i : ℕ) → Moving plan p present i
      → I next (relabel s (label_with present p.label i) live) (mark s (changes (some p) i present) H)

module _ (limits : Limits) (plan : Plan) (declass : ℕ) (I : Property) (preserved : Preserved limits plan declass I) where
  -- The property after an outcome: `happened` says which history it leaves.
  abbrev After : Outcome → History → History → Type 0
  After o new old = (o.machine.plan ≡ plan) × I o.machine.next o.machine.live (cond (happened o.answer) new old)

  -- An accepted move keeps it, told of what is found.
  move_kept : (next : ℕ) (live : List Process) (H : History) → I next live H
      → (s : ℕ) (p : Process) → find s live ≡ some p → (present : Bool) (i : ℕ) → Moving plan p present i
      → I next (relabel s (label_with present p.label i) live) (mark s (changes (find s live) i present) H)
  move_kept next live H h s p e present i moving =
      subst (λ (o : Option Process). I next (relabel s (label_with present p.label i) live) (mark s (changes o i present) H)) (sym e)
      (preserved.by_move next live H h s p e present i moving)

  -- What any call tells keeps it.
  by_told : (next : ℕ) (live : List Process) (H : History) → I next live H → {call : Call} {o : Outcome}
      → Told limits (machine_with plan next live) call o → After o (event declass (machine_with plan next live) call H) H
  unfolding stepped moved happened
  by_told next live H h (refuses n) = (refl, h)
  by_told next live H h (steps s branch p e stepping) = (refl, preserved.by_step next live H h s p e branch stepping)
  by_told next live H h (delivers s r p q e f differ passing) = (refl, preserved.by_send next live H h s r p q e f passing)
  by_told next live H h (holds s r p q e f differ fails) = (refl, h)
  by_told next live H h (raises s i p e moving) = (refl, move_kept next live H h s p e true i moving)
  by_told next live H h (lowers s i p e moving) = (refl, move_kept next live H h s p e false i moving)

  -- The property, of a world whose machine has this plan.
  abbrev pub HoldsIn : World → Type 0
  HoldsIn w = (w.machine.plan ≡ plan) × I w.machine.next w.machine.live w.history

  by_any : (w : World) (call : Call) → HoldsIn w → HoldsIn (after limits declass w call)
  unfolding after
  by_any w call h =
      let of : Plan → Machine = λ plan. machine_with plan w.machine.next w.machine.live in
      subst (λ (plan' : Plan). After (run limits (of plan') call) (event declass (of plan') call w.history) w.history) (sym h.0)
      (by_told w.machine.next w.machine.live w.history h.1 (run_told limits (of plan) call))

  -- A property that each kind of call keeps, every list of calls keeps;
  pub keeps : (w : World) → HoldsIn w → (calls : List Call) → HoldsIn (after_all limits declass w calls)
  unfolding after_all
  keeps w h [] = h
  keeps w h (call ∷ rest) = keeps (after limits declass w call) (by_any w call h) rest

  -- and if it is so at the start, it is so after every list of calls.
  pub always : I 1 (root plan ∷ []) (opening plan).history → (calls : List Call) → HoldsIn (world_after limits plan declass calls)
  unfolding world_after opening start
  always i calls = keeps (opening plan) (refl, i) calls
