-- Kin and flow (document 01, "Kin and flow"): what the plan, the calls and the machine's answers tell of every process
-- that was ever made. Nothing here is read from what the program keeps.
-- Believed: everything here. Proved with it: crate promise.
use Rattle.std.specs.Prelude.{ℕ, suc}
use mathlib.Core.{Path.{◌≡◌}, Bool.{Bool, true, false, not, cond, ◌&&◌, ◌||◌, beq}, List.{List, [], ◌∷◌}}
use Rattle.std.proofs.Math.Option.{Option, none, some}
use Rattle.std.specs.Prelude.{eqb}
use Rattle.lists.specs.Numbers.{put}
use Rattle.mask.specs.Mask.{has}
use Rattle.plan.specs.{declared.Plan.{Plan}, Plan.{at}}
use Rattle.route.specs.Route.{equals}
use Rattle.machine.specs.declared.Answer.{Answer, TheVariants.{Done, Delivered, Held, Refused}}
use Rattle.machine.specs.Machine.{Process, Machine, Limits, Call, step, send, raise, lower, find, children, run, start}

-- A process on a lineage: its serial and the template it executes.
pub record Node : Type 0 where
  pub serial : ℕ
  pub template : ℕ

abbrev pub node : ℕ → ℕ → Node
node s X = record { serial = s; template = X }

-- What is told of one serial: whether a process with it was made, lives, has moved its own label; its template; its
-- parent, that one's parent and so on to serial 0; and which serials it knows.
pub record Member : Type 0 where
  pub born : Bool
  pub live : Bool
  pub moved : Bool
  pub template : ℕ
  pub above : List Node
  pub knows : ℕ → Bool

abbrev pub History : Type 0
History = ℕ → Member

-- Document 01's term line: "its line is itself, its parent and so on to serial 0".
abbrev pub lineage : ℕ → Member → List Node
lineage s m = node s m.template ∷ m.above

-- The serial of the nearest process on a lineage whose template passes the test.
unfoldable pub nearest : (ℕ → Bool) → List Node → Option ℕ
nearest test [] = none
nearest test (n ∷ rest) = cond (test n.template) (some n.serial) (nearest test rest)

-- "Two processes are kin under A if each has a process executing A on its line to the root and the nearest process
-- executing A on its line is the same."
abbrev pub Kin : History → ℕ → ℕ → ℕ → Type 0
Kin H A p q =
    (s : ℕ) × (nearest (equals A) (lineage p (H p)) ≡ some s) × (nearest (equals A) (lineage q (H q)) ≡ some s)

abbrev pub nobody : Member
nobody = record { born = false; live = false; moved = false; template = 0; above = []; knows = λ y. false }

-- "A process knows itself from its creation; a child knows what its parent knew"; "a process at a Declass template
-- learns nothing by either way".
unfoldable pub inherited : ℕ → ℕ → ℕ → (ℕ → Bool) → ℕ → Bool
inherited declass s Y parent y = eqb y s || (not (has Y declass) && parent y)

-- "On delivery the receiver learns what the sender knows."
unfoldable pub learnt : ℕ → ℕ → (ℕ → Bool) → (ℕ → Bool) → ℕ → Bool
learnt declass X own sender y = own y || (not (has X declass) && sender y)

abbrev pub newborn : ℕ → List Node → (ℕ → Bool) → Member
newborn Y above knows = record { born = true; live = true; moved = false; template = Y; above = above; knows = knows }

-- A member with other marks and knowledge; its lineage never changes.
abbrev pub touched : Member → Bool → Bool → (ℕ → Bool) → Member
touched m live moved knows =
    record { born = m.born; live = live; moved = moved; template = m.template; above = m.above; knows = knows }

-- "An accepted step of a process ends it."
abbrev pub retire : ℕ → History → History
retire s H = put H s (touched (H s) false (H s).moved (H s).knows)

-- "The children that the machine then makes have it as parent": at these templates, from serial n on.
unfoldable pub births : ℕ → ℕ → ℕ → List ℕ → History → History
births declass s n [] H = H
births declass s n (Y ∷ rest) H =
    births declass s (suc n) rest (put H n (newborn Y (lineage s (H s)) (inherited declass n Y (H s).knows)))

-- The receiver `to` learns from one that has that knowledge.
abbrev pub hear : ℕ → ℕ → (ℕ → Bool) → History → History
hear declass to knows H =
    put H to (touched (H to) (H to).live (H to).moved (learnt declass (H to).template (H to).knows knows))

-- "It has moved its own label once an accepted raise or lower of it changed that label."
abbrev pub mark : ℕ → Bool → History → History
mark s changed H = put H s (touched (H s) (H s).live ((H s).moved || changed) (H s).knows)

-- Whether a move that leaves identifier i present, or absent, changes the label of the process that is found: true where
-- the label has i otherwise than that, false where it has i so already or no process is found.
abbrev pub changes : Option Process → ℕ → Bool → Bool
changes none i present = false
changes (some p) i present = not (beq (has i p.label) present)

-- The history after a call that the machine m accepted, or delivered.
abbrev pub event : ℕ → Machine → Call → History → History
event declass m (step s branch) H =
    births declass s m.next (children (at m.plan (H s).template).form branch) (retire s H)
event declass m (send from to) H = hear declass to (H from).knows H
event declass m (raise s i) H = mark s (changes (find s m.live) i true) H
event declass m (lower s i) H = mark s (changes (find s m.live) i false) H

-- "Whether a send was delivered or a call refused is the answer that the call gave."
unfoldable pub happened : Answer → Bool
happened Done = true
happened Delivered = true
happened Held = false
happened (Refused n) = false

-- The machine beside the history, for one assertion's Declass.
pub record World : Type 0 where
  pub machine : Machine
  pub history : History

unfoldable pub after : Limits → ℕ → World → Call → World
after limits declass w call =
    let o = run limits w.machine call in
    let history = cond (happened o.answer) (event declass w.machine call w.history) w.history in
    record { machine = o.machine; history = history }

unfoldable pub after_all : Limits → ℕ → World → List Call → World
after_all limits declass w [] = w
after_all limits declass w (call ∷ rest) = after_all limits declass (after limits declass w call) rest

-- "Serial 0 is at template 0 and has no parent."
unfoldable pub opening : Plan → World
opening plan = record { machine = start plan; history = put (λ s. nobody) 0 (newborn 0 [] (λ y. eqb y 0)) }

-- After a list of calls from the started machine.
unfoldable pub world_after : Limits → Plan → ℕ → List Call → World
world_after limits plan declass calls = after_all limits declass (opening plan) calls
