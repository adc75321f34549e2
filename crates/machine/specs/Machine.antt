-- The monitor's machine (document 01, "The monitor's machine").
-- Believed: everything here. Proved against it: the crates from planrow to monitor.
use Rattle.std.specs.Prelude.{ℕ, suc, ◌+◌, ◌-◌, ◌^◌}
use mathlib.Core.{Bool.{Bool, true, false, not, cond, ◌&&◌, ◌||◌}, List.{List, [], ◌∷◌, ◌++◌, map}}
use Rattle.std.proofs.Math.Option.{Option, none, some}
use lib.{Dec.{eqb, leb, ltb}, ListN.{length, get_or}}
use Rattle.lists.specs.Numbers.{every, all, tabulate}
use Rattle.mask.specs.Mask.{has, plus, without}
use Rattle.plan.specs.declared.{Form.{Form, TheVariants.{End, Go, Either, Both}}, Template.{Template}, Plan.{Plan}}
use Rattle.plan.specs.Plan.{at, creates, template_fits}
use Rattle.rules.specs.Judge.{EdgeRule, step_rules}
use Rattle.machine.specs.declared.Answer.{Answer, TheVariants.{Done, Delivered, Held, Refused}}

-- "A process has a serial, a template, a label (a mask) and, for each identifier, a tag."
pub record Process : Type 0 where
  pub serial : ℕ
  pub template : ℕ
  pub label : ℕ
  pub tags : List ℕ

unfoldable pub tag : Process → ℕ → ℕ
tag p i = get_or p.tags i 0

-- "State: the plan, the next serial, at most 128 processes live, in rising serial."
pub record Machine : Type 0 where
  pub plan : Plan
  pub next : ℕ
  pub live : List Process

-- How many processes may live, and how great the next serial may be, as tests.
pub record Limits : Type 0 where
  pub processes : ℕ → Bool
  pub serials : ℕ → Bool

abbrev pub box_limits : Limits
box_limits = record { processes = λ n. leb n 128; serials = λ n. leb n 4294967295 }

pub data Call : Type 0 where
  step : ℕ → ℕ → Call
  send : ℕ → ℕ → Call
  raise : ℕ → ℕ → Call
  lower : ℕ → ℕ → Call

pub record Outcome : Type 0 where
  pub answer : Answer
  pub machine : Machine

-- Refusals are tried in order: the first test that holds gives its number.
unfoldable pub refuse_if : Bool → ℕ → Answer → Answer
refuse_if true number later = Refused number
refuse_if false number later = later

-- An accepted step, raise or lower changes the machine; every other answer hands back the one it got.
unfoldable pub if_done : Answer → Machine → Machine → Machine
if_done Done new old = new
if_done Delivered new old = old
if_done Held new old = old
if_done (Refused n) new old = old

-- "A count [..] passed": 1 to 64 templates, 0 to 32 identifiers; and each template fits.
unfoldable pub plan_fits : Plan → Bool
plan_fits plan =
    (ltb 0 plan.count && (leb plan.count 64 && leb plan.identifiers 32))
    && every plan.count (λ X. template_fits plan.count plan.identifiers (at plan X))

-- "A template [..] not below N, serials [..] not below the next, a tag not below the next, a mask of a label [..] beyond M."
unfoldable pub process_fits : Plan → ℕ → Process → Bool
process_fits plan next p =
    ltb p.serial next && (ltb p.template plan.count
    && (ltb p.label (2 ^ plan.identifiers) && all (λ t. ltb t next) p.tags))

-- Each number is below the one after it.
unfoldable pub rising : List ℕ → Bool
rising xs = every (length xs - 1) (λ i. ltb (get_or xs i 0) (get_or xs (i + 1) 0))

-- The processes, beside a plan and a next serial.
unfoldable pub population_fits : Limits → Plan → ℕ → List Process → Bool
population_fits limits plan next live =
    limits.processes (length live) && (rising (map (λ p. p.serial) live) && all (process_fits plan next) live)

-- Not 20.
unfoldable pub well_formed : Limits → Machine → Bool
well_formed limits m =
    plan_fits m.plan && (limits.serials m.next && population_fits limits m.plan m.next m.live)

-- The process with that serial; "21: that serial is not live".
unfoldable pub find : ℕ → List Process → Option Process
find s [] = none
find s (p ∷ rest) = cond (eqb p.serial s) (some p) (find s rest)

unfoldable pub remove : ℕ → List Process → List Process
remove s [] = []
remove s (p ∷ rest) = cond (eqb p.serial s) (remove s rest) (p ∷ remove s rest)

-- "22: branch is not 0, or for `either` not 0 or 1."
unfoldable pub branch_fits : Form → ℕ → Bool
branch_fits End branch = eqb branch 0
branch_fits (Go Y) branch = eqb branch 0
branch_fits (Either Y Z) branch = leb branch 1
branch_fits (Both Y Z) branch = eqb branch 0

-- "`go` and `either` make one child, `both` two (Y takes the lower serial), `end` none": their templates.
unfoldable pub children : Form → ℕ → List ℕ
children End branch = []
children (Go Y) branch = Y ∷ []
children (Either Y Z) branch = cond (eqb branch 0) Y Z ∷ []
children (Both Y Z) branch = Y ∷ Z ∷ []

-- "For some child at Y, the label is not as rules 12, 13, 16 ask, the process's label standing for lab X."
unfoldable pub may_become : Plan → ℕ → ℕ → ℕ → Bool
may_become plan label X Y =
    every plan.identifiers (λ i. all (λ (r : EdgeRule). not (r.offends label (at plan X) (at plan Y) i)) step_rules)

-- "A child has lab Y, its parent's tags, and its own serial as tag of each identifier Y creates."
unfoldable pub child : Plan → Process → ℕ → ℕ → Process
child plan parent serial Y =
    let tags = tabulate plan.identifiers (λ i. cond (creates plan i Y) serial (tag parent i)) in
    record { serial = serial; template = Y; label = (at plan Y).lab; tags = tags }

unfoldable pub spawn : Plan → Process → ℕ → List ℕ → List Process
spawn plan parent next [] = []
spawn plan parent next (Y ∷ rest) = child plan parent next Y ∷ spawn plan parent (suc next) rest

-- 22 to 25, for the process p and the templates of its children.
unfoldable pub step_answer : Limits → Machine → Process → ℕ → List ℕ → Answer
step_answer limits m p branch templates =
    refuse_if (not (branch_fits (at m.plan p.template).form branch)) 22
    (refuse_if (eqb (length templates) 2 && not (limits.processes (length m.live + 1))) 23
    (refuse_if (not (limits.serials (m.next + length templates))) 24
    (refuse_if (not (all (may_become m.plan p.label p.template) templates)) 25
    Done)))

-- "Else the process goes"; its children come after all others.
unfoldable pub stepped : Machine → ℕ → Process → List ℕ → Machine
stepped m s p templates =
    let live = remove s m.live ++ spawn m.plan p m.next templates in
    record { plan = m.plan; next = m.next + length templates; live = live }

unfoldable pub settled : Machine → Answer → Machine → Outcome
settled old answer new = record { answer = answer; machine = if_done answer new old }

unfoldable pub step_by : Limits → Machine → ℕ → ℕ → Option Process → Outcome
step_by limits m s branch none = settled m (Refused 21) m
step_by limits m s branch (some p) =
    let templates = children (at m.plan p.template).form branch in
    settled m (step_answer limits m p branch templates) (stepped m s p templates)

-- "Each identifier of the sender's label is in the receiver's and their tags for it are equal", of M identifiers.
unfoldable pub agree : ℕ → ℕ → List ℕ → ℕ → List ℕ → Bool
agree M label sent receiver held =
    every M (λ i. not (has i label) || (has i receiver && eqb (get_or sent i 0) (get_or held i 0)))

-- "Delivered exactly when": the sender's side is the label and the tags that it wears, so that a message can carry them.
unfoldable pub passes : Plan → ℕ → List ℕ → Process → Bool
passes plan label tags q = agree plan.identifiers label tags q.label q.tags

-- "21 if either is not live; 26 if equal"; "else held, which means lost. The state stays."
unfoldable pub send_by : Machine → ℕ → ℕ → Option Process → Option Process → Outcome
send_by m from to none q = settled m (Refused 21) m
send_by m from to (some p) none = settled m (Refused 21) m
send_by m from to (some p) (some q) =
    settled m (refuse_if (eqb from to) 26 (cond (passes m.plan p.label p.tags q) Delivered Held)) m

-- Raise and lower are one move, whose direction says whether the identifier is to be present in the label after it.
-- "Pos (raise) or neg (lower)".
unfoldable pub movable : Bool → Template → ℕ
movable true t = t.pos
movable false t = t.neg

-- "The label has, or lacks, that identifier."
unfoldable pub label_with : Bool → ℕ → ℕ → ℕ
label_with true label i = plus label i
label_with false label i = without label (2 ^ i)

-- "27 if the identifier is not below M; 28 if the template is not at risk; 29 if not in pos (raise) or neg (lower)."
unfoldable pub move_answer : Plan → Process → Bool → ℕ → Answer
move_answer plan p present i =
    refuse_if (not (ltb i plan.identifiers)) 27
    (refuse_if (not (at plan p.template).risk) 28
    (refuse_if (not (has i (movable present (at plan p.template)))) 29
    Done))

abbrev pub relabelled : Process → ℕ → Process
relabelled p label = record { serial = p.serial; template = p.template; label = label; tags = p.tags }

unfoldable pub relabel : ℕ → ℕ → List Process → List Process
relabel s label [] = []
relabel s label (p ∷ rest) = cond (eqb p.serial s) (relabelled p label) p ∷ relabel s label rest

unfoldable pub moved : Machine → ℕ → ℕ → Machine
moved m s label = record { plan = m.plan; next = m.next; live = relabel s label m.live }

unfoldable pub move_by : Machine → ℕ → Bool → ℕ → Option Process → Outcome
move_by m s present i none = settled m (Refused 21) m
move_by m s present i (some p) = settled m (move_answer m.plan p present i) (moved m s (label_with present p.label i))

unfoldable pub answer_to : Limits → Machine → Call → Outcome
answer_to limits m (step s branch) = step_by limits m s branch (find s m.live)
answer_to limits m (send from to) = send_by m from to (find from m.live) (find to m.live)
answer_to limits m (raise s i) = move_by m s true i (find s m.live)
answer_to limits m (lower s i) = move_by m s false i (find s m.live)

-- 20 stands before every other refusal of every call.
unfoldable pub run : Limits → Machine → Call → Outcome
run limits m call = cond (well_formed limits m) (answer_to limits m call) (settled m (Refused 20) m)

-- "Serial 0 lives at the root, label lab 0, all tags 0, next serial 1."
unfoldable pub root : Plan → Process
root plan = record { serial = 0; template = 0; label = (at plan 0).lab; tags = tabulate plan.identifiers (λ i. 0) }

unfoldable pub start : Plan → Machine
start plan = record { plan = plan; next = 1; live = root plan ∷ [] }
