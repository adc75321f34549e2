-- What stands in a plan past its first N templates changes nothing: two plans that differ only there meet refusal 20
-- together, and over both every call has the same answer and leaves the same processes. For a machine that is not
-- refused so looks up only templates below N: those of its processes, and those of a step's children, which are
-- successors.
use Prim.Native.Nat.{ℕ, suc, ◌<◌}
use mathlib.Core.Path.{◌≡◌, refl, sym, ap, ap₂, subst}
use mathlib.Core.Bool.{Bool, true, false, cond, ◌&&◌}
use mathlib.Core.List.{List, [], ◌∷◌, map}
use mathlib.Core.Option.{Option, none, some}
use lib.Dec.{eqb, leb, ltb}
use lib.ListN.{length}
use borrow.Author.Tests.{ltb-true}
use Rattle.lists.specs.Numbers.{all}
use Rattle.lists.proofs.Tests.{and_left, and_right}
use Rattle.lists.proofs.Every.{every_ext}
use Rattle.plan.specs.declared.{Template.{Template}, Plan.{Plan}}
use Rattle.plan.specs.Plan.{at, creates, template_fits}
use Rattle.machine.specs.declared.Answer.{Answer, TheVariants.{Done, Delivered, Held, Refused}}
use Rattle.machine.specs.Machine.{Process, Machine, Limits, Call, step, send, raise, lower, Outcome, if_done, settled}
use Rattle.machine.specs.Machine.{plan_fits, process_fits, rising, population_fits, well_formed, find, children}
use Rattle.machine.specs.Machine.{may_become, child, spawn, step_answer, stepped, passes, move_answer, moved}
use Rattle.machine.specs.Machine.{step_by, send_by, label_with, move_by, answer_to, run}
use Rattle.machine.proofs.Templates.{process-template, successors_fit, children_fit}

-- Two plans that differ at most past their first N templates.
pub record Alike (p q : Plan) : Type 0 where
  pub count_same : p.count ≡ q.count
  pub identifiers_same : p.identifiers ≡ q.identifiers
  pub templates_same : (X : ℕ) → X < p.count → at p X ≡ at q X

-- The same machine over another plan,
abbrev pub on_plan : Plan → Machine → Machine
on_plan plan m = record { plan = plan; next = m.next; live = m.live }

-- and the same outcome.
abbrev pub outcome_on : Plan → Outcome → Outcome
outcome_on plan o = record { answer = o.answer; machine = on_plan plan o.machine }

settled_on : (plan : Plan) (old new : Machine) (answer : Answer)
    → settled (on_plan plan old) answer (on_plan plan new) ≡ outcome_on plan (settled old answer new)
unfolding settled if_done
settled_on plan old new Done = refl
settled_on plan old new Delivered = refl
settled_on plan old new Held = refl
settled_on plan old new (Refused n) = refl

-- Whoever is found in a list of processes that all pass a test passes it.
found : (test : Process → Bool) (Q : Option Process → Type 0) → Q none → ((x : Process) → test x ≡ true → Q (some x))
    → (s : ℕ) (l : List Process) → all test l ≡ true → Q (find s l)
unfolding all find
found test Q absent present s [] e = absent
found test Q absent present s (x ∷ l) e = pick (eqb x.serial s) (found test Q absent present s l (and_right (test x) _ e))
  where
    pick : (b : Bool) → Q (find s l) → Q (cond b (some x) (find s l))
    pick true later = present x (and_left (test x) _ e)
    pick false later = later

-- The plan p with other templates: its counts are p's own.
abbrev refilled : Plan → List Template → Plan
refilled p ts = record { count = p.count; identifiers = p.identifiers; templates = ts }

-- It is enough to speak of such plans.
as_refilled : (Q : Plan → Type 0) (p q : Plan) → Alike p q
    → (((X : ℕ) → X < p.count → at (refilled p q.templates) X ≡ at p X) → Q (refilled p q.templates)) → Q q
unfolding at
as_refilled Q p q alike shown =
    subst Q (λ i. record { count = alike.count_same i; identifiers = alike.identifiers_same i; templates = q.templates })
    (shown (λ X h. sym (alike.templates_same X h)))

module _ (p : Plan) (ts : List Template) where
  abbrev q : Plan
  q = refilled p ts

  -- A call has the same outcome over both.
  abbrev Same : Machine → (Machine → Outcome) → Type 0
  Same m f = f (on_plan q m) ≡ outcome_on q (f (on_plan p m))

  module _ (below : (X : ℕ) → X < p.count → at q X ≡ at p X) where
    -- ---- refusal 20

    fits_refilled : plan_fits p ≡ plan_fits q
    unfolding plan_fits
    fits_refilled =
        ap (λ (b : Bool). (ltb 0 p.count && (leb p.count 64 && leb p.identifiers 32)) && b)
        (every_ext p.count (λ X. fits (at p X)) (λ X. fits (at q X)) (λ X h. ap fits (sym (below X h))))
      where
        fits : Template → Bool
        fits = template_fits p.count p.identifiers

    -- Of the plan the processes are held to its counts alone.
    formed_refilled : (limits : Limits) (m : Machine) → well_formed limits (on_plan q m) ≡ well_formed limits (on_plan p m)
    unfolding well_formed population_fits process_fits
    formed_refilled limits m =
        ap (λ (b : Bool). b && (limits.serials m.next && population_fits limits p m.next m.live)) (sym fits_refilled)

    -- ---- the children of a step

    may_refilled : (label X Y : ℕ) → X < p.count → Y < p.count → may_become q label X Y ≡ may_become p label X Y
    unfolding may_become
    may_refilled label X Y l h = rw (may_become, below X l, below Y h)

    child_refilled : (x : Process) (serial Y : ℕ) → Y < p.count → child q x serial Y ≡ child p x serial Y
    unfolding child creates
    child_refilled x serial Y h = rw (child, creates, below Y h)

    all_refilled : (label X : ℕ) → X < p.count → (templates : List ℕ) → all (λ Y. ltb Y p.count) templates ≡ true
        → all (may_become q label X) templates ≡ all (may_become p label X) templates
    unfolding all
    all_refilled label X l [] e = refl
    all_refilled label X l (Y ∷ rest) e =
        ap₂ ◌&&◌ (may_refilled label X Y l (ltb-true Y p.count (and_left (ltb Y p.count) _ e)))
        (all_refilled label X l rest (and_right (ltb Y p.count) _ e))

    spawn_refilled : (x : Process) (next : ℕ) (templates : List ℕ) → all (λ Y. ltb Y p.count) templates ≡ true
        → spawn q x next templates ≡ spawn p x next templates
    unfolding all spawn
    spawn_refilled x next [] e = refl
    spawn_refilled x next (Y ∷ rest) e =
        ap₂ ◌∷◌ (child_refilled x next Y (ltb-true Y p.count (and_left (ltb Y p.count) _ e)))
        (spawn_refilled x (suc next) rest (and_right (ltb Y p.count) _ e))

    -- ---- the calls

    module _ (limits : Limits) (m : Machine) where
      same_refused : (n : ℕ) → Same m (λ m. settled m (Refused n) m)
      same_refused n = settled_on q (on_plan p m) (on_plan p m) (Refused n)

      same_step : plan_fits p ≡ true → (s branch : ℕ) (x : Process) → x.template < p.count
          → Same m (λ m. step_by limits m s branch (some x))
      unfolding step_by step_answer stepped
      same_step e s branch x h =
          rw (below x.template h, all_refilled x.label x.template h templates low, spawn_refilled x m.next templates low)
          (settled_on q (on_plan p m) (stepped (on_plan p m) s x templates) _)
        where
          templates : List ℕ
          templates = children (at p x.template).form branch

          low : all (λ Y. ltb Y p.count) templates ≡ true
          low = children_fit p.count branch (at p x.template).form (successors_fit p e x.template h)

      same_send : (from to : ℕ) (x y : Option Process) → Same m (λ m. send_by m from to x y)
      unfolding send_by passes
      same_send from to none y = same_refused 21
      same_send from to (some x) none = same_refused 21
      same_send from to (some x) (some y) = settled_on q (on_plan p m) (on_plan p m) _

      same_move : (s : ℕ) (present : Bool) (i : ℕ) (x : Process) → x.template < p.count → Same m (λ m. move_by m s present i (some x))
      unfolding move_by move_answer moved
      same_move s present i x h = rw (below x.template h) (settled_on q (on_plan p m) (moved (on_plan p m) s (label_with present x.label i)) _)

      module _ (e : well_formed limits (on_plan p m) ≡ true) where
        -- Whoever is live stands at a template below N.
        same_found : (f : Machine → Option Process → Outcome) → Same m (λ m. f m none)
            → ((x : Process) → x.template < p.count → Same m (λ m. f m (some x))) → (s : ℕ) → Same m (λ m. f m (find s m.live))
        unfolding well_formed population_fits
        same_found f absent present s =
            found (process_fits p m.next) (λ o. Same m (λ m. f m o)) absent (λ x fits. present x (process-template p m.next x fits))
            s m.live
            (and_right (rising (map (λ x. x.serial) m.live)) _
            (and_right (limits.processes (length m.live)) _
            (and_right (limits.serials m.next) _ (and_right (plan_fits p) _ e))))

        same_answer : (call : Call) → Same m (λ m. answer_to limits m call)
        unfolding answer_to well_formed step_by move_by
        same_answer (step s branch) =
            same_found (λ m. step_by limits m s branch) (same_refused 21) (same_step (and_left (plan_fits p) _ e) s branch) s
        same_answer (send from to) = same_send from to (find from m.live) (find to m.live)
        same_answer (raise s i) = same_found (λ m. move_by m s true i) (same_refused 21) (same_move s true i) s
        same_answer (lower s i) = same_found (λ m. move_by m s false i) (same_refused 21) (same_move s false i) s

      same_run : (call : Call) → Same m (λ m. run limits m call)
      unfolding run
      same_run call = rw (run, formed_refilled limits m) (pick (well_formed limits (on_plan p m)) refl)
        where
          pick : (b : Bool) → well_formed limits (on_plan p m) ≡ b
              → Same m (λ m. cond b (answer_to limits m call) (settled m (Refused 20) m))
          pick true e = same_answer e call
          pick false e = same_refused 20

-- ---- the two laws

-- Plans that are alike fit or fail together.
pub fits_alike : (p q : Plan) → Alike p q → plan_fits p ≡ plan_fits q
fits_alike p q alike = as_refilled (λ q. plan_fits p ≡ plan_fits q) p q alike (fits_refilled p q.templates)

-- Every call has the same outcome over both, but for the plan itself, which stays as it was.
pub run_alike : (limits : Limits) (p q : Plan) → Alike p q → (m : Machine) (call : Call)
    → run limits (on_plan q m) call ≡ outcome_on q (run limits (on_plan p m) call)
run_alike limits p q alike m call =
    as_refilled (λ q. run limits (on_plan q m) call ≡ outcome_on q (run limits (on_plan p m) call)) p q alike
    (λ below. same_run p q.templates below limits m call)
