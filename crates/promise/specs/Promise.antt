-- The box promise (demand 3): one statement over every list of calls from a started box, whatever the calls name. An
-- answer is told by its number, `code_of`: "a definition gives this paper's number and values for each of its cases. The
-- promises use this definition."
-- Believed: everything here. Proved with it: crate promise.
use Rattle.std.specs.Prelude.{ℕ, ◌<◌}
use mathlib.Core.{Path.{◌≡◌}, Logic.{◌≢◌}, Bool.{true, false}, List.{List}}
use Rattle.plan.specs.declared.{Plan.{Plan}, Kind.TheVariants.{Secrecy, Prot}, Assertion.{Assertion}, Policy.{Policy}}
use Rattle.plan.specs.Plan.{assertion_at}
use Rattle.text.specs.Reading.{read_plan, read_policy}
use Rattle.rules.specs.{declared.Verdict.TheVariants.{Accepted}, Judge.{judge}}
use Rattle.machine.specs.Machine.{Limits, box_limits, Call, step, send, run}
use Rattle.machine.specs.State.{code_of}
use Rattle.promise.specs.History.{World, Kin, world_after}

-- "No Sink process knows a different Source process that is not its kin under Anc."
abbrev pub Secret : Assertion → World → Type 0
Secret a w =
    (p q : ℕ) → (w.history p).template ≡ a.source → (w.history q).template ≡ a.sink → p ≢ q
    → (w.history q).knows p ≡ true → Kin w.history a.anc p q

-- A send from a live Source process to its live kin at Sink is delivered, number 1, if neither has moved its own label.
abbrev pub Delivers : Limits → Assertion → World → Type 0
Delivers limits a w =
    (p q : ℕ) → (w.history p).live ≡ true → (w.history q).live ≡ true
    → (w.history p).template ≡ a.source → (w.history q).template ≡ a.sink → p ≢ q → Kin w.history a.anc p q
    → (w.history p).moved ≡ false → (w.history q).moved ≡ false
    → code_of (run limits w.machine (send p q)).answer ≡ 1

-- No step of a process that has not moved its own label is refused over labels: "refused over labels means refusal 25".
abbrev pub Unhindered : Limits → World → Type 0
Unhindered limits w =
    (s branch : ℕ) → (w.history s).moved ≡ false → code_of (run limits w.machine (step s branch)).answer ≢ 25

-- What is promised after a list of calls.
pub record Promised (limits : Limits) (plan : Plan) (policy : Policy) (calls : List Call) : Type 0 where
  pub secrecy : (i : ℕ) → i < policy.count → (assertion_at policy i).kind ≡ Secrecy
      → Secret (assertion_at policy i) (world_after limits plan (assertion_at policy i).declass calls)
  pub prot : (i : ℕ) → i < policy.count → (assertion_at policy i).kind ≡ Prot
      → Delivers limits (assertion_at policy i) (world_after limits plan (assertion_at policy i).declass calls)
  pub steps : Unhindered limits (world_after limits plan 0 calls)

-- "The list, empty or of any length, begins at the state that start gave."
abbrev pub BoxPromise : Type 0
BoxPromise =
    (plan_text policy_text : List ℕ) → judge plan_text policy_text ≡ Accepted
    → let plan = (read_plan plan_text).plan in
    (calls : List Call) → Promised box_limits plan (read_policy plan.count policy_text).policy calls
