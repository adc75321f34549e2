-- What lets a message pass and what holds it back (document 01, "Send"): nothing is read of the sender but what it wears,
-- so the same is said of a process that sends and of a message that waits.
use Prim.Native.Nat.{ℕ, ◌<◌}
use mathlib.Core.Path.{◌≡◌, ap₂, ◌∙◌}
use mathlib.Core.Logic.{◌≢◌}
use mathlib.Core.Bool.{Bool, true, false, not, ◌&&◌, ◌||◌, and-false}
use mathlib.Core.List.{List}
use mathlib.Core.Option.{some}
use lib.Dec.{eqb}
use lib.ListN.{get_or}
use borrow.Author.Tests.{eqb-true, eq-eqb, ne_eqb}
use Rattle.lists.proofs.Tests.{and_both, and_of, imp, imp_of}
use Rattle.lists.proofs.Every.{every_at, every_of, every_fails}
use Rattle.mask.specs.Mask.{has}
use Rattle.plan.specs.declared.Plan.{Plan}
use Rattle.machine.specs.declared.Answer.TheVariants.{Delivered}
use Rattle.machine.specs.Machine.{Process, Machine, Limits, send, tag, refuse_if, if_done, settled, find, agree, passes, send_by, answer_to}
use Rattle.machine.proofs.Outcomes.{outcome}

-- What a process wears, and a message carries: a label, and a tag for each identifier.
pub record Worn : Type 0 where
  pub label : ℕ
  pub tags : List ℕ

-- What a process wears.
abbrev pub worn : Process → Worn
worn p = record { label = p.label; tags = p.tags }

-- The tag that is worn for an identifier.
abbrev pub tag_of : Worn → ℕ → ℕ
tag_of v i = get_or v.tags i 0

-- What is sent under v passes to one that wears w: what stands in the one label stands in the other, with equal tags.
pub record Passing (plan : Plan) (v w : Worn) : Type 0 where
  pub labels : (i : ℕ) → i < plan.identifiers → has i v.label ≡ true → (has i w.label ≡ true) × (tag_of v i ≡ tag_of w i)

module _ (plan : Plan) (v : Worn) (q : Process) where
  abbrev agrees : ℕ → Bool
  agrees i = not (has i v.label) || (has i q.label && eqb (tag_of v i) (get_or q.tags i 0))

  -- Where the machine's test passes, it is so,
  pub passes_passing : passes plan v.label v.tags q ≡ true → Passing plan v (worn q)
  unfolding passes agree
  passes_passing e = record {
    labels = λ i h a.
        let r = and_both (has i q.label) _ (imp (has i v.label) _ (every_at plan.identifiers agrees e i h) a) in
        (r.0, eqb-true (tag_of v i) (get_or q.tags i 0) r.1);
  }

  -- and back.
  pub passing_passes : Passing plan v (worn q) → passes plan v.label v.tags q ≡ true
  unfolding passes agree
  passing_passes passing =
      every_of plan.identifiers agrees (λ i h. imp_of (has i v.label) _ (λ a.
      let r = passing.labels i h a in and_of (has i q.label) _ r.0 (eq-eqb (tag_of v i) (get_or q.tags i 0) r.1)))

-- An identifier of the sender's label whose tags differ is enough, whatever the receiver's label: "a tag identifier is
-- not a tag".
pub held_apart : (plan : Plan) (label : ℕ) (tags : List ℕ) (q : Process) (i : ℕ) → i < plan.identifiers → has i label ≡ true
    → (get_or tags i 0 ≡ tag q i → ⊥) → passes plan label tags q ≡ false
unfolding passes agree tag
held_apart plan label tags q i below held apart =
    every_fails plan.identifiers (λ i. not (has i label) || (has i q.label && eqb (get_or tags i 0) (tag q i))) i below
    (ap₂ (λ (a b : Bool). not a || (has i q.label && b)) held (ne_eqb (get_or tags i 0) (tag q i) apart) ∙ and-false (has i q.label))

-- A send between two live processes that the labels allow is delivered.
pub delivered : (limits : Limits) (m : Machine) (x y : ℕ) (p q : Process) → find x m.live ≡ some p → find y m.live ≡ some q → x ≢ y
    → Passing m.plan (worn p) (worn q) → answer_to limits m (send x y) ≡ outcome Delivered m
unfolding answer_to send_by settled if_done refuse_if
delivered limits m x y p q e f differ passing = rw (e, f, ne_eqb x y differ, passing_passes m.plan (worn p) q passing)
