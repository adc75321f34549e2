-- When a plan and a policy are in range: no number and no mask in them is out of range, and the places that no line fills are
-- blank. Laws of crates reader and policies say that everything read is so, and those of crate printing that what is so has a text.
-- Believed beside printing/specs, which say with these which plans and policies have a text; nowhere else.
use Rattle.std.specs.Prelude.{ℕ, ◌^◌, ◌≤◌, ◌<◌}
use mathlib.Core.{Path.{◌≡◌}, Bool.{true, false}}
use Rattle.std.specs.Prelude.{length}
use Rattle.mask.specs.Mask.{has}
use Rattle.plan.specs.declared.{Plan.{Plan}, Kind.{Kind, TheVariants.{Secrecy, Prot}}, Assertion.{Assertion}, Policy.{Policy}}
use Rattle.plan.specs.Plan.{blank, blank_assertion, at, assertion_at, template_fits}

pub record InRange (plan : Plan) : Type 0 where
  pub rooted : 0 < plan.count
  pub templates : plan.count ≤ 64
  pub identifiers : plan.identifiers ≤ 32
  pub places : length plan.templates ≡ 64
  pub each : (X : ℕ) → X < plan.count → template_fits plan.count plan.identifiers (at plan X) ≡ true
  pub unused : (X : ℕ) → plan.count ≤ X → at plan X ≡ blank

-- Number 6: "a secrecy's declass holds its own source or sink, or a prot's declass is not zero".
abbrev pub Clear : Kind → ℕ → ℕ → ℕ → Type 0
Clear Secrecy source sink declass = (has source declass ≡ false) × (has sink declass ≡ false)
Clear Prot source sink declass = declass ≡ 0

-- Each field is what a test says that computes; U4 asks it of a record.
pub record AssertionInRange (count : ℕ) (a : Assertion) : Type 0 where
  pub source : a.source < count
  pub sink : a.sink < count
  pub anc : a.anc < count
  pub declass : a.declass < 2 ^ count
  pub clear : Clear a.kind a.source a.sink a.declass

pub record PolicyInRange (count : ℕ) (policy : Policy) : Type 0 where
  pub assertions : policy.count ≤ 32
  pub places : length policy.assertions ≡ 32
  pub each : (i : ℕ) → i < policy.count → AssertionInRange count (assertion_at policy i)
  pub unused : (i : ℕ) → policy.count ≤ i → assertion_at policy i ≡ blank_assertion
