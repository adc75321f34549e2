-- What an answer of the code tells of the field that it stands for, once the answer is taken apart.
use Rattle.std.proofs.Common.{◌≡◌, ◌∙◌, ℕ, ◌-◌, ◌≤◌, List, Result, Ok, Err, sym, ap, arith}
use Rattle.lists.proofs.Tests.{told}
use Rattle.field.specs.Fields.{Field, is, bad, number}
use Rattle.field.specs.Answers.{numbered, field_of}
use Rattle.field.specs.declared.Refusal.{Refusal}
use Rattle.field.proofs.Each.{number_range}

module _ {A : Type 0} (x : Field A) (r : Result A Refusal) (e : field_of r ≡ x) where
  pub field_ok : (v : A) → r ≡ Ok v → is v ≡ x
  field_ok v h = told (ap field_of h) e

  pub field_err : (refusal : Refusal) → r ≡ Err refusal → bad (numbered refusal) ≡ x
  field_err refusal h = told (ap field_of h) e

pub ruleset answers = (field_ok, field_err)

-- A number that was read is at most the last below its limit.
pub number_last : (refusal low limit : ℕ) (s : List ℕ) (r : Result ℕ Refusal) → field_of r ≡ number refusal low limit s
    → (v : ℕ) → r ≡ Ok v → v ≤ limit - 1
number_last refusal low limit s r e v h = omega (arith, (number_range refusal low limit s v (sym e ∙ ap field_of h)).1)
