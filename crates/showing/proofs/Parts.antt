-- The part that a verdict shows: its bytes, and where they lie; and of the judge's own verdict.
use Prim.Native.Nat.{ℕ, ◌-◌, min}
use mathlib.Core.Path.{◌≡◌, sym, ap, ◌∙◌}
use mathlib.Core.List.{List}
use lib.ListN.{length, take, drop}
use Rattle.rules.specs.declared.Text.{Text}
use Rattle.rules.specs.declared.Text.TheVariants.{Plan as PlanText, Policy as PolicyText}
use Rattle.rules.specs.declared.Verdict.{Verdict}
use Rattle.rules.specs.declared.Part.{Part}
use Rattle.scan.specs.Bytes.{further}
use Rattle.rules.specs.Show.{text_of, located, between, locate, shown}
use Rattle.rules.specs.Judge.{judge}
use Rattle.showing.specs.Places.{lying_in}

-- ---- its bytes, and where they lie

module _ (plan policy : List ℕ) (p q : Part) (e : p ≡ q) where
  bytes_there : (text r : List ℕ) → text ≡ text_of p.text plan policy → r ≡ take (p.end - p.start) (drop p.start text) → r ≡ between q plan policy
  unfolding between
  bytes_there text r t h = h ∙ ap (λ (x : List ℕ). take (p.end - p.start) (drop p.start x)) t ∙ ap (λ (x : Part). between x plan policy) e

  pub bytes-plan : (r : List ℕ) → p.text ≡ PlanText → r ≡ take (p.end - p.start) (drop p.start plan) → r ≡ between q plan policy
  bytes-plan r t = bytes_there plan r (sym (ap (λ (x : Text). text_of x plan policy) t))

  pub bytes-policy : (r : List ℕ) → p.text ≡ PolicyText → r ≡ take (p.end - p.start) (drop p.start policy) → r ≡ between q plan policy
  bytes-policy r t = bytes_there policy r (sym (ap (λ (x : Text). text_of x plan policy) t))

  module _ (a b r : ℕ × ℕ) where
    pub lies_plan : p.text ≡ PlanText → r ≡ further (min p.start (length plan)) a → r ≡ lying_in q plan policy a b
    unfolding lying_in
    lies_plan t h =
        h ∙ sym (ap (λ (x : Text). further (min p.start (length (text_of x plan policy))) (text_of x a b)) t)
        ∙ ap (λ (x : Part). lying_in x plan policy a b) e

    pub lies_policy : p.text ≡ PolicyText → r ≡ further (min p.start (length policy)) b → r ≡ lying_in q plan policy a b
    unfolding lying_in
    lies_policy t h =
        h ∙ sym (ap (λ (x : Text). further (min p.start (length (text_of x plan policy))) (text_of x a b)) t)
        ∙ ap (λ (x : Part). lying_in x plan policy a b) e

-- ---- the judge's own verdict

pub judged_lies : (plan policy : List ℕ) (v : Verdict) (r : Part) → v ≡ judge plan policy → r ≡ located v plan policy → r ≡ locate plan policy
unfolding locate
judged_lies plan policy v r e h = h ∙ ap (λ (x : Verdict). located x plan policy) e

pub judged_bytes : (plan policy : List ℕ) (v : Verdict) (r : List ℕ) → v ≡ judge plan policy → r ≡ between (located v plan policy) plan policy → r ≡ shown plan policy
unfolding shown locate
judged_bytes plan policy v r e h = h ∙ ap (λ (x : Verdict). between (located x plan policy) plan policy) e
