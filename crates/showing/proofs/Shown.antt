-- What showing shows of a plan and a policy that break a rule: the name that was read for template first, or the line that the
-- assertion's kind was read from. Of a text that is not read the law `fault_shown` of crate rules says where the part begins.
use Prim.Native.Nat.{ℕ}
use mathlib.Core.Path.{◌≡◌, ap, ◌∙◌}
use mathlib.Core.Logic.{⊎_elim}
use mathlib.Core.Bool.{Bool, true, false, cond}
use mathlib.Core.List.{List, []}
use lib.ListN.{get_or}
use Rattle.lists.proofs.Tests.{passes_fails}
use Rattle.scan.specs.Bytes.{bytes, starts_with}
use Rattle.reader.specs.Names.{plan_names}
use Rattle.rules.specs.declared.Breach.{Breach}
use Rattle.rules.specs.declared.Verdict.{Verdict}
use Rattle.rules.specs.declared.Verdict.TheVariants.{Broken}
use Rattle.rules.specs.Judge.{judge}
use Rattle.rules.specs.Show.{name_of, kind_line, located, between, locate, shown}
use Rattle.rules.proofs.First.{shows_name, breach_first}
use Rattle.verdict.proofs.Exact.{broken_exactly}
use Rattle.verdict.specs.Meaning.{plan_of, policy_of}
use Rattle.showing.proofs.Names.{name-shown, kind-shown}

module _ (plan_text policy_text : List ℕ) (b : Breach) (e : judge plan_text policy_text ≡ Broken b) where
  -- The bytes shown, by whether a name is.
  shown_by : (named : Bool) → shows_name b ≡ named → shown plan_text policy_text ≡ between (cond named (name_of b.first plan_text) (kind_line b.first policy_text)) plan_text policy_text
  unfolding shown locate located
  shown_by named t =
      ap (λ (v : Verdict). between (located v plan_text policy_text) plan_text policy_text) e
      ∙ ap (λ (c : Bool). between (cond c (name_of b.first plan_text) (kind_line b.first policy_text)) plan_text policy_text) t

  -- "Broken 11 to 16: the name of template first."
  pub shown-name : shows_name b ≡ true → shown plan_text policy_text ≡ get_or (plan_names plan_text) b.first []
  shown-name t =
      let r = (broken_exactly plan_text policy_text b).0 e in
      shown_by true t
      ∙ ⊎_elim (λ h. name-shown plan_text policy_text r.plan_reads b.first h.1) (λ h. absurd (passes_fails (shows_name b) t h.0))
      (breach_first (plan_of plan_text) (policy_of plan_text policy_text) b r.first)

  -- "17 to 19: the assertion's `kind=` line."
  pub shown-kind : shows_name b ≡ false → starts_with (bytes "kind=") (shown plan_text policy_text) ≡ true
  shown-kind t =
      let r = (broken_exactly plan_text policy_text b).0 e in
      ap (starts_with (bytes "kind=")) (shown_by false t)
      ∙ ⊎_elim (λ h. absurd (passes_fails (shows_name b) h.0 t)) (λ h. (kind-shown (plan_of plan_text).count plan_text policy_text r.policy_reads b.first h.1).0)
      (breach_first (plan_of plan_text) (policy_of plan_text policy_text) b r.first)
