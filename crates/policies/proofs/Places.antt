-- Where the kinds of a policy's assertions stand. They are found by the lines before them, of which each assertion has the
-- same number.
use Prim.Native.Nat.{ℕ, zero, suc, ◌+◌, ◌-◌, ◌*◌, ◌<◌}
use mathlib.Core.Path.{◌≡◌, sym, ap, ◌∙◌, subst}
use mathlib.Core.Bool.{true}
use mathlib.Core.List.{List, ◌∷◌, ◌++◌}
use native.Mathlib.Omega.{arith}
use lib.ListN.{get_or, replicate, get_or-append}
use Rattle.plan.specs.declared.Assertion.{Assertion}
use Rattle.plan.specs.declared.Policy.{Policy}
use Rattle.plan.specs.declared.Kind.{Kind}
use Rattle.plan.specs.declared.Kind.TheVariants.{Secrecy}
use Rattle.plan.specs.Plan.{blank_assertion, assertion_at}
use Rattle.scan.specs.Bytes.{bytes, starts_with}
use Rattle.field.specs.Fields.{is, number, kind}
use Rattle.text.specs.Reading.{Cursor, on, line, assertion_lines, assertion, assertions, policy_header, policy, no_policy, read_policy, Complete}
use Rattle.text.proofs.Passed.{Live, after_lines, first_line, field_after, line_read, more_lines, passes_live, assertion-passes, assertions-passes, policy-header}
use Rattle.reader.proofs.Live.{complete_holds}
use Rattle.policies.proofs.PolicyRange.{assertions_fine}

-- The first line of the text begins with `kind=`, and its field was read as that kind.
abbrev pub KindHere : List ℕ → Kind → Type 0
KindHere text k = (starts_with (bytes "kind=") (first_line text) ≡ true) × (kind (field_after "kind=" text) ≡ is k)

module _ (N : ℕ) where
  -- Every kind stands on the first line of its assertion.
  abbrev KindsStand : ℕ → List ℕ → ℕ → Type 0
  KindsStand more text k = Live (assertions N more (on text k)).next
      → (i : ℕ) → i < more → KindHere (after_lines (assertion_lines * i) text) (get_or (assertions N more (on text k)).value i blank_assertion).kind

  next_kind : (more : ℕ) (text : List ℕ) (k : ℕ) → KindsStand more (after_lines assertion_lines text) (k + assertion_lines) → KindsStand (suc more) text k
  unfolding assertion assertions after_lines
  next_kind more text k later live = go
    where
      a : Assertion
      a = (assertion N (on text k)).value

      c : Cursor
      c = (assertion N (on text k)).next

      c_live : Live c
      c_live = passes_live _ _ (assertions-passes N more) c live

      c_stands : c ≡ on (after_lines assertion_lines text) (k + assertion_lines)
      c_stands = (assertion-passes N).0.lands text k c_live

      go : (i : ℕ) → i < suc more → KindHere (after_lines (assertion_lines * i) text) (get_or (a ∷ (assertions N more c).value) i blank_assertion).kind
      go zero g = let r = line_read Secrecy "kind=" kind text k ((assertion-passes N).1 (on text k) c_live) in (r.1, r.2)
      go (suc j) g =
          let sum : assertion_lines + assertion_lines * j ≡ assertion_lines * suc j = omega arith in
          let there = more_lines assertion_lines (assertion_lines * j) text ∙ ap (λ (n : ℕ). after_lines n text) sum in
          subst (λ (t : List ℕ). KindHere t (get_or (assertions N more c).value j blank_assertion).kind) there
          (subst (λ (d : Cursor). KindHere (after_lines (assertion_lines * j) (after_lines assertion_lines text)) (get_or (assertions N more d).value j blank_assertion).kind) (sym c_stands)
          (later (subst (λ (d : Cursor). Live (assertions N more d).next) c_stands live) j (omega arith)))

  kinds_stand : (more : ℕ) (text : List ℕ) (k : ℕ) → KindsStand more text k
  kinds_stand zero text k = λ live i h. absurd (omega arith)
  kinds_stand (suc more) text k = next_kind more text k (kinds_stand more (after_lines assertion_lines text) (k + assertion_lines))

  -- The kind of assertion i of a policy that reading gives as complete stands on the first of its lines, after `kind=`.
  pub kind-stands : (text : List ℕ) → (read_policy N text).answer ≡ Complete
      → (i : ℕ) → i < (read_policy N text).policy.count → KindHere (after_lines (policy_header + assertion_lines * i) text) (assertion_at (read_policy N text).policy i).kind
  unfolding read_policy policy assertion_at
  kind-stands text =
      complete_holds (λ (p : Policy). (i : ℕ) → i < p.count → KindHere (after_lines (policy_header + assertion_lines * i) text) (assertion_at p i).kind)
      text (policy N (on text 1)).next (policy N (on text 1)).value no_policy read
    where
      K : ℕ
      K = (line 0 "assertions=" (number 3 0 33) (on text 1)).value

      c : Cursor
      c = (line 0 "assertions=" (number 3 0 33) (on text 1)).next

      list : List Assertion
      list = (assertions N K c).value

      read : Live (policy N (on text 1)).next
          → (i : ℕ) → i < K → KindHere (after_lines (policy_header + assertion_lines * i) text) (get_or (list ++ replicate (32 - K) blank_assertion) i blank_assertion).kind
      read live i h =
          let start = policy-header text (passes_live _ _ (assertions-passes N K) c live) in
          let row = get_or-append list (replicate (32 - K) blank_assertion) blank_assertion i (omega (arith, (assertions_fine N K c live).1, h)) in
          subst (λ (x : Assertion). KindHere (after_lines (policy_header + assertion_lines * i) text) x.kind) (sym row)
          (subst (λ (t : List ℕ). KindHere t (get_or list i blank_assertion).kind) (more_lines policy_header (assertion_lines * i) text)
          (subst (λ (d : Cursor). KindHere (after_lines (assertion_lines * i) (after_lines policy_header text)) (get_or (assertions N K d).value i blank_assertion).kind) (sym start)
          (kinds_stand K (after_lines policy_header text) (1 + policy_header) (subst (λ (d : Cursor). Live (assertions N K d).next) start live) i h)))
