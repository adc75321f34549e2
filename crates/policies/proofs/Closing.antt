-- A policy text that is too long, refused at a line or read to its end: a refused text hands back the blank policy.
use Prim.Native.Nat.{ℕ, zero, suc, ◌-◌, ◌≤◌}
use mathlib.Core.Path.{◌≡◌, refl, sym, ap, ◌∙◌}
use mathlib.Core.List.{List, ◌∷◌, ◌++◌}
use native.Mathlib.Omega.{arith}
use lib.ListN.{replicate}
use Rattle.std.specs.Prelude.{Result, Ok, Err, IsErrAnd}
use Rattle.plan.specs.declared.{Policy.{Policy}, Assertion.{Assertion}}
use Rattle.plan.specs.Plan.{blank_assertion}
use Rattle.field.specs.Fields.{number}
use Rattle.text.specs.Reading.{Cursor, on, Step, line, assertion, assertions, policy, closed, no_policy, read_policy}
use Rattle.text.specs.Answers.{reading_of, policy_read}
use Rattle.text.specs.Cursors.{standing, stopped_at, Started, Gives}
use Rattle.text.specs.declared.Refused.{Refused as RefusedLine}
use Rattle.text.specs.declared.Lines.{Lines}
use Rattle.text.proofs.Opening.{gives_value, gives_stop}
use Rattle.text.proofs.Ending.{text_long, text_stop, end_stop, text_whole}
use Rattle.text.proofs.Passed.{assertions-passes}
use Rattle.reader.proofs.Filling.{items, filled_all}
use Rattle.reader.proofs.Live.{count_read}
use Rattle.policies.specs.Rows.{assertion_row}

-- The assertions of the definition are the items of the row.
assertions_items : (N more : ℕ) (c : Cursor) → assertions N more c ≡ items {S = Unit {0}} (λ u. assertion N) (λ u a. u) (λ a. a) tt more c
unfolding assertions items
assertions_items N zero c = refl
assertions_items N (suc more) c =
    let a = assertion N c in
    ap (λ (s : Step (List Assertion)). record { value = a.value ∷ s.value; next = s.next }) (assertions_items N more a.next)

row_all : (N K : ℕ) (c : Cursor) → K ≤ 32
    → assertion_row N K c ≡ record { value = (assertions N K c).value ++ replicate (32 - K) blank_assertion; next = (assertions N K c).next }
row_all N K c h =
    filled_all {S = Unit {0}} (λ u. assertion N) (λ u a. u) (λ a. a) tt K 32 blank_assertion c h
    ∙ ap (λ (s : Step (List Assertion)). record { value = s.value ++ replicate (32 - K) blank_assertion; next = s.next }) (sym (assertions_items N K c))

-- ---- the lines of a policy, one after the other

module _ (N : ℕ) (c : Cursor) where
  policy_first : (e : RefusedLine) → (line 0 "assertions=" (number 3 0 33) c).next ≡ stopped_at e → (policy N c).next ≡ stopped_at e
  unfolding policy line
  policy_first e h = rw h ((assertions-passes N _).stays _ _)

  module _ (K : ℕ) (c₁ : Cursor) (a₁ : line 0 "assertions=" (number 3 0 33) c ≡ record { value = K; next = c₁ }) (h : K ≤ 32) where
    policy_rows : (row : List Assertion) (c₂ : Cursor) → assertion_row N K c₁ ≡ record { value = row; next = c₂ }
        → policy N c ≡ record { value = record { count = K; assertions = row }; next = c₂ }
    unfolding policy
    policy_rows row c₂ a₂ =
        rw a₁ (ap (λ (s : Step (List Assertion)). record { value = record { count = K; assertions = s.value }; next = s.next }) (sym (row_all N K c₁ h) ∙ a₂))

    policy_second : (e : RefusedLine) → (assertion_row N K c₁).next ≡ stopped_at e → (policy N c).next ≡ stopped_at e
    unfolding policy
    policy_second e k = rw a₁ (ap (λ (s : Step (List Assertion)). s.next) (sym (row_all N K c₁ h)) ∙ k)

-- ---- the answer

module _ (N : ℕ) (text : List ℕ) (x : Result Lines RefusedLine) (s : Started text x) where
  abbrev Refuses : RefusedLine → Type 0
  Refuses e = (r : Result Policy RefusedLine) → IsErrAnd r (λ w. w ≡ e) → policy_read r ≡ read_policy N text

  pub policy_long : (e : RefusedLine) → x ≡ Err e → Refuses e
  unfolding read_policy
  policy_long = text_long (λ a p. record { answer = a; policy = p }) no_policy (policy N) policy_read (λ v. refl) (λ e. refl) text x s

  module _ (lines : Lines) (l : x ≡ Ok lines) where
    policy_stop : (e : RefusedLine) → (policy N (standing lines)).next ≡ stopped_at e → Refuses e
    unfolding read_policy
    policy_stop = text_stop (λ a p. record { answer = a; policy = p }) no_policy (policy N) policy_read (λ v. refl) (λ e. refl) text x s lines l

    pub count_stop : (e : RefusedLine) → (line 0 "assertions=" (number 3 0 33) (standing lines)).next ≡ stopped_at e → Refuses e
    count_stop e h = policy_stop e (policy_first N (standing lines) e h)

    module _ (K : ℕ) (text₁ : List ℕ) (k₁ : ℕ) (a₁ : line 0 "assertions=" (number 3 0 33) (standing lines) ≡ record { value = K; next = on text₁ k₁ }) where
      -- A count that was read has room for its assertions.
      pub most_assertions : K ≤ 32
      most_assertions = let h = count_read 0 33 "assertions=" (standing lines) K text₁ k₁ a₁ in omega (arith, h)

      module _ (t : Result (List Assertion) RefusedLine) (c₂ : Cursor) (g : Gives (λ row. row) (assertion_row N K (on text₁ k₁)) c₂ t) where
        pub assertions_stop : (e : RefusedLine) → t ≡ Err e → Refuses e
        assertions_stop e q = policy_stop e (policy_second N (standing lines) K (on text₁ k₁) a₁ most_assertions e (gives_stop (λ row. row) _ c₂ t g e q))

        module _ (row : List Assertion) (q : t ≡ Ok row) (y : Result (Unit {0}) RefusedLine) (k : reading_of y ≡ closed c₂) where
          abbrev whole : Policy
          whole = record { count = K; assertions = row }

          rows : policy N (standing lines) ≡ record { value = whole; next = c₂ }
          rows = policy_rows N (standing lines) K (on text₁ k₁) a₁ most_assertions row c₂ (gives_value (λ row. row) _ c₂ t g row q)

          pub policy_end : (e : RefusedLine) → y ≡ Err e → Refuses e
          unfolding read_policy
          policy_end = end_stop (λ a p. record { answer = a; policy = p }) no_policy (policy N) policy_read (λ v. refl) (λ e. refl) text x s lines l whole c₂ rows y k

          pub policy_whole : (u : Unit {0}) → y ≡ Ok u → policy_read (Ok whole) ≡ read_policy N text
          unfolding read_policy
          policy_whole = text_whole (λ a p. record { answer = a; policy = p }) no_policy (policy N) policy_read (λ v. refl) (λ e. refl) text x s lines l whole c₂ rows y k
