-- The policy: what is written reads back, and only what is written reads.
use Prim.Native.Nat.{ℕ, zero, suc, ◌-◌, ◌*◌, ◌≤◌, ◌<◌}
use mathlib.Core.Path.{◌≡◌, refl, sym, ap, ◌∙◌}
use mathlib.Core.List.{List, [], ◌∷◌, ◌++◌, append_assoc, append-nil, flatten}
use mathlib.Core.Bool.{false}
use native.Mathlib.Omega.{arith}
use lib.ListN.{length, get_or, replicate}
use borrow.Author.Tests.{eq-eqb}
use Rattle.lists.specs.Numbers.{tabulate}
use Rattle.lists.proofs.Tests.{or_neither}
use Rattle.mask.specs.Mask.{has}
use Rattle.numerals.specs.Numerals.{decimal_of}
use Rattle.plan.specs.declared.{Kind.{Kind, TheVariants.{Secrecy, Prot}}, Assertion.{Assertion}, Policy.{Policy}}
use Rattle.plan.specs.Plan.{blank_assertion, assertion_at}
use Rattle.plan.specs.Range.{Clear, AssertionInRange, PolicyInRange}
use Rattle.field.specs.Fields.{number, misplaced}
use Rattle.text.specs.Reading.{longest, Cursor, on, line, assertion, assertions, policy, if_complete, no_policy, read_policy, Complete}
use Rattle.policies.proofs.PolicyRange.{policy_in_range}
use Rattle.printing.specs.Format.{PolicyFormat}
use Rattle.printing.specs.Printing.{print_assertion, print_policy}
use Rattle.printing.proofs.Fields.{Between, number_law, template_law, kind_law, declass_law}
use Rattle.printing.proofs.Lines.{Wrote, none_wrote, ◌⨟◌, ◌⊕◌, each_short, Line, line_back, line_only}
use Rattle.printing.proofs.Texts.{past, Printed, ended, complete_only, row_whole, masked}

-- ---- one assertion

clear_placed : (k : Kind) (source sink d : ℕ) → Clear k source sink d → misplaced k source sink d ≡ false
unfolding misplaced
clear_placed Secrecy source sink d h = or_neither (has source d) (has sink d) h.0 h.1
clear_placed Prot source sink d h = rw (eq-eqb d 0 h)

assertion_back : (N : ℕ) → N ≤ 64 → (a : Assertion) → AssertionInRange N a → Printed (assertion N) (print_assertion a) a 69
unfolding assertion print_assertion
assertion_back N few a h =
    let template : (X : ℕ) → X < N → Between 0 N X = λ X l. (omega arith, l, omega arith) in
    let placed = clear_placed a.kind a.source a.sink a.declass h.clear in
    let k = line_back kind_law "kind=" refl a.kind tt in
    let s = line_back (template_law N) "source=" refl a.source (template a.source h.source) in
    let z = line_back (template_law N) "sink=" refl a.sink (template a.sink h.sink) in
    let c = line_back (template_law N) "anc=" refl a.anc (template a.anc h.anc) in
    let d = line_back (declass_law N a.kind a.source a.sink) "declass=" refl a.declass (masked 16 N a.declass few refl h.declass, placed) in
    record {
      back = λ rest n. (past 5 n, simp append_assoc (rw (k.back, s.back, z.back, c.back, d.back)));
      short = k.short ⊕ s.short ⊕ z.short ⊕ c.short ⊕ d.short;
    }

assertion_only : (N : ℕ) (c : Cursor) → Wrote c (print_assertion (assertion N c).value) (assertion N c).next
unfolding assertion print_assertion
assertion_only N c =
    line_only kind_law "kind=" Secrecy c
    ⨟ line_only (template_law N) "source=" 0 _
    ⨟ line_only (template_law N) "sink=" 0 _
    ⨟ line_only (template_law N) "anc=" 0 _
    ⨟ line_only (declass_law N _ _ _) "declass=" 0 _

-- ---- the assertions

assertions_none : (N : ℕ) (c : Cursor) → assertions N zero c ≡ record { value = []; next = c }
unfolding assertions
assertions_none N c = refl

assertions_step : (N more : ℕ) (c : Cursor) → let a = assertion N c in let r = assertions N more a.next in
    assertions N (suc more) c ≡ record { value = a.value ∷ r.value; next = r.next }
unfolding assertions
assertions_step N more c = refl

module _ (N : ℕ) (few : N ≤ 64) where
  assertions_read : (more : ℕ) (f : ℕ → Assertion) → ((i : ℕ) → i < more → AssertionInRange N (f i)) → (rest : List ℕ) (k : ℕ)
      → (k' : ℕ) × (assertions N more (on (flatten (tabulate more (λ i. print_assertion (f i))) ++ rest) k) ≡ record { value = tabulate more f; next = on rest k' })
  unfolding flatten tabulate
  assertions_read zero f h rest k = (k, assertions_none N (on rest k))
  assertions_read (suc more) f h rest k =
      let g : ℕ → Assertion = λ i. f (suc i) in
      let lines = flatten (tabulate more (λ i. print_assertion (g i))) in
      let x = (assertion_back N few (f zero) (h zero (omega arith))).back (lines ++ rest) k in
      let y = assertions_read more g (λ i l. h (suc i) (omega arith)) rest x.0 in
      (y.0, assertions_step N more (on (print_assertion (f zero) ++ lines ++ rest) k) ∙ rw (append_assoc (print_assertion (f zero)) lines rest, x.1, y.1))

  assertions_back : (more : ℕ) (f : ℕ → Assertion) → ((i : ℕ) → i < more → AssertionInRange N (f i))
      → Printed (assertions N more) (flatten (tabulate more (λ i. print_assertion (f i)))) (tabulate more f) (more * 69)
  assertions_back more f h =
      record {
        back = assertions_read more f h;
        short = each_short more 69 (λ i. print_assertion (f i)) (λ i l. (assertion_back N few (f i) (h i l)).short);
      }

assertions_only : (N more : ℕ) (tail : List Assertion) (c : Cursor)
    → Wrote c (flatten (tabulate more (λ i. print_assertion (get_or ((assertions N more c).value ++ tail) i blank_assertion)))) (assertions N more c).next
unfolding assertions flatten tabulate
assertions_only N zero tail c = none_wrote c
assertions_only N (suc more) tail c = assertion_only N c ⨟ assertions_only N more tail (assertion N c).next

-- ---- the text

module _ (N : ℕ) (few : N ≤ 64) (p : Policy) (h : PolicyInRange N p) where
  count_line : Line "assertions=" (number 3 0 33) (decimal_of p.count) p.count 16
  count_line = line_back (number_law 3 0 33) "assertions=" refl p.count (omega arith, omega (arith, h.assertions), omega (arith, h.assertions))

  rows : Printed (assertions N p.count) (flatten (tabulate p.count (λ i. print_assertion (assertion_at p i)))) (tabulate p.count (assertion_at p)) (p.count * 69)
  rows = assertions_back N few p.count (assertion_at p) h.each

  row : tabulate p.count (assertion_at p) ++ replicate (32 - p.count) blank_assertion ≡ p.assertions
  unfolding assertion_at
  row = row_whole blank_assertion p.assertions p.count 32 h.places h.assertions h.unused

  policy_short : length (print_policy p) ≤ longest
  unfolding print_policy
  policy_short = omega (arith, (count_line.short ⊕ rows.short).bound, h.assertions)

  policy_read : (k : ℕ) × (policy N (on (print_policy p ++ []) 1) ≡ record { value = p; next = on [] k })
  unfolding policy print_policy
  policy_read = let x = rows.back [] 2 in (x.0, rw (append_assoc, count_line.back, x.1, row))

  -- What is written reads back: complete, and the very policy.
  policy_back : read_policy N (print_policy p) ≡ record { answer = Complete; policy = p }
  unfolding read_policy if_complete
  policy_back =
      let x = policy_read in
      let e = ap (λ (text : List ℕ). policy N (on text 1)) (sym (append-nil (print_policy p))) ∙ x.1 in
      rw (e, ended (print_policy p) x.0 policy_short)

-- Only what is written reads.
policy_only : (N : ℕ) (text : List ℕ) → (read_policy N text).answer ≡ Complete → text ≡ print_policy (read_policy N text).policy
unfolding read_policy policy print_policy assertion_at
policy_only N text =
    let n = line 0 "assertions=" (number 3 0 33) (on text 1) in
    complete_only print_policy text (policy N (on text 1)).next (policy N (on text 1)).value no_policy
    (line_only (number_law 3 0 33) "assertions=" 0 (on text 1) ⨟ assertions_only N n.value (replicate (32 - n.value) blank_assertion) n.next)

-- Writing and reading policies are inverse to one another.
pub policy_format : PolicyFormat
policy_format = record { back = λ N p few h. policy_back N few p h; only = λ N text e. (policy_in_range N text e, policy_only N text e) }

-- So there is one text for a policy.
pub one_policy-text : (N : ℕ) (t u : List ℕ) → (read_policy N t).answer ≡ Complete → (read_policy N u).answer ≡ Complete
    → (read_policy N t).policy ≡ (read_policy N u).policy → t ≡ u
one_policy-text N t u e f p = policy_only N t e ∙ ap print_policy p ∙ sym (policy_only N u f)
