-- The faulty line begins where reading stood: the text that is cut there reads well up to its end, and what it lacks is that very
-- line. Only an extra line stands after a text that reads whole.
use Prim.Native.Nat.{ℕ, suc, ◌≤◌}
use mathlib.Core.Path.{◌≡◌, refl, sym, ap, ◌∙◌, subst}
use mathlib.Core.Logic.{◌⊎◌, inl, inr}
use mathlib.Core.Bool.{Bool, true, false, cond}
use mathlib.Core.List.{List, [], ◌∷◌, ◌++◌, append-nil}
use native.Mathlib.Omega.{arith}
use lib.Dec.{leb}
use lib.ListN.{length, take, drop, take-append-drop, length-append}
use lib.Seq.{take_at, take-append_seam}
use borrow.Author.Tests.{le-leb, leb-true, leb-false}
use Rattle.text.specs.Reading.{Refusal, Reading, Complete, Refused, longest, Cursor, on, stopped, Step, Reader, plan, policy, closed, checked, read_plan, read_policy}
use Rattle.rules.specs.Judge.{Text, PlanText, PolicyText, Fault, Verdict, Accepted, Broken, Unread, judge_read, after_reading, judge}
use Rattle.rules.specs.Show.{line_start, faulty_line, text_of, located, locate}
use Rattle.rules.specs.Faults.{Lines, Stood, too_long, TooLong}
use Rattle.rules.proofs.Lines.{from_line}
use Rattle.rules.proofs.Cut.{Passed, Met, Follows}
use Rattle.rules.proofs.Followed.{follows_plan, follows_policy}
use Rattle.rules.proofs.Exact.{judge_decides}

-- ---- where a line was cut off

-- What stands before a rest that is known is what was cut.
cut_is : (cut rest text : List ℕ) (s : ℕ) → text ≡ cut ++ rest → drop s text ≡ rest → take s text ≡ cut
cut_is cut rest text s whole e =
    let parts = take-append-drop s text ∙ whole in
    let long : length (take s text) ≡ length cut =
    omega (arith, sym (length-append (take s text) (drop s text)) ∙ ap length parts ∙ length-append cut rest, ap length e) in
    sym (take_at (take s text) (drop s text) (length cut) long) ∙ ap (take (length cut)) parts ∙ take-append_seam cut rest

next_line : {text rest : List ℕ} {j : ℕ} (p : Passed text 1 rest j) → j ≡ suc p.count
next_line p = omega (arith, p.number)

line_cut : {text rest : List ℕ} {j : ℕ} (p : Passed text 1 rest j) → take (faulty_line j text) text ≡ p.cut
unfolding faulty_line
line_cut {text} {rest} {j} p =
    ap (λ (i : ℕ). take (faulty_line i text) text) (next_line p)
    ∙ cut_is p.cut rest text (line_start p.count 0 text) p.whole (from_line p.count 0 text ∙ sym p.after)

-- ---- any reader of lines

abbrev refusal_or : Refusal → Reading → Refusal
refusal_or r Complete = r
refusal_or r (Refused s) = s

refused_same : {r s : Refusal} → Refused r ≡ Refused s → r ≡ s
refused_same {r} e = ap (refusal_or r) e

complete_refused : {r : Refusal} → Complete ≡ Refused r → ⊥
complete_refused e = let z : ◌≡◌ {A = ℕ} 0 1 = cc in absurd (omega arith)

module _ {A : Type 0} (reader : Reader A) (follows : Follows reader) where
  -- Its answer on a whole text.
  abbrev answer : List ℕ → Reading
  answer text = checked text (reader (on text 1)).next

  module _ (text : List ℕ) (short : length text ≤ longest) where
    answer_cut : {rest : List ℕ} {j : ℕ} (p : Passed text 1 rest j) (c : Cursor) → (reader (on p.cut 1)).next ≡ c → answer (take (faulty_line j text) text) ≡ closed c
    unfolding checked
    answer_cut {rest} p c e =
        let fits : leb (length p.cut) longest ≡ true = le-leb (length p.cut) longest (omega (arith, ap length p.whole ∙ length-append p.cut rest)) in
        ap answer (line_cut p) ∙ ap (λ (b : Bool). cond b (closed (reader (on p.cut 1)).next) (Refused too_long)) fits ∙ ap closed e

    stood : {rest : List ℕ} {j : ℕ} (p : Passed text 1 rest j) (m : ℕ)
        → (answer (take (faulty_line j text) text) ≡ Refused (record { number = 2; line = j })) ⊎ ((answer (take (faulty_line j text) text) ≡ Complete) × (m ≡ 2))
        → (r : Refusal) → Refused (record { number = m; line = j }) ≡ Refused r → Stood answer text (faulty_line r.line text) r
    stood p m lacks r e =
        subst (λ (x : Refusal). Stood answer text (faulty_line x.line text) x) (refused_same e)
        (record { passed = p.count; next = next_line p; lines = subst (Lines p.count) (sym (line_cut p)) p.lines; lacks = lacks })

    by_cursor : (c : Cursor) → Met reader text 1 c → (r : Refusal) → closed c ≡ Refused r → Stood answer text (faulty_line r.line text) r
    unfolding closed
    by_cursor (on [] j) met r e = absurd (complete_refused e)
    by_cursor (on (b ∷ rest) j) (p, same) r e =
        let end = ap (λ (t : List ℕ). (reader (on t 1)).next) (sym (append-nil p.cut)) ∙ ap (λ (s : Step A). s.next) (same []) in
        stood p 2 (inr (answer_cut p (on [] j) end, refl)) r e
    by_cursor (stopped m j) (rest, p, again) r e = stood p m (inl (answer_cut p (stopped 2 j) again)) r e

  fault_begins : (text : List ℕ) (r : Refusal) → answer text ≡ Refused r → TooLong text r ⊎ Stood answer text (faulty_line r.line text) r
  unfolding checked
  fault_begins text r e = go (leb (length text) longest) refl e
    where
      go : (b : Bool) → leb (length text) longest ≡ b → cond b (closed (reader (on text 1)).next) (Refused too_long) ≡ Refused r
          → TooLong text r ⊎ Stood answer text (faulty_line r.line text) r
      go true h q = inr (by_cursor text (leb-true (length text) longest h) (reader (on text 1)).next (follows.meets text 1) r q)
      go false h q = inl (leb-false (length text) longest h, sym (refused_same q))

-- ---- the two texts

-- A plan that is refused is too long, or lacks the faulty line where it is cut.
pub plan_fault : (text : List ℕ) (r : Refusal) → (read_plan text).answer ≡ Refused r
    → TooLong text r ⊎ Stood (λ t. (read_plan t).answer) text (faulty_line r.line text) r
unfolding read_plan
plan_fault = fault_begins plan follows_plan

-- So is a policy over N templates.
pub policy_fault : (N : ℕ) (text : List ℕ) (r : Refusal) → (read_policy N text).answer ≡ Refused r
    → TooLong text r ⊎ Stood (λ t. (read_policy N t).answer) text (faulty_line r.line text) r
unfolding read_policy
policy_fault N = fault_begins (policy N) (follows_policy N)

-- ---- the shown part

abbrev fault_or : Fault → Verdict → Fault
fault_or f Accepted = f
fault_or f (Broken b) = f
fault_or f (Unread g) = g

-- That text was refused, or what comes after it is unread.
abbrev Refusing : Text → Reading → Verdict → Fault → Type 0
Refusing text x v f = ((r : Refusal) × (x ≡ Refused r) × (record { text = text; number = r.number; line = r.line } ≡ f)) ⊎ (v ≡ Unread f)

after-unread : (text : Text) (x : Reading) (v : Verdict) (f : Fault) → after_reading text x v ≡ Unread f → Refusing text x v f
unfolding after_reading
after-unread text Complete v f e = inr e
after-unread text (Refused r) v f e = inl (r, refl, ap (fault_or f) e)

module _ (plan_text policy_text : List ℕ) where
  -- How the text of a fault is read.
  abbrev answer_of : Text → List ℕ → Reading
  answer_of text t = text_of text (read_plan t).answer (read_policy (read_plan plan_text).plan.count t).answer

  -- The text of a fault is too long, or s is where reading it stood.
  abbrev pub Begins : ℕ → Fault → Type 0
  Begins s f =
      let text = text_of f.text plan_text policy_text in
      let r : Refusal = record { number = f.number; line = f.line } in
      TooLong text r ⊎ Stood (answer_of f.text) text s r

  abbrev N : ℕ
  N = (read_plan plan_text).plan.count

  abbrev judged : Verdict
  judged = judge_read (read_plan plan_text).plan (read_policy N policy_text).policy

  abbrev policy_judged : Verdict
  policy_judged = after_reading PolicyText (read_policy N policy_text).answer judged

  abbrev Placed : Fault → Type 0
  Placed f = Begins (located (Unread f) plan_text policy_text).start f

  in_policy : (f : Fault) → Refusing PolicyText (read_policy N policy_text).answer judged f → Placed f
  unfolding located
  in_policy f (inl (r, h, q)) = subst Placed q (policy_fault N policy_text r h)
  in_policy f (inr h) = absurd (judge_decides (read_plan plan_text).plan (read_policy N policy_text).policy h)

  in_plan : (f : Fault) → Refusing PlanText (read_plan plan_text).answer policy_judged f → Placed f
  unfolding located
  in_plan f (inl (r, h, q)) = subst Placed q (plan_fault plan_text r h)
  in_plan f (inr h) = in_policy f (after-unread PolicyText (read_policy N policy_text).answer judged f h)

  -- The part that is shown of a text that is not read begins where reading that text stood.
  pub fault_shown : (f : Fault) → judge plan_text policy_text ≡ Unread f → Begins (locate plan_text policy_text).start f
  unfolding judge locate
  fault_shown f e =
      subst (λ (v : Verdict). Begins (located v plan_text policy_text).start f) (sym e)
      (in_plan f (after-unread PlanText (read_plan plan_text).answer policy_judged f e))
