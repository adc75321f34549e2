-- What is shown is what was read: the name of template X is the X-th name that reading read, and the line of assertion i is the one
-- that its kind was read from.
use Prim.Native.Nat.{ℕ, ◌+◌, ◌-◌, ◌*◌, ◌<◌}
use mathlib.Core.Path.{◌≡◌, sym, ap, ◌∙◌}
use mathlib.Core.Bool.{true}
use mathlib.Core.List.{List, []}
use native.Mathlib.Omega.{arith}
use lib.ListN.{length, get_or, take, drop}
use lib.Seq.{drop-drop}
use Rattle.scan.specs.Bytes.{bytes, before, starts_with}
use Rattle.scan.proofs.Parts.{drop-take}
use Rattle.plan.specs.Plan.{assertion_at}
use Rattle.field.specs.Fields.{is, kind}
use Rattle.text.specs.Reading.{plan_header, template_lines, policy_header, assertion_lines, read_plan, read_policy, Complete}
use Rattle.text.proofs.Passed.{after_lines, first_line, field_after}
use Rattle.reader.specs.Names.{plan_names}
use Rattle.reader.proofs.Places.{name-stands}
use Rattle.policies.proofs.Places.{kind-stands}
use Rattle.rules.proofs.Lines.{from_line}
use Rattle.rules.specs.Show.{line_start, line_end, name_of, kind_line, between}

-- The line that begins at a place, without its first k bytes.
line-part : (text : List ℕ) (start k : ℕ) → take (line_end start text - (start + k)) (drop (start + k) text) ≡ drop k (first_line (drop start text))
unfolding line_end
line-part text start k =
    let b = before 10 (drop start text) in
    let n : start + b - (start + k) ≡ b - k = omega arith in
    ap (λ (j : ℕ). take j (drop (start + k) text)) n ∙ ap (take (b - k)) (sym (drop-drop k start text)) ∙ sym (drop-take k b (drop start text))

-- A name is found again by the lines before it.
pub name-shown : (plan_text policy_text : List ℕ) → (read_plan plan_text).answer ≡ Complete
    → (X : ℕ) → X < (read_plan plan_text).plan.count → between (name_of X plan_text) plan_text policy_text ≡ get_or (plan_names plan_text) X []
unfolding name_of between
name-shown plan_text policy_text e X h =
    line-part plan_text (line_start (plan_header + template_lines * X) 0 plan_text) (length (bytes "name="))
    ∙ ap (field_after "name=") (from_line (plan_header + template_lines * X) 0 plan_text) ∙ sym (name-stands plan_text e X h).1

-- The shown line of an assertion begins with `kind=`, and what follows was read as its kind.
pub kind-shown : (N : ℕ) (plan_text policy_text : List ℕ) → (read_policy N policy_text).answer ≡ Complete
    → (i : ℕ) → i < (read_policy N policy_text).policy.count
    → let line = between (kind_line i policy_text) plan_text policy_text in
    (starts_with (bytes "kind=") line ≡ true) × (kind (drop (length (bytes "kind=")) line) ≡ is (assertion_at (read_policy N policy_text).policy i).kind)
unfolding kind_line between
kind-shown N plan_text policy_text e i h =
    let start = line_start (policy_header + assertion_lines * i) 0 policy_text in
    let zero_more : start ≡ start + 0 = omega arith in
    let shown : between (kind_line i policy_text) plan_text policy_text ≡ first_line (after_lines (policy_header + assertion_lines * i) policy_text) =
    ap (λ (j : ℕ). take (line_end start policy_text - j) (drop j policy_text)) zero_more ∙ line-part policy_text start 0
    ∙ ap first_line (from_line (policy_header + assertion_lines * i) 0 policy_text) in
    let read = kind-stands N policy_text e i h in
    rw shown (read.0, read.1)
