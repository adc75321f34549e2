-- The shown part: its text, start and end, its bytes, and where it lies (document 01, "Showing").
-- Believed: everything here. Proved against it: crates locating and showing.
use Rattle.std.specs.Prelude.{ℕ, zero, suc, ◌+◌, ◌-◌, ◌*◌}
use mathlib.Core.{Bool.{cond, ◌||◌}, List.{List}}
use lib.{Dec.{eqb, ltb}, ListN.{length, take, drop}}
use Rattle.scan.specs.Bytes.{bytes, before, further}
use Rattle.text.specs.Reading.{plan_header, template_lines, policy_header, assertion_lines}
use Rattle.rules.specs.declared.Part.{Part}
use Rattle.rules.specs.Judge.{Text, PlanText, PolicyText, Verdict, Accepted, Broken, Unread, is_edge_rule, judge}

-- Where the line after so many lines begins, counted from `start`; the text's end where it is missing.
unfoldable pub line_start : ℕ → ℕ → List ℕ → ℕ
line_start zero start text = start
line_start (suc skipped) start text =
    let end = start + before 10 (drop start text) in
    cond (ltb end (length text)) (line_start skipped (end + 1) text) (length text)

-- The line that begins there, without byte 10.
unfoldable pub line_end : ℕ → List ℕ → ℕ
line_end start text = start + before 10 (drop start text)

-- "The faulty line without byte 10, empty if missing or line 0 (then at the text's end)."
unfoldable pub faulty_line : ℕ → List ℕ → ℕ
faulty_line zero text = length text
faulty_line (suc k) text = line_start k 0 text

-- What belongs to that text, of the plan's and the policy's.
abbrev pub text_of : {A : Type 0} → Text → A → A → A
text_of PlanText of_plan of_policy = of_plan
text_of PolicyText of_plan of_policy = of_policy

abbrev pub from : Text → ℕ → ℕ → Part
from text start end = record { text = text; start = start; end = end }

-- "Broken 11 to 16: the name of template first": its line without the key.
unfoldable pub name_of : ℕ → List ℕ → Part
name_of X plan_text =
    let start = line_start (plan_header + template_lines * X) 0 plan_text in
    from PlanText (start + length (bytes "name=")) (line_end start plan_text)

-- "17 to 19: the assertion's `kind=` line, also without byte 10."
unfoldable pub kind_line : ℕ → List ℕ → Part
kind_line i policy_text =
    let start = line_start (policy_header + assertion_lines * i) 0 policy_text in
    from PolicyText start (line_end start policy_text)

-- "Accepted: the empty part at the plan's start."
unfoldable pub located : Verdict → List ℕ → List ℕ → Part
located Accepted plan_text policy_text = from PlanText 0 0
located (Broken b) plan_text policy_text =
    cond (eqb b.rule 11 || is_edge_rule b.rule) (name_of b.first plan_text) (kind_line b.first policy_text)
located (Unread f) plan_text policy_text =
    let text = text_of f.text plan_text policy_text in
    let start = faulty_line f.line text in
    from f.text start (line_end start text)

-- "The bytes between them", the part's numbers.
unfoldable pub between : Part → List ℕ → List ℕ → List ℕ
between part plan_text policy_text = take (part.end - part.start) (drop part.start (text_of part.text plan_text policy_text))

-- Where it lies, the texts lying at p and q: "the line shown is a part of the plan text or of the policy text", "and the name
-- is that part of the plan text itself".
unfoldable pub lying : Part → ℕ × ℕ → ℕ × ℕ → ℕ × ℕ
lying part p q = further part.start (text_of part.text p q)

-- "Showing takes the texts, judges them": the part, and the bytes between its numbers.
unfoldable pub locate : List ℕ → List ℕ → Part
locate plan_text policy_text = located (judge plan_text policy_text) plan_text policy_text

unfoldable pub shown : List ℕ → List ℕ → List ℕ
shown plan_text policy_text = between (locate plan_text policy_text) plan_text policy_text
