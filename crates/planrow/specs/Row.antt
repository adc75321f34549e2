-- A plan as a row of words, as the embedded interface is lent it (include/monitor.h): a header of N and M, then for each
-- of 64 templates its form, first successor, second successor, lab, pos, neg, creates, risk.
-- Believed: everything here. Proved against it: crates planrow, planfit, encoding, memory and embed.
use Rattle.std.specs.Prelude.{ℕ, zero, suc, ◌+◌, ◌*◌, ◌/◌, ◌%◌, min, Bool, cond, ◌&&◌, List, [], ◌∷◌, ◌++◌, eqb, leb, ltb, get_or}
use Rattle.std.proofs.Math.Option.{Option, none, some}
use Rattle.lists.specs.Numbers.{every, tabulate}
use Rattle.plan.specs.declared.{Form.{Form, TheVariants.{End, Go, Either, Both}}, Template.{Template}, Plan.{Plan}}
use Rattle.plan.specs.Plan.{blank, at, masks}

-- ---- how a row lies

-- The words of the header.
abbrev pub header : ℕ
header = 2

-- Where the risk of a template stands, after its masks, and how many words it has.
abbrev pub risk_word : ℕ
risk_word = 7

abbrev pub width : ℕ
width = risk_word + 1

-- All words.
abbrev pub words : ℕ
words = header + width * 64

-- Where the words of template X begin.
abbrev pub begins : ℕ → ℕ
begins X = header + width * X

-- N
unfoldable pub count_in : List ℕ → ℕ
count_in row = get_or row 0 0

-- M
unfoldable pub identifiers_in : List ℕ → ℕ
identifiers_in row = get_or row 1 0

-- Word k of template X.
unfoldable pub word_at : List ℕ → ℕ → ℕ → ℕ
word_at row X k = get_or row (begins X + k) 0

-- ---- what a row means

-- 0 end, 1 go, 2 either, 3 both; a successor that the form lacks is not looked at.
unfoldable pub form_of : ℕ → ℕ → ℕ → Form
form_of zero Y Z = End
form_of (suc zero) Y Z = Go Y
form_of (suc (suc zero)) Y Z = Either Y Z
form_of (suc (suc (suc n))) Y Z = Both Y Z

-- The template whose word k is `word k`.
unfoldable pub template_of : (ℕ → ℕ) → Template
template_of word = record {
  form = form_of (word 0) (word 1) (word 2);
  lab = word 3;
  pos = word 4;
  neg = word 5;
  creates = word 6;
  risk = eqb (word risk_word) 1;
}

-- The words stand for one: a form from 0 to 3, successors that are bytes, a risk that is 0 or 1.
unfoldable pub is_template : (ℕ → ℕ) → Bool
is_template word = leb (word 0) 3 && (leb (word 1) 255 && (leb (word 2) 255 && leb (word risk_word) 1))

unfoldable pub template_in : List ℕ → ℕ → Template
template_in row X = template_of (word_at row X)

-- At most 64 templates, each of them one; the words of the templates past N carry no meaning.
unfoldable pub is_plan : List ℕ → Bool
is_plan row = leb (count_in row) 64 && every (count_in row) (λ X. is_template (word_at row X))

unfoldable pub plan_in : List ℕ → Plan
plan_in row = record {
  count = count_in row;
  identifiers = identifiers_in row;
  templates = tabulate 64 (λ X. cond (ltb X (count_in row)) (template_in row X) blank);
}

-- The plan that a row means, if it means one.
unfoldable pub plan_of_row : List ℕ → Option Plan
plan_of_row row = cond (is_plan row) (some (plan_in row)) none

-- ---- the row of a plan

unfoldable pub form_number : Form → ℕ
form_number End = 0
form_number (Go Y) = 1
form_number (Either Y Z) = 2
form_number (Both Y Z) = 3

unfoldable pub first_of : Form → ℕ
first_of End = 0
first_of (Go Y) = Y
first_of (Either Y Z) = Y
first_of (Both Y Z) = Y

unfoldable pub second_of : Form → ℕ
second_of End = 0
second_of (Go Y) = 0
second_of (Either Y Z) = Z
second_of (Both Y Z) = Z

unfoldable pub words_of : Template → List ℕ
words_of t = form_number t.form ∷ first_of t.form ∷ second_of t.form ∷ (masks t ++ (cond t.risk 1 0 ∷ []))

-- Word j of its templates; past N each is 0.
unfoldable pub word_in : Plan → ℕ → ℕ
word_in plan j = cond (ltb (j / width) plan.count) (get_or (words_of (at plan (j / width))) (j % width) 0) 0

-- A plan of more than 64 templates has no row, and 65 says so.
unfoldable pub header_of : Plan → List ℕ
header_of plan = min plan.count 65 ∷ plan.identifiers ∷ []

unfoldable pub row_of_plan : Plan → List ℕ
row_of_plan plan = header_of plan ++ tabulate (width * 64) (word_in plan)
