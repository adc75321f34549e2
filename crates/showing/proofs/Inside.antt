-- The part that the judge's verdict shows lies in its text: whoever is given its numbers may take the bytes between them.
use Prim.Native.Nat.{ℕ, zero, suc, ◌+◌, ◌*◌, min, ◌≤◌, ◌<◌}
use mathlib.Core.Path.{◌≡◌, refl, sym, ap, ◌∙◌, subst}
use mathlib.Core.Logic.{⊎_elim}
use mathlib.Core.Bool.{Bool, true, false, cond}
use mathlib.Core.List.{List}
use native.Mathlib.Omega.{arith}
use lib.Dec.{ltb}
use lib.ListN.{length, drop, length-take, length-drop}
use borrow.Author.Tests.{ltb-true}
use Rattle.scan.specs.Bytes.{bytes, before, further}
use Rattle.scan.proofs.Steps.{before_le, starts_long}
use Rattle.text.specs.Reading.{plan_header, template_lines, policy_header, assertion_lines, read_plan, Complete}
use Rattle.text.proofs.Passed.{first_line}
use Rattle.reader.proofs.Places.{name-stands}
use Rattle.rules.specs.declared.Breach.{Breach}
use Rattle.rules.specs.declared.Part.{Part}
use Rattle.rules.specs.declared.Verdict.{Verdict}
use Rattle.rules.specs.declared.Verdict.TheVariants.{Accepted, Broken, Unread}
use Rattle.rules.specs.Judge.{judge}
use Rattle.rules.specs.Show.{text_of, line_start, line_end, faulty_line, name_of, kind_line, located, lying, locate}
use Rattle.rules.proofs.First.{breach_first}
use Rattle.verdict.proofs.Exact.{broken_exactly}
use Rattle.verdict.specs.Meaning.{plan_of, policy_of}
use Rattle.showing.specs.Places.{lying_in}
use Rattle.rules.proofs.Lines.{from_line}

abbrev pub Inside : Part → List ℕ → List ℕ → Type 0
Inside part plan_text policy_text = (part.start ≤ part.end) × (part.end ≤ length (text_of part.text plan_text policy_text))

-- ---- lines

line_inside : (n start : ℕ) (text : List ℕ) → start ≤ length text → line_start n start text ≤ length text
unfolding line_start
line_inside zero start text h = h
line_inside (suc n) start text h = go (ltb end (length text)) refl (line_inside n (end + 1) text)
  where
    end : ℕ
    end = start + before 10 (drop start text)

    go : (t : Bool) → ltb end (length text) ≡ t → (end + 1 ≤ length text → line_start n (end + 1) text ≤ length text)
        → cond t (line_start n (end + 1) text) (length text) ≤ length text
    go true e rest = rest (omega (arith, ltb-true end (length text) e))
    go false e rest = omega arith

end_inside : (start : ℕ) (text : List ℕ) → start ≤ length text → (start ≤ line_end start text) × (line_end start text ≤ length text)
unfolding line_end
end_inside start text h = (omega arith, omega (arith, before_le 10 (drop start text), length-drop start text))

fault_inside : (k : ℕ) (text : List ℕ) → faulty_line k text ≤ length text
unfolding faulty_line
fault_inside zero text = omega arith
fault_inside (suc k) text = line_inside k 0 text (omega arith)

-- ---- names and kinds

module _ (plan_text policy_text : List ℕ) where
  name_inside : (read_plan plan_text).answer ≡ Complete → (X : ℕ) → X < (read_plan plan_text).plan.count → Inside (name_of X plan_text) plan_text policy_text
  unfolding name_of line_end
  name_inside e X h =
      let start = line_start (plan_header + template_lines * X) 0 plan_text in
      let s = drop start plan_text in
      let key = starts_long (bytes "name=") (first_line s) (rw (from_line (plan_header + template_lines * X) 0 plan_text) (name-stands plan_text e X h).0) in
      let ends = end_inside start plan_text (line_inside (plan_header + template_lines * X) 0 plan_text (omega arith)) in
      (omega (arith, simp length-take at key), ends.1)

  kind_inside : (i : ℕ) → Inside (kind_line i policy_text) plan_text policy_text
  unfolding kind_line
  kind_inside i =
      end_inside (line_start (policy_header + assertion_lines * i) 0 policy_text) policy_text (line_inside (policy_header + assertion_lines * i) 0 policy_text (omega arith))

  broken_inside : (b : Breach) → judge plan_text policy_text ≡ Broken b → Inside (located (Broken b) plan_text policy_text) plan_text policy_text
  unfolding located
  broken_inside b e =
      let r = (broken_exactly plan_text policy_text b).0 e in
      ⊎_elim (λ h. subst Lies (sym h.0) (name_inside r.plan_reads b.first h.1)) (λ h. subst Lies (sym h.0) (kind_inside b.first))
      (breach_first (plan_of plan_text) (policy_of plan_text policy_text) b r.first)
    where
      Lies : Bool → Type 0
      Lies named = Inside (cond named (name_of b.first plan_text) (kind_line b.first policy_text)) plan_text policy_text

  located_inside : (v : Verdict) → judge plan_text policy_text ≡ v → Inside (located v plan_text policy_text) plan_text policy_text
  unfolding located
  located_inside Accepted e = (omega arith, omega arith)
  located_inside (Broken b) e = broken_inside b e
  located_inside (Unread f) e =
      let text = text_of f.text plan_text policy_text in
      end_inside (faulty_line f.line text) text (fault_inside f.line text)

  -- The part lies in its text.
  pub locate_inside : Inside (locate plan_text policy_text) plan_text policy_text
  unfolding locate
  locate_inside = located_inside (judge plan_text policy_text) refl

  -- So its start is a place of the text: as show returns it, of the judge's own verdict.
  pub judged_place : (v : Verdict) (p q r : ℕ × ℕ) → v ≡ judge plan_text policy_text → r ≡ lying_in (located v plan_text policy_text) plan_text policy_text p q
      → r ≡ lying (locate plan_text policy_text) p q
  unfolding locate lying lying_in
  judged_place v p q r e h =
      let part = locate plan_text policy_text in
      let n = length (text_of part.text plan_text policy_text) in
      let there : min part.start n ≡ part.start = omega (arith, locate_inside) in
      h ∙ ap (λ (x : Verdict). lying_in (located x plan_text policy_text) plan_text policy_text p q) e
      ∙ ap (λ (k : ℕ). further k (text_of part.text p q)) there
