-- Where a part of one of two texts lies that a verdict shows, whatever the verdict.
-- Not to be believed: of the judge's own verdict `lying` of crate rules says the same, and the contract of show names that.
use Rattle.std.specs.Prelude.{ℕ, min, List, length}
use Rattle.scan.specs.Bytes.{further}
use Rattle.rules.specs.declared.Part.{Part}
use Rattle.rules.specs.Show.{text_of}

-- At its start, or at the text's end where the start is past it; the texts lie at p and q.
unfoldable pub lying_in : Part → List ℕ → List ℕ → ℕ × ℕ → ℕ × ℕ → ℕ × ℕ
lying_in part plan_text policy_text p q =
    further (min part.start (length (text_of part.text plan_text policy_text))) (text_of part.text p q)
