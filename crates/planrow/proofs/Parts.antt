-- A template's words as the code lends them, a part of the row: what is read of the part is read of the row.
use Prim.Native.Nat.{ℕ, zero, suc, ◌+◌, ◌-◌, ◌*◌, ◌/◌, ◌<◌}
use mathlib.Core.Path.{◌≡◌, refl, ap, ap₂, ◌∙◌}
use mathlib.Core.List.{List, ◌∷◌}
use native.Mathlib.Omega.{arith}
use lib.ListN.{length, take, drop, length-drop}
use lib.Seq.{get_or-take, get_or-drop, drop-drop, take_all}
use Rattle.std.specs.Simd.{first_chunks}
use Rattle.lists.specs.Numbers.{tabulate}
use Rattle.lists.proofs.Tabulate.{tabulate_ext}
use Rattle.planrow.specs.Row.{header, width, words, begins, word_at, template_of, is_template, template_in}
use Rattle.planrow.specs.Lookup.{part_at, word}
use Rattle.planrow.proofs.Reading.{template_ext, is_template_ext}

-- The parts of a row from o on, as the library cuts them.
parts_from : (k o : ℕ) (row : List ℕ) → first_chunks width k (drop o row) ≡ tabulate k (λ X. take width (drop (o + width * X) row))
unfolding tabulate
parts_from zero o row = refl
parts_from (suc k) o row =
    ap₂ ◌∷◌ (ap (λ (n : ℕ). take width (drop n row)) (omega arith))
    (ap (first_chunks width k) (drop-drop width o row)
    ∙ parts_from k (o + width) row
    ∙ tabulate_ext k _ _ (λ X h. ap (λ (n : ℕ). take width (drop n row)) (omega arith)))

pub parts_cut : (row : List ℕ) → length row ≡ words → (after : List ℕ) → after ≡ take (words - header) (drop header row)
    → (all : List (List ℕ)) → all ≡ first_chunks width (length after / width) after → all ≡ tabulate 64 (part_at row)
unfolding part_at
parts_cut row e after c all q = q ∙ ap₂ (first_chunks width) count whole ∙ parts_from 64 header row
  where
    whole : after ≡ drop header row
    whole = c ∙ take_all (words - header) (drop header row) (omega (arith, length-drop header row))

    count : length after / width ≡ 64
    count = let l : length after ≡ words - header = ap length whole ∙ length-drop header row ∙ ap (λ (n : ℕ). n - header) e in omega arith

module _ (row : List ℕ) (X : ℕ) (ws : List ℕ) (e : ws ≡ part_at row X) where
  part-word : (k : ℕ) → k < width → word ws k ≡ word_at row X k
  unfolding part_at word_at
  part-word k h =
      ap (λ (l : List ℕ). word l k) e ∙ get_or-take width (drop (begins X) row) k 0 h ∙ get_or-drop (begins X) row k 0

  pub part-tested : is_template (word ws) ≡ is_template (word_at row X)
  part-tested = is_template_ext (word ws) (word_at row X) part-word

  pub part-template : template_of (word ws) ≡ template_in row X
  unfolding template_in
  part-template = template_ext (word ws) (word_at row X) part-word
