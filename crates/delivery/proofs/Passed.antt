-- The test of two labels over two parts of tags, as the loop meets it.
use Prim.Native.Nat.{ℕ, ◌+◌, ◌≤◌, min}
use mathlib.Core.Path.{◌≡◌, refl, sym, ap, ap₂, ◌∙◌}
use mathlib.Core.Bool.{Bool, true, not, ◌&&◌, ◌||◌}
use mathlib.Core.List.{List}
use native.Mathlib.Omega.{arith}
use lib.Dec.{eqb}
use lib.ListN.{length, get_or}
use mir.Val.{Fits}
use mir.Syntax.{w32}
use borrow.Author.Tests.{eq-eqb}
use Rattle.std.proofs.Common.{slice_range}
use Rattle.lists.specs.Numbers.{every}
use Rattle.lists.proofs.Every.{every_capped}
use Rattle.lists.proofs.Parts.{part_length, part_at}
use Rattle.lists.proofs.Tabulate.{tabulate_get_or, tabulate_ext}
use Rattle.mask.specs.Mask.{has}
use Rattle.mask.proofs.Width.{has_past}
use Rattle.machine.specs.Machine.{agree}
use Rattle.machine.specs.State.{words_from}

-- An identifier holds nothing back.
pub agreed : (label receiver sent held i : ℕ) (a b : Bool) → a ≡ has i label → b ≡ has i receiver
    → (not a || (b && eqb sent held)) ≡ (not (has i label) || (has i receiver && eqb sent held))
agreed label receiver sent held i a b ea eb = ap₂ (λ (a b : Bool). not a || (b && eqb sent held)) ea eb

module _ (label receiver : ℕ) (sent held : List ℕ) where
  abbrev pub clear : ℕ → Bool
  clear i = not (has i label) || (has i receiver && eqb (get_or sent i 0) (get_or held i 0))

  -- No identifier stands past the mask.
  pub clear_all : Fits w32 label → length held ≡ length sent → (n : ℕ) (a : Bool) → a ≡ every n clear → n ≡ min (length sent) 32
      → a ≡ (eqb (length sent) (length held) && agree (length sent) label sent receiver held)
  unfolding agree
  clear_all small same n a ea en =
      ea ∙ ap (λ (k : ℕ). every k clear) en ∙ every_capped (length sent) 32 clear past
      ∙ ap (λ (b : Bool). b && every (length sent) clear) (sym (eq-eqb (length sent) (length held) (sym same)))
    where
      past : (i : ℕ) → 32 ≤ i → clear i ≡ true
      past i h = rw (has_past 32 label i (omega (arith, small)) h) refl

-- ---- rows of tags

-- The words from a place on are the part of the list.
words_part : (gs : List ℕ) (f k : ℕ) → f + k ≤ length gs → slice_range gs f (f + k) ≡ words_from k gs f
unfolding words_from
words_part gs f k h =
    sym (tabulate_get_or k (slice_range gs f (f + k)) 0 (omega (arith, part_length gs f (f + k) h)))
    ∙ tabulate_ext k _ _ (λ i l. part_at gs f (f + k) 0 i (omega arith))

module _ (gs : List ℕ) (label receiver f t k : ℕ) (sent_there : f + k ≤ length gs) (held_there : t + k ≤ length gs) where
  pub passed_rows : (sent held : List ℕ) → sent ≡ slice_range gs f (f + k) → held ≡ slice_range gs t (t + k) → (r : Bool)
      → r ≡ (eqb (length sent) (length held) && agree (length sent) label sent receiver held)
      → r ≡ agree k label (words_from k gs f) receiver (words_from k gs t)
  passed_rows sent held es eh r er =
      er
      ∙ ap₂ (λ (x y : ℕ). eqb x y && agree x label sent receiver held) (ap length es ∙ long f sent_there) (ap length eh ∙ long t held_there)
      ∙ ap (λ (b : Bool). b && agree k label sent receiver held) (eq-eqb k k refl)
      ∙ ap₂ (λ (xs ys : List ℕ). agree k label xs receiver ys) (es ∙ words_part gs f k sent_there) (eh ∙ words_part gs t k held_there)
    where
      long : (f : ℕ) → f + k ≤ length gs → length (slice_range gs f (f + k)) ≡ k
      long f h = omega (arith, part_length gs f (f + k) h)
