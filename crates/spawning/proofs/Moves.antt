-- What the changes of the arrays mean for the list of processes: one goes, a child comes.
use Rattle.std.proofs.Common.{◌≡◌, ℕ, ◌+◌, ◌-◌, ◌*◌, ◌<◌, ◌≤◌, min, List, [], ◌∷◌, ◌++◌, length, get_or, set, sym, ap, ◌∙◌, ap₂, ⊎_elim, suc-mul, add-one, arith, get_or-set_other, get_or-set_same, le-ltb, lt-ltb}
use Rattle.lists.specs.Numbers.{tabulate}
use Rattle.lists.proofs.Tests.{lt_or_le}
use Rattle.lists.proofs.Tabulate.{tabulate_ext, tabulate_snoc}
use Rattle.machine.specs.Machine.{Process}
use Rattle.machine.specs.State.{Cells, words_from, placed, processes_of}
use Rattle.machine.proofs.Words.{process_same, placed_same}
use Rattle.lists.specs.Writes.{written}
use Rattle.lists.proofs.Written.{written_in, written_below}
use Rattle.blocks.specs.Blocks.{shifted}
use Rattle.blocks.proofs.Shifts.{shifts_all, shifted_in, shifted-below}
use Rattle.tagrows.specs.Rows.{child_tag}
use Rattle.tagrows.proofs.Rows.{row_room, row_under, row_over}
use Rattle.population.specs.declared.Child.{Child}
use Rattle.population.specs.Arrays.{cells}
use Rattle.spawning.specs.Spawning.{skipping, newborn, Entered}

pub skipping-below : (k : ℕ) (f : ℕ → Process) (i : ℕ) → i < k → skipping k f i ≡ f i
unfolding skipping
skipping-below k f i h = rw (lt-ltb i k h)

pub skipping_above : (k : ℕ) (f : ℕ → Process) (i : ℕ) → k ≤ i → skipping k f i ≡ f (i + 1)
unfolding skipping
skipping_above k f i h = rw (le-ltb i k h)

-- ---- a process goes

module _ (M k last from to : ℕ) (xs₁ xs₂ xs₃ xs₄ ys₁ ys₂ ys₃ ys₄ : List ℕ) where
  left : k ≤ last → from ≡ k * M → to ≡ last * M
      → ((j : ℕ) → get_or ys₁ j 0 ≡ shifted xs₁ k last 1 j)
      → ((j : ℕ) → get_or ys₂ j 0 ≡ shifted xs₂ k last 1 j)
      → ((j : ℕ) → get_or ys₃ j 0 ≡ shifted xs₃ k last 1 j)
      → ((j : ℕ) → get_or ys₄ j 0 ≡ shifted xs₄ from to M j)
      → processes_of M last (cells ys₁ ys₂ ys₃ ys₄) ≡ tabulate last (skipping k (placed M (cells xs₁ xs₂ xs₃ xs₄)))
  unfolding processes_of
  left h ef et e₁ e₂ e₃ e₄ =
      tabulate_ext last (placed M d) (skipping k (placed M c)) (λ i l.
      ⊎_elim
      (λ b. placed_same M c d i i
      (e₁ i ∙ shifted-below xs₁ k last 1 i b) (e₂ i ∙ shifted-below xs₂ k last 1 i b) (e₃ i ∙ shifted-below xs₃ k last 1 i b)
      (λ t w. let q = row_under M i k b in e₄ (i * M + t) ∙ shifted-below xs₄ from to M (i * M + t) (omega arith))
      ∙ sym (skipping-below k (placed M c) i b))
      (λ g. placed_same M c d (i + 1) i
      (e₁ i ∙ shifted_in xs₁ k last 1 i g l) (e₂ i ∙ shifted_in xs₂ k last 1 i g l) (e₃ i ∙ shifted_in xs₃ k last 1 i g l)
      (λ t w. let q = row_over M i k g in let r = row_under M i last l in
      e₄ (i * M + t) ∙ shifted_in xs₄ from to M (i * M + t) (omega arith) (omega arith)
      ∙ ap (λ (j : ℕ). get_or xs₄ j 0) (sym (ap (λ (j : ℕ). j * M + t) (add-one i) ∙ (let s = suc-mul i M in omega arith))))
      ∙ sym (skipping_above k (placed M c) i g))
      (lt_or_le i k))
    where
      c : Cells
      c = cells xs₁ xs₂ xs₃ xs₄

      d : Cells
      d = cells ys₁ ys₂ ys₃ ys₄

  -- The same of the shifts as they are asked for: each of them finds all that it moves.
  pub left_processes : k ≤ last → last < 128 → M ≤ 32 → length xs₁ ≡ 128 → length xs₂ ≡ 128 → length xs₃ ≡ 128 → length xs₄ ≡ 4096
      → from ≡ k * M → to ≡ last * M
      → ((j : ℕ) → get_or ys₁ j 0 ≡ shifted xs₁ k (min last (length xs₁ - 1)) 1 j)
      → ((j : ℕ) → get_or ys₂ j 0 ≡ shifted xs₂ k (min last (length xs₂ - 1)) 1 j)
      → ((j : ℕ) → get_or ys₃ j 0 ≡ shifted xs₃ k (min last (length xs₃ - 1)) 1 j)
      → ((j : ℕ) → get_or ys₄ j 0 ≡ shifted xs₄ from (min to (length xs₄ - M)) M j)
      → processes_of M last (cells ys₁ ys₂ ys₃ ys₄) ≡ tabulate last (skipping k (placed M (cells xs₁ xs₂ xs₃ xs₄)))
  left_processes h l few n₁ n₂ n₃ n₄ ef et w₁ w₂ w₃ w₄ =
      left h ef et (shifts_all xs₁ ys₁ k last 1 (omega arith) w₁) (shifts_all xs₂ ys₂ k last 1 (omega arith) w₂)
      (shifts_all xs₃ ys₃ k last 1 (omega arith) w₃)
      (shifts_all xs₄ ys₄ from to M (let r = row_room last M l few in omega arith) w₄)

-- ---- a child comes

module _ (xs ys : List ℕ) (at v : ℕ) (e : ys ≡ set xs at v) where
  kept : (i : ℕ) → i < at → get_or ys i 0 ≡ get_or xs i 0
  kept i h = ap (λ l. get_or l i 0) e ∙ get_or-set_other xs at i v 0 (λ q. omega arith)

  stored : at < length xs → get_or ys at 0 ≡ v
  stored h = ap (λ l. get_or l at 0) e ∙ get_or-set_same xs at v 0 h

module _ (M at from serial : ℕ) (child : Child) (row xs₁ xs₂ xs₃ xs₄ ys₁ ys₂ ys₃ ys₄ : List ℕ) where
  entered : at < 128 → M ≤ 32 → length xs₁ ≡ 128 → length xs₂ ≡ 128 → length xs₃ ≡ 128 → from ≡ at * M
      → ys₁ ≡ set xs₁ at serial → ys₂ ≡ set xs₂ at child.number → ys₃ ≡ set xs₃ at child.template.lab
      → ((j : ℕ) → get_or ys₄ j 0 ≡ written xs₄ from 32 (λ i. child_tag serial child.template.creates (get_or row i 0) i) j)
      → processes_of M (at + 1) (cells ys₁ ys₂ ys₃ ys₄) ≡ processes_of M at (cells xs₁ xs₂ xs₃ xs₄) ++ (newborn M row serial child ∷ [])
  unfolding processes_of placed words_from newborn
  entered h few n₁ n₂ n₃ ef e₁ e₂ e₃ e₄ =
      ap (λ (n : ℕ). tabulate n (placed M d)) (add-one at)
      ∙ tabulate_snoc at (placed M d)
      ∙ ap₂ (λ (ps : List Process) (p : Process). ps ++ (p ∷ []))
      (tabulate_ext at (placed M d) (placed M c) (λ i b.
      placed_same M c d i i (kept xs₁ ys₁ at serial e₁ i b) (kept xs₂ ys₂ at child.number e₂ i b) (kept xs₃ ys₃ at child.template.lab e₃ i b)
      (λ k w. let q = row_under M i at b in e₄ (i * M + k) ∙ written_below xs₄ from 32 tagged (i * M + k) (omega arith))))
      (process_same M (get_or ys₁ at 0) serial (get_or ys₂ at 0) child.number (get_or ys₃ at 0) child.template.lab (λ k. get_or ys₄ (at * M + k) 0) tagged
      (stored xs₁ ys₁ at serial e₁ (omega arith)) (stored xs₂ ys₂ at child.number e₂ (omega arith)) (stored xs₃ ys₃ at child.template.lab e₃ (omega arith))
      (λ k w. e₄ (at * M + k) ∙ written_in xs₄ from 32 tagged (at * M + k) (omega arith) (omega arith) ∙ ap tagged (omega arith)))
    where
      c : Cells
      c = cells xs₁ xs₂ xs₃ xs₄

      d : Cells
      d = cells ys₁ ys₂ ys₃ ys₄

      tagged : ℕ → ℕ
      tagged i = child_tag serial child.template.creates (get_or row i 0) i

-- The row of a place begins no later than the last row of all.
pub begins : (M at from : ℕ) → at < 128 → M ≤ 32 → from ≡ at * M → min from 4064 ≡ from
begins M at from h few e = let r = row_room at M h few in omega arith

-- As the code meets it.
pub entered_processes : (M at from serial : ℕ) (child : Child) (row xs₁ xs₂ xs₃ xs₄ ys₁ ys₂ ys₃ ys₄ : List ℕ)
    → length xs₁ ≡ 128 → length xs₂ ≡ 128 → length xs₃ ≡ 128 → from ≡ at * M
    → ys₁ ≡ set xs₁ at serial → ys₂ ≡ set xs₂ at child.number → ys₃ ≡ set xs₃ at child.template.lab
    → ((j : ℕ) → get_or ys₄ j 0 ≡ written xs₄ (min from 4064) 32 (λ i. child_tag serial child.template.creates (get_or row i 0) i) j)
    → Entered M at row serial child (cells xs₁ xs₂ xs₃ xs₄) (cells ys₁ ys₂ ys₃ ys₄)
entered_processes M at from serial child row xs₁ xs₂ xs₃ xs₄ ys₁ ys₂ ys₃ ys₄ n₁ n₂ n₃ ef e₁ e₂ e₃ e₄ h few =
    entered M at (min from 4064) serial child row xs₁ xs₂ xs₃ xs₄ ys₁ ys₂ ys₃ ys₄ h few n₁ n₂ n₃ (begins M at from h few ef ∙ ef) e₁ e₂ e₃ e₄
