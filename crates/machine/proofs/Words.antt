-- A process by the words that it is read from: where two readers of words agree, so do the processes. By this one law words
-- that are moved, copied or stored are processes moved, copied or made.
use Prim.Native.Nat.{ℕ, suc, ◌+◌, ◌*◌, ◌≤◌, ◌<◌}
use mathlib.Core.Path.{◌≡◌}
use native.Mathlib.Nat.{mul-le-mul, suc-mul, le_refl}
use native.Mathlib.Omega.{arith}
use lib.ListN.{get_or}
use Rattle.lists.specs.Numbers.{tabulate}
use Rattle.lists.proofs.Tabulate.{tabulate_ext}
use Rattle.machine.specs.Machine.{Process}
use Rattle.machine.specs.State.{Cells, words_from, placed, processes_of}

-- The process that a serial, a template, a label and a reader of tags stand for.
abbrev pub process_of : ℕ → ℕ → ℕ → ℕ → (ℕ → ℕ) → Process
process_of M serial X label tag = record { serial = serial; template = X; label = label; tags = tabulate M tag }

pub process_same : (M s s' X X' l l' : ℕ) (t t' : ℕ → ℕ) → s ≡ s' → X ≡ X' → l ≡ l' → ((i : ℕ) → i < M → t i ≡ t' i)
    → process_of M s X l t ≡ process_of M s' X' l' t'
process_same M s s' X X' l l' t t' es eX el et =
    λ i. record { serial = es i; template = eX i; label = el i; tags = tabulate_ext M t t' et i }

module _ (M : ℕ) (c d : Cells) where
  -- Place j of d means the process at place i of c.
  pub placed_same : (i j : ℕ) → get_or d.serials j 0 ≡ get_or c.serials i 0 → get_or d.templates j 0 ≡ get_or c.templates i 0
      → get_or d.labels j 0 ≡ get_or c.labels i 0 → ((t : ℕ) → t < M → get_or d.tags (j * M + t) 0 ≡ get_or c.tags (i * M + t) 0)
      → placed M d j ≡ placed M c i
  unfolding placed words_from
  placed_same i j es eX el et =
      process_same M (get_or d.serials j 0) (get_or c.serials i 0) (get_or d.templates j 0) (get_or c.templates i 0) (get_or d.labels j 0) (get_or c.labels i 0)
      (λ t. get_or d.tags (j * M + t) 0) (λ t. get_or c.tags (i * M + t) 0) es eX el et

  -- Arrays that agree at the live places mean the same processes.
  pub processes_same : (live : ℕ) → ((i : ℕ) → i < live → get_or d.serials i 0 ≡ get_or c.serials i 0)
      → ((i : ℕ) → i < live → get_or d.templates i 0 ≡ get_or c.templates i 0) → ((i : ℕ) → i < live → get_or d.labels i 0 ≡ get_or c.labels i 0)
      → ((t : ℕ) → t < live * M → get_or d.tags t 0 ≡ get_or c.tags t 0) → processes_of M live d ≡ processes_of M live c
  unfolding processes_of
  processes_same live es eX el et =
      tabulate_ext live (placed M d) (placed M c) (λ i h. placed_same i i (es i h) (eX i h) (el i h) (λ t k.
      let q : suc i * M ≤ live * M = mul-le-mul h (le_refl M) in
      let s = suc-mul i M in
      et (i * M + t) (omega arith)))
