-- What the arrays mean when a process has gone and its children have come.
use Rattle.std.proofs.Common.{◌≡◌, ℕ, ◌+◌, ◌*◌, ◌%◌, ◌^◌, ◌<◌, ◌≤◌, min, List, [], ◌∷◌, ◌++◌, length, get_or, sym, ap, ◌∙◌, ap₂, append_assoc, append-nil, mod-eq_of_lt, arith}
use Rattle.lists.specs.Numbers.{tabulate}
use Rattle.lists.proofs.Tabulate.{get_or-tabulate, tabulate_ext}
use Rattle.machine.specs.Machine.{Process}
use Rattle.machine.specs.State.{Cells, words_from, placed, processes_of}
use Rattle.tagrows.specs.Rows.{child_tag}
use Rattle.population.specs.declared.Child.{Child}
use Rattle.population.specs.Arrays.{cells}
use Rattle.spawning.specs.Spawning.{skipping, newborn, newborns, Entered, Room, Advanced}
use Rattle.spawning.proofs.Moves.{begins}

-- The row that was copied holds the parent's tags.
same_newborn : (M k from serial : ℕ) (child : Child) (row gs : List ℕ) → M ≤ 32 → from ≡ k * M → row ≡ tabulate 32 (λ i. get_or gs (from + i) 0)
    → newborn M row serial child ≡ newborn M (tabulate M (λ i. get_or gs (k * M + i) 0)) serial child
unfolding newborn
same_newborn M k from serial child row gs few ef er =
    ap (λ (ts : List ℕ). record { serial = serial; template = child.number; label = child.template.lab; tags = ts })
    (tabulate_ext M (tagged row) (tagged (tabulate M (λ i. get_or gs (k * M + i) 0))) (λ i h.
    ap (λ (x : ℕ). child_tag serial child.template.creates x i)
    (ap (λ (l : List ℕ). get_or l i 0) er ∙ get_or-tabulate 32 (λ i. get_or gs (from + i) 0) i 0 (omega arith) ∙ ap (λ (f : ℕ). get_or gs (f + i) 0) ef
    ∙ sym (get_or-tabulate M (λ i. get_or gs (k * M + i) 0) i 0 h))))
  where
    tagged : List ℕ → ℕ → ℕ
    tagged tags i = child_tag serial child.template.creates (get_or tags i 0) i

-- gs are the tags before anything moved, row the parent's; the process has left d behind.
module _ (M next k last from : ℕ) (row xs ts ls gs : List ℕ) (d : Cells)
    (ef : from ≡ k * M) (er : row ≡ tabulate 32 (λ i. get_or gs (min from 4064 + i) 0))
    (gone : k ≤ last → last < 128 → M ≤ 32 → processes_of M last d ≡ tabulate last (skipping k (placed M (cells xs ts ls gs)))) where
  abbrev others : List Process
  others = tabulate last (skipping k (placed M (cells xs ts ls gs)))

  abbrev tags : List ℕ
  tags = (placed M (cells xs ts ls gs) k).tags

  abbrev After : List Child → Cells → Type 0
  After children f = Room M next k last (length children) → Advanced M next k last (cells xs ts ls gs) children f

  -- One more child has come, in room for n of them.
  come : (n at serial : ℕ) (child : Child) (e f : Cells) (ps : List Process) → Room M next k last n → at < 128 → Entered M at row serial child e f
      → processes_of M at e ≡ ps → processes_of M (at + 1) f ≡ ps ++ (newborn M tags serial child ∷ [])
  unfolding placed words_from
  come n at serial child e f ps room h came ed =
      came h room.identifiers
      ∙ ap₂ (λ (ps : List Process) (p : Process). ps ++ (p ∷ [])) ed
      (same_newborn M k from serial child row gs room.identifiers ef
      (er ∙ ap (λ (f : ℕ). tabulate 32 (λ i. get_or gs (f + i) 0)) (begins M k from (let p = room.place in let l = room.processes in omega arith) room.identifiers ef)))

  pub advanced_none : After [] d
  unfolding newborns
  advanced_none room =
      ap (λ (n : ℕ). processes_of M n d) (omega arith) ∙ gone room.place room.processes room.identifiers ∙ sym (append-nil others)

  pub advanced_one : (y : Child) (e : Cells) → Entered M last row next y d e → After (y ∷ []) e
  unfolding newborns
  advanced_one y e first room = come 1 last next y d e others room room.processes first (gone room.place room.processes room.identifiers)

  -- Neither sum wraps.
  pub advanced_two : (y z : Child) (at serial : ℕ) (e f : Cells) → at ≡ (last + 1) % 2 ^ 32 → serial ≡ (next + 1) % 2 ^ 32
      → Entered M last row next y d e → Entered M at row serial z e f → After (y ∷ z ∷ []) f
  unfolding newborns
  advanced_two y z at serial e f ea es first second room =
      ap (λ (n : ℕ). processes_of M n f) (omega (arith, above))
      ∙ come 2 at serial z e f (others ++ (newborn M tags next y ∷ [])) room (let p = room.places in omega (arith, above)) second
      (ap (λ (n : ℕ). processes_of M n e) above ∙ come 2 last next y d e others room room.processes first (gone room.place room.processes room.identifiers))
      ∙ append_assoc others (newborn M tags next y ∷ []) (newborn M tags serial z ∷ [])
      ∙ ap (λ (s : ℕ). others ++ (newborn M tags next y ∷ newborn M tags s z ∷ [])) unwrapped
    where
      above : at ≡ last + 1
      above = ea ∙ mod-eq_of_lt (let l = room.processes in omega arith)

      unwrapped : serial ≡ next + 1
      unwrapped = es ∙ mod-eq_of_lt (let l = room.serials in omega arith)
