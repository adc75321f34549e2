-- The arrays' meaning when a process goes and its children come.
-- Not to be believed: the contract of a step is stated with the machine alone.
use Rattle.std.specs.Prelude.{◌≡◌, ℕ, ◌+◌, ◌<◌, ◌≤◌, cond, List, [], ◌∷◌, ◌++◌, length, nat_lt, slice_index}
use Rattle.lists.specs.Numbers.{tabulate}
use Rattle.machine.specs.Machine.{Process}
use Rattle.machine.specs.State.{Cells, placed, processes_of}
use Rattle.tagrows.specs.Rows.{child_tag}
use Rattle.population.specs.declared.Child.{Child}

-- The processes without the one at place k.
unfoldable pub skipping : ℕ → (ℕ → Process) → ℕ → Process
skipping k f i = cond (nat_lt i k) (f i) (f (i + 1))

-- A child of that serial, whose parent has those tags.
unfoldable pub newborn : ℕ → List ℕ → ℕ → Child → Process
newborn M tags serial child = record {
  serial = serial;
  template = child.number;
  label = child.template.lab;
  tags = tabulate M (λ i. child_tag serial child.template.creates (slice_index tags i) i);
}

-- Those children, the first with the next serial.
unfoldable pub newborns : ℕ → List ℕ → ℕ → List Child → List Process
newborns M tags next [] = []
newborns M tags next (child ∷ rest) = newborn M tags next child ∷ newborns M tags (next + 1) rest

-- The child has come after the others, its parent having those tags.
abbrev pub Entered : ℕ → ℕ → List ℕ → ℕ → Child → Cells → Cells → Type 0
Entered M at tags serial child c d =
    at < 128 → M ≤ 32 → processes_of M (at + 1) d ≡ processes_of M at c ++ (newborn M tags serial child ∷ [])

-- A process is at place k, the highest is at the last place, and count children have room beside the others.
pub record Room (M next k last count : ℕ) : Type 0 where
  pub identifiers : M ≤ 32
  pub place : k ≤ last
  pub processes : last < 128
  pub serials : next + count ≤ 4294967295
  pub places : last + count ≤ 128

-- The process at place k has gone and its children have come.
abbrev pub Advanced : ℕ → ℕ → ℕ → ℕ → Cells → List Child → Cells → Type 0
Advanced M next k last c children d =
    processes_of M (last + length children) d ≡ tabulate last (skipping k (placed M c)) ++ newborns M (placed M c k).tags next children
