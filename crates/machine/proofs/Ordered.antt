-- Lists of live processes as a well formed machine has them: each in its ranges, in rising serial below the next. This is
-- what the machine's test says of the list, and what a step, a raise and a lower do with the list keeps it.
use Prim.Native.Nat.{ℕ, suc, ◌+◌, ◌^◌, ◌≤◌, ◌<◌}
use native.Mathlib.Omega.{arith}
use mathlib.Core.Path.{◌≡◌, refl, ◌∙◌}
use mathlib.Core.Logic.{inl, inr}
use mathlib.Core.List.{List, [], ◌∷◌, ◌++◌, map}
use mathlib.Core.Option.{Option, none, some}
use mathlib.Core.Bool.{Bool, true, false, cond}
use lib.Dec.{eqb, ltb}
use lib.ListN.{length, get_or}
use borrow.Author.Tests.{ltb-true, lt-ltb, eqb-true}
use Rattle.lists.specs.Numbers.{all}
use Rattle.lists.proofs.Tests.{and_both, and_of}
use Rattle.lists.proofs.All.{all_at, all_weaken}
use Rattle.lists.proofs.Every.{every_of}
use Rattle.lists.proofs.Tabulate.{all_tabulate}
use Rattle.plan.specs.declared.Plan.{Plan}
use Rattle.plan.specs.Plan.{creates, Among}
use Rattle.machine.specs.Machine.{Process, tag, process_fits, plan_fits, find, remove, child, spawn, relabelled, relabel}
use Rattle.machine.proofs.Live.{no_some}
use Rattle.machine.proofs.Templates.{lab_below}
use Rattle.machine.proofs.Rising.{Climbs}

-- ---- the live processes

-- A process beside a next serial, but for its own serial.
pub record Neat (plan : Plan) (next : ℕ) (p : Process) : Type 0 where
  pub template : p.template < plan.count
  pub label : p.label < 2 ^ plan.identifiers
  pub tags : all (λ t. ltb t next) p.tags ≡ true

-- Neat processes, with serials that rise from low on and stay below high.
abbrev pub Ordered : Plan → ℕ → ℕ → List Process → ℕ → Type 0
Ordered plan next low [] high = low ≤ high
Ordered plan next low (p ∷ rest) high = (low ≤ p.serial) × Neat plan next p × Ordered plan next (suc p.serial) rest high

module _ (plan : Plan) where
  -- The serials rise.
  pub ordered_climbs : (next low high : ℕ) (l : List Process) → Ordered plan next low l high → Climbs low (map (λ p. p.serial) l)
  ordered_climbs next low high [] o = tt
  ordered_climbs next low high (p ∷ l) o = (o.0, ordered_climbs next (suc p.serial) high l o.2)

  -- The end is not below the start.
  pub ordered_high : (next low high : ℕ) (l : List Process) → Ordered plan next low l high → low ≤ high
  ordered_high next low high [] o = o
  ordered_high next low high (p ∷ l) o =
      let q : low ≤ p.serial = o.0 in
      let r : suc p.serial ≤ high = ordered_high next (suc p.serial) high l o.2 in
      omega arith

  -- Each process passes the machine's test,
  pub ordered_fits : (next low : ℕ) (l : List Process) → Ordered plan next low l next → all (process_fits plan next) l ≡ true
  unfolding all process_fits
  ordered_fits next low [] o = refl
  ordered_fits next low (p ∷ l) o =
      and_of (process_fits plan next p) (all (process_fits plan next) l)
      (and_of _ _ (lt-ltb p.serial next (ordered_high next (suc p.serial) next l o.2))
      (and_of _ _ (lt-ltb p.template plan.count o.1.template)
      (and_of _ _ (lt-ltb p.label (2 ^ plan.identifiers) o.1.label) o.1.tags)))
      (ordered_fits next (suc p.serial) l o.2)

  -- and back.
  pub fits_ordered : (next low : ℕ) (l : List Process) → low ≤ next → Climbs low (map (λ p. p.serial) l) → all (process_fits plan next) l ≡ true
      → Ordered plan next low l next
  unfolding all process_fits
  fits_ordered next low [] h c e = h
  fits_ordered next low (p ∷ l) h c e =
      let r = and_both (process_fits plan next p) (all (process_fits plan next) l) e in
      let serial = and_both (ltb p.serial next) _ r.0 in
      let template = and_both (ltb p.template plan.count) _ serial.1 in
      let label = and_both (ltb p.label (2 ^ plan.identifiers)) _ template.1 in (
        c.0,
        record {
          template = ltb-true p.template plan.count template.0;
          label = ltb-true p.label (2 ^ plan.identifiers) label.0;
          tags = label.1;
        },
        fits_ordered next (suc p.serial) l (ltb-true p.serial next serial.0) c.1 r.1,
      )

  -- What is found is neat, and its serial is below the end.
  pub find_neat : (next s low high : ℕ) (l : List Process) (p : Process) → find s l ≡ some p → Ordered plan next low l high
      → Neat plan next p × (s < high)
  unfolding find
  find_neat next s low high [] p e o = absurd (no_some p e)
  find_neat next s low high (q ∷ l) p e o = pick (eqb q.serial s) refl e (λ f. find_neat next s (suc q.serial) high l p f o.2)
    where
      pick : (b : Bool) → eqb q.serial s ≡ b → cond b (some q) (find s l) ≡ some p → (find s l ≡ some p → Neat plan next p × (s < high))
          → Neat plan next p × (s < high)
      pick true t e k =
          let z : q ≡ p = cc in
          let same : q.serial ≡ s = eqb-true q.serial s t in
          let r : suc q.serial ≤ high = ordered_high next (suc q.serial) high l o.2 in
          (rw (← z) o.1, omega arith)
      pick false t e k = k e

  -- Nobody is found past the end.
  pub find_past : (next low high : ℕ) (l : List Process) → Ordered plan next low l high → (x : ℕ) → high ≤ x → find x l ≡ none
  find_past next low high l o x h = pick (find x l) refl
    where
      pick : (v : Option Process) → find x l ≡ v → find x l ≡ none
      pick none e = e
      pick (some p) e = let q : x < high = (find_neat next x low high l p e o).1 in absurd (omega arith)

  -- A tag of a neat process; past the last there is 0.
  pub neat_tag : (next : ℕ) (p : Process) → 0 < next → Neat plan next p → (i : ℕ) → tag p i < next
  unfolding tag
  neat_tag next p pos n i = ltb-true (get_or p.tags i 0) next (all_at (λ t. ltb t next) p.tags i 0 n.tags (lt-ltb 0 next pos))

  -- ---- what the calls do with the list

  neat_later : (next later : ℕ) (p : Process) → next ≤ later → Neat plan next p → Neat plan later p
  neat_later next later p h n = record {
    template = n.template;
    label = n.label;
    tags = all_weaken (λ t. ltb t next) (λ t. ltb t later)
        (λ t e. lt-ltb t later (let q : t < next = ltb-true t next e in omega arith)) p.tags n.tags;
  }

  -- A later next serial is fine, and so are a lower start and a higher end;
  pub ordered_wider : (next later low low' high high' : ℕ) (l : List Process) → next ≤ later → low' ≤ low → high ≤ high'
      → Ordered plan next low l high → Ordered plan later low' l high'
  ordered_wider next later low low' high high' [] a b c o = omega arith
  ordered_wider next later low low' high high' (p ∷ l) a b c o = (
    let q : low ≤ p.serial = o.0 in omega arith,
    neat_later next later p a o.1,
    ordered_wider next later (suc p.serial) (suc p.serial) high high' l a (omega arith) c o.2,
  )

  -- a process goes;
  pub ordered_remove : (next s low high : ℕ) (l : List Process) → Ordered plan next low l high → Ordered plan next low (remove s l) high
  unfolding remove
  ordered_remove next s low high [] o = o
  ordered_remove next s low high (p ∷ l) o = pick (eqb p.serial s) (ordered_remove next s (suc p.serial) high l o.2)
    where
      pick : (b : Bool) → Ordered plan next (suc p.serial) (remove s l) high
          → Ordered plan next low (cond b (remove s l) (p ∷ remove s l)) high
      pick true k =
          ordered_wider next next (suc p.serial) low high high (remove s l)
          (omega arith) (let q : low ≤ p.serial = o.0 in omega arith) (omega arith) k
      pick false k = (o.0, o.1, k)

  -- others come after it;
  pub ordered_append : (next low mid high : ℕ) (l m : List Process)
      → Ordered plan next low l mid → Ordered plan next mid m high → Ordered plan next low (l ++ m) high
  ordered_append next low mid high [] m o r = ordered_wider next next mid low high high m (omega arith) o (omega arith) r
  ordered_append next low mid high (p ∷ l) m o r = (o.0, o.1, ordered_append next (suc p.serial) mid high l m o.2 r)

  -- one changes its label, to one within the plan's identifiers;
  pub ordered_relabel : (next s label low high : ℕ) → label < 2 ^ plan.identifiers → (l : List Process)
      → Ordered plan next low l high → Ordered plan next low (relabel s label l) high
  unfolding relabel
  ordered_relabel next s label low high h [] o = o
  ordered_relabel next s label low high h (p ∷ l) o = pick (eqb p.serial s) (ordered_relabel next s label (suc p.serial) high h l o.2)
    where
      pick : (c : Bool) → Ordered plan next (suc p.serial) (relabel s label l) high
          → Ordered plan next low (cond c (relabelled p label) p ∷ relabel s label l) high
      pick true k = (o.0, record { template = o.1.template; label = h; tags = o.1.tags }, k)
      pick false k = (o.0, o.1, k)

  -- and the children of p come, none of whose tags passes the limit.
  module _ (fits : plan_fits plan ≡ true) (p : Process) (limit : ℕ) (tags : (i : ℕ) → tag p i < limit) where
    -- A child is neat.
    neat_child : (c Y : ℕ) → c < limit → Y < plan.count → Neat plan limit (child plan p c Y)
    unfolding child
    neat_child c Y l h = record {
      template = h;
      label = lab_below plan fits Y h;
      tags = all_tabulate (λ t. ltb t limit) plan.identifiers (λ i. cond (creates plan i Y) c (tag p i))
          ∙ every_of plan.identifiers (λ i. ltb (cond (creates plan i Y) c (tag p i)) limit)
          (λ i k. lt-ltb (cond (creates plan i Y) c (tag p i)) limit (pick (creates plan i Y) (tags i)));
    }
      where
        pick : {t : ℕ} (b : Bool) → t < limit → cond b c t < limit
        pick true k = l
        pick false k = k

    -- All of them come in order.
    pub ordered_spawn : (next : ℕ) (templates : List ℕ) → next + length templates ≤ limit → ((Y : ℕ) → Among Y templates → Y < plan.count)
        → Ordered plan limit next (spawn plan p next templates) (next + length templates)
    unfolding spawn child
    ordered_spawn next [] h y = omega arith
    ordered_spawn next (Y ∷ rest) h y =
        let q : next + suc (length rest) ≡ suc next + length rest = omega arith in
        (omega arith, neat_child next Y (omega arith) (y Y (inl refl)), rw q (ordered_spawn (suc next) rest (omega arith) (λ Z a. y Z (inr a))))
