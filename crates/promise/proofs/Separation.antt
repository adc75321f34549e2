-- How two different processes stand to each other: their lineages part at a fork, or one is above the other. Of either
-- one fact is kept, for every test on templates: if the nearest processes that pass it are the same, then nothing
-- passes it where the lineages differ. With "creates t" this speaks of tags and with "is A" of kin, and no other
-- reasoning on serials is needed.
use Prim.Native.Nat.{ℕ, ◌≤◌, ◌<◌}
use native.Mathlib.Omega.{arith}
use mathlib.Core.Path.{◌≡◌, refl, sym, ap}
use mathlib.Core.Logic.{inl, inr}
use mathlib.Core.List.{List, [], ◌∷◌, ◌++◌}
use mathlib.Core.Bool.{Bool, true, false, cond}
use Rattle.plan.specs.declared.Form.{Form}
use Rattle.plan.specs.declared.Form.TheVariants.{End, Go, Either, Both}
use Rattle.plan.specs.declared.Plan.{Plan}
use Rattle.plan.specs.Plan.{at, Successor}
use Rattle.route.specs.Route.{Branches}
use Rattle.promise.specs.History.{Node}
use Rattle.promise.proofs.Lineage.{maker, On, Older, Lacking, Descent, maker_older, on_append, descent_child}

-- Two lineages part at a `both` process, with one of its children on each.
pub record Parting (plan : Plan) (lx ly : List Node) : Type 0 where
  pub fork : Node
  pub rest : List Node
  pub part_x : List Node
  pub part_y : List Node
  pub X : ℕ
  pub Y : ℕ
  pub split_x : lx ≡ part_x ++ (fork ∷ rest)
  pub split_y : ly ≡ part_y ++ (fork ∷ rest)
  pub descent_x : Descent plan X part_x
  pub descent_y : Descent plan Y part_y
  pub root : Descent plan 0 (fork ∷ rest)
  pub branches : Branches (at plan fork.template).form X Y
  pub same : (test : ℕ → Bool) → maker test lx ≡ maker test ly → Lacking test part_x × Lacking test part_y

-- The process of lx is above that of ly: its parent, that one's parent and so on.
pub record Over (plan : Plan) (lx ly : List Node) : Type 0 where
  pub part : List Node
  pub X : ℕ
  pub split : ly ≡ part ++ lx
  pub descent : Descent plan X part
  pub top : Node
  pub rest : List Node
  pub begins : lx ≡ top ∷ rest
  pub edge : Successor plan top.template X
  pub same : (test : ℕ → Bool) → maker test lx ≡ maker test ly → Lacking test part

-- Two processes stand in one of these ways to each other.
pub data Separated (plan : Plan) (lx ly : List Node) : Type 0 where
  parted : Parting plan lx ly → Separated plan lx ly
  over : Over plan lx ly → Separated plan lx ly
  under : Over plan ly lx → Separated plan lx ly

branches_swap : (form : Form) (X Y : ℕ) → Branches form X Y → Branches form Y X
branches_swap End X Y b = b
branches_swap (Go A) X Y b = b
branches_swap (Either A B) X Y b = b
branches_swap (Both A B) X Y (inl e) = inr (e.1, e.0)
branches_swap (Both A B) X Y (inr e) = inl (e.1, e.0)

-- The same seen from the other.
pub swap : {plan : Plan} {lx ly : List Node} → Separated plan lx ly → Separated plan ly lx
swap {plan} (parted a) = parted (record {
  fork = a.fork;
  rest = a.rest;
  part_x = a.part_y;
  part_y = a.part_x;
  X = a.Y;
  Y = a.X;
  split_x = a.split_y;
  split_y = a.split_x;
  descent_x = a.descent_y;
  descent_y = a.descent_x;
  root = a.root;
  branches = branches_swap (at plan a.fork.template).form a.X a.Y a.branches;
  same = λ test e. let r = a.same test (sym e) in (r.1, r.0);
})
swap (over a) = under a
swap (under a) = over a

-- The upper of two processes stands on the lineage of the lower.
pub over_on : (plan : Plan) (n k : Node) (l ly : List Node) → Over plan (n ∷ l) (k ∷ ly) → On n.serial ly
over_on plan n k l ly a = pick a.part a.split a.descent
  where
    pick : (part : List Node) → k ∷ ly ≡ part ++ (n ∷ l) → Descent plan a.X part → On n.serial ly
    pick [] e g = absurd g
    pick (j ∷ part) e g = let q : ly ≡ part ++ (n ∷ l) = cc in rw q (on_append n.serial part (n ∷ l) (inl refl))

-- ---- a child is born: n, of the process m, with a serial that is greater than all before

module _ (plan : Plan) (n m : Node) (l : List Node) (limit : ℕ) (pos : 0 < limit) (fresh : limit ≤ n.serial)
    (edge : Successor plan m.template n.template) where
  -- Its nearest is an old serial only if its own template fails the test.
  fresh_maker : (test : ℕ → Bool) (ly : List Node) → Older limit ly → maker test (n ∷ (m ∷ l)) ≡ maker test ly
      → (test n.template ≡ false) × (maker test (m ∷ l) ≡ maker test ly)
  fresh_maker test ly b e = step (test n.template) refl e
    where
      step : (c : Bool) → test n.template ≡ c → cond c n.serial (maker test (m ∷ l)) ≡ maker test ly
          → (test n.template ≡ false) × (maker test (m ∷ l) ≡ maker test ly)
      step true t e = let q : maker test ly < limit = maker_older test limit ly pos b in absurd (omega arith)
      step false t e = (t, e)

  parting_child : (ly : List Node) → Older limit ly → Parting plan (m ∷ l) ly → Parting plan (n ∷ (m ∷ l)) ly
  parting_child ly b a = record {
    fork = a.fork;
    rest = a.rest;
    part_x = n ∷ a.part_x;
    part_y = a.part_y;
    X = a.X;
    Y = a.Y;
    split_x = ap (λ (k : List Node). n ∷ k) a.split_x;
    split_y = a.split_y;
    descent_x = descent_child plan a.X n m l a.part_x (a.fork ∷ a.rest) a.split_x a.descent_x edge;
    descent_y = a.descent_y;
    root = a.root;
    branches = a.branches;
    same = λ test e. let r = fresh_maker test ly b e in let s = a.same test r.1 in ((r.0, s.0), s.1);
  }

  over_child : (ly : List Node) → Older limit ly → Over plan ly (m ∷ l) → Over plan ly (n ∷ (m ∷ l))
  over_child ly b a = record {
    part = n ∷ a.part;
    X = a.X;
    split = ap (λ (k : List Node). n ∷ k) a.split;
    descent = descent_child plan a.X n m l a.part ly a.split a.descent edge;
    top = a.top;
    rest = a.rest;
    begins = a.begins;
    edge = a.edge;
    same = λ test e. let r = fresh_maker test ly b (sym e) in (r.0, a.same test (sym r.1));
  }

  -- Its parent is above it.
  pub parent_over : Older limit (m ∷ l) → Over plan (m ∷ l) (n ∷ (m ∷ l))
  parent_over b = record {
    part = n ∷ [];
    X = n.template;
    split = refl;
    descent = refl;
    top = m;
    rest = l;
    begins = refl;
    edge = edge;
    same = λ test e. let r = fresh_maker test (m ∷ l) b (sym e) in (r.0, tt);
  }

  -- It is separated from every process from which its parent is; the caller speaks for those below the parent.
  pub child_separated : (ly : List Node) → Older limit ly → (Over plan (m ∷ l) ly → Separated plan (n ∷ (m ∷ l)) ly)
      → Separated plan (m ∷ l) ly → Separated plan (n ∷ (m ∷ l)) ly
  child_separated ly b h (parted a) = parted (parting_child ly b a)
  child_separated ly b h (over a) = h a
  child_separated ly b h (under a) = under (over_child ly b a)

-- Two children n and n' of one `both` process m part at it.
pub siblings : (plan : Plan) (n n' m : Node) (l : List Node) (limit : ℕ) → 0 < limit → limit ≤ n.serial → n.serial < n'.serial
    → Older limit (m ∷ l) → Descent plan 0 (m ∷ l) → Branches (at plan m.template).form n.template n'.template
    → Parting plan (n ∷ (m ∷ l)) (n' ∷ (m ∷ l))
siblings plan n n' m l limit pos fresh lt b root br = record {
  fork = m;
  rest = l;
  part_x = n ∷ [];
  part_y = n' ∷ [];
  X = n.template;
  Y = n'.template;
  split_x = refl;
  split_y = refl;
  descent_x = refl;
  descent_y = refl;
  root = root;
  branches = br;
  same = λ test e. step test (test n.template) refl (test n'.template) refl e;
}
  where
    step : (test : ℕ → Bool) (c : Bool) → test n.template ≡ c → (d : Bool) → test n'.template ≡ d
        → cond c n.serial (maker test (m ∷ l)) ≡ cond d n'.serial (maker test (m ∷ l))
        → Lacking test (n ∷ []) × Lacking test (n' ∷ [])
    step test true t true u e = absurd (omega arith)
    step test true t false u e = let q : maker test (m ∷ l) < limit = maker_older test limit (m ∷ l) pos b in absurd (omega arith)
    step test false t true u e = let q : maker test (m ∷ l) < limit = maker_older test limit (m ∷ l) pos b in absurd (omega arith)
    step test false t false u e = ((t, tt), (u, tt))
