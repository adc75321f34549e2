-- Rules 12 to 16 by masks: the lowest item of each row's mask below the limit is the verdict's identifier, and the rows
-- asked one after the other are the table.
use Prim.Native.Nat.{ℕ}
use mathlib.Core.Path.{◌≡◌, refl, sym, ap, ap₂, subst, ◌∙◌, fun_ext}
use mathlib.Core.Bool.{Bool, cond}
use lib.Dec.{ltb}
use borrow.Author.Tests.{lt-ltb, le-ltb}
use Rattle.std.specs.Prelude.{Option, Some, None, Result, Ok, Err, IsErrAnd}
use Rattle.lists.specs.Numbers.{lowest}
use Rattle.mask.specs.Mask.{has}
use Rattle.mask.specs.Sets.{Marks}
use Rattle.plan.specs.declared.Template.{Template}
use Rattle.plan.specs.declared.Plan.{Plan}
use Rattle.plan.specs.Plan.{at}
use Rattle.rules.specs.declared.Breach.{Breach}
use Rattle.rules.specs.declared.Verdict.{Verdict}
use Rattle.rules.specs.declared.Verdict.TheVariants.{Accepted}
use Rattle.rules.specs.Judge.{edge_rules, broken, or_else, first_in, lowest_offender, check_edge, offends12, offends13, offends14, offends15, offends16}
use Rattle.rules.specs.Broken.{answered}
use Rattle.rules.proofs.Walk.{or_stops, or_goes}
use Rattle.offenders.specs.Lowest.{lowest_of}
use Rattle.offenders.proofs.Masks.{some_lowest, none_lowest}

-- ---- one rule

module _ (limit m rule X Y : ℕ) (o : Option ℕ) (e : o ≡ lowest_of limit (λ j. has j m)) where
  abbrev asked : ℕ → Bool → Verdict
  asked j b = cond b (broken rule X Y j) Accepted

  pub rule_kept : o ≡ None → Accepted ≡ lowest_offender limit rule X Y (λ j. has j m)
  unfolding lowest_offender
  rule_kept h = sym (ap (asked (lowest limit (λ j. has j m))) (le-ltb _ limit (none_lowest limit (λ j. has j m) o e h)))

  pub rule_broken : (i : ℕ) → o ≡ Some i → broken rule X Y i ≡ lowest_offender limit rule X Y (λ j. has j m)
  unfolding lowest_offender
  rule_broken i h =
      let w = some_lowest limit (λ j. has j m) o e i h in
      sym (ap (λ (j : ℕ). asked j (ltb j limit)) (sym w.0) ∙ ap (asked i) (lt-ltb i limit w.1))

-- ---- the table

-- A row asked by its mask m, of which r is the answer, and what the code makes of it with `?`: s is its breach, or else it goes on.
pub record Asked (limit : ℕ) (a b : Template) (X Y number : ℕ) (offends : ℕ → Template → Template → ℕ → Bool) (s : Result (Unit {0}) Breach) (next : Type 0)
    : Type 0 where
  pub m : ℕ
  pub r : Result (Unit {0}) Breach
  pub marks : Marks m (offends a.lab a b)
  pub answer : answered r ≡ lowest_offender limit number X Y (λ i. has i m)
  pub stops : (d : Breach) → r ≡ Err d → IsErrAnd s (λ e. e ≡ d)
  pub goes : (u : Unit {0}) → r ≡ Ok u → next

-- The row is broken, and the code stops there, or it holds, and the code goes on;
module _ (limit : ℕ) (a b : Template) (X Y number : ℕ) (offends : ℕ → Template → Template → ℕ → Bool) (s : Result (Unit {0}) Breach) (next : Type 0) (m : ℕ)
    (marks : Marks m (offends a.lab a b)) (r : Result (Unit {0}) Breach) (answer : answered r ≡ lowest_offender limit number X Y (λ i. has i m)) where
  pub row_stops : (d : Breach) → r ≡ Err d → IsErrAnd s (λ e. e ≡ d) → Asked limit a b X Y number offends s next
  row_stops d q k = record {
    m = m;
    r = r;
    marks = marks;
    answer = answer;
    stops = λ e h. let p : d ≡ e = cc in subst (λ (w : Breach). IsErrAnd s (λ x. x ≡ w)) p k;
    goes = λ u h. absurd (cc);
  }

  pub row_goes : (u : Unit {0}) → r ≡ Ok u → next → Asked limit a b X Y number offends s next
  row_goes u q n = record {
    m = m;
    r = r;
    marks = marks;
    answer = answer;
    stops = λ d h. absurd (cc);
    goes = λ v h. n;
  }

-- and of the last row the answer is what is handed on.
pub row_ends : (limit : ℕ) (a b : Template) (X Y number : ℕ) (offends : ℕ → Template → Template → ℕ → Bool) (s : Result (Unit {0}) Breach) (m : ℕ)
    → Marks m (offends a.lab a b) → answered s ≡ lowest_offender limit number X Y (λ i. has i m)
    → Asked limit a b X Y number offends s (answered s ≡ Accepted)
row_ends limit a b X Y number offends s m marks answer = record {
  m = m;
  r = s;
  marks = marks;
  answer = answer;
  stops = λ d q. rw q refl;
  goes = λ u q. ap answered q;
}

module _ (limit : ℕ) (a b : Template) (X Y : ℕ) (s : Result (Unit {0}) Breach) where
  -- The rows asked one after the other.
  abbrev pub InOrder : Type 0
  InOrder =
      Asked limit a b X Y 12 offends12 s
      (Asked limit a b X Y 13 offends13 s
      (Asked limit a b X Y 14 offends14 s
      (Asked limit a b X Y 15 offends15 s
      (Asked limit a b X Y 16 offends16 s (answered s ≡ Accepted)))))

  turn_of : (r : Result (Unit {0}) Breach) (v rest : Verdict) → answered r ≡ v → ((d : Breach) → r ≡ Err d → IsErrAnd s (λ e. e ≡ d))
      → ((u : Unit {0}) → r ≡ Ok u → answered s ≡ rest) → answered s ≡ or_else v rest
  turn_of (Ok u) v rest e stops goes = goes u refl ∙ or_goes (Ok u) v rest u e refl
  turn_of (Err d) v rest e stops goes = or_stops (Err d) v rest d e refl s (stops d refl)

  turn : (number : ℕ) (offends : ℕ → Template → Template → ℕ → Bool) (next : Type 0) (rest : Verdict)
      → (next → answered s ≡ rest) → Asked limit a b X Y number offends s next
      → answered s ≡ or_else (lowest_offender limit number X Y (offends a.lab a b)) rest
  turn number offends next rest k h =
      turn_of h.r _ rest (h.answer ∙ ap (lowest_offender limit number X Y) (fun_ext h.marks)) h.stops (λ u q. k (h.goes u q))

  -- They are the table,
  pub table_asked : InOrder → answered s ≡ first_in edge_rules (λ r. lowest_offender limit r.number X Y (r.offends a.lab a b))
  unfolding edge_rules first_in
  table_asked = turn 12 offends12 _ _ (turn 13 offends13 _ _ (turn 14 offends14 _ _ (turn 15 offends15 _ _ (turn 16 offends16 _ _ (λ e. e)))))

-- and of the templates of a plan its check.
pub rows_asked : (plan : Plan) (X Y : ℕ) (a b : Template) (s : Result (Unit {0}) Breach) → a ≡ at plan X → b ≡ at plan Y
    → InOrder plan.identifiers a b X Y s → answered s ≡ check_edge plan X Y
unfolding check_edge
rows_asked plan X Y a b s ea eb h =
    table_asked plan.identifiers a b X Y s h
    ∙ ap₂ (λ (x y : Template). first_in edge_rules (λ r. lowest_offender plan.identifiers r.number X Y (r.offends x.lab x y))) ea eb
