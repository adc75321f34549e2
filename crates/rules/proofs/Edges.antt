-- Rules 12 to 16: a check is accepted exactly when the rows of the table hold, and where it is broken the row that it names
-- is the first that fails, at the lowest identifier.
use Prim.Native.Nat.{ℕ, ◌<◌}
use mathlib.Core.Path.{◌≡◌, refl, sym, ap, ◌∙◌}
use mathlib.Core.List.{List, [], ◌∷◌, map}
use mathlib.Core.Bool.{Bool, true, false, not, cond, ◌&&◌, ◌||◌}
use lib.Dec.{ltb}
use borrow.Author.Tests.{ltb-true, lt-ltb}
use Rattle.lists.specs.Numbers.{any, lowest}
use Rattle.lists.proofs.Every.{any_at, any_of}
use Rattle.lists.proofs.Lowest.{lowest-holds, lowest-below, lowest_any, lowest_is}
use Rattle.plan.specs.declared.Plan.{Plan}
use Rattle.plan.specs.Plan.{at, successors, Successor}
use Rattle.rules.specs.Rules.{Kept, Each, RowHolds, EdgeRules}
use Rattle.rules.specs.Judge.{Breach, Verdict, Accepted, Broken, first_in, lowest_offender, EdgeRule, edge_rules, step_rules, check_edge, check_edges}
use Rattle.rules.specs.Broken.{breach, Lowest, EdgeBroken, EarlierEdges}
use Rattle.rules.proofs.Walk.{Decided, test_accepted, test_broken, test_decided, below_each, below_all, below_stop, below_decided, below_broken, each_map, each_among, among_each, in_broken, in_each, in_all, in_stop, in_decided}

-- ---- the rows' numbers

-- One of five: a number is a row's.
pub some-row : (a b c d e : Bool) → ((((a || b) || c) || d) || e) ≡ not (not a && (not b && (not c && (not d && (not e && true)))))
some-row true b c d e = refl
some-row false true c d e = refl
some-row false false true d e = refl
some-row false false false true e = refl
some-row false false false false true = refl
some-row false false false false false = refl

-- ---- the lowest offender

module _ (plan : Plan) (rule X Y : ℕ) (offends : ℕ → Bool) where
  none_found : any plan.identifiers offends ≡ false → lowest_offender plan.identifiers rule X Y offends ≡ Accepted
  unfolding lowest_offender
  none_found e = ap (λ (c : Bool). cond c (Broken (breach rule X Y (lowest plan.identifiers offends))) Accepted) (lowest_any plan.identifiers offends ∙ e)

  offender_kept : lowest_offender plan.identifiers rule X Y offends ≡ Accepted → Kept plan offends
  unfolding lowest_offender
  offender_kept e = any_at plan.identifiers offends (sym (lowest_any plan.identifiers offends) ∙ test_accepted (ltb (lowest plan.identifiers offends) plan.identifiers) _ e)

  kept_offender : Kept plan offends → lowest_offender plan.identifiers rule X Y offends ≡ Accepted
  kept_offender k = none_found (any_of plan.identifiers offends k)

  offender_found : (b : Breach) → lowest_offender plan.identifiers rule X Y offends ≡ Broken b → (i : ℕ) × Lowest plan offends i × (breach rule X Y i ≡ b)
  unfolding lowest_offender
  offender_found b e =
      let r = test_broken (ltb (lowest plan.identifiers offends) plan.identifiers) (breach rule X Y (lowest plan.identifiers offends)) b e in
      let l = ltb-true (lowest plan.identifiers offends) plan.identifiers r.0 in
      (lowest plan.identifiers offends, record { identifier = l; breaks = lowest-holds plan.identifiers offends l; lowest = lowest-below plan.identifiers offends }, r.1)

  found_offender : (i : ℕ) → Lowest plan offends i → lowest_offender plan.identifiers rule X Y offends ≡ Broken (breach rule X Y i)
  unfolding lowest_offender
  found_offender i l =
      let e : lowest plan.identifiers offends ≡ i = lowest_is plan.identifiers offends i l.identifier l.breaks l.lowest in
      ap (λ (j : ℕ). cond (ltb j plan.identifiers) (Broken (breach rule X Y j)) Accepted) e
      ∙ ap (λ (c : Bool). cond c (Broken (breach rule X Y i)) Accepted) (lt-ltb i plan.identifiers l.identifier)

  offender_decided : Decided (lowest_offender plan.identifiers rule X Y offends)
  unfolding lowest_offender
  offender_decided = test_decided (ltb (lowest plan.identifiers offends) plan.identifiers) _

-- ---- the rows of the table, on one edge

module _ (plan : Plan) (X Y : ℕ) where
  -- What an identifier does against a row, and the row's verdict.
  abbrev pub offends_as : EdgeRule → ℕ → Bool
  offends_as r = r.offends (at plan X).lab (at plan X) (at plan Y)

  abbrev pub asked : EdgeRule → Verdict
  asked r = lowest_offender plan.identifiers r.number X Y (offends_as r)

  rows_hold : (rows : List EdgeRule) → Each (λ r. asked r ≡ Accepted) rows → Each (RowHolds plan X Y) rows
  rows_hold = each_map (λ r. offender_kept plan r.number X Y (offends_as r))

  hold_rows : (rows : List EdgeRule) → Each (RowHolds plan X Y) rows → Each (λ r. asked r ≡ Accepted) rows
  hold_rows = each_map (λ r. kept_offender plan r.number X Y (offends_as r))

  pub edge_rules_lem : check_edge plan X Y ≡ Accepted → EdgeRules plan X Y
  unfolding check_edge
  edge_rules_lem e = rows_hold edge_rules (in_each edge_rules asked e)

  pub rules_edge : EdgeRules plan X Y → check_edge plan X Y ≡ Accepted
  unfolding check_edge
  rules_edge r = in_all edge_rules asked (hold_rows edge_rules r)

  pub edge_broken : (b : Breach) → check_edge plan X Y ≡ Broken b → EdgeBroken plan X Y b
  unfolding check_edge
  edge_broken b e =
      let s = in_stop edge_rules asked b e in
      let found = offender_found plan s.element.number X Y (offends_as s.element) b s.there in
      record {
        before = s.before;
        row = s.element;
        after = s.after;
        order = s.split;
        earlier = rows_hold s.before s.earlier;
        identifier = found.0;
        lowest = found.1;
        named = found.2;
      }

  pub broken_edge : (b : Breach) → EdgeBroken plan X Y b → check_edge plan X Y ≡ Broken b
  unfolding check_edge
  broken_edge b k =
      ap (λ (rows : List EdgeRule). first_in rows asked) k.order
      ∙ in_broken k.before k.row k.after asked b (hold_rows k.before k.earlier)
      (found_offender plan k.row.number X Y (offends_as k.row) k.identifier k.lowest ∙ ap Broken k.named)

  pub edge_decided : Decided (check_edge plan X Y)
  unfolding check_edge
  edge_decided = in_decided edge_rules asked (λ r. offender_decided plan r.number X Y (offends_as r))

-- The rows are document 01's: "12 to 16" and "12, 13, 16".
pub rows_are : (map (λ (r : EdgeRule). r.number) edge_rules ≡ 12 ∷ 13 ∷ 14 ∷ 15 ∷ 16 ∷ []) × (map (λ (r : EdgeRule). r.number) step_rules ≡ 12 ∷ 13 ∷ 16 ∷ [])
unfolding edge_rules step_rules
rows_are = (refl, refl)

-- What a step asks stands in the table.
pub step_rows : (P : EdgeRule → Type 0) → Each P edge_rules → Each P step_rules
unfolding edge_rules step_rules
step_rows P e = (e.0, (e.1.0, (e.1.1.1.1.0, tt)))

-- ---- all edges

module _ (plan : Plan) where
  abbrev from : ℕ → Verdict
  from X = first_in (successors (at plan X).form) (check_edge plan X)

  from_rules : (X : ℕ) → from X ≡ Accepted → (Y : ℕ) → Successor plan X Y → EdgeRules plan X Y
  from_rules X e =
      each_among (EdgeRules plan X) (successors (at plan X).form)
      (each_map (edge_rules_lem plan X) (successors (at plan X).form) (in_each (successors (at plan X).form) (check_edge plan X) e))

  rules_from : (X : ℕ) → ((Y : ℕ) → Successor plan X Y → EdgeRules plan X Y) → from X ≡ Accepted
  rules_from X r =
      in_all (successors (at plan X).form) (check_edge plan X)
      (among_each (λ Y. check_edge plan X Y ≡ Accepted) (successors (at plan X).form) (λ Y s. rules_edge plan X Y (r Y s)))

  pub edges_rules : check_edges plan ≡ Accepted → (X Y : ℕ) → X < plan.count → Successor plan X Y → EdgeRules plan X Y
  unfolding check_edges
  edges_rules e X Y l = from_rules X (below_each plan.count from e X l) Y

  pub rules_edges : ((X Y : ℕ) → X < plan.count → Successor plan X Y → EdgeRules plan X Y) → check_edges plan ≡ Accepted
  unfolding check_edges
  rules_edges r = below_all plan.count from (λ X l. rules_from X (λ Y. r X Y l))

  pub edges_broken : (b : Breach) → check_edges plan ≡ Broken b → (X Y : ℕ) × EarlierEdges plan X Y × EdgeBroken plan X Y b
  unfolding check_edges
  edges_broken b e =
      let o = below_stop plan.count from b e in
      let X = o.place in
      let i = in_stop (successors (at plan X).form) (check_edge plan X) b o.there in (
        X,
        i.element,
        record {
          inside = o.inside;
          lower = λ W Z l. from_rules W (o.earlier W l) Z;
          before = i.before;
          after = i.after;
          order = i.split;
          same = each_map (edge_rules_lem plan X) i.before i.earlier;
        },
        edge_broken plan X i.element b i.there,
      )

  pub broken_edges : (X Y : ℕ) (b : Breach) → EarlierEdges plan X Y → EdgeBroken plan X Y b → check_edges plan ≡ Broken b
  unfolding check_edges
  broken_edges X Y b e k =
      below_broken plan.count from X b e.inside (λ W l. rules_from W (λ Z. e.lower W Z l))
      (ap (λ (l : List ℕ). first_in l (check_edge plan X)) e.order
      ∙ in_broken e.before Y e.after (check_edge plan X) b (each_map (rules_edge plan X) e.before e.same) (broken_edge plan X Y b k))

  pub edges_decided : Decided (check_edges plan)
  unfolding check_edges
  edges_decided = below_decided plan.count from (λ X. in_decided (successors (at plan X).form) (check_edge plan X) (edge_decided plan X))
