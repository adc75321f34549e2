-- Rules 12 to 16 are their sentences: no identifier offends against a row exactly when the masks stand as its sentence says,
-- and an edge is broken with the number of the first sentence that fails.
use Prim.Native.Nat.{ℕ, ◌^◌, ◌<◌}
use mathlib.Core.Path.{◌≡◌, refl, sym, ap, ◌∙◌}
use mathlib.Core.Logic.{◌↔◌}
use mathlib.Core.Bool.{Bool, true, false, not, cond, ◌&&◌, ◌||◌, and-true}
use mathlib.Core.List.{List, [], ◌∷◌, map}
use mathlib.Core.Option.{Option, some}
use native.Mathlib.Nat.{lt_of_le_of_lt}
use lib.Dec.{ltb}
use lib.Bits.{bit_and, and_le_l}
use borrow.Author.Tests.{not-true}
use Rattle.lists.specs.Numbers.{every, lowest}
use Rattle.lists.proofs.Tests.{fails, passes_fails}
use Rattle.lists.proofs.Every.{every_at, every_of, every_ext, any_every}
use Rattle.lists.proofs.Lowest.{lowest_any}
use Rattle.mask.specs.Mask.{has, without}
use Rattle.mask.specs.Sets.{within}
use Rattle.mask.proofs.Items.{has_or, has_and, has-without, has_none}
use Rattle.mask.proofs.Width.{within_has, empty}
use Rattle.plan.specs.declared.Template.{Template}
use Rattle.plan.specs.declared.Plan.{Plan}
use Rattle.plan.specs.Plan.{at}
use Rattle.rules.specs.Rules.{Each, RowHolds}
use Rattle.rules.specs.Judge.{Breach, Verdict, Accepted, Broken, or_else, first_in, lowest_offender, offends12, offends13, offends14, offends15, offends16, EdgeRule, edge_rules, step_rules, check_edge}
use Rattle.rules.specs.Broken.{breach}
use Rattle.rules.specs.Sentences.{union, share_nothing, sentence12, sentence13, sentence14, sentence15, sentence16, sentence, first_failing, rule_of}
use Rattle.rules.proofs.Edges.{offends_as, asked, step_rows}

-- ---- a row and its sentence

-- No identifier below M offends.
abbrev pub none_offends : ℕ → (ℕ → Bool) → Bool
none_offends M offends = every M (λ i. not (offends i))

-- Where to offend is to be in a and not in b, that none does is that a is within b.
said : (M a b : ℕ) (offends : ℕ → Bool) → ((i : ℕ) → offends i ≡ (has i a && not (has i b))) → none_offends M offends ≡ within M a b
unfolding within
said M a b offends e = every_ext M (λ i. not (offends i)) (λ i. not (has i a) || has i b) (λ i h. ap not (e i) ∙ unless (has i a) (has i b))
  where
    unless : (p q : Bool) → not (p && not q) ≡ (not p || q)
    unless true true = refl
    unless true false = refl
    unless false q = refl

-- "a within b plus c", "a minus b within c", "a and b share nothing".
module _ (M a b c : ℕ) where
  plus_said : none_offends M (λ i. has i a && not (has i b || has i c)) ≡ within M a (union b c)
  plus_said = said M a (union b c) _ (λ i. ap (λ (t : Bool). has i a && not t) (sym (has_or i b c)))

  minus_said : none_offends M (λ i. (has i a && not (has i b)) && not (has i c)) ≡ within M (without a b) c
  minus_said = said M (without a b) c _ (λ i. ap (λ (t : Bool). t && not (has i c)) (sym (has-without i a b)))

nothing_said : (M a b : ℕ) → none_offends M (λ i. has i a && has i b) ≡ share_nothing M a b
nothing_said M a b =
    said M (bit_and a b) 0 _ (λ i. sym (has_and i a b) ∙ sym (and-true (has i (bit_and a b))) ∙ ap (λ (t : Bool). has i (bit_and a b) && not t) (sym (has_none i)))

-- Row by row.
module _ (M lab : ℕ) (X Y : Template) where
  says12 : none_offends M (offends12 lab X Y) ≡ sentence12 M lab X Y
  says12 = plus_said M Y.lab lab Y.pos

  says13 : none_offends M (offends13 lab X Y) ≡ sentence13 M lab X Y
  says13 = minus_said M lab Y.neg Y.lab

  says14 : none_offends M (offends14 lab X Y) ≡ sentence14 M lab X Y
  says14 = plus_said M Y.pos X.pos Y.creates

  says15 : none_offends M (offends15 lab X Y) ≡ sentence15 M lab X Y
  says15 = plus_said M Y.neg X.neg Y.creates

  says16 : none_offends M (offends16 lab X Y) ≡ sentence16 M lab X Y
  says16 = nothing_said M Y.creates lab

-- A row says the sentence of its number.
abbrev pub Says : EdgeRule → Type 0
Says r = (M lab : ℕ) (X Y : Template) → none_offends M (r.offends lab X Y) ≡ sentence r.number M lab X Y

-- So do all rows of the table, and those that a step asks.
pub rows_say : Each Says edge_rules
unfolding edge_rules sentence
rows_say = (says12, (says13, (says14, (says15, (says16, tt)))))

pub step_rows_say : Each Says step_rules
step_rows_say = step_rows Says rows_say

-- Masks of width M that share nothing below M share nothing at all.
pub shared_none : (M a b : ℕ) → a < 2 ^ M → share_nothing M a b ≡ true → bit_and a b ≡ 0
shared_none M a b h e =
    empty M (bit_and a b) (lt_of_le_of_lt (and_le_l a b) h) (λ i l. fails (has i (bit_and a b)) (λ q. passes_fails (has i 0) (within_has M (bit_and a b) 0 e i l q) (has_none i)))

-- ---- on an edge

found_rule : (c : Bool) (b : Breach) (later : Verdict) → rule_of (or_else (cond c (Broken b) Accepted) later) ≡ cond (not c) (rule_of later) (some b.rule)
unfolding rule_of or_else
found_rule true b later = refl
found_rule false b later = refl

module _ (plan : Plan) (X Y : ℕ) where
  -- The sentence of a number on this edge.
  abbrev pub holds : ℕ → Bool
  holds number = sentence number plan.identifiers (at plan X).lab (at plan X) (at plan Y)

  -- A row holds exactly when its sentence does.
  pub row-holds : (r : EdgeRule) → Says r → RowHolds plan X Y r ↔ (holds r.number ≡ true)
  row-holds r says =
      let M = plan.identifiers in
      let e = says M (at plan X).lab (at plan X) (at plan Y) in (
        λ kept. sym e ∙ every_of M (λ i. not (offends_as plan X Y r i)) (λ i h. ap not (kept i h)),
        λ h i l. not-true (offends_as plan X Y r i) (every_at M (λ i. not (offends_as plan X Y r i)) (e ∙ h) i l),
      )

  asked_rule : (r : EdgeRule) → Says r → (later : Verdict)
      → rule_of (or_else (asked plan X Y r) later) ≡ cond (holds r.number) (rule_of later) (some r.number)
  unfolding lowest_offender
  asked_rule r says later =
      let M = plan.identifiers in
      found_rule (ltb (lowest M (offends_as plan X Y r)) M) (breach r.number X Y (lowest M (offends_as plan X Y r))) later
      ∙ ap (λ (c : Bool). cond c (rule_of later) (some r.number))
      (ap not (lowest_any M (offends_as plan X Y r) ∙ any_every M (offends_as plan X Y r)) ∙ twice (none_offends M (offends_as plan X Y r)) ∙ says M (at plan X).lab (at plan X) (at plan Y))
    where
      twice : (c : Bool) → not (not c) ≡ c
      twice true = refl
      twice false = refl

  rows_rule : (rows : List EdgeRule) → Each Says rows
      → rule_of (first_in rows (asked plan X Y)) ≡ first_failing holds (map (λ (r : EdgeRule). r.number) rows)
  unfolding first_in first_failing rule_of
  rows_rule [] says = refl
  rows_rule (r ∷ rows) says =
      asked_rule r says.0 _ ∙ ap (λ (o : Option ℕ). cond (holds r.number) o (some r.number)) (rows_rule rows says.1)

  -- The rule that an edge is broken with is the first of 12 to 16 whose sentence fails.
  pub edge_rule : rule_of (check_edge plan X Y) ≡ first_failing holds (12 ∷ 13 ∷ 14 ∷ 15 ∷ 16 ∷ [])
  unfolding check_edge edge_rules
  edge_rule = rows_rule edge_rules rows_say
