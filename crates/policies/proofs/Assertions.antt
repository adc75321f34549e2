-- The assertions of a policy in their row: the turns of the loop over them, and its ends.
use Prim.Native.Nat.{ℕ, ◌+◌, ◌≤◌, ◌<◌}
use mathlib.Core.Path.{◌≡◌, subst, ◌∙◌}
use mathlib.Core.List.{List, ◌++◌}
use lib.ListN.{length, set, take, drop, replicate}
use Rattle.std.proofs.lemmas.List.{length-set, length-take-le, set-append_left, take-append-drop}
use Rattle.std.specs.Prelude.{Result, Ok, Err, IsErrAnd}
use Rattle.plan.specs.declared.Assertion.{Assertion}
use Rattle.plan.specs.Plan.{blank_assertion}
use Rattle.text.specs.Reading.{Cursor, assertion}
use Rattle.text.specs.Cursors.{Gives}
use Rattle.text.specs.declared.Refused.{Refused}
use Rattle.text.proofs.Opening.{gives_value, gives_stop, handed_on, read_on}
use Rattle.text.proofs.Passed.{assertion-passes}
use Rattle.reader.proofs.Filling.{Turn, turn_first, turn_next, turn_stop, turn_last}
use Rattle.policies.specs.Rows.{assertion_row}

-- After i assertions: the part of the row that the loop writes, and what is left to fill with the places after that part.
pub record Listing (N K : ℕ) (c₀ : Cursor) (part : List Assertion) (c : Cursor) (i : ℕ) : Type 0 where
  pub size : length part ≡ K
  pub turn : Turn {S = Unit {0}} (λ u. assertion N) (λ u a. u) (λ a. a) tt (replicate 32 blank_assertion) K c₀ tt (part ++ drop K (replicate 32 blank_assertion)) c i

module _ (N K : ℕ) (c₀ : Cursor) where
  abbrev blanks : List Assertion
  blanks = replicate 32 blank_assertion

  pub listing_first : K ≤ 32 → (a : Assertion) → a ≡ blank_assertion → Listing N K c₀ (take K (replicate 32 a)) c₀ 0
  listing_first h a e = record {
    size = length-take-le K (replicate 32 a) h;
    turn = rw (e, take-append-drop K blanks) (turn_first {S = Unit {0}} (λ u. assertion N) (λ u a. u) (λ a. a) tt blanks K c₀);
  }

  module _ (part : List Assertion) (c : Cursor) (i : ℕ) (so-far : Listing N K c₀ part c i) where
    abbrev row : List Assertion
    row = part ++ drop K blanks

    module _ (r : Result Assertion Refused) (d : Cursor) (g : Gives (λ a. a) (assertion N c) d r) (h : i < length part) where
      inside : i < K
      inside = subst (λ (n : ℕ). i < n) so-far.size h

      pub listing_next : (a : Assertion) → r ≡ Ok a → Listing N K c₀ (set part i a) d (i + 1)
      listing_next a e = record {
        size = length-set part i a ∙ so-far.size;
        turn = subst (λ (x : List Assertion). Turn {S = Unit {0}} (λ u. assertion N) (λ u a. u) (λ a. a) tt blanks K c₀ tt x d (i + 1))
            (set-append_left part (drop K blanks) i a h)
            (turn_next {S = Unit {0}} (λ u. assertion N) (λ u a. u) (λ a. a) tt blanks K c₀ tt row c i so-far.turn inside a d (gives_value (λ a. a) _ d r g a e));
      }

      pub listing_stop : (e : Refused) → r ≡ Err e → (next : Cursor) (x : Result (List Assertion) Refused) → IsErrAnd x (λ w. w ≡ e)
          → Gives (λ row. row) (assertion_row N K c₀) next x
      listing_stop e q next x k =
          handed_on (λ row. row) _ next x e
          (turn_stop {S = Unit {0}} (λ u. assertion N) (λ u a. u) (λ a. a) tt blanks K c₀ tt row c i so-far.turn
          (λ u. (assertion-passes N).0.stays) inside _ _ (gives_stop (λ a. a) _ d r g e q)) k

    pub listing_last : length part ≤ i → (a : Assertion) → a ≡ blank_assertion → Gives (λ row. row) (assertion_row N K c₀) c (Ok (part ++ drop K (replicate 32 a)))
    listing_last h a e =
        rw e
        (read_on (λ row. row) _ c row
        (turn_last {S = Unit {0}} (λ u. assertion N) (λ u a. u) (λ a. a) tt blanks K c₀ tt row c i so-far.turn (subst (λ (n : ℕ). n ≤ i) so-far.size h)))
