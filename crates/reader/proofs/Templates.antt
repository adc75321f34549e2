-- The templates of a plan in their row: the turns of the loop over them, and its ends.
use Prim.Native.Nat.{ℕ, ◌+◌, ◌≤◌, ◌<◌}
use mathlib.Core.Path.{◌≡◌, sym, subst}
use mathlib.Core.List.{List, [], ◌∷◌}
use denote.Ref.{Bor}
use lib.ListN.{length, take, set, replicate}
use native.Mathlib.Omega.{arith}
use Rattle.std.proofs.lemmas.List.{take_more_set}
use Rattle.std.specs.Prelude.{Result, Ok, Err, IsErrAnd}
use Rattle.plan.specs.declared.Template.{Template}
use Rattle.plan.specs.Plan.{blank}
use Rattle.text.specs.Reading.{Cursor, entry}
use Rattle.text.specs.Cursors.{Gives}
use Rattle.text.specs.declared.Refused.{Refused}
use Rattle.text.proofs.Opening.{gives_value, gives_stop, handed_on, read_on}
use Rattle.text.proofs.Passed.{entry-passes}
use Rattle.entries.specs.Entry.{latest, entry_of}
use Rattle.entries.proofs.Names.{latest_more}
use Rattle.reader.specs.Rows.{stood_then, template_row}
use Rattle.reader.proofs.Filling.{Turn, turn_first, turn_next, turn_stop, turn_last}

-- After i templates, by the names that they left.
abbrev pub Filling : ℕ → ℕ → Cursor → List Template → List (Bor (List ℕ)) → Cursor → ℕ → Type 0
Filling N M c₀ row names c i = Turn (entry N M) stood_then (λ e. e.template) [] (replicate 64 blank) N c₀ (latest (take i names)) row c i

module _ (N M : ℕ) (c₀ : Cursor) where
  pub filling_first : (t : Template) → t ≡ blank → (names : List (Bor (List ℕ))) → Filling N M c₀ (replicate 64 t) names c₀ 0
  unfolding latest
  filling_first t e names = rw e (turn_first (entry N M) stood_then (λ e. e.template) [] (replicate 64 blank) N c₀)

  module _ (row : List Template) (names : List (Bor (List ℕ))) (c : Cursor) (i : ℕ) (turn : Filling N M c₀ row names c i) where
    module _ (r : Result (Bor (List ℕ) × Template) Refused) (d : Cursor) (g : Gives entry_of (entry N M (latest (take i names)) c) d r) (h : i < N) where
      pub filling_next : (n : Bor (List ℕ)) (t : Template) → r ≡ Ok (n, t) → N ≤ 64 → length names ≡ 64 → Filling N M c₀ (set row i t) (set names i n) d (i + 1)
      filling_next n t e small size =
          let stood : latest (take (i + 1) (set names i n)) ≡ n.now ∷ latest (take i names) = rw (take_more_set names i n (omega (arith, size, small, h))) (latest_more (take i names) n) in
          subst (λ (s : List (List ℕ)). Turn (entry N M) stood_then (λ e. e.template) [] (replicate 64 blank) N c₀ s (set row i t) d (i + 1)) (sym stood)
          (turn_next (entry N M) stood_then (λ e. e.template) [] (replicate 64 blank) N c₀ (latest (take i names)) row c i turn h
          (record { name = n.now; template = t }) d (gives_value entry_of _ d r g (n, t) e))

      pub filling_stop : (e : Refused) → r ≡ Err e → (next : Cursor) (x : Result (List Template) Refused) → IsErrAnd x (λ w. w ≡ e)
          → Gives (λ row. row) (template_row N M c₀) next x
      filling_stop e q next x k =
          handed_on (λ row. row) _ next x e
          (turn_stop (entry N M) stood_then (λ e. e.template) [] (replicate 64 blank) N c₀ (latest (take i names)) row c i turn
          (λ s. (entry-passes N M s).0.stays) h _ _ (gives_stop entry_of _ d r g e q)) k

    pub filling_last : N ≤ i → Gives (λ row. row) (template_row N M c₀) c (Ok row)
    filling_last h =
        read_on (λ row. row) _ c row (turn_last (entry N M) stood_then (λ e. e.template) [] (replicate 64 blank) N c₀ (latest (take i names)) row c i turn h)
