-- Where no comma stands, the second number is empty, so a pair is refused for its layout whatever its first number is.
use Prim.Native.Nat.{ℕ, ◌+◌, ◌*◌}
use mathlib.Core.Path.{◌≡◌, refl, sym, ap, ◌∙◌}
use mathlib.Core.List.{List, [], ◌∷◌}
use mathlib.Core.Bool.{Bool, true, false, not, cond, ◌&&◌, ◌||◌}
use native.Mathlib.Omega.{arith}
use lib.ListN.{length, get_or, take, drop, drop_of_length-le}
use lib.Dec.{leb, ltb, eqb}
use Rattle.plan.specs.declared.Form.{Form}
use Rattle.scan.specs.Bytes.{before}
use Rattle.field.proofs.Numbers.{decimal_none}
use Rattle.field.specs.Fields.{Field, is, bad, and_then, digit, digits, decimal, pair}

-- The layout of a decimal is its only refusal.
digits_refusal : (base acc : ℕ) (s : List ℕ) (n : ℕ) → digits base acc s ≡ bad n → n ≡ 2
unfolding digits
digits_refusal base acc [] n e = let z : ◌≡◌ {A = ℕ} 0 1 = cc in absurd (omega arith)
digits_refusal base acc (b ∷ s) n e = go (digits_refusal base (acc * base + digit b) s n) (ltb (digit b) base) refl
  where
    go : (digits base (acc * base + digit b) s ≡ bad n → n ≡ 2) → (t : Bool) → ltb (digit b) base ≡ t → n ≡ 2
    go ih true q = ih (rw (q, digits) at e)
    go ih false q = let h : bad 2 ≡ bad n = rw (q, digits) at e in cc

decimal_refusal : (s : List ℕ) (n : ℕ) → decimal s ≡ bad n → n ≡ 2
unfolding decimal
decimal_refusal s n e = go (ltb 0 (length s) && (leb (length s) 4 && (eqb (length s) 1 || not (eqb (get_or s 0 0) 48)))) e
  where
    go : (t : Bool) → cond t (digits 10 0 s) (bad 2) ≡ bad n → n ≡ 2
    go true q = digits_refusal 10 0 s n q
    go false q = cc

pub pair_none : (N : ℕ) (f : ℕ → ℕ → Form) (s : List ℕ) → length s ≡ before 44 s → pair N f s ≡ bad 2
unfolding pair and_then
pair_none N f s h = go (decimal (take (before 44 s) s)) refl
  where
    nothing : decimal (drop (before 44 s + 1) s) ≡ bad 2
    nothing = ap decimal (drop_of_length-le s {i = before 44 s + 1} (omega arith)) ∙ sym (decimal_none [] refl)

    go : (x : Field ℕ) → decimal (take (before 44 s) s) ≡ x → pair N f s ≡ bad 2
    go (is Y) q = rw (q, pair) (rw nothing)
    go (bad n) q = rw (q, pair) (ap bad (decimal_refusal (take (before 44 s) s) n q))
