-- A part of a list as code lends it, xs[from..to]: its length, what stands in it, and a test of each number of it.
use Rattle.std.proofs.Common.{◌≡◌, ℕ, ◌+◌, ◌-◌, ◌<◌, ◌≤◌, Bool, List, length, get_or, drop, slice_range, arith, length-drop, ap, ◌∙◌}
use native.Mathlib.Nat.{zero-add}
use Rattle.std.proofs.lemmas.List.{get_or-take, get_or-drop, length-take}
use Rattle.lists.specs.Numbers.{every}
use Rattle.lists.proofs.Every.{every_ext}

module _ {A : Type 0} (xs : List A) (from to : ℕ) where
  pub part_length : to ≤ length xs → length (slice_range xs from to) ≡ to - from
  part_length h = omega (arith, length-take (to - from) (drop from xs), length-drop from xs)

  pub part_at : (d : A) (k : ℕ) → k < to - from → get_or (slice_range xs from to) k d ≡ get_or xs (from + k) d
  part_at d k h = get_or-take (to - from) (drop from xs) k d h ∙ get_or-drop from xs k d

-- The first n numbers.
module _ {A : Type 0} (xs : List A) (n : ℕ) (there : n ≤ length xs) where
  pub first_length : length (slice_range xs 0 n) ≡ n
  first_length = omega (arith, part_length xs 0 n there)

  pub first_at : (d : A) (k : ℕ) → k < n → get_or (slice_range xs 0 n) k d ≡ get_or xs k d
  first_at d k h = part_at xs 0 n d k (omega arith) ∙ ap (λ (k : ℕ). get_or xs k d) (zero-add k)

  pub first_every : (d : A) (p : A → Bool) → every (length (slice_range xs 0 n)) (λ i. p (get_or (slice_range xs 0 n) i d)) ≡ every n (λ i. p (get_or xs i d))
  first_every d p = ap (λ (k : ℕ). every k (λ i. p (get_or (slice_range xs 0 n) i d))) first_length ∙ every_ext n _ _ (λ i h. ap p (first_at d i h))
