-- The processes' part of refusal 20, as the code makes it of the parts that it cuts: each callee's result is a variable, and
-- what it ensures a premise.
use Prim.Native.Nat.{ℕ, ◌+◌, ◌-◌, ◌*◌, ◌^◌, ◌≤◌, min}
use mathlib.Core.Path.{◌≡◌, refl, sym, ap, ap₂, ◌∙◌}
use mathlib.Core.Bool.{Bool, true, false, ◌&&◌}
use mathlib.Core.Logic.{⊎_elim}
use mathlib.Core.List.{List}
use native.Mathlib.Omega.{arith}
use lib.ListN.{length, get_or}
use lib.Dec.{ltb, leb}
use borrow.Author.Tests.{leb-true, le-ltb, lt-ltb, le-leb, lt-leb}
use Rattle.std.proofs.Common.{slice_range}
use Rattle.lists.specs.Numbers.{every}
use Rattle.lists.proofs.Tests.{lt_or_le, fails, and_left, and_right, and_both}
use Rattle.lists.proofs.Every.{every_ext}
use Rattle.lists.proofs.Parts.{first_every}
use Rattle.ranges.specs.Ranges.{rises}
use Rattle.ranges.proofs.Ranges.{first_rises}
use Rattle.machine.specs.State.{Cells}
use Rattle.population.specs.Arrays.{below, parts_fit}

at_most : (x t w : ℕ) → t + 1 ≡ w → leb x t ≡ ltb x w
at_most x t w e =
    ⊎_elim (λ l. lt-leb x t l ∙ sym (le-ltb x w (omega arith))) (λ l. le-leb x t l ∙ sym (lt-ltb x w (omega arith))) (lt_or_le t x)

-- A part that is there, tested.
module _ (xs part : List ℕ) (n : ℕ) (there : n ≤ length xs) (is : part ≡ slice_range xs 0 n) where
  with_length : (b : Bool) → b ≡ (leb n (length xs) && b)
  with_length b = rw (le-leb n (length xs) there) refl

  pub rising_part : (b : Bool) → b ≡ rises part → b ≡ (leb n (length xs) && every (n - 1) (λ i. ltb (get_or xs i 0) (get_or xs (i + 1) 0)))
  rising_part b e = e ∙ ap rises is ∙ first_rises xs n there ∙ with_length _

  pub below_part : (bound : ℕ) (b : Bool) → b ≡ every (length part) (λ i. ltb (get_or part i 0) bound) → b ≡ below xs n bound
  unfolding below
  below_part bound b e =
      e ∙ ap (λ (part : List ℕ). every (length part) (λ i. ltb (get_or part i 0) bound)) is
      ∙ first_every xs n there 0 (λ x. ltb x bound) ∙ with_length _

  -- The greatest mask of M identifiers is the top.
  pub masks_part : (M top : ℕ) → top + 1 ≡ 2 ^ min M 32 → (b : Bool) → b ≡ every (length part) (λ i. leb (get_or part i 0) top) → b ≡ below xs n (2 ^ min M 32)
  masks_part M top et b e =
      below_part (2 ^ min M 32) b (e ∙ every_ext (length part) _ _ (λ i h. at_most (get_or part i 0) top (2 ^ min M 32) et))

below_there : (xs : List ℕ) (n bound : ℕ) → below xs n bound ≡ true → n ≤ length xs
unfolding below
below_there xs n bound e = leb-true n (length xs) (and_left _ _ e)

module _ (N M next live : ℕ) (c : Cells) where
  -- Where one part ends too soon they do not fit.
  pub parts_short : (live ≤ length c.serials → live ≤ length c.templates → live ≤ length c.labels → live * M ≤ length c.tags → ⊥) → false ≡ parts_fit N M next live c
  unfolding parts_fit
  parts_short short =
      sym (fails (parts_fit N M next live c) (λ e.
      let s = and_both _ _ (and_right _ _ e) in
      let t = and_both _ _ s.1 in
      let l = and_both _ _ t.1 in
      short (below_there _ _ _ s.0) (below_there _ _ _ t.0) (below_there _ _ _ l.0) (below_there _ _ _ l.1)))

  -- used is the number of tags.
  pub parts_joined : (used : ℕ) (a b d e f : Bool) → used ≡ live * M
      → a ≡ (leb live (length c.serials) && every (live - 1) (λ i. ltb (get_or c.serials i 0) (get_or c.serials (i + 1) 0)))
      → b ≡ below c.serials live next → d ≡ below c.templates live N → e ≡ below c.labels live (2 ^ min M 32) → f ≡ below c.tags used next
      → ((((a && b) && d) && e) && f) ≡ parts_fit N M next live c
  unfolding parts_fit
  parts_joined used a b d e f eu ea eb ed ee ef =
      in_order a b d e f ∙ ap₂ ◌&&◌ ea (ap₂ ◌&&◌ eb (ap₂ ◌&&◌ ed (ap₂ ◌&&◌ ee (ef ∙ ap (λ (n : ℕ). below c.tags n next) eu))))
    where
      in_order : (a b d e f : Bool) → ((((a && b) && d) && e) && f) ≡ (a && (b && (d && (e && f))))
      in_order true true true e f = refl
      in_order true true false e f = refl
      in_order true false d e f = refl
      in_order false b d e f = refl
