-- A row filled item by item: its start, one item more, a refusal, its end; and that it is the items read one after the other, with
-- blank places after them.
use Prim.Native.Nat.{ℕ, zero, suc, ◌+◌, ◌-◌, ◌≤◌, ◌<◌}
use mathlib.Core.Path.{◌≡◌, refl, ap, ap₂, ◌∙◌}
use mathlib.Core.List.{List, [], ◌∷◌, ◌++◌, append_assoc}
use native.Mathlib.Nat.{zero-add}
use native.Mathlib.Omega.{arith}
use lib.ListN.{length, set, replicate}
use Rattle.text.specs.Reading.{Cursor, stopped, Step, Reader}
use Rattle.reader.specs.Rows.{filled}
use Rattle.reader.proofs.Rows.{longer, seam}

-- What is left to fill leads to the same end.
pub record Turn {S I A : Type 0} (read : S → Reader I) (next : S → I → S) (put : I → A) (s₀ : S) (start : List A) (n : ℕ) (c₀ : Cursor)
    (s : S) (row : List A) (c : Cursor) (i : ℕ) : Type 0 where
  pub left : filled read next put s₀ 0 start n c₀ ≡ filled read next put s i row (n - i) c

-- The items, read one after the other.
unfoldable pub items : {S I A : Type 0} → (S → Reader I) → (S → I → S) → (I → A) → S → ℕ → Reader (List A)
items read next put s zero c = record { value = []; next = c }
items read next put s (suc more) c =
    let e = read s c in
    let rest = items read next put (next s e.value) more e.next in
    record { value = put e.value ∷ rest.value; next = rest.next }

module _ {S I A : Type 0} (read : S → Reader I) (next : S → I → S) (put : I → A) where
  filled_from : (more rest : ℕ) (d : A) (s : S) (front : List A) (c : Cursor)
      → filled read next put s (length front) (front ++ replicate (more + rest) d) more c
      ≡ record { value = front ++ ((items read next put s more c).value ++ replicate rest d); next = (items read next put s more c).next }
  unfolding filled items
  filled_from zero rest d s front c = rw zero-add
  filled_from (suc more) rest d s front c =
      let e = read s c in
      let a = put e.value in
      let t = next s e.value in
      ap₂ (λ (k : ℕ) (row : List A). filled read next put t k row more e.next) (longer front a) (seam d front more rest a)
      ∙ filled_from more rest d t (front ++ (a ∷ [])) e.next
      ∙ ap (λ (v : List A). record { value = v; next = (items read next put t more e.next).next })
      (append_assoc front (a ∷ []) ((items read next put t more e.next).value ++ replicate rest d))

  -- The row that the loop fills is the list of the items, with blank places after it.
  pub filled_all : (s : S) (n size : ℕ) (d : A) (c : Cursor) → n ≤ size
      → filled read next put s 0 (replicate size d) n c
      ≡ record { value = (items read next put s n c).value ++ replicate (size - n) d; next = (items read next put s n c).next }
  filled_all s n size d c h =
      let e : size ≡ n + (size - n) = omega arith in
      ap (λ (k : ℕ). filled read next put s 0 (replicate k d) n c) e ∙ filled_from n (size - n) d s [] c

  pub turn_first : (s : S) (start : List A) (n : ℕ) (c : Cursor) → Turn read next put s start n c s start c 0
  turn_first s start n c = record { left = let e : n ≡ n - 0 = omega arith in ap (λ (more : ℕ). filled read next put s 0 start more c) e }

  module _ (s₀ : S) (start : List A) (n : ℕ) (c₀ : Cursor) (s : S) (row : List A) (c : Cursor) (i : ℕ) (turn : Turn read next put s₀ start n c₀ s row c i) where
    pub turn_last : n ≤ i → filled read next put s₀ 0 start n c₀ ≡ record { value = row; next = c }
    unfolding filled
    turn_last h = let e : n - i ≡ 0 = omega arith in turn.left ∙ ap (λ (more : ℕ). filled read next put s i row more c) e

    one_more : i < n → n - i ≡ suc (n - (i + 1))
    one_more h = omega arith

    pub turn_next : i < n → (item : I) (d : Cursor) → read s c ≡ record { value = item; next = d }
        → Turn read next put s₀ start n c₀ (next s item) (set row i (put item)) d (i + 1)
    unfolding filled
    turn_next h item d e = record {
      left = turn.left
          ∙ ap (λ (more : ℕ). filled read next put s i row more c) (one_more h)
          ∙ ap (λ (x : Step I). filled read next put (next s x.value) (i + 1) (set row i (put x.value)) (n - (i + 1)) x.next) e;
    }

    -- Where an item's lines are refused reading stops.
    pub turn_stop : ((t : S) (m k : ℕ) → (read t (stopped m k)).next ≡ stopped m k) → i < n → (m k : ℕ) → (read s c).next ≡ stopped m k
        → (filled read next put s₀ 0 start n c₀).next ≡ stopped m k
    unfolding filled
    turn_stop stays h m k e =
        ap (λ (x : Step (List A)). x.next) (turn.left ∙ ap (λ (more : ℕ). filled read next put s i row more c) (one_more h))
        ∙ ap (λ (d : Cursor). (filled read next put (next s (read s c).value) (i + 1) (set row i (put (read s c).value)) (n - (i + 1)) d).next) e
        ∙ stay (n - (i + 1)) (next s (read s c).value) (i + 1) (set row i (put (read s c).value))
      where
        stay : (more : ℕ) (t : S) (j : ℕ) (r : List A) → (filled read next put t j r more (stopped m k)).next ≡ stopped m k
        stay zero t j r = refl
        stay (suc more) t j r =
            ap (λ (d : Cursor). (filled read next put (next t (read t (stopped m k)).value) (j + 1) (set r j (put (read t (stopped m k)).value)) more d).next) (stays t m k)
            ∙ stay more (next t (read t (stopped m k)).value) (j + 1) (set r j (put (read t (stopped m k)).value))
