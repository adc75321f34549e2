-- The names that stood, the last first; and a name read, in the order of its refusals.
use Prim.Native.Nat.{ℕ}
use mathlib.Core.Path.{◌≡◌, refl, sym, ap, ◌∙◌}
use mathlib.Core.List.{List, [], ◌∷◌, ◌++◌}
use mathlib.Core.Bool.{Bool, true, false, not, ◌||◌}
use denote.Ref.{Bor}
use borrow.Author.Tests.{not-true, not-false}
use Rattle.std.specs.List.{list_any}
use Rattle.scan.specs.Bytes.{same, stands_in}
use Rattle.lists.proofs.Tests.{told}
use Rattle.field.specs.Fields.{is, bad, name}
use Rattle.field.specs.Answers.{is_name}
use Rattle.entries.specs.Entry.{latest}

-- One name more, the last.
pub latest_more : (names : List (Bor (List ℕ))) (n : Bor (List ℕ)) → latest (names ++ (n ∷ [])) ≡ n.now ∷ latest names
unfolding latest
latest_more [] n = refl
latest_more (x ∷ names) n = ap (λ (l : List (List ℕ)). l ++ (x.now ∷ [])) (latest_more names n)

or_swap : (a b c : Bool) → (a || (b || c)) ≡ (b || (a || c))
or_swap true true c = refl
or_swap true false c = refl
or_swap false true c = refl
or_swap false false c = refl

stands_last : (s t : List ℕ) (l : List (List ℕ)) → stands_in s (l ++ (t ∷ [])) ≡ (same s t || stands_in s l)
unfolding stands_in
stands_last s t [] = refl
stands_last s t (u ∷ l) = ap (λ (b : Bool). same s u || b) (stands_last s t l) ∙ or_swap (same s u) (same s t) (stands_in s l)

-- It is no matter in which order the names are looked at.
pub stands-any : (s : List ℕ) (names : List (Bor (List ℕ))) → list_any (λ n. same s n.now) names ≡ stands_in s (latest names)
unfolding latest stands_in
stands-any s [] = refl
stands-any s (n ∷ names) = ap (λ (b : Bool). same s n.now || b) (stands-any s names) ∙ sym (stands_last s n.now (latest names))

module _ (s : List ℕ) (names : List (Bor (List ℕ))) (t : Bool) (q : t ≡ is_name s) where
  pub name_layout : not t ≡ true → bad 2 ≡ name (latest names) s
  unfolding name
  name_layout e = rw (told q (not-true t e), name)

  module _ (h : not t ≡ false) (u : Bool) (p : u ≡ list_any (λ n. same s n.now) names) where
    pub name_stood : u ≡ true → bad 5 ≡ name (latest names) s
    unfolding name
    name_stood e = rw (told q (not-false t h), ← stands-any s names, told p e, name)

    pub name_is : u ≡ false → is s ≡ name (latest names) s
    unfolding name
    name_is e = rw (told q (not-false t h), ← stands-any s names, told p e, name)
