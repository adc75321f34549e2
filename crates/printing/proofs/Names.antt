-- A name, as a fact of its bytes, is what the reader takes for one.
use Prim.Native.Nat.{ℕ, ◌≤◌}
use mathlib.Core.Path.{◌≡◌, refl, sym, ◌∙◌}
use mathlib.Core.List.{List}
use mathlib.Core.Bool.{true, ◌&&◌}
use mathlib.Core.Logic.{◌⊎◌, inl, inr, ⊎_elim}
use lib.ListN.{length, get_or}
use lib.Dec.{leb, ltb}
use borrow.Author.Tests.{ltb-true, leb-true, lt-ltb, le-leb}
use Rattle.lists.specs.Numbers.{all}
use Rattle.lists.proofs.{Tests.{and_both, and_three, and_of, or_left, or_right, or_cases}, Every.{every_at, every_of}, Tabulate.{all_every}}
use Rattle.field.specs.Fields.{name_byte}
use Rattle.field.specs.Answers.{is_name}
use Rattle.printing.specs.Printable.{Name}

-- A byte of a name.
abbrev Letter : ℕ → Type 0
Letter b = ((97 ≤ b) × (b ≤ 122)) ⊎ ((48 ≤ b) × (b ≤ 57))

byte_back : (b : ℕ) → Letter b → name_byte b ≡ true
unfolding name_byte
byte_back b (inl (l, h)) = or_left (leb 97 b && leb b 122) (leb 48 b && leb b 57) (and_of (leb 97 b) (leb b 122) (le-leb 97 b l) (le-leb b 122 h))
byte_back b (inr (l, h)) = or_right (leb 97 b && leb b 122) (leb 48 b && leb b 57) (and_of (leb 48 b) (leb b 57) (le-leb 48 b l) (le-leb b 57 h))

byte_only : (b : ℕ) → name_byte b ≡ true → Letter b
unfolding name_byte
byte_only b e =
    ⊎_elim (λ q. let t = and_both (leb 97 b) (leb b 122) q in inl (leb-true 97 b t.0, leb-true b 122 t.1))
    (λ q. let t = and_both (leb 48 b) (leb b 57) q in inr (leb-true 48 b t.0, leb-true b 57 t.1))
    (or_cases (leb 97 b && leb b 122) (leb 48 b && leb b 57) e)

pub name_back : (n : List ℕ) → Name n → is_name n ≡ true
name_back n h =
    and_of (ltb 0 (length n)) (leb (length n) 16 && all name_byte n) (lt-ltb 0 (length n) h.some)
    (and_of (leb (length n) 16) (all name_byte n) (le-leb (length n) 16 h.few)
    (all_every name_byte (length n) n 0 refl ∙ every_of (length n) (λ i. name_byte (get_or n i 0)) (λ i l. byte_back (get_or n i 0) (h.bytes i l))))

pub name_only : (n : List ℕ) → is_name n ≡ true → Name n
name_only n e =
    let t = and_three (ltb 0 (length n)) (leb (length n) 16) (all name_byte n) e in
    let each = sym (all_every name_byte (length n) n 0 refl) ∙ t.2 in
    record {
      some = ltb-true 0 (length n) t.0;
      few = leb-true (length n) 16 t.1;
      bytes = λ i l. byte_only (get_or n i 0) (every_at (length n) (λ i. name_byte (get_or n i 0)) each i l);
    }
