-- At each digit's value the table has its byte: computed once for all sixteen.
use Rattle.std.proofs.Common.{◌≡◌, refl, ℕ, ◌<◌, ◌/◌, ◌%◌, Bool, true, nat_eq, List, [], ◌∷◌, slice_index_or, arith, rules}
use Rattle.std.proofs.lemmas.Bool.{agree_below_at}
use borrow.Author.Tests.{eqb-true}
use Rattle.console.specs.Hexadecimal.{hex_digit_of}
use Rattle.console.proofs.print_hex_byte.Goals as goal

abbrev table : List ℕ
table = 48 ∷ 49 ∷ 50 ∷ 51 ∷ 52 ∷ 53 ∷ 54 ∷ 55 ∷ 56 ∷ 57 ∷ 97 ∷ 98 ∷ 99 ∷ 100 ∷ 101 ∷ 102 ∷ []

digit : (d : ℕ) → d < 16 → slice_index_or table d 0 ≡ hex_digit_of d
digit d l = eqb-true (slice_index_or table d 0) (hex_digit_of d)
    (agree_below_at (λ i. nat_eq (slice_index_or table i 0) (hex_digit_of i)) (λ _. true) 16 d refl l)

pub returns : goal.returns
returns g c = rw (digit (c.args.b / 16) (search (rules, arith)), digit (c.args.b % 16) (search (rules, arith))) at c.print.ensures
