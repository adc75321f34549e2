-- The fields of the two texts, each read from the rest of its line (document 01, "The two texts").
-- Refusals, in order: 2 layout, 3 range, 4 a mask beyond the plan, 5 a name that stood earlier, 6 a forbidden declass.
-- Believed: everything here. Proved against it: crates field, keywords and forms.
use Rattle.std.specs.Prelude.{ℕ, ◌+◌, ◌-◌, ◌*◌, ◌^◌}
use mathlib.Core.{Bool.{Bool, true, false, not, cond, ◌&&◌, ◌||◌}, List.{List, [], ◌∷◌}}
use lib.{Dec.{eqb, leb, ltb}, ListN.{length, get_or, take, drop}}
use Rattle.lists.specs.Numbers.{all}
use Rattle.mask.specs.Mask.{has}
use Rattle.plan.specs.declared.{Form.{Form, TheVariants.{End, Go, Either, Both}}, Kind.{Kind}}
use Rattle.plan.specs.declared.Kind.TheVariants.{Secrecy, Prot}
use Rattle.scan.specs.Bytes.{bytes, before, starts_with, same, stands_in}

-- A field gives its value, or the number of the refusal.
pub data Field (A : Type 0) : Type 0 where
  is : A → Field A
  bad : ℕ → Field A

-- The value goes on to what is next; a refusal stays.
unfoldable pub and_then : {A B : Type 0} → Field A → (A → Field B) → Field B
and_then (is v) next = next v
and_then (bad number) next = bad number

-- The value of a digit, 0-9 and a-f, and 16 for any other byte.
unfoldable pub digit : ℕ → ℕ
digit b = cond (leb 48 b && leb b 57) (b - 48) (cond (leb 97 b && leb b 102) (b - 87) 16)

-- The digits of a base, after those that make acc.
unfoldable pub digits : ℕ → ℕ → List ℕ → Field ℕ
digits base acc [] = is acc
digits base acc (b ∷ s) = cond (ltb (digit b) base) (digits base (acc * base + digit b) s) (bad 2)

-- "Decimal, 1 to 4 digits, no leading zero except in `0`."
unfoldable pub decimal : List ℕ → Field ℕ
decimal s =
    cond (ltb 0 (length s) && (leb (length s) 4 && (eqb (length s) 1 || not (eqb (get_or s 0 0) 48)))) (digits 10 0 s) (bad 2)

-- A number from low on and below the limit; the refusal out of range has the given number.
unfoldable pub number : ℕ → ℕ → ℕ → List ℕ → Field ℕ
number refusal low limit s = and_then (decimal s) (λ v. cond (leb low v && ltb v limit) (is v) (bad refusal))

-- A template number of a plan with N templates.
unfoldable pub template_number : ℕ → List ℕ → Field ℕ
template_number N = number 3 0 N

-- "Masks are lowercase hexadecimal", of so many digits, over so many items.
unfoldable pub mask : ℕ → ℕ → List ℕ → Field ℕ
mask width items s =
    cond (eqb (length s) width) (and_then (digits 16 0 s) (λ m. cond (ltb m (2 ^ items)) (is m) (bad 4))) (bad 2)

-- "1 to 16 of a-z, 0-9"; 5: "the name stood earlier".
unfoldable pub name_byte : ℕ → Bool
name_byte b = (leb 97 b && leb b 122) || (leb 48 b && leb b 57)

unfoldable pub name : List (List ℕ) → List ℕ → Field (List ℕ)
name stood s =
    cond (ltb 0 (length s) && (leb (length s) 16 && all name_byte s)) (cond (stands_in s stood) (bad 5) (is s)) (bad 2)

-- Two template numbers with a comma between them; the layout of both comes before their range.
unfoldable pub pair : ℕ → (ℕ → ℕ → Form) → List ℕ → Field Form
pair N form s =
    and_then (decimal (take (before 44 s) s)) (λ Y.
    and_then (decimal (drop (before 44 s + 1) s)) (λ Z.
    cond (ltb Y N && ltb Z N) (is (form Y Z)) (bad 3)))

-- "One of `end`, `go:Y`, `either:Y,Z`, `both:Y,Z`."
unfoldable pub form : ℕ → List ℕ → Field Form
form N s =
    cond (same s (bytes "end")) (is End)
    (cond (starts_with (bytes "go:") s) (and_then (template_number N (drop 3 s)) (λ Y. is (Go Y)))
    (cond (starts_with (bytes "either:") s) (pair N (λ Y Z. Either Y Z) (drop 7 s))
    (cond (starts_with (bytes "both:") s) (pair N (λ Y Z. Both Y Z) (drop 5 s))
    (bad 2))))

-- "`0` or `1` (1: its processes may be taken over)."
unfoldable pub risk : List ℕ → Field Bool
risk s = cond (same s (bytes "0")) (is false) (cond (same s (bytes "1")) (is true) (bad 2))

-- "`secrecy` or `prot`."
unfoldable pub kind : List ℕ → Field Kind
kind s = cond (same s (bytes "secrecy")) (is Secrecy) (cond (same s (bytes "prot")) (is Prot) (bad 2))

-- 6: "a secrecy's declass holds its own source or sink, or a prot's declass is not zero".
unfoldable pub misplaced : Kind → ℕ → ℕ → ℕ → Bool
misplaced Secrecy source sink declass = has source declass || has sink declass
misplaced Prot source sink declass = not (eqb declass 0)

-- "16 digits over templates."
unfoldable pub declass : ℕ → Kind → ℕ → ℕ → List ℕ → Field ℕ
declass N k source sink s = and_then (mask 16 N s) (λ d. cond (misplaced k source sink d) (bad 6) (is d))
