-- The form of a template, written and read; two template numbers with a comma between them are cut at it.
use Prim.Native.{Nat.{ℕ, ◌+◌, ◌≤◌, ◌<◌}, String.{String}}
use mathlib.Core.Path.{◌≡◌, refl, sym, ap, ap₂, ◌∙◌}
use mathlib.Core.List.{List, [], ◌∷◌, ◌++◌}
use mathlib.Core.Bool.{true, ◌&&◌}
use mathlib.Core.Logic.{◌⊎◌, inl, inr}
use native.Mathlib.Omega.{arith}
use lib.ListN.{length, take, drop, length-append, drop_of_length-le}
use lib.Dec.{ltb}
use borrow.Author.Tests.{lt-ltb}
use Rattle.lists.proofs.Tests.{lt_or_le}
use Rattle.numerals.specs.Numerals.{decimal_of}
use Rattle.plan.specs.declared.Form.{Form, TheVariants.{End, Go, Either, Both}}
use Rattle.plan.specs.Plan.{successors, Among}
use Rattle.scan.specs.Bytes.{bytes, before, starts_with, same}
use Rattle.field.specs.Fields.{is, bad, and_then, decimal, number, template_number, pair, form}
use Rattle.field.proofs.Each.{Each, each_is, each_bad, each_if, each_then}
use Rattle.printing.specs.Printing.{form_of}
use Rattle.printing.proofs.Bytes.{free, free_app, cut_front, cut_back, cut, starts_cut, same_eq}
use Rattle.printing.proofs.Decimals.{decimal_back, decimal_short, decimal_free, decimal_only}
use Rattle.printing.proofs.Fields.{Law, Between, number_law, template_law}

-- Two numbers as a form writes them.
abbrev pair_of : ℕ → ℕ → List ℕ
pair_of Y Z = decimal_of Y ++ (44 ∷ decimal_of Z)

pair_back : (N : ℕ) (f : ℕ → ℕ → Form) (Y Z : ℕ) → Between 0 N Y → Between 0 N Z → pair N f (pair_of Y Z) ≡ is (f Y Z)
unfolding pair and_then
pair_back N f Y Z h g =
    rw (cut_front 44 (decimal_of Y) (decimal_of Z) (decimal_free 44 Y (omega arith)), cut_back 44 (decimal_of Y) (decimal_of Z) (decimal_free 44 Y (omega arith)), decimal_back Y h.2, decimal_back Z g.2, lt-ltb Y N h.1, lt-ltb Z N g.1)

nothing : (Z : ℕ) → decimal [] ≡ is Z → ⊥
unfolding decimal
nothing Z e = let z : ◌≡◌ {A = ℕ} 0 1 = cc in absurd (omega arith)

pair_only : (N : ℕ) (f : ℕ → ℕ → Form) (s : List ℕ) → Each (λ w. (Y Z : ℕ) × (w ≡ f Y Z) × (s ≡ pair_of Y Z)) (pair N f s)
unfolding pair
pair_only N f s =
    each_then _ (decimal (take (before 44 s) s)) _ (λ Y e.
    each_then _ (decimal (drop (before 44 s + 1) s)) _ (λ Z g.
    each_if _ (ltb Y N && ltb Z N) (is (f Y Z)) (bad 3) (λ q. each_is _ (f Y Z) (Y, Z, refl, whole Y Z e g)) (λ q. each_bad _ 3)))
  where
    whole : (Y Z : ℕ) → decimal (take (before 44 s) s) ≡ is Y → decimal (drop (before 44 s + 1) s) ≡ is Z → s ≡ pair_of Y Z
    whole Y Z e g = go (lt_or_le (before 44 s) (length s))
      where
        go : (before 44 s < length s) ⊎ (length s ≤ before 44 s) → s ≡ pair_of Y Z
        go (inl l) = cut 44 s l ∙ ap₂ (λ (a b : List ℕ). a ++ (44 ∷ b)) (decimal_only (take (before 44 s) s) Y e) (decimal_only (drop (before 44 s + 1) s) Z g)
        go (inr l) = absurd (nothing Z (sym (ap decimal (drop_of_length-le s {i = before 44 s + 1} (omega arith))) ∙ g))

-- Each successor of a form is a template's number.
abbrev pub Onward : ℕ → Form → Type 0
Onward N f = (Y : ℕ) → Among Y (successors f) → Between 0 N Y

two_short : (N Y Z : ℕ) → Between 0 N Y → Between 0 N Z → length (pair_of Y Z) ≤ 9
two_short N Y Z h g = omega (arith, length-append (decimal_of Y) (44 ∷ decimal_of Z), decimal_short Y h.2, decimal_short Z g.2)

two_free : (Y Z : ℕ) → free 10 (pair_of Y Z) ≡ true
two_free Y Z = free_app 10 (decimal_of Y) (44 ∷ decimal_of Z) (decimal_free 10 Y (omega arith)) (decimal_free 10 Z (omega arith))

form_back : (N : ℕ) (f : Form) → Onward N f → form N (form_of f) ≡ is f
unfolding form form_of same starts_with successors template_number number and_then
form_back N End h = refl
form_back N (Go Y) h = rw ((number_law 3 0 N).back Y (h Y (inl refl)))
form_back N (Either Y Z) h = pair_back N (λ Y Z. Either Y Z) Y Z (h Y (inl refl)) (h Z (inr (inl refl)))
form_back N (Both Y Z) h = pair_back N (λ Y Z. Both Y Z) Y Z (h Y (inl refl)) (h Z (inr (inl refl)))

form_free : (f : Form) → free 10 (form_of f) ≡ true
unfolding form_of
form_free End = refl
form_free (Go Y) = decimal_free 10 Y (omega arith)
form_free (Either Y Z) = two_free Y Z
form_free (Both Y Z) = two_free Y Z

form_short : (N : ℕ) (f : Form) → Onward N f → length (form_of f) ≤ 16
unfolding form_of successors
form_short N End h = omega arith
form_short N (Go Y) h = omega (arith, decimal_short Y (h Y (inl refl)).2)
form_short N (Either Y Z) h = omega (arith, two_short N Y Z (h Y (inl refl)) (h Z (inr (inl refl))))
form_short N (Both Y Z) h = omega (arith, two_short N Y Z (h Y (inl refl)) (h Z (inr (inl refl))))

form_only : (N : ℕ) (s : List ℕ) → Each (λ f. s ≡ form_of f) (form N s)
unfolding form form_of template_number
form_only N s =
    each_if _ (same s (bytes "end")) (is End) _ (λ q. each_is _ End (same_eq s (bytes "end") q)) (λ q.
    each_if _ (starts_with (bytes "go:") s) _ _
    (λ p. each_then _ (template_number N (drop 3 s)) _ (λ Y e. each_is _ (Go Y) (starts_cut (bytes "go:") s p ∙ ap (λ (t : List ℕ). bytes "go:" ++ t) ((template_law N).only (drop 3 s) Y e)))) (λ q.
    each_if _ (starts_with (bytes "either:") s) _ _ (λ p f e. two (λ Y Z. Either Y Z) "either:" f p (λ Y Z. refl) (pair_only N (λ Y Z. Either Y Z) (drop 7 s) f e)) (λ q.
    each_if _ (starts_with (bytes "both:") s) _ (bad 2) (λ p f e. two (λ Y Z. Both Y Z) "both:" f p (λ Y Z. refl) (pair_only N (λ Y Z. Both Y Z) (drop 5 s) f e)) (λ q. each_bad _ 2))))
  where
    two : (make : ℕ → ℕ → Form) (key : String) (f : Form) → starts_with (bytes key) s ≡ true
        → ((Y Z : ℕ) → form_of (make Y Z) ≡ bytes key ++ pair_of Y Z)
        → ((Y Z : ℕ) × (f ≡ make Y Z) × (drop (length (bytes key)) s ≡ pair_of Y Z)) → s ≡ form_of f
    two make key f p h (Y, Z, e, g) =
        starts_cut (bytes key) s p ∙ ap (λ (t : List ℕ). bytes key ++ t) g ∙ sym (ap form_of e ∙ h Y Z)

pub form_law : (N : ℕ) → Law (Onward N) 16 (form N) form_of
form_law N = record { back = form_back N; plain = λ f h. form_free f; short = form_short N; only = form_only N }
