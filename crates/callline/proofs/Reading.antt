-- Numbers and lines as the code meets them.
use Rattle.std.proofs.Common.{◌≡◌, ◌≢◌, ◌==◌, slice_index, Bool, true, false, ℕ, zero, suc, ◌<◌, ◌≤◌, ◌^◌, ◌⊎◌, MatchBool, Option, None, Some, Ok, Err, Result, List, [], ◌∷◌, ◌++◌, length, get_or, codes, IsAscii, IsUtf8, MatchOption, MatchResult, decimal, arith, refl, sym, subst, ap, ◌∙◌}
use borrow.Author.Tests.{eqb-true, eq-eqb}
use mathlib.Core.Logic.{⊎_elim, inl, inr}
use denote.Ref.{Bor}
use Rattle.std.specs.Prelude.{⊤}
use Rattle.std.specs.Result.{result_ok}
use Rattle.std.specs.Str.Parse.{ParsesUnsigned, AllDigits, digits_value}
use Rattle.std.proofs.lemmas.Str.{IsUtf8-from_ascii, IsAscii-append}
use Rattle.std.proofs.lemmas.Str.Parse.{numerals_by_value, tells_digits, parse_plain, not_in_digits, IsNumeralModel}
use Rattle.std.proofs.lemmas.Str.Pattern.{IsSplitOnceResult, split_after, split_parts}
use Rattle.std.proofs.lemmas.Fmt.{decimal-digits_value, parse-decimal, digits_decimal, decimal_nonempty, first_decimal, decimal_digit, IsAscii-decimal}
use Rattle.dispatch.specs.declared.Call.{Call}
use Rattle.dispatch.specs.declared.Call.TheVariants.{Step, Send, Raise, Lower}
use Rattle.callline.specs.Lines.{line, ReadsNumber, ReadsCall}

own : IsNumeralModel (AllDigits 10) (digits_value 10)
own = numerals_by_value _ tells_digits

-- ---- numbers

-- A sign or a leading zero is no number's.
pub no_sign : (bs : List ℕ) → get_or bs 0 0 ≡ 43 → (n : ℕ) → n < 2 ^ 32 → bs ≢ decimal n
no_sign bs h n l e =
    let d = digits_decimal own n (omega (arith, l)) in
    not_in_digits own (decimal n) 43 d (λ r. omega (arith, r)) 0 (decimal_nonempty n (omega (arith, l))) (ap (λ (b : List ℕ). get_or b 0 0) (sym e) ∙ h)

pub no_zero : (bs : List ℕ) → get_or bs 0 0 ≡ 48 → 2 ≤ length bs → (n : ℕ) → n < 2 ^ 32 → bs ≢ decimal n
no_zero bs h two zero l e = let m : length bs ≡ 1 = ap length (e ∙ decimal_digit 0 (omega arith)) in omega (arith, m, two)
no_zero bs h two (suc n) l e =
    let f = first_decimal (suc n) (omega arith) (omega (arith, l)) in
    let g = ap (λ (b : List ℕ). get_or b 0 0) (sym e) ∙ h in
    omega (arith, f, g)

-- What parse answers of a text without them.
pub number_read : {E : Type 0} (bs : List ℕ) (r : Result ℕ E) → ParsesUnsigned 32 10 bs r → get_or bs 0 0 ≢ 43 → (get_or bs 0 0 ≡ 48 → length bs ≤ 1)
    → ReadsNumber bs (result_ok r)
number_read {E} bs (Ok n) h plus lead =
    let k = parse_plain own {E = E} 32 bs (Ok n) h plus in
    sym (ap decimal k.1 ∙ decimal-digits_value own bs k.0.0 k.0.1 (λ z. let m = lead z in let some = k.0.1 in omega (arith, m, some)) (let l = k.0.2 in omega (arith, l)))
number_read {E} bs (Err x) h plus lead =
    λ n l e. subst (λ (r : Result ℕ E). MatchResult r (λ _. ⊥) (λ _. ⊤)) (parse-decimal 32 n bs (Err x) l (omega (arith, l)) e h) tt

-- ---- the first byte

pub clash : (b : Bool) → b ≡ true → b ≡ false → ⊥
clash b t f = subst (λ (b : Bool). MatchBool b ⊤ ⊥) (sym t ∙ f) tt

pub first_is : (bs : List ℕ) (x : ℕ) (a : Bool) → a ≡ (slice_index bs 0 == x) → a ≡ true → get_or bs 0 0 ≡ x
first_is bs x a e t = eqb-true _ x (sym e ∙ t)

pub first_not : (bs : List ℕ) (x : ℕ) (a : Bool) → a ≡ (slice_index bs 0 == x) → a ≡ false → get_or bs 0 0 ≢ x
first_not bs x a e f is = clash _ (eq-eqb _ x is) (sym e ∙ f)

-- ---- lines

-- ASCII, and no blank.
abbrev Plain : List ℕ → Type 0
Plain w = (i : ℕ) → (get_or w i 0 < 128) × (get_or w i 0 ≢ 32)

plain_nil : Plain []
plain_nil i = (omega arith, λ e. omega (arith, e))

plain_letter : (b : ℕ) (w : List ℕ) → 97 ≤ b → b < 128 → Plain w → Plain (b ∷ w)
plain_letter b w l m p zero = (m, λ e. omega (arith, e, l))
plain_letter b w l m p (suc i) = p i

-- The words of calls.
abbrev pub IsWord : List ℕ → Type 0
IsWord w = (w ≡ codes "step") ⊎ ((w ≡ codes "send") ⊎ ((w ≡ codes "raise") ⊎ (w ≡ codes "lower")))

plain_step : Plain (codes "step")
plain_step = search (plain_letter, plain_nil, arith)

plain_send : Plain (codes "send")
plain_send = search (plain_letter, plain_nil, arith)

plain_raise : Plain (codes "raise")
plain_raise = search (plain_letter, plain_nil, arith)

plain_lower : Plain (codes "lower")
plain_lower = search (plain_letter, plain_nil, arith)

word_plain : (w : List ℕ) → IsWord w → Plain w
word_plain w h =
    ⊎_elim (λ e. subst Plain (sym e) plain_step)
    (λ h. ⊎_elim (λ e. subst Plain (sym e) plain_send) (λ h. ⊎_elim (λ e. subst Plain (sym e) plain_raise) (λ e. subst Plain (sym e) plain_lower) h) h) h

decimal_free : (n : ℕ) → n < 2 ^ 32 → (i : ℕ) → i < length (decimal n) → get_or (decimal n) i 0 ≢ 32
decimal_free n l = not_in_digits own (decimal n) 32 (digits_decimal own n (omega (arith, l))) (λ r. omega (arith, r))

blank_ascii : IsAscii (32 ∷ [])
blank_ascii zero = omega arith
blank_ascii (suc i) = omega arith

line_ascii : (w : List ℕ) (x y : ℕ) → IsAscii w → x < 2 ^ 32 → y < 2 ^ 32 → IsAscii (line w x y)
line_ascii w x y p a b =
    IsAscii-append w _ p (IsAscii-append (32 ∷ []) _ blank_ascii (IsAscii-append (decimal x) _ (IsAscii-decimal x (omega (arith, a))) (IsAscii-append (32 ∷ []) _ blank_ascii (IsAscii-decimal y (omega (arith, b))))))

-- bs is the line of no call.
abbrev pub NoLine : List ℕ → Type 0
NoLine bs = (w : List ℕ) (x y : ℕ) → IsWord w → x < 2 ^ 32 → y < 2 ^ 32 → bs ≢ line w x y

pub none_read : (bs : List ℕ) → NoLine bs → ReadsCall bs None
none_read bs h (Step a b) n = h _ a b (inl refl) n.0 n.1
none_read bs h (Send a b) n = h _ a b (inr (inl refl)) n.0 n.1
none_read bs h (Raise a b) n = h _ a b (inr (inr (inl refl))) n.0 n.1
none_read bs h (Lower a b) n = h _ a b (inr (inr (inr refl))) n.0 n.1

pub not_utf8 : (bs : List ℕ) → (IsUtf8 bs → ⊥) → NoLine bs
not_utf8 bs h w x y i a b e = h (subst IsUtf8 (sym e) (IsUtf8-from_ascii _ (line_ascii w x y (λ k. (word_plain w i k).0) a b)))

pub text_none : {T E : Type 0} (r : Result T E) (P : T → Type 0) (Q : Type 0) (R : E → Type 0) → MatchResult r P (λ e. Q × R e) → result_ok r ≡ None → Q
text_none {T} (Ok x) P Q R h e = absurd (subst (λ (o : Option T). MatchOption o ⊥ (λ _. ⊤)) e tt)
text_none (Err x) P Q R h e = h.0

pub text_some : {E : Type 0} (r : Result (Bor (List ℕ)) E) (bs : List ℕ) (P : Type 0) (Q : E → Type 0) (x : Bor (List ℕ)) → MatchResult r (λ s. (s.now ≡ bs) × P) Q → Some x ≡ result_ok r → x.now ≡ bs
text_some (Ok y) bs P Q x h e = subst (λ (o : Option (Bor (List ℕ))). MatchOption o ⊤ (λ s. s.now ≡ bs)) (sym e) h.0
text_some (Err y) bs P Q x h e = absurd (subst (λ (o : Option (Bor (List ℕ))). MatchOption o ⊥ (λ _. ⊤)) e tt)

-- Nothing is read of a text that is the line of no call.
pub nothing_read : (bs line : List ℕ) (r : Option Call) → line ≡ bs → r ≡ None → NoLine line → ReadsCall bs r
nothing_read bs line r e n h = subst (ReadsCall bs) (sym n) (none_read bs (subst NoLine e h))

module _ (bs : List ℕ) (p : Bor (List ℕ) × Bor (List ℕ)) (cut : IsSplitOnceResult 32 bs (Some p)) where
  rest_is : (w : List ℕ) (x y : ℕ) → IsWord w → bs ≡ line w x y → (p.0.now ≡ w) × (p.1.now ≡ decimal x ++ (32 ∷ decimal y))
  rest_is w x y i e = split_after 32 bs w _ (Some p) cut (omega arith) e (λ k l. (word_plain w i k).1)

  pub one_blank : IsSplitOnceResult 32 p.1.now None → NoLine bs
  one_blank h w x y i a b e = split_after 32 p.1.now (decimal x) (decimal y) None h (omega arith) (rest_is w x y i e).1 (decimal_free x a)

  module _ (q : Bor (List ℕ) × Bor (List ℕ)) (again : IsSplitOnceResult 32 p.1.now (Some q)) where
    numbers_are : (w : List ℕ) (x y : ℕ) → IsWord w → x < 2 ^ 32 → bs ≡ line w x y → (q.0.now ≡ decimal x) × (q.1.now ≡ decimal y)
    numbers_are w x y i a e = split_after 32 p.1.now (decimal x) (decimal y) (Some q) again (omega arith) (rest_is w x y i e).1 (decimal_free x a)

    pub no_first : ReadsNumber q.0.now None → NoLine bs
    no_first h w x y i a b e = h x a (numbers_are w x y i a e).0

    pub no_second : ReadsNumber q.1.now None → NoLine bs
    no_second h w x y i a b e = h y b (numbers_are w x y i a e).1

    pub line_read : (w : List ℕ) (x y : ℕ) → p.0.now ≡ w → q.0.now ≡ decimal x → q.1.now ≡ decimal y → bs ≡ line w x y
    line_read w x y e f g =
        (split_parts 32 bs (Some p) cut (omega arith)).0 ∙ ap (λ (l : List ℕ). p.0.now ++ (32 ∷ l)) (split_parts 32 p.1.now (Some q) again (omega arith)).0
        ∙ (λ k. e k ++ (32 ∷ (f k ++ (32 ∷ g k))))
