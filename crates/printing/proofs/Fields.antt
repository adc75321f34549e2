-- Each kind of field, written and read: one law a kind. What is written reads back, has no byte 10 and is short; what reads
-- was written so.
use Prim.Native.Nat.{ℕ, ◌^◌, ◌≤◌, ◌<◌}
use mathlib.Core.Path.{◌≡◌, refl, ap, ap₂, ◌∙◌, subst}
use mathlib.Core.List.{List, [], ◌∷◌}
use mathlib.Core.Bool.{Bool, true, false, ◌&&◌, false≢true}
use native.Mathlib.Omega.{arith}
use lib.ListN.{length}
use lib.Dec.{leb, ltb}
use borrow.Author.Tests.{leb-true, eq-eqb, le-leb, lt-ltb}
use Rattle.lists.specs.Numbers.{all}
use Rattle.lists.proofs.Tests.{and_left, and_right, and_three}
use Rattle.numerals.specs.Numerals.{spell, decimal_of}
use Rattle.plan.specs.declared.Kind.{Kind, TheVariants.{Secrecy, Prot}}
use Rattle.scan.specs.Bytes.{bytes, same, stands_in}
use Rattle.field.specs.Fields.{Field, is, bad, and_then, digits, decimal, number, template_number, mask, name_byte, name, risk, kind, misplaced, declass}
use Rattle.field.specs.Answers.{is_name}
use Rattle.field.proofs.Each.{each_is, each_bad, each_if, each_then, mask_read}
use Rattle.printing.specs.Printing.{mask_of, risk_of, kind_of}
use Rattle.numerals.proofs.Digits.{spell-length}
use Rattle.printing.proofs.Digits.{spell_back, spell_only}
use Rattle.printing.proofs.Bytes.{free, free_cons, free_spell, same_eq}
use Rattle.printing.proofs.Decimals.{decimal_back, decimal_short, decimal_free, decimal_only}

-- Values with P are written in at most so many bytes, and read back; only what is written reads.
pub record Law {A : Type 0} (P : A → Type 0) (most : ℕ) (read : List ℕ → Field A) (write : A → List ℕ) : Type 0 where
  pub back : (v : A) → P v → read (write v) ≡ is v
  pub plain : (v : A) → P v → free 10 (write v) ≡ true
  pub short : (v : A) → P v → length (write v) ≤ most
  pub only : (s : List ℕ) (v : A) → read s ≡ is v → s ≡ write v

-- ---- numbers

-- A number from low on and below the limit.
abbrev pub Between : ℕ → ℕ → ℕ → Type 0
Between low limit v = (low ≤ v) × (v < limit) × (v < 10000)

pub number_law : (refusal low limit : ℕ) → Law (Between low limit) 4 (number refusal low limit) decimal_of
unfolding number and_then
number_law refusal low limit =
    record {
      back = λ v h. rw (decimal_back v h.2, le-leb low v h.0, lt-ltb v limit h.1);
      plain = λ v h. decimal_free 10 v (omega arith);
      short = λ v h. decimal_short v h.2;
      only = λ s. each_then (λ v. s ≡ decimal_of v) (decimal s) _ (λ v e.
          each_if _ (leb low v && ltb v limit) (is v) (bad refusal) (λ q. each_is _ v (decimal_only s v e)) (λ q. each_bad _ refusal));
    }

-- A template's number.
pub template_law : (N : ℕ) → Law (Between 0 N) 4 (template_number N) decimal_of
unfolding template_number
template_law N = number_law 3 0 N

-- ---- masks

abbrev pub Masked : ℕ → ℕ → ℕ → Type 0
Masked width items m = (m < 2 ^ items) × (m < 16 ^ width)

pub mask_law : (width items : ℕ) → Law (Masked width items) width (mask width items) (mask_of width)
unfolding mask mask_of and_then
mask_law width items =
    record {
      back = λ m h.
          let read : digits 16 0 (spell 16 width m) ≡ is m = spell_back 16 (omega arith) (omega arith) width 0 m h.1 ∙ ap is (omega arith) in
          rw (eq-eqb (length (spell 16 width m)) width (spell-length 16 width m), read, lt-ltb m (2 ^ items) h.0);
      plain = λ m h. free_spell 10 16 width m (omega arith);
      short = λ m h. omega (arith, spell-length 16 width m);
      only = λ s m e.
          let r = mask_read width items s m e in
          let p = spell_only 16 (omega arith) (omega arith) s 0 m r.1 in
          p.3 ∙ ap₂ (λ (w n : ℕ). spell 16 w n) r.0 (omega (arith, p.2));
    }

abbrev pub Declassed : ℕ → Kind → ℕ → ℕ → ℕ → Type 0
Declassed N k source sink d = (Masked 16 N d) × (misplaced k source sink d ≡ false)

pub declass_law : (N : ℕ) (k : Kind) (source sink : ℕ) → Law (Declassed N k source sink) 16 (declass N k source sink) (mask_of 16)
unfolding declass and_then
declass_law N k source sink =
    let law = mask_law 16 N in
    record {
      back = λ d h. rw (law.back d h.0, h.1);
      plain = λ d h. law.plain d h.0;
      short = λ d h. law.short d h.0;
      only = λ s. each_then (λ d. s ≡ mask_of 16 d) (mask 16 N s) _ (λ d e.
          each_if _ (misplaced k source sink d) (bad 6) (is d) (λ q. each_bad _ 6) (λ q. each_is _ d (law.only s d e)));
    }

-- ---- names

abbrev pub Fresh : List (List ℕ) → List ℕ → Type 0
Fresh stood n = (is_name n ≡ true) × (stands_in n stood ≡ false)

named_free : (s : List ℕ) → all name_byte s ≡ true → free 10 s ≡ true
unfolding all name_byte
named_free [] h = refl
named_free (x ∷ s) h =
    free_cons 10 x s (λ e. let z : name_byte 10 ≡ true = subst (λ (y : ℕ). name_byte y ≡ true) e (and_left (name_byte x) (all name_byte s) h) in false≢true z)
    (named_free s (and_right (name_byte x) (all name_byte s) h))

pub name_law : (stood : List (List ℕ)) → Law (Fresh stood) 16 (name stood) (λ n. n)
unfolding name
name_law stood =
    record {
      back = λ n h. rw (h.0, h.1);
      plain = λ n h. named_free n (and_three (ltb 0 (length n)) (leb (length n) 16) (all name_byte n) h.0).2;
      short = λ n h. leb-true (length n) 16 (and_three (ltb 0 (length n)) (leb (length n) 16) (all name_byte n) h.0).1;
      only = λ s. each_if (λ n. s ≡ n) (is_name s) _ (bad 2)
          (λ q. each_if _ (stands_in s stood) (bad 5) (is s) (λ p. each_bad _ 5) (λ p. each_is _ s refl)) (λ q. each_bad _ 2);
    }

-- ---- words

pub risk_law : Law (λ (b : Bool). Unit) 1 risk risk_of
unfolding risk risk_of same
risk_law =
    record {
      back = λ b h. elim b as (λ x. risk (risk_of x) ≡ is x) [ true ↦ refl | false ↦ refl ];
      plain = λ b h. elim b as (λ x. free 10 (risk_of x) ≡ true) [ true ↦ refl | false ↦ refl ];
      short = λ b h. elim b as (λ x. length (risk_of x) ≤ 1) [ true ↦ omega arith | false ↦ omega arith ];
      only = λ s. each_if (λ b. s ≡ risk_of b) (same s (bytes "0")) (is false) _ (λ q. each_is _ false (same_eq s (bytes "0") q))
          (λ q. each_if _ (same s (bytes "1")) (is true) (bad 2) (λ p. each_is _ true (same_eq s (bytes "1") p)) (λ p. each_bad _ 2));
    }

pub kind_law : Law (λ (k : Kind). Unit) 7 kind kind_of
unfolding kind kind_of same
kind_law =
    record {
      back = λ k h. elim k as (λ x. kind (kind_of x) ≡ is x) [ Secrecy ↦ refl | Prot ↦ refl ];
      plain = λ k h. elim k as (λ x. free 10 (kind_of x) ≡ true) [ Secrecy ↦ refl | Prot ↦ refl ];
      short = λ k h. elim k as (λ x. length (kind_of x) ≤ 7) [ Secrecy ↦ omega arith | Prot ↦ omega arith ];
      only = λ s. each_if (λ k. s ≡ kind_of k) (same s (bytes "secrecy")) (is Secrecy) _ (λ q. each_is _ Secrecy (same_eq s (bytes "secrecy") q))
          (λ q. each_if _ (same s (bytes "prot")) (is Prot) (bad 2) (λ p. each_is _ Prot (same_eq s (bytes "prot") p)) (λ p. each_bad _ 2));
    }
