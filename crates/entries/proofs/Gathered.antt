-- The lines of a template read one after the other are the definition's lines; at the first that is refused reading stops.
use Prim.Native.Nat.{ℕ}
use mathlib.Core.Path.{◌≡◌, refl}
use mathlib.Core.Bool.{Bool, false}
use mathlib.Core.List.{List, []}
use Rattle.plan.specs.declared.Form.{Form}
use Rattle.plan.specs.declared.Form.TheVariants.{End}
use denote.Ref.{Bor}
use Rattle.std.specs.Prelude.{Result, Ok, Err}
use Rattle.scan.specs.Bytes.{bytes}
use Rattle.field.specs.declared.Refusal.{Refusal}
use Rattle.text.specs.declared.Refused.{Refused}
use Rattle.text.specs.Cursors.{stopped_at, opened, Answered, seen}
use Rattle.text.proofs.Opening.{seen_value, seen_stop}
use Rattle.field.specs.Fields.{mask, name, form, risk}
use Rattle.text.specs.Reading.{Cursor, stopped, line, entry}

-- The `name=` line, whose value is lent.
module _ (stood : List (List ℕ)) (c next : Cursor) (r : Result (Bor (List ℕ)) Refused) (Gave : List ℕ → Result (Bor (List ℕ)) Refusal → Type 0)
    (a : Answered Gave (opened (bytes "name=") c) next r) (h : (s : List ℕ) (x : Result (Bor (List ℕ)) Refusal) → Gave s x → seen (λ n. n.now) x ≡ name stood s) where
  pub name_value : (n : Bor (List ℕ)) → r ≡ Ok n → line [] "name=" (name stood) c ≡ record { value = n.now; next = next }
  name_value = seen_value (λ n. n.now) [] "name=" (name stood) c next r Gave a h

  pub name_refused : (e : Refused) → r ≡ Err e → (line [] "name=" (name stood) c).next ≡ stopped_at e
  name_refused = seen_stop (λ n. n.now) [] "name=" (name stood) c next r Gave a h

module _ (N M : ℕ) (stood : List (List ℕ)) (c₀ : Cursor) where
  abbrev Stops : ℕ → ℕ → Type 0
  Stops m k = (entry N M stood c₀).next ≡ stopped m k

  pub name_stop : (m k : ℕ) → (line [] "name=" (name stood) c₀).next ≡ stopped m k → Stops m k
  unfolding entry line
  name_stop m k h = rw h refl

  module _ (n : List ℕ) (c₁ : Cursor) (a₁ : line [] "name=" (name stood) c₀ ≡ record { value = n; next = c₁ }) where
    pub form_stop : (m k : ℕ) → (line End "form=" (form N) c₁).next ≡ stopped m k → Stops m k
    unfolding entry line
    form_stop m k h = rw (a₁, h) refl

    module _ (f : Form) (c₂ : Cursor) (a₂ : line End "form=" (form N) c₁ ≡ record { value = f; next = c₂ }) where
      pub lab_stop : (m k : ℕ) → (line 0 "lab=" (mask 8 M) c₂).next ≡ stopped m k → Stops m k
      unfolding entry line
      lab_stop m k h = rw (a₁, a₂, h) refl

      module _ (l : ℕ) (c₃ : Cursor) (a₃ : line 0 "lab=" (mask 8 M) c₂ ≡ record { value = l; next = c₃ }) where
        pub pos_stop : (m k : ℕ) → (line 0 "pos=" (mask 8 M) c₃).next ≡ stopped m k → Stops m k
        unfolding entry line
        pos_stop m k h = rw (a₁, a₂, a₃, h) refl

        module _ (p : ℕ) (c₄ : Cursor) (a₄ : line 0 "pos=" (mask 8 M) c₃ ≡ record { value = p; next = c₄ }) where
          pub neg_stop : (m k : ℕ) → (line 0 "neg=" (mask 8 M) c₄).next ≡ stopped m k → Stops m k
          unfolding entry line
          neg_stop m k h = rw (a₁, a₂, a₃, a₄, h) refl

          module _ (g : ℕ) (c₅ : Cursor) (a₅ : line 0 "neg=" (mask 8 M) c₄ ≡ record { value = g; next = c₅ }) where
            pub creates_stop : (m k : ℕ) → (line 0 "creates=" (mask 8 M) c₅).next ≡ stopped m k → Stops m k
            unfolding entry line
            creates_stop m k h = rw (a₁, a₂, a₃, a₄, a₅, h) refl

            module _ (c : ℕ) (c₆ : Cursor) (a₆ : line 0 "creates=" (mask 8 M) c₅ ≡ record { value = c; next = c₆ }) where
              pub risk_stop : (m k : ℕ) → (line false "risk=" risk c₆).next ≡ stopped m k → Stops m k
              unfolding entry line
              risk_stop m k h = rw (a₁, a₂, a₃, a₄, a₅, a₆, h) refl

              pub entry_read : (r : Bool) (c₇ : Cursor) → line false "risk=" risk c₆ ≡ record { value = r; next = c₇ }
                  → entry N M stood c₀ ≡ record { value = record { name = n; template = record { form = f; lab = l; pos = p; neg = g; creates = c; risk = r } }; next = c₇ }
              unfolding entry line
              entry_read r c₇ a₇ = rw (a₁, a₂, a₃, a₄, a₅, a₆, a₇) refl
