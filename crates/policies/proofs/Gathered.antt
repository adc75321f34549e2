-- The lines of an assertion read one after the other are the definition's lines; at the first that is refused reading stops.
use Prim.Native.Nat.{ℕ}
use mathlib.Core.Path.{◌≡◌, refl}
use Rattle.plan.specs.declared.Kind.{Kind}
use Rattle.plan.specs.declared.Kind.TheVariants.{Secrecy}
use Rattle.field.specs.Fields.{number, template_number, kind, declass}
use Rattle.text.specs.Reading.{Cursor, stopped, line, assertion}

module _ (N : ℕ) (c₀ : Cursor) where
  abbrev Stops : ℕ → ℕ → Type 0
  Stops m k = (assertion N c₀).next ≡ stopped m k

  pub kind_stop : (m k : ℕ) → (line Secrecy "kind=" kind c₀).next ≡ stopped m k → Stops m k
  unfolding assertion line
  kind_stop m k h = rw h refl

  module _ (w : Kind) (c₁ : Cursor) (a₁ : line Secrecy "kind=" kind c₀ ≡ record { value = w; next = c₁ }) where
    pub source_stop : (m k : ℕ) → (line 0 "source=" (number 3 0 N) c₁).next ≡ stopped m k → Stops m k
    unfolding assertion line template_number
    source_stop m k h = rw (a₁, h) refl

    module _ (s : ℕ) (c₂ : Cursor) (a₂ : line 0 "source=" (number 3 0 N) c₁ ≡ record { value = s; next = c₂ }) where
      pub sink_stop : (m k : ℕ) → (line 0 "sink=" (number 3 0 N) c₂).next ≡ stopped m k → Stops m k
      unfolding assertion line template_number
      sink_stop m k h = rw (a₁, a₂, h) refl

      module _ (z : ℕ) (c₃ : Cursor) (a₃ : line 0 "sink=" (number 3 0 N) c₂ ≡ record { value = z; next = c₃ }) where
        pub anc_stop : (m k : ℕ) → (line 0 "anc=" (number 3 0 N) c₃).next ≡ stopped m k → Stops m k
        unfolding assertion line template_number
        anc_stop m k h = rw (a₁, a₂, a₃, h) refl

        module _ (a : ℕ) (c₄ : Cursor) (a₄ : line 0 "anc=" (number 3 0 N) c₃ ≡ record { value = a; next = c₄ }) where
          pub declass_stop : (m k : ℕ) → (line 0 "declass=" (declass N w s z) c₄).next ≡ stopped m k → Stops m k
          unfolding assertion line template_number
          declass_stop m k h = rw (a₁, a₂, a₃, a₄, h) refl

          pub assertion_read : (d : ℕ) (c₅ : Cursor) → line 0 "declass=" (declass N w s z) c₄ ≡ record { value = d; next = c₅ }
              → assertion N c₀ ≡ record { value = record { kind = w; source = s; sink = z; anc = a; declass = d }; next = c₅ }
          unfolding assertion template_number
          assertion_read d c₅ a₅ = rw (a₁, a₂, a₃, a₄, a₅) refl
