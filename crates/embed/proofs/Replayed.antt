-- What replay hands back, without its state.
use Prim.Native.Nat.{ℕ}
use mathlib.Core.Path.{◌≡◌, ap, ◌∙◌, subst}
use mathlib.Core.List.{List}
use Rattle.rules.specs.declared.Verdict.{Verdict}
use Rattle.rules.specs.Judge.{numbers_of}
use Rattle.machine.specs.declared.State.{State}
use Rattle.playback.specs.Playback.{Replays}
use Rattle.embed.specs.Embed.{ReplayedAll}

pub replayed_all : (plan_text policy_text words places : List ℕ) (v : Verdict) (n : ℕ) (s : State) (filled : List ℕ)
    → Replays plan_text policy_text words places v n s filled → (verdict : List ℕ) → verdict ≡ numbers_of v
    → ReplayedAll plan_text policy_text words places verdict n filled
replayed_all plan_text policy_text words places v n s filled w verdict e = record {
  judged = e ∙ ap numbers_of w.judged;
  replayed = (s, subst (λ (v : Verdict). Replays plan_text policy_text words places v n s filled) w.judged w);
}
