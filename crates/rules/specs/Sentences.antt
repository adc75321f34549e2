-- Rules 12 to 16 as document 01's sentences say them, between masks as sets of items below M.
-- Not to be believed: the law `rows_say` of proofs/Sentences.antt says that these are the rows of Judge.antt.
use Rattle.std.specs.Prelude.{ℕ, Bool, true, cond, List, [], ◌∷◌, eqb}
use Rattle.std.proofs.Math.Option.{Option, some, none}
use Rattle.std.specs.Int.Bits.{bit_and, bit_or}
use Rattle.mask.specs.Mask.{without}
use Rattle.mask.specs.Sets.{within}
use Rattle.plan.specs.declared.Template.{Template}
use Rattle.rules.specs.Judge.{Verdict, Accepted, Broken, Unread}

-- "Plus": the items of a and those of b.
abbrev pub union : ℕ → ℕ → ℕ
union a b = bit_or a b

-- "Share nothing": no item of both.
abbrev pub share_nothing : ℕ → ℕ → ℕ → Bool
share_nothing M a b = within M (bit_and a b) 0

-- 12: "lab Y within lab X plus pos Y". lab is lab X; a step asks the same of a process's label in its place.
abbrev pub sentence12 : ℕ → ℕ → Template → Template → Bool
sentence12 M lab X Y = within M Y.lab (union lab Y.pos)

-- 13: "lab X minus neg Y within lab Y".
abbrev pub sentence13 : ℕ → ℕ → Template → Template → Bool
sentence13 M lab X Y = within M (without lab Y.neg) Y.lab

-- 14: "pos Y within pos X plus creates Y".
abbrev pub sentence14 : ℕ → ℕ → Template → Template → Bool
sentence14 M lab X Y = within M Y.pos (union X.pos Y.creates)

-- 15: "neg Y within neg X plus creates Y".
abbrev pub sentence15 : ℕ → ℕ → Template → Template → Bool
sentence15 M lab X Y = within M Y.neg (union X.neg Y.creates)

-- 16: "creates Y and lab X share nothing".
abbrev pub sentence16 : ℕ → ℕ → Template → Template → Bool
sentence16 M lab X Y = share_nothing M Y.creates lab

-- The sentence of each number.
unfoldable pub sentence : ℕ → ℕ → ℕ → Template → Template → Bool
sentence number M lab X Y =
    cond (eqb number 12) (sentence12 M lab X Y)
    (cond (eqb number 13) (sentence13 M lab X Y)
    (cond (eqb number 14) (sentence14 M lab X Y)
    (cond (eqb number 15) (sentence15 M lab X Y)
    (cond (eqb number 16) (sentence16 M lab X Y) true))))

-- The first of these numbers whose sentence fails.
unfoldable pub first_failing : (ℕ → Bool) → List ℕ → Option ℕ
first_failing holds [] = none
first_failing holds (number ∷ rest) = cond (holds number) (first_failing holds rest) (some number)

-- The rule that a verdict names.
unfoldable pub rule_of : Verdict → Option ℕ
rule_of Accepted = none
rule_of (Broken b) = some b.rule
rule_of (Unread f) = none
