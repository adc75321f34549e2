-- The successors that the code hands back, as a list.
-- Not to be believed: a contract says that the list is `successors`, or the machine's `children`.
use Rattle.std.specs.Prelude.{List, [], ◌∷◌}
use Rattle.plan.specs.declared.UpToTwo.{UpToTwo, TheVariants.{None, One, Two}}

-- The list that the code's answer stands for.
abbrev pub listed : {A : Type 0} → UpToTwo A → List A
listed None = []
listed (One x) = x ∷ []
listed (Two x y) = x ∷ y ∷ []
