-- A plan laid out for searching, as the code lends it: the first successor of each template, the second one, what each
-- creates, and the forks. A successor that is lacking is 64, where no search enters.
-- Not to be believed: proofs/Layouts.antt says that searches over a layout are those over its plan.
use Rattle.std.specs.Prelude.{ℕ, Bool, true, false, List, get_or}
use Rattle.std.specs.Int.Bits.{bit_and}
use Rattle.lists.specs.Numbers.{tabulate}
use Rattle.mask.specs.Mask.{has}
use Rattle.plan.specs.declared.Form.{Form}
use Rattle.plan.specs.declared.Form.TheVariants.{End, Go, Either, Both}
use Rattle.plan.specs.declared.Plan.{Plan}
use Rattle.plan.specs.Plan.{at, successors}
use Rattle.route.specs.declared.Layout.{Layout}
use Rattle.route.specs.Search.{in_mask, collect, reach}

abbrev pub first_of : Form → ℕ
first_of form = get_or (successors form) 0 64

abbrev pub second_of : Form → ℕ
second_of form = get_or (successors form) 1 64

abbrev pub is_fork : Form → Bool
is_fork End = false
is_fork (Go Y) = false
is_fork (Either Y Z) = false
is_fork (Both Y Z) = true

unfoldable pub firsts : Plan → List ℕ
firsts plan = tabulate 64 (λ X. first_of (at plan X).form)

unfoldable pub seconds : Plan → List ℕ
seconds plan = tabulate 64 (λ X. second_of (at plan X).form)

unfoldable pub creations : Plan → List ℕ
creations plan = tabulate 64 (λ X. (at plan X).creates)

-- X creates identifier t, by the masks of what each template creates.
unfoldable pub made_by : List ℕ → ℕ → ℕ → Bool
made_by masks t X = has t (get_or masks X 0)

unfoldable pub forked : Plan → ℕ → Bool
forked plan X = is_fork (at plan X).form

unfoldable pub forks : Plan → ℕ
forks plan = bit_and (reach plan (in_mask 0) 0) (collect 64 (forked plan))

-- The layout, first with every `both` for a fork, then with those alone that the root reaches.
unfoldable pub all_forks : Plan → Layout
all_forks plan = record { first = firsts plan; second = seconds plan; creates = creations plan; forks = collect 64 (forked plan) }

unfoldable pub layout_of : Plan → Layout
layout_of plan = record { first = firsts plan; second = seconds plan; creates = creations plan; forks = forks plan }
