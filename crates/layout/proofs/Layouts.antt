-- A search over the layout of a plan is the search over the plan: a successor that is lacking stands as 64, which is no
-- place, so that nothing is entered there. With the searches go the targets, the forks and the successors of the source.
use Prim.Native.Nat.{ℕ, zero, suc, ◌<◌}
use mathlib.Core.Path.{◌≡◌, refl, sym, ap, ap₂, subst, ◌∙◌, fun_ext}
use mathlib.Core.Logic.{⊎_elim}
use mathlib.Core.Bool.{Bool, true, false, ◌&&◌}
use mathlib.Core.List.{List, [], ◌∷◌}
use lib.Bits.{bit_and}
use Rattle.lists.specs.Numbers.{any}
use Rattle.lists.specs.Joins.{both, either}
use Rattle.lists.proofs.Tests.{bool?, passes_fails}
use Rattle.lists.proofs.Every.{any_ext, any_of}
use Rattle.lists.proofs.Tabulate.{get_or-tabulate}
use Rattle.mask.specs.Mask.{has, plus}
use Rattle.mask.proofs.Items.{has_and, has_none, plus_cases}
use Rattle.plan.specs.declared.Form.{Form}
use Rattle.plan.specs.declared.Form.TheVariants.{End, Go, Either, Both}
use Rattle.plan.specs.declared.Plan.{Plan}
use Rattle.plan.specs.Plan.{at, successors}
use Rattle.route.specs.declared.Target.{Target}
use Rattle.route.specs.declared.Targets.{Targets}
use Rattle.route.specs.Search.{in_mask, if_so, collect, meet, enter_all, is_open, enter, reach, ways, targets, arrives, detours, crosses, branches_cross, on_branches, fork_crosses, leads, any_in}
use Rattle.route.specs.Lent.{laid_out}
use Rattle.layout.specs.Layout.{first_of, second_of, is_fork, firsts, seconds, forked}
use Rattle.route.proofs.Lent.{laid_form}
use Rattle.route.proofs.Sets.{collect_bar}
use Rattle.route.proofs.Searches.{open_low}

-- ---- lists with 64 for what is lacking

padded : (f : ℕ → ℕ → ℕ) → ((m : ℕ) → f m 64 ≡ m) → (form : Form) (m : ℕ)
    → enter_all f m (first_of form ∷ second_of form ∷ []) ≡ enter_all f m (successors form)
unfolding enter_all successors
padded f stops End m = stops (f m 64) ∙ stops m
padded f stops (Go Y) m = stops (f m Y)
padded f stops (Either Y Z) m = refl
padded f stops (Both Y Z) m = refl

padded_any : (test : ℕ → Bool) → test 64 ≡ false → (form : Form) → any_in test (first_of form ∷ second_of form ∷ []) ≡ any_in test (successors form)
unfolding any_in successors either
padded_any test stops End = ap₂ (λ (a b : Bool). either a (either b false)) stops stops
padded_any test stops (Go Y) = ap (λ (a : Bool). either (test Y) (either a false)) stops
padded_any test stops (Either Y Z) = refl
padded_any test stops (Both Y Z) = refl

padded_fork : (form : Form) (r : Bool) (test : ℕ → ℕ → Bool) → both (r && is_fork form) (test (first_of form) (second_of form)) ≡ both r (on_branches form test)
unfolding both successors
padded_fork End true test = refl
padded_fork End false test = refl
padded_fork (Go Y) true test = refl
padded_fork (Go Y) false test = refl
padded_fork (Either Y Z) true test = refl
padded_fork (Either Y Z) false test = refl
padded_fork (Both Y Z) true test = refl
padded_fork (Both Y Z) false test = refl

-- ---- the empty mask

both_never : (b : Bool) → both b false ≡ false
unfolding both
both_never true = refl
both_never false = refl

either_never : either false false ≡ false
unfolding either
either_never = refl

none_meets : (n : ℕ) → meet 0 n ≡ false
unfolding meet both
none_meets n = any_of 64 (λ X. both (has X 0) (has X n)) (λ X l. ap (λ (b : Bool). both b (has X n)) (has_none X))

-- ---- the searches

nowhere : (plan : Plan) (barred : ℕ → Bool) (depth seen : ℕ) → enter plan barred depth seen 64 ≡ seen
unfolding enter is_open both if_so
nowhere plan barred zero seen = refl
nowhere plan barred (suc depth) seen = refl

-- What a search reaches is a place.
abbrev Places : ℕ → Type 0
Places m = (Y : ℕ) → has Y m ≡ true → Y < 64

all_places : (f : ℕ → ℕ → ℕ) → ((seen X : ℕ) → Places seen → Places (f seen X)) → (list : List ℕ) (seen : ℕ) → Places seen → Places (enter_all f seen list)
unfolding enter_all
all_places f g [] seen p = p
all_places f g (Y ∷ rest) seen p = all_places f g rest (f seen Y) (g seen Y p)

enter_places : (plan : Plan) (barred : ℕ → Bool) (depth seen X : ℕ) → Places seen → Places (enter plan barred depth seen X)
unfolding enter if_so
enter_places plan barred zero seen X p = p
enter_places plan barred (suc depth) seen X p = go (enter_places plan barred depth) (is_open barred seen X) refl
  where
    go : ((seen X : ℕ) → Places seen → Places (enter plan barred depth seen X)) → (b : Bool) → is_open barred seen X ≡ b
        → Places (if_so b seen (λ _. enter_all (enter plan barred depth) (plus seen X) (successors (at plan X).form)))
    go ih true e =
        all_places (enter plan barred depth) ih (successors (at plan X).form) (plus seen X)
        (λ Y h. ⊎_elim (p Y) (λ q. subst (λ (Z : ℕ). Z < 64) (sym q) (open_low barred seen X e)) (plus_cases seen X Y h))
    go ih false e = p

reach_low : (plan : Plan) (barred : ℕ → Bool) (X : ℕ) → Places (reach plan barred X)
unfolding reach
reach_low plan barred X = enter_places plan barred 64 0 X (λ Y e. absurd (passes_fails (has Y 0) e (has_none Y)))

module _ (plan : Plan) where
  abbrev laid : Plan
  laid = laid_out (firsts plan) (seconds plan)

  laid_is : (X : ℕ) → X < 64 → (at laid X).form ≡ Both (first_of (at plan X).form) (second_of (at plan X).form)
  unfolding firsts seconds
  laid_is X l =
      laid_form (firsts plan) (seconds plan) X l
      ∙ ap₂ Both (get_or-tabulate 64 (λ X. first_of (at plan X).form) X 0 l) (get_or-tabulate 64 (λ X. second_of (at plan X).form) X 0 l)

  enter_laid : (barred : ℕ → Bool) (depth seen X : ℕ) → enter laid barred depth seen X ≡ enter plan barred depth seen X
  unfolding enter if_so successors
  enter_laid barred zero seen X = refl
  enter_laid barred (suc depth) seen X = go (fun_ext (λ s. fun_ext (λ Y. enter_laid barred depth s Y))) (is_open barred seen X) refl
    where
      go : enter laid barred depth ≡ enter plan barred depth → (b : Bool) → is_open barred seen X ≡ b
          → if_so b seen (λ _. enter_all (enter laid barred depth) (plus seen X) (successors (at laid X).form))
          ≡ if_so b seen (λ _. enter_all (enter plan barred depth) (plus seen X) (successors (at plan X).form))
      go ih true e =
          ap (λ (f : ℕ → ℕ → ℕ). enter_all f (plus seen X) (successors (at laid X).form)) ih
          ∙ ap (λ (form : Form). enter_all (enter plan barred depth) (plus seen X) (successors form)) (laid_is X (open_low barred seen X e))
          ∙ padded (enter plan barred depth) (nowhere plan barred depth) (at plan X).form (plus seen X)
      go ih false e = refl

  pub reach_laid : (barred : ℕ → Bool) (X : ℕ) → reach laid barred X ≡ reach plan barred X
  unfolding reach
  reach_laid barred X = enter_laid barred 64 0 X

  -- ---- what the searches find

  pub targets_laid : (barred via S K : ℕ) → targets 64 laid barred via S K ≡ targets 64 plan barred via S K
  unfolding targets ways
  targets_laid barred via S K =
      ap (λ (f : ℕ → ℕ). targets_by f) (fun_ext (λ W. reach_laid (in_mask barred) W))
    where
      targets_by : (ℕ → ℕ) → Targets
      targets_by f = record {
        source = record { place = S; ways = collect 64 (λ W. both (has W via) (has S (f W))) };
        sink = record { place = K; ways = collect 64 (λ W. both (has W via) (has K (f W))) };
      }

  branches_laid : (barred : ℕ) (to : Targets) (direct passing : Bool) (Y Z : ℕ)
      → branches_cross laid barred to direct passing Y Z ≡ branches_cross plan barred to direct passing Y Z
  unfolding branches_cross
  branches_laid barred to direct passing Y Z =
      ap₂ (λ (m n : ℕ). either (crosses to direct passing m n) (crosses to direct passing n m)) (reach_laid (in_mask barred) Y) (reach_laid (in_mask barred) Z)

  leads_laid : (barred : ℕ) (to : Target) (direct : Bool) (Y : ℕ) → leads laid barred to direct Y ≡ leads plan barred to direct Y
  unfolding leads
  leads_laid barred to direct Y = ap (λ (m : ℕ). either (both direct (arrives m to)) (detours m to)) (reach_laid (in_mask barred) Y)

  -- ---- the forks: of those reached, the templates that are a `both`

  module _ (barred : ℕ) (to : Targets) (root direct passing : ℕ) where
    fork_laid : (L : ℕ) → L < 64
        → fork_crosses laid barred to (record { reached = bit_and root (collect 64 (forked plan)); direct = direct; passing = passing }) L
        ≡ fork_crosses plan barred to (record { reached = root; direct = direct; passing = passing }) L
    unfolding fork_crosses forked
    fork_laid L l =
        ap₂ both (has_and L root (collect 64 (forked plan)) ∙ ap (λ (b : Bool). has L root && b) (collect_bar (forked plan) L l))
        (ap (λ (form : Form). on_branches form (branches_cross laid barred to (has L direct) (has L passing))) (laid_is L l)
        ∙ branches_laid barred to (has L direct) (has L passing) (first_of (at plan L).form) (second_of (at plan L).form))
        ∙ padded_fork (at plan L).form (has L root) (branches_cross plan barred to (has L direct) (has L passing))

    pub forks_laid : any 64 (fork_crosses laid barred to (record { reached = bit_and root (collect 64 (forked plan)); direct = direct; passing = passing }))
        ≡ any 64 (fork_crosses plan barred to (record { reached = root; direct = direct; passing = passing }))
    forks_laid = any_ext 64 _ _ fork_laid

  -- ---- the successors of the source, which is a place where the root reaches it

  leads_nowhere : (barred : ℕ) (to : Target) (direct : Bool) → leads plan barred to direct 64 ≡ false
  unfolding leads arrives detours reach
  leads_nowhere barred to direct =
      ap (λ (m : ℕ). either (both direct (has to.place m)) (meet m to.ways)) (nowhere plan (in_mask barred) 64 0)
      ∙ ap₂ either (ap (both direct) (has_none to.place) ∙ both_never direct) (none_meets to.ways) ∙ either_never

  module _ (barred : ℕ) (to : Target) (direct : Bool) (S : ℕ) where
    abbrev root : Bool
    root = has S (reach plan (in_mask 0) 0)

    abbrev down : Plan → Bool
    down p = any_in (leads p barred to direct) (successors (at p S).form)

    pub down_laid : (has S (reach plan (in_mask 0) 0) && down laid) ≡ (has S (reach plan (in_mask 0) 0) && down plan)
    unfolding successors
    down_laid = ⊎_elim
        (λ e. let l = reach_low plan (in_mask 0) 0 S e in
        ap (λ (b : Bool). root && b)
        (ap (λ (form : Form). any_in (leads laid barred to direct) (successors form)) (laid_is S l)
        ∙ ap (λ (test : ℕ → Bool). any_in test (first_of (at plan S).form ∷ second_of (at plan S).form ∷ [])) (fun_ext (leads_laid barred to direct))
        ∙ padded_any (leads plan barred to direct) (leads_nowhere barred to direct) (at plan S).form))
        (λ never. ap (λ (b : Bool). b && down laid) never ∙ sym (ap (λ (b : Bool). b && down plan) never))
        (bool? root)
