-- The readers of the plan and the policy are made of lines, one after the other, so they read a text that is cut before one of its
-- lines as Cut.antt says.
use Prim.Native.Nat.{ℕ, zero, suc, ◌-◌}
use mathlib.Core.Bool.{false}
use mathlib.Core.List.{List, [], ◌∷◌, ◌++◌}
use lib.ListN.{replicate}
use Rattle.plan.specs.declared.Form.TheVariants.{End}
use Rattle.plan.specs.declared.Kind.TheVariants.{Secrecy}
use Rattle.plan.specs.Plan.{blank, blank_assertion}
use Rattle.field.specs.Fields.{number, template_number, mask, name, form, risk, kind, declass}
use Rattle.text.specs.Reading.{entry, entries, plan, assertion, assertions, policy}
use Rattle.rules.proofs.Cut.{Follows, follows_none, follows_then, follows_line}

follows_entry : (N M : ℕ) (stood : List (List ℕ)) → Follows (entry N M stood)
unfolding entry
follows_entry N M stood =
    follows_then _ _ (follows_line [] "name=" (name stood)) (λ n.
    follows_then _ _ (follows_line End "form=" (form N)) (λ f.
    follows_then _ _ (follows_line 0 "lab=" (mask 8 M)) (λ l.
    follows_then _ _ (follows_line 0 "pos=" (mask 8 M)) (λ p.
    follows_then _ _ (follows_line 0 "neg=" (mask 8 M)) (λ g.
    follows_then _ _ (follows_line 0 "creates=" (mask 8 M)) (λ c.
    follows_then _ _ (follows_line false "risk=" risk) (λ r.
    follows_none (record { name = n; template = record { form = f; lab = l; pos = p; neg = g; creates = c; risk = r } }))))))))

follows_entries : (N M : ℕ) (stood : List (List ℕ)) (more : ℕ) → Follows (entries N M stood more)
unfolding entries
follows_entries N M stood zero = follows_none []
follows_entries N M stood (suc more) =
    follows_then _ _ (follows_entry N M stood) (λ e.
    follows_then _ _ (follows_entries N M (e.name ∷ stood) more) (λ rest.
    follows_none (e.template ∷ rest)))

pub follows_plan : Follows plan
unfolding plan
follows_plan =
    follows_then _ _ (follows_line 0 "templates=" (number 3 1 65)) (λ N.
    follows_then _ _ (follows_line 0 "identifiers=" (number 3 0 33)) (λ M.
    follows_then _ _ (follows_entries N M [] N) (λ ts.
    follows_none (record { count = N; identifiers = M; templates = ts ++ replicate (64 - N) blank }))))

follows_assertion : (N : ℕ) → Follows (assertion N)
unfolding assertion
follows_assertion N =
    follows_then _ _ (follows_line Secrecy "kind=" kind) (λ k.
    follows_then _ _ (follows_line 0 "source=" (template_number N)) (λ s.
    follows_then _ _ (follows_line 0 "sink=" (template_number N)) (λ z.
    follows_then _ _ (follows_line 0 "anc=" (template_number N)) (λ a.
    follows_then _ _ (follows_line 0 "declass=" (declass N k s z)) (λ d.
    follows_none (record { kind = k; source = s; sink = z; anc = a; declass = d }))))))

follows_assertions : (N more : ℕ) → Follows (assertions N more)
unfolding assertions
follows_assertions N zero = follows_none []
follows_assertions N (suc more) =
    follows_then _ _ (follows_assertion N) (λ a.
    follows_then _ _ (follows_assertions N more) (λ rest.
    follows_none (a ∷ rest)))

pub follows_policy : (N : ℕ) → Follows (policy N)
unfolding policy
follows_policy N =
    follows_then _ _ (follows_line 0 "assertions=" (number 3 0 33)) (λ K.
    follows_then _ _ (follows_assertions N K) (λ list.
    follows_none (record { count = K; assertions = list ++ replicate (32 - K) blank_assertion })))
